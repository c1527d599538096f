-- Runs that are cut at a place.
use Rattle.std.proofs.Common.{◌≡◌, ℕ, ◌+◌, ◌-◌, ◌<◌, ◌≤◌, List, [], ◌∷◌, ◌++◌, length, map, take, drop, refl, sym, ap, ◌∙◌}
use Rattle.std.proofs.Common.{arith, suc, zero, subst, get_or, append_assoc, set, add-one, drop-cons}
use Rattle.std.specs.Prelude.{Option, Some, None, insert, remove, replicate}
use Rattle.std.proofs.lemmas.Bool.{eq-eqb, ne_eqb}
use Rattle.cap_session.specs.Code.RunTable.{short, without_first}
use Rattle.std.specs.List.{range_with_len, AllWithin}
use Rattle.std.proofs.lemmas.List.{map-append, take-append-drop, take-set, drop-set, get_or_default, length-drop}
use Rattle.cap_summary.specs.declared.kept_run.KeptRun.{KeptRun}
use Rattle.cap_session.specs.Code.RunTable.{stood, spread, was_end, at_end, apart_end, behind, InOrder, IsCut, split, front_of, back_of}
use Rattle.cap_session.proofs.RunOrder.{order_lower, ends_behind, order_front, order_back, was_end-append, at_end-append}
use Rattle.cap_session.proofs.RunSpread.{range_split, no_gap}

-- each run has a line, and ends where the last ends at the latest
pub record Within (most count : ℕ) (run : KeptRun) : Type 0 where
  pub was : run.was + run.len ≤ most
  pub at : run.at + run.len ≤ count
  pub some : 0 < run.len

pub within : (was at apart most count : ℕ) (runs : List KeptRun) → InOrder was at apart runs → was_end was runs ≤ most
    → at_end at runs ≤ count → (i : ℕ) (d : KeptRun) → i < length runs → Within most count (get_or runs i d)
unfolding InOrder was_end at_end
within was at apart most count [] order w a i d lt = absurd (omega arith)
within was at apart most count (run ∷ runs) order w a zero d lt =
    let more = ends_behind (run.was + run.len) (run.at + run.len) (behind run) runs order.4 in
    record { was = omega (arith, more.0); at = omega (arith, more.1); some = order.3 }
within was at apart most count (run ∷ runs) order w a (suc i) d lt =
    within (run.was + run.len) (run.at + run.len) (behind run) most count runs order.4 w a i d (omega arith)

-- no run begins before the lines that they come after
pub begins_behind : (was at apart : ℕ) (runs : List KeptRun) → InOrder was at apart runs → (i : ℕ) (d : KeptRun)
    → i < length runs → at ≤ (get_or runs i d).at
unfolding InOrder
begins_behind was at apart [] order i d lt = absurd (omega arith)
begins_behind was at apart (run ∷ runs) order zero d lt = order.1
begins_behind was at apart (run ∷ runs) order (suc i) d lt =
    let more = begins_behind (run.was + run.len) (run.at + run.len) (behind run) runs order.4 i d (omega arith) in
    omega (arith, more, order.1)

-- a run ends before the later ones end
pub ends_rise : (was at apart : ℕ) (runs : List KeptRun) → InOrder was at apart runs → (i j : ℕ) (d : KeptRun) → i ≤ j
    → j < length runs → (get_or runs i d).at + (get_or runs i d).len ≤ (get_or runs j d).at + (get_or runs j d).len
unfolding InOrder
ends_rise was at apart [] order i j d le lt = absurd (omega arith)
ends_rise was at apart (run ∷ runs) order zero zero d le lt = omega arith
ends_rise was at apart (run ∷ runs) order zero (suc j) d le lt =
    let low = begins_behind (run.was + run.len) (run.at + run.len) (behind run) runs order.4 j d (omega arith) in
    omega (arith, low)
ends_rise was at apart (run ∷ runs) order (suc i) zero d le lt = absurd (omega arith)
ends_rise was at apart (run ∷ runs) order (suc i) (suc j) d le lt =
    ends_rise (run.was + run.len) (run.at + run.len) (behind run) runs order.4 i j d (omega arith) (omega arith)

-- where each of the first runs ends at a place at the latest, so do they all
pub ends_within : (at p : ℕ) (runs : List KeptRun) (i : ℕ) → at ≤ p
    → ((k : ℕ) (d : KeptRun) → k < i → k < length runs → (get_or runs k d).at + (get_or runs k d).len ≤ p)
    → at_end at (take i runs) ≤ p
unfolding at_end
ends_within at p [] zero le each = le
ends_within at p [] (suc i) le each = le
ends_within at p (run ∷ runs) zero le each = le
ends_within at p (run ∷ runs) (suc i) le each =
    ends_within (run.at + run.len) p runs i (each 0 run (omega arith) (omega arith))
    (λ k d lt in_range. each (suc k) d (omega arith) (omega arith))

-- runs of which the first begins at a place or behind it
pub order_from : (was at apart p : ℕ) (runs : List KeptRun) → InOrder was at apart runs
    → ((d : KeptRun) → 0 < length runs → p ≤ (get_or runs 0 d).at) → InOrder was p 0 runs
unfolding InOrder
order_from was at apart p [] order low = tt
order_from was at apart p (run ∷ runs) order low =
    (order.0, low run (omega arith), omega arith, order.3, order.4)

-- ---- a run that is cut

pub split_is : (i at : ℕ) (runs : List KeptRun) (run : KeptRun) → i < length runs → get_or runs i run ≡ run
    → insert (set runs i (front_of at run)) (i + 1) (back_of at run) ≡ split i at runs
unfolding split
split_is i at [] run lt is = absurd (omega arith)
split_is zero at (first ∷ runs) run lt is = rw is refl
split_is (suc i) at (first ∷ runs) run lt is =
    let more = split_is i at runs run (omega arith) is in
    rw add-one (ap (λ l. first ∷ l) (rw add-one at more))

-- The runs before a place, and those from there on.
pub record Cut (was at apart p : ℕ) (runs : List KeptRun) (i : ℕ) : Type 0 where
  pub front : InOrder was at apart (take i runs)
  pub back : InOrder (was_end was (take i runs)) p 0 (drop i runs)
  pub before : at_end at (take i runs) ≤ p

pub split_cuts : (was at apart p : ℕ) (runs : List KeptRun) (i : ℕ) (d : KeptRun) → InOrder was at apart runs
    → i < length runs → (get_or runs i d).at < p → p < (get_or runs i d).at + (get_or runs i d).len
    → Cut was at apart p (split i p runs) (suc i)
unfolding split InOrder was_end at_end
split_cuts was at apart p [] i d order lt low high = absurd (omega arith)
split_cuts was at apart p (run ∷ runs) zero d order lt low high = record {
  front = (order.0, order.1, order.2, omega arith, tt);
  back = (
    omega arith,
    omega arith,
    omega arith,
    omega arith,
    order_lower (run.was + run.len) (run.at + run.len) (behind run) (run.was + (p - run.at) + (run.len - (p - run.at)))
        (p + (run.len - (p - run.at))) (behind (back_of p run)) runs (omega arith) (omega arith) (omega arith) order.4,
  );
  before = omega arith;
}
split_cuts was at apart p (run ∷ runs) (suc i) d order lt low high =
    let more = split_cuts (run.was + run.len) (run.at + run.len) (behind run) p runs i d order.4 (omega arith) low
    high in
    record { front = (order.0, order.1, order.2, order.3, more.front); back = more.back; before = more.before }

pub was_end-split : (was p : ℕ) (runs : List KeptRun) (i : ℕ) (d : KeptRun) → i < length runs
    → (get_or runs i d).at < p → p < (get_or runs i d).at + (get_or runs i d).len
    → was_end was (split i p runs) ≡ was_end was runs
unfolding split was_end
was_end-split was p [] i d lt low high = absurd (omega arith)
was_end-split was p (run ∷ runs) zero d lt low high = ap (λ n. was_end n runs) (omega arith)
was_end-split was p (run ∷ runs) (suc i) d lt low high =
    was_end-split (run.was + run.len) p runs i d (omega arith) low high

pub at_end-split : (at p : ℕ) (runs : List KeptRun) (i : ℕ) (d : KeptRun) → i < length runs
    → (get_or runs i d).at < p → p < (get_or runs i d).at + (get_or runs i d).len
    → at_end at (split i p runs) ≡ at_end at runs
unfolding split at_end
at_end-split at p [] i d lt low high = absurd (omega arith)
at_end-split at p (run ∷ runs) zero d lt low high =
    let same : p + (run.len - (p - run.at)) ≡ run.at + run.len = omega arith in
    ap (λ n. at_end n runs) same
at_end-split at p (run ∷ runs) (suc i) d lt low high =
    at_end-split (run.at + run.len) p runs i d (omega arith) low high

pub spread-split : (a p end : ℕ) (runs : List KeptRun) (i : ℕ) (d : KeptRun) → i < length runs
    → (get_or runs i d).at < p → p < (get_or runs i d).at + (get_or runs i d).len
    → spread a (split i p runs) end ≡ spread a runs end
unfolding split spread
spread-split a p end [] i d lt low high = absurd (omega arith)
spread-split a p end (run ∷ runs) zero d lt low high =
    let k : ℕ = p - run.at in
    let n : ℕ = run.len - k in
    let rest : List (Option ℕ) = spread (run.at + run.len) runs end in
    let whole : run.len ≡ k + n = omega arith in
    let begin_is : run.was + 1 + k ≡ run.was + k + 1 = omega arith in
    let end_is : p + n ≡ run.at + run.len = omega arith in
    let two : stood run ≡ stood (front_of p run) ++ stood (back_of p run) =
    ap (λ m. map Some (range_with_len (run.was + 1) m)) whole
    ∙ ap (map Some) (range_split (run.was + 1) k n)
    ∙ map-append Some (range_with_len (run.was + 1) k) (range_with_len (run.was + 1 + k) n)
    ∙ ap (λ m. stood (front_of p run) ++ map Some (range_with_len m n)) begin_is in
    ap (λ l. replicate (run.at - a) None ++ l)
    (ap (λ l. stood (front_of p run) ++ (l ++ (stood (back_of p run) ++ spread (p + n) runs end)))
    (no_gap None p (run.at + k) (omega arith))
    ∙ ap (λ m. stood (front_of p run) ++ (stood (back_of p run) ++ spread m runs end)) end_is
    ∙ sym (append_assoc (stood (front_of p run)) (stood (back_of p run)) rest)
    ∙ ap (λ l. l ++ rest) (sym two))
spread-split a p end (run ∷ runs) (suc i) d lt low high =
    ap (λ l. replicate (run.at - a) None ++ (stood run ++ l))
    (spread-split (run.at + run.len) p end runs i d (omega arith) low high)

-- ---- the first line of the runs from an index on

module _ (at i : ℕ) (runs : List KeptRun) (run : KeptRun) (lt : i < length runs) (is : run ≡ get_or runs i run) where
  add_one : i + 1 ≡ suc i
  add_one = omega arith

  from_here : drop i runs ≡ run ∷ drop (suc i) runs
  from_here = drop-cons runs i run lt ∙ ap (λ x. x ∷ drop (suc i) runs) (sym is)

  pub first_stays : (run.at ≡ at → ⊥) → runs ≡ take i runs ++ without_first at (drop i runs)
  first_stays other =
      sym (take-append-drop i runs)
      ∙ ap (λ l. take i runs ++ l) (from_here ∙ rw (from_here, ne_eqb run.at at other) refl)

  pub first_goes : run.at ≡ at → run.len ≡ 1 → remove runs i ≡ take i runs ++ without_first at (drop i runs)
  first_goes same one = ap (λ l. take i runs ++ l)
      (rw (from_here, eq-eqb run.at at same, eq-eqb run.len 1 one) refl)

  pub first_shortens : run.at ≡ at → (run.len ≡ 1 → ⊥)
      → set runs i (short run) ≡ take i runs ++ without_first at (drop i runs)
  first_shortens same more =
      sym (take-append-drop i (set runs i (short run)))
      ∙ ap (λ l. l ++ drop i (set runs i (short run))) (take-set runs i (short run))
      ∙ ap (λ l. take i runs ++ l)
      (drop-set runs i (short run) lt
      ∙ ap (λ n. short run ∷ drop n runs) add_one
      ∙ rw (from_here, eq-eqb run.at at same, ne_eqb run.len 1 more) refl)

-- ---- a run in the middle

abbrev end_of : KeptRun → ℕ
end_of run = run.at + run.len

-- where it ends at a place at the latest, so do those before it
pub before_middle : (p middle : ℕ) (runs : List KeptRun) (run : KeptRun) → InOrder 0 0 0 runs → middle < length runs
    → end_of (get_or runs middle run) ≤ p → AllWithin (λ r. r.at + r.len ≤ p) runs 0 (middle + 1)
before_middle p middle runs run order lt le k d low below =
    let rise = ends_rise 0 0 0 runs order k middle run (omega arith) lt in
    let within_list : k < length runs = omega arith in
    let same = ap end_of (get_or_default runs k d run within_list) in
    omega (arith, rise, le, same)

-- where it ends behind a place, so do those after it
pub behind_middle : (p middle : ℕ) (runs : List KeptRun) (run : KeptRun) → InOrder 0 0 0 runs
    → p < end_of (get_or runs middle run) → AllWithin (λ r. p < r.at + r.len) runs middle (length runs)
behind_middle p middle runs run order lt k d low below =
    let rise = ends_rise 0 0 0 runs order middle k run low below in
    let same = ap end_of (get_or_default runs k d run below) in
    omega (arith, rise, lt, same)

-- ---- the index of a cut

first_dropped : (i : ℕ) (runs : List KeptRun) (d : KeptRun) → get_or (drop i runs) 0 d ≡ get_or runs i d
first_dropped zero [] d = refl
first_dropped (suc i) [] d = refl
first_dropped zero (run ∷ runs) d = refl
first_dropped (suc i) (run ∷ runs) d = first_dropped i runs d

lt_of : (i : ℕ) (runs : List KeptRun) → 0 < length (drop i runs) → i < length runs
lt_of i runs some = omega (arith, length-drop i runs)

pub cut_here : (p index : ℕ) (runs : List KeptRun) → InOrder 0 0 0 runs → index ≤ length runs
    → AllWithin (λ r. r.at + r.len ≤ p) runs 0 index
    → ((d : KeptRun) → index < length runs → p ≤ (get_or runs index d).at) → IsCut p runs index
cut_here p index runs order within_list before low =
    let whole = take-append-drop index runs in
    let parts = subst (λ l. InOrder 0 0 0 l) (sym whole) order in
    record {
      within = within_list;
      front = order_front 0 0 0 (take index runs) (drop index runs) parts;
      back = order_from (was_end 0 (take index runs)) (at_end 0 (take index runs)) (apart_end 0 (take index runs)) p
          (drop index runs) (order_back 0 0 0 (take index runs) (drop index runs) parts)
          (λ d some. subst (λ (r : KeptRun). p ≤ r.at) (sym (first_dropped index runs d)) (low d (lt_of index runs some)));
      before = ends_within 0 p runs index (omega arith) (λ k d lt in_range. before k d (omega arith) lt);
    }

length-split : (i p : ℕ) (runs : List KeptRun) → i < length runs → length (split i p runs) ≡ length runs + 1
unfolding split
length-split i p [] lt = absurd (omega arith)
length-split zero p (run ∷ runs) lt = omega arith
length-split (suc i) p (run ∷ runs) lt = omega (arith, length-split i p runs (omega arith))

pub cut_split : (p index : ℕ) (runs : List KeptRun) (run : KeptRun) → InOrder 0 0 0 runs → index < length runs
    → run ≡ get_or runs index run → run.at < p → p < run.at + run.len → IsCut p (split index p runs) (index + 1)
cut_split p index runs run order lt is low high =
    let cuts = split_cuts 0 0 0 p runs index run order lt (subst (λ (r : KeptRun). r.at < p) is low)
    (subst (λ (r : KeptRun). p < r.at + r.len) is high) in
    rw add-one (record {
      within = omega (arith, length-split index p runs lt);
      front = cuts.front;
      back = cuts.back;
      before = cuts.before;
    })

-- the run at the index of a cut
pub cut_within : (p index most count : ℕ) (runs : List KeptRun) (run : KeptRun) → IsCut p runs index → index < length runs
    → was_end 0 runs ≤ most → at_end 0 runs ≤ count → run ≡ get_or runs index run → Within most count run
cut_within p index most count runs run cut lt w a is =
    let front = take index runs in
    let back = drop index runs in
    let whole = take-append-drop index runs in
    let was : was_end (was_end 0 front) back ≡ was_end 0 runs =
    sym (was_end-append 0 front back) ∙ ap (was_end 0) whole in
    let at : at_end (at_end 0 front) back ≡ at_end 0 runs =
    sym (at_end-append 0 front back) ∙ ap (at_end 0) whole in
    let first : get_or back 0 run ≡ run = first_dropped index runs run ∙ sym is in
    let order = order_lower (was_end 0 front) p 0 (was_end 0 front) (at_end 0 front) 0 back (omega arith) cut.before
    (omega arith) cut.back in
    subst (Within most count) first
    (within (was_end 0 front) (at_end 0 front) 0 most count back order (omega (arith, w, was)) (omega (arith, a, at)) 0
    run (omega (arith, length-drop index runs)))

-- The runs after a run was cut: they mean the same.
pub record Splits (p index : ℕ) (runs cut : List KeptRun) : Type 0 where
  pub parts : IsCut p cut (index + 1)
  pub stood : (end : ℕ) → spread 0 cut end ≡ spread 0 runs end
  pub was : was_end 0 cut ≡ was_end 0 runs
  pub at : at_end 0 cut ≡ at_end 0 runs

pub splits : (p index : ℕ) (runs cut : List KeptRun) (run : KeptRun) → InOrder 0 0 0 runs → index < length runs
    → run ≡ get_or runs index run → run.at < p → p < run.at + run.len
    → cut ≡ insert (set runs index (front_of p run)) (index + 1) (back_of p run) → Splits p index runs cut
splits p index runs cut run order lt is low high made =
    let same : cut ≡ split index p runs = made ∙ split_is index p runs run lt (sym is) in
    let begins = subst (λ (r : KeptRun). r.at < p) is low in
    let ends = subst (λ (r : KeptRun). p < r.at + r.len) is high in
    rw same (record {
      parts = cut_split p index runs run order lt is low high;
      stood = λ end. spread-split 0 p end runs index run lt begins ends;
      was = was_end-split 0 p runs index run lt begins ends;
      at = at_end-split 0 p runs index run lt begins ends;
    })
