-- What an edit makes of the runs that were cut at its place.
use Rattle.std.proofs.Common.{◌≡◌, ℕ, ◌+◌, ◌-◌, ◌<◌, ◌≤◌, List, [], ◌∷◌, ◌++◌, length, map, take, drop, refl, sym, ap, ◌∙◌}
use Rattle.std.proofs.Common.{arith, suc, zero, get_or, set, inl, inr, insert, length-append}
use Rattle.cap_session.specs.Origins.{unmoved}
use Rattle.std.specs.List.{range_with_len}
use Rattle.std.specs.Prelude.{Some, replicate, slice_get}
use Rattle.std.specs.Prelude.{◌^◌, remove, Option, None, All}
use Rattle.std.proofs.lemmas.Bool.Decides.{eqb_tells}
use Rattle.std.proofs.lemmas.List.{take-append-drop, length-take-le, take_at, drop_at, append-nil}
use Rattle.cap_summary.specs.declared.kept_run.KeptRun.{KeptRun}
use Rattle.cap_session.specs.Limits.{most_lines}
use Rattle.cap_session.specs.Code.RunTable.{behind, stood, spread, was_end, at_end, apart_end, InOrder, IsCut, IsTable, up, down}
use Rattle.cap_session.specs.Code.RunTable.{without_first, joined}
use Rattle.cap_session.proofs.RunOrder.{was_end-append, at_end-append, order_lower, order_apart, apart_end-le, order_both}
use Rattle.cap_session.proofs.RunOrder.{order_up, order_down, was_end-up, was_end-down, at_end-up, at_end-down, ends_behind}
use Rattle.cap_session.proofs.RunSpread.{spread-append, length-spread, spread-up, spread-down, spread_new, spread_first}
use Rattle.cap_session.proofs.RunSpread.{order_without, no_gap}
use Rattle.cap_session.proofs.RunCuts.{begins_behind, within}
use Rattle.cap_session.proofs.RunJoins.{cut_joins, was_end-joined, at_end-joined, spread_joined}

-- ---- an edit of a list at the end of its first part

insert_between : {A : Type 0} (xs ys : List A) (i : ℕ) (y : A) → length xs ≡ i → insert (xs ++ ys) i y ≡ xs ++ (y ∷ ys)
insert_between xs ys i y long = rw (take_at xs ys i long, drop_at xs ys i long) refl

remove_between : {A : Type 0} (xs ys : List A) (i : ℕ) (y : A) → length xs ≡ i → remove (xs ++ (y ∷ ys)) i ≡ xs ++ ys
remove_between [] ys zero y long = refl
remove_between [] ys (suc i) y long = absurd (omega arith)
remove_between (x ∷ xs) ys zero y long = absurd (omega arith)
remove_between (x ∷ xs) ys (suc i) y long = ap (λ l. x ∷ l) (remove_between xs ys i y (omega arith))

set_between : {A : Type 0} (xs ys : List A) (i : ℕ) (y z : A) → length xs ≡ i
    → set (xs ++ (y ∷ ys)) i z ≡ xs ++ (z ∷ ys)
set_between [] ys zero y z long = refl
set_between [] ys (suc i) y z long = absurd (omega arith)
set_between (x ∷ xs) ys zero y z long = absurd (omega arith)
set_between (x ∷ xs) ys (suc i) y z long = ap (λ l. x ∷ l) (set_between xs ys i y z (omega arith))

-- ---- the ends of the later runs

at_end-up_le : (a count : ℕ) (runs : List KeptRun) → a ≤ count → at_end a runs ≤ count
    → at_end a (map up runs) ≤ count + 1
unfolding at_end
at_end-up_le a count [] le all = omega arith
at_end-up_le a count (run ∷ runs) le all =
    let more = at_end-up (run.at + run.len) runs in
    let next : run.at + 1 + run.len ≡ run.at + run.len + 1 = omega arith in
    omega (arith, ap (λ n. at_end n (map up runs)) next, more, all)

-- where runs end, if they come after fewer lines
was_end-le : (a b : ℕ) (runs : List KeptRun) → a ≤ b → was_end a runs ≤ was_end b runs
unfolding was_end
was_end-le a b [] le = le
was_end-le a b (run ∷ runs) le = omega arith

at_end-bound : (a b count : ℕ) (runs : List KeptRun) → a ≤ count → at_end b runs ≤ count → at_end a runs ≤ count
unfolding at_end
at_end-bound a b count [] le all = le
at_end-bound a b count (run ∷ runs) le all = all

was_end-without : (was at : ℕ) (runs : List KeptRun) → InOrder was at 0 runs
    → was_end was (without_first at runs) ≤ was_end was runs
unfolding was_end InOrder
was_end-without was at [] order = omega arith
was_end-without was at (run ∷ runs) order = elim (eqb_tells run.at at) [
  | inl same ↦ rw same.0 (elim (eqb_tells run.len 1) [
    | inl one ↦ rw one.0 (was_end-le was (run.was + run.len) runs (omega (arith, order.0)))
    | inr more ↦
        let end : run.was + 1 + (run.len - 1) ≡ run.was + run.len = omega (arith, order.3) in
        rw more.0 (omega (arith, ap (λ n. was_end n runs) end))
  ])
  | inr other ↦ rw other.0 (omega arith)
]

at_end-without : (was at : ℕ) (runs : List KeptRun) → InOrder was at 0 runs → (a count : ℕ) → a ≤ count
    → at_end at runs ≤ count → at_end a (without_first at runs) ≤ count
unfolding at_end InOrder
at_end-without was at [] order a count le all = le
at_end-without was at (run ∷ runs) order a count le all = elim (eqb_tells run.at at) [
  | inl same ↦ rw same.0 (elim (eqb_tells run.len 1) [
    | inl one ↦ rw one.0 (at_end-bound a (run.at + run.len) count runs le all)
    | inr more ↦
        let end : run.at + 1 + (run.len - 1) ≡ run.at + run.len = omega (arith, order.3) in
        rw more.0 (omega (arith, ap (λ n. at_end n runs) end, all))
  ])
  | inr other ↦ rw other.0 all
]

-- ---- what an edit makes

-- The runs are a table, and mean this.
pub record Stand (count : ℕ) (origins : List (Option ℕ)) (runs : List KeptRun) : Type 0 where
  pub table : IsTable count runs
  pub stands : spread 0 runs count ≡ origins

-- runs that were cut at a place
module _ (at index count : ℕ) (old cut : List KeptRun) (table : IsTable count old) (is : IsCut at cut index)
    (stood : (end : ℕ) → spread 0 cut end ≡ spread 0 old end) (was_same : was_end 0 cut ≡ was_end 0 old)
    (at_same : at_end 0 cut ≡ at_end 0 old) where
  abbrev front : List KeptRun
  front = take index cut

  abbrev back : List KeptRun
  back = drop index cut

  abbrev w : ℕ
  w = was_end 0 front

  abbrev a : ℕ
  a = at_end 0 front

  was_is : was_end w back ≡ was_end 0 old
  was_is = sym (was_end-append 0 front back) ∙ ap (was_end 0) (take-append-drop index cut) ∙ was_same

  at_is : at_end a back ≡ at_end 0 old
  at_is = sym (at_end-append 0 front back) ∙ ap (at_end 0) (take-append-drop index cut) ∙ at_same

  -- the runs from the place on end within the lines
  back_within : at ≤ count → at_end at back ≤ count
  back_within le = at_end-bound at a count back le (omega (arith, at_is, table.within_now))

  parts : at ≤ count → spread 0 old count ≡ spread 0 front at ++ spread at back count
  parts le = sym (stood count) ∙ ap (λ l. spread 0 l count) (sym (take-append-drop index cut))
      ∙ spread-append 0 0 0 at count w 0 front back is.front is.before le is.back

  long : length (spread 0 front at) ≡ at
  long = length-spread 0 0 0 at front is.front is.before ∙ omega arith

  apart_le : apart_end 0 front ≤ w + a + 1
  apart_le = apart_end-le 0 0 0 front (omega arith)

  pub inserts : at ≤ count → count < most_lines
      → Stand (count + 1) (insert (spread 0 old count) at None) (front ++ map up back)
  inserts le few =
      let later : InOrder w (at + 1) (w + at + 1) (map up back) =
      order_up w at (w + at) back (order_apart w at back is.back) in
      record {
        table = record {
          order = order_both 0 0 0 front (map up back) is.front
              (order_lower w (at + 1) (w + at + 1) w a (apart_end 0 front) (map up back) (omega arith)
              (omega (arith, is.before)) (omega (arith, is.before, apart_le)) later);
          within_then = omega (arith, was_end-append 0 front (map up back), was_end-up w back, was_is, table.within_then);
          within_now = omega (
            arith,
            at_end-append 0 front (map up back),
            at_end-up_le a count back (omega (arith, is.before, le)) (omega (arith, at_is, table.within_now)),
          );
          few = omega (arith, few);
        };
        stands = spread-append 0 0 0 at (count + 1) w (w + at + 1) front (map up back) is.front is.before
            (omega (arith, le))
            (order_lower w (at + 1) (w + at + 1) w at (w + at + 1) (map up back) (omega arith) (omega arith) (omega arith)
            later)
            ∙ ap (λ l. spread 0 front at ++ l) (spread_new at (count + 1) w (w + at + 1) (map up back) (omega (arith, le))
            later
            ∙ ap (λ l. None ∷ l) (spread-up at count back))
            ∙ sym (ap (λ l. insert l at None) (parts le)
            ∙ insert_between (spread 0 front at) (spread at back count) at None long);
      }

  abbrev rest : List KeptRun
  rest = without_first at back

  later : InOrder w (at + 1) 0 rest
  later = order_without w at back is.back

  rest_was : was_end w rest ≤ most_lines
  rest_was = omega (arith, was_end-without w at back is.back, was_is, table.within_then)

  rest_at : (n : ℕ) → at ≤ count → n ≤ count → at_end n rest ≤ count
  rest_at n le low = at_end-without w at back is.back n count low (back_within le)

  first : (lt : at < count) → (line : Option ℕ) × (spread at back count ≡ line ∷ spread (at + 1) rest count)
  first lt = spread_first w at count back lt is.back (back_within (omega (arith, lt)))

  pub replaces : at < count → Stand count (set (spread 0 old count) at None) (front ++ rest)
  replaces lt =
      let le : at ≤ count = omega (arith, lt) in
      let (line, line_is) = first lt in
      record {
        table = record {
          order = order_both 0 0 0 front rest is.front
              (order_lower w (at + 1) (w + (at + 1)) w a (apart_end 0 front) rest (omega arith)
              (omega (arith, is.before)) (omega (arith, is.before, apart_le)) (order_apart w (at + 1) rest later));
          within_then = omega (arith, was_end-append 0 front rest, rest_was);
          within_now = omega (arith, at_end-append 0 front rest, rest_at a le (omega (arith, is.before, lt)));
          few = table.few;
        };
        stands = spread-append 0 0 0 at count w 0 front rest is.front is.before le
            (order_lower w (at + 1) 0 w at 0 rest (omega arith) (omega arith) (omega arith) later)
            ∙ ap (λ l. spread 0 front at ++ l) (spread_new at count w 0 rest lt later)
            ∙ sym (ap (λ l. set l at None) (parts le ∙ ap (λ l. spread 0 front at ++ l) line_is)
            ∙ set_between (spread 0 front at) (spread (at + 1) rest count) at line None long);
      }

  -- the runs behind the place, as the code has them
  pub rest_from : drop index (front ++ rest) ≡ rest
  rest_from = drop_at front rest index (length-take-le index cut is.within)

  pub moves_down : take index (front ++ rest) ++ map down (drop index (front ++ rest)) ≡ front ++ map down rest
  moves_down = rw (rest_from, take_at front rest index (length-take-le index cut is.within)) refl

  -- the later runs move down
  abbrev lower : List KeptRun
  lower = map down rest

  lower_order : InOrder w at 0 lower
  lower_order = order_down w at 0 rest
      (order_lower w (at + 1) (w + (at + 1)) w (at + 1) (0 + 1) rest (omega arith) (omega arith) (omega arith)
      (order_apart w (at + 1) rest later))

  pub begin_behind : (i : ℕ) (d : KeptRun) → i < length rest → 0 < (get_or rest i d).at
  begin_behind i d lt = omega (arith, begins_behind w (at + 1) 0 rest later i d lt)

  index_is : length front ≡ index
  index_is = length-take-le index cut is.within

  lower_front : take index (front ++ lower) ≡ front
  lower_front = take_at front lower index index_is

  lower_back : drop index (front ++ lower) ≡ lower
  lower_back = drop_at front lower index index_is

  pub lower_cut : IsCut (at_end 0 (take index (front ++ lower))) (front ++ lower) index
  lower_cut = rw lower_front (record {
    within = omega (arith, length-append front lower, index_is);
    front = rw lower_front is.front;
    back = rw (lower_front, lower_back)
        (order_lower w at 0 w a 0 lower (omega arith) is.before (omega arith) lower_order);
    before = rw lower_front (omega arith);
  })

  lower_was : was_end 0 (front ++ lower) ≤ most_lines
  lower_was = omega (arith, was_end-append 0 front lower, was_end-down w rest, rest_was)

  lower_at : at < count → at_end 0 (front ++ lower) ≤ count - 1
  lower_at lt =
      let one = at_end-down w at 0 rest later in
      let most = rest_at (at + 1) (omega (arith, lt)) (omega (arith, lt)) in
      omega (
        arith,
        at_end-append 0 front lower,
        one,
        most,
        lt,
        at_end-bound a at (count - 1) lower (omega (arith, is.before, lt)) (omega (arith, one, most)),
      )

  pub lower_within_then : was_end 0 (front ++ lower) ≤ most_lines
  lower_within_then = lower_was

  pub lower_within_now : at < count → at_end 0 (front ++ lower) ≤ most_lines
  lower_within_now lt = omega (arith, lower_at lt, table.few)

  pub removes : at < count
      → Stand (count - 1) (remove (spread 0 old count) at) (joined index (front ++ lower))
  removes lt =
      let le : at ≤ count = omega (arith, lt) in
      let (line, line_is) = first lt in
      record {
        table = record {
          order = cut_joins index (front ++ lower) lower_cut;
          within_then = omega (arith, was_end-joined index 0 (front ++ lower), lower_was);
          within_now = omega (arith, at_end-joined index 0 (front ++ lower), lower_at lt);
          few = omega (arith, table.few);
        };
        stands = spread_joined index 0 (count - 1) (front ++ lower)
            ∙ spread-append 0 0 0 at (count - 1) w 0 front lower is.front is.before (omega (arith, lt)) lower_order
            ∙ ap (λ l. spread 0 front at ++ l) (spread-down w at 0 count rest later)
            ∙ sym (ap (λ l. remove l at) (parts le ∙ ap (λ l. spread 0 front at ++ l) line_is)
            ∙ remove_between (spread 0 front at) (spread (at + 1) rest count) at line long);
      }

-- how many lines runs tell of
pub count_is : (count : ℕ) (runs : List KeptRun) → IsTable count runs → length (spread 0 runs count) ≡ count
count_is count runs table = length-spread 0 0 0 count runs table.order table.within_now ∙ omega arith

-- runs are small
pub small_back : (at index count : ℕ) (runs : List KeptRun) → IsCut at runs index → was_end 0 runs ≤ count
    → at_end 0 runs ≤ count → count ≤ most_lines → All (λ run. run.at < 2 ^ 32) (drop index runs)
small_back at index count runs is was now few i d lt =
    let front = take index runs in
    let back = drop index runs in
    let whole = take-append-drop index runs in
    let was_is = sym (was_end-append 0 front back) ∙ ap (was_end 0) whole in
    let at_is = sym (at_end-append 0 front back) ∙ ap (at_end 0) whole in
    let order = order_lower (was_end 0 front) at 0 (was_end 0 front) (at_end 0 front) 0 back (omega arith) is.before
    (omega arith) is.back in
    let bounds = within (was_end 0 front) (at_end 0 front) 0 count count back order (omega (arith, was, was_is))
    (omega (arith, now, at_is)) i d lt in
    omega (arith, bounds.at, few)

-- the runs of a trace that was not edited
pub no_lines : IsTable 0 []
unfolding InOrder was_end at_end
no_lines = record { order = tt; within_then = omega arith; within_now = omega arith; few = omega arith }

pub all_lines : (count : ℕ) → 0 < count → count ≤ most_lines
    → Stand count (unmoved count) (record { was = 0; at = 0; len = count } ∷ [])
unfolding InOrder was_end at_end spread
all_lines count some few = record {
  table = record {
    order = (omega arith, omega arith, omega arith, some, tt);
    within_then = omega (arith, few);
    within_now = omega arith;
    few = few;
  };
  stands = ap (λ l. unmoved count ++ l) (no_gap None count (0 + count) (omega arith)) ∙ append-nil (unmoved count);
}

-- where the first run has all lines, and they stood first, they stand where they stood
pub first_has_all : (count : ℕ) (runs : List KeptRun) (run : KeptRun) → IsTable count runs → slice_get runs 0 ≡ Some run
    → run.was ≡ 0 → run.len ≡ count → spread 0 runs count ≡ unmoved count
unfolding InOrder was_end at_end spread
first_has_all count [] run table is was full = absurd (cc)
first_has_all count (x ∷ []) run table is was full =
    let same : x ≡ run = cc in
    let end = table.within_now in
    let x_was : x.was ≡ 0 = ap (λ (r : KeptRun). r.was) same ∙ was in
    let x_len : x.len ≡ count = ap (λ (r : KeptRun). r.len) same ∙ full in
    ap (λ l. l ++ (stood x ++ replicate (count - (x.at + x.len)) None)) (no_gap None x.at 0 (omega (arith, end, x_len)))
    ∙ ap (λ l. stood x ++ l) (no_gap None count (x.at + x.len) (omega (arith, x_len)))
    ∙ append-nil (stood x)
    ∙ ap (λ n. map Some (range_with_len (n + 1) x.len)) x_was ∙ ap (λ n. map Some (range_with_len (0 + 1) n)) x_len
first_has_all count (x ∷ y ∷ runs) run table is was full =
    let same : x ≡ run = cc in
    let x_len : x.len ≡ count = ap (λ (r : KeptRun). r.len) same ∙ full in
    let beyond = ends_behind (y.was + y.len) (y.at + y.len) (behind y) runs table.order.4.4 in
    absurd (omega (arith, table.within_now, beyond.1, table.order.4.1, table.order.4.3, x_len))

pub no_runs : (runs : List KeptRun) (count : ℕ) → slice_get runs 0 ≡ None → count ≡ 0 → spread 0 runs count ≡ unmoved 0
unfolding spread
no_runs [] count is none = rw none refl
no_runs (x ∷ runs) count is none = absurd (cc)
