-- Where lines stood, by their runs: in two parts, with a line put in, taken out or made new; and how many runs they make.
use Rattle.std.proofs.Common.{◌≡◌, ℕ, ◌+◌, ◌-◌, ◌<◌, ◌≤◌, List, [], ◌∷◌, ◌++◌, length, map, refl, sym, ap, ◌∙◌}
use Rattle.std.proofs.Common.{arith, suc, zero, subst, false, inl, inr, append_assoc, length-append}
use Rattle.std.specs.Prelude.{◌⊎◌, replicate, Option, Some, None}
use Rattle.std.specs.List.{range_with_len}
use Rattle.std.proofs.lemmas.List.{replicate-append-replicate, length-replicate, map-append}
use Rattle.std.proofs.lemmas.List.FromFn.{length-map-range_with_len}
use Rattle.cap_summary.specs.declared.kept_run.KeptRun.{KeptRun}
use Rattle.cap_session.specs.Origins.{stood_behind, runs_after}
use Rattle.cap_session.specs.Code.RunTable.{stood, spread, at_end, behind, InOrder, up, down, short, without_first}
use Rattle.std.proofs.lemmas.Bool.Decides.{eqb_tells}
use Rattle.std.proofs.lemmas.Bool.{eq-eqb, ne_eqb}
use Rattle.std.proofs.Math.Nat.{eq-or-lt_of_le}
use Rattle.cap_session.specs.Code.RunTable.{joined_first, both}
use Rattle.cap_session.proofs.RunOrder.{ends_behind, order_lower}

-- ---- lines that are new

pub replicate_split : {A : Type 0} (x : A) (a p end : ℕ) → a ≤ p → p ≤ end
    → replicate (end - a) x ≡ replicate (p - a) x ++ replicate (end - p) x
replicate_split x a p end low high =
    ap (λ n. replicate n x) (omega arith) ∙ sym (replicate-append-replicate (p - a) (end - p) x)

pub replicate_one : {A : Type 0} (x : A) (a b : ℕ) → a < b → replicate (b - a) x ≡ x ∷ replicate (b - (a + 1)) x
replicate_one x a b lt =
    let n : b - a ≡ suc (b - (a + 1)) = omega arith in
    ap (λ n. replicate n x) n

-- ---- numbers in a row

pub range_split : (a m n : ℕ) → range_with_len a (m + n) ≡ range_with_len a m ++ range_with_len (a + m) n
range_split a zero n =
    let none : 0 + n ≡ n = omega arith in
    let here : a ≡ a + 0 = omega arith in
    ap (λ k. range_with_len a k) none ∙ ap (λ i. range_with_len i n) here
range_split a (suc m) n =
    let more : suc m + n ≡ suc (m + n) = omega arith in
    let next : a + 1 + m ≡ a + suc m = omega arith in
    ap (λ k. range_with_len a k) more
    ∙ ap (λ l. a ∷ l) (range_split (a + 1) m n ∙ ap (λ i. range_with_len (a + 1) m ++ range_with_len i n) next)

-- ---- lines in two parts

-- no line of a run is before this one
BeginFrom : ℕ → List KeptRun → Type 0
BeginFrom p runs = (was apart : ℕ) → InOrder was p apart runs

pub spread_beyond : (a p end : ℕ) (was apart : ℕ) (runs : List KeptRun) → a ≤ p → p ≤ end → InOrder was p apart runs
    → spread a runs end ≡ replicate (p - a) None ++ spread p runs end
unfolding spread InOrder
spread_beyond a p end was apart [] low high order = replicate_split None a p end low high
spread_beyond a p end was apart (run ∷ runs) low high order =
    let at : p ≤ run.at = order.1 in
    ap (λ l. l ++ (stood run ++ spread (run.at + run.len) runs end)) (replicate_split None a p run.at low at)
    ∙ append_assoc (replicate (p - a) None) (replicate (run.at - p) None) (stood run ++ spread (run.at + run.len) runs end)

pub spread-append : (was a apart p end : ℕ) (was' apart' : ℕ) (front back : List KeptRun) → InOrder was a apart front
    → at_end a front ≤ p → p ≤ end → InOrder was' p apart' back
    → spread a (front ++ back) end ≡ spread a front p ++ spread p back end
unfolding spread InOrder at_end
spread-append was a apart p end was' apart' [] back order le high beyond =
    spread_beyond a p end was' apart' back le high beyond
spread-append was a apart p end was' apart' (run ∷ front) back order le high beyond =
    let more = spread-append (run.was + run.len) (run.at + run.len) (behind run) p end was' apart' front back order.4 le
    high beyond in
    ap (λ l. replicate (run.at - a) None ++ (stood run ++ l)) more
    ∙ ap (λ l. replicate (run.at - a) None ++ l)
    (sym (append_assoc (stood run) (spread (run.at + run.len) front p) (spread p back end)))
    ∙ sym (append_assoc (replicate (run.at - a) None) (stood run ++ spread (run.at + run.len) front p)
    (spread p back end))

pub length-stood : (run : KeptRun) → length (stood run) ≡ run.len
length-stood run = length-map-range_with_len Some (run.was + 1) run.len

pub length-spread : (was a apart end : ℕ) (runs : List KeptRun) → InOrder was a apart runs → at_end a runs ≤ end
    → length (spread a runs end) ≡ end - a
unfolding spread InOrder at_end
length-spread was a apart end [] order le = length-replicate (end - a) None
length-spread was a apart end (run ∷ runs) order le =
    let more = length-spread (run.was + run.len) (run.at + run.len) (behind run) end runs order.4 le in
    let beyond = ends_behind (run.was + run.len) (run.at + run.len) (behind run) runs order.4 in
    let none : Option ℕ = None in
    omega (
      arith,
      length-append (replicate (run.at - a) None) (stood run ++ spread (run.at + run.len) runs end),
      length-append (stood run) (spread (run.at + run.len) runs end),
      length-replicate (run.at - a) none,
      length-stood run,
      more,
      beyond.1,
      order.1,
    )

-- ---- runs that begin one line later, and one line earlier

pub spread-up : (a end : ℕ) (runs : List KeptRun) → spread (a + 1) (map up runs) (end + 1) ≡ spread a runs end
unfolding spread
spread-up a end [] = ap (λ n. replicate n None) (omega arith)
spread-up a end (run ∷ runs) =
    let gap : run.at + 1 - (a + 1) ≡ run.at - a = omega arith in
    let next : run.at + 1 + run.len ≡ run.at + run.len + 1 = omega arith in
    ap (λ n. replicate n None ++ (stood run ++ spread (run.at + 1 + run.len) (map up runs) (end + 1))) gap
    ∙ ap (λ n. replicate (run.at - a) None ++ (stood run ++ spread n (map up runs) (end + 1))) next
    ∙ ap (λ l. replicate (run.at - a) None ++ (stood run ++ l)) (spread-up (run.at + run.len) end runs)

pub spread-down : (was a apart end : ℕ) (runs : List KeptRun) → InOrder was (a + 1) apart runs
    → spread a (map down runs) (end - 1) ≡ spread (a + 1) runs end
unfolding spread InOrder
spread-down was a apart end [] order = ap (λ n. replicate n None) (omega arith)
spread-down was a apart end (run ∷ runs) order =
    let gap : run.at - 1 - a ≡ run.at - (a + 1) = omega arith in
    let next : run.at - 1 + run.len + 1 ≡ run.at + run.len = omega (arith, order.1) in
    ap (λ n. replicate n None ++ (stood run ++ spread (run.at - 1 + run.len) (map down runs) (end - 1))) gap
    ∙ ap (λ l. replicate (run.at - (a + 1)) None ++ (stood run ++ l))
    (spread-down (run.was + run.len) (run.at - 1 + run.len) (behind run) end runs
    (subst (λ n. InOrder (run.was + run.len) n (behind run) runs) (sym next) order.4))
    ∙ ap (λ n. replicate (run.at - (a + 1)) None ++ (stood run ++ spread n runs end)) next

-- ---- a line

-- the first line is new, where the runs begin behind it
pub spread_new : (a end was apart : ℕ) (runs : List KeptRun) → a < end → InOrder was (a + 1) apart runs
    → spread a runs end ≡ None ∷ spread (a + 1) runs end
unfolding spread InOrder
spread_new a end was apart [] lt order = replicate_one None a end lt
spread_new a end was apart (run ∷ runs) lt order =
    let at : a < run.at = omega (arith, order.1) in
    ap (λ l. l ++ (stood run ++ spread (run.at + run.len) runs end)) (replicate_one None a run.at at)

-- the lines of a run, from its first
pub stood_first : (run : KeptRun) → 0 < run.len → stood run ≡ Some (run.was + 1) ∷ stood (short run)
stood_first run some =
    let n : run.len ≡ suc (run.len - 1) = omega arith in
    ap (λ k. map Some (range_with_len (run.was + 1) k)) n

pub order_without : (was at : ℕ) (runs : List KeptRun) → InOrder was at 0 runs
    → InOrder was (at + 1) 0 (without_first at runs)
unfolding InOrder
order_without was at [] order = tt
order_without was at (run ∷ runs) order = elim (eqb_tells run.at at) [
  | inl same ↦ rw same.0 (elim (eqb_tells run.len 1) [
    | inl one ↦ rw one.0 (order_lower (run.was + run.len) (run.at + run.len) (behind run) was (at + 1) 0 runs
        (omega (arith, order.0)) (omega (arith, same.1, one.1)) (omega arith) order.4)
    | inr more ↦ rw more.0 (
      omega (arith, order.0),
      omega (arith, same.1),
      omega arith,
      omega (arith, order.3, more.1),
      order_lower (run.was + run.len) (run.at + run.len) (behind run) (run.was + 1 + (run.len - 1))
          (run.at + 1 + (run.len - 1)) (behind (short run)) runs (omega (arith, order.3)) (omega (arith, order.3))
          (omega (arith, order.3)) order.4,
    )
  ])
  | inr other ↦ rw other.0 (order.0, omega (arith, order.1, other.1), omega arith, order.3, order.4)
]

-- nothing lies between lines that meet
pub no_gap : {A : Type 0} (x : A) (a b : ℕ) → a ≤ b → replicate (a - b) x ≡ []
no_gap x a b le =
    let n : a - b ≡ 0 = omega arith in
    ap (λ k. replicate k x) n

stood_single : (run : KeptRun) → run.len ≡ 1 → stood run ≡ Some (run.was + 1) ∷ []
stood_single run one = ap (λ k. map Some (range_with_len (run.was + 1) k)) one

-- the first line is new, or that of the first run, which is then without it
pub spread_first : (was at end : ℕ) (runs : List KeptRun) → at < end → InOrder was at 0 runs → at_end at runs ≤ end
    → (line : Option ℕ) × (spread at runs end ≡ line ∷ spread (at + 1) (without_first at runs) end)
unfolding spread InOrder
spread_first was at end [] lt order le = (None, replicate_one None at end lt)
spread_first was at end (run ∷ runs) lt order le = elim (eqb_tells run.at at) [
  | inl same ↦ rw same.0 (
    Some (run.was + 1),
    elim (eqb_tells run.len 1) [
      | inl one ↦
          let next : run.at + run.len ≡ at + 1 = omega (arith, same.1, one.1) in
          rw one.0 (ap (λ l. l ++ (stood run ++ spread (run.at + run.len) runs end))
          (no_gap None run.at at (omega (arith, same.1)))
          ∙ ap (λ l. l ++ spread (run.at + run.len) runs end) (stood_single run one.1)
          ∙ ap (λ n. Some (run.was + 1) ∷ spread n runs end) next)
      | inr more ↦
          let next : run.at + run.len ≡ run.at + 1 + (run.len - 1) = omega (arith, order.3) in
          let others : List (Option ℕ) = stood (short run) ++ spread (run.at + 1 + (run.len - 1)) runs end in
          rw more.0 (ap (λ l. l ++ (stood run ++ spread (run.at + run.len) runs end))
          (no_gap None run.at at (omega (arith, same.1)))
          ∙ ap (λ l. l ++ spread (run.at + run.len) runs end) (stood_first run order.3)
          ∙ ap (λ n. Some (run.was + 1) ∷ (stood (short run) ++ spread n runs end)) next
          ∙ ap (λ l. Some (run.was + 1) ∷ (l ++ others))
          (sym (no_gap None (run.at + 1) (at + 1) (omega (arith, same.1)))))
    ],
  )
  | inr other ↦
      let beyond : at < run.at = omega (arith, order.1, other.1) in
      rw other.0 (
        None,
        ap (λ l. l ++ (stood run ++ spread (run.at + run.len) runs end)) (replicate_one None at run.at beyond),
      )
]

-- ---- runs that are joined

pub order_joined_first : (was at apart : ℕ) (run : KeptRun) (runs : List KeptRun)
    → InOrder was at apart (run ∷ []) → InOrder (run.was + run.len) (run.at + run.len) 0 runs
    → InOrder was at apart (joined_first run runs)
unfolding InOrder joined_first
order_joined_first was at apart run [] first order = first
order_joined_first w a apart run (next ∷ runs) first order =
    elim (eqb_tells (run.was + run.len) next.was) [
      | inl was ↦ rw was.0 (elim (eqb_tells (run.at + run.len) next.at) [
        | inl at ↦ rw at.0 (
          first.0,
          first.1,
          first.2,
          omega (arith, first.3),
          order_lower (next.was + next.len) (next.at + next.len) (behind next) (run.was + (run.len + next.len))
              (run.at + (run.len + next.len)) (behind (both run next)) runs (omega (arith, was.1))
              (omega (arith, at.1)) (omega (arith, was.1, at.1)) order.4,
        )
        | inr other ↦ rw other.0 (
          first.0,
          first.1,
          first.2,
          first.3,
          (order.0, order.1, omega (arith, order.0, order.1, other.1), order.3, order.4),
        )
      ])
      | inr other ↦ rw other.0 (
        first.0,
        first.1,
        first.2,
        first.3,
        (order.0, order.1, omega (arith, order.0, order.1, other.1), order.3, order.4),
      )
    ]

pub spread_joined_first : (a end : ℕ) (run : KeptRun) (runs : List KeptRun)
    → spread a (joined_first run runs) end ≡ spread a (run ∷ runs) end
unfolding spread joined_first
spread_joined_first a end run [] = refl
spread_joined_first a end run (next ∷ runs) =
    let rest : List (Option ℕ) = spread (next.at + next.len) runs end in
    elim (eqb_tells (run.was + run.len) next.was) [
      | inl was ↦ rw was.0 (elim (eqb_tells (run.at + run.len) next.at) [
        | inl at ↦
            let end_is : run.at + (run.len + next.len) ≡ next.at + next.len = omega (arith, at.1) in
            let begin_is : run.was + 1 + run.len ≡ next.was + 1 = omega (arith, was.1) in
            let one : stood (both run next) ≡ stood run ++ stood next =
            ap (map Some) (range_split (run.was + 1) run.len next.len)
            ∙ map-append Some (range_with_len (run.was + 1) run.len) (range_with_len (run.was + 1 + run.len) next.len)
            ∙ ap (λ i. stood run ++ map Some (range_with_len i next.len)) begin_is in
            rw at.0 (ap (λ l. replicate (run.at - a) None ++ l)
            (ap (λ n. stood (both run next) ++ spread n runs end) end_is
            ∙ ap (λ l. l ++ rest) one
            ∙ append_assoc (stood run) (stood next) rest
            ∙ ap (λ l. stood run ++ (l ++ (stood next ++ rest)))
            (sym (no_gap None next.at (run.at + run.len) (omega (arith, at.1))))))
        | inr other ↦ rw other.0 refl
      ])
      | inr other ↦ rw other.0 refl
    ]

-- ---- how many runs there are

pub runs_after-new : (before : Option ℕ) (n : ℕ) (rest : List (Option ℕ))
    → runs_after before (replicate (suc n) None ++ rest) ≡ runs_after None rest
unfolding runs_after
runs_after-new before zero rest = refl
runs_after-new before (suc n) rest = runs_after-new None n rest

runs_after-more : (was n : ℕ) (rest : List (Option ℕ))
    → runs_after (Some was) (map Some (range_with_len (was + 1) n) ++ rest) ≡ runs_after (Some (was + n)) rest
unfolding runs_after
runs_after-more was zero rest = ap (λ i. runs_after (Some i) rest) (omega arith)
runs_after-more was (suc n) rest =
    let same = eq-eqb (was + 1) (was + 1) refl in
    let end : was + 1 + n ≡ was + suc n = omega arith in
    rw same (omega (arith, runs_after-more (was + 1) n rest, ap (λ i. runs_after (Some i) rest) end))

pub runs_after-run : (before : Option ℕ) (run : KeptRun) (rest : List (Option ℕ)) → 0 < run.len
    → stood_behind before (run.was + 1) ≡ false
    → runs_after before (stood run ++ rest) ≡ 1 + runs_after (Some (run.was + run.len)) rest
unfolding runs_after
runs_after-run before run rest some apart =
    let first : stood run ++ rest ≡ Some (run.was + 1) ∷ (stood (short run) ++ rest) =
    ap (λ l. l ++ rest) (stood_first run some) in
    let end : run.was + 1 + (run.len - 1) ≡ run.was + run.len = omega (arith, some) in
    let more = runs_after-more (run.was + 1) (run.len - 1) rest in
    ap (runs_after before) first ∙ rw apart (omega (arith, more, ap (λ i. runs_after (Some i) rest) end))

count_of_new : (before : Option ℕ) (n : ℕ) → runs_after before (replicate n None) ≡ 0
unfolding runs_after
count_of_new before zero = refl
count_of_new before (suc n) = count_of_new None n

-- a run that meets lines in which it doesn't go on
not_behind : (was a apart : ℕ) (before : Option ℕ) (run : KeptRun) → a ≡ run.at → apart ≤ run.was + run.at
    → (before ≡ None) ⊎ ((before ≡ Some was) × (was + a < apart)) → stood_behind before (run.was + 1) ≡ false
not_behind was a apart before run meets low (inl none) = rw none refl
not_behind was a apart before run meets low (inr some) =
    rw some.0 (ne_eqb (run.was + 1) (was + 1) (λ same. omega (arith, same, meets, low, some.1)))

pub count_of_runs : (was a apart end : ℕ) (before : Option ℕ) (runs : List KeptRun) → InOrder was a apart runs
    → at_end a runs ≤ end → (before ≡ None) ⊎ ((before ≡ Some was) × (was + a < apart))
    → runs_after before (spread a runs end) ≡ length runs
unfolding spread InOrder runs_after at_end
count_of_runs was a apart end before [] order le known = count_of_new before (end - a)
count_of_runs was a apart end before (run ∷ runs) order le known =
    let rest : List (Option ℕ) = spread (run.at + run.len) runs end in
    let more : runs_after (Some (run.was + run.len)) rest ≡ length runs =
    count_of_runs (run.was + run.len) (run.at + run.len) (behind run) end (Some (run.was + run.len)) runs order.4 le
    (inr (refl, omega arith)) in
    elim (eq-or-lt_of_le order.1) [
      | inl meets ↦
          ap (λ l. runs_after before (l ++ (stood run ++ rest))) (no_gap None run.at a (omega (arith, meets)))
          ∙ runs_after-run before run rest order.3 (not_behind was a apart before run meets order.2 known)
          ∙ omega (arith, more)
      | inr gap ↦
          let n : run.at - a ≡ suc (run.at - (a + 1)) = omega (arith, gap) in
          ap (λ k. runs_after before (replicate k None ++ (stood run ++ rest))) n
          ∙ runs_after-new before (run.at - (a + 1)) (stood run ++ rest)
          ∙ runs_after-run None run rest order.3 refl
          ∙ omega (arith, more)
    ]
