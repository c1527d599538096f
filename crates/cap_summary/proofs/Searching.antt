-- Places that are found by halving, and runs of steps that two lists share.
use Rattle.std.specs.Prelude.{All, List, drop, get_or, length, refl, take, ℕ, ◌++◌, ◌+◌, ◌-◌, ◌<◌, ◌≡◌, ◌≤◌}
use Rattle.cap_summary.specs.{Found, KeptRuns.steps_of, State, Step, check, ended, found_at, later, map, said}
use Rattle.std.specs.Prelude.{[], ◌∷◌}
use Rattle.cap_machine.proofs.Positions.{positions_within}
use Rattle.cap_summary.proofs.{Resolving.later-at, Uniting.drop_here, ends_in_turn, take_all}
use Rattle.std.proofs.lemmas.List.{get_or-map}
use Rattle.cap_summary.specs.{Again.IsPlaced, Again.new_steps, Rc, declared.again.Again.Again, values}
use Rattle.cap_summary.proofs.{checks_in_turn, length-take-le}
use Rattle.std.proofs.lemmas.List.Elements.{All-map}
use Rattle.cap_machine.specs.declared.verdict.Finding.TheVariants.{Refusal}
use Rattle.cap_summary.proofs.{ap, arith, cases_lt, inl, inr, length-append, sym, take-append-drop, ◌∙◌}
use Rattle.std.proofs.lemmas.List.{
  length-take,
  drop-drop,
  drop-take,
  get_or-append_right,
  get_or_append_left,
  take-take,
}

-- where the findings at most so many steps in end
pub counted_to : (steps low : ℕ) (all front back : List Found) → all ≡ front ++ back → low ≤ length all
    → All (λ (x : Found). x.at ≤ steps) front → All (λ (x : Found). steps < x.at) back
    → ((d : Found) → 0 < low → (get_or all (low - 1) d).at ≤ steps)
    → ((d : Found) → low < length all → steps < (get_or all low d).at) → low ≡ length front
counted_to steps low all front back is within below above before beyond = elim (cases_lt low (length front)) [
  | inl short ↦
      let here = rw (is, get_or_append_left front back d low short) at (beyond d (omega (arith, short, long))) in
      absurd (omega (arith, here, below low d short))
  | inr reaches ↦ elim (cases_lt (length front) low) [
    | inl more ↦
        let here = rw (is, get_or-append_right front back (length front) (low - 1) d refl (omega (arith, more))) at
        (before d (omega (arith, more))) in
        absurd (omega (arith, here, above (low - 1 - length front) d (omega (arith, more, long, within))))
    | inr same ↦ omega (arith, reaches, same)
  ]
]
  where
    d : Found
    d = found_at 0 Refusal

    long : length all ≡ length front + length back
    long = ap (λ (xs : List Found). length xs) is ∙ length-append front back

-- a part of a run that two lists share
pub steps_part : (xs ys : List Step) (a b long d len : ℕ) → d + len ≤ long → steps_of xs a long ≡ steps_of ys b long
    → steps_of xs (a + d) len ≡ steps_of ys (b + d) len
steps_part xs ys a b long d len fits same = part xs a ∙ ap (λ (l : List Step). take len (drop d l)) same ∙ sym (part ys b)
  where
    part : (l : List Step) (n : ℕ) → steps_of l (n + d) len ≡ take len (drop d (steps_of l n long))
    part l n =
        let more : long ≡ d + (long - d) = omega (arith, fits) in
        sym (ap (λ k. take len (drop d (take k (drop n l)))) more ∙ ap (take len) (drop-take d (long - d) (drop n l))
        ∙ take-take len (long - d) (drop d (drop n l)) (omega (arith, fits)) ∙ ap (take len) (drop-drop d n l))

-- the first steps, and so many more
pub steps_more : (xs : List Step) (at n : ℕ) → take (at + n) xs ≡ take at xs ++ steps_of xs at n
steps_more xs at n = sym (take-append-drop at (take (at + n) xs))
    ∙ ap (λ (l : List Step). l ++ drop at (take (at + n) xs)) (take-take at (at + n) xs (omega arith))
    ∙ ap (λ (l : List Step). take at xs ++ l) (drop-take at n xs)

-- ---- what is found in steps, in three parts: before a place, in so many steps there, and after them
moved_up : (bound n : ℕ) (s : State) (t : List Step) → bound ≤ n
    → All (λ (x : Found). bound < x.at) (map (later n) (check s t))
moved_up bound n s t le = All-map (λ (x : Found). bound < x.at) (later n) (check s t)
    (λ k d lt. let is = positions_within s t k d lt in omega (arith, is.0, le))

module _ (s : State) (steps : List Step) (was len : ℕ) (fits : was + len ≤ length steps) where
  abbrev pub FoundBefore : List Found
  FoundBefore = check s (take was steps)

  abbrev pub FoundThere : List Found
  FoundThere = map (later was) (check (ended s (take was steps)) (steps_of steps was len))

  abbrev pub FoundAfter : List Found
  FoundAfter = map (later (was + len)) (check (ended s (take (was + len) steps)) (drop (was + len) steps))

  before_len : length (take was steps) ≡ was
  before_len = length-take-le was steps (omega (arith, fits))

  pub in_three : check s steps ≡ (FoundBefore ++ FoundThere) ++ FoundAfter
  in_three =
      ap (check s) (sym (take-append-drop (was + len) steps)) ∙ checks_in_turn s (take (was + len) steps) (drop (was + len) steps)
      ∙ ap (λ n. check s (take (was + len) steps) ++ map (later n)
      (check (ended s (take (was + len) steps)) (drop (was + len) steps))) (length-take-le (was + len) steps fits)
      ∙ ap (λ (xs : List Found). xs ++ FoundAfter) (ap (check s) (steps_more steps was len)
      ∙ checks_in_turn s (take was steps) (steps_of steps was len)
      ∙ ap (λ n. FoundBefore ++ map (later n) (check (ended s (take was steps)) (steps_of steps was len))) before_len)

  pub before_below : All (λ (x : Found). x.at ≤ was) FoundBefore
  before_below k d lt = let is = positions_within s (take was steps) k d lt in omega (arith, is.1, before_len)

  pub there_above : All (λ (x : Found). was < x.at) FoundThere
  there_above = moved_up was was (ended s (take was steps)) (steps_of steps was len) (omega arith)

  pub there_below : All (λ (x : Found). x.at ≤ was + len) FoundThere
  there_below = All-map (λ (x : Found). x.at ≤ was + len) (later was)
      (check (ended s (take was steps)) (steps_of steps was len)) (λ k d lt.
      let is = positions_within (ended s (take was steps)) (steps_of steps was len) k d lt in
      omega (arith, is.1, length-take len (drop was steps)))

  pub after_above : (bound : ℕ) → bound ≤ was + len → All (λ (x : Found). bound < x.at) FoundAfter
  after_above bound le =
      moved_up bound (was + len) (ended s (take (was + len) steps)) (drop (was + len) steps) le

drop_front : {X : Type 0} (a c : List X) → drop (length a) (a ++ c) ≡ c
drop_front [] c = refl
drop_front (x ∷ a) c = drop_front a c

take_front : {X : Type 0} (b c : List X) → take (length b) (b ++ c) ≡ b
take_front [] c = refl
take_front {X} (x ∷ b) c = ap (λ (l : List X). x ∷ l) (take_front b c)

pub slice_between : {X : Type 0} (a b c : List X) → drop (length a) (take (length (a ++ b)) ((a ++ b) ++ c)) ≡ b
slice_between a b c = ap (λ l. drop (length a) l) (take_front (a ++ b) c) ∙ drop_front a b

-- found there, and found again here
pub moved_here : (was at : ℕ) (xs : List Found)
    → map (λ (x : Found). found_at (x.at - was + at) x.finding) (map (later was) xs) ≡ map (later at) xs
moved_here was at [] = refl
moved_here was at (x ∷ xs) =
    let here : was + x.at - was + at ≡ at + x.at = omega arith in
    ap (λ n. found_at n x.finding ∷ map (λ (y : Found). found_at (y.at - was + at) y.finding) (map (later was) xs)) here
    ∙ ap (λ r. later at x ∷ r) (moved_here was at xs)

-- what is found in one step, after so many others
pub one_step : (at : ℕ) (s : State) (step : Step)
    → map (later at) (check s (step ∷ [])) ≡ map (found_at (at + 1)) (said step s)
one_step at s step = later-at at 1 (said step s)

-- one step more: the state after it, and what is found
pub one_more_step : (s : State) (steps : List Step) (n : ℕ) (step : Step) → steps_of steps n 1 ≡ step ∷ []
    → ended s (take (n + 1) steps) ≡ ended (ended s (take n steps)) (step ∷ [])
one_more_step s steps n step is = ap (ended s) (steps_more steps n 1 ∙ ap (λ (t : List Step). take n steps ++ t) is)
    ∙ ends_in_turn s (take n steps) (step ∷ [])

pub one_more_found : (s : State) (steps : List Step) (n : ℕ) (step : Step) → steps_of steps n 1 ≡ step ∷ []
    → n ≤ length steps → check s (take (n + 1) steps)
    ≡ check s (take n steps) ++ map (found_at (n + 1)) (said step (ended s (take n steps)))
one_more_found s steps n step is le =
    ap (check s) (steps_more steps n 1 ∙ ap (λ (t : List Step). take n steps ++ t) is)
    ∙ checks_in_turn s (take n steps) (step ∷ [])
    ∙ ap (λ (k : ℕ). check s (take n steps) ++ map (later k) (check (ended s (take n steps)) (step ∷ [])))
    (length-take-le n steps le)
    ∙ ap (λ (l : List Found). check s (take n steps) ++ l) (one_step n (ended s (take n steps)) step)

-- the first of so many steps, and one of them
pub steps_first : (xs : List Step) (at i len : ℕ) → i ≤ len → take i (steps_of xs at len) ≡ steps_of xs at i
steps_first xs at i len le = take-take i len (drop at xs) le

step_here : (t : List Step) (i : ℕ) (step : Step) → i < length t → step ≡ get_or t i step → take 1 (drop i t) ≡ step ∷ []
step_here t i step within is = ap (λ (l : List Step). take 1 l) (drop_here t i step within is)

pub step_placed : (xs t : List Step) (at i : ℕ) (step : Step) → steps_of xs at (length t) ≡ t → i < length t
    → step ≡ get_or t i step → steps_of xs (at + i) 1 ≡ step ∷ []
step_placed xs t at i step same within is =
    let none : 0 + i ≡ i = omega arith in
    steps_part xs t at 0 (length t) i 1 (omega (arith, within)) (same ∙ sym (take_all (length t) t (omega arith)))
    ∙ ap (λ n. take 1 (drop n t)) none ∙ step_here t i step within is

-- the state after the first of so many steps, and after all
pub run_state : (s : State) (xs t : List Step) (at i : ℕ) → steps_of xs at (length t) ≡ t → i ≤ length t
    → ended (ended s (take at xs)) (take i t) ≡ ended s (take (at + i) xs)
run_state s xs t at i same le = sym (ap (ended s) (steps_more xs at i) ∙ ends_in_turn s (take at xs) (steps_of xs at i)
    ∙ ap (ended (ended s (take at xs))) (sym (steps_first xs at i (length t) le) ∙ ap (λ (l : List Step). take i l) same))

pub all_state : (s : State) (xs t : List Step) (at len : ℕ) → steps_of xs at len ≡ t
    → ended (ended s (take at xs)) t ≡ ended s (take (at + len) xs)
all_state s xs t at len same = sym (ap (ended s) (steps_more xs at len) ∙ ends_in_turn s (take at xs) (steps_of xs at len)
    ∙ ap (ended (ended s (take at xs))) same)

pub all_found : (s : State) (xs t : List Step) (at len : ℕ) → steps_of xs at len ≡ t → at ≤ length xs
    → check s (take (at + len) xs) ≡ check s (take at xs) ++ map (later at) (check (ended s (take at xs)) t)
all_found s xs t at len same le = ap (check s) (steps_more xs at len) ∙ checks_in_turn s (take at xs) (steps_of xs at len)
    ∙ ap (λ (n : ℕ). check s (take at xs) ++ map (later n) (check (ended s (take at xs)) (steps_of xs at len)))
    (length-take-le at xs le)
    ∙ ap (λ (l : List Step). check s (take at xs) ++ map (later at) (check (ended s (take at xs)) l)) same

-- a value of a run
pub value_at : {X Z : Type 0} (run : List (Rc X Z)) (i : ℕ) (x : Rc X Z) → i < length run → x ≡ get_or run i x
    → x.value ≡ get_or (values run) i x.value
value_at run i x within is = ap (λ item. item.value) is ∙ sym (get_or-map (λ item. item.value) run i x x.value within)

-- two parts of steps that stand after so many others
pub placed_parts : (again : Again) (at : ℕ) (a b : List Step) → IsPlaced again at (a ++ b)
    → IsPlaced again at a × IsPlaced again (at + length a) b
placed_parts again at a b placed = (
  record {
    within = omega (arith, placed.within, size);
    same = sym (steps_first (new_steps again) at (length a) (length (a ++ b)) (omega (arith, size)))
        ∙ ap (λ (l : List Step). take (length a) l) placed.same ∙ take_front a b;
  },
  record {
    within = omega (arith, placed.within, size);
    same = steps_part (new_steps again) (a ++ b) at 0 (length (a ++ b)) (length a) (length b) (omega (arith, size))
        (placed.same ∙ sym (take_all (length (a ++ b)) (a ++ b) (omega arith)))
        ∙ ap (λ n. take (length b) (drop n (a ++ b))) none ∙ ap (λ (l : List Step). take (length b) l) (drop_front a b)
        ∙ take_all (length b) b (omega arith);
  },
)
  where
    size : length (a ++ b) ≡ length a + length b
    size = length-append a b

    none : 0 + length a ≡ length a
    none = omega arith
