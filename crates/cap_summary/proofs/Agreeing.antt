-- States that agree on the processes that make a later step.
use Rattle.std.specs.Prelude.{OnOk, Result, false, if◌then◌else◌, length, refl, true, ◌++◌, ◌+◌, ◌<◌, ◌∷◌, ◌≡◌, ◌≤◌}
use Rattle.cap_summary.specs.{Positions.AreNoted, declared.judging.Asked.Asked, declared.last_steps.LastSteps.LastSteps}
use Rattle.cap_summary.specs.{Check, Finding, Positions.AgreeAfter, Positions.AreJudged, Positions.last_of, requirement}
use Rattle.cap_summary.specs.{Answer, Found, State, Touch, Unknown, [], applied, ended, follows, given, listed, touched}
use Rattle.cap_summary.specs.{check, found_at, later, Positions.found_in, Positions.within}
use Rattle.cap_summary.specs.{Rc, values}
use Rattle.cap_summary.proofs.{append-nil, length-map}
use Rattle.cap_summary.specs.{Bool, Cell, Item, List, Mode, Step, kept, map, said, stays, taken, touch, turns, ℕ}
use Rattle.cap_summary.proofs.{Resolving.found_outside, Resolving.found_parts, Resolving.same_beyond, ap, length-append}
use Rattle.cap_summary.proofs.{arith, cases_lt, checks_in_turn, ends_in_turn, fun_ext, inl, inr, ne_eqb, on_ok_weaker, subst, sym, ◌∙◌}
use Rattle.cap_trace.specs.Call.{Call}
use Rattle.cap_machine.specs.{History.turned, Judge.judged, State.with_listed, Touch.call_turn, Touch.item_turn}
use Rattle.cap_machine.proofs.NamedFds.{named_sources}

-- ---- steps whose processes are noted

pub noted_later : (old new : LastSteps) (at : ℕ) (t : List Step) → ((p : ℕ) → last_of old p ≤ last_of new p)
    → AreNoted old at t → AreNoted new at t
noted_later old new at [] less noted = noted
noted_later old new at (step ∷ t) less noted =
    (omega (arith, less step.line.pid, noted.0), noted_later old new (at + 1) t less noted.1)

pub noted_both : (last : LastSteps) (at n : ℕ) (t u : List Step) → n ≡ length t → AreNoted last at t
    → AreNoted last (at + n) u → AreNoted last at (t ++ u)
noted_both last at n [] u is first second = subst (λ m. AreNoted last m u) (omega (arith, is)) second
noted_both last at n (step ∷ t) u is first second = (
  first.0,
  noted_both last (at + 1) (length t) t u refl first.1 (subst (λ m. AreNoted last m u) (omega (arith, is)) second),
)

pub noted_parts : (last : LastSteps) (at n : ℕ) (t u : List Step) → n ≡ length t → AreNoted last at (t ++ u)
    → AreNoted last at t × AreNoted last (at + n) u
noted_parts last at n [] u is noted = (tt, subst (λ m. AreNoted last m u) (omega (arith, is)) noted)
noted_parts last at n (step ∷ t) u is noted =
    let rest = noted_parts last (at + 1) (length t) t u refl noted.1 in
    ((noted.0, rest.0), subst (λ m. AreNoted last m u) (omega (arith, is)) rest.1)

-- ---- a step from two states

module _ (me p : ℕ) (s r : ℕ → Mode) (same : s p ≡ r p) (own : s me ≡ r me) where
  follows_if : (b : Bool) → turned (if b then follows me else stays) s p ≡ turned (if b then follows me else stays) r p
  follows_if true = own
  follows_if false = same

  turns_if : (b : Bool) (m : Mode) → turned (if b then turns m else stays) s p ≡ turned (if b then turns m else stays) r p
  turns_if true m = refl
  turns_if false m = same

  call_agrees : (call : Call) (answer : Answer)
      → turned (call_turn call answer me p) s p ≡ turned (call_turn call answer me p) r p
  call_agrees call answer = grind (arith, same, own)

  item_agrees : (item : Item) → turned (item_turn item me p) s p ≡ turned (item_turn item me p) r p
  item_agrees item = grind (arith, same, own, call_agrees)

module _ (last : LastSteps) (at : ℕ) (s r : State) (step : Step) (here : at < last_of last step.line.pid)
    (agree : AgreeAfter last at s r) where
  pub same_said : said step s ≡ said step r
  same_said =
      let me : ℕ = step.line.pid in
      let says : Mode → (ℕ → Cell) → List Finding = λ mode cell. judged (requirement step.line) mode
      (map (λ (check : Check). cell check.fd) (listed (requirement step.line).checks)) in
      ap (λ mode. says mode (s.cell me)) (agree.modes me here)
      ∙ ap (λ cell. says (r.mode me) cell) (fun_ext (λ f. agree.cells me f here))

  pub agree_next : AgreeAfter last (at + 1) (ended s (step ∷ [])) (ended r (step ∷ []))
  agree_next = record {
    cells = λ p f lt. by p f (agree.cells p f (omega (arith, lt))) (touch step p f) refl;
    modes = λ p lt. item_agrees step.line.pid p s.mode r.mode (agree.modes p (omega (arith, lt)))
        (agree.modes step.line.pid here) step.line.item;
  }
    where
      by : (p f : ℕ) → s.cell p f ≡ r.cell p f → (t : Touch) → touch step p f ≡ t
          → touched t s.cell p f ≡ touched t r.cell p f
      by p f same kept is = same
      by p f same (given c) is = refl
      by p f same (taken op q g) is =
          let own : q ≡ step.line.pid = (named_sources step op p f q g is).0 in
          ap (applied op) (agree.cells q g (subst (λ n. at < last_of last n) (sym own) here))

-- one of the states forgets a process that makes no later step
pub agree_forgotten : (last : LastSteps) (at : ℕ) (s r : State) (me : ℕ) → last_of last me ≤ at
    → AgreeAfter last at s r → AgreeAfter last at s (with_listed r me Mode.Unsure Unknown [])
agree_forgotten last at s r me none agree = record {
  cells = λ p f lt. rw (ne_eqb p me (other p lt)) (agree.cells p f lt);
  modes = λ p lt. rw (ne_eqb p me (other p lt)) (agree.modes p lt);
}
  where
    other : (p : ℕ) → at < last_of last p → p ≡ me → ⊥
    other p lt is = omega (arith, ap (λ (n : ℕ). last_of last n) is)

-- a state agrees with itself
pub agree_same : (last : LastSteps) (at : ℕ) (s : State) → AgreeAfter last at s s
agree_same last at s = record { cells = λ p f lt. refl; modes = λ p lt. refl }

-- ---- steps one after the other

-- some that are beyond the last position that is asked for
pub none_judged : (last : LastSteps) (asked : Asked) (at : ℕ) (t : List Step) (s r : State) (old : List Found)
    → asked.to ≤ at → AreJudged last asked at t s r old old
none_judged last asked at t s r old beyond = record {
  found = found_outside asked at s t old (inr beyond);
  agree = λ more. absurd (omega (arith, more, beyond));
}

pub judged_both : {X E : Type 0} (result : Result X E) (last : LastSteps) (asked : Asked) (at n : ℕ) (t u : List Step)
    (s mid r : State) (old some new : List Found) → n ≡ length t → AreJudged last asked at t s mid old some
    → ((s : State) → AgreeAfter last (at + n) s mid → OnOk result (AreJudged last asked (at + n) u s r some new))
    → OnOk result (AreJudged last asked at (t ++ u) s r old new)
judged_both result last asked at n t u s mid r old some new len first rest = elim (cases_lt (at + n) asked.to) [
  | inl before ↦ on_ok_weaker result (λ done. record {
    found = found_parts asked at n s t u old some new len first.found done.found;
    agree = λ more.
        let agree = done.agree (omega (arith, length-append t u, len, more)) in
        let size : at + n + length u ≡ at + length (t ++ u) = omega (arith, length-append t u, len) in
        rw (← size, ends_in_turn s t u) agree;
  }) (rest (ended s t) (rw len (first.agree (omega (arith, len, before)))))
  | inr beyond ↦ on_ok_weaker result (λ done. record {
    found = found_parts asked at n s t u old some new len first.found
        (done.found ∙ ap (λ r. some ++ r) (same_beyond asked (at + n) mid (ended s t) u beyond));
    agree = λ more. absurd (omega (arith, length-append t u, len, beyond, more));
  }) (rest mid (agree_same last (at + n) mid))
]

-- all steps from two states
pub agree_steps : (last : LastSteps) (at : ℕ) (t : List Step) (s r : State) → AreNoted last at t → AgreeAfter last at s r
    → AgreeAfter last (at + length t) (ended s t) (ended r t)
agree_steps last at [] s r noted agree = subst (λ n. AgreeAfter last n s r) (omega arith) agree
agree_steps last at (step ∷ t) s r noted agree =
    let next = agree_steps last (at + 1) t (ended s (step ∷ [])) (ended r (step ∷ [])) noted.1
    (agree_next last at s r step noted.0 agree) in
    let size : at + 1 + length t ≡ at + length (step ∷ t) = omega arith in
    rw (← size, ends_in_turn s (step ∷ []) t, ends_in_turn r (step ∷ []) t) next

-- one step, and the rest of a run
pub agree_run : {Z : Type 0} (last : LastSteps) (at : ℕ) (s : State) (step : Step) (run rest : List (Rc Step Z)) (r : State)
    → values run ≡ step ∷ values rest
    → AgreeAfter last (at + 1 + length rest) (ended (ended s (step ∷ [])) (values rest)) r
    → AgreeAfter last (at + length run) (ended s (values run)) r
agree_run last at s step run rest r is agree =
    let size : at + length run ≡ at + 1 + length rest = omega (
      arith,
      length-map run (λ item. item.value),
      length-map rest (λ item. item.value),
      ap (λ (l : List Step). length l) is,
    ) in
    rw (size, is, ends_in_turn s (step ∷ []) (values rest)) agree

pub same_check : (last : LastSteps) (at : ℕ) (t : List Step) (s r : State) → AreNoted last at t → AgreeAfter last at s r
    → check s t ≡ check r t
same_check last at [] s r noted agree = refl
same_check last at (step ∷ t) s r noted agree =
    let next = same_check last (at + 1) t (ended s (step ∷ [])) (ended r (step ∷ [])) noted.1
    (agree_next last at s r step noted.0 agree) in
    checks_in_turn s (step ∷ []) t
    ∙ ap (λ (says : List Finding). map (found_at 1) says ++ map (later 1) (check (ended s (step ∷ [])) t))
    (same_said last at s r step noted.0 agree)
    ∙ ap (λ (rest : List Found). check r (step ∷ []) ++ map (later 1) rest) next ∙ sym (checks_in_turn r (step ∷ []) t)

pub same_found : (last : LastSteps) (asked : Asked) (at : ℕ) (t : List Step) (s r : State) → AreNoted last at t
    → AgreeAfter last at s r → found_in asked at s t ≡ found_in asked at r t
same_found last asked at t s r noted agree =
    ap (λ (found : List Found). within asked.from asked.to (map (later at) found)) (same_check last at t s r noted agree)

pub agree_trans : (last : LastSteps) (at : ℕ) (s r q : State) → AgreeAfter last at s r → AgreeAfter last at r q
    → AgreeAfter last at s q
agree_trans last at s r q one two = record {
  cells = λ p f lt. one.cells p f lt ∙ two.cells p f lt;
  modes = λ p lt. one.modes p lt ∙ two.modes p lt;
}

-- steps in which nothing is found that is asked for
pub passed : (last : LastSteps) (asked : Asked) (at n : ℕ) (t : List Step) (s r q : State) (old : List Found)
    → n ≡ length t → AreNoted last at t → AgreeAfter last at s r → found_in asked at r t ≡ []
    → (at + n < asked.to → AgreeAfter last (at + n) (ended r t) q) → AreJudged last asked at t s q old old
passed last asked at n t s r q old len noted agree none moved = record {
  found = sym (append-nil old)
      ∙ ap (λ (found : List Found). old ++ found) (sym (same_found last asked at t s r noted agree ∙ none));
  agree = λ more. agree_trans last (at + length t) (ended s t) (ended r t) q (agree_steps last at t s r noted agree)
      (rw len at moved more);
}
