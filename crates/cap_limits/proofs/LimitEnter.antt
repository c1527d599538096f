-- A call in the way of entering capability mode is forbidden to a process inside.
use Rattle.std.proofs.Common.{◌≡◌, ℕ, zero, suc, ◌+◌, ◌==◌, Bool, true, false, ◌&&◌, if◌then◌else◌, List, [], ◌∷◌}
use Rattle.std.proofs.Common.{map, refl, sym, ap, ◌∙◌, subst, arith, inl, inr}
use Rattle.std.proofs.lemmas.Bool.{and_from, and_parts, eqb-true}
use Rattle.cap_rights.specs.Rights.{has_all, minus}
use Rattle.cap_machine.specs.declared.cell.Cell.{Cell}
use Rattle.cap_machine.specs.declared.cell.Cell.TheVariants.{Unknown, Closed, Held}
use Rattle.cap_machine.specs.declared.cell.Mode.{Mode}
use Rattle.cap_machine.specs.declared.cell.Mode.TheVariants.{Inside}
use Rattle.cap_machine.specs.declared.step.Step.{Step}
use Rattle.cap_machine.specs.declared.rule.Check.{Check}
use Rattle.cap_machine.specs.declared.rule.Requirement.{Requirement}
use Rattle.cap_machine.specs.declared.rule.Reply.{Reply}
use Rattle.cap_machine.specs.declared.rule.Reply.TheVariants.{Success}
use Rattle.cap_machine.specs.declared.rule.LimitWord.{LimitWord}
use Rattle.cap_machine.specs.declared.rule.LimitWord.TheVariants.{Missing, Expanded}
use Rattle.cap_machine.specs.declared.verdict.Finding.TheVariants as say
use Rattle.cap_machine.specs.declared.verdict.Found.{Found}
use Rattle.cap_machine.specs.State.{State}
use Rattle.cap_machine.specs.Touch.{Turn, stays, turns, follows, turn}
use Rattle.cap_machine.specs.History.{turned, step_after}
use Rattle.cap_machine.specs.Judge.{listed, is_inside, is_forbidden, shortfall, fault, faults, forbidden, judged_by}
use Rattle.cap_machine.specs.Rule.{requirement}
use Rattle.cap_machine.specs.Check.{check, said, found_at}
use Rattle.cap_limits.specs.Live.{is_success, step_blocks, ModePasses, Blocks}
use Rattle.cap_limits.specs.LimitLaws.{BlockedIsForbidden}
use Rattle.cap_limits.proofs.LimitFindings.{In, in_left, in_either, in_among, among_in, found_now, found_later}
use Rattle.cap_limits.proofs.LimitFindings.{found_when}
use Rattle.cap_limits.proofs.LimitFindings.{found_after}

-- ---- one line

-- no check says that a call is forbidden
shortfall_other : (word : LimitWord) (f lacking : ℕ) → say.Forbidden ≡ shortfall word f lacking → ⊥
shortfall_other Missing f lacking e = absurd (cc)
shortfall_other Expanded f lacking e = absurd (cc)

fault_other : (word : LimitWord) (one : Check) (cell : Cell) → In (fault word one cell) say.Forbidden → ⊥
fault_other word one Unknown is = is
fault_other word one Closed (inl e) = absurd (cc)
fault_other word one Closed (inr is) = is
fault_other word one (Held rights flag) is = by (has_all rights one.needs) is
  where
    by : (b : Bool) → In (if b then [] else shortfall word one.fd (minus one.needs rights) ∷ []) say.Forbidden → ⊥
    by true is = is
    by false (inl e) = shortfall_other word one.fd (minus one.needs rights) e
    by false (inr is) = is

faults_other : (word : LimitWord) (checks : List Check) (cells : List Cell)
    → In (faults word checks cells) say.Forbidden → ⊥
faults_other word [] cells is = is
faults_other word (one ∷ checks) [] is = is
faults_other word (one ∷ checks) (cell ∷ cells) is =
    elim (in_either (fault word one cell) (faults word checks cells) say.Forbidden is) [
      | inl here ↦ fault_other word one cell here
      | inr there ↦ faults_other word checks cells there
    ]

forbidden_inside : (d : Requirement) (reply : Reply) (m : Mode) (cells : List Cell) → is_success reply ≡ true
    → is_forbidden d.class ≡ true → m ≡ Inside → In (judged_by reply d m cells) say.Forbidden
forbidden_inside d Success m cells ok is inside =
    in_left (forbidden d.class m) (faults d.word (listed d.checks) cells) say.Forbidden
    (subst (λ (b : Bool). In (if b then say.Forbidden ∷ [] else []) say.Forbidden)
    (sym (and_from (is_forbidden d.class) (is_inside m) is (ap is_inside inside))) (inl refl))
forbidden_inside d _ m cells ok is inside = absurd (cc)

not_forbidden : (b : Bool) (m : Mode) → (m ≡ Inside → ⊥)
    → In (if b && is_inside m then say.Forbidden ∷ [] else []) say.Forbidden → ⊥
not_forbidden true Inside out is = out refl
not_forbidden _ _ out is = is

free_outside : (d : Requirement) (reply : Reply) (m : Mode) (cells : List Cell) → is_success reply ≡ true
    → (m ≡ Inside → ⊥) → In (judged_by reply d m cells) say.Forbidden → ⊥
free_outside d Success m cells ok out is =
    elim (in_either (forbidden d.class m) (faults d.word (listed d.checks) cells) say.Forbidden is) [
      | inl here ↦ not_forbidden (is_forbidden d.class) m out here
      | inr there ↦ faults_other d.word (listed d.checks) cells there
    ]
free_outside d _ m cells ok out is = absurd (cc)

-- what a line that is in the way is
pub record InTheWay (step : Step) (p : ℕ) : Type 0 where
  pub succeeds : is_success (requirement step.line).reply ≡ true
  pub own : p ≡ step.line.pid
  pub class : is_forbidden (requirement step.line).class ≡ true

pub in_the_way : (step : Step) (p : ℕ) → step_blocks step p ≡ true → InTheWay step p
in_the_way step p is =
    let first = and_parts (is_success (requirement step.line).reply)
    (p == step.line.pid && is_forbidden (requirement step.line).class) is in
    let second = and_parts (p == step.line.pid) (is_forbidden (requirement step.line).class) first.1 in
    record { succeeds = first.0; own = eqb-true p step.line.pid second.0; class = second.1 }

-- ---- a trace

pub mode_passes : (t : Turn) (modes : ℕ → Mode) (p q : ℕ) → ModePasses t p q → turned t modes q ≡ modes p
mode_passes stays modes p q e = ap modes e
mode_passes (turns m) modes p q e = absurd e
mode_passes (follows r) modes p q e = ap modes e

record IsForbiddenAt (s inside : State) (later : List Step) (n : ℕ) : Type 0 where
  said_inside : In (check inside later) (found_at n say.Forbidden)
  free : In (check s later) (found_at n say.Forbidden) → ⊥

blocked_now : (s inside : State) (step : Step) (later : List Step) (p : ℕ) → InTheWay step p → (s.mode p ≡ Inside → ⊥)
    → inside.mode p ≡ Inside → IsForbiddenAt s inside (step ∷ later) 1
blocked_now s inside step later p way out is =
    let d = requirement step.line in
    let me = step.line.pid in
    let cells : State → List Cell = λ state. map (λ (check : Check). state.cell me check.fd) (listed d.checks) in
    record {
      said_inside = found_now inside step later say.Forbidden
          (forbidden_inside d d.reply (inside.mode me) (cells inside)
          way.succeeds way.class (ap inside.mode (sym way.own) ∙ is));
      free = λ found. elim (found_when s step later (found_at 1 say.Forbidden) found) [
        | inl now ↦ free_outside d d.reply (s.mode me) (cells s) way.succeeds
            (λ in_mode. out (ap s.mode way.own ∙ in_mode))
            (subst (In (said step s)) (sym (ap (λ (r : Found). r.finding) now.2)) now.1)
        | inr more ↦ absurd (let place = found_after (step_after step s) later more.0 more.1 in
            let second : 1 ≡ 1 + more.0.at = ap (λ (r : Found). r.at) more.2 in
            omega arith)
      ];
    }

blocked_later : (s inside : State) (step : Step) (later : List Step) (n : ℕ)
    → IsForbiddenAt (step_after step s) (step_after step inside) later n
    → IsForbiddenAt s inside (step ∷ later) (1 + n)
blocked_later s inside step later n rest = record {
  said_inside = found_later inside step later (found_at n say.Forbidden) rest.said_inside;
  free = λ found. elim (found_when s step later (found_at (1 + n) say.Forbidden) found) [
    | inl now ↦ absurd (let place =
        found_after (step_after step inside) later (found_at n say.Forbidden) rest.said_inside in
        let first : 1 + n ≡ 1 = ap (λ (r : Found). r.at) now.2 in
        omega arith)
    | inr more ↦ rest.free (subst (In (check (step_after step s) later))
        (let at : 1 + n ≡ 1 + more.0.at = ap (λ (r : Found). r.at) more.2 in
        let finding : say.Forbidden ≡ more.0.finding = ap (λ (r : Found). r.finding) more.2 in
        let same : more.0.at ≡ n = omega arith in
        ap (λ (i : ℕ). found_at i more.0.finding) same ∙ ap (found_at n) (sym finding)) more.1)
  ];
}

blocked : (later : List Step) (s inside : State) (p n : ℕ) → Blocks later p n → (s.mode p ≡ Inside → ⊥)
    → inside.mode p ≡ Inside → IsForbiddenAt s inside later (suc n)
blocked [] s inside p n blocks out is = absurd blocks
blocked (step ∷ later) s inside p zero blocks out is =
    blocked_now s inside step later p (in_the_way step p blocks) out is
blocked (step ∷ later) s inside p (suc n) blocks out is =
    let q = blocks.0 in
    let same : suc (suc n) ≡ 1 + suc n = omega arith in
    subst (IsForbiddenAt s inside (step ∷ later)) (sym same) (blocked_later s inside step later (suc n)
    (blocked later (step_after step s) (step_after step inside) q n blocks.2
    (λ in_mode. out (sym (mode_passes (turn step q) s.mode p q blocks.1) ∙ in_mode))
    (mode_passes (turn step q) inside.mode p q blocks.1 ∙ is)))

pub blocked_is_forbidden : BlockedIsForbidden
blocked_is_forbidden s inside later p n blocks out is =
    let both = blocked later s inside p n blocks out is in (
      among_in (check inside later) (found_at (suc n) say.Forbidden) both.said_inside,
      λ found. both.free (in_among (check s later) (found_at (suc n) say.Forbidden) found),
    )
