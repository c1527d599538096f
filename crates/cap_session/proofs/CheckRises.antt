-- What is found in a trace is in the order of its lines.
use Rattle.std.proofs.Common.{ℕ, ◌+◌, List, [], ◌∷◌, ◌++◌, length, map, reverse, arith}
use Rattle.cap_machine.specs.declared.step.Step.{Step}
use Rattle.cap_machine.specs.declared.verdict.Finding.{Finding}
use Rattle.cap_machine.specs.State.{State}
use Rattle.cap_machine.specs.Check.{check, findings, found_at, said}
use Rattle.cap_machine.specs.History.{after}
use Rattle.cap_session.specs.Code.Walked.{Rise, RiseWithin}
use Rattle.cap_session.proofs.InRun.{within_both, within_wider, within_rise}

at_one : (p : ℕ) (xs : List Finding) → RiseWithin p p (map (found_at p) xs)
unfolding RiseWithin
at_one p [] = tt
at_one p (x ∷ xs) = (omega arith, omega arith, at_one p xs)

findings_rise : (s : State) (history : List Step) → RiseWithin 1 (length history + 1) (findings s history)
unfolding RiseWithin
findings_rise s [] = tt
findings_rise s (step ∷ history) =
    let p = length history + 1 in
    within_wider 1 p 1 (length (step ∷ history) + 1)
    (findings s history ++ map (found_at p) (said step (after s history))) (omega arith) (omega arith)
    (within_both 1 p p (findings s history) (map (found_at p) (said step (after s history))) (omega arith)
    (findings_rise s history) (omega arith) (at_one p (said step (after s history))))

pub check_rises : (s : State) (trace : List Step) → Rise 1 (check s trace)
check_rises s trace = within_rise 1 _ (check s trace) (findings_rise s (reverse trace))
