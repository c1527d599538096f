use Rattle.std.proofs.Common.{◌≡◌, ◌<◌, ℕ, get_or, true}
use Rattle.cap_machine.specs.declared.verdict.Found.{Found}
use Rattle.cap_session.specs.Changes.{same_finding}
use Rattle.cap_session.proofs.changes.are_same.Given as goal

abbrev pub invariant-loop-i : goal.invariant-loop-i
invariant-loop-i l = (k : ℕ) (d : Found) → k < l.i
    → same_finding (get_or l.then k d).finding (get_or l.now k d).finding ≡ true
