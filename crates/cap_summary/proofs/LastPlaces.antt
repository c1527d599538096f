-- Steps that are noted by their processes.
use Rattle.std.specs.Prelude.{Err, Ok, OnOk, Result, ◌+◌, ◌≤◌, ◌∷◌}
use Rattle.cap_summary.specs.{Lasts.AreNotedFor, Lasts.pids_of, List, Positions.AreNoted, Positions.last_of, Step, [], ℕ}
use Rattle.cap_summary.specs.declared.last_steps.LastSteps.{LastSteps}
use Rattle.cap_summary.proofs.{arith}

-- what is noted of the process of each step is noted of the steps
pub all_noted : (last : LastSteps) (at : ℕ) (t : List Step) → AreNotedFor last at (pids_of t) → AreNoted last at t
all_noted last at [] noted = tt
all_noted last at (step ∷ t) noted = (noted.0, all_noted last (at + 1) t noted.1)

-- the first of these processes, and the others
pub noted_next : (last : LastSteps) (at pid : ℕ) (pids : List ℕ) → at + 1 ≤ last_of last pid
    → AreNotedFor last (at + 1) pids → AreNotedFor last at (pid ∷ pids)
noted_next last at pid pids first rest = (omega (arith, first), rest)

-- two things that hold on success
pub on_both : {T E : Type 0} (P Q : Type 0) (r : Result T E) → OnOk r P → OnOk r Q → OnOk r (P × Q)
on_both P Q (Ok x) p q = (p, q)
on_both P Q (Err e) p q = tt
