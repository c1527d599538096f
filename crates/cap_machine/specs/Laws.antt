-- Laws of a trace that follows another: it is checked from the state that the first one left.
use Rattle.std.specs.Prelude.{◌≡◌, ℕ, ◌+◌, List, [], ◌∷◌, ◌++◌, length, map}
use Rattle.cap_machine.specs.declared.step.Step.{Step}
use Rattle.cap_machine.specs.declared.verdict.Found.{Found}
use Rattle.cap_machine.specs.State.{State}
use Rattle.cap_machine.specs.History.{ended}
use Rattle.cap_machine.specs.Check.{check, said, found_at}

-- a finding n positions later
abbrev pub later : ℕ → Found → Found
later n found = record { at = n + found.at; finding = found.finding }

-- the state after t followed by u is that after u, from the state after t
abbrev pub EndsInTurn : Type 0
EndsInTurn = (s : State) (t u : List Step) → ended s (t ++ u) ≡ ended (ended s t) u

-- the findings of t followed by u are those of t, and those of u from the state after t
abbrev pub ChecksInTurn : Type 0
ChecksInTurn = (s : State) (t u : List Step)
    → check s (t ++ u) ≡ check s t ++ map (later (length t)) (check (ended s t) u)

-- the findings of t followed by one step are those of t, and what is said of the step in the state after t
abbrev pub ChecksOneMore : Type 0
ChecksOneMore = (s : State) (t : List Step) (step : Step)
    → check s (t ++ step ∷ []) ≡ check s t ++ map (found_at (length t + 1)) (said step (ended s t))
