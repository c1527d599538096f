-- The cell of one descriptor and the mode of one process after a history, its newest step first: one walks back to the
-- last step that touched it. A step that takes the cell from another sends one on from there.
use Rattle.std.specs.Prelude.{ℕ, ◌+◌, List, [], ◌∷◌, ◌++◌, length, map, reverse}
use Rattle.cap_machine.specs.declared.step.Step.{Step}
use Rattle.cap_machine.specs.declared.cell.Cell.{Cell}
use Rattle.cap_machine.specs.declared.cell.Mode.{Mode}
use Rattle.cap_machine.specs.State.{State}
use Rattle.cap_machine.specs.Op.{applied}
use Rattle.cap_machine.specs.Touch.{Touch, kept, given, taken, Turn, stays, turns, follows, touch, turn}

-- the cell after a touch, of what the cells were before
abbrev pub touched : Touch → (ℕ → ℕ → Cell) → ℕ → ℕ → Cell
touched kept before p f = before p f
touched (given c) before p f = c
touched (taken op q g) before p f = applied op (before q g)

abbrev pub turned : Turn → (ℕ → Mode) → ℕ → Mode
turned stays before p = before p
turned (turns m) before p = m
turned (follows q) before p = before q

-- the state after one step
abbrev pub step_after : Step → State → State
step_after step s = record {
  cell = λ p f. touched (touch step p f) s.cell p f;
  mode = λ p. turned (turn step p) s.mode p;
}

abbrev pub cell_after : State → List Step → ℕ → ℕ → Cell
cell_after s [] p f = s.cell p f
cell_after s (step ∷ history) p f = touched (touch step p f) (cell_after s history) p f

abbrev pub mode_after : State → List Step → ℕ → Mode
mode_after s [] p = s.mode p
mode_after s (step ∷ history) p = turned (turn step p) (mode_after s history) p

-- both, as a state
abbrev pub after : State → List Step → State
after s history = record { cell = cell_after s history; mode = mode_after s history }

-- the state after a trace, its steps in their order
abbrev pub ended : State → List Step → State
ended s trace = after s (reverse trace)

-- what is told of each step of a history, with the state before it and with its position; steps are numbered
-- from 1
abbrev pub told : {A X : Type 0} → (ℕ → A → X) → (Step → State → List A) → State → List Step → List X
told at says s [] = []
told at says s (step ∷ history) =
    told at says s history ++ map (at (length history + 1)) (says step (after s history))
