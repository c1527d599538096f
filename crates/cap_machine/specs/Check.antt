-- What is found in a trace: of each step, with the state before it.
use Rattle.std.specs.Prelude.{ℕ, List, map, reverse}
use Rattle.cap_machine.specs.declared.step.Step.{Step}
use Rattle.cap_machine.specs.declared.rule.Check.{Check}
use Rattle.cap_machine.specs.declared.rule.Requirement.{Requirement}
use Rattle.cap_machine.specs.declared.verdict.Finding.{Finding}
use Rattle.cap_machine.specs.declared.verdict.Found.{Found}
use Rattle.cap_machine.specs.State.{State}
use Rattle.cap_machine.specs.History.{told}
use Rattle.cap_machine.specs.Rule.{requirement}
use Rattle.cap_machine.specs.Judge.{listed, judged}

-- what is said of a process's line with this requirement, in a state: its mode, and the cell of each check
abbrev pub findings_of : Requirement → ℕ → State → List Finding
findings_of d p s = judged d (s.mode p) (map (λ (check : Check). s.cell p check.fd) (listed d.checks))

-- what is said of a step in a state
abbrev pub said : Step → State → List Finding
said step s = findings_of (requirement step.line) step.line.pid s

-- a finding, and the position of its line
abbrev pub found_at : ℕ → Finding → Found
found_at position finding = record { at = position; finding = finding }

-- the findings of a history, its newest step first
abbrev pub findings : State → List Step → List Found
findings s history = told found_at said s history

-- the findings of a trace, its steps in their order
abbrev pub check : State → List Step → List Found
check s trace = findings s (reverse trace)
