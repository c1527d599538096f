-- What was lacking for a call that errno 93 or 94 refused (errno(2), rights(4), capsicum(4)): of each step of a trace,
-- with the state before it.
use Rattle.std.specs.Prelude.{ℕ, ◌&&◌, not, if◌then◌else◌, List, [], ◌∷◌, ◌++◌, map, reverse}
use Rattle.cap_rights.specs.Rights.{has_all, minus}
use Rattle.cap_machine.specs.declared.cell.Cell.{Cell}
use Rattle.cap_machine.specs.declared.cell.Cell.TheVariants.{Unknown, Closed, Held}
use Rattle.cap_machine.specs.declared.cell.Mode.{Mode}
use Rattle.cap_machine.specs.declared.rule.Reply.{Reply}
use Rattle.cap_machine.specs.declared.rule.Reply.TheVariants.{Success, NotCapable, NotPermitted, Other}
use Rattle.cap_machine.specs.declared.rule.Check.{Check}
use Rattle.cap_machine.specs.declared.rule.Requirement.{Requirement}
use Rattle.cap_machine.specs.declared.step.Step.{Step}
use Rattle.cap_machine.specs.declared.denial.Denial.{Denial}
use Rattle.cap_machine.specs.declared.denial.Denial.TheVariants.{Lacks, Inside, Unexplained}
use Rattle.cap_machine.specs.declared.denial.Denied.{Denied}
use Rattle.cap_machine.specs.State.{State}
use Rattle.cap_machine.specs.History.{told}
use Rattle.cap_machine.specs.Rule.{requirement}
use Rattle.cap_machine.specs.Judge.{listed, is_inside, is_allowed}

-- the needed rights without which a descriptor is held
abbrev pub lack : Check → Cell → List Denial
lack check Unknown = []
lack check Closed = []
lack check (Held held flag) = if has_all held check.needs then [] else Lacks check.fd (minus check.needs held) ∷ []

-- the same of each check, with its cell
abbrev pub lacks : List Check → List Cell → List Denial
lacks (check ∷ checks) (cell ∷ cells) = lack check cell ++ lacks checks cells
lacks _ _ = []

-- where no descriptor lacks any, nothing that is known explains the refusal
abbrev pub or_unexplained : List Denial → List Denial
or_unexplained [] = Unexplained ∷ []
or_unexplained (denial ∷ more) = denial ∷ more

-- by the kind of answer:
-- a call was refused for lack of rights, which some of its descriptors lack, or none;
-- a call was refused for capability mode, in which its process is and which doesn't always allow the call, or not;
-- nothing was lacking for any other
abbrev pub denied_by : Reply → Requirement → Mode → List Cell → List Denial
denied_by Success d m cells = []
denied_by NotCapable d m cells = or_unexplained (lacks (listed d.checks) cells)
denied_by NotPermitted d m cells =
    if is_inside m && not (is_allowed d.class) then Inside ∷ [] else Unexplained ∷ []
denied_by Other d m cells = []

-- what was lacking for a call in this mode, with the cell of each of its checks
abbrev pub denied_with : Requirement → Mode → List Cell → List Denial
denied_with d m cells = denied_by d.reply d m cells

-- for a process's line with this requirement, in a state: its mode, and the cell of each check
abbrev pub denied_of : Requirement → ℕ → State → List Denial
denied_of d p s = denied_with d (s.mode p) (map (λ (check : Check). s.cell p check.fd) (listed d.checks))

-- for a step in a state
abbrev pub denied : Step → State → List Denial
denied step s = denied_of (requirement step.line) step.line.pid s

-- a denial, and the position of its line
abbrev pub denied_at : ℕ → Denial → Denied
denied_at position denial = record { at = position; denial = denial }

-- the denials of a trace, its steps in their order
abbrev pub denials : State → List Step → List Denied
denials s trace = told denied_at denied s (reverse trace)
