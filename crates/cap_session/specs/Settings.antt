-- By what a trace is checked: a profile and a start. What is found in a trace so, and its report.
use Rattle.std.specs.Prelude.{ℕ, List, []}
use Rattle.cap_trace.specs.Entry.{Entry}
use Rattle.cap_machine.specs.declared.cell.Profile.{Profile}
use Rattle.cap_machine.specs.declared.verdict.Found.{Found}
use Rattle.cap_machine.specs.Check.{check}
use Rattle.cap_machine.specs.Report.{report}
use Rattle.cap_machine.specs.State.{State, start_state}
use Rattle.cap_machine.specs.Steps.{steps}
use Rattle.cap_session.specs.declared.session.Setting.{Setting}

-- a profile, and the usual start
abbrev pub usually : Profile → Setting
usually profile = record { profile = profile; start = [] }

-- the state before the first line
abbrev pub state_before : Setting → State
state_before setting = start_state setting.start

abbrev pub found_by : Setting → List Entry → List Found
found_by setting trace = check (state_before setting) (steps setting.profile trace)

abbrev pub report_by : Setting → List Entry → List ℕ
report_by setting trace = report (state_before setting) (steps setting.profile trace)
