-- What is shown of a trace: the text of a line, and the findings at a range of positions.
use Rattle.std.specs.Prelude.{ℕ, ◌-◌, ◌&&◌, nat_le, Bool, List, ◌++◌, length, flat_map, filter, if◌then◌else◌}
use Rattle.std.specs.Prelude.{Result, Ok, Err, Option, None, Some}
use Rattle.std.specs.List.{slice_get}
use Rattle.cap_trace.specs.Entry.{Entry}
use Rattle.cap_trace.specs.Spelling.{canon}
use Rattle.cap_machine.specs.declared.step.Step.{Step}
use Rattle.cap_machine.specs.declared.verdict.Found.{Found}
use Rattle.cap_machine.specs.Steps.{steps}
use Rattle.cap_machine.specs.State.{State}
use Rattle.cap_machine.specs.Check.{check}
use Rattle.cap_machine.specs.Report.{report_line, last_line}
use Rattle.cap_session.specs.Edits.{is_position}
use Rattle.cap_session.specs.Settings.{state_before}
use Rattle.cap_session.specs.declared.refused.Refused.{Refused}
use Rattle.cap_session.specs.declared.refused.Refused.TheVariants.{Position}
use Rattle.cap_session.specs.declared.session.Setting.{Setting}

abbrev pub shown_of : Option Entry → Result (List ℕ) Refused
shown_of (Some line) = Ok (canon line)
shown_of None = Err Position

-- the canonical text of the line at a position, without LF
abbrev pub shown : List Entry → ℕ → Result (List ℕ) Refused
shown trace position = if is_position position (length trace) then shown_of (slice_get trace (position - 1))
    else Err Position

-- a finding whose position lies in a range
abbrev pub lies_in : ℕ → ℕ → Found → Bool
lies_in first last found = nat_le first found.at && nat_le found.at last

-- the findings of the whole check whose positions lie in a range
abbrev pub found_in : State → List Step → ℕ → ℕ → List Found
found_in s trace first last = filter (lies_in first last) (check s trace)

-- their lines, and how many they are
abbrev pub range_report : State → List Step → ℕ → ℕ → List ℕ
range_report s trace first last =
    flat_map (report_line trace) (found_in s trace first last) ++ last_line (length (found_in s trace first last))

-- a range begins at a line, and ends at that line or after it
abbrev pub is_range : ℕ → ℕ → ℕ → Bool
is_range count first last = nat_le 1 first && nat_le first last && nat_le last count

abbrev pub ranged : Setting → List Entry → ℕ → ℕ → Result (List ℕ) Refused
ranged setting trace first last = if is_range (length trace) first last
    then Ok (range_report (state_before setting) (steps setting.profile trace) first last) else Err Position
