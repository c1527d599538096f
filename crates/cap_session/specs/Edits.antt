-- What an edit makes of a trace, and what a list of edits does. Lines are numbered from 1.
use Rattle.std.specs.Prelude.{ℕ, ◌+◌, ◌-◌, ◌&&◌, nat_le, Bool, true, false, List, [], ◌∷◌, length, if◌then◌else◌}
use Rattle.std.specs.Prelude.{Result, Ok, Err, insert, remove, slice_set}
use Rattle.cap_trace.specs.declared.fault.FirstFault.{FirstFault}
use Rattle.cap_trace.specs.Entry.{Entry}
use Rattle.cap_trace.specs.Reading.{line_of}
use Rattle.cap_trace.specs.Fault.{line_fault}
use Rattle.cap_session.specs.Refused.{refused_line}
use Rattle.cap_session.specs.declared.refused.Refused.{Refused}
use Rattle.cap_session.specs.declared.refused.Refused.TheVariants.{Position, Full, Memory}
use Rattle.cap_session.specs.declared.edit.Edit.{Edit}
use Rattle.cap_session.specs.declared.edit.Edit.TheVariants.{Insert, Delete, Replace}

-- ---- one edit: the trace that it makes, or why it is refused

-- one of the positions 1 to `last`
abbrev pub is_position : ℕ → ℕ → Bool
is_position position last = nat_le 1 position && nat_le position last

-- the trace with a line that was read; or the first fault of its bytes
abbrev pub with_read : Result Entry FirstFault → (Entry → List Entry) → Result (List Entry) Refused
with_read (Ok line) trace = Ok (trace line)
with_read (Err fault) trace = Err (refused_line (line_fault fault))

-- The line is at the position afterwards. The position is looked at first, then the limit, then the line.
abbrev pub inserted : ℕ → List Entry → ℕ → List ℕ → Result (List Entry) Refused
inserted limit trace position bytes =
    if is_position position (length trace + 1) then
    (if nat_le limit (length trace) then Err Full else with_read (line_of bytes) (insert trace (position - 1)))
    else Err Position

-- The line at the position is gone.
abbrev pub deleted : List Entry → ℕ → Result (List Entry) Refused
deleted trace position = if is_position position (length trace) then Ok (remove trace (position - 1)) else Err Position

-- Another line is at the position. The position is looked at first, then the line.
abbrev pub replaced : List Entry → ℕ → List ℕ → Result (List Entry) Refused
replaced trace position bytes =
    if is_position position (length trace) then with_read (line_of bytes) (slice_set trace (position - 1))
    else Err Position

-- A list in place of the trace.
abbrev pub loaded : ℕ → List Entry → Result (List Entry) Refused
loaded limit lines = if nat_le (length lines) limit then Ok lines else Err Full

abbrev pub edited : ℕ → List Entry → Edit → Result (List Entry) Refused
edited limit trace (Insert position line) = inserted limit trace position line.now
edited limit trace (Delete position) = deleted trace position
edited limit trace (Replace position line) = replaced trace position line.now

-- ---- edits one after the other, from the left

-- An edit that is refused leaves the trace, and so does one for which memory ran out.
abbrev pub trace_after : List Entry → Bool → Result (List Entry) Refused → List Entry
trace_after trace ran_out (Err e) = trace
trace_after trace true (Ok next) = trace
trace_after trace false (Ok next) = next

-- An accepted edit answers how many lines there are now. Memory runs out only for an edit that isn't refused.
abbrev pub answer : Bool → Result (List Entry) Refused → Result ℕ Refused
answer ran_out (Err e) = Err e
answer true (Ok next) = Err Memory
answer false (Ok next) = Ok (length next)

-- the trace after edits; `ran_out` says for which of them memory ran out
abbrev pub after : ℕ → List Entry → List Edit → List Bool → List Entry
after limit trace (edit ∷ edits) (ran_out ∷ more) =
    after limit (trace_after trace ran_out (edited limit trace edit)) edits more
after limit trace [] _ = trace
after limit trace (edit ∷ edits) [] = trace

-- what each of them answers
abbrev pub answers : ℕ → List Entry → List Edit → List Bool → List (Result ℕ Refused)
answers limit trace (edit ∷ edits) (ran_out ∷ more) =
    answer ran_out (edited limit trace edit)
    ∷ answers limit (trace_after trace ran_out (edited limit trace edit)) edits more
answers limit trace [] _ = []
answers limit trace (edit ∷ edits) [] = []
