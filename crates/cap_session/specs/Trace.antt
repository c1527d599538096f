-- The trace that a text spells: a list of entries, or its first refused line.
use Rattle.std.specs.Prelude.{ℕ, ◌==◌, Bool, true, nat_le, List, [], ◌∷◌, ◌++◌, filter, length, not, if◌then◌else◌, Result, Ok, Err}
use Rattle.std.specs.Prelude.{Option}
use Rattle.cap_trace.specs.declared.fault.FirstFault.{FirstFault}
use Rattle.cap_trace.specs.Entry.{Entry}
use Rattle.cap_trace.specs.Reading.{line_of}
use Rattle.cap_trace.specs.Fault.{line_fault}
use Rattle.cap_session.specs.Limits.{most_lines}
use Rattle.cap_session.specs.Lines.{whole_lines}
use Rattle.cap_session.specs.Texts.{whole_text, refused_so_far}
use Rattle.cap_session.specs.Refused.{refused_line}
use Rattle.cap_session.specs.declared.refused.Refusal.{Refusal}
use Rattle.cap_session.specs.declared.refused.Refused.{Refused}
use Rattle.cap_session.specs.declared.refused.Refused.TheVariants.{Full}

-- an empty line, or a comment, which begins with `#`
abbrev pub is_skipped : List ℕ → Bool
is_skipped [] = true
is_skipped (b ∷ line) = b == 35

-- how many lines of a text, each with its LF, are neither empty nor comments
abbrev pub counted_lines : List ℕ → ℕ
counted_lines text = length (filter (λ line. not (is_skipped line)) (whole_lines [] text))

-- the entry of a line comes after the others; a line that spells none is refused with its first fault
abbrev pub with_entry : List Entry → Result Entry FirstFault → Result (List Entry) Refused
with_entry entries (Ok entry) = Ok (entries ++ entry ∷ [])
with_entry entries (Err fault) = Err (refused_line (line_fault fault))

-- A line is skipped; or refused, whatever it holds, where there are as many entries as a trace may have; or read.
unfoldable pub next_entry : List Entry → List ℕ → Result (List Entry) Refused
next_entry entries line =
    if is_skipped line then Ok entries
    else if nat_le most_lines (length entries) then Err Full
    else with_entry entries (line_of line)

-- the entries of a whole text, or its first refused line
abbrev pub trace : List ℕ → Result (List Entry) Refusal
trace = whole_text next_entry []

-- the first refused line of a text whose end isn't reached: one with its LF, or a last piece that is too long
abbrev pub trace_so_far : List ℕ → Option Refusal
trace_so_far = refused_so_far next_entry []
