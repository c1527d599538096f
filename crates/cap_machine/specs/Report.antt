-- The text of a report: a line for each finding, and how many there are.
use Rattle.std.specs.Prelude.{ℕ, ◌-◌, List, [], ◌∷◌, ◌++◌, length, flat_map, codes, decimal, Option, Some, None}
use Rattle.std.specs.List.{join_with_byte, slice_get}
use Rattle.cap_rights.specs.Text.{text}
use Rattle.cap_trace.specs.Entry.{Entry, head_of}
use Rattle.cap_trace.specs.Names.{name_of}
use Rattle.cap_machine.specs.declared.step.Step.{Step}
use Rattle.cap_machine.specs.declared.verdict.Finding.{Finding}
use Rattle.cap_machine.specs.declared.verdict.Finding.TheVariants.{Forbidden, ModeRefusal, Missing, Expanded, Closed}
use Rattle.cap_machine.specs.declared.verdict.Finding.TheVariants.{Refusal}
use Rattle.cap_machine.specs.declared.verdict.Found.{Found}
use Rattle.cap_machine.specs.State.{State}
use Rattle.cap_machine.specs.Check.{check}

-- the word of a finding, and what belongs to it
abbrev pub finding_words : Finding → List (List ℕ)
finding_words Forbidden = codes "forbidden" ∷ []
finding_words ModeRefusal = codes "moderefusal" ∷ []
finding_words Refusal = codes "refusal" ∷ []
finding_words (Closed f) = codes "closed" ∷ decimal f ∷ []
finding_words (Missing f lacking) = codes "missing" ∷ decimal f ∷ text lacking ∷ []
finding_words (Expanded f lacking) = codes "expanded" ∷ decimal f ∷ text lacking ∷ []

-- words with one space between, and a line feed
abbrev pub line_of_words : List (List ℕ) → List ℕ
line_of_words line = join_with_byte 32 line ++ 10 ∷ []

-- the position, the pid, the name of the call, and the words of the finding
abbrev pub finding_line : Entry → Found → List ℕ
finding_line line found =
    line_of_words (decimal found.at ∷ decimal line.pid ∷ name_of (head_of line.item) ∷ finding_words found.finding)

-- the report's line on a finding, where there is a step at its position
abbrev pub line_about : Option Step → Found → List ℕ
line_about None found = []
line_about (Some step) found = finding_line step.line found

-- the report's line on a finding in this trace
abbrev pub report_line : List Step → Found → List ℕ
report_line trace found = line_about (slice_get trace (found.at - 1)) found

abbrev pub last_line : ℕ → List ℕ
last_line count = line_of_words (codes "findings" ∷ decimal count ∷ [])

-- the report of a trace
abbrev pub report : State → List Step → List ℕ
report s trace = flat_map (report_line trace) (check s trace) ++ last_line (length (check s trace))
