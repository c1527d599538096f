-- What a checker is asked about a trace, and the text that answers it.
use Rattle.std.specs.Prelude.{◌≡◌, ℕ, List, [], length, flat_map}
use Rattle.cap_trace.specs.Entry.{Entry}
use Rattle.cap_machine.specs.declared.question.Question.{Question}
use Rattle.cap_machine.specs.declared.question.Question.TheVariants.{Findings, Denials}
use Rattle.cap_machine.specs.declared.step.Step.{Step}
use Rattle.cap_machine.specs.State.{State}
use Rattle.cap_machine.specs.Rule.{requirement}
use Rattle.cap_machine.specs.Check.{check, findings_of, found_at}
use Rattle.cap_machine.specs.Report.{report, report_line, finding_line, last_line}
use Rattle.cap_machine.specs.Denials.{denials, denied_of, denied_at}
use Rattle.cap_machine.specs.DenialReport.{denial_report, denied_line, denial_line, last_denial_line}

-- ---- of a trace

-- the text that answers the question
abbrev pub answer : Question → State → List Step → List ℕ
answer Findings s trace = report s trace
answer Denials s trace = denial_report s trace

-- how many lines it has before its last one
abbrev pub answer_count : Question → State → List Step → ℕ
answer_count Findings s trace = length (check s trace)
answer_count Denials s trace = length (denials s trace)

-- and these lines
abbrev pub answer_lines : Question → State → List Step → List ℕ
answer_lines Findings s trace = flat_map (report_line trace) (check s trace)
answer_lines Denials s trace = flat_map (denied_line trace) (denials s trace)

-- it has none
abbrev pub IsNothing : Question → State → List Step → Type 0
IsNothing Findings s trace = check s trace ≡ []
IsNothing Denials s trace = denials s trace ≡ []

-- ---- of one line, with the state before it. Only the code's contracts use these.

abbrev pub line_count : Question → Entry → State → ℕ
line_count Findings line s = length (findings_of (requirement line) line.pid s)
line_count Denials line s = length (denied_of (requirement line) line.pid s)

-- the lines about the one at a position
abbrev pub line_text : Question → ℕ → Entry → State → List ℕ
line_text Findings at line s = flat_map (λ f. finding_line line (found_at at f))
    (findings_of (requirement line) line.pid s)
line_text Denials at line s = flat_map (λ d. denial_line line (denied_at at d))
    (denied_of (requirement line) line.pid s)

abbrev pub LineHasNoEntry : Question → Entry → State → Type 0
LineHasNoEntry Findings line s = findings_of (requirement line) line.pid s ≡ []
LineHasNoEntry Denials line s = denied_of (requirement line) line.pid s ≡ []

abbrev pub last_text : Question → ℕ → List ℕ
last_text Findings count = last_line count
last_text Denials count = last_denial_line count
