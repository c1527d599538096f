-- The text of the denials of a trace: a line for each, and how many there are.
use Rattle.std.specs.Prelude.{ℕ, ◌-◌, List, [], ◌∷◌, ◌++◌, length, flat_map, codes, decimal, Option, Some, None}
use Rattle.std.specs.List.{slice_get}
use Rattle.cap_rights.specs.Text.{text}
use Rattle.cap_trace.specs.Entry.{Entry, head_of}
use Rattle.cap_trace.specs.Names.{name_of}
use Rattle.cap_machine.specs.declared.step.Step.{Step}
use Rattle.cap_machine.specs.declared.denial.Denial.{Denial}
use Rattle.cap_machine.specs.declared.denial.Denial.TheVariants.{Lacks, Inside, Unexplained}
use Rattle.cap_machine.specs.declared.denial.Denied.{Denied}
use Rattle.cap_machine.specs.State.{State}
use Rattle.cap_machine.specs.Report.{line_of_words}
use Rattle.cap_machine.specs.Denials.{denials}

-- the word of a denial, and what belongs to it
abbrev pub denial_words : Denial → List (List ℕ)
denial_words (Lacks f lacking) = codes "lacks" ∷ decimal f ∷ text lacking ∷ []
denial_words Inside = codes "inside" ∷ []
denial_words Unexplained = codes "unexplained" ∷ []

-- the position, the pid, the name of the call, and the words of the denial
abbrev pub denial_line : Entry → Denied → List ℕ
denial_line line denied =
    line_of_words (decimal denied.at ∷ decimal line.pid ∷ name_of (head_of line.item) ∷ denial_words denied.denial)

-- the line on a denial, where there is a step at its position
abbrev pub denial_about : Option Step → Denied → List ℕ
denial_about None denied = []
denial_about (Some step) denied = denial_line step.line denied

-- the line on a denial in this trace
abbrev pub denied_line : List Step → Denied → List ℕ
denied_line trace denied = denial_about (slice_get trace (denied.at - 1)) denied

abbrev pub last_denial_line : ℕ → List ℕ
last_denial_line count = line_of_words (codes "denials" ∷ decimal count ∷ [])

-- the text of the denials of a trace
abbrev pub denial_report : State → List Step → List ℕ
denial_report s trace = flat_map (denied_line trace) (denials s trace) ++ last_denial_line (length (denials s trace))

-- three words with a space after each, as a line begins. Only the code's contracts use this.
abbrev pub front_of : List ℕ → List ℕ → List ℕ → List ℕ
front_of at pid name = at ++ 32 ∷ (pid ++ 32 ∷ (name ++ 32 ∷ []))
