-- What a checker keeps of a trace that it was given line by line: the state after it, which only contracts see, how many
-- lines there were, how many lines it answers, and their text. It keeps no line of the trace.
use Rattle.std.specs.Prelude.{◌≡◌, ℕ, List, length}
use Rattle.cap_trace.specs.Entry.{Entry}
use Rattle.cap_machine.specs.declared.cell.Profile.{Profile}
use Rattle.cap_machine.specs.declared.question.Question.{Question}
use Rattle.cap_machine.specs.declared.question.Question.TheVariants.{Findings, Denials}
use Rattle.cap_machine.specs.Steps.{steps}
use Rattle.cap_machine.specs.State.{State, Added}
use Rattle.cap_machine.specs.History.{ended}
use Rattle.cap_machine.specs.Questions.{answer_count, answer_lines}
use Rattle.cap_machine.specs.State.{start_state}

-- What a checker is seen as. What is known after its lines is a list, as of a start: what one would add to the usual
-- start for the same.
pub record CheckerState : Type 0 where
  pub question : Question
  pub profile : Profile
  pub known : List Added
  pub lines : ℕ
  pub said : ℕ
  pub text : List ℕ

-- how many lines it was given
abbrev pub lines_of : CheckerState → ℕ
lines_of checker = checker.lines

-- the checker is asked this of a trace, and was given its lines in this profile, from this start
pub record IsAsked (checker : CheckerState) (question : Question) (profile : Profile) (s : State)
    (trace : List Entry) : Type 0 where
  pub asked : checker.question ≡ question
  pub in_profile : checker.profile ≡ profile
  pub state : start_state checker.known ≡ ended s (steps profile trace)
  pub lines : lines_of checker ≡ length trace
  pub said : checker.said ≡ answer_count question s (steps profile trace)
  pub text : checker.text ≡ answer_lines question s (steps profile trace)

-- the same where it is asked for the findings
abbrev pub HasChecked : CheckerState → Profile → State → List Entry → Type 0
HasChecked checker profile s trace = IsAsked checker Findings profile s trace

-- and where it is asked for the denials
abbrev pub HasDenied : CheckerState → Profile → State → List Entry → Type 0
HasDenied checker profile s trace = IsAsked checker Denials profile s trace
