-- The contract of a stream call that asks for the findings of a trace or for its denials: for the bytes that its reader
-- gave, what was written, and the outcome. A check asks for the findings.
use Rattle.std.specs.Prelude.{◌≡◌, ℕ, List}
use Rattle.cap_machine.specs.declared.cell.Profile.{Profile}
use Rattle.cap_machine.specs.declared.question.Question.{Question}
use Rattle.cap_machine.specs.declared.question.Question.TheVariants as questions
use Rattle.cap_machine.specs.Questions.{answer, IsNothing}
use Rattle.cap_machine.specs.Steps.{steps}
use Rattle.cap_machine.specs.State.{State, Added, start_state}
use Rattle.cap_session.specs.AnswerStreams.{Says, of_trace, AnswerStreams, AnswerStartStreams}
use Rattle.cap_session.specs.Devices.{SourceState, SinkState}
use Rattle.cap_session.specs.declared.outcome.Outcome.{Outcome}
use Rattle.cap_session.specs.declared.outcome.Outcome.TheVariants.{Clean, Findings}
use Rattle.cap_session.specs.declared.outcome.ExplainOutcome.TheVariants.{Ended}

-- the text answers the question, and the outcome is clean where there is nothing to answer
abbrev pub asked_says : Question → Profile → State → Says
asked_says question profile start t (Ended Clean) text =
    (text ≡ answer question start (steps profile t)) × IsNothing question start (steps profile t)
asked_says question profile start t (Ended Findings) text =
    (text ≡ answer question start (steps profile t)) × (IsNothing question start (steps profile t) → ⊥)
asked_says question profile start t _ text = ⊥

-- this was asked of a trace in a profile, under a start
abbrev pub AskedStreams : Question → Profile → State → ℕ → SourceState → SourceState → SinkState → SinkState → Outcome
    → Type 0
AskedStreams question profile start turns r0 r1 w0 w1 outcome =
    AnswerStreams of_trace (asked_says question profile start) turns r0 r1 w0 w1 (Ended outcome)

abbrev pub Streams : Profile → State → ℕ → SourceState → SourceState → SinkState → SinkState → Outcome → Type 0
Streams profile start turns r0 r1 w0 w1 outcome =
    AskedStreams questions.Findings profile start turns r0 r1 w0 w1 outcome

-- ---- from a start text: z is the reader of the start, r that of the trace, and w the writer

abbrev pub asked_from : Question → Profile → List Added → Says
asked_from question profile = λ (start : List Added). asked_says question profile (start_state start)

abbrev pub AskedStartStreams : Question → Profile → ℕ → SourceState → SourceState → SourceState → SourceState → SinkState
    → SinkState → Outcome → Type 0
AskedStartStreams question profile turns z0 z1 r0 r1 w0 w1 outcome =
    AnswerStartStreams (asked_from question profile) turns z0 z1 r0 r1 w0 w1 (Ended outcome)

abbrev pub StartStreams : Profile → ℕ → SourceState → SourceState → SourceState → SourceState → SinkState → SinkState
    → Outcome → Type 0
StartStreams profile turns z0 z1 r0 r1 w0 w1 outcome =
    AskedStartStreams questions.Findings profile turns z0 z1 r0 r1 w0 w1 outcome
