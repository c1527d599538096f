-- What each part of the code of a stream call does. Only the code's contracts use this; Streams, AnswerStreams and
-- EditStreams say what a call answers.
use Rattle.std.specs.Prelude.{◌≡◌, ◌⊎◌, List, ℕ}
use Rattle.cap_session.specs.Devices.{SinkState}
use Rattle.cap_session.specs.Outcome.{refused_as, outcome_of}
use Rattle.cap_session.specs.Refusal.{refusal_text}
use Rattle.cap_session.specs.Writes.{Wrote, WrotePrefix}
use Rattle.cap_session.specs.declared.lines.StopReason.{StopReason}
use Rattle.cap_session.specs.declared.lines.StopReason.TheVariants as stops
use Rattle.cap_session.specs.declared.refused.Input.{Input}
use Rattle.cap_session.specs.declared.outcome.Outcome.{Outcome}
use Rattle.cap_session.specs.declared.outcome.Outcome.TheVariants as outcomes
use Rattle.cap_session.specs.declared.outcome.ExplainOutcome.{ExplainOutcome}
use Rattle.cap_session.specs.declared.outcome.ExplainOutcome.TheVariants.{Ended, OutOfRange}

-- What writing a text does, and what is answered then: this, or that where the writer fails.
abbrev pub Writes : {T : Type 0} → List ℕ → T → T → SinkState → SinkState → T → Type 0
Writes text told fault w0 w1 result = (Wrote w0 w1 text × (result ≡ told)) ⊎ (WrotePrefix w0 w1 text × (result ≡ fault))

-- What ending a call that stopped does and answers: only a refused line is written.
abbrev pub EndsCall : Input → StopReason → SinkState → SinkState → Outcome → Type 0
EndsCall input (stops.Refused e) w0 w1 outcome =
    Writes (refusal_text input e) (refused_as input e) outcomes.WriteFault w0 w1 outcome
EndsCall input stop w0 w1 outcome = (w1 ≡ w0) × (outcome ≡ outcome_of stop)

-- What writing the answer does, which says this of the trace.
abbrev pub WritesAnswer : (ExplainOutcome → List ℕ → Type 0) → SinkState → SinkState → ExplainOutcome → Type 0
WritesAnswer says w0 w1 (Ended outcomes.Clean) = (text : List ℕ) × Wrote w0 w1 text × says (Ended outcomes.Clean) text
WritesAnswer says w0 w1 (Ended outcomes.Findings) =
    (text : List ℕ) × Wrote w0 w1 text × says (Ended outcomes.Findings) text
WritesAnswer says w0 w1 OutOfRange = (text : List ℕ) × Wrote w0 w1 text × says OutOfRange text
WritesAnswer says w0 w1 (Ended outcomes.Memory) = w1 ≡ w0
WritesAnswer says w0 w1 (Ended outcomes.WriteFault) =
    (o : ExplainOutcome) × (text : List ℕ) × WrotePrefix w0 w1 text × says o text
WritesAnswer says w0 w1 _ = ⊥
