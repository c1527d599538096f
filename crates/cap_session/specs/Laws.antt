-- What holds of a text and its pieces, and of explanations.
use Rattle.std.specs.Prelude.{◌≡◌, ◌⊎◌, ℕ, List, [], ◌++◌, map, Ok, Err, Some, ⊤}
use Rattle.cap_trace.specs.Entry.{Entry}
use Rattle.cap_machine.specs.declared.cell.Profile.{Profile}
use Rattle.cap_machine.specs.declared.question.Question.{Question}
use Rattle.cap_machine.specs.Questions.{answer, IsNothing}
use Rattle.cap_machine.specs.Steps.{steps}
use Rattle.cap_machine.specs.State.{State}
use Rattle.cap_machine.specs.declared.step.Step.{Step}
use Rattle.cap_machine.specs.Check.{found_at}
use Rattle.cap_machine.specs.Explain.{Explained, explanation}
use Rattle.cap_session.specs.Devices.{SourceState, SinkState}
use Rattle.cap_session.specs.Trace.{trace, trace_so_far}
use Rattle.cap_session.specs.Reads.{IsEnded}
use Rattle.cap_session.specs.Outcome.{refused_as}
use Rattle.cap_session.specs.Refusal.{refusal_text}
use Rattle.cap_session.specs.Shown.{found_in}
use Rattle.cap_session.specs.AnswerStreams.{IsPrefix}
use Rattle.cap_session.specs.Streams.{AskedStreams}
use Rattle.cap_session.specs.declared.refused.Input.TheVariants.{Trace}
use Rattle.cap_session.specs.declared.refused.Refusal.{Refusal}
use Rattle.cap_session.specs.declared.outcome.Outcome.{Outcome}
use Rattle.cap_session.specs.declared.outcome.Outcome.TheVariants.{Clean, Findings, Refused, StartRefused, Memory}
use Rattle.cap_session.specs.declared.outcome.Outcome.TheVariants.{WriteFault}

-- The first refused line of a beginning is that of the text, whatever follows, and whether or not the end was reached.
abbrev pub BeginningDecides : Type 0
BeginningDecides = (begin rest : List ℕ) (e : Refusal) → trace_so_far begin ≡ Some e
    → (trace_so_far (begin ++ rest) ≡ Some e) × (trace (begin ++ rest) ≡ Err e)

-- An outcome for a good trace: what is asked is answered, unless memory runs out or the writer fails. No other outcome
-- comes.
abbrev pub Reports : Question → Profile → State → List Entry → List ℕ → Outcome → Type 0
Reports question profile start entries written Clean =
    IsNothing question start (steps profile entries) × (written ≡ answer question start (steps profile entries))
Reports question profile start entries written Findings =
    (IsNothing question start (steps profile entries) → ⊥) × (written ≡ answer question start (steps profile entries))
Reports question profile start entries written Memory = written ≡ []
Reports question profile start entries written WriteFault = IsPrefix written (answer question start (steps profile entries))
Reports question profile start entries written _ = ⊥

-- An outcome for a refused line: it is written, unless the writer fails. No other outcome comes.
abbrev pub RefusesLine : Refusal → List ℕ → Outcome → Type 0
RefusesLine e written WriteFault = IsPrefix written (refusal_text Trace e)
RefusesLine e written outcome = (outcome ≡ refused_as Trace e) × (written ≡ refusal_text Trace e)

-- Where the end was reached and no line is refused, the call reports.
abbrev pub GoodIsReported : Type 0
GoodIsReported = (question : Question) (profile : Profile) (start : State) (turns : ℕ) (r0 r1 : SourceState)
    (w0 w1 : SinkState) (o : Outcome) (entries : List Entry) →
    (call : AskedStreams question profile start turns r0 r1 w0 w1 o) → IsEnded r0 r1 → trace call.given ≡ Ok entries
    → Reports question profile start entries call.written o

-- Where a line is refused, before the end or at it, the call answers with that line.
abbrev pub BadIsRefused : Type 0
BadIsRefused = (question : Question) (profile : Profile) (start : State) (turns : ℕ) (r0 r1 : SourceState)
    (w0 w1 : SinkState) (o : Outcome) (e : Refusal) →
    (call : AskedStreams question profile start turns r0 r1 w0 w1 o)
    → (trace_so_far call.given ≡ Some e) ⊎ (IsEnded r0 r1 × (trace call.given ≡ Err e)) → RefusesLine e call.written o

-- The answer to a whole text, in an outcome that is one: the others say nothing of the text.
abbrev pub IsAnswer : Question → Profile → State → List ℕ → List ℕ → Outcome → Type 0
IsAnswer question profile start text written Clean = (entries : List Entry) × (trace text ≡ Ok entries)
    × IsNothing question start (steps profile entries) × (written ≡ answer question start (steps profile entries))
IsAnswer question profile start text written Findings = (entries : List Entry) × (trace text ≡ Ok entries)
    × (IsNothing question start (steps profile entries) → ⊥) × (written ≡ answer question start (steps profile entries))
IsAnswer question profile start text written (Refused code line) = (e : Refusal) × (trace text ≡ Err e)
    × (Refused code line ≡ refused_as Trace e) × (written ≡ refusal_text Trace e)
IsAnswer question profile start text written (StartRefused code line) = ⊥
IsAnswer question profile start text written _ = ⊤

-- Any pieces give the same: an answer is that of the whole text that the reader had, however it was cut and however far
-- it was read.
abbrev pub PiecesAgree : Type 0
PiecesAgree = (question : Question) (profile : Profile) (start : State) (turns : ℕ) (r0 r1 : SourceState)
    (w0 w1 : SinkState) (o : Outcome) (text : List ℕ) →
    (call : AskedStreams question profile start turns r0 r1 w0 w1 o) → r0.bytes ≡ Some text
    → IsAnswer question profile start text call.written o

-- The findings of an explanation are those of the check of the whole trace at that position.
abbrev pub ExplainsWhatIsReported : Type 0
ExplainsWhatIsReported = (s : State) (trace : List Step) (k : ℕ) (e : Explained) → explanation s trace k ≡ Some e
    → found_in s trace k k ≡ map (found_at k) e.findings
