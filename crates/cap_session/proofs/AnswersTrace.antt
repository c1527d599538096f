-- What is read of a text and what is answered of it, together.
use Rattle.std.proofs.Common.{◌≡◌, ℕ, Bool, true, false, List, [], refl, ap, inl, inr, subst, arith}
use Rattle.std.specs.Io.KnownBytes.{Appends}
use Rattle.std.specs.Prelude.{Err, Ok, Result, ◌+◌}
use Rattle.cap_trace.specs.Entry.{Entry}
use Rattle.cap_session.specs.AnswerStreams.{Kind, of_trace, SaysOf, Says, nothing, IsAnswer, NamesLine, HasOutcome}
use Rattle.cap_session.specs.AnswerStreams.{AnswerStreams, Rejected, Taken}
use Rattle.cap_session.specs.Devices.{SourceState, SinkState}
use Rattle.cap_session.specs.Outcome.{found, refused_as, explain_read_faults, explain_write_faults}
use Rattle.cap_session.specs.Trace.{trace, trace_so_far, next_entry}
use Rattle.cap_session.specs.Reads.{Reads, IsEnded, IsGood, faults}
use Rattle.cap_session.specs.Refusal.{refusal_text}
use Rattle.cap_session.specs.Code.Works.{EndsCall, Writes, WritesAnswer}
use Rattle.cap_session.specs.Writes.{Wrote}
use Rattle.cap_session.specs.declared.refused.Input.{Input}
use Rattle.cap_session.specs.declared.refused.Input.TheVariants as inputs
use Rattle.cap_session.specs.declared.refused.Refusal.{Refusal}
use Rattle.cap_session.specs.declared.lines.StopReason.{StopReason}
use Rattle.cap_session.specs.declared.lines.StopReason.TheVariants as stops
use Rattle.cap_session.specs.declared.outcome.Outcome.{Outcome}
use Rattle.cap_session.specs.declared.outcome.Outcome.TheVariants.{Clean, Findings, Refused, StartRefused, Memory}
use Rattle.cap_session.specs.declared.outcome.Outcome.TheVariants.{ReadFault, WriteFault, TooLong}
use Rattle.cap_session.specs.declared.outcome.ExplainOutcome.{ExplainOutcome}
use Rattle.cap_session.specs.declared.outcome.ExplainOutcome.TheVariants.{Ended, OutOfRange}
use Rattle.cap_session.proofs.Calls.{appends_none}
use Rattle.cap_session.proofs.ReadsAs.{reads_as}
use Rattle.cap_session.proofs.SoFar.{good_so_far}
use Rattle.cap_session.proofs.Texted.{goes_nowhere}

-- no line is refused of a text that is a trace
good_trace : {T : Type 0} (holds : T → List Entry → Type 0) (turns : ℕ) (r0 r1 : SourceState) (x : T)
    → (r : Reads trace trace_so_far holds turns r0 r1 (Ok x)) → IsGood trace trace_so_far (IsEnded r0 r1) r.given
good_trace holds turns r0 r1 x r = record {
  before = good_so_far next_entry [] r.answer.1.0 r.given r.answer.1.1;
  at_end = λ end. rw r.answer.1.1 refl;
}

-- ---- reading it stopped

-- the outcome of a refused line is one of two
by_input : (input : Input) (e : Refusal) (P : Outcome → Type 0) → ((code line : ℕ) → P (Refused code line))
    → ((code line : ℕ) → P (StartRefused code line)) → P (refused_as input e)
by_input inputs.Start e P trace start = start _ _
by_input inputs.Trace e P trace start = trace _ _

module _ {A : Type 0} (kind : Kind A) (says : SaysOf A) (turns : ℕ) (r0 r1 : SourceState) (w0 w1 : SinkState)
    {T : Type 0} (holds : T → A → Type 0) where
  -- what was read and what was written, with the outcome
  streams : (o : ExplainOutcome) (x : Result T StopReason) (written : List ℕ)
      → (r : Reads kind.whole kind.so_far holds turns r0 r1 x) → Appends w0.taken w1.taken written
      → explain_read_faults o ≡ faults x → w1.failures ≡ w0.failures + explain_write_faults o
      → HasOutcome kind says turns r0 r1 r.given written o → AnswerStreams kind says turns r0 r1 w0 w1 o
  streams o x written r wrote reads writes answer = record {
    given = r.given;
    read = r.read;
    calls = r.calls;
    written = written;
    wrote = wrote;
    read_fault = rw reads r.failures;
    write_fault = writes;
    answer = answer;
  }

  -- nothing was written
  silent : (o : ExplainOutcome) (x : Result T StopReason) → (r : Reads kind.whole kind.so_far holds turns r0 r1 x)
      → w1 ≡ w0 → explain_read_faults o ≡ faults x → explain_write_faults o ≡ 0
      → HasOutcome kind says turns r0 r1 r.given [] o → AnswerStreams kind says turns r0 r1 w0 w1 o
  silent o x r kept reads writes answer =
      let same : w1.failures ≡ w0.failures = ap (λ (s : SinkState). s.failures) kept in
      streams o x [] r (rw kept (appends_none w0.taken)) reads (omega (arith, writes)) answer

  line_refused : (e : Refusal) (o : Outcome) → Reads kind.whole kind.so_far holds turns r0 r1 (Err (stops.Refused e))
      → Writes (refusal_text kind.input e) (refused_as kind.input e) WriteFault w0 w1 o
      → AnswerStreams kind says turns r0 r1 w0 w1 (Ended o)
  line_refused e o r (inl w) =
      let same = w.0.failures in
      let text = refusal_text kind.input e in
      let names : (outcome : Outcome) → outcome ≡ refused_as kind.input e
      → NamesLine kind (IsEnded r0 r1) r.given text outcome = λ outcome is.
      record { refusal = e; says = record { line = r.answer; is = refl }; is = is } in
      rw w.1 (by_input kind.input e (λ (outcome : Outcome). outcome ≡ refused_as kind.input e
      → AnswerStreams kind says turns r0 r1 w0 w1 (Ended outcome))
      (λ code line is. streams (Ended (Refused code line)) _ text r w.0.taken refl (omega arith) (names _ is))
      (λ code line is. streams (Ended (StartRefused code line)) _ text r w.0.taken refl (omega arith) (names _ is)) refl)
  line_refused e o r (inr w) = rw w.1 (streams (Ended WriteFault) _ w.0.front r w.0.taken refl w.0.failures
      (refusal_text kind.input e, (w.0.rest, w.0.cut), inr (e, record { line = r.answer; is = refl })))

  pub answer_stopped : (stop : StopReason) (o : Outcome) → Reads kind.whole kind.so_far holds turns r0 r1 (Err stop)
      → EndsCall kind.input stop w0 w1 o → AnswerStreams kind says turns r0 r1 w0 w1 (Ended o)
  answer_stopped (stops.Refused e) o r w = line_refused e o r w
  answer_stopped stops.Memory o r w =
      rw w.1 (silent (Ended Memory) _ r w.0 refl refl (record { good = r.answer; silent = refl }))
  answer_stopped stops.ReadFault o r w = rw w.1 (silent (Ended ReadFault) _ r w.0 refl refl
      (record { going = r.answer.0; good = r.answer.1; silent = refl }))
  answer_stopped stops.TooLong o r w = rw w.1 (silent (Ended TooLong) _ r w.0 refl refl
      (record { going = r.answer.0; good = r.answer.1; silent = refl }, r.answer.2))
  answer_stopped stops.WriteFault o r w = absurd r.answer

-- memory ran out before the first read
pub nothing_read : (says : Says) (turns : ℕ) (r : SourceState) (w : SinkState)
    → AnswerStreams of_trace says turns r r w w (Ended Memory)
nothing_read says turns r w =
    let holds : List Entry → List Entry → Type 0 = λ lines known. known ≡ [] in
    let follows : List Entry → Type 0 = λ known. known ≡ [] in
    answer_stopped of_trace says turns r r w w holds stops.Memory Memory
    (goes_nowhere next_entry follows holds turns r [] refl) (refl, refl)

-- ---- the trace was read to its end

module _ (says : Says) {T : Type 0} (holds : T → List Entry → Type 0) (turns : ℕ) (r0 r1 : SourceState)
    (w0 w1 : SinkState) (x : T) (r : Reads trace trace_so_far holds turns r0 r1 (Ok x)) where
  is_answer : (o : ExplainOutcome) (text : List ℕ) → says r.answer.1.0 o text
      → IsAnswer of_trace says (IsEnded r0 r1) r.given text o
  is_answer o text said =
      record { end = r.answer.0; known = r.answer.1.0; good = r.answer.1.1; is = said }

  -- a text was written in an outcome that is no fault
  told : (o : ExplainOutcome) (text : List ℕ) → explain_read_faults o ≡ 0 → explain_write_faults o ≡ 0
      → Wrote w0 w1 text → HasOutcome of_trace says turns r0 r1 r.given text o
      → AnswerStreams of_trace says turns r0 r1 w0 w1 o
  told o text reads writes w answer =
      let same = w.failures in
      streams of_trace says turns r0 r1 w0 w1 holds o (Ok x) text r w.taken reads (omega (arith, writes)) answer

  pub answered : (o : ExplainOutcome) → WritesAnswer (says r.answer.1.0) w0 w1 o
      → AnswerStreams of_trace says turns r0 r1 w0 w1 o
  answered (Ended Clean) w = told (Ended Clean) w.0 refl refl w.1 (is_answer (Ended Clean) w.0 w.2)
  answered (Ended Findings) w = told (Ended Findings) w.0 refl refl w.1 (is_answer (Ended Findings) w.0 w.2)
  answered OutOfRange w = told OutOfRange w.0 refl refl w.1 (is_answer OutOfRange w.0 w.2)
  answered (Ended Memory) w = silent of_trace says turns r0 r1 w0 w1 holds (Ended Memory) (Ok x) r w refl refl
      (record { good = good_trace holds turns r0 r1 x r; silent = refl })
  answered (Ended WriteFault) w =
      let (o, text, wrote, is) = w in
      streams of_trace says turns r0 r1 w0 w1 holds (Ended WriteFault) (Ok x) wrote.front r wrote.taken refl
      wrote.failures (text, (wrote.rest, wrote.cut), inl (o, is_answer o text is))
  answered (Ended (Refused code line)) w = absurd w
  answered (Ended (StartRefused code line)) w = absurd w
  answered (Ended ReadFault) w = absurd w
  answered (Ended TooLong) w = absurd w

-- ---- the answer was written

-- a text that says that there is no finding, or that there are some
pub answer_written : (says : ExplainOutcome → List ℕ → Type 0) (text : List ℕ) (clean : Bool) (told : Outcome)
    (w0 w1 : SinkState) (o : Outcome) → told ≡ found clean → says (Ended (found clean)) text
    → Writes text told WriteFault w0 w1 o → WritesAnswer says w0 w1 (Ended o)
answer_written says text true told w0 w1 o by is (inl w) = rw (w.1, by) (text, w.0, is)
answer_written says text false told w0 w1 o by is (inl w) = rw (w.1, by) (text, w.0, is)
answer_written says text clean told w0 w1 o by is (inr w) = rw w.1 (Ended (found clean), text, w.0, is)

-- that there is no such line
pub none_written : (says : ExplainOutcome → List ℕ → Type 0) (text : List ℕ) (w0 w1 : SinkState) (o : ExplainOutcome)
    → says OutOfRange text → Writes text OutOfRange (Ended WriteFault) w0 w1 o → WritesAnswer says w0 w1 o
none_written says text w0 w1 o is (inl w) = rw w.1 (text, w.0, is)
none_written says text w0 w1 o is (inr w) = rw w.1 (OutOfRange, text, w.0, is)

-- ---- two texts

module _ {A : Type 0} (kind : Kind A) {T : Type 0} (holds : T → A → Type 0) (turns : ℕ) (x0 x1 : SourceState) where
  -- reading the first stopped
  pub first_rejected : (y : SourceState) (w0 w1 : SinkState) (stop : StopReason) (o : Outcome)
      → Reads kind.whole kind.so_far holds turns x0 x1 (Err stop) → EndsCall kind.input stop w0 w1 o
      → Rejected kind turns x0 x1 y y w0 w1 (Ended o)
  first_rejected y w0 w1 stop o r w =
      record { stopped = answer_stopped kind nothing turns x0 x1 w0 w1 holds stop o r w; unread = refl }

  -- the first was read to its end, and then this was done
  pub first_taken : (x : T) (then : A → Type 0) (a : A) → Reads kind.whole kind.so_far holds turns x0 x1 (Ok x)
      → ((known : A) → holds x known → a ≡ known) → then a → Taken kind turns x0 x1 then
  first_taken x then a r is done =
      let same = r.failures in
      record {
        given = r.given;
        read = r.read;
        calls = r.calls;
        failures = omega arith;
        end = r.answer.0;
        known = r.answer.1.0;
        good = r.answer.1.1;
        done = subst then (is r.answer.1.0 r.answer.1.2) done;
      }

-- the trace was read to its end, and memory ran out before anything was done
pub not_loaded : {T : Type 0} (holds : T → List Entry → Type 0) (turns : ℕ) (x0 x1 y : SourceState) (w : SinkState)
    (x : T) → Reads trace trace_so_far holds turns x0 x1 (Ok x) → Rejected of_trace turns x0 x1 y y w w (Ended Memory)
not_loaded holds turns x0 x1 y w x r =
    first_rejected of_trace holds turns x0 x1 y w w stops.Memory Memory
    (reads_as r refl (good_trace holds turns x0 x1 x r)) (refl, refl)
