-- The replies to a script, and how it ended.
use Rattle.std.proofs.Common.{◌≡◌, ℕ, List, refl, inr, subst}
use Rattle.std.specs.Prelude.{Err, Ok, Result}
use Rattle.cap_trace.specs.Entry.{Entry}
use Rattle.cap_session.specs.Replies.{ScriptState, begun}
use Rattle.cap_session.specs.declared.session.Setting.{Setting}
use Rattle.cap_session.specs.Devices.{SourceState, SinkState}
use Rattle.cap_session.specs.Outcome.{outcome_of, read_faults}
use Rattle.cap_session.specs.AnswerStreams.{of_trace}
use Rattle.cap_session.specs.EditStreams.{EditStreams, RepliesToAll, Replies, IsOutcome, ScriptHasOutcome}
use Rattle.cap_session.specs.Reads.{Reads, faults}
use Rattle.cap_session.specs.Trace.{trace, trace_so_far}
use Rattle.cap_session.specs.declared.lines.StopReason.{StopReason}
use Rattle.cap_session.specs.declared.lines.StopReason.TheVariants as stops
use Rattle.cap_session.specs.declared.outcome.Outcome.{Outcome}
use Rattle.cap_session.specs.declared.outcome.Outcome.TheVariants.{Clean, Findings, Refused, StartRefused, Memory}
use Rattle.cap_session.specs.declared.outcome.Outcome.TheVariants.{ReadFault, WriteFault, TooLong}
use Rattle.cap_session.proofs.AnswersTrace.{first_taken}

module _ (setting : Setting) (turns : ℕ) (s0 s1 : SourceState) (w0 w1 : SinkState) (t u : ScriptState)
    {T : Type 0} where
  -- an outcome of replies that says what their answer says
  replies : (x : Result T StopReason) (o : Outcome) → (r : RepliesToAll setting turns s0 s1 w0 w1 t u x)
      → read_faults o ≡ faults x → ScriptHasOutcome setting turns s0 s1 w0 w1 r.given t u o
      → Replies setting turns s0 s1 w0 w1 t o
  replies x o r same answer = record {
    given = r.given;
    read = r.read;
    calls = r.calls;
    read_fault = rw same r.failures;
    after = u;
    answer = answer;
  }

  -- the script was replied to, or that stopped
  pub replied : (x : T) (o : Outcome) → RepliesToAll setting turns s0 s1 w0 w1 t u (Ok x) → IsOutcome setting u.trace o
      → Replies setting turns s0 s1 w0 w1 t o
  replied x Clean r is = replies (Ok x) Clean r refl (r.answer.0, r.answer.1, is)
  replied x Findings r is = replies (Ok x) Findings r refl (r.answer.0, r.answer.1, is)
  replied x Memory r is = replies (Ok x) Memory r refl r.answer
  replied x (Refused code line) r is = absurd is
  replied x (StartRefused code line) r is = absurd is
  replied x ReadFault r is = absurd is
  replied x WriteFault r is = absurd is
  replied x TooLong r is = absurd is

  pub stopped : (stop : StopReason) (o : Outcome) → RepliesToAll {T = T} setting turns s0 s1 w0 w1 t u (Err stop)
      → o ≡ outcome_of stop → Replies setting turns s0 s1 w0 w1 t o
  stopped stops.ReadFault o r is = rw is (replies (Err stops.ReadFault) ReadFault r refl r.answer)
  stopped stops.WriteFault o r is = rw is (replies (Err stops.WriteFault) WriteFault r refl r.answer)
  stopped stops.TooLong o r is = rw is (replies (Err stops.TooLong) TooLong r refl r.answer)
  stopped stops.Memory o r is = absurd r.answer
  stopped (stops.Refused e) o r is = absurd r.answer

-- the trace was read to its end, and the script replied to
pub script_taken : {T : Type 0} (setting : Setting) (holds : T → List Entry → Type 0) (turns : ℕ)
    (r0 r1 s0 s1 : SourceState) (w0 w1 : SinkState) (x : T) (p : Setting) (t : List Entry) (o : Outcome)
    → Reads trace trace_so_far holds turns r0 r1 (Ok x) → ((known : List Entry) → holds x known → (p ≡ setting) × (t ≡ known))
    → Replies p turns s0 s1 w0 w1 (begun t) o → EditStreams setting turns r0 r1 s0 s1 w0 w1 o
script_taken setting holds turns r0 r1 s0 s1 w0 w1 x p t o r is script =
    let kept = is r.answer.1.0 r.answer.1.2 in
    inr (first_taken of_trace holds turns r0 r1 x (λ (entries : List Entry). Replies setting turns s0 s1 w0 w1 (begun entries) o) t
    r (λ known here. (is known here).1) (subst (λ (q : Setting). Replies q turns s0 s1 w0 w1 (begun t) o) kept.0 script))
