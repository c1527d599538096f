-- The contract of `edit_stream_from_as`: what a start, a trace and a script have written, and the outcome.
use Rattle.std.specs.Prelude.{◌≡◌, ◌≢◌, ℕ, ◌+◌, ◌≤◌, ◌⊎◌, List, [], Result, Ok, Err, ⊤}
use Rattle.std.specs.Io.KnownBytes.{Consumes}
use Rattle.cap_trace.specs.Entry.{Entry}
use Rattle.cap_session.specs.declared.session.Setting.{Setting}
use Rattle.cap_machine.specs.declared.cell.Profile.{Profile}
use Rattle.cap_session.specs.Devices.{SourceState, SinkState}
use Rattle.cap_session.specs.Lines.{lines}
use Rattle.cap_session.specs.Reads.{IsEnded, NotAtEnd, UsedUp, faults}
use Rattle.cap_session.specs.Replies.{ScriptState, begun}
use Rattle.cap_session.specs.Scripts.{Replied, Broken, script_lines}
use Rattle.cap_session.specs.Settings.{found_by}
use Rattle.cap_session.specs.AnswerStreams.{of_start, of_trace, Rejected, Taken}
use Rattle.cap_session.specs.Outcome.{read_faults}
use Rattle.cap_session.specs.declared.lines.StopReason.{StopReason}
use Rattle.cap_session.specs.declared.lines.StopReason.TheVariants as stops
use Rattle.cap_session.specs.declared.outcome.Outcome.{Outcome}
use Rattle.cap_session.specs.declared.outcome.Outcome.TheVariants.{Clean, Findings, Memory}
use Rattle.cap_session.specs.declared.outcome.Outcome.TheVariants.{ReadFault, WriteFault, TooLong}
use Rattle.cap_session.specs.declared.outcome.ExplainOutcome.TheVariants.{Ended}

-- The writer failed in the replies to the lines of a script, at its end or before, when these bytes of it were given.
abbrev pub IsBroken : Setting → SourceState → SourceState → SinkState → SinkState → List ℕ → ScriptState → Type 0
IsBroken setting s0 s1 w0 w1 given t = (NotAtEnd s0 s1 × Broken setting t w0 w1 (script_lines [] given))
    ⊎ (IsEnded s0 s1 × Broken setting t w0 w1 (lines given))

-- ---- the script: s is its reader, and w the writer

-- What the replies to the lines end with, for the bytes that were given: they work on t, and leave u.
abbrev pub RepliesUntil : {T : Type 0} → Setting → ℕ → SourceState → SourceState → SinkState → SinkState → List ℕ
    → ScriptState → ScriptState → Result T StopReason → Type 0
RepliesUntil setting turns s0 s1 w0 w1 given t u (Ok _) = IsEnded s0 s1 × Replied setting t w0 w1 (lines given) u
RepliesUntil setting turns s0 s1 w0 w1 given t u (Err stops.ReadFault) =
    NotAtEnd s0 s1 × Replied setting t w0 w1 (script_lines [] given) u
RepliesUntil setting turns s0 s1 w0 w1 given t u (Err stops.TooLong) =
    NotAtEnd s0 s1 × UsedUp turns s0 s1 × Replied setting t w0 w1 (script_lines [] given) u
RepliesUntil setting turns s0 s1 w0 w1 given t u (Err stops.WriteFault) = IsBroken setting s0 s1 w0 w1 given t
RepliesUntil setting turns s0 s1 w0 w1 given t u (Err _) = ⊥

-- Some bytes were given, and the replies are those to their lines.
pub record RepliesToAll {T : Type 0} (setting : Setting) (turns : ℕ) (s0 s1 : SourceState) (w0 w1 : SinkState)
    (t u : ScriptState) (result : Result T StopReason) : Type 0 where
  pub given : List ℕ
  pub read : Consumes s0.bytes s1.bytes given
  pub calls : s1.calls ≤ s0.calls + turns
  pub failures : s1.failures ≡ s0.failures + faults result
  pub answer : RepliesUntil setting turns s0 s1 w0 w1 given t u result

-- The outcome of a trace, unless memory runs out.
abbrev pub IsOutcome : Setting → List Entry → Outcome → Type 0
IsOutcome setting u Clean = found_by setting u ≡ []
IsOutcome setting u Findings = found_by setting u ≢ []
IsOutcome setting u Memory = ⊤
IsOutcome setting u _ = ⊥

-- The outcome, for the bytes of the script that were given. At the end it is that of the trace as it then is, unless
-- memory runs out.
abbrev pub ScriptHasOutcome : Setting → ℕ → SourceState → SourceState → SinkState → SinkState → List ℕ → ScriptState
    → ScriptState → Outcome → Type 0
ScriptHasOutcome setting turns s0 s1 w0 w1 given t u Clean =
    IsEnded s0 s1 × Replied setting t w0 w1 (lines given) u × (found_by setting u.trace ≡ [])
ScriptHasOutcome setting turns s0 s1 w0 w1 given t u Findings =
    IsEnded s0 s1 × Replied setting t w0 w1 (lines given) u × (found_by setting u.trace ≢ [])
ScriptHasOutcome setting turns s0 s1 w0 w1 given t u Memory = IsEnded s0 s1 × Replied setting t w0 w1 (lines given) u
ScriptHasOutcome setting turns s0 s1 w0 w1 given t u ReadFault =
    NotAtEnd s0 s1 × Replied setting t w0 w1 (script_lines [] given) u
ScriptHasOutcome setting turns s0 s1 w0 w1 given t u TooLong =
    NotAtEnd s0 s1 × UsedUp turns s0 s1 × Replied setting t w0 w1 (script_lines [] given) u
ScriptHasOutcome setting turns s0 s1 w0 w1 given t u WriteFault = IsBroken setting s0 s1 w0 w1 given t
ScriptHasOutcome setting turns s0 s1 w0 w1 given t u _ = ⊥

-- What replying to a script does.
pub record Replies (setting : Setting) (turns : ℕ) (s0 s1 : SourceState) (w0 w1 : SinkState) (t : ScriptState)
    (outcome : Outcome) : Type 0 where
  pub given : List ℕ
  pub read : Consumes s0.bytes s1.bytes given
  pub calls : s1.calls ≤ s0.calls + turns
  pub read_fault : s1.failures ≡ s0.failures + read_faults outcome
  pub after : ScriptState
  pub answer : ScriptHasOutcome setting turns s0 s1 w0 w1 given t after outcome

-- ---- a trace and a script: r is the reader of the trace, s that of the script, and w the writer

abbrev pub EditStreams : Setting → ℕ → SourceState → SourceState → SourceState → SourceState → SinkState → SinkState
    → Outcome → Type 0
EditStreams setting turns r0 r1 s0 s1 w0 w1 outcome = Rejected of_trace turns r0 r1 s0 s1 w0 w1 (Ended outcome)
    ⊎ Taken of_trace turns r0 r1 (λ entries. Replies setting turns s0 s1 w0 w1 (begun entries) outcome)

-- ---- the whole call: z is the reader of the start

-- A start text, and then a trace and a script, which are by that start. Where the start is refused, neither is read.
abbrev pub EditStartStreams : Profile → ℕ → SourceState → SourceState → SourceState → SourceState → SourceState
    → SourceState → SinkState → SinkState → Outcome → Type 0
EditStartStreams profile turns z0 z1 r0 r1 s0 s1 w0 w1 outcome =
    (Rejected of_start turns z0 z1 r0 r1 w0 w1 (Ended outcome) × (s1 ≡ s0))
    ⊎ Taken of_start turns z0 z1
    (λ start. EditStreams (record { profile = profile; start = start }) turns r0 r1 s0 s1 w0 w1 outcome)
