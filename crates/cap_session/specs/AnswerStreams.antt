-- The contract of a call that reads a text and then answers of it: for the bytes that its reader gave, what was written,
-- and the outcome. What it says of the text is a parameter: in which outcome which text.
use Rattle.std.specs.Prelude.{◌≡◌, ℕ, ◌+◌, ◌≤◌, ◌⊎◌, List, [], ◌++◌, Result, Ok, Option, None}
use Rattle.std.specs.Io.KnownBytes.{Consumes, Appends}
use Rattle.cap_trace.specs.Entry.{Entry}
use Rattle.cap_machine.specs.State.{Added}
use Rattle.cap_session.specs.Devices.{SourceState, SinkState}
use Rattle.cap_session.specs.Outcome.{refused_as, explain_read_faults, explain_write_faults}
use Rattle.cap_session.specs.Reads.{IsEnded, NotAtEnd, UsedUp, IsGood, IsRefused}
use Rattle.cap_session.specs.Refusal.{refusal_text}
use Rattle.cap_session.specs.StartTexts.{described_by, start_so_far}
use Rattle.cap_session.specs.Trace.{trace, trace_so_far}
use Rattle.cap_session.specs.declared.refused.Input.{Input}
use Rattle.cap_session.specs.declared.refused.Input.TheVariants as inputs
use Rattle.cap_session.specs.declared.refused.Refusal.{Refusal}
use Rattle.cap_session.specs.declared.outcome.Outcome.{Outcome}
use Rattle.cap_session.specs.declared.outcome.Outcome.TheVariants as outcomes
use Rattle.cap_session.specs.declared.outcome.ExplainOutcome.{ExplainOutcome}
use Rattle.cap_session.specs.declared.outcome.ExplainOutcome.TheVariants.{Ended, OutOfRange}

-- ---- the texts that are read

-- A kind of text: what a whole one holds, or its first refused line; and that line where the end isn't reached.
pub record Kind (A : Type 0) : Type 0 where
  pub whole : List ℕ → Result A Refusal
  pub so_far : List ℕ → Option Refusal
  pub input : Input

abbrev pub of_trace : Kind (List Entry)
of_trace = record { whole = trace; so_far = trace_so_far; input = inputs.Trace }

abbrev pub of_start : Kind (List Added)
of_start = record { whole = described_by; so_far = start_so_far; input = inputs.Start }

-- ---- what is written

-- what may be written of what a text holds, in an outcome that says something of it
abbrev pub SaysOf : Type 0 → Type 1
SaysOf A = A → ExplainOutcome → List ℕ → Type 0

abbrev pub Says : Type 1
Says = SaysOf (List Entry)

abbrev pub nothing : {A : Type 0} → SaysOf A
nothing known outcome text = ⊥

-- The end was reached, no line of what was given is refused, and the text is one that is to be written.
pub record IsAnswer {A : Type 0} (kind : Kind A) (says : SaysOf A) (ended : Type 0) (given text : List ℕ)
    (outcome : ExplainOutcome) : Type 0 where
  pub end : ended
  pub known : A
  pub good : kind.whole given ≡ Ok known
  pub is : says known outcome text

-- A line of what was given is refused, and the text says so.
pub record IsRefusal {A : Type 0} (kind : Kind A) (ended : Type 0) (given text : List ℕ) (e : Refusal) : Type 0 where
  pub line : IsRefused kind.whole kind.so_far ended given e
  pub is : text ≡ refusal_text kind.input e

-- A line of what was given is refused, the text says so, and the outcome has the code of that line and its number.
pub record NamesLine {A : Type 0} (kind : Kind A) (ended : Type 0) (given text : List ℕ) (outcome : Outcome)
    : Type 0 where
  pub refusal : Refusal
  pub says : IsRefusal kind ended given text refusal
  pub is : outcome ≡ refused_as kind.input refusal

-- No line of what was given is refused, and nothing was written.
pub record IsSilent {A : Type 0} (kind : Kind A) (ended : Type 0) (given written : List ℕ) : Type 0 where
  pub good : IsGood kind.whole kind.so_far ended given
  pub silent : written ≡ []

-- Reading stopped before the end and before a refused line, and nothing was written.
pub record IsOpen {A : Type 0} (kind : Kind A) (old new : SourceState) (given written : List ℕ) : Type 0 where
  pub going : NotAtEnd old new
  pub good : kind.so_far given ≡ None
  pub silent : written ≡ []

-- the text begins so
abbrev pub IsPrefix : List ℕ → List ℕ → Type 0
IsPrefix written text = (rest : List ℕ) × (text ≡ written ++ rest)

-- the outcome, for what was given and written
abbrev pub HasOutcome : {A : Type 0} → Kind A → SaysOf A → ℕ → SourceState → SourceState → List ℕ → List ℕ
    → ExplainOutcome → Type 0
HasOutcome kind says turns old new given written (Ended outcomes.Clean) =
    IsAnswer kind says (IsEnded old new) given written (Ended outcomes.Clean)
HasOutcome kind says turns old new given written (Ended outcomes.Findings) =
    IsAnswer kind says (IsEnded old new) given written (Ended outcomes.Findings)
HasOutcome kind says turns old new given written OutOfRange =
    IsAnswer kind says (IsEnded old new) given written OutOfRange
HasOutcome kind says turns old new given written (Ended (outcomes.Refused code line)) =
    NamesLine kind (IsEnded old new) given written (outcomes.Refused code line)
HasOutcome kind says turns old new given written (Ended (outcomes.StartRefused code line)) =
    NamesLine kind (IsEnded old new) given written (outcomes.StartRefused code line)
HasOutcome kind says turns old new given written (Ended outcomes.Memory) =
    IsSilent kind (IsEnded old new) given written
HasOutcome kind says turns old new given written (Ended outcomes.ReadFault) = IsOpen kind old new given written
HasOutcome kind says turns old new given written (Ended outcomes.TooLong) =
    IsOpen kind old new given written × UsedUp turns old new
HasOutcome kind says turns old new given written (Ended outcomes.WriteFault) =
    (text : List ℕ) × IsPrefix written text
    × (((o : ExplainOutcome) × IsAnswer kind says (IsEnded old new) given text o)
    ⊎ ((e : Refusal) × IsRefusal kind (IsEnded old new) given text e))

-- Some bytes were given, some were written, and the outcome is that of these bytes.
pub record AnswerStreams {A : Type 0} (kind : Kind A) (says : SaysOf A) (turns : ℕ) (r0 r1 : SourceState)
    (w0 w1 : SinkState) (outcome : ExplainOutcome) : Type 0 where
  pub given : List ℕ
  pub read : Consumes r0.bytes r1.bytes given
  pub written : List ℕ
  pub wrote : Appends w0.taken w1.taken written
  pub calls : r1.calls ≤ r0.calls + turns
  -- a fault is answered exactly where that device failed in this call
  pub read_fault : r1.failures ≡ r0.failures + explain_read_faults outcome
  pub write_fault : w1.failures ≡ w0.failures + explain_write_faults outcome
  pub answer : HasOutcome kind says turns r0 r1 given written outcome

-- ---- two texts: x is the reader of the first, y that of the second, and w the writer

-- The first was refused, or wasn't read to its end. The second wasn't read.
pub record Rejected {A : Type 0} (kind : Kind A) (turns : ℕ) (x0 x1 y0 y1 : SourceState) (w0 w1 : SinkState)
    (outcome : ExplainOutcome) : Type 0 where
  pub stopped : AnswerStreams kind nothing turns x0 x1 w0 w1 outcome
  pub unread : y1 ≡ y0

-- The first was read to its end and no line of it is refused. What is done then is a parameter.
pub record Taken {A : Type 0} (kind : Kind A) (turns : ℕ) (x0 x1 : SourceState) (then : A → Type 0) : Type 0 where
  pub given : List ℕ
  pub read : Consumes x0.bytes x1.bytes given
  pub calls : x1.calls ≤ x0.calls + turns
  pub failures : x1.failures ≡ x0.failures
  pub end : IsEnded x0 x1
  pub known : A
  pub good : kind.whole given ≡ Ok known
  pub done : then known

-- a start text, and then a trace, which is answered from that start
abbrev pub AnswerStartStreams : (List Added → Says) → ℕ → SourceState → SourceState → SourceState → SourceState → SinkState
    → SinkState → ExplainOutcome → Type 0
AnswerStartStreams says turns z0 z1 r0 r1 w0 w1 outcome = Rejected of_start turns z0 z1 r0 r1 w0 w1 outcome
    ⊎ Taken of_start turns z0 z1 (λ known. AnswerStreams of_trace (says known) turns r0 r1 w0 w1 outcome)
