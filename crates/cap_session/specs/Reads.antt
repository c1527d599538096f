-- What reading a text from a source does and answers.
use Rattle.std.specs.Prelude.{◌≡◌, ℕ, ◌+◌, ◌≤◌, ◌⊎◌, List, ◌++◌, length, Result, Ok, Err, IsOk, Option, None, Some}
use Rattle.std.specs.Io.KnownBytes.{Consumes, IsAtEnd}
use Rattle.cap_session.specs.Devices.{SourceState}
use Rattle.cap_session.specs.Limits.{longest_piece}
use Rattle.cap_session.specs.declared.refused.Refusal.{Refusal}
use Rattle.cap_session.specs.declared.lines.StopReason.{StopReason}
use Rattle.cap_session.specs.declared.lines.StopReason.TheVariants.{Refused, Memory, ReadFault, WriteFault, TooLong}

-- The reader answered in this call that its end is reached; it didn't; it was called as often as it may be.
abbrev pub IsEnded : SourceState → SourceState → Type 0
IsEnded old new = (new.ends ≡ old.ends + 1) × IsAtEnd new.bytes

abbrev pub NotAtEnd : SourceState → SourceState → Type 0
NotAtEnd old new = new.ends ≡ old.ends

abbrev pub UsedUp : ℕ → SourceState → SourceState → Type 0
UsedUp turns old new = new.calls ≡ old.calls + turns

-- Of what was given, all but the last piece has no refused line.
pub record IsNear (so_far : List ℕ → Option Refusal) (given : List ℕ) : Type 0 where
  pub front : List ℕ
  pub piece : List ℕ
  pub cut : given ≡ front ++ piece
  pub short : length piece ≤ longest_piece
  pub good : so_far front ≡ None

-- A line of what was given is refused, before the end or at it, and reading went at most a piece past it.
pub record IsRefused {A : Type 0} (whole : List ℕ → Result A Refusal) (so_far : List ℕ → Option Refusal) (ended : Type 0)
    (given : List ℕ) (e : Refusal) : Type 0 where
  pub line : (so_far given ≡ Some e) ⊎ (ended × (whole given ≡ Err e))
  pub near : IsNear so_far given

-- No line of what was given is refused, neither before the end nor at it.
pub record IsGood {A : Type 0} (whole : List ℕ → Result A Refusal) (so_far : List ℕ → Option Refusal) (ended : Type 0)
    (given : List ℕ) : Type 0 where
  pub before : so_far given ≡ None
  pub at_end : ended → IsOk (whole given)

-- one, where reading stopped at a fault of the reader
abbrev pub faults : {T : Type 0} → Result T StopReason → ℕ
faults (Err ReadFault) = 1
faults (Err (Refused e)) = 0
faults (Err Memory) = 0
faults (Err WriteFault) = 0
faults (Err TooLong) = 0
faults (Ok lines) = 0

-- What reading answers, for what was given.
abbrev pub Read : {A T : Type 0} → (List ℕ → Result A Refusal) → (List ℕ → Option Refusal) → (T → A → Type 0) → ℕ
    → SourceState → SourceState → List ℕ → Result T StopReason → Type 0
Read {A = A} whole so_far holds turns old new given (Ok lines) =
    IsEnded old new × ((known : A) × (whole given ≡ Ok known) × holds lines known)
Read whole so_far holds turns old new given (Err (Refused e)) = IsRefused whole so_far (IsEnded old new) given e
Read whole so_far holds turns old new given (Err Memory) = IsGood whole so_far (IsEnded old new) given
Read whole so_far holds turns old new given (Err ReadFault) = NotAtEnd old new × (so_far given ≡ None)
Read whole so_far holds turns old new given (Err TooLong) = NotAtEnd old new × (so_far given ≡ None) × UsedUp turns old new
Read whole so_far holds turns old new given (Err WriteFault) = ⊥

-- Some bytes were given, and the answer is that to these bytes.
pub record Reads {A T : Type 0} (whole : List ℕ → Result A Refusal) (so_far : List ℕ → Option Refusal)
    (holds : T → A → Type 0) (turns : ℕ) (old new : SourceState) (result : Result T StopReason) : Type 0 where
  pub given : List ℕ
  pub read : Consumes old.bytes new.bytes given
  pub calls : new.calls ≤ old.calls + turns
  pub failures : new.failures ≡ old.failures + faults result
  pub answer : Read whole so_far holds turns old new given result
