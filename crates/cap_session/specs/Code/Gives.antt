-- How a text is given on, piece by piece, to what takes it. `took` says of what was given that it was taken, `stopped`
-- that it was up to a last piece, which stopped it, and `ended` what came of its end.
use Rattle.std.specs.Prelude.{◌≡◌, ℕ, ◌+◌, ◌≤◌, ◌⊎◌, List, ◌++◌, length, Result, Err}
use Rattle.std.specs.Io.KnownBytes.{Consumes}
use Rattle.cap_session.specs.Devices.{SourceState}
use Rattle.cap_session.specs.Limits.{longest_piece}
use Rattle.cap_session.specs.Reads.{IsEnded, NotAtEnd, UsedUp}
use Rattle.cap_session.specs.declared.lines.StopReason.{StopReason}
use Rattle.cap_session.specs.declared.lines.StopReason.TheVariants.{ReadFault, TooLong}

-- The reader failed, and what it gave before was taken.
pub record IsFailed (took : List ℕ → Type 0) (old new : SourceState) (given : List ℕ)
    (result : Result (Unit {0}) StopReason) : Type 0 where
  pub is : result ≡ Err ReadFault
  pub going : NotAtEnd old new
  pub taken : took given
  pub failures : new.failures ≡ old.failures + 1

-- The reader was called as often as it may be, and what it gave was taken.
pub record IsUsedUp (took : List ℕ → Type 0) (turns : ℕ) (old new : SourceState) (given : List ℕ)
    (result : Result (Unit {0}) StopReason) : Type 0 where
  pub is : result ≡ Err TooLong
  pub going : NotAtEnd old new
  pub used : UsedUp turns old new
  pub taken : took given
  pub failures : new.failures ≡ old.failures

-- The last piece stopped it.
pub record IsStopped (stopped : List ℕ → List ℕ → StopReason → Type 0) (old new : SourceState) (given : List ℕ)
    (result : Result (Unit {0}) StopReason) : Type 0 where
  pub front : List ℕ
  pub piece : List ℕ
  pub stop : StopReason
  pub cut : given ≡ front ++ piece
  pub short : length piece ≤ longest_piece
  pub is : result ≡ Err stop
  pub going : NotAtEnd old new
  pub why : stopped front piece stop
  pub failures : new.failures ≡ old.failures

-- The end came.
pub record IsGiven (ended : List ℕ → Result (Unit {0}) StopReason → Type 0) (old new : SourceState) (given : List ℕ)
    (result : Result (Unit {0}) StopReason) : Type 0 where
  pub end : IsEnded old new
  pub what : ended given result
  pub failures : new.failures ≡ old.failures

-- Some bytes were given, and one of these is the answer.
pub record Gives (took : List ℕ → Type 0) (stopped : List ℕ → List ℕ → StopReason → Type 0)
    (ended : List ℕ → Result (Unit {0}) StopReason → Type 0)
    (turns : ℕ) (old new : SourceState) (result : Result (Unit {0}) StopReason) : Type 0 where
  pub given : List ℕ
  pub read : Consumes old.bytes new.bytes given
  pub calls : new.calls ≤ old.calls + turns
  pub answer : (IsFailed took old new given result ⊎ IsUsedUp took turns old new given result)
      ⊎ (IsStopped stopped old new given result ⊎ IsGiven ended old new given result)
