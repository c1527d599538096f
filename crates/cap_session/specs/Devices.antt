-- The state of a reader and of a writer as contracts see it, and what one call of each does to it.
use Rattle.std.specs.Prelude.{ℕ, zero, suc, ◌-◌, ◌^◌, ◌<◌, ◌≤◌, List, length, take, MatchResult}
use Rattle.std.specs.Prelude.{Option, Result, Ok, Err}
use Rattle.std.specs.Io.KnownBytes.{Keeps, Appends}

-- What a contract sees of a source.
pub record SourceState : Type 0 where
  -- the bytes still to come, where they are known
  pub bytes : Option (List ℕ)
  -- how often it was called, failed, and answered that its end is reached
  pub calls : ℕ
  pub failures : ℕ
  pub ends : ℕ
  -- how many calls can still be counted
  pub room : ℕ

-- What a contract sees of a sink.
pub record SinkState : Type 0 where
  -- the bytes taken, where they are known
  pub taken : Option (List ℕ)
  -- how often it failed
  pub failures : ℕ
  -- how many failures can still be counted
  pub room : ℕ

-- one, where the call failed
abbrev pub failed : {T E : Type 0} → Result T E → ℕ
failed (Ok n) = 0
failed (Err e) = 1

-- one, where a read answered the end
abbrev pub ended : {E : Type 0} → Result ℕ E → ℕ
ended (Ok zero) = 1
ended (Ok (suc n)) = 0
ended (Err e) = 0

-- A write took the first n bytes, one or more, or none where it failed.
abbrev pub Takes : {E : Type 0} → Option (List ℕ) → Option (List ℕ) → Result ℕ E → List ℕ → Type 0
Takes old new r bytes =
    MatchResult r (λ n. Appends old new (take n bytes) × (0 < n) × (n ≤ length bytes)) (λ _. Keeps old new)

-- What was counted of a device: its reads, those that failed and those that answered the end, and its writes that
-- failed.
pub record Counts : Type 0 where
  pub calls : ℕ
  pub failures : ℕ
  pub ends : ℕ
  pub faults : ℕ

abbrev pub nothing_counted : Counts
nothing_counted = record { calls = 0; failures = 0; ends = 0; faults = 0 }

-- a device, and what was counted of it
pub record CountedDevice (D : Type 0) : Type 0 where
  pub device : D
  pub counts : Counts

-- how many reads, and how many writes that fail, can still be counted
abbrev pub reads_left : Counts → ℕ
reads_left counts = 2 ^ 64 - 1 - counts.calls

abbrev pub faults_left : Counts → ℕ
faults_left counts = 2 ^ 64 - 1 - counts.faults
