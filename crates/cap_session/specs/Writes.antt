-- What writing a text does to a sink.
use Rattle.std.specs.Prelude.{◌≡◌, ℕ, ◌+◌, List, ◌++◌}
use Rattle.std.specs.Io.KnownBytes.{Appends}
use Rattle.cap_session.specs.Devices.{SinkState}

-- the whole text was taken
pub record Wrote (old new : SinkState) (text : List ℕ) : Type 0 where
  pub taken : Appends old.taken new.taken text
  pub failures : new.failures ≡ old.failures
  pub room : new.room ≡ old.room

-- the sink failed, and a prefix of the text was taken
pub record WrotePrefix (old new : SinkState) (text : List ℕ) : Type 0 where
  pub front : List ℕ
  pub rest : List ℕ
  pub cut : text ≡ front ++ rest
  pub taken : Appends old.taken new.taken front
  pub failures : new.failures ≡ old.failures + 1
  pub room : old.room ≡ new.room + 1
