-- How many joins of two summaries a session counts after edits.
use Rattle.std.specs.Prelude.{◌≡◌, ◌≤◌, ℕ, ◌+◌, ◌*◌, Bool, true, false, List, length, Result, Ok, Err}
use Rattle.std.specs.List.{list_any}
use Rattle.cap_tree.specs.Bits.{bits}
use Rattle.cap_session.specs.declared.refused.Refused.{Refused}
use Rattle.cap_session.specs.Session.{SessionState}

-- whether an edit was accepted, by its answer
abbrev pub is_accepted : Result ℕ Refused → Bool
is_accepted (Ok count) = true
is_accepted (Err e) = false

-- an edit was accepted, by the answers
abbrev pub any_accepted : List (Result ℕ Refused) → Bool
any_accepted = list_any is_accepted

-- The joins that are counted after edits: as before where none was accepted; else those of the last accepted one, of which
-- the trace has at most one line fewer than it then had.
pub record JoinsAfter (old new : SessionState) (answered : List (Result ℕ Refused)) : Type 0 where
  pub none : any_accepted answered ≡ false → new.joins ≡ old.joins
  pub some : any_accepted answered ≡ true → new.joins ≤ 12 * bits (length new.trace + 1) + 12
