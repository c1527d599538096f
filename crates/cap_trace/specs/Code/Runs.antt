-- Bytes that may all stand in a name of a flag, or for themselves in a path, or that aren't some byte. Only the code's
-- contracts use this.
use Rattle.std.specs.Prelude.{◌≡◌, ◌≤◌, ◌<◌, ◌==◌, ℕ, Bool, true, false, not, List, length, slice_index}
use Rattle.cap_trace.specs.Fields.{is_flag_byte, is_plain}
use Rattle.cap_trace.specs.declared.runs.Run.{Run}
use Rattle.cap_trace.specs.declared.runs.Run.TheVariants.{Name, Path, Until}

abbrev pub has : Run → ℕ → Bool
has Name c = is_flag_byte c
has Path c = is_plain c
has (Until stop) c = not (c == stop)

-- all bytes from one place up to another
abbrev pub Runs : Run → List ℕ → ℕ → ℕ → Type 0
Runs run text from to = (k : ℕ) → from ≤ k → k < to → has run (slice_index text k) ≡ true

-- the bytes from a place up to the first one that isn't among them
abbrev pub RunsTo : Run → List ℕ → ℕ → ℕ → Type 0
RunsTo run text from at =
    (from ≤ at) × (at < length text) × Runs run text from at × (has run (slice_index text at) ≡ false)
