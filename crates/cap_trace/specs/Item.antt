-- What a line says of its process: a call with its answer, or a marker.
use Rattle.std.specs.Prelude.{ℕ, List}
use Rattle.cap_trace.specs.declared.line.Answer.{Answer}
use Rattle.cap_trace.specs.declared.calls.NeedsMarker.{NeedsMarker}
use Rattle.cap_trace.specs.Call as calls

pub data Item : Type 0 where
  Call : calls.Call → Answer → Item
  Start : List ℕ → Item
  Exit : Item
  Foreign : ℕ → Item
  Needs : NeedsMarker → ℕ → ℕ → Item
  Global : Item
