use Rattle.std.proofs.Common.{◌≡◌, ◌++◌, drop}
use Rattle.cap_trace.specs.Code.Escaping.{escaped}
use Rattle.cap_trace.proofs.escapes.escaped_bytes.Given as goal

abbrev pub invariant-loop-byte : goal.invariant-loop-byte
invariant-loop-byte l = l.items.items ++ escaped (drop l.byte-index l.bytes) ≡ escaped l.bytes
