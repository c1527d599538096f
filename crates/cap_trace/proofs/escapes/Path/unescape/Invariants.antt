use Rattle.std.proofs.Common.{length}
use Rattle.cap_trace.proofs.PathBytes.{Unescaped}
use Rattle.cap_trace.proofs.escapes.Path.unescape.Given as goal

abbrev pub invariant-loop-byte : goal.invariant-loop-byte
invariant-loop-byte l = Unescaped l.bytes.items l.text l.fn.self

abbrev pub decreases-loop-byte : goal.decreases-loop-byte
decreases-loop-byte l = length l.text
