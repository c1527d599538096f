use Rattle.std.proofs.Common.{rules}
use Rattle.cap_tree.proofs.meter.Meter.tick.Goals as goal

-- The search is written out since a wrong body is refused sooner so (docs/GATE.md).
pub returns : goal.returns
returns c = search rules
