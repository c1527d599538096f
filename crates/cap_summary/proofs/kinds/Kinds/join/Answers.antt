use Rattle.cap_summary.{specs.Asks.kind_of, proofs.join_holds}
use Rattle.cap_summary.proofs.kinds.Kinds.join.Goals as goal

pub returns : goal.returns
returns c = λ cell. join_holds c.args.self.now.bits c.args.other.now.bits (kind_of cell)
