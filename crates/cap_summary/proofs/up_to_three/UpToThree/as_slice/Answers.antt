use Rattle.std.specs.Prelude.{◌≡◌, min, take}
use Rattle.cap_summary.proofs.{ap, arith}
use Rattle.cap_summary.proofs.up_to_three.UpToThree.as_slice.Goals as goal

pub returns-clause-asks : goal.returns-clause-asks
returns-clause-asks c =
    let same : c.min.result ≡ min c.args.self.now.count 3 = omega arith in ap (λ n. take n c.args.self.now.asks) same
