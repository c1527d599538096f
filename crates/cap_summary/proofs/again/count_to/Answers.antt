use Rattle.cap_summary.proofs.{Searching.counted_to, arith}
use Rattle.cap_summary.specs.{◌≡◌}
use Rattle.cap_summary.proofs.again.count_to.Goals as goal

pub returns-clause-split : goal.returns-clause-split
returns-clause-split c = λ front back is below above.
    let end : c.loop-low.high ≡ c.loop-low.low = omega (arith, c.loop-low.invariant.order) in
    counted_to c.args.steps c.loop-low.low c.args.found.now front back is
    (omega (arith, end, c.loop-low.invariant.within)) below above c.loop-low.invariant.below
    (rw end at c.loop-low.invariant.above)
