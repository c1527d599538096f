use Rattle.std.proofs.Common.{arith}
use Rattle.cap_trace.proofs.Ends.{words_decide}
use Rattle.cap_trace.proofs.equal.same_by_ends.Goals as goal

pub returns-then-first-other_first : goal.returns-then-first-other_first
returns-then-first-other_first c =
    words_decide c.args.left.now c.args.right.now _ _ _ _ c.if-left-right.false
    (omega (arith, c.if-left-right.false, c.requires.least)) (omega (arith, c.if-left-right.false, c.requires.most))
    (λ i. omega (arith, c.type_inv.left i)) (λ i. omega (arith, c.type_inv.right i)) c.ends-first.ensures.first
    c.ends-other_first.ensures.first c.if-first-other_first.true c.ends-first.ensures.last
    c.ends-other_first.ensures.last
