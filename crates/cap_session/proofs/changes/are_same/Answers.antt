use Rattle.std.proofs.Common.{◌∙◌, sym, arith}
use Rattle.cap_session.proofs.SameFindings.{same_all, same_not, same_at, same_read}
use Rattle.cap_session.proofs.changes.are_same.Goals as goal

pub returns-then-not-is_same : goal.returns-then-not-is_same
returns-then-not-is_same c =
    sym (same_not c.args.then.now c.args.now.now c.loop-i.i _ c.if-then-now.false c.loop-i-test.true
    (same_read c.args.then.now c.args.now.now c.loop-i.i c.index-then-i.result c.index-now-i.result _ c.if-then-now.false
    c.loop-i-test.true c.index-then-i.is c.index-now-i.is (sym c.is_same.ensures ∙ c.if-not-is_same.true)))

pub loop-i-preserved : goal.loop-i-preserved
loop-i-preserved c k d =
    same_at c.args.then.now c.args.now.now c.loop-i.i _ c.if-then-now.false c.loop-i-test.true
    (same_read c.args.then.now c.args.now.now c.loop-i.i c.index-then-i.result c.index-now-i.result _ c.if-then-now.false
    c.loop-i-test.true c.index-then-i.is c.index-now-i.is (sym c.is_same.ensures ∙ c.if-not-is_same.false))
    c.loop-i.invariant k d

pub returns : goal.returns
returns c =
    sym (same_all c.args.then.now c.args.now.now c.if-then-now.false
    (λ k d lt. c.loop-i.invariant k d (omega arith)))
