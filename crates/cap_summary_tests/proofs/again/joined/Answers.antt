use Rattle.std.specs.Prelude.{◌++◌}
use Rattle.std.proofs.lemmas.Result.{IfOk-weaker}
use Rattle.cap_summary_tests.proofs.again.joined.Goals as goal

pub returns : goal.returns
returns c =
    let both = c.in_ok-both.ensures.joined c.args.front.now c.args.middle.now c.summary-left.ensures
    c.summary-right.ensures in
    IfOk-weaker c.join-2.result _ _
    (λ s is. (is (c.args.front.now ++ c.args.middle.now) c.args.back.now both c.summary-2.ensures).steps)
    c.join-2.ensures.joined
