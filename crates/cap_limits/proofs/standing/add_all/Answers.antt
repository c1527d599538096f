use Rattle.std.proofs.Common.{◌==◌, ◌||◌, Bool, ap, ◌∙◌, arith, get_or, take_all}
use Rattle.std.proofs.lemmas.Grind.{common_steps}
use Rattle.std.proofs.lemmas.List.Folds.{list_any_more}
use Rattle.std.specs.List.{list_any}
use Rattle.cap_limits.specs.Code.Singles.{has_fd}
use Rattle.cap_limits.proofs.StandingBack.{one_added}
use Rattle.cap_limits.proofs.standing.add_all.Goals as goal

pub loop-fd-preserved : goal.loop-fd-preserved
loop-fd-preserved c = λ f.
    one_added (f == get_or c.args.more.now c.loop-fd.fd-index 0) _ _ _ _ _ (grind (arith, common_steps, c.in_ok-insert.ensures.updates.0 f)) (c.loop-fd.invariant f)
    (list_any_more (λ g. f == g) c.args.more.now c.loop-fd.fd-index 0 c.loop-fd-test.true)

pub returns : goal.returns
returns c = λ f.
    c.loop-fd.invariant f
    ∙ ap (λ (b : Bool). b || has_fd c.args.fds.now f)
    (ap (list_any (λ g. f == g)) (take_all c.loop-fd.fd-index c.args.more.now c.loop-fd-test.false))
