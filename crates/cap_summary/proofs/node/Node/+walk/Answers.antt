use Rattle.cap_summary.proofs.{Runs.same_steps, Runs.values-take, Walks.walked_parts, ap, arith, on_ok_weaker, sym, ◌∙◌}
use Rattle.cap_summary.specs.{Kept.content_steps, Step, values, List, length, take, ℕ, ◌++◌, ◌≡◌}
use Rattle.cap_summary.proofs.node.Node.+walk.Goals as goal

pub returns-in-Run : goal.returns-in-Run
returns-in-Run g t c =
    let run : values c.deref.result.now ≡ c.args.self.now.steps =
    ap values c.deref.ensures.value ∙ sym (ap content_steps c.in-Run.is) ∙ same_steps c.self.view_is in
    let first : take c.args.count c.args.self.now.steps ≡ values (take c.args.count c.deref.result.now) =
    ap (take c.args.count) (sym run) ∙ values-take c.args.count c.deref.result.now in
    rw first c.walk_run.ensures

pub returns-in_ok-walk-in-Both : goal.returns-in_ok-walk-in-Both
returns-in_ok-walk-in-Both g t c =
    let a : List Step = c.in-Both.a.value.steps in
    let b : List Step = c.in-Both.b.value.steps in
    let left : ℕ = c.len-len.result in
    let parts : a ++ b ≡ c.args.self.now.steps = sym (ap content_steps c.in-Both.is) ∙ same_steps c.self.view_is in
    let long : left ≡ length a = rw c.deref-left.ensures at c.len-len.ensures.count in
    let right = rw c.deref-right.ensures at c.in_ok-walk-in-Both.ensures in
    rw (← parts) (on_ok_weaker c.walk-in-Both-2.result (λ last.
    walked_parts g.W.Walk.sees c.args.walk.now c.walk-in-Both.new.walk c.walk-in-Both-2.new.walk c.args.at left
    c.args.count a b long (omega (arith, c.if-count-len.false)) right (rw c.deref-left.ensures at last))
    c.walk-in-Both-2.ensures)
