use Rattle.cap_summary.specs.{Entry, ◌≡◌}
use Rattle.cap_summary.proofs.{Knowing.after_more, ap}
use Rattle.cap_summary.proofs.effect.Effect.push_step.Goals as goal

pub returns : goal.returns
returns c = λ s t so_far.
    let step = c.args.step.now in
    let rule = c.effect_of_line-done.ensures in
    let view = c.view-line.ensures in
    let pid : c.line.inside.pid ≡ step.line.pid = ap (λ (e : Entry). e.pid) (rw view at c.line.view_is) in
    after_more step c.effect_of_line-done.result c.line.inside.pid (λ p f. rw pid (rw view at (rule.cells p f)))
    (λ p. rw pid (rw view at (rule.modes p))) c.args.self.now c.push.new.self t s so_far c.in_ok-push.ensures.cells
