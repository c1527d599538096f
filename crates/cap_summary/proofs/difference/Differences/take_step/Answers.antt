use Rattle.cap_summary.specs.{Effects.line_after, Effects.state_before, Entry, Keys.cells_of, State, [], ended, ◌∷◌, ◌≡◌}
use Rattle.cap_summary.proofs.{Knowing.line_step, ap}
use Rattle.cap_summary.proofs.difference.Differences.take_step.Goals as goal

pub returns : goal.returns
returns c = λ s differ is.
    let step = c.args.step.now in
    let rule = c.effect_of_line-done.ensures in
    let view = c.view-line.ensures in
    let pid : c.line.inside.pid ≡ step.line.pid = ap (λ (e : Entry). e.pid) (rw view at c.line.view_is) in
    let line : (r : State) → line_after c.effect_of_line-done.result c.line.inside.pid (cells_of r)
    ≡ cells_of (ended r (step ∷ [])) = λ r. line_step step c.effect_of_line-done.result c.line.inside.pid
    (λ p f. rw pid (rw view at (rule.cells p f))) (λ p. rw pid (rw view at (rule.modes p))) r in
    rw (line s, line (state_before c.args.before.now)) at (c.in_ok-tried.ensures (cells_of s) differ is)
