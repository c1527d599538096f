use Rattle.cap_summary.specs.{Effects.changed, Effects.line_after, Entry, Keys.Cells, Keys.cells_of, State, [], ended, ◌∷◌, ◌≡◌}
use Rattle.cap_summary.proofs.{Knowing.line_step, ap, fun_ext, ◌∙◌}
use Rattle.cap_summary.proofs.difference.Differences.through_step.Goals as goal

pub returns : goal.returns
returns c = λ s r differ.
    let step = c.args.step.now in
    let rule = c.effect_of_line-done.ensures in
    let view = c.view-line.ensures in
    let pid : c.line.inside.pid ≡ step.line.pid = ap (λ (e : Entry). e.pid) (rw view at c.line.view_is) in
    let line : (x : State) → line_after c.effect_of_line-done.result c.line.inside.pid (cells_of x)
    ≡ cells_of (ended x (step ∷ [])) = λ x. line_step step c.effect_of_line-done.result c.line.inside.pid
    (λ p f. rw pid (rw view at (rule.cells p f))) (λ p. rw pid (rw view at (rule.modes p))) x in
    let empty : (cells : Cells) → changed c.empty-effect.result cells ≡ cells =
    λ cells. fun_ext (λ p. fun_ext (λ k. c.empty-effect.ensures.cells cells p k)) in
    let after : (x : State) → changed c.push.new.self (cells_of x) ≡ cells_of (ended x (step ∷ [])) = λ x.
    fun_ext (λ p. fun_ext (λ k. c.in_ok-push.ensures.cells (cells_of x) p k
    ∙ ap (λ (cells : Cells). line_after c.effect_of_line-done.result c.line.inside.pid cells p k) (empty (cells_of x))))
    ∙ line x in
    rw (after s, after r) at (c.in_ok-put.ensures (cells_of s) (cells_of r) differ)
