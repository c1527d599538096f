use Rattle.cap_summary.proofs.{ap, arith, sym, ◌∙◌}
use Rattle.cap_summary.proofs.Explained.{explained_past, explained_there, explained_zero}
use Rattle.cap_summary.specs.{Explained, Stands.summed_up, State, Step, start_state, List, Some, length, ℕ, ◌-◌, ◌≡◌}
use Rattle.cap_summary.proofs.explaining.explain.Goals as goal

pub returns-then-position-eq0 : goal.returns-then-position-eq0
returns-then-position-eq0 c =
    let s : State = start_state c.args.start.now in
    let t : List Step = summed_up c.args.summary.now in
    elim c.then-position-eq0.branch [
      | goal.then-position-eq0-via-then-position-eq0 w ↦ sym (explained_zero s t c.args.position w.if-position-eq0.true)
      | goal.then-position-eq0-via-else-position-eq0+then-position-len w ↦
          let long : w.len.result ≡ length t = rw c.deref-node.ensures at w.len.ensures.count in
          sym (explained_past s t c.args.position (omega (arith, long, w.if-position-len.true)))
    ]

pub returns : goal.returns
returns c =
    let s : State = start_state c.args.start.now in
    let t : List Step = summed_up c.args.summary.now in
    let k : ℕ = c.args.position in
    let long : c.len.result ≡ length t = rw c.deref-node.ensures at c.len.ensures.count in
    ap (λ (e : Explained). Some e) (rw c.deref-node.ensures at c.in_ok-explanation.ensures)
    ∙ sym (explained_there s t k (k - 1) c.step-step.result.now (omega (arith, c.if-position-eq0.false))
    (omega (arith, long, c.if-position-eq0.false, c.if-position-len.false))
    (rw c.deref-node.ensures at c.step-step.ensures))
