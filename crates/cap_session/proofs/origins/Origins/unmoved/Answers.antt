use Rattle.std.proofs.Common.{◌≡◌, arith, refl, subst, sym, []}
use Rattle.cap_session.specs.Code.RunTable.{spread, IsTable}
use Rattle.cap_session.proofs.RunEdits.{no_lines, all_lines}
use Rattle.cap_session.proofs.origins.Origins.unmoved.Goals as goal
use Rattle.cap_session.proofs.origins.Origins.unmoved.Goals.{then-count-gt0+in_ok-push, else-count-gt0}

pub invariant_of-result : goal.invariant_of-result
invariant_of-result c = elim c.if-count-gt0.branch [
  | then-count-gt0+in_ok-push w ↦
      rw (w.runs-is, w.in_ok-push.ensures.items, c.new-runs.ensures.items)
      ((all_lines c.args.count w.if-count-gt0.true c.requires).table)
  | else-count-gt0 w ↦
      let none : c.args.count ≡ 0 = omega (arith, w.if-count-gt0.false) in
      rw (w.runs-is, c.new-runs.ensures.items) (subst (λ n. IsTable n []) (sym none) no_lines)
]

pub returns : goal.returns
unfolding spread
returns c = elim c.if-count-gt0.branch [
  | then-count-gt0+in_ok-push w ↦
      rw (w.runs-is, w.in_ok-push.ensures.items, c.new-runs.ensures.items)
      ((all_lines c.args.count w.if-count-gt0.true c.requires).stands)
  | else-count-gt0 w ↦
      let none : c.args.count ≡ 0 = omega (arith, w.if-count-gt0.false) in
      rw (w.runs-is, c.new-runs.ensures.items, none) refl
]
