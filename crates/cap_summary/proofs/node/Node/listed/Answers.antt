use Rattle.cap_summary.specs.{Kept.IsKept}
use Rattle.cap_summary.proofs.{Judged.known_ends}
use Rattle.cap_summary.proofs.node.Node.listed.Goals as goal

pub returns-then-lists-clause-moves : goal.returns-then-lists-clause-moves
returns-then-lists-clause-moves c = λ s.
    let kept : IsKept c.in_ok-known.known.now c.args.self.now.steps = c.in_ok-known.ensures.kept in
    rw c.deref-then-lists.ensures (known_ends c.in_ok-known.known.now c.args.self.now.steps kept.knows s)
