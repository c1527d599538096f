use Rattle.cap_summary.proofs.{Knowing.knows_both}
use Rattle.cap_summary.proofs.node.Node.rejoin.Goals as goal

pub of_parts-requires-clause-knows : goal.of_parts-requires-clause-knows
of_parts-requires-clause-knows c =
    let parts = c.in-Some-Some-Some in
    knows_both _ _ c.in_ok-known-in-Some-Some-Some.known _ _ (rw c.deref.ensures at parts.ensures''.first.knows)
    (rw c.deref-2.ensures at parts.ensures''.second.knows) c.in_ok-known-in-Some-Some-Some.ensures.joined
