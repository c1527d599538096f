use Rattle.cap_summary.specs.{Composing.AreAlike, part_at}
use Rattle.cap_summary.proofs.{Rejoining.part_seen, Rejoining.rejoined_asks, Rejoining.rejoined_effect}
use Rattle.cap_summary.proofs.known.Known.rejoin.Goals.{After-similarity_to-kept}
use Rattle.cap_summary.proofs.known.Known.rejoin.Goals as goal

alike : (c : After-similarity_to-kept) → AreAlike c.similarity_to-kept.result c.args.was.now
    (part_at c.args.side c.args.first.now c.args.second.now)
alike c = rw (c.order.ensures.part, part_seen (λ part. part.now) c.args.side c.args.first c.args.second) at
    c.similarity_to-kept.ensures.alike

pub rejoined_effect-requires-clause-kept : goal.rejoined_effect-requires-clause-kept
rejoined_effect-requires-clause-kept c = rejoined_effect c.args.side c.args.first.now c.args.second.now c.args.was.now
    c.args.old.now c.similarity_to-kept.result c.requires.old
    (alike (goal.at.rejoined_effect-requires-clause-kept c).After-similarity_to-kept)

pub rejoined_precondition-requires-clause-kept : goal.rejoined_precondition-requires-clause-kept
rejoined_precondition-requires-clause-kept c = rejoined_asks c.args.side c.args.first.now c.args.second.now
    c.args.was.now c.args.old.now c.similarity_to-kept.result c.requires.old
    (alike (goal.at.rejoined_precondition-requires-clause-kept c).After-similarity_to-kept)
    c.similarity_to-kept.ensures.effect
