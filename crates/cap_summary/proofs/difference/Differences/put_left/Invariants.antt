use Rattle.cap_summary.specs.{Differing.AreListed, Differing.DifferAt, Differing.are_at, Effects.changed, Keys.Cells, None}
use Rattle.cap_summary.specs.{Sorted.found, take, true, ◌≡◌}
use Rattle.cap_summary.proofs.difference.Differences.put_left.Given as goal

abbrev pub invariant-loop-one : goal.invariant-loop-one
invariant-loop-one l = record {
  listed : (old new : Cells) → DifferAt l.self.cells.items old new → AreListed (changed l.effect old)
      (changed l.effect new)
      (λ p k. (found l.effect.rows p ≡ None) × (are_at (take l.one-index l.self.cells.items) p k ≡ true))
      l.initial.put.cells.items l.put.cells.items;
}
