use Rattle.cap_summary.specs.{Differing.AreListed, Differing.DifferAt, Effects.changed, Keys.Cells, []}
use Rattle.cap_summary.proofs.{Apart.IsListedSo}
use Rattle.cap_summary.proofs.difference.Differences.through.Given as goal

abbrev pub invariant-loop-entry : goal.invariant-loop-entry
invariant-loop-entry l = record {
  listed : (old new : Cells) → DifferAt l.self.cells.items old new → AreListed (changed l.effect old)
      (changed l.effect new) (IsListedSo l.effect l.self.cells.items l.entry-index) [] l.put.cells.items;
}
