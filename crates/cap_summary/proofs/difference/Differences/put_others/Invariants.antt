use Rattle.cap_summary.specs.{Differing.AreListed, Differing.DifferAt, Differing.IsKeptBut, Differing.are_at, Keys.Cells}
use Rattle.cap_summary.specs.{Differing.is_key, false, take, true, ◌≡◌}
use Rattle.cap_summary.proofs.difference.Differences.put_others.Given as goal

abbrev pub invariant-loop-one : goal.invariant-loop-one
invariant-loop-one l = record {
  listed : (old new now_old now_new : Cells) → DifferAt l.self.cells.items old new → IsKeptBut l.pid l.key old now_old
      → IsKeptBut l.pid l.key new now_new → AreListed now_old now_new
      (λ p k. (is_key l.pid l.key p k ≡ false) × (are_at (take l.one-index l.self.cells.items) p k ≡ true))
      l.initial.put.cells.items l.put.cells.items;
}
