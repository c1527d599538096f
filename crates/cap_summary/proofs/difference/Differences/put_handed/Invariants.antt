use Rattle.cap_summary.specs.{Differing.AreListed, Differing.DifferAt, Differing.IsKeyOf, Differing.IsRowOf, Keys.Cells}
use Rattle.cap_summary.specs.{take, ◌≡◌}
use Rattle.cap_summary.proofs.difference.Differences.put_handed.Given as goal

abbrev pub invariant-loop-one : goal.invariant-loop-one
invariant-loop-one l = record {
  listed : (old new now_old now_new : Cells) → DifferAt l.self.cells.items old new → IsRowOf l.pid l.row old now_old
      → IsRowOf l.pid l.row new now_new → AreListed now_old now_new
      (λ p k. (p ≡ l.pid) × IsKeyOf (take l.one-index l.self.cells.items) k) l.initial.put.cells.items
      l.put.cells.items;
}
