use Rattle.cap_summary.specs.{Differing.AreListed, Differing.DifferAt, Differing.IsListedKey, Differing.IsRowOf, Keys.Cells}
use Rattle.cap_summary.specs.{take, ◌≡◌}
use Rattle.cap_summary.proofs.difference.Differences.put_listed.Given as goal

abbrev pub invariant-loop-cell : goal.invariant-loop-cell
invariant-loop-cell l = record {
  listed : (old new now_old now_new : Cells) → DifferAt l.self.cells.items old new → IsRowOf l.pid l.row old now_old
      → IsRowOf l.pid l.row new now_new → AreListed now_old now_new
      (λ p k. (p ≡ l.pid) × IsListedKey (take l.cell-index l.row.cells) k) l.initial.put.cells.items l.put.cells.items;
}
