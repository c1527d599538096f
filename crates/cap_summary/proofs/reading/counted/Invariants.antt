use Rattle.cap_summary.specs.{All, Keys.CellsRise, Keys.rows_size, min, take, ◌≡◌}
use Rattle.cap_summary.proofs.reading.counted.Given as goal

abbrev pub invariant-loop-entry : goal.invariant-loop-entry
invariant-loop-entry l = record {
  count : l.size ≡ min (rows_size (take l.entry-index l.rows)) 18446744073709551615;
  cells : All CellsRise (take l.entry-index l.rows);
}
