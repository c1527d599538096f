use Rattle.std.proofs.Common.{length}
use Rattle.cap_summary.proofs.passing.+take_rows.Given as goal

abbrev pub decreases-take_rows : goal.decreases-take_rows
decreases-take_rows l = length l.rows.now
