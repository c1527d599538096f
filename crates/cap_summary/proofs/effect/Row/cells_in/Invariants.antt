use Rattle.std.specs.Prelude.{take, ◌≡◌}
use Rattle.cap_summary.specs.{Effects.state_before, Listing.listed_in}
use Rattle.cap_summary.proofs.effect.Row.cells_in.Given as goal

abbrev pub invariant-loop-entry : goal.invariant-loop-entry
invariant-loop-entry l = l.cells.items ≡ listed_in (state_before l.state) l.pid (take l.entry-index l.listed)
