use Rattle.std.proofs.Common.{◌≡◌, ℕ, ◌<◌, ◌&&◌, nat_le, nat_lt, length, if◌then◌else◌}
use Rattle.std.specs.List.{slice_index_or}
use Rattle.cap_machine.specs.Code.Cells.Deferred.{with_deferred}
use Rattle.cap_machine.specs.declared.cell.Cell.{Cell}
use Rattle.cap_machine.specs.declared.cell.Cell.TheVariants.{Closed}
use Rattle.cap_machine.specs.declared.cells.deferred.Deferred.TheVariants.{Nothing}
use Rattle.cap_machine.proofs.cells.node.close_all.Given as goal

abbrev pub invariant-loop-k : goal.invariant-loop-k
invariant-loop-k l = record {
  long : length l.deferred ≡ 8;
  each : (i : ℕ) (c : Cell) → i < 8 → with_deferred (slice_index_or l.deferred i Nothing) c
      ≡ (if nat_le l.fn.from i && nat_lt i l.k then Closed
      else with_deferred (slice_index_or l.initial.deferred i Nothing) c);
}
