use Rattle.std.proofs.Common.{rules, ap, sym, ◌∙◌}
use Rattle.cap_machine.specs.declared.cell.Cell.{Cell}
use Rattle.cap_machine.specs.Code.Cells.Parts.{in_shared}
use Rattle.cap_machine.specs.Code.Cells.Cells1M.{in_cells_1m}
use Rattle.cap_machine.specs.Code.Cells.Started.{in_started}
use Rattle.cap_machine.specs.Code.Cells.WrittenCells.{written}
use Rattle.cap_machine.proofs.WrittenCells.{after_next}
use Rattle.cap_machine.proofs.cells.flush_all.Goals as goal

pub loop-one-preserved : goal.loop-one-preserved
loop-one-preserved c = λ f within.
    c.in_ok-flush_one.ensures f within
    ∙ ap (λ (x : Cell). written c.one-item.result x f) (c.loop-one.invariant f within)
    ∙ search rules
    ∙ sym (after_next (in_started c.args.started.now (in_shared in_cells_1m c.args.high.now f) f)
    c.as_slice-one-items.result.now c.loop-one.one-index f c.one-item.result (search rules))
