use Rattle.std.proofs.Common.{rules, ◌∙◌, ap, List, take_all}
use Rattle.cap_machine.specs.declared.cells.deferred.Deferred.TheVariants.{Exec}
use Rattle.cap_machine.specs.Code.Cells.Deferred.{with_deferred}
use Rattle.cap_machine.specs.declared.cells.written_cells.WrittenCell.{WrittenCell}
use Rattle.cap_machine.specs.Code.Cells.WrittenCells.{in_written_cells, after_writes}
use Rattle.cap_machine.proofs.WrittenCells.{done_next}
use Rattle.cap_machine.proofs.cells.written_cells.WrittenCells.executed.Goals as goal

pub loop-one-preserved : goal.loop-one-preserved
loop-one-preserved c = λ below f.
    c.in_ok-list.ensures (with_deferred Exec below) f
    ∙ search rules
    ∙ done_next (with_deferred Exec) below
    (in_written_cells c.loop-one.new (with_deferred Exec below) f) c.deref-one-items.result.now
    c.loop-one.one-index f c.one-item.result (search rules) (c.loop-one.invariant below f)

pub loop-one-init : goal.loop-one-init
loop-one-init c = λ below f. c.none-new.ensures (with_deferred Exec below) f

pub returns : goal.returns
returns c = λ below f.
    c.loop-one.invariant below f
    ∙ ap (λ (cells : List WrittenCell). with_deferred Exec (after_writes below cells f))
    (take_all c.loop-one.one-index c.deref-one-items.result.now c.loop-one-test.false ∙ c.deref-one-items.ensures.value)
