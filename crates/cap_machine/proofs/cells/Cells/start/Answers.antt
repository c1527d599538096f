use Rattle.std.proofs.Common.{◌==◌, if◌then◌else◌, get_or, ap, ◌∙◌}
use Rattle.cap_rights.specs.Rights.{all}
use Rattle.cap_machine.specs.declared.cell.OnExec.TheVariants.{Unsure}
use Rattle.cap_machine.specs.declared.cell.Cell.{Cell}
use Rattle.cap_machine.specs.declared.cell.Cell.TheVariants.{Held}
use Rattle.cap_machine.proofs.StartedLists.{started_more}
use Rattle.cap_machine.proofs.cells.Cells.start.Goals as goal

pub loop-fd-preserved : goal.loop-fd-preserved
loop-fd-preserved c = record {
  low = λ f lt.
      c.in_ok-start_one.ensures.low f lt
      ∙ ap (λ (was : Cell). if f == get_or c.args.fds.now c.loop-fd.fd-index 0 then Held all Unsure else was)
      (c.loop-fd.invariant.low f lt)
      ∙ started_more c.args.fds.now c.loop-fd.fd-index f c.loop-fd-test.true;
  high = λ f from. c.in_ok-start_one.ensures.high f from ∙ c.loop-fd.invariant.high f from;
}
