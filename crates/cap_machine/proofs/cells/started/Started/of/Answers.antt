use Rattle.std.proofs.Common.{◌||◌, ◌==◌, if◌then◌else◌, Bool, ap, sym, ◌∙◌, get_or, take_all}
use Rattle.std.proofs.lemmas.List.Folds.{list_any_more}
use Rattle.std.specs.List.{list_any}
use Rattle.cap_rights.specs.Rights.{all}
use Rattle.cap_machine.specs.Code.Cells.Deferred.{with_deferred}
use Rattle.cap_machine.specs.declared.cell.OnExec.TheVariants.{Unsure}
use Rattle.cap_machine.specs.declared.cell.Cell.TheVariants.{Held}
use Rattle.cap_machine.specs.declared.cells.deferred.Deferred.{Deferred}
use Rattle.cap_machine.proofs.cells.started.Started.of.Goals as goal

pub loop-fd-preserved : goal.loop-fd-preserved
loop-fd-preserved c = record {
  listed = λ f from.
      c.in_ok-list.ensures.listed f from
      ∙ ap (λ (b : Bool). b || f == get_or c.args.fds.now c.loop-fd.fd-index 0) (c.loop-fd.invariant.listed f from)
      ∙ sym (list_any_more (λ g. f == g) c.args.fds.now c.loop-fd.fd-index 0 c.loop-fd-test.true);
  deferred = c.in_ok-list.ensures.deferred ∙ c.loop-fd.invariant.deferred;
}

pub returns : goal.returns
returns c = λ cell f from.
    ap (λ (b : Bool). if b then with_deferred c.loop-fd.started.deferred (Held all Unsure) else cell)
    (c.loop-fd.invariant.listed f from
    ∙ ap (list_any (λ g. f == g)) (take_all c.loop-fd.fd-index c.args.fds.now c.loop-fd-test.false))
    ∙ ap (λ (p : Deferred). if list_any (λ g. f == g) c.args.fds.now then with_deferred p (Held all Unsure) else cell)
    c.loop-fd.invariant.deferred
