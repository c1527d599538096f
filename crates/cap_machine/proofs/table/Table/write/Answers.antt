use Rattle.std.proofs.Common.{◌==◌, ◌&&◌, if◌then◌else◌, ap, ◌∙◌}
use Rattle.cap_machine.specs.declared.cell.Cell.{Cell}
use Rattle.cap_machine.specs.Code.Table.{Keeps, state_of}
use Rattle.cap_machine.proofs.table.Table.write.Goals as goal

pub returns : goal.returns
returns c =
    let kept : Keeps c.enter.new.self (state_of c.args.self.now) = c.in_ok-place.ensures.kept in
    let written = c.in_ok-write_at.ensures in
    record {
      cells = λ r f. written.cells r f
          ∙ ap (λ (x : Cell). if r == c.args.pid && f == c.args.fd then c.args.cell else x) (kept.cells r f);
      modes = λ r. written.modes r ∙ kept.modes r;
    }
