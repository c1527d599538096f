use Rattle.std.proofs.Common.{◌==◌, if◌then◌else◌, ap, ◌∙◌}
use Rattle.cap_machine.specs.declared.cell.Cell.{Cell}
use Rattle.cap_machine.specs.declared.cell.Mode.{Mode}
use Rattle.cap_machine.specs.Code.Table.{Keeps, state_of, cell_of, mode_of}
use Rattle.cap_machine.proofs.table.Table.fork.Goals as goal

pub returns : goal.returns
returns c =
    let kept : Keeps c.flush.new.self (state_of c.args.self.now) = c.in_ok-flush.ensures in
    let shared = c.in_ok-share.ensures in
    record {
      cells = λ r f. shared.cells r f
          ∙ ap (λ (x : Cell). if r == c.args.child then x else cell_of c.flush.new.self r f) (kept.cells c.args.parent f)
          ∙ ap (λ (x : Cell). if r == c.args.child then cell_of c.args.self.now c.args.parent f else x) (kept.cells r f);
      modes = λ r. shared.modes r
          ∙ ap (λ (m : Mode). if r == c.args.child then m else mode_of c.flush.new.self r) (kept.modes c.args.parent)
          ∙ ap (λ (m : Mode). if r == c.args.child then mode_of c.args.self.now c.args.parent else m) (kept.modes r);
    }
