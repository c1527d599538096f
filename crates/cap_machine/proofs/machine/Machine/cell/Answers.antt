use Rattle.std.proofs.Common.{◌≡◌, ap, sym, ◌∙◌}
use Rattle.cap_machine.specs.State.{State}
use Rattle.cap_machine.specs.Code.Table.{state_of}
use Rattle.cap_machine.specs.State.{start_state}
use Rattle.cap_machine.proofs.KnownTables.{state_known}
use Rattle.cap_machine.proofs.machine.Machine.cell.Goals as goal

pub returns : goal.returns
returns c =
    let before : state_of c.self.inside.table ≡ start_state c.args.self.now =
    sym (state_known c.self.inside.table) ∙ ap start_state c.self.view_is in
    c.cell.ensures ∙ ap (λ (s : State). s.cell c.args.pid c.args.fd) before
