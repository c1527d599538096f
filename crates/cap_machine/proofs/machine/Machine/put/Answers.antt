use Rattle.std.proofs.Common.{◌≡◌, ap, sym, ◌∙◌}
use Rattle.std.proofs.lemmas.Result.{on_ok_weaker}
use Rattle.cap_machine.specs.Code.Table.{state_of}
use Rattle.cap_machine.specs.State.{State, start_state, with_listed}
use Rattle.cap_machine.proofs.KnownTables.{state_known}
use Rattle.cap_machine.proofs.OneMore.{state_kept}
use Rattle.cap_machine.proofs.machine.Machine.put.Goals as goal

pub returns : goal.returns
returns c =
    let before : state_of c.self.inside.table ≡ start_state c.args.self.now =
    sym (state_known c.self.inside.table) ∙ ap start_state c.self.view_is in
    let now = c.add.new.self in
    on_ok_weaker c.add.result
    (λ keeps. state_known now
    ∙ state_kept now (with_listed (state_of c.self.inside.table) c.args.pid c.args.mode c.args.rest c.args.cells.now) keeps
    ∙ ap (λ (s : State). with_listed s c.args.pid c.args.mode c.args.rest c.args.cells.now) before)
    c.add.ensures.ok
