use Rattle.std.proofs.Common.{◌≡◌, ap, sym, ◌∙◌}
use Rattle.std.proofs.lemmas.Result.{on_ok_weaker}
use Rattle.cap_machine.specs.Steps.{step}
use Rattle.cap_machine.specs.Code.Table.{state_of}
use Rattle.cap_machine.specs.History.{step_after}
use Rattle.cap_machine.specs.State.{start_state}
use Rattle.cap_machine.proofs.KnownTables.{state_known}
use Rattle.cap_machine.proofs.OneMore.{state_kept}
use Rattle.cap_machine.proofs.machine.Machine.apply_line_ref.Goals as goal

pub returns : goal.returns
returns c =
    let before : state_of c.self.inside.table ≡ start_state c.args.self.now =
    sym (state_known c.self.inside.table) ∙ ap start_state c.self.view_is in
    let now = c.apply_line.new.self in
    on_ok_weaker c.apply_line.result
    (λ keeps. state_known now
    ∙ state_kept now (step_after (step c.args.profile c.args.line.now) (state_of c.self.inside.table)) keeps
    ∙ ap (step_after (step c.args.profile c.args.line.now)) before)
    c.apply_line.ensures
