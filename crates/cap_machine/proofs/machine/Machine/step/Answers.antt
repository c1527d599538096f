use Rattle.std.proofs.Common.{◌≡◌, IfOk, ap, sym, ◌∙◌, subst}
use Rattle.std.proofs.lemmas.Result.{on_ok_weaker}
use Rattle.cap_machine.specs.declared.step.Step.{Step}
use Rattle.cap_machine.specs.Steps.{step}
use Rattle.cap_machine.specs.Check.{said}
use Rattle.cap_machine.specs.Code.Table.{state_of}
use Rattle.cap_machine.specs.History.{step_after}
use Rattle.cap_machine.specs.State.{start_state}
use Rattle.cap_machine.proofs.KnownTables.{state_known}
use Rattle.cap_machine.proofs.OneMore.{state_kept}
use Rattle.cap_machine.proofs.machine.Machine.step.Goals as goal

pub returns-clause-says : goal.returns-clause-says
returns-clause-says c =
    let before : state_of c.self.inside.table ≡ start_state c.args.self.now =
    sym (state_known c.self.inside.table) ∙ ap start_state c.self.view_is in
    subst (λ s. IfOk c.take_line.result (λ verdict. verdict ≡ said (step c.args.profile c.args.line.now) s)) before
    c.take_line.ensures.says

pub returns-clause-moves : goal.returns-clause-moves
returns-clause-moves c =
    let before : state_of c.self.inside.table ≡ start_state c.args.self.now =
    sym (state_known c.self.inside.table) ∙ ap start_state c.self.view_is in
    let l : Step = step c.args.profile c.args.line.now in
    let now = c.take_line.new.table in
    on_ok_weaker c.take_line.result
    (λ keeps. state_known now ∙ state_kept now (step_after l (state_of c.self.inside.table)) keeps
    ∙ ap (step_after l) before)
    c.take_line.ensures.moved
