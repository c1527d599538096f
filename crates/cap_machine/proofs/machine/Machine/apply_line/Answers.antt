use Rattle.std.proofs.Common.{[], ◌∷◌, ap, ◌∙◌}
use Rattle.std.proofs.lemmas.Result.{on_ok_weaker}
use Rattle.cap_trace.specs.Entry.{Entry}
use Rattle.cap_machine.specs.Steps.{step}
use Rattle.cap_machine.specs.History.{ended}
use Rattle.cap_machine.specs.State.{start_state}
use Rattle.cap_machine.proofs.machine.Machine.apply_line.Goals as goal

pub returns : goal.returns
returns c =
    on_ok_weaker c.apply_line_ref.result
    (λ moves. moves
    ∙ ap (λ (e : Entry). ended (start_state c.args.self.now) (step c.args.profile e ∷ [])) c.view.ensures)
    c.apply_line_ref.ensures
