use Rattle.std.proofs.Common.{ap, ◌∙◌}
use Rattle.cap_machine.specs.State.{State}
use Rattle.cap_machine.specs.Code.Table.{state_of}
use Rattle.cap_machine.specs.State.{start_state}
use Rattle.cap_machine.proofs.OneMore.{state_kept, kept_state}
use Rattle.cap_machine.proofs.checker.Checker.from_start.Goals as goal

pub returns : goal.returns
returns c =
    let s : State = start_state c.args.start.now in
    c.over.ensures s
    (kept_state c.in_ok-table.table s
    (state_kept c.in_ok-table.table (state_of c.start.inside.table) c.in_ok-table.ensures
    ∙ state_kept c.start.inside.table _ c.start.invariant
    ∙ ap start_state c.start.view_is))
