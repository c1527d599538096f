use Rattle.std.proofs.Common.{ap, ◌∙◌}
use Rattle.cap_machine.specs.Code.Table.{state_of}
use Rattle.cap_machine.specs.State.{start_state}
use Rattle.cap_machine.proofs.KnownTables.{state_known}
use Rattle.cap_machine.proofs.OneMore.{state_kept}
use Rattle.cap_machine.proofs.machine.Machine.from_start.Goals as goal

pub returns : goal.returns
returns c =
    state_known c.in_ok-table.table
    ∙ state_kept c.in_ok-table.table (state_of c.start.inside.table) c.in_ok-table.ensures
    ∙ state_kept c.start.inside.table _ c.start.invariant
    ∙ ap start_state c.start.view_is
