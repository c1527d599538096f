use Rattle.std.proofs.Common.{◌≡◌, List, map, sym, subst}
use Rattle.std.specs.List.{All}
use Rattle.std.proofs.lemmas.Grind.{common_steps}
use Rattle.std.proofs.Common.{arith}
use Rattle.cap_limits.specs.Limits.{Row, IsLimit}
use Rattle.cap_machine.specs.State.{start_state}
use Rattle.cap_limits.specs.Code.Wanted.{wanted}
use Rattle.cap_limits.specs.Limits.{row_of}
use Rattle.cap_limits.specs.Code.Rows.{held_rows}
use Rattle.cap_limits.proofs.RowOrder.{in_order}
use Rattle.cap_limits.proofs.LeastRows.{rows_are, rows_in_order}
use Rattle.cap_limits.proofs.limit.limits_among.Goals as goal

pub returns-clause-limits : goal.returns-clause-limits
returns-clause-limits c = λ later live.
    let rows : map row_of c.loop-fd.limits.items
    ≡ held_rows (start_state c.args.machine.now) (wanted c.args.live.now) c.args.pid c.args.fds.keys =
    grind (arith, common_steps) in
    subst (All (IsLimit (start_state c.args.machine.now) later c.args.pid)) (sym rows)
    (rows_are (start_state c.args.machine.now) later c.args.pid (wanted c.args.live.now) c.args.fds.keys live)

pub returns-clause-in_order : goal.returns-clause-in_order
returns-clause-in_order c =
    let rows : List Row = held_rows (start_state c.args.machine.now) (wanted c.args.live.now) c.args.pid c.args.fds.keys in
    in_order c.loop-fd.limits.items rows (grind (arith, common_steps)) c.loop-fd.invariant.fds
    (rows_in_order (start_state c.args.machine.now) (wanted c.args.live.now) c.args.pid c.args.fds.keys
    c.len.ensures.ordered)
