use Rattle.std.proofs.Common.{sym, subst}
use Rattle.cap_trace.specs.Entry.{args_of}
use Rattle.cap_trace.specs.Views.{item_view}
use Rattle.cap_trace.specs.declared.line.Item.{Item}
use Rattle.cap_machine.specs.Effect.{FdsWithin}
use Rattle.cap_machine.proofs.Within.{proper_within}
use Rattle.cap_machine.proofs.table.Table.apply_line.Goals as goal

pub close-requires : goal.close-requires
close-requires c =
    let within = subst (λ (i : Item). FdsWithin (args_of (item_view i))) c.in-Call.is
    (proper_within _ c.line.invariant) in
    (rw c.in-OnFd.is at within).0

pub returns-in-Open : goal.returns-in-Open
returns-in-Open c = rw (sym c.line.view_is, c.in-Call.is, c.in-Open.is) c.open.ensures
