use Rattle.std.proofs.Common.{sym, ◌∙◌, subst}
use Rattle.std.specs.List.{All}
use Rattle.cap_trace.specs.Entry.{IsFd}
use Rattle.cap_machine.proofs.Within.{spelled_within}
use Rattle.cap_machine.proofs.table.Process.apply.Goals as goal

pub start-requires : goal.start-requires
start-requires c =
    subst (All IsFd) (sym (c.deref.ensures.value ∙ c.in_ok-fds_of-in-Start.ensures)) (spelled_within c.in-Start.fds.now)
