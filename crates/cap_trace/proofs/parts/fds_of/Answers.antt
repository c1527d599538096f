use Rattle.std.proofs.Common.{[], ◌∷◌, Ok, append_assoc, ◌∙◌}
use Rattle.cap_trace.specs.Views.{fds_in}
use Rattle.cap_trace.proofs.Rising.{listed_on, listed_end}
use Rattle.cap_trace.proofs.parts.fds_of.Goals as goal

pub loop-next-preserved : goal.loop-next-preserved
loop-next-preserved c =
    rw c.in_ok-push.ensures.items
    (append_assoc c.loop-next.fds.items (c.in-Ok.fd ∷ []) (fds_in c.next_fd.new.self)
    ∙ listed_on c.loop-next.fds.items c.loop-next.parts c.next_fd.new.self c.in-Some.next (Ok c.in-Ok.fd) _
    c.in-Some.ensures.value c.in-Ok.is c.loop-next.invariant)

pub loop-next-preserved-in_default-next : goal.loop-next-preserved-in_default-next
loop-next-preserved-in_default-next c =
    listed_on c.loop-next.fds.items c.loop-next.parts c.next_fd.new.self c.in-Some.next _ _
    c.in-Some.ensures.value c.in_default-next.is c.loop-next.invariant

pub returns : goal.returns
returns c = listed_end c.loop-next.fds.items c.loop-next.parts _ c.in_default.ensures.value.0 c.loop-next.invariant
