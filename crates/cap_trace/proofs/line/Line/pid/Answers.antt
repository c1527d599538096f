use Rattle.std.proofs.Common.{None, sym, ap, ◌∙◌}
use Rattle.cap_trace.specs.Code.Kept.{entry_of}
use Rattle.cap_trace.proofs.Kept.{pid_first, pid_read}
use Rattle.cap_trace.proofs.Spelled.{ok_is}
use Rattle.cap_trace.proofs.line.Line.pid.Goals as goal

pub unreachable-requires : goal.unreachable-requires
unreachable-requires c =
    let first = pid_first c.deref.result.now c.self.inside.text.items None c.self.invariant c.deref.ensures.value
    c.in_default.ensures in
    let e = first.1 in cc

pub unreachable-requires-in_default-pid_of : goal.unreachable-requires-in_default-pid_of
unreachable-requires-in_default-pid_of c =
    let read = pid_read c.deref.result.now c.self.inside.text.items _ _
    c.self.invariant c.deref.ensures.value c.in-Some.ensures in
    let e = sym c.in_default-pid_of.ensures ∙ read in cc

pub returns : goal.returns
returns c =
    let read = pid_read c.deref.result.now c.self.inside.text.items _ _
    c.self.invariant c.deref.ensures.value c.in-Some.ensures in
    ok_is c.in-Ok.pid (entry_of c.self.inside.text.items).pid (sym c.in-Ok.ensures ∙ read) ∙ ap (λ e. e.pid) c.self.view_is
