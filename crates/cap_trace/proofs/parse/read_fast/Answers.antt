use Rattle.std.proofs.Common.{subst}
use Rattle.cap_trace.specs.declared.names.Head.{Head}
use Rattle.cap_trace.specs.declared.calls.Form.{Form}
use Rattle.cap_trace.specs.declared.calls.Form.TheVariants as forms
use Rattle.cap_trace.specs.Names.{listed}
use Rattle.cap_trace.specs.Code.Rows.{head_view}
use Rattle.cap_trace.specs.Code.FastPath.{Starts}
use Rattle.cap_trace.proofs.FastPathLines.{read_so}
use Rattle.cap_trace.proofs.parse.read_fast.Goals as goal

starts : (c : goal.In_ok-fd)
    → Starts c.args.bytes.now c.in_ok-start.start.pid (listed (forms.OnFd c.in-OnFd.call))
    c.in_ok-start.start.text.now
starts c =
    subst (λ (f : Form). Starts c.args.bytes.now c.in_ok-start.start.pid (listed f) c.in_ok-start.start.text.now)
    c.in-OnFd.is
    (subst (λ (h : Head). Starts c.args.bytes.now c.in_ok-start.start.pid (head_view h) c.in_ok-start.start.text.now)
    c.in-Listed.is c.in_ok-start.ensures)

pub returns : goal.returns
returns c = read_so (starts c) c.in_ok-fd.ensures
