use Rattle.cap_trace.specs.Views.{item_view}
use Rattle.cap_trace.proofs.WholeLines.{line_takes}
use Rattle.cap_trace.proofs.parse.read_slow.Goals as goal

pub invariant_of-result : goal.invariant_of-result
invariant_of-result c = (
  c.args.bytes.now,
  line_takes c.args.bytes.now
      (record { pid = c.in-Ok.pid; item = item_view c.in-Ok.item }) c.in-Ok.ensures,
)
