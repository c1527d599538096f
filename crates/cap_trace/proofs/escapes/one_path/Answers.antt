use Rattle.std.proofs.Common.{sym, ◌∙◌}
use Rattle.cap_trace.proofs.PathBytes.{escaped_once}
use Rattle.cap_trace.proofs.escapes.one_path.Goals as goal

pub returns : goal.returns
returns c text a b h g = escaped_once a b (sym h.0 ∙ g.0)
