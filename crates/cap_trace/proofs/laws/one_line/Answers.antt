use Rattle.std.proofs.Common.{sym, ◌∙◌}
use Rattle.cap_trace.proofs.WholeLines.{line_again}
use Rattle.cap_trace.proofs.Rising.{ok_same}
use Rattle.cap_trace.proofs.laws.one_line.Goals as goal

pub returns : goal.returns
returns c = λ bytes d e p q. ok_same d e (sym (line_again bytes d p) ∙ line_again bytes e q)
