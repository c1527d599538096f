use Rattle.cap_trace.specs.Spelling.{canon}
use Rattle.cap_trace.proofs.WholeLines.{line_again}
use Rattle.cap_trace.proofs.Canonical.{canon_spells}
use Rattle.cap_trace.proofs.laws.written_is_read.Goals as goal

pub returns : goal.returns
returns c = λ bytes e s. line_again (canon e) e (canon_spells e (bytes, s))
