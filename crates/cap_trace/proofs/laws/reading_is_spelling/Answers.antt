use Rattle.cap_trace.proofs.WholeLines.{line_takes, line_again}
use Rattle.cap_trace.proofs.laws.reading_is_spelling.Goals as goal

pub returns : goal.returns
returns c = λ bytes e. (λ h. line_again bytes e h, λ h. line_takes bytes e h)
