use Rattle.std.proofs.Common.{sym, ap, ◌∙◌}
use Rattle.cap_trace.specs.Quotes.{left}
use Rattle.cap_trace.proofs.FastPathLines.{fd_first}
use Rattle.cap_trace.proofs.parts.Parts.next_fd.Goals as goal

pub returns-in-Some-clause-value : goal.returns-in-Some-clause-value
returns-in-Some-clause-value c =
    let first = fd_first c.in_ok-text.text.now c.in-Some.rest.now c.in-Some.fd c.in-Some.ensures in
    (first.0, sym c.self.view_is ∙ ap left c.in_ok-text.was ∙ first.1, first.2)
