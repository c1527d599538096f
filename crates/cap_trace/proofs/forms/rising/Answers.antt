use Rattle.std.proofs.Common.{◌≡◌, None, sym, ap, ◌∙◌}
use Rattle.cap_trace.specs.Quotes.{pieces}
use Rattle.cap_trace.specs.Reading.{fds_from}
use Rattle.cap_trace.proofs.Rising.{failure, rising_listed}
use Rattle.cap_trace.proofs.forms.rising.Goals as goal

pub returns : goal.returns
unfolding fds_from
returns c =
    let none : failure (fds_from 0 (pieces c.args.args.now)) ≡ None = sym c.loop-next.invariant
    ∙ ap (λ ts. failure (fds_from c.loop-next.low ts)) c.in_default.ensures.value.0 in
    rising_listed 0 _ none
