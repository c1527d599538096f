use Rattle.cap_summary.specs.{Asks.passes}
use Rattle.cap_summary.proofs.{Equal.beq_true, ap, sym, ◌∙◌}
use Rattle.cap_summary.proofs.difference.Differences.holds_alike.Goals as goal

pub returns-in-Some : goal.returns-in-Some
returns-in-Some c = λ is old new differ.
    let at = c.in-Some.ensures.some old new differ in
    let test = passes c.args.ask.now in
    ap test at.0 ∙ sym c.passes.ensures ∙ beq_true c.passes.result c.passes-in-Some.result is
    ∙ c.passes-in-Some.ensures ∙ ap test (sym at.1)
