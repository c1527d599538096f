use Rattle.cap_summary.specs.{Asks.passes}
use Rattle.cap_summary.proofs.{ap, inr, not-true, sym, ◌∙◌}
use Rattle.cap_summary.proofs.difference.Differences.agree_on.Goals as goal

pub returns-then-not-passes : goal.returns-then-not-passes
returns-then-not-passes c = λ is old new differ.
    let at = c.in-Some.ensures.some old new differ in
    let test = passes c.args.ask.now in
    inr (
      ap test at.0 ∙ sym c.passes.ensures ∙ c.if-not-passes.true,
      ap test at.1 ∙ sym c.passes-then-not-passes.ensures ∙ not-true c.passes-then-not-passes.result is,
    )
