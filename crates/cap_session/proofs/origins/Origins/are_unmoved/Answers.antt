use Rattle.std.proofs.Common.{◌≡◌, ◌∙◌, arith, ap, sym}
use Rattle.std.proofs.lemmas.Bool.{eqb-true}
use Rattle.std.specs.Prelude.{slice_get}
use Rattle.cap_session.specs.Origins.{unmoved}
use Rattle.cap_session.proofs.RunEdits.{first_has_all, no_runs}
use Rattle.cap_session.proofs.origins.Origins.are_unmoved.Goals as goal

pub returns-in-None : goal.returns-in-None
returns-in-None c is =
    let none : c.args.before ≡ 0 = eqb-true c.args.before 0 is in
    let nothing = ap (λ l. slice_get l 0) (sym c.deref.ensures.value) ∙ sym c.in-None.ensures.value in
    sym c.self.view_is ∙ no_runs c.self.inside.runs.items c.self.inside.count nothing
    (omega (arith, c.if-self-before.false, none))
    ∙ ap unmoved (sym none)

pub returns-then-run-eq0 : goal.returns-then-run-eq0
returns-then-run-eq0 c is =
    let run = c.in-Some.run'.now in
    let long : run.len ≡ c.args.before = eqb-true run.len c.args.before is in
    let first = ap (λ l. slice_get l 0) (sym c.deref.ensures.value) ∙ sym c.in-Some.ensures.value in
    sym c.self.view_is ∙ first_has_all c.self.inside.count c.self.inside.runs.items run c.self.invariant first
    c.if-run-eq0.true (omega (arith, c.if-self-before.false, long))
    ∙ ap unmoved c.if-self-before.false
