use Rattle.std.proofs.Common.{ℕ, ◌∷◌, ap, ◌∙◌}
use Rattle.std.proofs.lemmas.Result.{on_ok_weaker}
use Rattle.std.specs.Option.{is_some}
use Rattle.cap_machine.specs.Steps.{step}
use Rattle.cap_machine.specs.Code.Touched.{touch_view}
use Rattle.cap_machine.proofs.Walking.{cell_is_found, found_next, known_next}
use Rattle.cap_machine.proofs.walks.CellWalk.pass.Goals as goal

pub returns-in-Some-clause-chain : goal.returns-in-Some-clause-chain
returns-in-Some-clause-chain c s history at =
    (cell_is_found c.args.self.now (ap is_some c.in-Some.is)).chain s s history
    (step c.args.profile c.args.line.now ∷ history)

pub returns-in-Some-clause-cell : goal.returns-in-Some-clause-cell
returns-in-Some-clause-cell c s history =
    (cell_is_found c.args.self.now (ap is_some c.in-Some.is)).cell s s history
    (step c.args.profile c.args.line.now ∷ history)

pub returns-in-None-clause-chain : goal.returns-in-None-clause-chain
returns-in-None-clause-chain c =
    let is =
    ap (λ (me : ℕ). touch_view me c.touch_of-touched.result) c.pid.ensures ∙ c.touch_of-touched.ensures in
    on_ok_weaker c.follow.result
    (λ goes s history at. found_next c.args.self.now c.follow.new.self s history
    (step c.args.profile c.args.line.now) c.args.at (touch_view c.pid.result c.touch_of-touched.result)
    c.in-None.is is goes at)
    c.follow.ensures.follows

pub returns-in-None-clause-cell : goal.returns-in-None-clause-cell
returns-in-None-clause-cell c =
    let is =
    ap (λ (me : ℕ). touch_view me c.touch_of-touched.result) c.pid.ensures ∙ c.touch_of-touched.ensures in
    on_ok_weaker c.follow.result
    (λ goes s history. known_next c.args.self.now c.follow.new.self s history
    (step c.args.profile c.args.line.now) c.args.at (touch_view c.pid.result c.touch_of-touched.result)
    c.in-None.is is goes)
    c.follow.ensures.follows
