use Rattle.std.proofs.Common.{ℕ, ◌∷◌, ap, ◌∙◌}
use Rattle.std.proofs.lemmas.Result.{on_ok_weaker}
use Rattle.std.specs.Option.{is_some}
use Rattle.cap_machine.specs.Steps.{step}
use Rattle.cap_machine.specs.Code.Touched.{turn_view}
use Rattle.cap_machine.proofs.Walking.{mode_is_found, mode_found_next, mode_known_next}
use Rattle.cap_machine.proofs.walks.ModeWalk.pass.Goals as goal

pub returns-in-Some-clause-chain : goal.returns-in-Some-clause-chain
returns-in-Some-clause-chain c s history at =
    (mode_is_found c.args.self.now (ap is_some c.in-Some.is)).chain s s history
    (step c.args.profile c.args.line.now ∷ history)

pub returns-in-Some-clause-mode : goal.returns-in-Some-clause-mode
returns-in-Some-clause-mode c s history =
    (mode_is_found c.args.self.now (ap is_some c.in-Some.is)).mode s s history
    (step c.args.profile c.args.line.now ∷ history)

pub returns-in-None-clause-chain : goal.returns-in-None-clause-chain
returns-in-None-clause-chain c =
    let is =
    ap (λ (me : ℕ). turn_view me c.turn_of-turn.result) c.pid.ensures ∙ c.turn_of-turn.ensures in
    on_ok_weaker c.follow.result
    (λ goes s history at. mode_found_next c.args.self.now c.follow.new.self s history
    (step c.args.profile c.args.line.now) c.args.at (turn_view c.pid.result c.turn_of-turn.result)
    c.in-None.is is goes at)
    c.follow.ensures.follows

pub returns-in-None-clause-mode : goal.returns-in-None-clause-mode
returns-in-None-clause-mode c =
    let is =
    ap (λ (me : ℕ). turn_view me c.turn_of-turn.result) c.pid.ensures ∙ c.turn_of-turn.ensures in
    on_ok_weaker c.follow.result
    (λ goes s history. mode_known_next c.args.self.now c.follow.new.self s history
    (step c.args.profile c.args.line.now) c.args.at (turn_view c.pid.result c.turn_of-turn.result)
    c.in-None.is is goes)
    c.follow.ensures.follows
