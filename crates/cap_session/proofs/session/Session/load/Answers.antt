use Rattle.std.proofs.Common.{◌≡◌, ◌∙◌, subst, length, true, refl, arith}
use Rattle.std.specs.Prelude.{nat_le}
use Rattle.cap_tree.specs.Run.{values}
use Rattle.cap_session.specs.Session.{SessionState, IsIn}
use Rattle.cap_session.proofs.Shared.{is_in, lines_are}
use Rattle.cap_session.proofs.session.Session.load.Goals as goal

pub load_steps-requires-clause-in_profile : goal.load_steps-requires-clause-in_profile
load_steps-requires-clause-in_profile c =
    subst (λ (s : SessionState). IsIn s.setting.profile (values c.in_ok-steps.steps.items)) c.self.view_is
    (is_in _ _ _ c.in_ok-steps.ensures)

pub returns-clause-accepted : goal.returns-clause-accepted
returns-clause-accepted c =
    let same : c.load_steps.new.self.trace ≡ c.args.lines.items =
    c.in_ok-load_steps.ensures.trace ∙ lines_are _ _ _ c.in_ok-steps.ensures in
    let few : nat_le (length c.args.lines.items) c.args.self.now.limit ≡ true = grind arith in
    (rw (few, same) refl, c.in_ok-load_steps.ensures.count)
