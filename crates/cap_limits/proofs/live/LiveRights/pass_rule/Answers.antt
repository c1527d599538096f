use Rattle.std.proofs.Common.{ℕ, Option, None, if◌then◌else◌}
use Rattle.std.proofs.lemmas.Result.{on_ok_weaker}
use Rattle.cap_limits.specs.Code.Wanted.{wanted, blocked, blocked_in_either, unblocked, blocked_with}
use Rattle.cap_machine.specs.Effect.{is_child}
use Rattle.cap_limits.proofs.LiveBack.{before_rule, by_own, live_before}
use Rattle.cap_limits.proofs.BlockedBack.{blocked_line}
use Rattle.cap_limits.proofs.live.LiveRights.pass_rule.Goals as goal

pub returns-clause-rights : goal.returns-clause-rights
returns-clause-rights c = λ line rule.
    on_ok_weaker c.pass_own.result
    (λ is later live. live_before line c.args.requirement.now c.args.effect.now c.args.me (wanted c.args.self.now)
    (wanted c.pass_own.new.self) later rule.judged rule.owner rule.touches
    (λ p f x. before_rule c.args.requirement.now c.args.effect.now c.args.me (wanted c.args.self.now)
    (wanted c.gather.new.self) (wanted c.pass_own.new.self) c.in_ok-gather.ensures.rights p f x (is p f x)) live)
    c.pass_own.ensures.rights

pub returns-clause-blocked : goal.returns-clause-blocked
returns-clause-blocked c = λ line rule.
    on_ok_weaker c.pass_own.result
    (λ is later first. blocked_line line c.args.requirement.now c.args.effect.now c.args.at c.args.me
    (blocked c.args.self.now) (blocked c.pass_own.new.self) later rule.judged rule.owner rule.turns
    (λ p. by_own c.args.me p (blocked_in_either c.args.effect.now c.args.me (blocked c.args.self.now))
    (blocked c.pass_own.new.self p) (blocked c.gather.new.self)
    (λ q. if is_child c.args.effect.now q then None else blocked c.args.self.now q)
    (λ (b : Option ℕ). blocked_with c.args.requirement.now c.args.at (unblocked c.args.effect.now b))
    c.in_ok-gather.ensures.blocked (is p)) first)
    c.pass_own.ensures.blocked
