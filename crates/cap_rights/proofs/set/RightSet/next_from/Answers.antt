use Rattle.std.proofs.Common.{arith}
use Rattle.cap_rights.proofs.Members.{set_lt}
use Rattle.cap_rights.proofs.NextHeld.{none_before, is_next}
use Rattle.cap_rights.proofs.set.RightSet.next_from.Goals as goal

pub returns-then-right-lt63-clause-some : goal.returns-then-right-lt63-clause-some
returns-then-right-lt63-clause-some c = rw (← c.self.view_is) (
  is_next c.self.inside.bits.0 c.args.from (set_lt c.self.inside.bits.0 c.self.invariant) c.if-right-lt63.true,
  c.if-right-lt63.true,
)

pub returns-else-right-lt63-clause-none : goal.returns-else-right-lt63-clause-none
returns-else-right-lt63-clause-none c = rw (← c.self.view_is) (λ is. none_before c.self.inside.bits.0 c.args.from 63
    (set_lt c.self.inside.bits.0 c.self.invariant) (omega (arith, c.if-right-lt63.false)))
