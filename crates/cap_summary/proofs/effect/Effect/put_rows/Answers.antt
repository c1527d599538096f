use Rattle.cap_summary.proofs.{arith, on_ok_weaker}
use Rattle.cap_summary.proofs.effect.Effect.put_rows.Goals as goal

pub returns-in_ok-put-in-ForkAs-clause-leaves : goal.returns-in_ok-put-in-ForkAs-clause-leaves
returns-in_ok-put-in-ForkAs-clause-leaves c = rw c.in-ForkAs.is (on_ok_weaker c.put-in-ForkAs-2.result (λ put p k left.
    grind (arith, left, put p k, c.in_ok-put-in-ForkAs.ensures.leaves p k, c.in_ok-forked-in-ForkAs.ensures.leaves k))
    c.put-in-ForkAs-2.ensures.leaves)
