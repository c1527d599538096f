use Rattle.std.proofs.Common.{◌<◌, arith, add-one, subst}
use Rattle.cap_machine.specs.declared.verdict.Found.{Found}
use Rattle.std.proofs.lemmas.List.{get_or_default}
use Rattle.cap_session.proofs.Rising.{no_findings, front_more, back_beyond}
use Rattle.cap_session.proofs.changes.split_behind.Goals as goal
use Rattle.cap_session.proofs.changes.split_behind.Goals.{then-loop-count-test+else-found-count, else-loop-count-test}

pub loop-count-init : goal.loop-count-init
loop-count-init c = record { within = omega arith; front = no_findings _ _ }

pub loop-count-preserved : goal.loop-count-preserved
loop-count-preserved c = record {
  within = omega arith;
  front = rw add-one (front_more 0 _ _ c.args.found.now c.index-found-count.result c.requires c.loop-count-test.true
      c.loop-count.invariant.front c.if-found-count.true);
}

pub returns-clause-back : goal.returns-clause-back
returns-clause-back c = elim c.loop-count-test.branch [
  | then-loop-count-test+else-found-count w ↦
      rw c.split_at.ensures.back (back_beyond 0 _ _ c.args.found.now c.requires
      (λ d lt. subst (λ (r : Found). c.args.last < r.at) (get_or_default c.args.found.now c.loop-count.count w.index-found-count.result d lt)
      w.if-found-count.false))
  | else-loop-count-test w ↦
      rw c.split_at.ensures.back
      (back_beyond 0 _ _ c.args.found.now c.requires (λ d lt. absurd (omega (arith, w.loop-count-test.false))))
]
