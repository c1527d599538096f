use Rattle.cap_summary.proofs.{Apart.about_more, Apart.listed_none, Apart.listed_then, Apart.none_about, arith, take_all}
use Rattle.cap_summary.proofs.difference.Differences.put_handed.Goals as goal

pub loop-one-init : goal.loop-one-init
loop-one-init c = record {
  listed = λ old new now_old now_new differ was now. listed_none now_old now_new _ _ (λ p k. none_about p c.args.pid k);
}

pub loop-one-preserved : goal.loop-one-preserved
loop-one-preserved c =
    let list = c.args.self.now.cells.items in record {
      listed = λ old new now_old now_new differ was now. listed_then now_old now_new _ _ _ _ _ _
          (c.loop-one.invariant.listed old new now_old now_new differ was now)
          (c.in_ok-put_key.ensures old new now_old now_new differ was now)
          (λ p k. about_more list c.loop-one.one-index c.one-item.result p c.args.pid k
          (rw c.deref-one-items.ensures.value at c.loop-one-test.true)
          (rw c.deref-one-items.ensures.value at c.one-item.is));
    }

pub returns : goal.returns
returns c = λ old new now_old now_new differ was now.
    rw (take_all c.loop-one.one-index c.args.self.now.cells.items (omega arith)) at
    (c.loop-one.invariant.listed old new now_old now_new differ was now)
