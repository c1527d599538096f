use Rattle.cap_summary.specs.{Differing.is_key, false, true, ◌≡◌}
use Rattle.cap_summary.proofs.{sym, take_all, ◌∙◌}
use Rattle.cap_summary.proofs.Apart.{applied_same, listed_less, listed_none, listed_then, none_but, other_key, other_more, same_more}
use Rattle.cap_summary.proofs.difference.Differences.put_others.Goals as goal

pub loop-one-init : goal.loop-one-init
loop-one-init c = record {
  listed = λ old new now_old now_new differ was now. listed_none now_old now_new _ _
      (λ p k. none_but c.args.pid c.args.key p k);
}

pub loop-one-preserved : goal.loop-one-preserved
loop-one-preserved c =
    let list = c.args.self.now.cells.items in
    let i = c.loop-one.one-index in
    let d = c.one-item.result in
    let pid = c.args.pid in
    let key = c.args.key in
    let within = rw c.deref-one-items.ensures.value at c.loop-one-test.true in
    let is = rw c.deref-one-items.ensures.value at c.one-item.is in record {
      listed = λ old new now_old now_new differ was now.
          let so_far = c.loop-one.invariant.listed old new now_old now_new differ was now in
          elim c.if-not-is_key.branch [
            | goal.then-not-is_key+in_ok-put_made w ↦
                let other : is_key pid key d.pid d.key ≡ false =
                other_key d.pid d.key pid key (sym c.is_key.ensures ∙ w.if-not-is_key.true) in
                rw w.put-is (listed_then _ _ _ _ _ _ _ _ so_far (w.in_ok-put_made.ensures old new now_old now_new differ
                (was d.pid d.key other ∙ sym (rw w.same.ensures (applied_same (old d.pid d.key))))
                (now d.pid d.key other ∙ sym (rw w.same.ensures (applied_same (new d.pid d.key)))))
                (λ p k. other_more list i d pid key p k within is))
            | goal.else-not-is_key w ↦
                let same : is_key d.pid d.key pid key ≡ true = sym c.is_key.ensures ∙ w.if-not-is_key.false in
                rw w.put-is (listed_less _ _ _ _ _ _ so_far (λ p k. same_more list i d pid key p k within is same))
          ];
    }

pub returns : goal.returns
returns c = λ old new now_old now_new differ was now.
    rw (take_all c.loop-one.one-index c.args.self.now.cells.items
    (rw c.deref-one-items.ensures.value at c.loop-one-test.false)) at
    (c.loop-one.invariant.listed old new now_old now_new differ was now)
