use Rattle.std.specs.Prelude.{false, is_some, not, option_copied, refl, true, ◌≡◌}
use Rattle.cap_summary.specs.{None, applied, Option, Some, Sorted.found, declared.effect.Row.Row}
use Rattle.cap_summary.specs.{Effects.changed, Keys.Cells}
use Rattle.cap_summary.proofs.{Bor, ap, sym, take_all, ◌∙◌}
use Rattle.cap_summary.proofs.Apart.{applied_same, left_cells, left_more, left_same, listed_less, listed_none, listed_then}
use Rattle.cap_summary.proofs.Apart.{none_left}
use Rattle.cap_summary.proofs.difference.Differences.put_left.Goals as goal

copied_some : (o : Option (Bor Row)) (row : Option Row) → option_copied o ≡ row → is_some row ≡ is_some o
copied_some None row is = ap is_some (sym is)
copied_some (Some x) row is = ap is_some (sym is)

nothing : (row : Option Row) → is_some row ≡ false → row ≡ None
nothing None is = refl
nothing (Some x) is = absurd (let wrong : true ≡ false = is in cc)

pub loop-one-init : goal.loop-one-init
loop-one-init c = record {
  listed = λ old new differ. listed_none _ _ _ _ (λ p k. none_left c.args.effect.now p k);
}

pub loop-one-preserved : goal.loop-one-preserved
loop-one-preserved c =
    let effect = c.args.effect.now in
    let list = c.args.self.now.cells.items in
    let i = c.loop-one.one-index in
    let d = c.one-item.result in
    let within = rw c.deref-one-items.ensures.value at c.loop-one-test.true in
    let is = rw c.deref-one-items.ensures.value at c.one-item.is in
    let row : is_some (found effect.rows d.pid) ≡ not c.is_none.result =
    copied_some c.row.result (found effect.rows d.pid) c.row.ensures ∙ c.is_none.ensures in record {
      listed = λ old new differ.
          let so_far = c.loop-one.invariant.listed old new differ in elim c.if-is_none.branch [
            | goal.then-is_none+in_ok-put_made w ↦
                let none : found effect.rows d.pid ≡ None =
                nothing (found effect.rows d.pid) (row ∙ ap not w.if-is_none.true) in
                let same : (cells : Cells) → changed effect cells d.pid d.key ≡ applied w.same.result (cells d.pid d.key) =
                λ cells. left_cells effect cells d.pid d.key none
                ∙ sym (rw w.same.ensures (applied_same (cells d.pid d.key))) in
                rw w.put-is (listed_then _ _ _ _ _ _ _ _ so_far (w.in_ok-put_made.ensures old new (changed effect old)
                (changed effect new) differ (same old) (same new)) (λ p k. left_more effect list i d p k within is))
            | goal.else-is_none w ↦ rw w.put-is (listed_less _ _ _ _ _ _ so_far
                (λ p k. left_same effect list i d p k within is (row ∙ ap not w.if-is_none.false)))
          ];
    }

pub returns : goal.returns
returns c = λ old new differ.
    rw (take_all c.loop-one.one-index c.args.self.now.cells.items
    (rw c.deref-one-items.ensures.value at c.loop-one-test.false)) at (c.loop-one.invariant.listed old new differ)
