use Rattle.cap_summary.specs.{Some, Sorted.found, declared.value.Value.Value, ℕ, ◌≡◌}
use Rattle.cap_summary.specs.{declared.key.Key.Key}
use Rattle.cap_summary.proofs.{Apart.entry_found, Apart.key_more, Apart.listed_none, Apart.listed_then, Apart.no_key}
use Rattle.cap_summary.proofs.{take_all}
use Rattle.cap_summary.proofs.difference.Differences.put_listed.Goals as goal

pub loop-cell-init : goal.loop-cell-init
loop-cell-init c = record {
  listed = λ old new now_old now_new differ was now. listed_none now_old now_new _ _ (λ p k. no_key p c.args.pid k);
}

pub loop-cell-preserved : goal.loop-cell-preserved
loop-cell-preserved c =
    let cells = c.args.row.now.cells in
    let i = c.loop-cell.cell-index in
    let x : ℕ × Value = c.cell-item.result in
    let within = rw c.entries-cell-items.ensures.all at c.loop-cell-test.true in
    let is = rw c.entries-cell-items.ensures.all at c.cell-item.is in
    let there : found cells x.0 ≡ Some x.1 = entry_found 0 cells i x c.entries-cell-items.ensures.rising within is in
    record {
      listed = λ old new now_old now_new differ was now. listed_then now_old now_new _ _ _ _ _ _
          (c.loop-cell.invariant.listed old new now_old now_new differ was now) (c.in_ok-put_value.ensures old new now_old
          now_new differ (rw there at (was (Key.Fd x.0))) (rw there at (now (Key.Fd x.0))))
          (λ p k. key_more cells i x p c.args.pid k within is);
    }

pub returns : goal.returns
returns c = λ old new now_old now_new differ was now.
    rw (take_all c.loop-cell.cell-index c.args.row.now.cells
    (rw c.entries-cell-items.ensures.all at c.loop-cell-test.false)) at
    (c.loop-cell.invariant.listed old new now_old now_new differ was now)
