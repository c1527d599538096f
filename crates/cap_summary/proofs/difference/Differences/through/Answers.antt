use Rattle.std.specs.Prelude.{length, ℕ, ◌≡◌, ◌≤◌}
use Rattle.cap_summary.specs.{Some, Sorted.found, declared.effect.Row.Row}
use Rattle.cap_summary.proofs.Apart.{all_listed, entry_found, first_listed, listed_less, listed_then, row_cells, row_more}
use Rattle.cap_summary.proofs.{arith}
use Rattle.cap_summary.proofs.{Apart.none_differ, eqb-true, subst, sym, ◌∙◌}
use Rattle.std.proofs.lemmas.List.{nil_from_length}
use Rattle.cap_summary.specs.{Differing.DifferAt, Effects.changed, Keys.Cells}
use Rattle.cap_summary.proofs.difference.Differences.through.Goals as goal

pub loop-entry-init : goal.loop-entry-init
loop-entry-init c = record {
  listed = λ old new differ. listed_less _ _ _ _ _ _
      (rw c.none-put.ensures.empty at (c.in_ok-put_left.ensures old new differ))
      (λ p k. first_listed c.args.effect.now c.args.self.now.cells.items p k);
}

pub loop-entry-preserved : goal.loop-entry-preserved
loop-entry-preserved c =
    let effect = c.args.effect.now in
    let list = c.args.self.now.cells.items in
    let i = c.loop-entry.entry-index in
    let x : ℕ × Row = c.entry-item.result in
    let within = rw c.entries-entry-items.ensures.all at c.loop-entry-test.true in
    let is = rw c.entries-entry-items.ensures.all at c.entry-item.is in
    let there : found effect.rows x.0 ≡ Some x.1 =
    entry_found 0 effect.rows i x c.entries-entry-items.ensures.rising within is in record {
      listed = λ old new differ. listed_then _ _ _ _ _ _ _ _ (c.loop-entry.invariant.listed old new differ)
          (c.in_ok-put_row.ensures old new _ _ differ (rw c.get.ensures (row_cells effect old x.0 x.1 there))
          (rw c.get.ensures (row_cells effect new x.0 x.1 there))) (λ p k. row_more effect list i x p k within is);
    }

pub returns : goal.returns
returns c = λ old new differ.
    let rows = c.args.effect.now.rows in
    let low : length rows ≤ c.loop-entry.entry-index = rw c.entries-entry-items.ensures.all at c.loop-entry-test.false in
    let high : c.loop-entry.entry-index ≤ length rows =
    rw c.entries-entry-items.ensures.all at c.loop-entry.auto.entry-index-end in
    let all : c.loop-entry.entry-index ≡ length rows = omega (arith, low, high) in
    all_listed c.args.effect.now c.args.self.now.cells.items c.loop-entry.put.cells.items old new differ
    (rw all at (c.loop-entry.invariant.listed old new differ))

pub returns-then-is_empty : goal.returns-then-is_empty
returns-then-is_empty c = λ old new differ.
    let none = nil_from_length c.args.self.now.cells.items
    (omega (arith, eqb-true _ _ (sym c.is_empty.ensures ∙ c.if-is_empty.true))) in
    subst (λ (cells : Cells). DifferAt c.none-put.result.cells.items (changed c.args.effect.now old)
    (changed c.args.effect.now cells)) (none_differ c.args.self.now.cells.items old new none differ)
    (c.none-put.ensures.same (changed c.args.effect.now old))
