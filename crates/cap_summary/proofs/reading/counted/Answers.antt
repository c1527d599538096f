use Rattle.cap_summary.specs.{List, Sorted.RisesFrom, declared.effect.Row.Row, declared.value.Value.Value, length, min}
use Rattle.cap_summary.specs.{Keys.CellsRise, Keys.rows_size, take, All, [], get_or, ℕ, ◌++◌, ◌+◌, ◌<◌, ◌∷◌, ◌≡◌}
use Rattle.cap_summary.proofs.{SortedFound.keys_rise, All-push, ap, arith, subst, sym, take_all, take_more, ◌∙◌}
use Rattle.cap_summary.proofs.reading.counted.Goals as goal

sizes-append : (a b : List (ℕ × Row)) → rows_size (a ++ b) ≡ rows_size a + rows_size b
sizes-append [] b = omega arith
sizes-append ((p, row) ∷ a) b = omega (arith, sizes-append a b)

sizes_more : (rows : List (ℕ × Row)) (i : ℕ) (e : ℕ × Row) → i < length rows → e ≡ get_or rows i e
    → rows_size (take (i + 1) rows) ≡ rows_size (take i rows) + (length e.1.cells + 1)
sizes_more rows i e within at =
    let split : rows_size (take (i + 1) rows) ≡ rows_size (take i rows) + rows_size (e ∷ []) =
    rw (← at) at (ap rows_size (take_more rows i e within) ∙ sizes-append (take i rows) (get_or rows i e ∷ [])) in
    omega (arith, split)

rises_more : (rows : List (ℕ × Row)) (i : ℕ) (e : ℕ × Row) → i < length rows → e ≡ get_or rows i e
    → All CellsRise (take i rows) → CellsRise e → All CellsRise (take (i + 1) rows)
rises_more rows i e within at all own =
    let more : take (i + 1) rows ≡ take i rows ++ e ∷ [] =
    take_more rows i e within ∙ ap (λ (x : ℕ × Row). take i rows ++ x ∷ []) (sym at) in
    subst (All CellsRise) (sym more) (All-push CellsRise (take i rows) e all own)

pub loop-entry-preserved : goal.loop-entry-preserved
loop-entry-preserved c =
    let rows = c.args.rows.now in
    let i = c.loop-entry.entry-index in
    let e = c.entry-item.result in
    let more = sizes_more rows i e c.loop-entry-test.true c.entry-item.is in
    let cells : c.entries-cells.result.now ≡ e.1.cells =
    c.entries-cells.ensures.all ∙ ap (λ (row : Row). row.cells) c.get.ensures in
    let listed = ap (λ (cells : List (ℕ × Value)). length cells) cells in
    let rises = subst (λ (row : Row). RisesFrom 0 row.cells) c.get.ensures c.entries-cells.ensures.rising in
    record {
      count = omega (
        arith,
        more,
        listed,
        c.loop-entry.invariant.count,
        c.saturating_add.ensures,
        c.saturating_add-size.ensures,
      );
      cells = rises_more rows i e c.loop-entry-test.true c.entry-item.is c.loop-entry.invariant.cells
          (keys_rise 0 e.1.cells rises);
    }

pub returns : goal.returns
returns c =
    let rows = c.args.rows.now in
    let all = take_all c.loop-entry.entry-index rows (omega arith) in
    let count : c.loop-entry.size ≡ min (rows_size rows) 18446744073709551615 = rw all at c.loop-entry.invariant.count in
    let cells : All CellsRise rows = rw all at c.loop-entry.invariant.cells in
    record { count = count; rising = record { pids = keys_rise 0 rows c.requires; cells = cells } }
