-- A row that reads its own process alone, after a segment that leaves that process.
use Rattle.std.specs.Prelude.{Bool, IfSome, List, None, Option, [], false, option_copied, refl, true, ℕ, ◌==◌, ◌∷◌, ◌≡◌}
use Rattle.cap_summary.specs.{Closed, Keys.Cells, Keys.read, Some, Sorted.found, applied, cond, list_all, option_map_or}
use Rattle.cap_summary.specs.{Composing.IsComposedSo, Keys.reads_within, Names.has_cell, declared.effect.Effect.Effect}
use Rattle.cap_summary.specs.declared.{base.DefaultCells.DefaultCells, effect.Row.Row, key.Key.Key, value.Value.Value}
use Rattle.cap_summary.specs.Names.{IsListedWithin, ListWithin, RowWithin, has_key, mode_within, only, others_within}
use Rattle.cap_summary.specs.Effects.{base_cell, cell_in, changed, is_from, others_cell, passed, row_cell}
use Rattle.cap_summary.proofs.{Bools.and_left, Bools.and_right, Bor, ap, eq-eqb, eqb-true, sym, ◌∙◌}
use Rattle.cap_summary.specs.{Cell}

-- values that each read one process alone, listed for some descriptors
pub list_only : (p : ℕ) (entries : List (ℕ × Value))
    → list_all (λ (entry : ℕ × Value). reads_within (has_cell (only p)) entry.1) entries ≡ true → ListWithin (only p) entries
list_only p [] all f = tt
list_only p ((k, v) ∷ rest) all f =
    either (k == f) (found rest f) (and_left (reads_within (has_cell (only p)) v) _ all)
    (list_only p rest (and_right (reads_within (has_cell (only p)) v) _ all) f)
  where
    either : (b : Bool) (o : Option Value) → reads_within (has_cell (only p)) v ≡ true
        → IfSome o (IsListedWithin (only p) f) → IfSome (cond b (Some v) o) (IsListedWithin (only p) f)
    either true o here later = record { key = refl; source = here }
    either false o here later = later

module _ (before after : Cells) (p : ℕ) (same : (k : Key) → before p k ≡ after p k) where
  same_cell : (q : ℕ) (k : Key) → (q == p) ≡ true → before q k ≡ after q k
  same_cell q k is = rw (eqb-true q p is) (same k)

  same_value : (v : Value) → reads_within (has_cell (only p)) v ≡ true → read before v ≡ read after v
  same_value Value.Unknown is = refl
  same_value Value.Closed is = refl
  same_value (Value.Held rights flag) is = refl
  same_value (Value.Same q k) is = same_cell q k (and_left (q == p) (has_key (only p) k) is)
  same_value (Value.Of q k op) is = ap (applied op) (same_cell q k (and_left (q == p) (has_key (only p) k) is))

  same_listed : (listed : Option Value) (f : ℕ) (d d' : Cell) → IfSome listed (IsListedWithin (only p) f) → d ≡ d'
      → option_map_or (read before) listed d ≡ option_map_or (read after) listed d'
  same_listed None f d d' is same = same
  same_listed (Some v) f d d' is same = same_value v is.source

  same_mode : (mode : Option Value) → mode_within (only p) mode ≡ true
      → option_map_or (read before) mode (before p Key.Mode) ≡ option_map_or (read after) mode (after p Key.Mode)
  same_mode None is = same Key.Mode
  same_mode (Some v) is = same_value v is

  same_others : (o : DefaultCells) (f : ℕ) → others_within (only p) o ≡ true
      → others_cell before p o f ≡ others_cell after p o f
  same_others DefaultCells.Own f is = same (Key.Fd f)
  same_others (DefaultCells.Of q passing) f is = ap (passed passing) (same_cell q (Key.Fd f) is)
  same_others DefaultCells.Unknown f is = refl
  same_others DefaultCells.Closed f is = refl

  pub own_row : (row : Row) → RowWithin (only p) row → (k : Key) → row_cell before p row k ≡ row_cell after p row k
  own_row row is Key.Mode = same_mode row.mode is.mode
  own_row row is (Key.Fd f) = same_listed (found row.cells f) f (base_cell before p row.base f)
      (base_cell after p row.base f) (is.cells f)
      (ap (λ c. cond (is_from row.base.closed_from f) Closed c) (same_others row.base.others f is.others))

-- .. where another first segment gives the process the same row
pub first_replaced : (was first : Effect) (p : ℕ) (right : Row) (new : Option Row)
    → found was.rows p ≡ found first.rows p → RowWithin (only p) right → IsComposedSo was p (Some right) new
    → IsComposedSo first p (Some right) new
first_replaced was first p right new had own old = record {
  cells = λ cells k. old.cells cells k
      ∙ own_row (changed was cells) (changed first cells) p (λ j. ap (λ row. cell_in cells row p j) had) right own k;
  leaves = rw had at old.leaves;
  names = λ names of read first_named here named. old.names names (only p)
      (λ q same. rw (eqb-true q p same, had) first_named) (rw had first_named)
      (record { pid = eq-eqb p p refl; row = own }) named;
}

-- what is looked up of a process
pub copied : (o : Option (Bor Row)) (x : Option Row) → option_copied o ≡ x → IfSome o (λ row. x ≡ Some row.now)
copied None x is = tt
copied (Some row) x is = sym is
