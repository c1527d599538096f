use Rattle.std.specs.Prelude.{Bool, List, None, Option, Some, cond, false, is_none, not, refl, true, ℕ, ◌&&◌, ◌||◌, ◌≡◌}
use Rattle.cap_summary.specs.{Cell, Composing.IsHandedSo, Effects.leaves, declared.effect.Row.Row, declared.key.Key.Key}
use Rattle.cap_summary.specs.declared.{base.Base.Base, base.Passing.Passing, effect.Effect.Effect, value.Value.Value}
use Rattle.cap_summary.specs.Effects.{base_cell, base_leaves, changed, is_from, is_own, passed, row_cell, row_leaves}
use Rattle.cap_summary.specs.{Closed, Keys.Cells, Keys.read, Sorted.found, option_map_or}
use Rattle.cap_summary.proofs.{and_from, ap, arith, not-true, ◌∙◌}
use Rattle.std.proofs.lemmas.{Bool.and_parts}
use Rattle.cap_summary.proofs.effect.Effect.row_after.Goals as goal

module _ (cells after : Cells) (p : ℕ) (passing : Passing) (base : Base) (rest : Cell) (f : ℕ)
    (closed : is_from base.closed_from f ≡ true → rest ≡ Closed) where
  -- what is handed on, or not
  handed_so : (handed : Option Value) (b : Bool) → is_from base.closed_from f ≡ b → (is_from base.closed_from f ≡ false
      → option_map_or (λ v. passed passing (read cells v)) handed rest ≡ base_cell after p base f)
      → option_map_or (λ v. cond (is_from base.closed_from f) rest (passed passing (read cells v))) handed rest
      ≡ base_cell after p base f
  handed_so None true is below = closed is ∙ rw is refl
  handed_so (Some v) true is below = rw is (closed is)
  handed_so None false is below = below is
  handed_so (Some v) false is below = let here = rw is at (below is) in rw is here

-- a descriptor that isn't listed after both is listed in the second one nowhere, and is closed there or not handed on
unlisted_in_both : (listed handed new closed : Bool) → new ≡ (listed && (handed || closed)) → new ≡ true
    → closed ≡ false → (listed ≡ true) × (handed ≡ true)
unlisted_in_both listed handed new closed is none below =
    (grind (arith, is, none, below), grind (arith, is, none, below))

-- a row after two segments, where `new` lists what the second lists and what it is handed on
module _ (first : Effect) (p : ℕ) (row new : Row) (passing : Passing) (handed : List (ℕ × Value))
    (each : (f : ℕ) → IsHandedSo first passing row.base.closed_from f (found row.cells f) (found handed f)
    (found new.cells f)) where
  composed_row : ((cells : Cells) → row_cell cells p new Key.Mode ≡ row_cell (changed first cells) p row Key.Mode)
      → ((cells : Cells) (f : ℕ) → is_from row.base.closed_from f ≡ true → base_cell cells p new.base f ≡ Closed)
      → ((cells : Cells) (f : ℕ) → is_from row.base.closed_from f ≡ false
      → option_map_or (λ v. passed passing (read cells v)) (found handed f) (base_cell cells p new.base f)
      ≡ base_cell (changed first cells) p row.base f)
      → (cells : Cells) (k : Key) → row_cell cells p new k ≡ row_cell (changed first cells) p row k
  composed_row mode closed below cells Key.Mode = mode cells
  composed_row mode closed below cells (Key.Fd f) = (each f).cells cells (base_cell cells p new.base f)
      ∙ ap (option_map_or (read (changed first cells)) (found row.cells f)) (handed_so cells (changed first cells) p
      passing row.base (base_cell cells p new.base f) f (closed cells f) (found handed f)
      (is_from row.base.closed_from f) refl (below cells f))

  composed_leaves : (is_none new.mode ≡ true → (leaves first p Key.Mode ≡ true) × (is_none row.mode ≡ true))
      → ((f : ℕ) → base_leaves new.base f ≡ true → (base_leaves row.base f ≡ true)
      × (is_none (found handed f) ≡ true → leaves first p (Key.Fd f) ≡ true))
      → (k : Key) → row_leaves new k ≡ true → (leaves first p k ≡ true) × (row_leaves row k ≡ true)
  composed_leaves mode base Key.Mode left = mode left
  composed_leaves mode base (Key.Fd f) left =
      let none = and_parts (is_none (found new.cells f)) (base_leaves new.base f) left in
      let here = base f none.1 in
      let below : is_from row.base.closed_from f ≡ false = not-true (is_from row.base.closed_from f)
      (and_parts (is_own row.base.others) (not (is_from row.base.closed_from f)) here.0).1 in
      let both = unlisted_in_both (is_none (found row.cells f)) (is_none (found handed f)) (is_none (found new.cells f))
      (is_from row.base.closed_from f) (each f).unlisted none.0 below in
      (here.1 both.1, and_from (is_none (found row.cells f)) (base_leaves row.base f) both.0 here.0)

pub returns : goal.returns
returns c =
    let first = c.args.self.now in
    let p = c.args.pid in
    let row = c.args.row.now in
    let listed = c.in_ok-cells.cells in
    let handed = c.handed-handed in
    let mode = c.in_ok-mode.ensures in
    let new : Row = record { base = handed.result.base; mode = c.in_ok-mode.mode; cells = listed } in
    let each : (f : ℕ) → IsHandedSo first handed.result.passing row.base.closed_from f (found row.cells f)
    (found handed.result.cells.now f) (found listed f) = λ f. rw c.entries.ensures.all at (c.in_ok-cells.ensures f) in
    record {
      cells = composed_row first p row new handed.result.passing handed.result.cells.now each mode.reads
          handed.ensures.closed handed.ensures.«open»;
      leaves = composed_leaves first p row new handed.result.passing handed.result.cells.now each mode.leaves
          handed.ensures.leaves;
      names = λ names of read here own. record {
        cells = λ f. (each f).names names of read (here.row.cells f) (own.cells f)
            (handed.ensures.cells_named names of read here.pid here.row.others f);
        others = handed.ensures.others_named names of read here.pid here.row.others own.others;
        mode = mode.names names of read here.pid here.row.mode own.mode;
      };
    }
