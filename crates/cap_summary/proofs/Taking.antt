-- A state that is moved on by the rows of an effect that lists what it changes.
use Rattle.std.specs.Prelude.{Bool, IfSome, if◌then◌else◌, List, None, Option, Some, [], false, map, refl, true, ◌+◌, ◌<◌, ◌==◌, ◌∷◌, ◌≡◌, ◌≤◌}
use Rattle.cap_summary.specs.{All, Cell, Effects.base_cell, Effects.cell_in, Effects.changed, Effects.others_cell}
use Rattle.cap_summary.specs.{Effects.row_cell, Keys.cell_mode, Keys.cells_of, Keys.mode_cell, Keys.read}
use Rattle.cap_summary.specs.{Listing.AreRowsOf, Listing.EffectLists, Listing.IsRowOf, Listing.IsTaken}
use Rattle.cap_summary.specs.{Listing.IsTakenRow, Listing.RowLists, Listing.is_plain, Listing.listed_in, Listing.moved, Mode, Positions.AgreeAfter}
use Rattle.cap_summary.specs.{Positions.last_of, Sorted.Rises, Sorted.RisesFrom, Sorted.found, State, option_map_or, ℕ}
use Rattle.cap_summary.specs.declared.{base.DefaultCells.DefaultCells, effect.Effect.Effect, effect.Row.Row, key.Key.Key}
use Rattle.cap_summary.specs.declared.{last_steps.LastSteps.LastSteps, value.Value.Value}
use Rattle.cap_summary.proofs.{All-head, All-tail, OwnCells.own_row, SortedFound.found_below, ap, arith, eq-eqb, eqb-true}
use Rattle.cap_summary.proofs.{ne_eqb, subst, sym, ◌∙◌}
use Rattle.cap_summary.proofs.Judged.{mode_back}
use Rattle.cap_summary.specs.{Unknown}
use Rattle.cap_machine.specs.State.{listed_cell, with_cells, with_listed}
use Rattle.cap_trace.specs.Entry.{IsFd}
use Rattle.std.proofs.lemmas.List.Elements.{All-map}

turned : (a b : ℕ) → (b == a) ≡ (a == b)
turned a b = by (a == b) refl
  where
    by : (x : Bool) → (a == b) ≡ x → (b == a) ≡ x
    by true is = eq-eqb b a (sym (eqb-true a b is))
    by false is = ne_eqb b a (λ same. absurd (let wrong : true ≡ false = sym (eq-eqb a b (sym same)) ∙ is in cc))

-- of listed descriptors each has the cell that goes by its number
module _ {V : Type 0} (g : ℕ → Cell) (f : ℕ) where
  step_get : (k : ℕ) (v : V) (more : List (ℕ × V)) (rest : Cell) (b : Bool) → (k == f) ≡ b → (f == k) ≡ b
      → ((rest : Cell) → listed_cell rest (map (λ (entry : ℕ × V). (entry.0, g entry.0)) more) f
      ≡ option_map_or (λ (v : V). g f) (found more f) rest)
      → listed_cell (if f == k then g k else rest) (map (λ (entry : ℕ × V). (entry.0, g entry.0)) more) f
      ≡ option_map_or (λ (v : V). g f) (if k == f then Some v else found more f) rest
  step_get k v more rest true is back later =
      rw (is, back) (later (g k) ∙ ap (λ (c : Cell). option_map_or (λ (v : V). g f) (found more f) c) (ap g (eqb-true k f is))
      ∙ same (found more f))
    where
      same : (o : Option V) → option_map_or (λ (v : V). g f) o (g f) ≡ g f
      same None = refl
      same (Some v) = refl
  step_get k v more rest false is back later = rw (is, back) (later rest)

  listed_get : (entries : List (ℕ × V)) (rest : Cell)
      → listed_cell rest (map (λ (entry : ℕ × V). (entry.0, g entry.0)) entries) f
      ≡ option_map_or (λ (v : V). g f) (found entries f) rest
  listed_get [] rest = refl
  listed_get ((k, v) ∷ more) rest = step_get k v more rest (k == f) refl (turned k f) (listed_get more)

-- a process is given its row
module _ (effect : Effect) (p : ℕ) (row : Row) (s : State) (is : found effect.rows p ≡ Some row) where
  seen : (k : Key) → changed effect (cells_of s) p k ≡ row_cell (cells_of s) p row k
  seen k = ap (λ (o : Option Row). cell_in (cells_of s) o p k) is

  cell_given : (rest : Cell) (f : ℕ) → rest ≡ base_cell (cells_of s) p row.base f
      → listed_cell rest (listed_in (moved effect s) p row.cells) f ≡ row_cell (cells_of s) p row (Key.Fd f)
  cell_given rest f base = listed_get (λ g. (moved effect s).cell p g) f row.cells rest ∙ by (found row.cells f) refl
    where
      by : (o : Option Value) → found row.cells f ≡ o
          → option_map_or (λ (v : Value). (moved effect s).cell p f) o rest ≡ row_cell (cells_of s) p row (Key.Fd f)
      by None none = base ∙ sym (ap (λ (o : Option Value). option_map_or (read (cells_of s)) o (base_cell (cells_of s) p row.base f)) none)
      by (Some v) some = seen (Key.Fd f)

  pub is_put : (rest : Cell) (m : Mode) (cells : List (ℕ × Cell)) → ((f : ℕ) → rest ≡ base_cell (cells_of s) p row.base f)
      → m ≡ (moved effect s).mode p → cells ≡ listed_in (moved effect s) p row.cells → IsTakenRow p row s (with_listed s p m rest cells)
  is_put rest m cells base mode listed = record {
    cells = λ f. rw (eq-eqb p p refl, listed) (cell_given rest f (base f));
    mode = rw (eq-eqb p p refl) (mode ∙ ap cell_mode (seen Key.Mode));
    other_cells = λ q f other. rw other refl;
    other_modes = λ q other. rw other refl;
  }

  pub is_set : (m : Mode) (cells : List (ℕ × Cell)) → ((f : ℕ) → s.cell p f ≡ base_cell (cells_of s) p row.base f)
      → m ≡ (moved effect s).mode p → cells ≡ listed_in (moved effect s) p row.cells → IsTakenRow p row s (with_cells s p m cells)
  is_set m cells base mode listed = record {
    cells = λ f. rw (eq-eqb p p refl, listed) (cell_given (s.cell p f) f (base f));
    mode = rw (eq-eqb p p refl) (mode ∙ ap cell_mode (seen Key.Mode));
    other_cells = λ q f other. rw other refl;
    other_modes = λ q other. rw other refl;
  }

-- the cells that aren't listed
pub others : (s : State) (p : ℕ) (row : Row) (f : ℕ) (c : Cell) → row.base.closed_from ≡ None
    → c ≡ others_cell (cells_of s) p row.base.others f → c ≡ base_cell (cells_of s) p row.base f
others s p row f c none is = rw none is

-- those of a row that lists what it changes, where they aren't all the same
pub own_others : (o : DefaultCells) → is_plain o ≡ true → (o ≡ DefaultCells.Unknown → ⊥) → (o ≡ DefaultCells.Closed → ⊥)
    → o ≡ DefaultCells.Own
own_others DefaultCells.Own plain unknown closed = refl
own_others DefaultCells.Unknown plain unknown closed = absurd (unknown refl)
own_others DefaultCells.Closed plain unknown closed = absurd (closed refl)
own_others (DefaultCells.Of q passing) plain unknown closed = absurd (let wrong : false ≡ true = plain in cc)

-- the listed descriptors are within the limit
pub within : (s : State) (p : ℕ) (listed : List (ℕ × Value)) → All (λ (cell : ℕ × Value). IsFd cell.0) listed
    → All (λ (cell : ℕ × Cell). IsFd cell.0) (listed_in s p listed)
within s p listed all =
    All-map (λ (cell : ℕ × Cell). IsFd cell.0) (λ (entry : ℕ × Value). (entry.0, s.cell p entry.0)) listed all

-- ---- one row after the other

-- a first row is taken, or its process makes no later step
pub record IsStep (last : LastSteps) (at p : ℕ) (row : Row) (s r : State) : Type 0 where
  pub cells : at < last_of last p → (f : ℕ) → r.cell p f ≡ row_cell (cells_of s) p row (Key.Fd f)
  pub mode : at < last_of last p → r.mode p ≡ cell_mode (row_cell (cells_of s) p row Key.Mode)
  pub other_cells : (q f : ℕ) → (q == p) ≡ false → r.cell q f ≡ s.cell q f
  pub other_modes : (q : ℕ) → (q == p) ≡ false → r.mode q ≡ s.mode q

pub taken_step : (last : LastSteps) (at p : ℕ) (row : Row) (s r : State) → IsTakenRow p row s r → IsStep last at p row s r
taken_step last at p row s r is = record {
  cells = λ later f. is.cells f;
  mode = λ later. is.mode;
  other_cells = is.other_cells;
  other_modes = is.other_modes;
}

pub forgotten_step : (last : LastSteps) (at p : ℕ) (row : Row) (s r : State) → last_of last p ≤ at
    → r ≡ with_listed s p Mode.Unsure Unknown [] → IsStep last at p row s r
forgotten_step last at p row s r none is = record {
  cells = λ later f. absurd (omega (arith, later, none));
  mode = λ later. absurd (omega (arith, later, none));
  other_cells = λ q f other. rw (is, other) refl;
  other_modes = λ q other. rw (is, other) refl;
}

-- keys that rise from a bound rise from a lower one
rises_lower : {V : Type 0} (a b : ℕ) (l : List (ℕ × V)) → a ≤ b → RisesFrom b l → RisesFrom a l
rises_lower a b [] lower rises = tt
rises_lower a b ((k, v) ∷ rest) lower rises = (omega (arith, lower, rises.0), rises.1)

pub rises_rest : (p : ℕ) (row : Row) (rest : List (ℕ × Row)) → Rises ((p, row) ∷ rest) → Rises rest
rises_rest p row rest rises = rises_lower 0 (p + 1) rest (omega arith) rises.1

-- the rows after the first
pub rest_of : (effect : Effect) (p : ℕ) (row : Row) (rest : List (ℕ × Row)) → Rises ((p, row) ∷ rest)
    → AreRowsOf effect ((p, row) ∷ rest) → AreRowsOf effect rest
rest_of effect p row rest rises are q = by (p == q) refl
  where
    by : (b : Bool) → (p == q) ≡ b → IfSome (found rest q) (IsRowOf effect q)
    by true is = rw (← eqb-true p q is, found_below (p + 1) rest p rises.1 (omega arith)) tt
    by false is = rw is at (are q)

pub first_of : (effect : Effect) (p : ℕ) (row : Row) (rest : List (ℕ × Row)) → AreRowsOf effect ((p, row) ∷ rest)
    → IsRowOf effect p row
first_of effect p row rest are = rw (eq-eqb p p refl) at (are p)

module _ (last : LastSteps) (at : ℕ) (effect : Effect) (p : ℕ) (row : Row) (rest : List (ℕ × Row)) (s mid r : State)
    (rises : Rises ((p, row) ∷ rest)) (are : AreRowsOf effect ((p, row) ∷ rest)) (first : IsStep last at p row s mid)
    (later : IsTaken last at rest mid r) where
  -- a process that isn't the first one has what it had
  unchanged : (q : ℕ) → (q == p) ≡ false → (k : Key) → cells_of s q k ≡ cells_of mid q k
  unchanged q other Key.Mode = ap mode_cell (sym (first.other_modes q other))
  unchanged q other (Key.Fd f) = sym (first.other_cells q f other)

  other_row : (q : ℕ) (k : Key) (o : Option Row) → (q == p) ≡ false → IfSome o (IsRowOf effect q)
      → cell_in (cells_of mid) o q k ≡ cell_in (cells_of s) o q k
  other_row q k None other is = sym (unchanged q other k)
  other_row q k (Some row) other is = sym (own_row (cells_of s) (cells_of mid) q (unchanged q other) row is.lists.own k)

  none_here : found rest p ≡ None
  none_here = found_below (p + 1) rest p rises.1 (omega arith)

  cells : (q f : ℕ) → at < last_of last q → (b : Bool) → (p == q) ≡ b
      → r.cell q f ≡ cell_in (cells_of s) (if b then Some row else found rest q) q (Key.Fd f)
  cells q f lt true is = subst (λ q. at < last_of last q → r.cell q f ≡ row_cell (cells_of s) q row (Key.Fd f)) (eqb-true p q is)
      (λ lt. later.cells p f lt ∙ ap (λ (o : Option Row). cell_in (cells_of mid) o p (Key.Fd f)) none_here ∙ first.cells lt f) lt
  cells q f lt false is = later.cells q f lt
      ∙ other_row q (Key.Fd f) (found rest q) (turned p q ∙ is) (rest_of effect p row rest rises are q)

  modes : (q : ℕ) → at < last_of last q → (b : Bool) → (p == q) ≡ b
      → r.mode q ≡ cell_mode (cell_in (cells_of s) (if b then Some row else found rest q) q Key.Mode)
  modes q lt true is = subst (λ q. at < last_of last q → r.mode q ≡ cell_mode (row_cell (cells_of s) q row Key.Mode)) (eqb-true p q is)
      (λ lt. later.modes p lt ∙ ap (λ (o : Option Row). cell_mode (cell_in (cells_of mid) o p Key.Mode)) none_here
      ∙ mode_back (mid.mode p) ∙ first.mode lt) lt
  modes q lt false is = later.modes q lt
      ∙ ap cell_mode (other_row q Key.Mode (found rest q) (turned p q ∙ is) (rest_of effect p row rest rises are q))

  pub taken_next : IsTaken last at ((p, row) ∷ rest) s r
  taken_next = record { cells = λ q f lt. cells q f lt (p == q) refl; modes = λ q lt. modes q lt (p == q) refl }

pub taken_none : (last : LastSteps) (at : ℕ) (s : State) → IsTaken last at [] s s
taken_none last at s = record { cells = λ p f lt. refl; modes = λ p lt. sym (mode_back (s.mode p)) }

-- ---- a whole effect

found_row : (effect : Effect) (rows : List (ℕ × Row)) (p : ℕ) → All (λ (entry : ℕ × Row). RowLists entry.0 entry.1) rows
    → IfSome (found rows p) (RowLists p)
found_row effect [] p all = tt
found_row effect ((k, row) ∷ rest) p all = by (k == p) refl (found_row effect rest p
    (All-tail (λ (entry : ℕ × Row). RowLists entry.0 entry.1) (k, row) rest all))
  where
    by : (b : Bool) → (k == p) ≡ b → IfSome (found rest p) (RowLists p)
        → IfSome (if b then Some row else found rest p) (RowLists p)
    by true is later = subst (λ q. RowLists q row) (eqb-true k p is)
        (All-head (λ (entry : ℕ × Row). RowLists entry.0 entry.1) (k, row) rest all)
    by false is later = later

pub all_rows : (effect : Effect) → EffectLists effect → AreRowsOf effect effect.rows
all_rows effect all p = by (found effect.rows p) refl (found_row effect effect.rows p all)
  where
    by : (o : Option Row) → found effect.rows p ≡ o → IfSome o (RowLists p) → IfSome o (IsRowOf effect p)
    by None is lists = tt
    by (Some row) is lists = record { is = is; lists = lists }

pub all_taken : (last : LastSteps) (at : ℕ) (effect : Effect) (s r : State) → IsTaken last at effect.rows s r
    → AgreeAfter last at (moved effect s) r
all_taken last at effect s r is =
    record { cells = λ p f lt. sym (is.cells p f lt); modes = λ p lt. sym (is.modes p lt) }
