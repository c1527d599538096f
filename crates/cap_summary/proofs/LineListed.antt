-- What one line lists, that the line names it, and a cell that is set in place.
use Rattle.std.specs.Prelude.{All, Bool, IfSome, List, None, Option, Some, cond, false, get_or, length, refl, unwrap_or}
use Rattle.cap_summary.proofs.{All-head, All-tail, Bor, eq-eqb, eqb-true, list_any_more, or-false, or-true, subst, sym}
use Rattle.cap_summary.proofs.{ap, ◌∙◌}
use Rattle.cap_summary.specs.{started, [], eqb, take, true, ℕ, ◌&&◌, ◌+◌, ◌<◌, ◌==◌, ◌||◌, ◌∷◌, ◌≡◌}
use Rattle.cap_summary.specs.{Cell, declared.base.Base.Base, declared.effect.Effect.Effect, declared.value.Value.Value}
use Rattle.cap_summary.specs.{Keys.mode_cell, Keys.read, declared.effect.Row.Row, declared.key.Key.Key, option_map_or}
use Rattle.cap_summary.specs.{Closed, Keys.Cells, LineEffect, Outside, Sorted.found, Unsure, all, fds_spelled, list_any}
use Rattle.cap_summary.specs.Names.{EffectWithin, IsListedWithin, IsRowWithin, Names, RowWithin}
use Rattle.cap_summary.specs.Effects.{base_cell, cell_in, changed, is_cell, line_after, own_row, row_cell}

one_more : (cells : Cells) (v : Value) (b any : Bool) (o : Option Value)
    → option_map_or (read cells) o Closed ≡ cond any (read cells v) Closed
    → option_map_or (read cells) (cond b (Some v) o) Closed ≡ cond (any || b) (read cells v) Closed
one_more cells v true any o is = rw (or-true any) refl
one_more cells v false any o is = rw (or-false any) is

-- the cells that a process holds once it has started with these descriptors
abbrev pub IsStarted : List ℕ → List (ℕ × Value) → Type 0
IsStarted fds listed = (cells : Cells) (f : ℕ) → option_map_or (read cells) (found listed f) Closed ≡ started fds f

-- one more descriptor that a process starts with
pub started_more : (fds : List ℕ) (i : ℕ) (listed more : List (ℕ × Value)) → i < length fds
    → ((k : ℕ) → found more k ≡ cond (eqb k (get_or fds i 0)) (Some (Value.Held all Unsure)) (found listed k))
    → IsStarted (take i fds) listed → IsStarted (take (i + 1) fds) more
started_more fds i listed more within set started cells f =
    rw (set f, list_any_more (λ g. eqb f g) fds i 0 within)
    (one_more cells (Value.Held all Unsure) (eqb f (get_or fds i 0)) (list_any (λ g. eqb f g) (take i fds))
    (found listed f) (started cells f))

-- the row of a process that starts with just these
pub started_row : (line : LineEffect) (fds : Bor (List ℕ)) (me : ℕ) (base : Base) (mode : Value) (listed : List (ℕ × Value))
    → line ≡ LineEffect.Start fds → ((cells : Cells) (f : ℕ) → base_cell cells me base f ≡ Closed)
    → ((cells : Cells) → read cells mode ≡ mode_cell Outside) → IsStarted (fds_spelled fds.now) listed
    → (cells : Cells) (k : Key)
    → row_cell cells me (record { base = base; mode = Some mode; cells = listed }) k ≡ line_after line me cells me k
started_row line fds me base mode listed is closed outside started cells Key.Mode =
    rw (is, eq-eqb me me refl) (outside cells)
started_row line fds me base mode listed is closed outside started cells (Key.Fd f) =
    rw (is, eq-eqb me me refl, closed cells f) (started cells f)

-- one more entry, where this holds of it and of the others
module _ {V : Type 0} (P : ℕ → V → Type 0) (k : ℕ) (v : V) (holds : P k v) where
  each_one : (o : Option V) (f : ℕ) (b : Bool) → (f == k) ≡ b → IfSome o (P f) → IfSome (cond b (Some v) o) (P f)
  each_one o f true is other = subst (λ (j : ℕ). P j v) (sym (eqb-true f k is)) holds
  each_one o f false is other = other

  pub each_put : (old new : List (ℕ × V)) → ((f : ℕ) → found new f ≡ cond (f == k) (Some v) (found old f))
      → ((f : ℕ) → IfSome (found old f) (P f)) → (f : ℕ) → IfSome (found new f) (P f)
  each_put old new put others f = rw (put f) (each_one (found old f) f (f == k) refl (others f))

-- the descriptors of a line that has two
pub two_named : (names : Names) (f g : ℕ) → All (λ n. names.fds n ≡ true) (f ∷ g ∷ [])
    → (names.fds f ≡ true) × (names.fds g ≡ true)
two_named names f g both =
    let P : ℕ → Type 0 = λ n. names.fds n ≡ true in
    (All-head P f (g ∷ []) both, All-head P g [] (All-tail P f (g ∷ []) both))

-- a process without a row has one that leaves it
own_cell : (cells : Cells) (p : ℕ) (row : Option Row) (k : Key)
    → row_cell cells p (unwrap_or row own_row) k ≡ cell_in cells row p k
own_cell cells p (Some row) k = refl
own_cell cells p None Key.Mode = refl
own_cell cells p None (Key.Fd f) = refl

own_within : (names : Names) (p : ℕ) (row : Option Row) → IfSome row (IsRowWithin names p)
    → RowWithin names (unwrap_or row own_row)
own_within names p (Some row) is = is.row
own_within names p None is = record { cells = λ f. tt; others = refl; mode = refl }

module _ (first : Effect) (q fd : ℕ) (value : Value) (mid new : List (ℕ × Row)) (row now : Row)
    (taken_is : row ≡ unwrap_or (found first.rows q) own_row)
    (others : (p : ℕ) → (p == q) ≡ false → found mid p ≡ found first.rows p)
    (base : now.base ≡ row.base) (mode : now.mode ≡ row.mode)
    (with : (g : ℕ) → found now.cells g ≡ cond (g == fd) (Some value) (found row.cells g))
    (put : (p : ℕ) → found new p ≡ cond (p == q) (Some now) (found mid p)) where
  with_if : (cells : Cells) (b : Bool) (was : Option Value) (d : Cell)
      → option_map_or (read cells) (cond b (Some value) was) d
      ≡ cond b (read cells value) (option_map_or (read cells) was d)
  with_if cells true was d = refl
  with_if cells false was d = refl

  -- the row has that cell, and the others as before
  row_with : (cells : Cells) (k : Key) → row_cell cells q now k
      ≡ cond (is_cell q fd q k) (read cells value) (row_cell cells q row k)
  row_with cells Key.Mode = rw mode refl
  row_with cells (Key.Fd f) = rw (base, with f) refl
      ∙ with_if cells (f == fd) (found row.cells f) (base_cell cells q row.base f)
      ∙ ap (λ b. cond (b && f == fd) (read cells value) (row_cell cells q row (Key.Fd f))) (sym (eq-eqb q q refl))

  other_cell : (p : ℕ) (k : Key) → (p == q) ≡ false → is_cell q fd p k ≡ false
  other_cell p Key.Mode is = refl
  other_cell p (Key.Fd f) is = rw is refl

  pub set_cells : (cells : Cells) (p : ℕ) (k : Key)
      → cell_in cells (found new p) p k ≡ cond (is_cell q fd p k) (read cells value) (changed first cells p k)
  set_cells cells p k = ap (λ row. cell_in cells row p k) (put p) ∙ by (p == q) refl
    where
      by : (b : Bool) → (p == q) ≡ b → cell_in cells (cond b (Some now) (found mid p)) p k
          ≡ cond (is_cell q fd p k) (read cells value) (changed first cells p k)
      by true is = rw (eqb-true p q is) (row_with cells k ∙ ap (cond (is_cell q fd q k) (read cells value))
          (ap (λ row. row_cell cells q row k) taken_is ∙ own_cell cells q (found first.rows q) k))
      by false is = ap (λ row. cell_in cells row p k) (others p is)
          ∙ ap (λ b. cond b (read cells value) (changed first cells p k)) (sym (other_cell p k is))

  pub set_names : (names : Names) → names.pids q ≡ true → IsListedWithin names fd value → EffectWithin names first
      → (p : ℕ) → IfSome (found new p) (IsRowWithin names p)
  set_names names pid here within p = rw (put p) (by (p == q) refl)
    where
      old : RowWithin names row
      old = rw taken_is (own_within names q (found first.rows q) (within q))

      by : (b : Bool) → (p == q) ≡ b → IfSome (cond b (Some now) (found mid p)) (IsRowWithin names p)
      by true is = rw (eqb-true p q is) (record {
        pid = pid;
        row = record {
          cells = each_put (IsListedWithin names) fd value here row.cells now.cells with old.cells;
          others = rw base old.others;
          mode = rw mode old.mode;
        };
      })
      by false is = rw (others p is) (within p)
