-- Each name of the table falls on a slot of its own, which holds its row.
use Rattle.std.proofs.Common.{◌≡◌, ℕ, zero, suc, ◌+◌, ◌-◌, ◌*◌, ◌/◌, ◌%◌, ◌<◌, ◌≤◌, ◌&&◌, Bool, true, eqb, List, []}
use Rattle.std.proofs.Common.{◌∷◌, length, Option, Some, None, refl, sym, ap, subst, ◌∙◌, inl, inr, arith}
use Rattle.std.proofs.Common.{slice_index_or, map}
use Rattle.std.specs.Prelude.{nat_eq, nat_lt, nat_le}
use Rattle.std.specs.List.{list_all}
use Rattle.std.specs.Cmp.Lexicographic.{pointwise}
use Rattle.std.proofs.lemmas.Bool.{eqb-true, ltb-true, leb-true, and_parts}
use Rattle.std.proofs.lemmas.Slice.Eq.{bytes_eq-Decides}
use Rattle.bitflags.specs.Sets.{Row, find_row}
use Rattle.cap_rights.specs.declared.lookup.TheConstants.{ROW_AT}
use Rattle.cap_rights.specs.Names.{table, name_at}
use Rattle.std.proofs.lemmas.List.{length-map, get_or_default}
use Rattle.cap_rights.proofs.Rows.{chosen, table_row}
use Rattle.cap_rights.proofs.Table.{passes_at, names_apart}

-- the slot of a word
abbrev pub slot : List ℕ → ℕ
slot w =
    (slice_index_or w 4 0 * 27 + slice_index_or w (length w / 2) 0 * 58 + slice_index_or w (length w - 1) 0 * 17
    + slice_index_or w (length w - 2) 0
    + slice_index_or w (length w - 3) 0 * 63) % 256

-- these rows, from row k on, are at least 8 bytes long, and each is in its slot
abbrev stand_from : ℕ → List Row → Bool
stand_from k [] = true
stand_from k (row ∷ rows) =
    nat_le 8 (length row.0) && (eqb (slice_index_or ROW_AT (slot row.0) 0) k && stand_from (suc k) rows)

rows_stand : stand_from 0 table ≡ true
unfolding table
rows_stand = refl

one_stands : (k : ℕ) (rows : List Row) (j : ℕ) → stand_from k rows ≡ true → j < length rows
    → (8 ≤ length (slice_index_or rows j ([], 0)).0)
    × (slice_index_or ROW_AT (slot (slice_index_or rows j ([], 0)).0) 0 ≡ k + j)
one_stands k [] j h lt = absurd (omega arith)
one_stands k (row ∷ rows) zero h lt =
    let p =
    and_parts (nat_le 8 (length row.0)) (eqb (slice_index_or ROW_AT (slot row.0) 0) k && stand_from (suc k) rows) h in
    let q = and_parts (eqb (slice_index_or ROW_AT (slot row.0) 0) k) (stand_from (suc k) rows) p.1 in
    let here : k ≡ k + 0 = omega arith in
    (leb-true 8 (length row.0) p.0, eqb-true (slice_index_or ROW_AT (slot row.0) 0) k q.0 ∙ here)
one_stands k (row ∷ rows) (suc j) h lt =
    let p =
    and_parts (nat_le 8 (length row.0)) (eqb (slice_index_or ROW_AT (slot row.0) 0) k && stand_from (suc k) rows) h in
    let q = and_parts (eqb (slice_index_or ROW_AT (slot row.0) 0) k) (stand_from (suc k) rows) p.1 in
    let r = one_stands (suc k) rows j q.1 (omega arith) in
    let next : suc k + j ≡ k + suc j = omega arith in
    (r.0, r.1 ∙ next)

pub long_enough : (row : ℕ) (w : List ℕ) → row < 79 → name_at row ≡ w → 8 ≤ length w
unfolding table
long_enough row w lt e = subst (λ (v : List ℕ). 8 ≤ length v) e (one_stands 0 table row rows_stand lt).0

pub stands_at : (row : ℕ) (w : List ℕ) → row < 79 → name_at row ≡ w → slice_index_or ROW_AT (slot w) 0 ≡ row
unfolding table
stands_at row w lt e =
    let same : 0 + row ≡ row = omega arith in
    subst (λ (v : List ℕ). slice_index_or ROW_AT (slot v) 0 ≡ row) e ((one_stands 0 table row rows_stand lt).1 ∙ same)

slots_small : list_all (λ (row : ℕ). nat_lt row 79) ROW_AT ≡ true
slots_small = refl

pub slot_small : (i : ℕ) → i < 256 → slice_index_or ROW_AT i 0 < 79
slot_small i lt =
    ltb-true (slice_index_or ROW_AT i 0) 79 (passes_at (λ (row : ℕ). nat_lt row 79) ROW_AT i 0 slots_small lt)

-- A row that is found, by its place.
found_at : (rows : List Row) (w : List ℕ) (r : ℕ) → find_row rows w ≡ Some r
    → (i : ℕ) × (i < length rows) × ((slice_index_or rows i ([], 0)).0 ≡ w)
unfolding find_row
found_at [] w r e = absurd cc
found_at (row ∷ rows) w r e =
    elim (chosen (pointwise nat_eq row.0 w) (Some row.1) (find_row rows w) (Some r) e) [
      | inl h ↦ (0, omega arith, (bytes_eq-Decides row.0 w).0 h.0)
      | inr h ↦ (let f = found_at rows w r h.1 in (suc f.0, omega arith, f.2))
    ]

no_name_by : (w : List ℕ) (o : Option ℕ) → ((i : ℕ) → i < 79 → name_at i ≡ w → ⊥) → find_row table w ≡ o → o ≡ None
unfolding table
no_name_by w None none e = refl
no_name_by w (Some r) none e = absurd (let f = found_at table w r e in none f.0 f.1 f.2)

-- a word that no row has is no name
pub no_name : (w : List ℕ) → ((i : ℕ) → i < 79 → name_at i ≡ w → ⊥) → find_row table w ≡ None
no_name w none = no_name_by w (find_row table w) none refl

-- a row of the code's table, and what its name finds
pub flag_found : {X : Type 0} (view : X → Row) (flags : List X) (i : ℕ) (d : X) → map view flags ≡ table → i < 79
    → (name_at i ≡ (view (slice_index_or flags i d)).0)
    × (find_row table (view (slice_index_or flags i d)).0 ≡ Some (view (slice_index_or flags i d)).1)
unfolding table
flag_found view flags i d e lt =
    let size = ap length (sym e) ∙ length-map flags view in
    let at = table_row view flags table i d e (omega arith) in
    let same : slice_index_or table i ([], 0) ≡ view (slice_index_or flags i d) =
    get_or_default table i ([], 0) (view (slice_index_or flags i d)) lt ∙ at.1 in (
      ap (λ (row : Row). row.0) same,
      ap (λ (row : Row). find_row table row.0) (sym same) ∙ names_apart i lt ∙ ap (λ (row : Row). Some row.1) same,
    )
