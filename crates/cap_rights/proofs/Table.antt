-- The table of names, row by row.
use Rattle.std.proofs.Common.{◌≡◌, ℕ, zero, suc, ◌+◌, ◌^◌, ◌<◌, ◌&&◌, Bool, true, false, eqb, List, [], ◌∷◌, length}
use Rattle.std.proofs.Common.{take, Option, Some, None, refl, sym, ap, ◌∙◌, arith, slice_index_or}
use Rattle.std.specs.List.{list_all}
use Rattle.std.proofs.lemmas.Bool.{eqb-true, ltb-true, true_from_ne_false, and_parts}
use Rattle.std.proofs.lemmas.List.{get_or-take}
use Rattle.std.proofs.lemmas.List.Folds.{list_all_at}
use Rattle.bitflags.specs.Sets.{Row, find_row}
use Rattle.cap_rights.specs.Names.{table, name_at, value_at}
use Rattle.cap_rights.specs.Rights.{holds}
use Rattle.cap_rights.specs.Laws.{NamesOwn, NamesNoFull, NamesApart}
use Rattle.cap_rights.proofs.OnLiterals.{rights_on_literals}
use Rattle.cap_rights.proofs.Rows.{small, rows_small}

-- what all pass, each passes
pub passes_at : {X : Type 0} (p : X → Bool) (xs : List X) (i : ℕ) (d : X) → list_all p xs ≡ true → i < length xs
    → p (slice_index_or xs i d) ≡ true
passes_at p xs i d all lt = true_from_ne_false (p (slice_index_or xs i d)) (λ (e : p (slice_index_or xs i d) ≡ false).
    let fails = list_all_at p xs i d lt e in
    cc)

-- the name of a row finds that row
abbrev pub finds_itself : Row → Bool
finds_itself row = elim (find_row table row.0) [ None ↦ false | Some r ↦ eqb r row.1 ]

pub found_itself : (row : Row) (o : Option ℕ) → (elim o as (λ _. Bool) [ None ↦ false | Some r ↦ eqb r row.1 ]) ≡ true
    → o ≡ Some row.1
found_itself row None e = absurd cc
found_itself row (Some r) e = ap Some (eqb-true r row.1 e)

rows_find : list_all finds_itself table ≡ true
unfolding rights_on_literals
rows_find = refl

pub names_apart : NamesApart
unfolding table
names_apart row lt = found_itself (slice_index_or table row ([], 0)) (find_row table (name_at row))
    (passes_at finds_itself table row ([], 0) rows_find lt)

pub names_no_full : NamesNoFull
unfolding table
names_no_full row lt = ltb-true (value_at row) (2 ^ 63) (passes_at small table row ([], 0) rows_small lt)

-- the rows from row k on stand for their own rights
abbrev pub own_from : ℕ → List Row → Bool
own_from k [] = true
own_from k (row ∷ rows) = holds row.1 k && own_from (suc k) rows

pub rows_own : own_from 0 (take 63 table) ≡ true
unfolding rights_on_literals
rows_own = refl

own_at : (k : ℕ) (rows : List Row) (j : ℕ) → own_from k rows ≡ true → j < length rows
    → holds (slice_index_or rows j ([], 0)).1 (k + j) ≡ true
own_at k [] j own lt = absurd (omega arith)
own_at k (row ∷ rows) zero own lt =
    let here : k + 0 ≡ k = omega arith in
    ap (λ (n : ℕ). holds row.1 n) here ∙ (and_parts (holds row.1 k) (own_from (suc k) rows) own).0
own_at k (row ∷ rows) (suc j) own lt =
    let next : k + suc j ≡ suc k + j = omega arith in
    ap (λ (n : ℕ). holds (slice_index_or rows j ([], 0)).1 n) next
    ∙ own_at (suc k) rows j (and_parts (holds row.1 k) (own_from (suc k) rows) own).1 (omega arith)

pub names_own : NamesOwn
unfolding table
names_own k lt =
    let here : 0 + k ≡ k = omega arith in
    let same = get_or-take 63 table k ([], 0) lt in
    ap (λ (row : Row). holds row.1 k) (sym same)
    ∙ ap (λ (n : ℕ). holds (slice_index_or (take 63 table) k ([], 0)).1 n) (sym here)
    ∙ own_at 0 (take 63 table) k rows_own lt
