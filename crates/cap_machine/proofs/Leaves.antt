-- A cell that is written in a leaf.
use Rattle.std.proofs.Common.{◌≡◌, ℕ, ◌+◌, ◌<◌, ◌==◌, nat_lt, if◌then◌else◌}
use Rattle.std.proofs.Common.{true, false, List, length, get_or, ap, sym, ◌∙◌}
use Rattle.std.proofs.Common.{arith}
use Rattle.std.specs.Prelude.{slice_set, slice_index_or}
use Rattle.std.proofs.lemmas.Bool.{cases_eq}
use Rattle.std.proofs.lemmas.Bool.Decides.{nat_tests}
use Rattle.std.proofs.lemmas.Grind.{get_or-set_at}
use Rattle.std.proofs.lemmas.List.{get_or-set_other}
use Rattle.std.proofs.Math.Logic.{⊎_elim}
use Rattle.cap_rights.specs.Rights.{none}
use Rattle.cap_machine.specs.declared.cell.Cell.{Cell}
use Rattle.cap_machine.specs.declared.cells.kind.CellKind.{CellKind}
use Rattle.cap_machine.specs.declared.cells.kind.CellKind.TheVariants.{Unknown}
use Rattle.cap_machine.specs.Code.Cells.Kind.{kind_of_cell, rights_of_cell, cell_of_kind, kept_cell}

pub put_in : (kinds : List CellKind) (rights : List ℕ) (place : ℕ) (cell : Cell) (kind : CellKind) (right f : ℕ)
    → place < length kinds → place < length rights → kind ≡ kind_of_cell cell → right ≡ rights_of_cell cell
    → cell_of_kind (slice_index_or (slice_set kinds place kind) f Unknown)
    (slice_index_or (slice_set rights place right) f none)
    ≡ (if f == place then cell else cell_of_kind (slice_index_or kinds f Unknown) (slice_index_or rights f none))
put_in kinds rights place cell kind right f in_kinds in_rights is_kind are_rights =
    ⊎_elim
    (λ e.
    let yes : (f == place) ≡ true = grind (arith, nat_tests, e) in
    ap (λ (k : CellKind). cell_of_kind k (get_or (slice_set rights place right) f none))
    (get_or-set_at kinds place f kind Unknown e in_kinds ∙ is_kind)
    ∙ ap (cell_of_kind (kind_of_cell cell)) (get_or-set_at rights place f right none e in_rights ∙ are_rights)
    ∙ kept_cell cell
    ∙ ap (λ b. if b then cell else cell_of_kind (get_or kinds f Unknown) (get_or rights f none)) (sym yes))
    (λ ne.
    let no : (f == place) ≡ false = grind (arith, nat_tests, ne) in
    ap (λ (k : CellKind). cell_of_kind k (get_or (slice_set rights place right) f none))
    (get_or-set_other kinds place f kind Unknown ne)
    ∙ ap (cell_of_kind (get_or kinds f Unknown)) (get_or-set_other rights place f right none ne)
    ∙ ap (λ b. if b then cell else cell_of_kind (get_or kinds f Unknown) (get_or rights f none)) (sym no))
    (cases_eq f place)

-- where what was done to the old cells so far is done to one more
pub done_more : (act : Cell → Cell) (old was : ℕ → Cell) (new done : Cell) (k f : ℕ)
    → new ≡ (if f == k then done else was f) → done ≡ act (was k)
    → was f ≡ (if nat_lt f k then act (old f) else old f) → was k ≡ (if nat_lt k k then act (old k) else old k)
    → new ≡ (if nat_lt f (k + 1) then act (old f) else old f)
done_more act old was new done k f e d at_f at_k = grind (arith, nat_tests, e, d, at_f, at_k)
