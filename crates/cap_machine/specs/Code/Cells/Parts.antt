-- The cell of a descriptor in a leaf and in a node, which may have something deferred for each of its parts.
use Rattle.std.specs.Prelude.{ℕ, List, ◌/◌, ◌%◌, slice_get, slice_index_or}
use Rattle.std.specs.Option.{option_map_or}
use Rattle.cap_machine.specs.declared.cell.Cell.{Cell}
use Rattle.cap_machine.specs.declared.cell.Cell.TheVariants.{Unknown}
use Rattle.cap_machine.specs.declared.cells.deferred.Deferred.{Deferred}
use Rattle.cap_machine.specs.declared.cells.deferred.Deferred.TheVariants.{Nothing}
use Rattle.cap_machine.specs.declared.cells.kind.CellKind.TheVariants as kinds
use Rattle.cap_machine.specs.declared.cells.leaf.Leaf.{Leaf}
use Rattle.cap_machine.specs.declared.cells.node.Node.{Node}
use Rattle.cap_machine.specs.declared.cells.shared.Shared.{Shared}
use Rattle.cap_rights.specs.Rights.{none}
use Rattle.cap_machine.specs.Code.Cells.Deferred.{with_deferred}
use Rattle.cap_machine.specs.Code.Cells.Kind.{cell_of_kind}

-- the parts are of w descriptors each: descriptor f is in part f / w, where it is f % w
abbrev pub look : {X : Type 0} → (X → ℕ → Cell) → ℕ → List Deferred → List X → ℕ → Cell
look ask w deferred parts f = with_deferred (slice_index_or deferred (f / w) Nothing)
    (option_map_or (λ part. ask part (f % w)) (slice_get parts (f / w)) Unknown)

unfoldable pub in_leaf : {n : ℕ} → Leaf n → ℕ → Cell
in_leaf leaf f = cell_of_kind (slice_index_or leaf.kinds f kinds.Unknown) (slice_index_or leaf.rights f none)

unfoldable pub in_node : {T : Type 0} → (T → ℕ → Cell) → (w : ℕ) → Node T w → ℕ → Cell
in_node ask w node f = look (λ part. ask part.value) w node.deferred node.parts f

unfoldable pub in_shared : {T : Type 0} → (T → ℕ → Cell) → Shared T → ℕ → Cell
in_shared ask shared f = with_deferred shared.deferred (ask shared.part.value f)
