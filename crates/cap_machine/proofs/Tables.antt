-- Tables, by look-up.
use Rattle.std.proofs.Common.{◌≡◌, ℕ, [], ◌∷◌, ◌++◌, if◌then◌else◌, ◌==◌, List, refl}
use Rattle.cap_machine.specs.declared.cell.Cell.{Cell}
use Rattle.cap_machine.specs.State.{listed_cell}

-- one more cell in a list of cells
pub listed-more : (rest : Cell) (cells : List (ℕ × Cell)) (entry : ℕ × Cell) (f : ℕ)
    → listed_cell rest (cells ++ entry ∷ []) f ≡ (if f == entry.0 then entry.1 else listed_cell rest cells f)
listed-more rest [] entry f = refl
listed-more rest (first ∷ cells) entry f = listed-more (if f == first.0 then first.1 else rest) cells entry f
