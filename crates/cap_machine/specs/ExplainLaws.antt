-- Whether what is said of a line depends on the mode of its process.
use Rattle.std.specs.Prelude.{◌≡◌, true, false, List, length}
use Rattle.cap_machine.specs.declared.cell.Cell.{Cell}
use Rattle.cap_machine.specs.declared.cell.Mode.{Mode}
use Rattle.cap_machine.specs.declared.cell.Mode.TheVariants.{Inside, Outside}
use Rattle.cap_machine.specs.declared.rule.Requirement.{Requirement}
use Rattle.cap_machine.specs.Judge.{listed, judged}
use Rattle.cap_machine.specs.Explain.{mode_matters}

-- where the mode doesn't matter, the same is said in every mode, whatever the cells
abbrev pub SaidInAnyMode : Type 0
SaidInAnyMode = (d : Requirement) (m n : Mode) (cells : List Cell) → mode_matters d ≡ false
    → judged d m cells ≡ judged d n cells

-- where it matters, with some cells of the checked descriptors what is said within capability mode isn't said outside
abbrev pub SaidByMode : Type 0
SaidByMode = (d : Requirement) → mode_matters d ≡ true
    → (cells : List Cell) × (length cells ≡ length (listed d.checks))
    × (judged d Inside cells ≡ judged d Outside cells → ⊥)
