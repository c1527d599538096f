use Rattle.std.proofs.Common.{◌≡◌, ℕ, List, length}
use Rattle.cap_machine.specs.declared.cell.Cell.{Cell}
use Rattle.cap_session.specs.StartTexts.{cells_from}
use Rattle.cap_session.proofs.Listing.{prepend}
use Rattle.cap_session.proofs.start_fields.check_cells.Given as goal

abbrev pub invariant-loop-word : goal.invariant-loop-word
invariant-loop-word l =
    (done : List (ℕ × Cell)) × (cells_from l.fn.low l.fn.words ≡ prepend done (cells_from l.least l.words))

abbrev pub decreases-loop-word : goal.decreases-loop-word
decreases-loop-word l = length l.words
