use Rattle.std.proofs.Common.{◌≡◌, length}
use Rattle.cap_session.specs.StartTexts.{cells_from}
use Rattle.cap_session.proofs.Listing.{prepend}
use Rattle.cap_session.proofs.start_fields.cells_of.Given as goal

abbrev pub invariant-loop-word : goal.invariant-loop-word
invariant-loop-word l = cells_from 0 l.fn.words ≡ prepend l.cells.items (cells_from l.low l.words)

abbrev pub decreases-loop-word : goal.decreases-loop-word
decreases-loop-word l = length l.words
