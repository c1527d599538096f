use Rattle.std.proofs.Common.{rules, ◌≡◌, ℕ, List, Ok}
use Rattle.std.proofs.lemmas.List.Elements.{All-weaker}
use Rattle.cap_trace.specs.Entry.{IsFd}
use Rattle.cap_machine.specs.declared.cell.Cell.{Cell}
use Rattle.cap_session.specs.LimitTextLaws.{IsListedCell}
use Rattle.cap_session.specs.StartTexts.{cells_from}
use Rattle.cap_session.proofs.Listing.{listed_either}
use Rattle.cap_session.proofs.TextsSpelled.{cells_spelled}
use Rattle.cap_session.proofs.start_text.StartParser.keep.Goals as goal

pub returns-then-not-is_kept-clause-good : goal.returns-then-not-is_kept-clause-good
returns-then-not-is_kept-clause-good c =
    let listed = listed_either _ (cells_from 0 c.args.head.listed) _ c.in_ok-cells.ensures.good in
    (listed.0, listed.1, λ s has. tt)

pub add-requires-clause-fds : goal.add-requires-clause-fds
add-requires-clause-fds c =
    let cells : List (ℕ × Cell) = c.in-Some.cells.items in
    let good : cells_from 0 c.args.head.listed ≡ Ok cells = search rules in
    All-weaker IsListedCell (λ entry. IsFd entry.0) (λ entry is. is.0) cells
    (cells_spelled 0 c.args.head.listed cells good)
