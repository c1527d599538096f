-- What each part of the code that reads a start text does. Only the code's contracts use this; StartTexts says what a
-- start text is.
use Rattle.std.specs.Prelude.{◌≡◌, ℕ, List, [], ◌∷◌, ◌++◌, Result, Ok, Err, Option, MatchOption, ⊤}
use Rattle.cap_machine.specs.State.{Added}
use Rattle.cap_machine.specs.declared.cell.Cell.{Cell}
use Rattle.cap_machine.specs.declared.start.Start.{Start}
use Rattle.cap_session.specs.StartTexts.{Listed, cells_from}
use Rattle.cap_session.specs.declared.refused.Refusal.{Refusal}
use Rattle.cap_session.specs.declared.refused.Refused.{Refused}
use Rattle.cap_session.specs.declared.start_fields.Head.{Head}

abbrev pub process_of : Head → List (ℕ × Cell) → Added
process_of head cells = record { pid = head.pid; mode = head.mode; rest = head.rest; cells = cells }

-- what a line says, with the cells that it lists
abbrev pub completed : Head → Result (List (ℕ × Cell)) Refused → Result Added Refused
completed head (Ok cells) = Ok (process_of head cells)
completed head (Err field) = Err field

-- This was added to the start, unless memory ran out for it.
abbrev pub StandsFor : Option Start → List Added → Type 0
StandsFor kept added = MatchOption kept ⊤ (λ start. start ≡ added)

-- The start stands for the lines so far, unless memory ran out for one, and the least pid that may come next is known.
abbrev pub Follows : Option Start → ℕ → Listed → Type 0
Follows kept low listed = StandsFor kept listed.added × (low ≡ listed.low)

-- The start stands for the lines so far.
abbrev pub Holds : Option Start → Listed → Type 0
Holds kept listed = MatchOption kept ⊥ (λ start. start ≡ listed.added)

-- The listed cells are good, and whatever the start stood for, the process is added to it.
abbrev pub Adds : Head → Option Start → Option Start → Type 0
Adds head old new = (cells : List (ℕ × Cell)) × (cells_from 0 head.listed ≡ Ok cells)
    × ((added : List Added) → StandsFor old added → StandsFor new (added ++ process_of head cells ∷ []))

-- A line with this number did what the definition says.
abbrev pub TakesNumbered : {A T : Type 0} → Result A Refused → (A → Type 0) → ℕ → Result T Refusal → Type 0
TakesNumbered {A = A} says follows number (Ok _) = (now : A) × (says ≡ Ok now) × follows now
TakesNumbered says follows number (Err e) = (says ≡ Err e.reason) × (e.line ≡ number)
