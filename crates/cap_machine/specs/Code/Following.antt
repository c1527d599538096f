-- What a walk that hasn't ended does where a line touches the cell that it is at, or turns the mode.
use Rattle.std.specs.Prelude.{◌≡◌, ℕ, ◌==◌, ◌&&◌, Bool, false, [], ◌∷◌, ◌++◌, Some, None}
use Rattle.cap_machine.specs.declared.cell.Op.{Op}
use Rattle.cap_machine.specs.declared.walks.Passage.{Passage}
use Rattle.cap_machine.specs.declared.walks.CellWalk.{CellWalk}
use Rattle.cap_machine.specs.declared.walks.ModeWalk.{ModeWalk}
use Rattle.cap_machine.specs.Touch.{Touch, kept, given, taken, Turn, stays, turns, follows}
use Rattle.cap_machine.specs.Provenance.{cell_link, mode_link}
use Rattle.cap_machine.specs.Code.Passages.{constant}

abbrev pub passage : ℕ → ℕ → ℕ → Op → Bool → Passage
passage at p f op from_itself = record { link = cell_link at p f; op = op; from_itself = from_itself }

-- one more passage, the oldest
abbrev pub OneMore : CellWalk → CellWalk → Passage → Type 0
OneMore old new more = new.passages.items ≡ old.passages.items ++ more ∷ []

-- by what the line at a position does to the cell
abbrev pub Follows : CellWalk → CellWalk → ℕ → Touch → Type 0
Follows old new at kept = new ≡ old
Follows old new at (given c) =
    OneMore old new (passage at old.pid old.fd (constant c) false) × (new.given ≡ Some c)
Follows old new at (taken op q g) =
    OneMore old new (passage at old.pid old.fd op (q == old.pid && g == old.fd)) × (new.given ≡ None)
    × (new.pid ≡ q) × (new.fd ≡ g)

-- by what it does to the mode; a mode that is taken from itself stays
abbrev pub FollowsMode : ModeWalk → ModeWalk → ℕ → Turn → Type 0
FollowsMode old new at stays = new ≡ old
FollowsMode old new at (turns m) =
    (new.links.items ≡ old.links.items ++ mode_link at old.pid ∷ []) × (new.turned ≡ Some m)
FollowsMode old new at (follows q) =
    (new.links.items ≡ old.links.items ++ mode_link at old.pid ∷ []) × (new.turned ≡ None) × (new.pid ≡ q)
