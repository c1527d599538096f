-- What is written for a line differs from what was read in the spelling of rights alone.
use Rattle.std.specs.Prelude.{◌≡◌, ℕ, List, [], ◌∷◌, Some}
use Rattle.std.specs.Fmt.{decimal}
use Rattle.cap_rights.specs.Text.{names, text}
use Rattle.cap_trace.specs.Item.{Item}
use Rattle.cap_trace.specs.Item as items
use Rattle.cap_trace.specs.Call as calls
use Rattle.cap_trace.specs.Entry.{Entry}
use Rattle.cap_trace.specs.Spelling.{Spells, joined, canon}

-- the arguments of the line are a descriptor and rights; the text of the rights may be another one, that names the same
abbrev pub RightsDiffer : Entry → ℕ → ℕ → List ℕ → List ℕ → Type 0
RightsDiffer e fd set read written = (rights : List ℕ) × (names rights ≡ Some set)
    × (read ≡ joined e (decimal fd ∷ rights ∷ [])) × (written ≡ joined e (decimal fd ∷ text set ∷ []))

-- a limit and a marker of needs have rights; each other line is written byte for byte as it was read
abbrev pub OnlyRightsDiffer : Item → ℕ → List ℕ → List ℕ → Type 0
OnlyRightsDiffer (items.Call (calls.RightsLimit fd set) answer) pid read written =
    RightsDiffer (record { pid = pid; item = items.Call (calls.RightsLimit fd set) answer }) fd set read written
OnlyRightsDiffer (items.Needs marker fd set) pid read written =
    RightsDiffer (record { pid = pid; item = items.Needs marker fd set }) fd set read written
OnlyRightsDiffer item pid read written = written ≡ read

abbrev pub OnlyRightsAreRewritten : Type 0
OnlyRightsAreRewritten = (bytes : List ℕ) (e : Entry) → Spells bytes e → OnlyRightsDiffer e.item e.pid bytes (canon e)
