-- Laws of chains: what a chain names is enough to have the cell, and it leaves out no line that gave, moved or changed
-- it.
use Rattle.std.specs.Prelude.{◌≡◌, ℕ, ◌+◌, ◌<◌, ◌==◌, if◌then◌else◌, List, [], ◌∷◌, length, reverse}
use Rattle.cap_machine.specs.declared.step.Step.{Step}
use Rattle.cap_machine.specs.declared.cell.Cell.{Cell}
use Rattle.cap_machine.specs.declared.cell.Mode.{Mode}
use Rattle.cap_machine.specs.declared.provenance.CellLink.{CellLink}
use Rattle.cap_machine.specs.declared.provenance.CellEnd.{CellEnd}
use Rattle.cap_machine.specs.declared.provenance.CellEnd.TheVariants as cells
use Rattle.cap_machine.specs.declared.provenance.ModeLink.{ModeLink}
use Rattle.cap_machine.specs.declared.provenance.ModeEnd.{ModeEnd}
use Rattle.cap_machine.specs.declared.provenance.ModeEnd.TheVariants as modes
use Rattle.cap_machine.specs.State.{State}
use Rattle.cap_machine.specs.declared.cell.Op.{Op}
use Rattle.cap_machine.specs.Op.{applied}
use Rattle.cap_machine.specs.Touch.{Touch, kept, given, taken, Turn, stays, turns, follows, touch, turn}
use Rattle.cap_machine.specs.History.{ended, cell_after}
use Rattle.cap_machine.specs.Provenance.{named_touch, named_turn, cell_at_end, cell_provenance, mode_provenance}

-- ---- cells

-- what the step at a position of a history does to a cell; the newest step comes first, and steps are numbered from 1
abbrev pub touch_at : List Step → ℕ → ℕ → ℕ → Touch
touch_at [] k p f = kept
touch_at (step ∷ history) k p f = if k == length history + 1 then touch step p f else touch_at history k p f

-- what a touch makes of the cell that it takes
abbrev pub made : Touch → Cell → Cell
made kept c = c
made (given d) c = d
made (taken op q g) c = applied op c

-- the touches of these links in turn, that of the oldest, which is last, first
abbrev pub replayed : List Step → List CellLink → Cell → Cell
replayed history [] c = c
replayed history (link ∷ links) c = made (touch_at history link.at link.pid link.fd) (replayed history links c)

-- the touches that a chain names, in turn, make the cell of the one at its end
abbrev pub CellsAreReplayed : Type 0
CellsAreReplayed = (s : State) (trace : List Step) (p f : ℕ) →
    let chain = cell_provenance s trace p f in
    replayed (reverse trace) chain.links (cell_at_end chain.end) ≡ (ended s trace).cell p f

-- the touch of the step at a position, where a chain names it
abbrev pub named_at : State → List Step → ℕ → ℕ → ℕ → Touch
named_at s [] k p f = kept
named_at s (step ∷ history) k p f =
    if k == length history + 1 then named_touch (touch step p f) (cell_after s history) p f
    else named_at s history k p f

-- a chain of the cell names nothing between two positions
abbrev pub NoneNamed : State → List Step → ℕ → ℕ → ℕ → ℕ → Type 0
NoneNamed s history low high p f = (k : ℕ) → low < k → k < high → named_at s history k p f ≡ kept

-- where a chain goes on from a touch: nowhere, where it gives the cell; else from the cell that it takes
abbrev pub CellGoesOn : Touch → List CellLink → CellEnd → (ℕ → ℕ → Type 0) → Type 0
CellGoesOn kept links end from = ⊥
CellGoesOn (given c) links end from = (links ≡ []) × (end ≡ cells.Given c)
CellGoesOn (taken op q g) links end from = from q g

-- These links, and this end, are where the cell of descriptor f of process p comes from before a position: the first
-- link is the last step that a chain names, and the others are where the cell that it took comes from before
-- it. Without a link there was no such step, and the cell is that of the start.
abbrev pub IsCellChain : State → List Step → List CellLink → CellEnd → ℕ → ℕ → ℕ → Type 0
IsCellChain s history [] end high p f = NoneNamed s history 0 high p f × (end ≡ cells.Start p f (s.cell p f))
IsCellChain s history (link ∷ links) end high p f =
    (link.pid ≡ p) × (link.fd ≡ f) × (link.at < high) × NoneNamed s history link.at high p f
    × CellGoesOn (named_at s history link.at p f) links end (λ q g. IsCellChain s history links end link.at q g)

abbrev pub CellsSkipNone : Type 0
CellsSkipNone = (s : State) (trace : List Step) (p f : ℕ) →
    let chain = cell_provenance s trace p f in
    IsCellChain s (reverse trace) chain.links chain.end (length trace + 1) p f

-- a step that a chain passes over leaves the cell as it was
abbrev pub UnnamedLeaves : Type 0
UnnamedLeaves = (s : State) (step : Step) (history : List Step) (p f : ℕ)
    → named_touch (touch step p f) (cell_after s history) p f ≡ kept
    → cell_after s (step ∷ history) p f ≡ cell_after s history p f

-- one that it names gives the cell, takes another's, or changes it
abbrev pub NamedChanges : Type 0
NamedChanges = (s : State) (step : Step) (history : List Step) (p f : ℕ) (op : Op)
    → named_touch (touch step p f) (cell_after s history) p f ≡ taken op p f
    → cell_after s (step ∷ history) p f ≡ cell_after s history p f → ⊥

-- ---- modes

abbrev pub turn_at : List Step → ℕ → ℕ → Turn
turn_at [] k p = stays
turn_at (step ∷ history) k p = if k == length history + 1 then named_turn (turn step p) p else turn_at history k p

abbrev pub mode_at_end : ModeEnd → Mode
mode_at_end (modes.Given m) = m
mode_at_end (modes.Start p m) = m

-- a mode is the one at the end of its chain: a fork changes none
abbrev pub ModesAreFollowed : Type 0
ModesAreFollowed = (s : State) (trace : List Step) (p : ℕ) →
    mode_at_end (mode_provenance s trace p).end ≡ (ended s trace).mode p

abbrev pub Unturned : List Step → ℕ → ℕ → ℕ → Type 0
Unturned history low high p = (k : ℕ) → low < k → k < high → turn_at history k p ≡ stays

abbrev pub ModeGoesOn : Turn → List ModeLink → ModeEnd → (ℕ → Type 0) → Type 0
ModeGoesOn stays links end from = ⊥
ModeGoesOn (turns m) links end from = (links ≡ []) × (end ≡ modes.Given m)
ModeGoesOn (follows q) links end from = from q

-- the same of the mode of process p
abbrev pub IsModeChain : State → List Step → List ModeLink → ModeEnd → ℕ → ℕ → Type 0
IsModeChain s history [] end high p = Unturned history 0 high p × (end ≡ modes.Start p (s.mode p))
IsModeChain s history (link ∷ links) end high p =
    (link.pid ≡ p) × (link.at < high) × Unturned history link.at high p
    × ModeGoesOn (turn_at history link.at p) links end (λ q. IsModeChain s history links end link.at q)

abbrev pub ModesSkipNone : Type 0
ModesSkipNone = (s : State) (trace : List Step) (p : ℕ) →
    let chain = mode_provenance s trace p in
    IsModeChain s (reverse trace) chain.links chain.end (length trace + 1) p
