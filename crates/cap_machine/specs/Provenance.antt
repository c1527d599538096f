-- Where a cell and a mode come from. One walks back through a history, its newest step first, to the last step that
-- gave the cell, moved it from another (fork(2): the parent's; dup(2): another descriptor's), or changed it
-- (cap_rights_limit(2)). Where the step gave the cell, the walk ends there; else it goes on from the cell that the step
-- took, before that step. A step that takes a cell from itself and leaves it as it was isn't named: an exec that leaves
-- a descriptor open, a limit to no less than what was held.
use Rattle.std.specs.Prelude.{ℕ, ◌+◌, ◌==◌, ◌&&◌, Bool, true, false, if◌then◌else◌, List, [], ◌∷◌, length, reverse}
use Rattle.cap_machine.specs.declared.step.Step.{Step}
use Rattle.cap_machine.specs.declared.cell.Cell.{Cell}
use Rattle.cap_machine.specs.declared.cell.Cell.TheVariants.{Unknown, Closed, Held}
use Rattle.cap_machine.specs.declared.cell.OnExec.{OnExec}
use Rattle.cap_machine.specs.declared.cell.OnExec.TheVariants as flags
use Rattle.cap_machine.specs.declared.cell.Op.{Op}
use Rattle.cap_machine.specs.declared.provenance.CellLink.{CellLink}
use Rattle.cap_machine.specs.declared.provenance.CellEnd.{CellEnd}
use Rattle.cap_machine.specs.declared.provenance.CellEnd.TheVariants as cells
use Rattle.cap_machine.specs.declared.provenance.CellProvenance.{CellProvenance}
use Rattle.cap_machine.specs.declared.provenance.ModeLink.{ModeLink}
use Rattle.cap_machine.specs.declared.provenance.ModeEnd.{ModeEnd}
use Rattle.cap_machine.specs.declared.provenance.ModeEnd.TheVariants as modes
use Rattle.cap_machine.specs.declared.provenance.ModeProvenance.{ModeProvenance}
use Rattle.cap_machine.specs.State.{State}
use Rattle.cap_machine.specs.Op.{applied}
use Rattle.cap_machine.specs.Touch.{Touch, kept, given, taken, Turn, stays, turns, follows, touch, turn}
use Rattle.cap_machine.specs.History.{cell_after}

-- ---- cells

-- the steps that a cell comes from, newest first, each with its position and the cell that it touched; and the cell at
-- the end: given by the oldest of them, or one of the start
pub record CellChain : Type 0 where
  pub links : List CellLink
  pub end : CellEnd

-- the same cell
abbrev pub same_flag : OnExec → OnExec → Bool
same_flag flags.Set flags.Set = true
same_flag flags.Clear flags.Clear = true
same_flag flags.Unsure flags.Unsure = true
same_flag _ _ = false

abbrev pub same_cell : Cell → Cell → Bool
same_cell Unknown Unknown = true
same_cell Closed Closed = true
same_cell (Held r x) (Held t y) = r == t && same_flag x y
same_cell _ _ = false

-- a cell is taken from itself and left as it was
abbrev pub is_idle : Op → Bool → Cell → Bool
is_idle op from_itself c = from_itself && same_cell (applied op c) c

-- a touch of the cell of descriptor f of process p, where a chain names it
abbrev pub named_touch : Touch → (ℕ → ℕ → Cell) → ℕ → ℕ → Touch
named_touch kept before p f = kept
named_touch (given c) before p f = given c
named_touch (taken op q g) before p f = if is_idle op (q == p && g == f) (before q g) then kept else taken op q g

-- at a position the cell of descriptor f of process p was touched
abbrev pub cell_link : ℕ → ℕ → ℕ → CellLink
cell_link at p f = record { at = at; pid = p; fd = f }

-- by what the step at a position does to a cell; the chains of all cells before that step are known
abbrev pub by_touch : Touch → (ℕ → ℕ → CellChain) → ℕ → ℕ → ℕ → CellChain
by_touch kept before at p f = before p f
by_touch (given c) before at p f = record { links = cell_link at p f ∷ []; end = cells.Given c }
by_touch (taken op q g) before at p f = record {
  links = cell_link at p f ∷ (before q g).links;
  end = (before q g).end;
}

-- the chain of the cell of descriptor f of process p after a history; steps are numbered from 1
abbrev pub cell_chain : State → List Step → ℕ → ℕ → CellChain
cell_chain s [] p f = record { links = []; end = cells.Start p f (s.cell p f) }
cell_chain s (step ∷ history) p f =
    by_touch (named_touch (touch step p f) (cell_after s history) p f) (cell_chain s history) (length history + 1) p f

abbrev pub cell_at_end : CellEnd → Cell
cell_at_end (cells.Given c) = c
cell_at_end (cells.Start p f c) = c

-- after a trace, its steps in their order
abbrev pub cell_provenance : State → List Step → ℕ → ℕ → CellChain
cell_provenance s trace p f = cell_chain s (reverse trace) p f

-- ---- modes

pub record ModeChain : Type 0 where
  pub links : List ModeLink
  pub end : ModeEnd

abbrev pub mode_link : ℕ → ℕ → ModeLink
mode_link at p = record { at = at; pid = p }

abbrev pub by_turn : Turn → (ℕ → ModeChain) → ℕ → ℕ → ModeChain
by_turn stays before at p = before p
by_turn (turns m) before at p = record { links = mode_link at p ∷ []; end = modes.Given m }
by_turn (follows q) before at p = record { links = mode_link at p ∷ (before q).links; end = (before q).end }

-- a fork that takes a mode from itself isn't named
abbrev pub named_turn : Turn → ℕ → Turn
named_turn stays p = stays
named_turn (turns m) p = turns m
named_turn (follows q) p = if q == p then stays else follows q

abbrev pub mode_chain : State → List Step → ℕ → ModeChain
mode_chain s [] p = record { links = []; end = modes.Start p (s.mode p) }
mode_chain s (step ∷ history) p = by_turn (named_turn (turn step p) p) (mode_chain s history) (length history + 1) p

abbrev pub mode_provenance : State → List Step → ℕ → ModeChain
mode_provenance s trace p = mode_chain s (reverse trace) p

-- ---- what the code answers

abbrev pub cell_chain_of : CellProvenance → CellChain
cell_chain_of provenance = record { links = provenance.links.items; end = provenance.end }

abbrev pub mode_chain_of : ModeProvenance → ModeChain
mode_chain_of provenance = record { links = provenance.links.items; end = provenance.end }
