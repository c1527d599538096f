-- Walks back from a cell and from a mode, which are handed the steps one by one, newest first: what a walk finds where
-- a history comes before the steps that it has passed. Steps that don't touch the cell that it is at may be left out.
use Rattle.std.specs.Prelude.{◌≡◌, ℕ, List, [], ◌++◌, reverse, Option, Some, None, unwrap_or}
use Rattle.std.specs.List.{All}
use Rattle.cap_machine.specs.declared.step.Step.{Step}
use Rattle.cap_machine.specs.declared.cell.Cell.{Cell}
use Rattle.cap_machine.specs.declared.cell.Mode.{Mode}
use Rattle.cap_machine.specs.declared.provenance.CellEnd.TheVariants as cells
use Rattle.cap_machine.specs.declared.provenance.ModeLink.{ModeLink}
use Rattle.cap_machine.specs.declared.provenance.ModeEnd.TheVariants as modes
use Rattle.cap_machine.specs.declared.walks.CellWalk.{CellWalk}
use Rattle.cap_machine.specs.declared.walks.ModeWalk.{ModeWalk}
use Rattle.cap_machine.specs.State.{State}
use Rattle.cap_machine.specs.Touch.{kept, stays, touch, turn}
use Rattle.cap_machine.specs.History.{cell_after, mode_after}
use Rattle.cap_machine.specs.Provenance.{CellChain, ModeChain, cell_chain, mode_chain}
use Rattle.cap_machine.specs.Code.Passages.{cell_along, chain_along}

-- ---- cells

-- the cell that the walk is at: of this descriptor of this process
abbrev pub cell_pid : CellWalk → ℕ
cell_pid walk = walk.pid

abbrev pub cell_fd : CellWalk → ℕ
cell_fd walk = walk.fd

-- nothing comes before a step that gave the cell
abbrev pub chain_unless : Option Cell → CellChain → CellChain
chain_unless None chain = chain
chain_unless (Some c) chain = record { links = []; end = cells.Given c }

-- the cell that the walk finds after a history, from a state: what it passed makes it of the cell that the walk is at
unfoldable pub cell_known : CellWalk → State → List Step → Cell
cell_known walk s history =
    cell_along walk.passages.items (unwrap_or walk.given (cell_after s history walk.pid walk.fd))

-- the chain that it finds: what it passed and named, and then the chain of the cell that it is at
unfoldable pub cell_found : CellWalk → State → List Step → CellChain
cell_found walk s history =
    chain_along walk.passages.items (unwrap_or walk.given (cell_after s history walk.pid walk.fd))
    (chain_unless walk.given (cell_chain s history walk.pid walk.fd))

-- two walks find the same, whatever comes before
pub record SameCellWalk (a b : CellWalk) : Type 0 where
  pub chain : (s : State) (history : List Step) → cell_found b s history ≡ cell_found a s history
  pub cell : (s : State) (history : List Step) → cell_known b s history ≡ cell_known a s history
  pub pid : cell_pid b ≡ cell_pid a
  pub fd : cell_fd b ≡ cell_fd a

-- a walk finds the same, whatever comes before
pub record CellIsFound (walk : CellWalk) : Type 0 where
  pub chain : (s t : State) (history older : List Step) → cell_found walk s history ≡ cell_found walk t older
  pub cell : (s t : State) (history older : List Step) → cell_known walk s history ≡ cell_known walk t older

-- no step of a trace touches the cell of descriptor f of process p
abbrev pub LeavesCell : List Step → ℕ → ℕ → Type 0
LeavesCell trace p f = All (λ step. touch step p f ≡ kept) trace

-- a trace that doesn't touch the cell may be left out; its steps are in their order
abbrev pub CellsMayBeLeftOut : Type 0
CellsMayBeLeftOut = (walk : CellWalk) (s : State) (history trace : List Step)
    → LeavesCell trace (cell_pid walk) (cell_fd walk)
    → (cell_found walk s (reverse trace ++ history) ≡ cell_found walk s history)
    × (cell_known walk s (reverse trace ++ history) ≡ cell_known walk s history)

-- ---- modes

-- the process whose mode the walk is at
abbrev pub mode_pid : ModeWalk → ℕ
mode_pid walk = walk.pid

-- the chain of these links, and of what comes before them
abbrev pub mode_along : List ModeLink → ModeChain → ModeChain
mode_along links before = record { links = links ++ before.links; end = before.end }

-- the mode that the walk finds after a history, from a state
unfoldable pub mode_known : ModeWalk → State → List Step → Mode
mode_known walk s history = unwrap_or walk.turned (mode_after s history walk.pid)

abbrev pub mode_chain_unless : Option Mode → ModeChain → ModeChain
mode_chain_unless None chain = chain
mode_chain_unless (Some m) chain = record { links = []; end = modes.Given m }

-- the chain that it finds: what it passed and named, and then the chain of the mode that it is at
unfoldable pub mode_found : ModeWalk → State → List Step → ModeChain
mode_found walk s history =
    mode_along walk.links.items (mode_chain_unless walk.turned (mode_chain s history walk.pid))

pub record SameModeWalk (a b : ModeWalk) : Type 0 where
  pub chain : (s : State) (history : List Step) → mode_found b s history ≡ mode_found a s history
  pub mode : (s : State) (history : List Step) → mode_known b s history ≡ mode_known a s history
  pub pid : mode_pid b ≡ mode_pid a

pub record ModeIsFound (walk : ModeWalk) : Type 0 where
  pub chain : (s t : State) (history older : List Step) → mode_found walk s history ≡ mode_found walk t older
  pub mode : (s t : State) (history older : List Step) → mode_known walk s history ≡ mode_known walk t older

-- no step of a trace turns the mode of process p
abbrev pub LeavesMode : List Step → ℕ → Type 0
LeavesMode trace p = All (λ step. turn step p ≡ stays) trace

abbrev pub ModesMayBeLeftOut : Type 0
ModesMayBeLeftOut = (walk : ModeWalk) (s : State) (history trace : List Step) → LeavesMode trace (mode_pid walk)
    → (mode_found walk s (reverse trace ++ history) ≡ mode_found walk s history)
    × (mode_known walk s (reverse trace ++ history) ≡ mode_known walk s history)
