-- Positions in a trace: what is found at a range of them, the last step of each process, and walks back from a place.
use Rattle.std.specs.Prelude.{if◌then◌else◌, ◌&&◌, ◌+◌, ◌++◌, ◌<◌, ◌==◌, ◌^◌, ◌∷◌, ◌≡◌, ◌≤◌}
use Rattle.cap_summary.specs.{CellWalk, Finding, ModeWalk, filter, found_at, length, nat_le, reverse, slice_index_or, ℕ}
use Rattle.cap_summary.specs.{Bool, Cell, Found, List, Mode, State, Step, [], check, ended, later, map, take}
use Rattle.cap_summary.specs.declared.{explaining.PlaceInNode.PlaceInNode, last_steps.LastSteps.LastSteps}
use Rattle.cap_summary.specs.declared.{judging.Asked.Asked, judging.Report.Report}
use Rattle.cap_machine.specs.{Provenance.CellChain, Provenance.ModeChain}
use Rattle.cap_machine.specs.Code.Walks.{cell_found, cell_known, mode_found, mode_known}

-- a finding is at a position from one to another, both included
abbrev pub is_at : ℕ → ℕ → Found → Bool
is_at from to found = nat_le from found.at && nat_le found.at to

abbrev pub within : ℕ → ℕ → List Found → List Found
within from to found = filter (is_at from to) found

-- what is said of a line at a position, and what is found in steps after so many others, where it is asked for
abbrev pub said_in : Asked → ℕ → List Finding → List Found
said_in asked at says = within asked.from asked.to (map (found_at at) says)

abbrev pub found_in : Asked → ℕ → State → List Step → List Found
found_in asked at s t = within asked.from asked.to (map (later at) (check s t))

-- at how many positions something is found, of findings in order
abbrev pub starts : Found → List Found → ℕ
starts x [] = 1
starts x (y ∷ rest) = if x.at == y.at then 0 else 1

abbrev pub positions : List Found → ℕ
positions [] = 0
positions (x ∷ rest) = starts x rest + positions rest

-- a step was judged for each position at which more is found
abbrev pub WereJudged : Report → Report → Type 0
WereJudged old new = positions new.found.items + old.judged ≤ positions old.found.items + new.judged

-- ---- the position of the last step of a process, and 0 where none is noted
abbrev pub last_of : LastSteps → ℕ → ℕ
last_of last p = slice_index_or last.positions.items p 0

-- of steps after so many others, none is beyond the last one of its process
abbrev pub AreNoted : LastSteps → ℕ → List Step → Type 0
AreNoted last at [] = Unit {0}
AreNoted last at (step ∷ t) = (at < last_of last step.line.pid) × AreNoted last (at + 1) t

-- two states have the same cells and the same mode of each process that makes a step after so many
pub record AgreeAfter (last : LastSteps) (at : ℕ) (s r : State) : Type 0 where
  pub cells : (p f : ℕ) → at < last_of last p → s.cell p f ≡ r.cell p f
  pub modes : (p : ℕ) → at < last_of last p → s.mode p ≡ r.mode p

-- what is found in steps after so many others is noted; the state after them agrees with r, unless no position after
-- them is asked for
pub record AreJudged (last : LastSteps) (asked : Asked) (at : ℕ) (t : List Step) (s r : State) (old new : List Found)
    : Type 0 where
  pub found : new ≡ old ++ found_in asked at s t
  pub agree : at + length t < asked.to → AgreeAfter last (at + length t) (ended s t) r

-- ---- a place after some steps of a node, which has so many, and not too many to be counted
pub record IsPlace (place : PlaceInNode) : Type 0 where
  pub within : place.count ≤ length place.node.now.steps
  pub few : length place.node.now.steps ≤ 2 ^ 30

-- the steps before the place, the newest first
abbrev pub history : PlaceInNode → List Step
history place = reverse (take place.count place.node.now.steps)

-- what a walk back from there finds: a cell or a mode, with its chain
pub data Origin : Type 0 where
  OfCell : CellChain → Cell → Origin
  OfMode : ModeChain → Mode → Origin

-- what it finds once it has passed some steps
abbrev pub cell_seen : CellWalk → State → List Step → Origin
cell_seen walk s history = OfCell (cell_found walk s history) (cell_known walk s history)

abbrev pub mode_seen : ModeWalk → State → List Step → Origin
mode_seen walk s history = OfMode (mode_found walk s history) (mode_known walk s history)

-- a walk has passed a trace that comes after so many steps: what it sees without it is what it saw with it
abbrev pub Passes : {W : Type 0} → (W → State → List Step → Origin) → W → W → ℕ → List Step → Type 0
Passes see old new at trace = (s : State) (history : List Step) → length history ≡ at
    → see new s history ≡ see old s (reverse trace ++ history)
