-- What each part of the code that explains a line does. Only the code's contracts use this; Explaining and ExplainStreams
-- say what a call answers.
use Rattle.std.specs.Prelude.{◌≡◌, ℕ, ◌≤◌, List, length, Option, None, Some, ⊤}
use Rattle.std.specs.List.{All}
use Rattle.cap_trace.specs.Entry.{Entry}
use Rattle.cap_machine.specs.declared.provenance.CellLink.{CellLink}
use Rattle.cap_machine.specs.declared.provenance.ModeLink.{ModeLink}
use Rattle.cap_machine.specs.Explain.{Explained}
use Rattle.cap_machine.specs.Provenance.{CellChain, ModeChain}
use Rattle.cap_session.specs.Explaining.{checks_at}

-- one of the positions 1 to n
abbrev pub IsAt : ℕ → ℕ → Type 0
IsAt n position = (1 ≤ position) × (position ≤ n)

-- the links of a chain stand there
abbrev pub CellStands : ℕ → CellChain → Type 0
CellStands n chain = All (λ (link : CellLink). IsAt n link.at) chain.links

abbrev pub ModeStands : ℕ → ModeChain → Type 0
ModeStands n chain = All (λ (link : ModeLink). IsAt n link.at) chain.links

abbrev pub AnyModeStands : ℕ → Option ModeChain → Type 0
AnyModeStands n None = ⊤
AnyModeStands n (Some chain) = ModeStands n chain

-- An explanation is one of line k of a trace: it has a chain for each check, and all links stand in the trace.
pub record FitsLine (trace : List Entry) (k : ℕ) (e : Explained) : Type 0 where
  pub place : IsAt (length trace) k
  pub one_each : length e.cells ≡ length (checks_at trace k)
  pub cells : All (CellStands (length trace)) e.cells
  pub mode : AnyModeStands (length trace) e.mode
