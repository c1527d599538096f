-- The text of an explanation: a line of a trace, what is said of it, what was lacking for it, and the lines that this rests
-- on.
--
--     9 201 shutdown(4) RET 0
--     missing 4 CAP_SHUTDOWN
--     4 4 201 cap_rights_limit(4,CAP_READ|CAP_WRITE) RET 0
--     4 3 200 fork() RET 201
--     4 start unknown
use Rattle.std.specs.Prelude.{◌≡◌, ℕ, ◌-◌, List, [], ◌∷◌, ◌++◌, flat_map, codes, decimal, Result, Ok, Err, Option}
use Rattle.std.specs.Prelude.{None, Some}
use Rattle.std.specs.List.{slice_get}
use Rattle.cap_rights.specs.Text.{text}
use Rattle.cap_trace.specs.Entry.{Entry}
use Rattle.cap_trace.specs.Spelling.{canon}
use Rattle.cap_machine.specs.declared.cell.Cell.{Cell}
use Rattle.cap_machine.specs.declared.cell.Cell.TheVariants.{Unknown, Closed, Held}
use Rattle.cap_machine.specs.declared.cell.Mode.{Mode}
use Rattle.cap_machine.specs.declared.cell.Mode.TheVariants.{Inside, Outside, Unsure}
use Rattle.cap_machine.specs.declared.cell.Profile.{Profile}
use Rattle.cap_machine.specs.declared.denial.Denial.{Denial}
use Rattle.cap_machine.specs.declared.provenance.CellEnd.{CellEnd}
use Rattle.cap_machine.specs.declared.provenance.CellEnd.TheVariants as cells
use Rattle.cap_machine.specs.declared.provenance.CellLink.{CellLink}
use Rattle.cap_machine.specs.declared.provenance.ModeEnd.{ModeEnd}
use Rattle.cap_machine.specs.declared.provenance.ModeEnd.TheVariants as modes
use Rattle.cap_machine.specs.declared.provenance.ModeLink.{ModeLink}
use Rattle.cap_machine.specs.declared.rule.Check.{Check}
use Rattle.cap_machine.specs.declared.verdict.Finding.{Finding}
use Rattle.cap_machine.specs.DenialReport.{denial_words}
use Rattle.cap_machine.specs.Explain.{Explained, explanation}
use Rattle.cap_machine.specs.Judge.{listed}
use Rattle.cap_machine.specs.Provenance.{CellChain, ModeChain}
use Rattle.cap_machine.specs.Report.{finding_words, line_of_words}
use Rattle.cap_machine.specs.Rule.{requirement}
use Rattle.cap_machine.specs.State.{State}
use Rattle.cap_machine.specs.Steps.{steps}
use Rattle.cap_session.specs.Shown.{found_in}
use Rattle.cap_session.specs.Trace.{counted_lines}
use Rattle.cap_session.specs.declared.refused.Refused.{Refused}
use Rattle.cap_session.specs.declared.refused.Refused.TheVariants.{Position}

-- ---- lines of the trace, by their positions, from 1

abbrev pub text_of : Option Entry → List ℕ
text_of None = []
text_of (Some line) = canon line

-- the canonical text of the line at a position, without LF
abbrev pub text_at : List Entry → ℕ → List ℕ
text_at trace at = text_of (slice_get trace (at - 1))

-- the descriptors that it checks, in order
abbrev pub checks_of : Option Entry → List Check
checks_of None = []
checks_of (Some line) = listed (requirement line).checks

abbrev pub checks_at : List Entry → ℕ → List Check
checks_at trace at = checks_of (slice_get trace (at - 1))

-- ---- where a cell and a mode come from

-- a cell and a mode as a start text spells them
abbrev pub cell_word : Cell → List ℕ
cell_word Unknown = codes "unknown"
cell_word Closed = codes "closed"
cell_word (Held rights flag) = text rights

abbrev pub mode_word : Mode → List ℕ
mode_word Inside = codes "in"
mode_word Outside = codes "out"
mode_word Unsure = codes "unsure"

-- `9 201 shutdown(4) RET 0`: a position, and the line there
abbrev pub numbered : List Entry → ℕ → List ℕ
numbered trace at = line_of_words (decimal at ∷ text_at trace at ∷ [])

-- `4 3 200 fork() RET 201`: what the chain explains, a position, and the line there
abbrev pub link_line : List ℕ → List Entry → ℕ → List ℕ
link_line of trace at = line_of_words (of ∷ decimal at ∷ text_at trace at ∷ [])

-- `4 start unknown`: what the chain explains, and what was known at the start
abbrev pub start_line : List ℕ → List ℕ → List ℕ
start_line of known = line_of_words (of ∷ codes "start" ∷ known ∷ [])

abbrev pub cell_end_line : List ℕ → CellEnd → List ℕ
cell_end_line of (cells.Given c) = []
cell_end_line of (cells.Start p f c) = start_line of (cell_word c)

-- the lines that a cell comes from, newest first; the start, where they lead there
abbrev pub cell_lines : List Entry → ℕ → CellChain → List ℕ
cell_lines trace fd chain =
    flat_map (λ (link : CellLink). link_line (decimal fd) trace link.at) chain.links
    ++ cell_end_line (decimal fd) chain.end

abbrev pub mode_end_line : ModeEnd → List ℕ
mode_end_line (modes.Given m) = []
mode_end_line (modes.Start p m) = start_line (codes "mode") (mode_word m)

abbrev pub mode_lines : List Entry → ModeChain → List ℕ
mode_lines trace chain =
    flat_map (λ (link : ModeLink). link_line (codes "mode") trace link.at) chain.links ++ mode_end_line chain.end

-- ---- an explanation

-- the word of each finding and what belongs to it
abbrev pub finding_lines : List Finding → List ℕ
finding_lines findings = flat_map (λ (f : Finding). line_of_words (finding_words f)) findings

-- the word of each denial and what belongs to it
abbrev pub denial_lines : List Denial → List ℕ
denial_lines denials = flat_map (λ (d : Denial). line_of_words (denial_words d)) denials

-- the chain of each descriptor that is checked, in order
abbrev pub all_cell_lines : List Entry → List Check → List CellChain → List ℕ
all_cell_lines trace (check ∷ checks) (chain ∷ chains) =
    cell_lines trace check.fd chain ++ all_cell_lines trace checks chains
all_cell_lines trace _ _ = []

-- that of the mode, where it can matter
abbrev pub any_mode_lines : List Entry → Option ModeChain → List ℕ
any_mode_lines trace None = []
any_mode_lines trace (Some chain) = mode_lines trace chain

-- the line at a position, and what is said of it
abbrev pub said_lines : List Entry → ℕ → Explained → List ℕ
said_lines trace k e = numbered trace k ++ finding_lines e.findings ++ denial_lines e.denials

-- the lines that this rests on
abbrev pub chain_lines : List Entry → ℕ → Explained → List ℕ
chain_lines trace k e = all_cell_lines trace (checks_at trace k) e.cells ++ any_mode_lines trace e.mode

-- the text of what the line at a position rests on
abbrev pub explained_text : List Entry → ℕ → Explained → List ℕ
explained_text trace k e = said_lines trace k e ++ chain_lines trace k e

abbrev pub text_or_refusal : List Entry → ℕ → Option Explained → Result (List ℕ) Refused
text_or_refusal trace k None = Err Position
text_or_refusal trace k (Some e) = Ok (explained_text trace k e)

-- under a start and in a profile: the text of line k of a trace, or that it has no such line
abbrev pub explained_line : State → Profile → List Entry → ℕ → Result (List ℕ) Refused
explained_line s profile trace k = text_or_refusal trace k (explanation s (steps profile trace) k)

-- and how many lines that one rests on
abbrev pub links_or_refusal : List Entry → ℕ → Option Explained → Result ℕ Refused
links_or_refusal trace k None = Err Position
links_or_refusal trace k (Some e) = Ok (counted_lines (chain_lines trace k e))

abbrev pub explained_links : State → Profile → List Entry → ℕ → Result ℕ Refused
explained_links s profile trace k = links_or_refusal trace k (explanation s (steps profile trace) k)

-- line k has no finding in the check of the whole trace
abbrev pub IsClean : State → Profile → List Entry → ℕ → Type 0
IsClean s profile trace k = found_in s (steps profile trace) k k ≡ []
