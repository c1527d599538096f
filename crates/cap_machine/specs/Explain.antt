-- What one line of a trace rests on: what is said of it, what was lacking for it, and where the cell of each descriptor
-- that it checks and the mode of its process come from.
use Rattle.std.specs.Prelude.{ℕ, ◌+◌, ◌==◌, ◌&&◌, not, Bool, true, false, if◌then◌else◌, List, [], ◌∷◌, length, map}
use Rattle.std.specs.Prelude.{◌≡◌, reverse, Option, Some, None, option_map}
use Rattle.std.specs.Option.{option_map_or}
use Rattle.cap_machine.specs.declared.step.Step.{Step}
use Rattle.cap_machine.specs.declared.rule.Check.{Check}
use Rattle.cap_machine.specs.declared.rule.Requirement.{Requirement}
use Rattle.cap_machine.specs.declared.rule.Reply.{Reply}
use Rattle.cap_machine.specs.declared.rule.Reply.TheVariants.{Success, NotCapable, NotPermitted, Other}
use Rattle.cap_machine.specs.declared.verdict.Finding.{Finding}
use Rattle.cap_machine.specs.declared.denial.Denial.{Denial}
use Rattle.cap_machine.specs.declared.cell.Cell.{Cell}
use Rattle.cap_machine.specs.declared.cell.Mode.{Mode}
use Rattle.cap_machine.specs.declared.cell.Mode.TheVariants.{Unsure}
use Rattle.cap_machine.specs.declared.provenance.CellProvenance.{CellProvenance}
use Rattle.cap_machine.specs.declared.provenance.ModeProvenance.{ModeProvenance}
use Rattle.cap_machine.specs.declared.explaining.Explanation.{Explanation}
use Rattle.cap_machine.specs.State.{State}
use Rattle.cap_machine.specs.History.{after, cell_after, mode_after}
use Rattle.cap_machine.specs.Rule.{requirement}
use Rattle.cap_machine.specs.Judge.{listed, has_check, is_forbidden, is_allowed}
use Rattle.cap_machine.specs.Check.{findings_of}
use Rattle.cap_machine.specs.Denials.{denied_of}
use Rattle.cap_machine.specs.Provenance.{CellChain, ModeChain, cell_chain, mode_chain, cell_chain_of, mode_chain_of}

-- each check has rights that make a refusal wrongful
abbrev pub has_excuse : Option ℕ → Bool
has_excuse (Some excuse) = true
has_excuse None = false

abbrev pub all_have_excuse : List Check → Bool
all_have_excuse [] = true
all_have_excuse (check ∷ checks) = has_excuse check.excuse && all_have_excuse checks

-- Whether what is said of a line can depend on the mode of its process: of a call that succeeded where capability mode
-- forbids it; of errno 93 at a directory, where it is ever judged; of errno 94 but for a call that is allowed
abbrev pub mode_matters_by : Reply → Requirement → Bool
mode_matters_by Success d = is_forbidden d.class
mode_matters_by NotCapable d = d.at && (has_check d.checks && all_have_excuse (listed d.checks))
mode_matters_by NotPermitted d = not (is_allowed d.class)
mode_matters_by Other d = false

abbrev pub mode_matters : Requirement → Bool
mode_matters d = mode_matters_by d.reply d

-- the findings of a line, its denials, the chain of each descriptor that it checks, in order, and that of its process's
-- mode where the findings can depend on it; elsewhere the denials don't depend on it. And what these chains lead to: the
-- cells and the mode before the line
pub record Explained : Type 0 where
  pub findings : List Finding
  pub denials : List Denial
  pub cells : List CellChain
  pub mode : Option ModeChain
  pub cells_before : List Cell
  pub mode_before : Option Mode

-- of a line of process p with this requirement, after a history
abbrev pub explained_of : State → List Step → Requirement → ℕ → Explained
explained_of s history d p = record {
  findings = findings_of d p (after s history);
  denials = denied_of d p (after s history);
  cells = map (λ (check : Check). cell_chain s history p check.fd) (listed d.checks);
  mode = if mode_matters d then Some (mode_chain s history p) else None;
  cells_before = map (λ (check : Check). cell_after s history p check.fd) (listed d.checks);
  mode_before = if mode_matters d then Some (mode_after s history p) else None;
}

abbrev pub explained : State → List Step → Step → Explained
explained s history step = explained_of s history (requirement step.line) step.line.pid

-- the step at a position of a history, with those before it; steps are numbered from 1
abbrev pub explained_at : State → List Step → ℕ → Option Explained
explained_at s [] k = None
explained_at s (step ∷ history) k =
    if k == length history + 1 then Some (explained s history step) else explained_at s history k

-- line k of a trace, its steps in their order; none where it has no line k
abbrev pub explanation : State → List Step → ℕ → Option Explained
explanation s trace k = explained_at s (reverse trace) k

-- ---- what the code answers

abbrev pub explained_by : Explanation → Explained
explained_by e = record {
  findings = e.verdict;
  denials = e.denials;
  cells = map cell_chain_of e.cells.items;
  mode = option_map mode_chain_of e.mode;
  cells_before = map (λ (provenance : CellProvenance). provenance.cell) e.cells.items;
  mode_before = option_map (λ (provenance : ModeProvenance). provenance.mode) e.mode;
}

-- where the mode doesn't matter it isn't looked up
abbrev pub mode_or_unsure : Option ModeProvenance → Mode
mode_or_unsure provenance = option_map_or (λ (o : ModeProvenance). o.mode) provenance Unsure

-- what a line of process p with this requirement rests on after a history: of each check, in order, its cell and where
-- that comes from; and the same of the mode, where it matters
pub record RestsOn (s : State) (history : List Step) (d : Requirement) (p : ℕ) (provenances : List CellProvenance)
    (mode_from : Option ModeProvenance) : Type 0 where
  pub cells : map (λ (provenance : CellProvenance). provenance.cell) provenances
      ≡ map (λ (check : Check). cell_after s history p check.fd) (listed d.checks)
  pub chains : map cell_chain_of provenances
      ≡ map (λ (check : Check). cell_chain s history p check.fd) (listed d.checks)
  pub mode : mode_matters d ≡ true → mode_or_unsure mode_from ≡ mode_after s history p
  pub mode_links : option_map mode_chain_of mode_from
      ≡ (if mode_matters d then Some (mode_chain s history p) else None)
