-- What came and what went: between what was found in a trace then and what is found in it now, by where its lines stood.
use Rattle.std.specs.Prelude.{◌+◌, ◌==◌, ◌&&◌, Bool, true, false, not, List, [], ◌∷◌, ◌++◌, codes, filter, flat_map}
use Rattle.std.specs.Prelude.{length, map, Option, None, Some, ℕ}
use Rattle.std.specs.List.{list_any}
use Rattle.std.specs.Cmp.Lexicographic.{pointwise}
use Rattle.cap_trace.specs.Entry.{Entry}
use Rattle.cap_machine.specs.declared.step.Step.{Step}
use Rattle.cap_machine.specs.declared.verdict.Finding.{Finding}
use Rattle.cap_machine.specs.declared.verdict.Finding.TheVariants.{Forbidden, ModeRefusal, Missing, Expanded, Closed}
use Rattle.cap_machine.specs.declared.verdict.Finding.TheVariants.{Refusal}
use Rattle.cap_machine.specs.declared.verdict.Found.{Found}
use Rattle.cap_machine.specs.Check.{check}
use Rattle.cap_machine.specs.Report.{report_line, last_line}
use Rattle.cap_machine.specs.State.{State}
use Rattle.cap_machine.specs.Steps.{steps}
use Rattle.cap_session.specs.Origins.{Base}
use Rattle.cap_session.specs.Settings.{state_before}
use Rattle.cap_session.specs.declared.session.Setting.{Setting}

-- ---- the findings of a line

-- whether the same is found
abbrev pub same_finding : Finding → Finding → Bool
same_finding Forbidden Forbidden = true
same_finding ModeRefusal ModeRefusal = true
same_finding Refusal Refusal = true
same_finding (Missing f lacking) (Missing g others) = f == g && lacking == others
same_finding (Expanded f lacking) (Expanded g others) = f == g && lacking == others
same_finding (Closed f) (Closed g) = f == g
same_finding _ _ = false

abbrev pub same_findings : List Finding → List Finding → Bool
same_findings = pointwise same_finding

-- the findings of the line at a position
abbrev pub of_line : ℕ → List Found → List Finding
of_line position found = map (λ one. one.finding) (filter (λ one. one.at == position) found)

-- ---- lines that stood then

-- where a line stood then, and where it stands now
pub record Line : Type 0 where
  pub was : ℕ
  pub at : ℕ

-- those that stood, of the lines from a position on
unfoldable pub kept_lines : ℕ → List (Option ℕ) → List Line
kept_lines at [] = []
kept_lines at (None ∷ origins) = kept_lines (at + 1) origins
kept_lines at (Some was ∷ origins) = record { was = was; at = at } ∷ kept_lines (at + 1) origins

-- A line has the findings that it had then, compared as one list.
abbrev pub has_same : List Found → List Found → Line → Bool
has_same before now line = same_findings (of_line line.was before) (of_line line.at now)

abbrev pub unchanged : List Line → List Found → List Found → List Line
unchanged lines before now = filter (has_same before now) lines

-- ---- what went and what came

-- each finding then, but for those of lines that are unchanged
abbrev pub went_from : List Line → List Found → List Found → List Found
went_from lines before now = filter (λ one. not (list_any (λ line. line.was == one.at) (unchanged lines before now))) before

-- each finding now, but for those of lines that are unchanged
abbrev pub came_to : List Line → List Found → List Found → List Found
came_to lines before now = filter (λ one. not (list_any (λ line. line.at == one.at) (unchanged lines before now))) now

-- Went: each finding then, of a line that is gone or has other findings now.
abbrev pub went : List (Option ℕ) → List Found → List Found → List Found
went origins = went_from (kept_lines 1 origins)

-- Came: each finding now, of a line that is new or had other findings then.
abbrev pub came : List (Option ℕ) → List Found → List Found → List Found
came origins = came_to (kept_lines 1 origins)

-- ---- the text

abbrev pub gone_line : List Step → Found → List ℕ
gone_line trace one = codes "- " ++ report_line trace one

abbrev pub new_line : List Step → Found → List ℕ
new_line trace one = codes "+ " ++ report_line trace one

-- what went from one trace, what came in the other, and how many findings that has, both from one start
abbrev pub changed : State → List (Option ℕ) → List Step → List Step → List ℕ
changed s origins before now =
    flat_map (gone_line before) (went origins (check s before) (check s now))
    ++ (flat_map (new_line now) (came origins (check s before) (check s now)) ++ last_line (length (check s now)))

-- all findings of a trace
abbrev pub all_new : State → List Step → List ℕ
all_new s now = codes "all\n" ++ (flat_map (new_line now) (check s now) ++ last_line (length (check s now)))

-- what changed in a trace since the report that is kept, and all findings where none is
abbrev pub changes : Setting → Option Base → List Entry → List ℕ
changes setting None trace = all_new (state_before setting) (steps setting.profile trace)
changes setting (Some base) trace =
    changed (state_before setting) base.origins (steps setting.profile base.trace) (steps setting.profile trace)
