-- The text of findings, one after the other; and whether there are any.
use Rattle.std.proofs.Common.{◌≡◌, ℕ, ◌+◌, ◌-◌, ◌<◌, Bool, true, false, not, List, [], ◌∷◌, ◌++◌, length, take, get_or}
use Rattle.std.proofs.Common.{append_assoc, refl, sym, ◌∙◌, ap, ◌≤◌, IsTrue, ◌↔◌}
use Rattle.std.specs.Prelude.{Some, slice_get}
use Rattle.std.specs.List.{flat_map}
use Rattle.std.proofs.lemmas.List.{take_more, append-nil}
use Rattle.std.proofs.lemmas.List.Elements.{All-filter}
use Rattle.std.proofs.lemmas.List.Concat.{flat_map-append}
use Rattle.cap_machine.specs.declared.step.Step.{Step}
use Rattle.cap_machine.specs.declared.verdict.Found.{Found}
use Rattle.cap_machine.specs.State.{State}
use Rattle.cap_machine.specs.Check.{check}
use Rattle.cap_machine.specs.Report.{report_line, line_about, finding_line}
use Rattle.cap_machine.proofs.Positions.{positions_within}
use Rattle.cap_summary.specs.Asks.{has_any}
use Rattle.cap_summary.specs.Positions.{is_at, within}
use Rattle.cap_session.specs.Session.{StandWithin}

-- the lines of findings, each with these bytes before it
abbrev lines_about : List ℕ → List Step → List Found → List ℕ
lines_about before shared = flat_map (λ one. before ++ report_line shared one)

-- the text of one finding more
pub text_more : (before : List ℕ) (shared : List Step) (all : List Found) (i : ℕ) (x : Found) (s : Step)
    (start text mid more : List ℕ) → text ≡ start ++ lines_about before shared (take i all) → i < length all
    → x ≡ get_or all i x → slice_get shared (x.at - 1) ≡ Some s → mid ≡ text ++ before
    → more ≡ mid ++ finding_line s.line x → more ≡ start ++ lines_about before shared (take (i + 1) all)
text_more before shared all i x s start text mid more so lt at stands begun put =
    let line : List Found → List ℕ = lines_about before shared in
    let next : take (i + 1) all ≡ take i all ++ x ∷ [] =
    take_more all i x lt ∙ ap (λ (y : Found). take i all ++ y ∷ []) (sym at) in
    let here : before ++ report_line shared x ≡ before ++ finding_line s.line x =
    ap (λ l. before ++ line_about l x) stands in
    let one : line (x ∷ []) ≡ before ++ finding_line s.line x = append-nil (before ++ report_line shared x) ∙ here in
    put ∙ ap (λ (l : List ℕ). l ++ finding_line s.line x) begun ∙ append_assoc text before (finding_line s.line x)
    ∙ ap (λ (l : List ℕ). l ++ (before ++ finding_line s.line x)) so
    ∙ append_assoc start (line (take i all)) (before ++ finding_line s.line x)
    ∙ ap (λ (l : List ℕ). start ++ (line (take i all) ++ l)) (sym one)
    ∙ ap (λ (l : List ℕ). start ++ l)
    (sym (flat_map-append (λ one. before ++ report_line shared one) (take i all) (x ∷ [])) ∙ ap line (sym next))

-- findings stand at positions of the trace, and so do those of a range
pub stand_within : (s : State) (shared : List Step) → StandWithin (length shared) (check s shared)
stand_within s shared = positions_within s shared

pub some_stand_within : (s : State) (shared : List Step) (first last : ℕ)
    → StandWithin (length shared) (within first last (check s shared))
some_stand_within s shared first last =
    All-filter (is_at first last) (λ (one : Found). (1 ≤ one.at) × (one.at ≤ length shared)) (check s shared)
    (stand_within s shared)

-- whether there is none
pub none_found : (b : Bool) (all : List Found) → b ≡ has_any all → IsTrue (not b) ↔ (all ≡ [])
none_found true [] is = absurd (cc)
none_found true (x ∷ all) is = ((λ no. absurd (cc)), (λ none. absurd (cc)))
none_found false [] is = ((λ yes. refl), (λ none. refl))
none_found false (x ∷ all) is = absurd (cc)
