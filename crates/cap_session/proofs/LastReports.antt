-- The report that is kept: of a trace now, and behind an edit of it.
use Rattle.std.proofs.Common.{◌≡◌, ℕ, ◌≤◌, List, length, refl, sym, ap, ◌∙◌, arith, subst, inl, inr, true}
use Rattle.std.specs.Prelude.{Option, None, Some, IfSome, nat_le, ◌==◌, ◌↔◌, IsTrue, Bool, false}
use Rattle.std.specs.List.{AllZip}
use Rattle.std.proofs.lemmas.Bool.{le-leb, ne_eqb}
use Rattle.cap_session.specs.declared.session.Setting.{Setting}
use Rattle.cap_machine.specs.declared.step.Step.{Step}
use Rattle.cap_machine.specs.declared.verdict.Found.{Found}
use Rattle.cap_machine.specs.Check.{check}
use Rattle.cap_session.specs.Limits.{most_lines}
use Rattle.cap_session.specs.Origins.{IsKeptAs, most_runs, moved, runs_in, unmoved}
use Rattle.cap_machine.specs.Steps.{steps}
use Rattle.cap_session.specs.Session.{IsIn, IsLast, SessionState, StoodThere, base_kept, lines_of}
use Rattle.cap_session.specs.Settings.{found_by, state_before}
use Rattle.cap_session.specs.declared.last_report.LastReport.{LastReport}
use Rattle.cap_session.proofs.StoodThere.{all_stand, all_stood, zip_long}
use Rattle.std.proofs.Common.{[], ◌∷◌}

-- what is found in the steps of a session
pub found_there : (held now : SessionState) (shared : List Step) → held ≡ now → IsIn held.setting.profile shared
    → held.trace ≡ lines_of shared → check (state_before held.setting) shared ≡ found_by now.setting now.trace
found_there held now shared same is_in lines =
    subst (λ (s : SessionState). check (state_before held.setting) shared ≡ found_by s.setting s.trace) same
    (ap (check (state_before held.setting)) (is_in ∙ ap (steps held.setting.profile) (sym lines)))

-- the report that a session keeps
pub last_of : (p : Setting) (now : List Step) (kept : Option LastReport) (last : LastReport) → kept ≡ Some last
    → IfSome kept (IsLast p now) → IsLast p now last
last_of p now kept last is all = subst (λ (o : Option LastReport). IfSome o (IsLast p now)) is all

-- it has an origin for each line of today
pub as_long : (p : Setting) (now : List Step) (last : LastReport) → IsLast p now last
    → length last.origins ≡ length now
as_long p now last is = zip_long (StoodThere last.tree) last.origins now is.stood

-- where all lines stand where they stood, it tells what is found now
pub stands : (p : Setting) (now : List Step) (last : LastReport) → IsLast p now last
    → last.origins ≡ unmoved (length last.tree) → last.found.items ≡ check (state_before p) now
stands p now last is unmoved_all = is.found
    ∙ ap (check (state_before p)) (sym (all_stood last.tree now
    (subst (λ (l : List (Option ℕ)). AllZip (StoodThere last.tree) l now) unmoved_all is.stood)))

-- and whether there is nothing
pub none_is : (found all : List Found) (n : ℕ) (b : Bool) → b ≡ (n == 0) → n ≡ length found → found ≡ all
    → IsTrue b ↔ (all ≡ [])
none_is [] all n b is long same = rw (is, long, ← same) ((λ yes. refl), (λ none. refl))
none_is (x ∷ found) all n b is long same =
    let no : b ≡ false = is ∙ ne_eqb n 0 (λ zero_is. omega (arith, zero_is, long)) in
    rw (no, ← same) ((λ yes. absurd (cc)), (λ none. absurd (cc)))

-- what was found in a trace now
pub of_now : (p : Setting) (shared : List Step) (found : List Found) (r : Option LastReport) → IsIn p.profile shared
    → length shared ≤ most_lines → found ≡ check (state_before p) shared → IfSome r (λ last. last.tree ≡ shared)
    → IfSome r (λ last. last.found.items ≡ found) → IfSome r (λ last. last.origins ≡ unmoved (length shared))
    → IfSome r (IsLast p shared)
of_now p shared found None is_in few is trace found_is origins = tt
of_now p shared found (Some last) is_in few is trace found_is origins = record {
  in_profile = subst (IsIn p.profile) (sym trace) is_in;
  few = omega (arith, ap length trace, few);
  found = found_is ∙ is ∙ ap (check (state_before p)) (sym trace);
  stood = rw (trace, origins) (all_stand shared);
}

-- behind an edit
pub of_edited : (p : Setting) (now next : List Step) (old : LastReport) (edit : List (Option ℕ) → List (Option ℕ))
    (r : Option LastReport) → IsLast p now old → AllZip (StoodThere old.tree) (edit old.origins) next
    → IfSome r (λ last. last.tree ≡ old.tree) → IfSome r (λ last. last.found.items ≡ old.found.items)
    → IfSome r (λ last. last.origins ≡ edit old.origins) → IfSome r (IsLast p next)
of_edited p now next old edit None is zip trace found origins = tt
of_edited p now next old edit (Some last) is zip trace found origins = record {
  in_profile = subst (IsIn p.profile) (sym trace) is.in_profile;
  few = omega (arith, ap length trace, is.few);
  found = found ∙ is.found ∙ ap (check (state_before p)) (sym trace);
  stood = rw (trace, origins) zip;
}

-- what callers see
pub kept_as : (old : LastReport) (edit : List (Option ℕ) → List (Option ℕ)) (r : Option LastReport)
    → IfSome r (λ last. last.tree ≡ old.tree) → IfSome r (λ last. last.origins ≡ edit old.origins)
    → IfSome r (λ last. runs_in last.origins ≤ most_runs)
    → IsKeptAs (moved edit (base_kept (Some old))) (base_kept r)
kept_as old edit None trace origins few = inr refl
kept_as old edit (Some last) trace origins few =
    let within : nat_le (runs_in (edit old.origins)) most_runs ≡ true =
    le-leb (runs_in (edit old.origins)) most_runs (omega (arith, few, ap runs_in origins)) in
    inl (rw (within, trace, origins) refl)
