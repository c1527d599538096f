use Rattle.std.proofs.Common.{◌≤◌, ◌∙◌, List, length, refl, subst, sym}
use Rattle.std.proofs.lemmas.List.Elements.{All-filter}
use Rattle.cap_machine.specs.declared.verdict.Found.{Found}
use Rattle.cap_machine.specs.Steps.{steps}
use Rattle.cap_session.specs.Code.Walked.{Rise}
use Rattle.cap_session.specs.Session.{StandWithin}
use Rattle.cap_session.specs.Settings.{state_before}
use Rattle.cap_session.proofs.CheckRises.{check_rises}
use Rattle.cap_session.proofs.FoundText.{stand_within}
use Rattle.cap_session.proofs.LastReports.{found_there, last_of}
use Rattle.cap_session.proofs.session.Session.changed_to.Goals as goal

pub all_new-requires : goal.all_new-requires
all_new-requires c =
    let here = found_there _ c.args.self.now c.self.inside.tree c.self.view_is c.self.invariant.in_profile refl in
    subst (λ (all : List Found). StandWithin (length c.self.inside.tree) all) (sym (c.requires ∙ sym here))
    (stand_within (state_before c.self.inside.setting) c.self.inside.tree)

pub changes-requires-clause-before : goal.changes-requires-clause-before
changes-requires-clause-before c =
    let last = last_of _ _ _ c.in-Some.last c.in-Some.is c.self.invariant.report in
    subst (Rise 1) (sym (c.as_slice.ensures.value ∙ last.found))
    (check_rises (state_before c.self.inside.setting) c.in-Some.last.tree)

pub changes-requires-clause-now : goal.changes-requires-clause-now
changes-requires-clause-now c =
    let held = c.args.self.now in
    subst (Rise 1) (sym c.requires)
    (check_rises (state_before held.setting) (steps held.setting.profile held.trace))

pub changed-requires-clause-went : goal.changed-requires-clause-went
changed-requires-clause-went c =
    let last = last_of _ _ _ c.in-Some.last c.in-Some.is c.self.invariant.report in
    subst (λ (all : List Found). StandWithin (length c.in-Some.last.tree) all) (sym c.in_ok-changes.ensures.went)
    (All-filter _ (λ (one : Found). (1 ≤ one.at) × (one.at ≤ length c.in-Some.last.tree)) c.as_slice.result.now
    (subst (λ (all : List Found). StandWithin (length c.in-Some.last.tree) all)
    (sym (c.as_slice.ensures.value ∙ last.found))
    (stand_within (state_before c.self.inside.setting) c.in-Some.last.tree)))

pub changed-requires-clause-came : goal.changed-requires-clause-came
changed-requires-clause-came c =
    let here = found_there _ c.args.self.now c.self.inside.tree c.self.view_is c.self.invariant.in_profile refl in
    subst (λ (all : List Found). StandWithin (length c.self.inside.tree) all) (sym c.in_ok-changes.ensures.came)
    (All-filter _ (λ (one : Found). (1 ≤ one.at) × (one.at ≤ length c.self.inside.tree)) c.args.found.now
    (subst (λ (all : List Found). StandWithin (length c.self.inside.tree) all) (sym (c.requires ∙ sym here))
    (stand_within (state_before c.self.inside.setting) c.self.inside.tree)))
