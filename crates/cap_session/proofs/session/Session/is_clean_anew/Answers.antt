use Rattle.std.proofs.Common.{◌∙◌, List, ap, refl}
use Rattle.cap_machine.specs.declared.step.Step.{Step}
use Rattle.cap_machine.specs.Check.{check}
use Rattle.cap_machine.specs.declared.verdict.Found.{Found}
use Rattle.cap_summary.specs.Asks.{has_any}
use Rattle.cap_session.specs.Settings.{state_before}
use Rattle.cap_session.proofs.FoundText.{none_found}
use Rattle.cap_session.proofs.LastReports.{found_there}
use Rattle.cap_session.proofs.session.Session.is_clean_anew.Goals as goal

pub returns-in-Some-clause-clean : goal.returns-in-Some-clause-clean
returns-in-Some-clause-clean c =
    let s = state_before c.self.inside.setting in
    let here = found_there _ c.args.self.now c.self.inside.tree c.self.view_is c.self.invariant.in_profile refl in
    none_found c.finds.result _ (c.finds.ensures ∙ c.in-Some.ensures.kept.knows.finds _
    ∙ ap (λ (t : List Step). has_any (check s t)) c.summary-summary.ensures.steps
    ∙ ap (λ (found : List Found). has_any found) here)
