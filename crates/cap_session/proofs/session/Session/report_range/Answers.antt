use Rattle.std.proofs.Common.{◌∙◌, sym, ap, subst, List, length}
use Rattle.cap_machine.specs.Check.{check}
use Rattle.cap_machine.specs.declared.step.Step.{Step}
use Rattle.cap_machine.specs.declared.verdict.Found.{Found}
use Rattle.cap_summary.specs.Positions.{within}
use Rattle.cap_session.specs.Session.{StandWithin}
use Rattle.cap_session.specs.Settings.{state_before}
use Rattle.cap_session.proofs.FoundText.{some_stand_within}
use Rattle.cap_session.proofs.session.Session.report_range.Goals as goal

pub text_of-requires : goal.text_of-requires
text_of-requires c =
    let s = state_before c.self.inside.setting in
    subst (λ (all : List Found). StandWithin (length c.self.inside.tree) all)
    (sym (c.as_slice.ensures.value ∙ c.in_ok-found.ensures
    ∙ ap (λ (t : List Step). within c.args.first c.args.last (check s t)) c.summary.ensures.steps))
    (some_stand_within s c.self.inside.tree c.args.first c.args.last)
