use Rattle.std.proofs.Common.{◌∙◌, List, length, refl, subst, sym}
use Rattle.cap_machine.specs.declared.verdict.Found.{Found}
use Rattle.cap_session.specs.Session.{StandWithin}
use Rattle.cap_session.specs.Settings.{state_before}
use Rattle.cap_session.proofs.FoundText.{stand_within}
use Rattle.cap_session.proofs.LastReports.{found_there}
use Rattle.cap_session.proofs.session.Session.report.Goals as goal

pub text_of-requires : goal.text_of-requires
text_of-requires c =
    let here = found_there _ c.args.self.now c.self.inside.tree c.self.view_is c.self.invariant.in_profile refl in
    subst (λ (all : List Found). StandWithin (length c.self.inside.tree) all)
    (sym (c.as_slice.ensures.value ∙ c.in_ok-found.ensures ∙ sym here))
    (stand_within (state_before c.self.inside.setting) c.self.inside.tree)
