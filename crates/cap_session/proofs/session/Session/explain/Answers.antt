use Rattle.std.proofs.Common.{rules, ◌≡◌, List, ap, refl, subst, sym, ◌∙◌, true, false, length}
use Rattle.std.specs.Prelude.{◌↔◌, IsTrue, Ok}
use Rattle.cap_machine.specs.declared.step.Step.{Step}
use Rattle.cap_machine.specs.Explain.{explanation}
use Rattle.cap_machine.specs.Steps.{steps}
use Rattle.cap_summary.specs.Stands.{summed_up}
use Rattle.cap_session.specs.Edits.{is_position}
use Rattle.cap_session.specs.Explaining.{IsClean, explained_links}
use Rattle.cap_session.specs.Session.{SessionState, lines_of}
use Rattle.cap_session.specs.Settings.{state_before}
use Rattle.cap_session.proofs.Explains.{fits_line, has_line, has_no_line, is_clean, links_are}
use Rattle.cap_session.proofs.session.Session.explain.Goals as goal

pub line_explained-line-requires : goal.line_explained-line-requires
line_explained-line-requires c =
    let held = c.self.inside in
    let s = state_before held.setting in
    let k = c.args.position in
    let what : summed_up c.summary.result.now ≡ steps held.setting.profile (lines_of held.tree) =
    c.summary.ensures.steps ∙ c.self.invariant.in_profile in
    fits_line s held.setting.profile (lines_of held.tree) k _ c.in-Some.explanation
    (c.in_ok-explanation.ensures ∙ ap (λ (t : List Step). explanation s t k) what) c.in-Some.is

pub returns-clause-clean : goal.returns-clause-clean
returns-clause-clean c =
    let held = c.self.inside in
    let s = state_before held.setting in
    let k = c.args.position in
    let what : summed_up c.summary.result.now ≡ steps held.setting.profile (lines_of held.tree) =
    c.summary.ensures.steps ∙ c.self.invariant.in_profile in
    subst (λ (now : SessionState). IsTrue c.in_ok-line.field-0.is_clean
    ↔ IsClean (state_before now.setting) now.setting.profile now.trace k) c.self.view_is
    (is_clean s held.setting.profile (lines_of held.tree) k _ c.in-Some.explanation _
    (c.in_ok-explanation.ensures ∙ ap (λ (t : List Step). explanation s t k) what) c.in-Some.is
    c.in_ok-line.ensures.clean)

pub returns-clause-links : goal.returns-clause-links
returns-clause-links c =
    let held = c.self.inside in
    let s = state_before held.setting in
    let k = c.args.position in
    let what : summed_up c.summary.result.now ≡ steps held.setting.profile (lines_of held.tree) =
    c.summary.ensures.steps ∙ c.self.invariant.in_profile in
    subst (λ (now : SessionState). explained_links (state_before now.setting) now.setting.profile now.trace k
    ≡ Ok c.in_ok-line.field-0.links) c.self.view_is
    (links_are s held.setting.profile (lines_of held.tree) k _ c.in-Some.explanation _
    (c.in_ok-explanation.ensures ∙ ap (λ (t : List Step). explanation s t k) what) c.in-Some.is
    c.in_ok-line.ensures.links)

pub returns-then-not-is_position-clause-position : goal.returns-then-not-is_position-clause-position
returns-then-not-is_position-clause-position c =
    let k = c.args.position in
    let held = c.args.self.now in
    let no : is_position k (length held.trace) ≡ false =
    sym (c.is_position.ensures ∙ ap (is_position k) c.count.ensures.count) ∙ c.if-not-is_position.true in
    ((λ e. has_no_line (state_before held.setting) held.setting.profile held.trace k no), (λ e. refl))

pub returns-in_err-explanation-clause-position : goal.returns-in_err-explanation-clause-position
returns-in_err-explanation-clause-position c =
    let k = c.args.position in
    let held = c.args.self.now in
    let yes : is_position k (length held.trace) ≡ true =
    sym (c.is_position.ensures ∙ ap (is_position k) c.count.ensures.count) ∙ c.if-not-is_position.false in
    (search rules, (λ e. absurd (has_line (state_before held.setting) held.setting.profile held.trace k yes e)))
