use Rattle.std.proofs.Common.{◌≡◌, List, [], ◌∷◌, ◌++◌, ap, append_assoc, subst, sym, ◌∙◌}
use Rattle.std.specs.Prelude.{IfOk}
use Rattle.std.proofs.lemmas.List.{append-nil, map-append}
use Rattle.cap_trace.specs.Entry.{Entry}
use Rattle.cap_machine.specs.Code.Checked.{HasDenied}
use Rattle.cap_machine.specs.DenialReport.{denial_report}
use Rattle.cap_machine.specs.Steps.{steps}
use Rattle.cap_machine.specs.declared.question.Question.TheVariants.{Denials}
use Rattle.cap_machine.specs.declared.step.Step.{Step}
use Rattle.cap_session.specs.Session.{lines_of}
use Rattle.cap_session.specs.Settings.{state_before}
use Rattle.cap_session.proofs.report.denials_of.Goals as goal

pub loop-step-init : goal.loop-step-init
loop-step-init c =
    let all : c.args.tree.now ≡ c.into_iter-step-iterator.result = cc in
    ([], all, c.for_denials-checker.ensures c.args.setting.now.profile (state_before c.args.setting.now) c.in_ok-from_start.ensures)

pub loop-step-preserved : goal.loop-step-preserved
loop-step-preserved c =
    let s = state_before c.args.setting.now in
    let done = c.loop-step.invariant.0 in
    let step = c.in-Some.step.now in
    let more : c.loop-step.step-iterator ≡ step ∷ c.next.new.self = c.in-Some.ensures.steps in
    let kept : HasDenied c.line.new.self c.args.setting.now.profile s (lines_of done ++ step.line ∷ []) =
    c.in_ok-line.ensures.checked Denials c.args.setting.now.profile s (lines_of done) c.loop-step.invariant.2 in (
      done ++ step ∷ [],
      c.loop-step.invariant.1 ∙ ap (λ (rest : List Step). done ++ rest) more
          ∙ sym (append_assoc done (step ∷ []) c.next.new.self),
      subst (λ (t : List Entry). HasDenied c.line.new.self c.args.setting.now.profile s t)
          (sym (map-append (λ (x : Step). x.line) done (step ∷ []))) kept,
    )

pub returns : goal.returns
returns c =
    let s = state_before c.args.setting.now in
    let done = c.loop-step.invariant.0 in
    let nothing : c.loop-step.step-iterator ≡ [] = c.in-None.ensures.steps.0 in
    let all : c.args.tree.now ≡ done =
    c.loop-step.invariant.1 ∙ ap (λ (rest : List Step). done ++ rest) nothing ∙ append-nil done in
    let same : steps c.args.setting.now.profile (lines_of done) ≡ c.args.tree.now =
    ap (λ (t : List Step). steps c.args.setting.now.profile (lines_of t)) (sym all) ∙ sym c.requires.in_profile in
    subst (λ (t : List Step). IfOk c.report.result (λ text. text.items ≡ denial_report s t)) same
    (c.report.ensures Denials c.args.setting.now.profile s (lines_of done) c.loop-step.invariant.2)
