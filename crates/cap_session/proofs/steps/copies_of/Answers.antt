use Rattle.std.proofs.Common.{◌≡◌, List, [], ◌∷◌, ◌++◌, ap, append_assoc, sym, ◌∙◌}
use Rattle.std.proofs.lemmas.List.{map-append}
use Rattle.cap_trace.specs.Entry.{Entry}
use Rattle.cap_machine.specs.declared.step.Step.{Step}
use Rattle.cap_session.specs.Session.{lines_of}
use Rattle.cap_session.proofs.steps.copies_of.Goals as goal

pub loop-step-preserved : goal.loop-step-preserved
loop-step-preserved c =
    let done = c.loop-step.invariant.0 in
    let step = c.in-Some.step.now in
    let more : c.loop-step.step-iterator ≡ step ∷ c.next.new.self = c.in-Some.ensures.steps in (
      done ++ step ∷ [],
      c.loop-step.invariant.1 ∙ ap (λ (rest : List Step). done ++ rest) more
          ∙ sym (append_assoc done (step ∷ []) c.next.new.self),
      c.in_ok-push.ensures.items
          ∙ ap (λ (lines : List Entry). lines ++ c.in_ok-line.line ∷ []) c.loop-step.invariant.2
          ∙ ap (λ (line : Entry). lines_of done ++ line ∷ []) c.in_ok-line.ensures
          ∙ sym (map-append (λ (x : Step). x.line) done (step ∷ [])),
    )
