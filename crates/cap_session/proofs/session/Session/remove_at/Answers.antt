use Rattle.std.proofs.Common.{◌≡◌, ◌∙◌, List, ap, arith, length, subst, sym, remove}
use Rattle.std.specs.Prelude.{IfSome, Option}
use Rattle.std.specs.List.{AllZip}
use Rattle.std.proofs.lemmas.List.{length-map}
use Rattle.cap_machine.specs.declared.step.Step.{Step}
use Rattle.cap_session.specs.Session.{IsLast, SessionState, StoodThere, lines_of}
use Rattle.cap_session.specs.declared.last_report.LastReport.{LastReport}
use Rattle.cap_session.proofs.LastReports.{as_long, last_of, of_edited}
use Rattle.cap_session.proofs.Shared.{is_in, lines_are, steps-remove}
use Rattle.cap_session.proofs.StoodThere.{zip_remove}
use Rattle.cap_session.proofs.session.Session.remove_at.Goals as goal
use Rattle.cap_session.proofs.session.Session.remove_at.Goals.{in-Some, in-None}

pub removed-last-requires : goal.removed-last-requires
removed-last-requires c =
    let old = last_of _ _ _ c.in-Some.last (sym c.in-Some.ensures.value) c.self.invariant.report in
    let lines = length-map c.self.inside.tree (λ (step : Step). step.line) in
    omega (arith, as_long _ _ _ old, lines, ap (λ (s : SessionState). length s.trace) c.self.view_is, c.requires)

pub take_over-requires-clause-in_profile : goal.take_over-requires-clause-in_profile
take_over-requires-clause-in_profile c =
    is_in _ _ _ (c.in_ok-tree.ensures.list
    ∙ steps-remove _ _ _ c.args.at c.self.invariant.in_profile)

pub take_over-requires-clause-last : goal.take_over-requires-clause-last
take_over-requires-clause-last c = elim c.match-take.branch [
  | in-Some w ↦
      let old = last_of _ _ _ w.in-Some.last (sym w.in-Some.ensures.value) c.self.invariant.report in
      subst (λ (o : Option LastReport). IfSome o (IsLast c.self.inside.setting c.in_ok-tree.tree)) (sym w.last-is)
      (of_edited c.self.inside.setting c.self.inside.tree c.in_ok-tree.tree w.in-Some.last
      (λ origins. remove origins c.args.at) w.removed-last.result old
      (subst (λ (l : List Step). AllZip (StoodThere w.in-Some.last.tree) (remove w.in-Some.last.origins c.args.at) l)
      (sym c.in_ok-tree.ensures.list) (zip_remove (StoodThere w.in-Some.last.tree) _ _ c.args.at old.stood))
      w.removed-last.ensures.trace w.removed-last.ensures.found w.removed-last.ensures.origins)
  | in-None w ↦
      subst (λ (o : Option LastReport). IfSome o (IsLast c.self.inside.setting c.in_ok-tree.tree)) (sym w.last-is) tt
]

pub returns-clause-trace : goal.returns-clause-trace
returns-clause-trace c = c.take_over.ensures.trace
    ∙ subst (λ (s : SessionState). lines_of c.in_ok-tree.tree ≡ remove s.trace c.args.at) c.self.view_is
    (lines_are _ _ _ (c.in_ok-tree.ensures.list
    ∙ steps-remove _ _ _ c.args.at c.self.invariant.in_profile))
