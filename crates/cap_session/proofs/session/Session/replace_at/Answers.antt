use Rattle.std.proofs.Common.{◌≡◌, ◌∙◌, List, ap, arith, length, subst, sym, slice_set}
use Rattle.std.specs.Prelude.{IfSome, None, Option}
use Rattle.std.specs.List.{AllZip}
use Rattle.std.proofs.lemmas.List.{length-map}
use Rattle.cap_machine.specs.declared.step.Step.{Step}
use Rattle.cap_session.specs.Session.{IsLast, SessionState, StoodThere, lines_of}
use Rattle.cap_session.specs.declared.last_report.LastReport.{LastReport}
use Rattle.cap_session.proofs.LastReports.{as_long, last_of, of_edited}
use Rattle.cap_session.proofs.Shared.{is_in, lines_are, steps-set}
use Rattle.cap_session.proofs.StoodThere.{zip_set}
use Rattle.cap_session.proofs.session.Session.replace_at.Goals as goal
use Rattle.cap_session.proofs.session.Session.replace_at.Goals.{in-Some, in-None}

pub replaced-last-requires : goal.replaced-last-requires
replaced-last-requires c =
    let old = last_of _ _ _ c.in-Some.last (sym c.in-Some.ensures.value) c.self.invariant.report in
    let lines = length-map c.self.inside.tree (λ (step : Step). step.line) in
    omega (arith, as_long _ _ _ old, lines, ap (λ (s : SessionState). length s.trace) c.self.view_is, c.requires)

pub take_over-requires-clause-in_profile : goal.take_over-requires-clause-in_profile
take_over-requires-clause-in_profile c =
    is_in _ _ _ (c.in_ok-tree.ensures.list
    ∙ steps-set _ _ _ c.args.at _ c.args.line c.self.invariant.in_profile c.in_ok-step.ensures)

pub take_over-requires-clause-last : goal.take_over-requires-clause-last
take_over-requires-clause-last c = elim c.match-take.branch [
  | in-Some w ↦
      let old = last_of _ _ _ w.in-Some.last (sym w.in-Some.ensures.value) c.self.invariant.report in
      subst (λ (o : Option LastReport). IfSome o (IsLast c.self.inside.setting c.in_ok-tree.tree)) (sym w.last-is)
      (of_edited c.self.inside.setting c.self.inside.tree c.in_ok-tree.tree w.in-Some.last
      (λ origins. slice_set origins c.args.at None) w.replaced-last.result old
      (subst (λ (l : List Step). AllZip (StoodThere w.in-Some.last.tree) (slice_set w.in-Some.last.origins c.args.at None) l)
      (sym c.in_ok-tree.ensures.list) (zip_set (StoodThere w.in-Some.last.tree) _ _ c.args.at None _ old.stood tt))
      w.replaced-last.ensures.trace w.replaced-last.ensures.found w.replaced-last.ensures.origins)
  | in-None w ↦
      subst (λ (o : Option LastReport). IfSome o (IsLast c.self.inside.setting c.in_ok-tree.tree)) (sym w.last-is) tt
]

pub returns-clause-trace : goal.returns-clause-trace
returns-clause-trace c = c.take_over.ensures.trace
    ∙ subst (λ (s : SessionState). lines_of c.in_ok-tree.tree ≡ slice_set s.trace c.args.at c.args.line) c.self.view_is
    (lines_are _ _ _ (c.in_ok-tree.ensures.list
    ∙ steps-set _ _ _ c.args.at _ c.args.line c.self.invariant.in_profile c.in_ok-step.ensures))
