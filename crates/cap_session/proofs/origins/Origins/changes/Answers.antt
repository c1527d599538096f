use Rattle.std.proofs.Common.{◌≡◌, ◌∙◌, ap, subst, sym, List}
use Rattle.std.specs.Prelude.{IfOk}
use Rattle.cap_session.specs.Changes.{Line, went_from, came_to, kept_lines}
use Rattle.cap_session.specs.Code.Walked.{lines_of}
use Rattle.cap_session.proofs.KeptHits.{kept_lines_of}
use Rattle.cap_session.proofs.origins.Origins.changes.Goals as goal

-- the lines that stood are those of the runs
lines_are : (c : goal.After-changes_of) → lines_of c.deref.result.now ≡ kept_lines 1 c.args.self.now
lines_are c = ap lines_of c.deref.ensures.value
    ∙ sym (kept_lines_of 0 0 0 c.self.inside.count c.self.inside.runs.items c.self.invariant.order)
    ∙ ap (kept_lines 1) c.self.view_is

pub returns-clause-went : goal.returns-clause-went
returns-clause-went c = subst (λ (lines : List Line). IfOk c.changes_of.result
    (λ changes. changes.went.items ≡ went_from lines c.args.before.now c.args.now.now)) (lines_are c)
    c.changes_of.ensures.went

pub returns-clause-came : goal.returns-clause-came
returns-clause-came c = subst (λ (lines : List Line). IfOk c.changes_of.result
    (λ changes. changes.came.items ≡ came_to lines c.args.before.now c.args.now.now)) (lines_are c)
    c.changes_of.ensures.came
