use Rattle.std.specs.Prelude.{true, ◌≡◌}
use Rattle.cap_summary.specs.{Asks.has_any, Kept.IsKept, List, State, Step, check, length, start_state}
use Rattle.cap_summary.proofs.{Judged.some_positions, Resolving.not_within, Runs.same_steps, ap, arith, inl, sym, ◌∙◌}
use Rattle.cap_summary.proofs.node.Node.may_find.Goals as goal

pub returns-then-at-self-clause-none : goal.returns-then-at-self-clause-none
returns-then-at-self-clause-none c = λ none.
    let len : c.self.inside.len ≡ length c.args.self.now.steps =
    c.self.invariant.len ∙ ap (λ (r : List Step). length r) (same_steps c.self.view_is) in
    not_within c.args.asked.now c.args.at (start_state c.args.machine.now) c.args.self.now.steps
    (inl (omega (arith, c.if-at-self.true, len)))

pub returns-in-Some-clause-some : goal.returns-in-Some-clause-some
returns-in-Some-clause-some c = λ met known.
    let s : State = start_state c.args.machine.now in
    let kept : IsKept c.in-Some.known.now c.args.self.now.steps = c.in-Some.ensures.kept in
    let finds : has_any (check s c.args.self.now.steps) ≡ true =
    sym (kept.knows.finds s) ∙ sym (rw c.deref.ensures at c.meets.ensures) ∙ met in
    some_positions (check s c.args.self.now.steps) finds
