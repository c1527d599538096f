use Rattle.cap_summary.specs.{Keys.Cells, Preconditions.AgreeIn}
use Rattle.cap_summary.proofs.{Apart.agree_self, Apart.none_differ, arith, eqb-true, subst, sym, ◌∙◌}
use Rattle.std.proofs.lemmas.List.{nil_from_length}
use Rattle.cap_summary.proofs.difference.Differences.agree_in.Goals as goal

pub returns-then-is_empty : goal.returns-then-is_empty
returns-then-is_empty c = λ is old new differ.
    let none = nil_from_length c.args.self.now.cells.items
    (omega (arith, eqb-true _ _ (sym c.is_empty.ensures ∙ c.if-is_empty.true))) in
    subst (λ (cells : Cells). AgreeIn old cells c.args.precondition.now)
    (none_differ c.args.self.now.cells.items old new none differ) (agree_self old c.args.precondition.now)
