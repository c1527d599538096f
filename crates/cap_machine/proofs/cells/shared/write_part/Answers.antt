use Rattle.std.proofs.Common.{rules, ◌≡◌, ◌==◌, ℕ, if◌then◌else◌, ap, ◌∙◌}
use Rattle.std.proofs.Math.Logic.{⊎_elim}
use Rattle.cap_machine.specs.Code.Cells.Deferred.{with_deferred}
use Rattle.cap_machine.specs.declared.cell.Cell.{Cell}
use Rattle.cap_machine.proofs.PartsOf.{still_ok}
use Rattle.cap_machine.proofs.cells.shared.write_part.Goals as goal

pub returns : goal.returns
returns g c =
    let same : (f : ℕ) → g.T.Subtree.cell_at c.in_ok-below.below.now f ≡ g.T.Subtree.cell_at c.args.part.now.value f =
    λ f. ⊎_elim (λ e. ap (λ tree. g.T.Subtree.cell_at tree f) e)
    (λ clone. g.met.T.Subtree.same_in_clone c.args.part.now.value c.in_ok-below.below.now clone f)
    c.in_ok-below.ensures.value in
    let back : (c.make_mut.follows.lender c.write.new.self).value ≡ c.write.new.self = search rules in
    still_ok c.write.result
    (λ wrote f has.
    ap (λ tree. g.T.Subtree.cell_at tree f) back
    ∙ wrote f has
    ∙ ap (λ (was : Cell). if f == c.args.fd then c.args.cell else was)
    (c.apply_to_part.ensures f has ∙ ap (with_deferred c.args.deferred) (same f)))
    c.write.ensures
