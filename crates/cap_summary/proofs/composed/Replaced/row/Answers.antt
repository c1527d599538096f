use Rattle.cap_summary.specs.{Composing.IsComposedSo, declared.effect.Effect.Effect, declared.effect.Row.Row, Option}
use Rattle.cap_summary.specs.{Composing.IsOldAt, false, option_copied, Some, Sorted.found, true, ◌≡◌}
use Rattle.cap_summary.proofs.{Equal.same_given, IfSome_then, OwnCells.copied, OwnCells.first_replaced, subst, sym, ◌∙◌}
use Rattle.cap_summary.proofs.composed.Replaced.row.Goals as goal

pub returns-then-stands : goal.returns-then-stands
returns-then-stands c =
    let old = c.args.self.now in
    let p = c.args.pid in
    let right = c.args.right.now in
    let whole : Option Row = found old.whole.now.rows p in
    let stands : (first : Effect) → option_copied c.args.left ≡ found first.rows p → IsOldAt old first p (Some right)
    → IsComposedSo first p (Some right) whole = λ first here joined. elim c.match-self.branch [
      | goal.in-Left+then-eq w ↦ first_replaced old.was.now first p right whole
          (sym c.get-was.ensures ∙ same_given c.get-was.result c.args.left (sym w.eq.ensures ∙ w.if-eq.true) ∙ here)
          (rw w.get.ensures at (w.reads_only.ensures (sym w.stands-is ∙ c.if-stands.true))) (rw w.in-Left.is at joined)
      | goal.in-Left+else-eq w ↦ absurd (let wrong : false ≡ true = sym w.if-eq.false ∙ sym w.stands-is
          ∙ c.if-stands.true in cc)
      | goal.in-Right w ↦ subst (λ (r : Option Row). IsComposedSo first p r whole) (sym c.get-was.ensures
          ∙ same_given c.get-was.result (Some c.args.right) (sym w.eq-stands.ensures ∙ sym w.stands-is
          ∙ c.if-stands.true)) (rw w.in-Right.is at joined)
    ] in
    IfSome_then c.get-then-stands.result (copied c.get-then-stands.result whole c.get-then-stands.ensures)
    (λ row is first here joined. subst (IsComposedSo first p (Some right)) is (stands first here joined))
