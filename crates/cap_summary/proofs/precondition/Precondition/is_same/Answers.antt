use Rattle.std.specs.Prelude.{false, true, ◌≡◌}
use Rattle.cap_summary.proofs.{Equal.beq_true, Equal.same_asks, Equal.same_refusals, sym, ◌∙◌}
use Rattle.cap_summary.proofs.precondition.Precondition.is_same.Goals as goal

pub returns-then-eq : goal.returns-then-eq
returns-then-eq c = λ same.
    let a = c.args.self.now in
    let b = c.args.other.now in elim c.if-self-other.branch [
      | goal.then-self-other w ↦ record {
        certain = beq_true a.certain b.certain w.if-self-other.true;
        asks = same_asks a.asks.items b.asks.items (sym w.eq.ensures ∙ sym w.value-is ∙ c.if-eq.true);
        refusals = same_refusals a.refusals.items b.refusals.items (sym c.eq-then-eq.ensures ∙ same);
      }
      | goal.else-self-other w ↦ absurd (let wrong : false ≡ true = sym w.if-self-other.false ∙ sym w.value-is ∙
          c.if-eq.true in cc)
    ]
