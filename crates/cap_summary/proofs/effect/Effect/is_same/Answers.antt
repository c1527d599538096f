use Rattle.cap_summary.proofs.{Equal.same_rows, sym, ◌∙◌}
use Rattle.cap_summary.proofs.effect.Effect.is_same.Goals as goal

pub returns-then-sized : goal.returns-then-sized
returns-then-sized c = λ same. same_rows c.args.self.now.rows c.args.other.now.rows (sym c.eq.ensures ∙ same)
