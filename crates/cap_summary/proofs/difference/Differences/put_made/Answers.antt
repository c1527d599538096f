use Rattle.cap_summary.specs.{applied}
use Rattle.cap_summary.proofs.{Apart.listed_one, Apart.listed_same, Apart.listed_there, Equal.same_cell, ap, sym, ◌∙◌}
use Rattle.cap_summary.proofs.difference.Differences.put_made.Goals as goal

pub returns-then-eq : goal.returns-then-eq
returns-then-eq c = λ old new now_old now_new differ is_was is_now.
    let at = c.in-Some.ensures.some old new differ in
    let op = applied c.args.op.now in
    elim c.then-eq.branch [
      | goal.then-eq-via-then-eq w ↦ listed_same now_old now_new c.args.pid c.args.key c.args.put.now.cells.items (is_was
          ∙ ap op at.0 ∙ sym c.on-was.ensures ∙ same_cell c.on-was.result c.on-now.result (sym c.eq.ensures ∙ w.if-eq.true)
          ∙ c.on-now.ensures ∙ ap op (sym at.1) ∙ sym is_now)
      | goal.then-eq-via-else-eq+then-is_some w ↦ listed_there now_old now_new c.args.pid c.args.key
          c.args.put.now.cells.items (sym w.find-else-eq.ensures.there ∙ sym w.is_some.ensures ∙ w.if-is_some.true)
    ]

pub returns : goal.returns
returns c = λ old new now_old now_new differ is_was is_now.
    let at = c.in-Some.ensures.some old new differ in
    let op = applied c.args.op.now in
    rw c.in_ok-push.ensures.items (listed_one now_old now_new _ c.args.put.now.cells.items (record {
      was = is_was ∙ ap op at.0 ∙ sym c.on-was.ensures;
      now = is_now ∙ ap op at.1 ∙ sym c.on-now.ensures;
    }))
