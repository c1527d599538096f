use Rattle.cap_summary.proofs.{Apart.applied_same, sym, ◌∙◌}
use Rattle.cap_summary.proofs.difference.Differences.put_value.Goals as goal

pub returns-in-Same : goal.returns-in-Same
returns-in-Same c = λ old new now_old now_new differ was now. c.put_made.ensures old new now_old now_new differ
    ((rw c.in-Same.is at was) ∙ sym (rw c.same.ensures (applied_same (old c.in-Same.source c.in-Same.at))))
    ((rw c.in-Same.is at now) ∙ sym (rw c.same.ensures (applied_same (new c.in-Same.source c.in-Same.at))))

pub returns-in-Of : goal.returns-in-Of
returns-in-Of c = λ old new now_old now_new differ was now. c.put_made-in-Of.ensures old new now_old now_new differ
    (rw c.get.ensures (rw c.in-Of.is at was)) (rw c.get.ensures (rw c.in-Of.is at now))
