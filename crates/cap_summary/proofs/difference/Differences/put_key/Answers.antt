use Rattle.cap_summary.proofs.{Apart.applied_same, Apart.listed_same, sym, ◌∙◌}
use Rattle.cap_summary.proofs.difference.Differences.put_key.Goals as goal

pub returns-in-Is : goal.returns-in-Is
returns-in-Is c = λ old new now_old now_new differ was now. listed_same now_old now_new c.args.pid c.args.key _
    (was c.args.key ∙ sym (rw c.in-Is.is at (c.view.ensures.cells old)) ∙ (rw c.in-Is.is at (c.view.ensures.cells new))
    ∙ sym (now c.args.key))

pub returns-in-Same : goal.returns-in-Same
returns-in-Same c = λ old new now_old now_new differ was now. c.put_made.ensures old new now_old now_new differ
    (was c.args.key ∙ sym (rw c.in-Same.is at (c.view.ensures.cells old))
    ∙ sym (rw c.same.ensures (applied_same (old c.in-Same.source c.in-Same.at))))
    (now c.args.key ∙ sym (rw c.in-Same.is at (c.view.ensures.cells new))
    ∙ sym (rw c.same.ensures (applied_same (new c.in-Same.source c.in-Same.at))))

pub returns-in-Executed : goal.returns-in-Executed
returns-in-Executed c = λ old new now_old now_new differ was now. c.put_made-in-Executed.ensures old new now_old now_new
    differ (was c.args.key ∙ rw c.exec.ensures (sym (rw c.in-Executed.is at (c.view.ensures.cells old))))
    (now c.args.key ∙ rw c.exec.ensures (sym (rw c.in-Executed.is at (c.view.ensures.cells new))))

pub returns-in-Made : goal.returns-in-Made
returns-in-Made c = λ old new now_old now_new differ was now. c.put_made-in-Made.ensures old new now_old now_new differ
    (was c.args.key ∙ rw c.get.ensures (sym (rw c.in-Made.is at (c.view.ensures.cells old))))
    (now c.args.key ∙ rw c.get.ensures (sym (rw c.in-Made.is at (c.view.ensures.cells new))))
