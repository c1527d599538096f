use Rattle.std.proofs.Common.{◌≡◌, ◌++◌, subst}
use Rattle.cap_trace.specs.Entry.{Entry}
use Rattle.cap_machine.specs.Report.{finding_line}
use Rattle.cap_session.proofs.FoundText.{text_more}
use Rattle.cap_session.proofs.report.put_lines.Goals as goal

pub loop-one-preserved : goal.loop-one-preserved
loop-one-preserved c =
    let x = c.one-item.result in
    let more = subst
    (λ (e : Entry). c.put_finding.new.out.items ≡ c.extend_from_slice.new.self.items ++ finding_line e x) c.view.ensures
    c.in_ok-put_finding.ensures.ok in
    text_more c.args.before.now c.args.tree.now c.args.found.now c.loop-one.one-index x c.get-step.result.now
    c.args.text.now.items c.loop-one.text.items c.extend_from_slice.new.self.items c.put_finding.new.out.items
    c.loop-one.invariant c.loop-one-test.true c.one-item.is c.get-step.ensures c.in_ok-extend_from_slice.ensures.items
    more
