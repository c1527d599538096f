use Rattle.std.proofs.Common.{decimal}
use Rattle.std.specs.List.{join_with_byte}
use Rattle.cap_trace.specs.Entry.{head_of}
use Rattle.cap_trace.specs.Names.{name_of}
use Rattle.cap_machine.specs.Report.{finding_words}
use Rattle.cap_machine.proofs.Wording.{written, join_words, front_kept, on_err}
use Rattle.cap_machine.proofs.report.put_all.Goals as goal

pub returns-clause-ok : goal.returns-clause-ok
returns-clause-ok c =
    let line = c.args.line.now in
    written c.args.out.now.items c.put_front.new.out.items c.put_finding_words.new.out.items c.extend_from_slice.new.self.items
    (decimal c.args.at) (decimal line.pid) (name_of (head_of line.item))
    (join_with_byte 32 (finding_words c.args.finding.now)) (finding_words c.args.finding.now)
    c.in_ok-put_front.ensures.ok c.in_ok-put_finding_words.ensures.ok c.in_ok-extend_from_slice.ensures.items
    (join_words (decimal c.args.at) (decimal line.pid) (name_of (head_of line.item)) c.args.finding.now)

pub returns-in_err-put_finding_words-clause-err : goal.returns-in_err-put_finding_words-clause-err
returns-in_err-put_finding_words-clause-err c =
    on_err c.from_residual-in_err-put_finding_words.result _
    (front_kept _ c.put_front.new.out.items _ _ c.in_ok-put_front.ensures.ok c.in_err-put_finding_words.ensures.err)
