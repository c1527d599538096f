use Rattle.cap_trace.proofs.Written.{err_kept, three_more}
use Rattle.cap_trace.proofs.write.put_text.Goals as goal

pub returns-clause-err : goal.returns-clause-err
returns-clause-err c =
    err_kept c.put_tail.result c.args.out.now.items c.extend_from_slice.new.self.items c.put_tail.new.out.items _
    (three_more c.args.out.now.items _ _ _ _ _ _ c.in_ok-put_head.ensures.ok c.in_ok-put_between.ensures.ok
    c.in_ok-extend_from_slice.ensures.items)
    c.put_tail.ensures.err
