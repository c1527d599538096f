use Rattle.std.proofs.Common.{◌++◌, ◌∙◌, ap, get_or, ℕ}
use Rattle.std.specs.Fmt.{decimal}
use Rattle.std.proofs.lemmas.List.{get_or_default}
use Rattle.cap_trace.proofs.Written.{put_more, put_none}
use Rattle.cap_trace.proofs.write.put_other_fds.Goals as goal

pub loop-other-init : goal.loop-other-init
loop-other-init c = put_none c.args.out.now.items

pub loop-other-preserved : goal.loop-other-preserved
loop-other-preserved c =
    let x : ℕ = get_or c.args.others.now c.loop-other.other-index 0 in
    put_more decimal c.args.others.now c.loop-other.other-index x c.args.out.now.items c.loop-other.out.items
    c.extend_from_slice.new.self.items c.put_number.new.out.items
    c.loop-other-test.true (get_or_default c.args.others.now c.loop-other.other-index 0 x c.loop-other-test.true)
    c.loop-other.invariant c.in_ok-extend_from_slice.ensures.items
    (c.in_ok-put_number.ensures.ok ∙ ap (λ (n : ℕ). c.extend_from_slice.new.self.items ++ decimal n) c.from.ensures)
