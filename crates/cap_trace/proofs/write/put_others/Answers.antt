use Rattle.cap_trace.specs.Code.Writing.{shown_text, with_commas}
use Rattle.cap_trace.proofs.Written.{on_err, front_kept, put_more, put_none}
use Rattle.std.proofs.Common.{◌++◌, ◌∙◌, ap, List, ℕ, append_assoc, ◌∷◌, [], map, take}
use Rattle.cap_trace.proofs.write.put_others.Goals as goal

pub loop-other-init : goal.loop-other-init
loop-other-init c = put_none c.args.out.now.items

pub returns-in_err-put_argument-clause-err : goal.returns-in_err-put_argument-clause-err
returns-in_err-put_argument-clause-err c =
    on_err _ _ (front_kept c.args.out.now.items c.extend_from_slice.new.self.items c.put_argument.new.out.items
    (with_commas (map shown_text (take c.loop-other.other-index c.args.others.now)) ++ 44 ∷ [])
    (c.in_ok-extend_from_slice.ensures.items ∙ ap (λ (s : List ℕ). s ++ 44 ∷ []) c.loop-other.invariant
    ∙ append_assoc c.args.out.now.items _ _)
    c.in_err-put_argument.ensures.err)

pub loop-other-preserved : goal.loop-other-preserved
loop-other-preserved c =
    put_more shown_text c.args.others.now c.loop-other.other-index c.other-item.result c.args.out.now.items
    c.loop-other.out.items c.extend_from_slice.new.self.items c.put_argument.new.out.items
    c.loop-other-test.true c.other-item.is c.loop-other.invariant c.in_ok-extend_from_slice.ensures.items
    c.in_ok-put_argument.ensures.ok
