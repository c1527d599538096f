use Rattle.std.proofs.Common.{refl, sym, ◌∙◌}
use Rattle.cap_trace.proofs.FastPathLines.{given, last, next, call_after, rights_before}
use Rattle.cap_trace.proofs.fast_path.rights_limit.Goals as goal

pub returns : goal.returns
returns c =
    let read =
    given (λ r. r) c.rights_of.result _ _ c.rights_of.ensures (sym c.ok.ensures.value ∙ c.in_ok-rights.was) in
    call_after refl (next c.in_ok-fd.ensures (last (rights_before c.in_ok-part.ensures read))) c.in_ok-answer.ensures
