use Rattle.std.proofs.Common.{sym, ◌∙◌, arith}
use Rattle.std.proofs.lemmas.List.{nil_from_length}
use Rattle.cap_trace.proofs.FastPathLines.{given, last, next, needs_after, rights_before}
use Rattle.cap_trace.proofs.fast_path.needs.Goals as goal

pub returns-in-empty : goal.returns-in-empty
returns-in-empty c =
    let read =
    given (λ r. r) c.rights_of.result _ _ c.rights_of.ensures (sym c.ok.ensures.value ∙ c.in_ok-rights.was) in
    needs_after (next c.in_ok-fd.ensures (last (rights_before c.in_ok-part.ensures read)))
    (nil_from_length c.in_ok-part.tail.now (omega (arith, c.in-empty.len_below)))
