use Rattle.std.proofs.Common.{arith, sym}
use Rattle.cap_session.proofs.Rising.{first_low, first_begins}
use Rattle.cap_session.proofs.changes.first_behind.Goals as goal

pub overflow_sub-result : goal.overflow_sub-result
overflow_sub-result c =
    let low = first_low _ c.args.found.now c.in-Some.one.now c.requires (sym c.in-Some.ensures.value) in
    omega (arith, low)

pub returns-in-Some-clause-some : goal.returns-in-Some-clause-some
returns-in-Some-clause-some c =
    let low = first_low _ c.args.found.now c.in-Some.one.now c.requires (sym c.in-Some.ensures.value) in
    first_begins _ c.args.found.now c.in-Some.one.now (sym c.in-Some.ensures.value) (omega (arith, low))
