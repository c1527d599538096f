use Rattle.std.proofs.Common.{arith}
use Rattle.cap_session.proofs.Rising.{rise_lower, rise_nothing, rise_first}
use Rattle.cap_session.proofs.changes.first_line.Goals as goal

pub returns-in-Some-Some-clause-then : goal.returns-in-Some-Some-clause-then
returns-in-Some-Some-clause-then c =
    let h = c.min.ensures in
    rise_lower _ _ c.args.then.now (omega arith) (rise_first _ _ _ c.requires.then c.in-Some-Some.ensures.some)

pub returns-in-Some-Some-clause-now : goal.returns-in-Some-Some-clause-now
returns-in-Some-Some-clause-now c =
    let h = c.min.ensures in
    rise_lower _ _ c.args.now.now (omega arith) (rise_first _ _ _ c.requires.now c.in-Some-Some.ensures'.some)

pub returns-in-Some-None-clause-then : goal.returns-in-Some-None-clause-then
returns-in-Some-None-clause-then c = rise_first _ _ _ c.requires.then c.in-Some-None.ensures.some

pub returns-in-Some-None-clause-now : goal.returns-in-Some-None-clause-now
returns-in-Some-None-clause-now c = rise_nothing _ _ c.in-Some-None.ensures'.none

pub returns-in-None-Some-clause-then : goal.returns-in-None-Some-clause-then
returns-in-None-Some-clause-then c =
    let none = rw c.in-None-Some.is-0 at c.first_behind.ensures.none in
    rise_nothing _ _ none

pub returns-in-None-Some-clause-now : goal.returns-in-None-Some-clause-now
returns-in-None-Some-clause-now c = rise_first _ _ _ c.requires.now c.in-None-Some.ensures.some
