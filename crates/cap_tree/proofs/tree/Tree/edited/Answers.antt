use Rattle.std.proofs.Common.{arith}
use Rattle.cap_tree.proofs.Digits.{joins_le_bound}
use Rattle.cap_tree.proofs.tree.Tree.edited.Goals as goal

pub returns-in_err-edited-clause-joins : goal.returns-in_err-edited-clause-joins
returns-in_err-edited-clause-joins g c = λ n more.
    let wide = rw c.deref.ensures at c.height-height.ensures.wide in
    let all = rw (← rw c.in-Full.is at c.self.view_is) at more in
    joins_le_bound _ _ _ _ n (omega arith) all c.edited.ensures.joins

pub returns-in-None-clause-joins : goal.returns-in-None-clause-joins
returns-in-None-clause-joins g c = λ n more.
    let wide = rw c.deref.ensures at c.height-height.ensures.wide in
    let all = rw (← rw c.in-Full.is at c.self.view_is) at more in
    joins_le_bound _ _ _ _ n (omega arith) all c.edited.ensures.joins

pub returns-in-Some-clause-joins : goal.returns-in-Some-clause-joins
returns-in-Some-clause-joins g c = λ n more.
    let wide = rw c.deref.ensures at c.height-height.ensures.wide in
    let all = rw (← rw c.in-Full.is at c.self.view_is) at more in
    joins_le_bound _ _ _ _ n (omega arith) all c.edited.ensures.joins
