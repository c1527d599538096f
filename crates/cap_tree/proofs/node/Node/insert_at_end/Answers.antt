use Rattle.std.proofs.Common.{◌≡◌, ◌≤◌, ◌+◌, max, arith}
use Rattle.std.proofs.lemmas.Result.{IfOk-weaker}
use Rattle.cap_tree.proofs.node.Node.insert_at_end.Goals as goal

pub returns-clause-items : goal.returns-clause-items
returns-clause-items g c =
    rw (c.in_ok-new.ensures.items, c.in_ok-single.ensures.item, c.in_ok-old.ensures.cases) at c.united.ensures.items

pub returns-clause-height : goal.returns-clause-height
returns-clause-height g c =
    let new = c.in_ok-new.ensures.height in
    let old : c.in_ok-old.old.value.1 ≡ 0 = rw c.in_ok-old.ensures.cases c.requires.leaf in
    IfOk-weaker c.united.result
    (λ n. n.value.1 ≤ max c.in_ok-new.new.value.1 c.in_ok-old.old.value.1 + 1) (λ n. n.value.1 ≤ 1)
    (λ n e. omega arith) c.united.ensures.not_higher

pub leaf-requires-clause-room : goal.leaf-requires-clause-room
leaf-requires-clause-room g c = omega (arith, c.in_ok-single.ensures.one)

pub united-requires-clause-room : goal.united-requires-clause-room
united-requires-clause-room g c = omega (arith, c.in_ok-single.ensures.one)

pub returns-clause-not_less : goal.returns-clause-not_less
returns-clause-not_less g c = omega arith

pub returns-clause-joins : goal.returns-clause-joins
returns-clause-joins g c = omega (arith, c.in_ok-single.ensures.one)
