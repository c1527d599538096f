use Rattle.std.proofs.Common.{◌≡◌, ℕ, ◌+◌, ◌<◌, ◌≤◌, ◌∷◌, [], ◌++◌, List, take, get_or, length, ap, sym, subst}
use Rattle.std.proofs.Common.{◌∙◌, arith, rules}
use Rattle.std.proofs.lemmas.List.{map_more, take_all, length-map, length-take-le}
use Rattle.std.specs.declared.rc.Rc.{Rc}
use Rattle.cap_tree.specs.Run.{values}
use Rattle.cap_tree.proofs.segment.Segment.sum.Goals as goal

-- one more item
more : {X Z : Type 0} (xs : List (Rc X Z)) (i : ℕ) (x : Rc X Z) → i < length xs → x ≡ get_or xs i x
    → values (take (i + 1) xs) ≡ values (take i xs) ++ x.value ∷ []
more {X} {Z} xs i x within at = map_more (λ (item : Rc X Z). item.value) xs i x within
    ∙ ap (λ (y : Rc X Z). values (take i xs) ++ y.value ∷ []) (sym at)

one_stands : {X Z : Type 0} (P : List X → Type 0) (xs : List (Rc X Z)) (x : Rc X Z) → x ≡ get_or xs 0 x
    → P (x.value ∷ []) → 0 < length xs → P (values (take 1 xs))
one_stands P xs x at stands within = subst P (sym (more xs 0 x within at)) stands

so_many : {X Z : Type 0} (xs : List (Rc X Z)) (i : ℕ) → i ≤ length xs → length (values (take i xs)) ≡ i
so_many {X} {Z} xs i within = length-map (take i xs) (λ (item : Rc X Z). item.value) ∙ length-take-le i xs within

pub loop-at-init : goal.loop-at-init
loop-at-init g c =
    let within : 0 < length c.args.items.now = omega arith in
    record {
      stands = search (rules, one_stands (g.Self.Segment.stands c.in_ok-sum.sum) c.args.items.now);
      counted = omega arith;
    }

pub join-requires-clause-few : goal.join-requires-clause-few
join-requires-clause-few g c =
    let within : c.loop-at.at ≤ length c.args.items.now = omega arith in
    let first = g.met.Self.Segment.sized c.loop-at.sum (values (take c.loop-at.at c.args.items.now)) c.loop-at.invariant.stands in
    let second = g.met.Self.Segment.sized c.in_ok-next.next (c.index-items-at.result.value ∷ []) c.in_ok-next.ensures in
    let many = so_many c.args.items.now c.loop-at.at within in
    omega (arith, first, second, many)

pub loop-at-preserved : goal.loop-at-preserved
loop-at-preserved g c =
    let within : c.loop-at.at < length c.args.items.now = omega arith in
    let longer = more c.args.items.now c.loop-at.at c.index-items-at.result within c.index-items-at.is in
    record { stands = rw longer (search rules); counted = search rules }

pub returns-clause-stands : goal.returns-clause-stands
returns-clause-stands g c =
    let all = take_all c.loop-at.at c.args.items.now (omega arith) in
    subst (λ xs. g.Self.Segment.stands c.loop-at.sum (values xs)) all c.loop-at.invariant.stands
