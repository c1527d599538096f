use Rattle.std.specs.Prelude.{IfSome, Some, [], refl, ◌++◌, ◌≡◌}
use Rattle.cap_summary.proofs.{ap, append-nil, append_assoc, arith, ranked, subst, sym, take_all, ◌∙◌}
use Rattle.cap_summary.proofs.Pulling.{AgreeAfterwards, kept_more, kept_same, pulled_always, pulled_never, pulled_none}
use Rattle.cap_summary.proofs.Pulling.{pulled_put, pulled_united}
use Rattle.cap_summary.specs.{Effects.cell_in, Names.EffectWithin, Names.IsRowWithin, Names.Names}
use Rattle.cap_summary.specs.{Effects.changed, Equal, Keys.Cells, Keys.cells_of, Sorted.found, State}
use Rattle.cap_summary.specs.Asks.{AgreeOn, AreOneTo, AskWithin, CanHold, IfAsked, holds, passes, pulled_holds}
use Rattle.cap_summary.proofs.precondition.pulled_asks.Goals as goal

pub loop-ask-init : goal.loop-ask-init
loop-ask-init c = record {
  back = pulled_none _ _ (rw (c.in_ok-kept.ensures.items, c.new-moved.ensures.items) refl);
  kept = rw c.in_ok-kept.ensures.items c.requires;
  row = c.row-row.ensures;
}

pub loop-ask-preserved-in_default : goal.loop-ask-preserved-in_default
loop-ask-preserved-in_default c =
    let first = c.args.first.now in
    let ask = c.ask-item.result in
    let so_far = c.loop-ask.invariant in
    let left : (cells : Cells) → cells ask.pid ask.key ≡ changed first cells ask.pid ask.key =
    λ cells. sym (rw c.in_default.is at c.changed_by.ensures.left cells)
    ∙ ap (λ r. cell_in cells r ask.pid ask.key) c.row_of-row.ensures in record {
      back = rw c.in_ok-push.ensures.items (pulled_put first c.args.asks.now c.loop-ask.ask-index ask
          c.loop-ask.kept.items c.loop-ask.moved.items c.loop-ask.certain c.loop-ask-test.true c.ask-item.is so_far.back
          ask (λ can. can) (λ s. ap (passes ask) (left (cells_of s)))
          (λ s r is. rw (left (cells_of s), left (cells_of r)) at is) (λ names effect within. within));
      kept = rw c.in_ok-push.ensures.items
          (kept_more _ _ _ ask c.loop-ask-test.true c.ask-item.is so_far.kept ask refl);
      row = c.row_of-row.ensures;
    }

pub loop-ask-preserved : goal.loop-ask-preserved
loop-ask-preserved c =
    let first = c.args.first.now in
    let ask = c.ask-item.result in
    let asks = c.args.asks.now in
    let i = c.loop-ask.ask-index in
    let kept = c.loop-ask.kept.items in
    let moved = c.loop-ask.moved.items in
    let certain = c.loop-ask.certain in
    let within = c.loop-ask-test.true in
    let is = c.ask-item.is in
    let so_far = c.loop-ask.invariant in
    let row = c.row_of-row.ensures in
    let by : found first.rows ask.pid ≡ Some c.in-Some.by.now = sym row ∙ c.in-Some.ensures.row in
    let pulled = c.through.result in
    let met : (s : State) → pulled_holds (cells_of s) pulled ≡ holds (changed first (cells_of s)) ask = λ s.
    c.through.ensures.holds s ∙ ap (λ r. passes ask (cell_in (cells_of s) r ask.pid ask.key)) (sym by) in
    let agree : (s r : State) → IfAsked (AgreeOn (cells_of s) (cells_of r)) pulled → AgreeAfterwards first ask s r =
    λ s r one. subst (λ row. AreOneTo ask (cell_in (cells_of s) row ask.pid ask.key)
    (cell_in (cells_of r) row ask.pid ask.key)) (sym by) (c.through.ensures.agree s r one) in
    let named : (names : Names) → EffectWithin names first → AskWithin names ask
    → IfAsked (AskWithin names) pulled = λ names effect.
    let own : IsRowWithin names ask.pid c.in-Some.by.now =
    subst (λ r. IfSome r (IsRowWithin names ask.pid)) by (effect ask.pid) in
    c.through.ensures.names names own.row in
    elim c.match-through.branch [
      | goal.in-Always w ↦ record {
        back = rw (w.kept-is, w.moved-is, w.certain-is) (pulled_always first asks i ask kept moved certain within is
            so_far.back (λ s. sym (rw w.in-Always.is at (met s))) (λ s r. (rw w.in-Always.is at (agree s r)) tt));
        kept = rw w.kept-is (kept_same asks kept i ask within is so_far.kept);
        row = row;
      }
      | goal.in-Never w ↦ record {
        back = rw (w.kept-is, w.moved-is, w.certain-is) (pulled_never first asks i ask kept moved certain within is
            so_far.back (λ s. sym (rw w.in-Never.is at (met s))) (λ s r. (rw w.in-Never.is at (agree s r)) tt));
        kept = rw w.kept-is (kept_same asks kept i ask within is so_far.kept);
        row = row;
      }
      | goal.in-Where+in-Equal+in_ok-push-in-Equal w ↦
          let may : CanHold w.in-Where.before = rw w.in-Where.is at c.through.ensures.can in record {
            back = rw (w.kept-is, w.moved-is, w.certain-is, w.in_ok-push-in-Equal.ensures.items) (pulled_put first asks i
                ask kept moved certain within is so_far.back w.in-Where.before (λ can. may) (rw w.in-Where.is at met)
                (rw w.in-Where.is at agree) (rw w.in-Where.is at named));
            kept = rw (w.kept-is, w.in_ok-push-in-Equal.ensures.items)
                (kept_more asks kept i ask within is so_far.kept w.in-Where.before
                (ranked _ _ Equal w.in-Equal.ensures.places));
            row = row;
          }
      | goal.in-Where+in_default-order+in_ok-push-in_default-order w ↦
          let may : CanHold w.in-Where.before = rw w.in-Where.is at c.through.ensures.can in record {
            back = rw (w.kept-is, w.moved-is, w.certain-is, w.in_ok-push-in_default-order.ensures.items)
                (rw (append-nil, append_assoc) at (pulled_put first asks i ask (kept ++ moved) [] certain within is
                (rw append-nil so_far.back) w.in-Where.before (λ can. may) (rw w.in-Where.is at met)
                (rw w.in-Where.is at agree) (rw w.in-Where.is at named)));
            kept = rw w.kept-is (kept_same asks kept i ask within is so_far.kept);
            row = row;
          }
    ]

pub returns : goal.returns
returns c = record {
  rises = c.in_ok-asks.ensures.rises;
  back = pulled_united c.args.first.now c.args.asks.now c.loop-ask.kept.items c.loop-ask.moved.items
      c.in_ok-asks.asks.items c.loop-ask.certain
      (rw (take_all c.loop-ask.ask-index c.args.asks.now (omega arith)) at c.loop-ask.invariant.back) c.in_ok-asks.ensures;
}
