use Rattle.cap_summary.proofs.{Meeting.next_more, Meeting.read_all, ◌∙◌}
use Rattle.cap_summary.proofs.{arith, take_all}
use Rattle.cap_summary.specs.{All, length, ◌≡◌, Asks.AreWithin, Asks.asks_of, declared.up_to_three.UpToThree.UpToThree}
use Rattle.cap_summary.specs.Preconditions.{IfNamed, IsRefusalSaid, Possible, Saying, Within, is_wrongful}
use Rattle.cap_summary.proofs.precondition.Precondition.refuse_all_after.Goals as goal

named : (refusal : UpToThree) (said : Saying) → IsRefusalSaid said refusal
    → IfNamed (λ names. AreWithin names (asks_of refusal)) said
named refusal (Within names) is = is
named refusal Possible is = tt

pub loop-refusal-preserved : goal.loop-refusal-preserved
loop-refusal-preserved c =
    let one = c.refusal-item.result in
    let refusals = c.args.refusals.now in record {
      more = next_more c.args.first.now is_wrongful (λ s r refusal. is_wrongful s refusal ≡ is_wrongful r refusal) refusals c.loop-refusal.refusal-index one
          (λ said. All (IsRefusalSaid said) refusals) (IfNamed (λ names. AreWithin names (asks_of one)))
          _ _ 1 1 _ _ _ c.loop-refusal-test.true c.refusal-item.is (λ said all. named one said (read_all
          (IsRefusalSaid said) _ _ _ c.loop-refusal-test.true c.refusal-item.is all)) c.loop-refusal.invariant.more
          c.in_ok-refuse_after.ensures.more;
      asks = c.refuse_after.ensures.asks ∙ c.loop-refusal.invariant.asks;
      certain = λ is. c.loop-refusal.invariant.certain (c.refuse_after.ensures.certain is);
    }

pub returns-clause-more : goal.returns-clause-more
returns-clause-more c =
    let refusals = c.args.refusals.now in
    let all : c.loop-refusal.refusal-index ≡ length refusals = omega arith in
    rw (take_all (length refusals) refusals (omega arith)) at (rw all at c.loop-refusal.invariant.more)
