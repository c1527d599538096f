use Rattle.cap_summary.specs.{Preconditions.is_wrongful, declared.up_to_three.UpToThree.UpToThree, ◌≡◌}
use Rattle.cap_summary.proofs.{All-push, take_all, take_more}
use Rattle.cap_summary.proofs.difference.Differences.refuse_all_alike.Goals as goal

pub loop-refusal-preserved : goal.loop-refusal-preserved
loop-refusal-preserved c =
    let one = c.refusal-item.result in record {
      alike = λ old new differ. rw (
        take_more c.args.refusals.now c.loop-refusal.refusal-index one
            c.loop-refusal-test.true,
        ← c.refusal-item.is,
      ) (All-push
          (λ (refusal : UpToThree). is_wrongful old refusal ≡ is_wrongful new refusal) _ one
          (c.loop-refusal.invariant.alike old new differ)
          (c.refuse_alike.ensures c.if-not-refuse_alike.false old new differ));
    }

pub returns : goal.returns
returns c = λ is old new differ. rw (take_all c.loop-refusal.refusal-index c.args.refusals.now c.loop-refusal-test.false)
    at (c.loop-refusal.invariant.alike old new differ)
