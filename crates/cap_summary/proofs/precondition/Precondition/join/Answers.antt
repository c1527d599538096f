use Rattle.cap_summary.specs.{Preconditions.IsPulledBack, Preconditions.IsUnionOf, ◌||◌, ◌≡◌}
use Rattle.cap_summary.proofs.{Pulling.asked_joined, ap, sym, ◌∙◌}
use Rattle.cap_summary.proofs.precondition.Precondition.join.Goals as goal

pub returns : goal.returns
returns c =
    let first = c.args.first.now in
    let own = c.args.self.now in
    let later = c.args.later.now in
    let refused = c.in_ok-refuse_all_after.ensures in
    let flag = rw c.deref.ensures.value at c.is_certain.ensures in
    let back : IsPulledBack first later.asks.items c.in_ok-back.back.items c.in_ok-back.certain =
    rw c.as_slice-theirs.ensures.value at c.in_ok-back.ensures.back in
    let asked : IsUnionOf own.asks.items c.in_ok-back.back.items c.in_ok-asks.asks.items =
    rw (c.as_slice-own.ensures.value, c.as_slice-before.ensures.value) at c.in_ok-asks.ensures in
    let parts : c.if-self.value ≡ (own.certain || later.certain) = elim c.if-self.branch [
      | goal.then-self w ↦ w.value-is ∙ w.if-self.true ∙ ap (λ b. b || later.certain) (sym w.if-self.true)
      | goal.else-self w ↦ w.value-is ∙ ap (λ b. b || later.certain) (sym w.if-self.false)
    ] in
    let known : c.if-later.is_certain ≡ ((own.certain || later.certain) || c.in_ok-back.certain) =
    elim c.if-later.branch [
      | goal.then-later w ↦ w.is_certain-is ∙ w.if-later.true
          ∙ ap (λ b. b || c.in_ok-back.certain) (sym w.if-later.true ∙ parts)
      | goal.else-later w ↦ w.is_certain-is ∙ ap (λ b. b || c.in_ok-back.certain) (sym w.if-later.false ∙ parts)
    ] in
    asked_joined first own later
    (record { certain = c.is_certain.result; asks = c.in_ok-asks.asks; refusals = c.extend_from_slice.new.self })
    c.refuse_all_after.new.self c.deref-2.result.now c.in_ok-back.back.items c.in_ok-back.certain back asked
    (λ is. flag.known (known ∙ is)) (λ is no. flag.always is (known ∙ no))
    (rw (c.in_ok-refusals.ensures.items, c.as_slice.ensures.value) at c.in_ok-extend_from_slice.ensures.items)
    c.deref-2.ensures.value refused.more refused.asks refused.certain flag.fails
