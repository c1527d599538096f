-- What is known of an old whole, of a whole that has another part in place of one.
use Rattle.cap_summary.proofs.{ap, arith, ◌∙◌}
use Rattle.cap_summary.specs.{Effects.cell_in, Keys.cells_of, declared.effect.Effect.Effect, declared.known.Known.Known}
use Rattle.cap_summary.specs.{Effects.changed, Keys.Cells, Similarity, Sorted.found, part_at, refl, true, ℕ, ◌||◌, ◌≡◌}
use Rattle.cap_summary.specs.Composing.{AreAlike, IsComposedSo, IsJoined, IsJoinedEffect}
use Rattle.cap_summary.specs.declared.precondition.Precondition.{Precondition}
use Rattle.cap_tree.specs.declared.similarity.Side.{Side}
use Rattle.cap_summary.specs.Preconditions.{AgreeIn, AllSaid, IsAskedByBoth, IsSamePrecondition, Saying, is_met}

same_cells : (a b : Effect) → a.rows ≡ b.rows → (cells : Cells) → changed a cells ≡ changed b cells
same_cells a b same cells = ap (λ rows. λ p k. cell_in cells (found rows p) p k) same

-- the same effect in the first place, and in the second
first_effect : (was first later old : Effect) → was.rows ≡ first.rows → IsJoinedEffect was later old
    → IsJoinedEffect first later old
first_effect was first later old same joined = record {
  rows = λ p. record {
    cells = λ cells k. (joined.rows p).cells cells k
        ∙ ap (λ (c : Cells). changed later c p k) (same_cells was first same cells);
    leaves = rw same at (joined.rows p).leaves;
    names = λ names of read. rw same at ((joined.rows p).names names of (rw same read));
  };
}

second_effect : (first was later old : Effect) → was.rows ≡ later.rows → IsJoinedEffect first was old
    → IsJoinedEffect first later old
second_effect first was later old same joined = record { rows = λ p. rw same at (joined.rows p) }

same_met : (a b : Precondition) → IsSamePrecondition a b → (cells : Cells) → is_met cells a ≡ is_met cells b
same_met a b same cells = rw (same.certain, same.asks, same.refusals) refl

agree_back : (a b : Precondition) → IsSamePrecondition a b → (s r : Cells) → AgreeIn s r a → AgreeIn s r b
agree_back a b same s r is = record { asks = rw same.asks at is.asks; refusals = rw same.refusals at is.refusals }

said_back : (a b : Precondition) → IsSamePrecondition a b → (said : Saying) → AllSaid said b → AllSaid said a
said_back a b same said is = record { asks = rw same.asks is.asks; refusals = rw same.refusals is.refusals }

-- the same asks in the first place, with the same effect, and in the second
first_asks : (was first : Effect) (own new later old : Precondition) → was.rows ≡ first.rows
    → IsSamePrecondition own new → IsAskedByBoth was own later old → IsAskedByBoth first new later old
first_asks was first own new later old effect same asked = record {
  with = record {
    met = λ s. asked.with.met s
        ∙ ap (λ r. r || is_met (changed was (cells_of s)) later) (same_met own new same (cells_of s))
        ∙ ap (λ (c : Cells). is_met (cells_of s) new || is_met c later) (same_cells was first effect (cells_of s));
    agree = λ s r is.
        let two = asked.with.agree s r is in (
          agree_back own new same (cells_of s) (cells_of r) two.0,
          rw (same_cells was first effect (cells_of s), same_cells was first effect (cells_of r)) at two.1,
        );
    each = λ said one other mine. asked.with.each said (rw effect one) other (said_back own new same said mine);
    few = rw (same.asks, same.refusals) at asked.with.few;
    refusals = rw same.refusals at asked.with.refusals;
  };
  settled = asked.settled;
}

second_asks : (first : Effect) (own was later old : Precondition) → IsSamePrecondition was later
    → IsAskedByBoth first own was old → IsAskedByBoth first own later old
second_asks first own was later old same asked = record {
  with = record {
    met = λ s. asked.with.met s
        ∙ ap (λ r. is_met (cells_of s) own || r) (same_met was later same (changed first (cells_of s)));
    agree = λ s r is.
        let two = asked.with.agree s r is in
        (two.0, agree_back was later same (changed first (cells_of s)) (changed first (cells_of r)) two.1);
    each = λ said one other mine. asked.with.each said one (said_back was later same said other) mine;
    few = rw (same.asks, same.refusals) at asked.with.few;
    refusals = rw same.refusals at asked.with.refusals;
  };
  settled = asked.settled;
}

-- what is seen of the part on a side is that of the two that is on this side
pub part_seen : {X Y : Type 0} (see : X → Y) (side : Side) (a b : X) → see (part_at side a b) ≡ part_at side (see a) (see b)
part_seen see side a b = grind arith

-- the effect of the old whole is that of the new one
pub rejoined_effect : (side : Side) (first second was old : Known) (kept : Similarity)
    → IsJoined (part_at side was first) (part_at side second was) old
    → AreAlike kept was (part_at side first second) → kept.effect ≡ true
    → IsJoinedEffect first.effect.value second.effect.value old.effect.value
rejoined_effect Side.Left first second was old kept joined alike is = first_effect was.effect.value first.effect.value
    second.effect.value old.effect.value (alike.effect is) joined.effect
rejoined_effect Side.Right first second was old kept joined alike is = second_effect first.effect.value was.effect.value
    second.effect.value old.effect.value (alike.effect is) joined.effect

-- and what it asks is
pub rejoined_asks : (side : Side) (first second was old : Known) (kept : Similarity)
    → IsJoined (part_at side was first) (part_at side second was) old
    → AreAlike kept was (part_at side first second) → (side ≡ Side.Left → kept.precondition ≡ true → kept.effect ≡ true)
    → kept.precondition ≡ true
    → IsAskedByBoth first.effect.value first.precondition.value second.precondition.value old.precondition.value
rejoined_asks Side.Left first second was old kept joined alike effect is = first_asks was.effect.value
    first.effect.value was.precondition.value first.precondition.value second.precondition.value old.precondition.value
    (alike.effect (effect refl is)) (alike.precondition is) joined.precondition
rejoined_asks Side.Right first second was old kept joined alike effect is = second_asks first.effect.value
    first.precondition.value was.precondition.value second.precondition.value old.precondition.value
    (alike.precondition is) joined.precondition

-- how the old whole's rows were made
pub old_effect : (side : Side) (first second was old : Known)
    → IsJoined (part_at side was first) (part_at side second was) old → (p : ℕ)
    → IsComposedSo (part_at side was.effect.value first.effect.value) p
    (part_at side (found second.effect.value.rows p) (found was.effect.value.rows p)) (found old.effect.value.rows p)
old_effect Side.Left first second was old joined = joined.effect.rows
old_effect Side.Right first second was old joined = joined.effect.rows
