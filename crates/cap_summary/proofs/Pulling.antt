-- Asks of a later segment, pulled back through the effect of a first one.
use Rattle.std.specs.Prelude.{Bool, drop, false, get_or, length, refl, take, true, ◌++◌, ◌+◌, ◌<◌, ◌||◌, ◌∷◌, ◌≡◌}
use Rattle.cap_summary.specs.{Asks.AskWithin, Effects.changed, Effects.row_cell, Effects.row_leaves, Names.EffectWithin}
use Rattle.cap_summary.specs.{Asks.AgreeOn, Asks.CanFail, Asks.CanHold, Asks.Rises, Asks.any_holds, Keys.cells_of}
use Rattle.cap_summary.specs.{Names.Names}
use Rattle.cap_summary.specs.{All, Asks.holds, Asks.place, Keys.Cells, List, State, [], list_any, ℕ}
use Rattle.cap_summary.specs.Preconditions.{IfNamed, IsAskedByBoth, IsPulledBack, IsRefusalSaid, IsUnionOf, IsWithMore}
use Rattle.cap_summary.specs.Preconditions.{IsSaid, Possible, Saying, Within, is_met, is_wrongful}
use Rattle.cap_summary.specs.declared.{precondition.Precondition.Precondition, up_to_three.UpToThree.UpToThree}
use Rattle.cap_summary.specs.declared.{ask.Ask.Ask, effect.Effect.Effect, effect.Row.Row, key.Key.Key}
use Rattle.cap_summary.proofs.{All-append, All-head, All-nil, All-push, length-append, list_any-append}
use Rattle.cap_summary.proofs.{ap, arith, or-false, or-true, subst, sym, take_more, ◌∙◌}
use Rattle.cap_summary.proofs.Uniting.{all_left, all_right, drop_here, rises_put, rises_without}

-- ---- a cell that the first segment leaves
pub row_left : (cells : Cells) (p : ℕ) (row : Row) (k : Key) → row_leaves row k ≡ true → row_cell cells p row k ≡ cells p k
row_left cells p row Key.Mode is = grind (arith, is)
row_left cells p row (Key.Fd f) is = grind (arith, is)

-- ---- asks at the places that they had, before those that are left: one more, which is left out, or becomes this one
module _ (asks kept : List Ask) (i : ℕ) (ask : Ask) (within : i < length asks) (is : ask ≡ get_or asks i ask)
    (so_far : Rises (kept ++ drop i asks)) where
  whole : Rises (kept ++ ask ∷ drop (i + 1) asks)
  whole = subst (λ (l : List Ask). Rises (kept ++ l)) (drop_here asks i ask within is) so_far

  pub kept_same : Rises (kept ++ drop (i + 1) asks)
  kept_same = rises_without 0 kept (drop (i + 1) asks) ask whole

  pub kept_more : (before : Ask) → place before ≡ place ask → Rises ((kept ++ before ∷ []) ++ drop (i + 1) asks)
  kept_more before same = rises_put 0 kept (drop (i + 1) asks) ask before same whole

pub pulled_none : (first : Effect) (back : List Ask) → back ≡ [] → IsPulledBack first [] back false
pulled_none first back none = record {
  holds = λ s. rw none refl;
  agree = λ s r all. All-nil (AgreeOn (changed first (cells_of s)) (changed first (cells_of r)));
  each = λ said effect all. rw none all;
  few = rw none (omega arith);
}

-- two states agree on an ask after a segment
abbrev pub AgreeAfterwards : Effect → Ask → State → State → Type 0
AgreeAfterwards first ask s r = AgreeOn (changed first (cells_of s)) (changed first (cells_of r)) ask

module _ (first : Effect) (asks : List Ask) (i : ℕ) (ask : Ask) (front rest : List Ask) (certain : Bool)
    (within : i < length asks) (is : ask ≡ get_or asks i ask)
    (so_far : IsPulledBack first (take i asks) (front ++ rest) certain) where
  one_more : take (i + 1) asks ≡ take i asks ++ ask ∷ []
  one_more = take_more asks i ask within ∙ ap (λ (x : Ask). take i asks ++ x ∷ []) (sym is)

  met_more : (cells : Cells) → any_holds cells (take (i + 1) asks) ≡ (any_holds cells (take i asks) || holds cells ask)
  met_more cells = ap (any_holds cells) one_more ∙ list_any-append (holds cells) (take i asks) (ask ∷ [])
      ∙ ap (λ r. any_holds cells (take i asks) || r) (or-false (holds cells ask))

  counted : length (take (i + 1) asks) ≡ length (take i asks) + 1
  counted = ap (λ (xs : List Ask). length xs) one_more ∙ length-append (take i asks) (ask ∷ [])

  parts : (P : Ask → Type 0) → All P (take (i + 1) asks) → All P (take i asks) × P ask
  parts P all =
      let whole : All P (take i asks ++ ask ∷ []) = subst (All P) one_more all in
      (all_left P (take i asks) (ask ∷ []) whole, All-head P ask [] (all_right P (take i asks) (ask ∷ []) whole))

  with_ask : (P : Ask → Type 0) → All P (take i asks) → P ask → All P (take (i + 1) asks)
  with_ask P all own = rw one_more (All-push P (take i asks) ask all own)

  -- one more, which holds in no state
  pub pulled_never : ((s : State) → holds (changed first (cells_of s)) ask ≡ false)
      → ((s r : State) → AgreeAfterwards first ask s r)
      → IsPulledBack first (take (i + 1) asks) (front ++ rest) certain
  pulled_never never agree = record {
    holds = λ s. rw (met_more (changed first (cells_of s)), never s, ← so_far.holds s) (grind arith);
    agree = λ s r all. with_ask (AgreeOn (changed first (cells_of s)) (changed first (cells_of r)))
        (so_far.agree s r all) (agree s r);
    each = λ said effect all. so_far.each said effect (parts (IsSaid said) all).0;
    few = omega (arith, counted, so_far.few);
  }

  -- one more, which holds in every state
  pub pulled_always : ((s : State) → holds (changed first (cells_of s)) ask ≡ true)
      → ((s r : State) → AgreeAfterwards first ask s r) → IsPulledBack first (take (i + 1) asks) (front ++ rest) true
  pulled_always always agree = record {
    holds = λ s. rw (met_more (changed first (cells_of s)), always s)
        (sym (or-true (any_holds (changed first (cells_of s)) (take i asks))));
    agree = λ s r all. with_ask (AgreeOn (changed first (cells_of s)) (changed first (cells_of r)))
        (so_far.agree s r all) (agree s r);
    each = λ said effect all. so_far.each said effect (parts (IsSaid said) all).0;
    few = omega (arith, counted, so_far.few);
  }

  -- one more, which becomes this one
  module _ (before : Ask) (can : CanHold ask → CanHold before)
      (same : (s : State) → holds (cells_of s) before ≡ holds (changed first (cells_of s)) ask)
      (agree : (s r : State) → AgreeOn (cells_of s) (cells_of r) before → AgreeAfterwards first ask s r)
      (named : (names : Names) → EffectWithin names first → AskWithin names ask → AskWithin names before) where
    turned : (said : Saying) → IfNamed (λ names. EffectWithin names first) said → IsSaid said ask → IsSaid said before
    turned (Within names) effect is = named names effect is
    turned Possible effect is = can is

    pub pulled_put : IsPulledBack first (take (i + 1) asks) ((front ++ before ∷ []) ++ rest) certain
    pulled_put = record {
      holds = λ s. rw (
        met_more (changed first (cells_of s)),
        list_any-append (holds (cells_of s)) (front ++ before ∷ []) rest,
        list_any-append (holds (cells_of s)) front (before ∷ []),
        ← so_far.holds s,
        list_any-append (holds (cells_of s)) front rest,
        ← same s,
      ) (grind arith);
      agree = λ s r all.
          let P : Ask → Type 0 = AgreeOn (cells_of s) (cells_of r) in
          let own = all_left P (front ++ before ∷ []) rest all in
          with_ask (AgreeOn (changed first (cells_of s)) (changed first (cells_of r))) (so_far.agree s r (All-append P
          front rest (all_left P front (before ∷ []) own) (all_right P (front ++ before ∷ []) rest all)))
          (agree s r (All-head P before [] (all_right P front (before ∷ []) own)));
      each = λ said effect all.
          let two = parts (IsSaid said) all in
          let old = so_far.each said effect two.0 in
          All-append (IsSaid said) (front ++ before ∷ []) rest (All-push (IsSaid said) front before
          (all_left (IsSaid said) front rest old) (turned said effect two.1)) (all_right (IsSaid said) front rest old);
      few = omega (arith, counted, so_far.few, length-append {A = Ask});
    }

-- the two lists of what is pulled back become one
pub pulled_united : (first : Effect) (later kept moved united : List Ask) (certain : Bool)
    → IsPulledBack first later (kept ++ moved) certain → IsUnionOf kept moved united
    → IsPulledBack first later united certain
pulled_united first later kept moved united certain back near = record {
  holds = λ s. ap (λ r. certain || r)
      (near.holds (cells_of s) ∙ sym (list_any-append (holds (cells_of s)) kept moved)) ∙ back.holds s;
  agree = λ s r all.
      let two = near.agree (cells_of s) (cells_of r) all in
      back.agree s r (All-append (AgreeOn (cells_of s) (cells_of r)) kept moved two.0 two.1);
  each = λ said effect all.
      let both = back.each said effect all in
      near.each said (all_left (IsSaid said) kept moved both) (all_right (IsSaid said) kept moved both);
  few = omega (arith, near.few, back.few, length-append kept moved);
}

both_met : (all o l c a b w v : Bool) → (((o || l) || c) ≡ true → all ≡ true)
    → (all ≡ true → ((o || l) || c) ≡ false → (a || b) ≡ true)
    → ((all || ((a || b) || w)) || v) ≡ ((o || (a || w)) || (l || ((c || b) || v)))
both_met all o l c a b w v known always = grind (arith, known, always)

-- the first segment's refusals beside the asks of both, and then the refusals of the later one
module _ (first : Effect) (own later before new : Precondition) (refusals : List UpToThree) (back : List Ask)
    (certain : Bool) (pulled : IsPulledBack first later.asks.items back certain)
    (asked : IsUnionOf own.asks.items back before.asks.items)
    (known : ((own.certain || later.certain) || certain) ≡ true → before.certain ≡ true)
    (always : before.certain ≡ true → ((own.certain || later.certain) || certain) ≡ false → (s : State)
    → any_holds (cells_of s) before.asks.items ≡ true)
    (same : before.refusals.items ≡ own.refusals.items) (theirs : refusals ≡ later.refusals.items)
    (with : IsWithMore first (λ cells. list_any (is_wrongful cells) refusals)
    (λ s r. All (λ refusal. is_wrongful s refusal ≡ is_wrongful r refusal) refusals)
    (λ said. All (IsRefusalSaid said) refusals) (length refusals) (length refusals) before new) where
  met_joined : (s : State) → is_met (cells_of s) new
      ≡ (is_met (cells_of s) own || is_met (changed first (cells_of s)) later)
  met_joined s =
      let cells = cells_of s in
      let after = changed first cells in
      with.met s ∙ rw (asked.holds cells, ← pulled.holds s, same, theirs) (both_met before.certain own.certain later.certain
      certain (any_holds cells own.asks.items) (any_holds cells back)
      (list_any (is_wrongful cells) own.refusals.items) (list_any (is_wrongful after) later.refusals.items) known
      (λ is no. sym (asked.holds cells) ∙ always is no s))

  pub asked_joined : new.asks ≡ before.asks → (new.certain ≡ false → before.certain ≡ false)
      → (before.certain ≡ false → All CanFail before.asks.items) → IsAskedByBoth first own later new
  asked_joined asks still fails = record {
    with = record {
      met = met_joined;
      agree = λ s r is.
          let more = with.agree s r is in
          let two = asked.agree (cells_of s) (cells_of r) more.0.asks in (
            record { asks = two.0; refusals = rw same at more.0.refusals },
            record { asks = pulled.agree s r two.1; refusals = rw theirs at more.1 },
          );
      each = λ said effect other mine. with.each said effect (rw theirs other.refusals) (record {
        asks = asked.each said mine.asks (pulled.each said effect other.asks);
        refusals = rw same mine.refusals;
      });
      few = omega (arith, with.few, asked.few, pulled.few, firsts, laters);
      refusals = omega (arith, with.refusals, firsts, laters);
    };
    settled = record {
      rises = rw asks asked.rises;
      fails = λ is. rw asks (fails (still is));
    };
  }
    where
      firsts : length before.refusals.items ≡ length own.refusals.items
      firsts = ap (λ (rs : List UpToThree). length rs) same

      laters : length refusals ≡ length later.refusals.items
      laters = ap (λ (rs : List UpToThree). length rs) theirs
