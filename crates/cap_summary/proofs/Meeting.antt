-- Where something is found.
use Rattle.std.specs.Prelude.{Bool, List, false, get_or, length, refl, take, true, ◌++◌, ◌+◌, ◌<◌, ◌==◌, ◌∷◌, ◌≡◌, ◌≤◌}
use Rattle.cap_summary.specs.{declared.precondition.Precondition.Precondition, declared.up_to_three.UpToThree.UpToThree}
use Rattle.cap_summary.specs.{Effects.changed, Names.EffectWithin, declared.ask.Ask.Ask, declared.effect.Effect.Effect}
use Rattle.cap_summary.specs.{All, Global, Keys.Cells, Keys.cells_of, Names.Names, State, Vec, [], list_any, not, ℕ}
use Rattle.cap_summary.specs.Preconditions.{IfNamed, IsPulledBack, IsRefusalSaid, IsSaid, IsWithMore, Possible, is_wrongful}
use Rattle.cap_summary.specs.Preconditions.{Saying, Within, is_met}
use Rattle.cap_summary.specs.Asks.{AgreeOn, AreWithin, AskWithin, CanHold, IsOpen, any_holds, asks_of, holds}
use Rattle.cap_summary.proofs.{All-cons, All-head, All-nil, All-push, All-tail, Uniting.all_left, Uniting.all_right}
use Rattle.cap_summary.proofs.{ap, arith, length-append, list_any-append, list_any_more, nat_tests, or-false, or-true}
use Rattle.cap_summary.proofs.{or_parts, subst, sym, take_more, ◌∙◌}

-- one of some asks holds in some state, where there are any and it depends on the state
one_somewhere : (asks : List Ask) → All CanHold asks → (length asks == 0) ≡ false
    → (s : State) × (any_holds (cells_of s) asks ≡ true)
one_somewhere [] can some = absurd cc
one_somewhere (ask ∷ asks) can some = let at = All-head CanHold ask asks can in (at.0, rw at.1 refl)

-- each is open, where each may hold and none holds in some state
all_open : (asks : List Ask) (s : State) → any_holds (cells_of s) asks ≡ false → All CanHold asks → All IsOpen asks
all_open [] s none can = All-nil IsOpen
all_open (ask ∷ asks) s none can =
    let both = or_parts (holds (cells_of s) ask) (any_holds (cells_of s) asks) none in
    All-cons IsOpen ask asks (record { fails = (s, both.0); holds = All-head CanHold ask asks can })
    (all_open asks s both.1 (All-tail CanHold ask asks can))

-- ---- with more reasons after a first segment
module _ (first : Effect) (more : Cells → Bool) (agree_on : Cells → Cells → Type 0) (about : Saying → Type 0)
    (size refusals : ℕ) (pre : Precondition)
    (agree : (s r : State) → agree_on (changed first (cells_of s)) (changed first (cells_of r))) where
  pub nothing_more : ((s : State) → more (changed first (cells_of s)) ≡ false)
      → IsWithMore first more agree_on about size refusals pre pre
  nothing_more never = record {
    met = λ s. rw (never s) (sym (or-false (is_met (cells_of s) pre)));
    agree = λ s r is. (is, agree s r);
    each = λ said effect named is. is;
    few = omega arith;
    refusals = omega arith;
  }

  pub now_certain : ((s : State) → more (changed first (cells_of s)) ≡ true)
      → IsWithMore first more agree_on about size refusals pre (record pre { certain = true })
  now_certain always = record {
    met = λ s. rw (always s) (sym (or-true (is_met (cells_of s) pre)));
    agree = λ s r is. (record { asks = is.asks; refusals = is.refusals }, agree s r);
    each = λ said effect named is. record { asks = is.asks; refusals = is.refusals };
    few = omega arith;
    refusals = omega arith;
  }

-- with room for more of them
pub with_room : (first : Effect) (more : Cells → Bool) (agree_on : Cells → Cells → Type 0) (about : Saying → Type 0)
    (size room refusals most : ℕ) (old new : Precondition) → size ≤ room → refusals ≤ most
    → IsWithMore first more agree_on about size refusals old new → IsWithMore first more agree_on about room most old new
with_room first more agree_on about size room refusals most old new fits few with = record {
  met = with.met;
  agree = with.agree;
  each = with.each;
  few = omega (arith, with.few);
  refusals = omega (arith, with.refusals);
}

-- one more ask
pub more_asks : (first : Effect) (pre : Precondition) (later ask : Ask) (asks : Vec Ask Global)
    → asks.items ≡ pre.asks.items ++ ask ∷ [] → CanHold ask
    → ((s : State) → holds (cells_of s) ask ≡ holds (changed first (cells_of s)) later)
    → ((s r : State) → AgreeOn (cells_of s) (cells_of r) ask
    → AgreeOn (changed first (cells_of s)) (changed first (cells_of r)) later)
    → ((names : Names) → EffectWithin names first → AskWithin names later → AskWithin names ask)
    → IsWithMore first (λ cells. holds cells later) (λ s r. AgreeOn s r later)
    (IfNamed (λ names. AskWithin names later)) 1 0 pre (record pre { asks = asks })
more_asks first pre later ask asks is can same agree named = record {
  met = λ s. rw (← same s, is, list_any-append (holds (cells_of s)) pre.asks.items (ask ∷ [])) (grind arith);
  agree = λ s r all.
      let P : Ask → Type 0 = AgreeOn (cells_of s) (cells_of r) in
      let both : All P (pre.asks.items ++ ask ∷ []) = rw is at all.asks in (
        record { asks = all_left P pre.asks.items (ask ∷ []) both; refusals = all.refusals },
        agree s r (All-head P ask [] (all_right P pre.asks.items (ask ∷ []) both)),
      );
  each = λ said effect about old. record {
    asks = rw is (All-push (IsSaid said) pre.asks.items ask old.asks (turned said effect about));
    refusals = old.refusals;
  };
  few = omega (arith, ap (λ (asks : List Ask). length asks) is, length-append pre.asks.items (ask ∷ []));
  refusals = omega arith;
}
  where
    turned : (said : Saying) → IfNamed (λ names. EffectWithin names first) said
        → IfNamed (λ names. AskWithin names later) said → IsSaid said ask
    turned (Within names) effect within = named names effect within
    turned Possible effect about = can

-- the reasons of some of a list, and then those of the next
pub next_more : {X : Type 0} (first : Effect) (p : Cells → X → Bool) (q : Cells → Cells → X → Type 0) (xs : List X)
    (i : ℕ) (x : X) (all one : Saying → Type 0) (size refusals more most : ℕ) (a b c : Precondition) → i < length xs → x ≡ get_or xs i x
    → ((said : Saying) → all said → one said)
    → IsWithMore first (λ cells. list_any (p cells) (take i xs)) (λ s r. All (q s r) (take i xs)) all size refusals a b
    → IsWithMore first (λ cells. p cells x) (λ s r. q s r x) one more most b c
    → IsWithMore first (λ cells. list_any (p cells) (take (i + 1) xs)) (λ s r. All (q s r) (take (i + 1) xs)) all
    (size + more) (refusals + most) a c
next_more first p q xs i x all one size refusals more most a b c within is narrow some next = record {
  met = λ s.
      let test = p (changed first (cells_of s)) in
      rw (next.met s, some.met s, list_any_more test xs i x within, ← is) (grind arith);
  agree = λ s r all.
      let last = next.agree s r all in
      let front = some.agree s r last.0 in
      let test = q (changed first (cells_of s)) (changed first (cells_of r)) in
      (front.0, rw (take_more xs i x within, ← is) (All-push test (take i xs) x front.1 last.1));
  each = λ said effect about old. next.each said effect (narrow said about) (some.each said effect about old);
  few = omega (arith, some.few, next.few);
  refusals = omega (arith, some.refusals, next.refusals);
}

-- the asks of a refusal, and what they become
module _ (first : Effect) (pre : Precondition) (later kept : UpToThree)
    (back : IsPulledBack first (asks_of later) (asks_of kept) false) (can : All CanHold (asks_of kept)) where
  -- it is wrongful after the first segment where what it becomes is before it
  alike : (s : State) → is_wrongful (cells_of s) kept ≡ is_wrongful (changed first (cells_of s)) later
  alike s = ap not (back.holds s)

  pub one_refusal : (refusals : Vec UpToThree Global) → refusals.items ≡ pre.refusals.items ++ kept ∷ []
      → (length (asks_of kept) == 0) ≡ false → (s : State) × (any_holds (cells_of s) (asks_of kept) ≡ false)
      → IsWithMore first (λ cells. is_wrongful cells later) (λ s r. is_wrongful s later ≡ is_wrongful r later)
      (IfNamed (λ names. AreWithin names (asks_of later))) 1 1 pre (record pre { refusals = refusals })
  one_refusal refusals is some none = record {
    agree = λ s r all.
        let P : UpToThree → Type 0 = λ refusal. is_wrongful (cells_of s) refusal ≡ is_wrongful (cells_of r) refusal in
        let both : All P (pre.refusals.items ++ kept ∷ []) = rw is at all.refusals in (
          record { asks = all.asks; refusals = all_left P pre.refusals.items (kept ∷ []) both },
          sym (alike s) ∙ All-head P kept [] (all_right P pre.refusals.items (kept ∷ []) both) ∙ alike r,
        );
    met = λ s. rw (← back.holds s, is, list_any-append (is_wrongful (cells_of s)) pre.refusals.items (kept ∷ []))
        (grind arith);
    each = λ said effect about old. record {
      asks = old.asks;
      refusals = rw is (All-push (IsRefusalSaid said) pre.refusals.items kept old.refusals (turned said effect about));
    };
    few = omega (arith, counted);
    refusals = omega (arith, counted);
  }
    where
      turned : (said : Saying) → IfNamed (λ names. EffectWithin names first) said
          → IfNamed (λ names. AreWithin names (asks_of later)) said → IsRefusalSaid said kept
      turned (Within names) effect within = back.each (Within names) effect within
      turned Possible effect about = let at = one_somewhere (asks_of kept) can some in
          record { asks = all_open (asks_of kept) none.0 none.1 can; right = (at.0, ap not at.1); wrongful = (none.0, ap not none.1) }

      counted : length refusals.items ≡ length pre.refusals.items + 1
      counted = ap (λ (rs : List UpToThree). length rs) is ∙ length-append pre.refusals.items (kept ∷ [])

  pub never_wrongful : ((s : State) → any_holds (cells_of s) (asks_of kept) ≡ true) → (s : State)
      → is_wrongful (changed first (cells_of s)) later ≡ false
  never_wrongful always s = ap not (sym (back.holds s) ∙ always s)

  pub always_wrongful : (length (asks_of kept) == 0) ≡ true → (s : State)
      → is_wrongful (changed first (cells_of s)) later ≡ true
  always_wrongful none s = ap not (sym (back.holds s) ∙ nothing (asks_of kept) none)
    where
      nothing : (asks : List Ask) → (length asks == 0) ≡ true → any_holds (cells_of s) asks ≡ false
      nothing [] is = refl
      nothing (ask ∷ asks) is = grind (arith, nat_tests, is)

-- what holds of each holds of one of them
pub read_all : {X : Type 0} (P : X → Type 0) (xs : List X) (i : ℕ) (x : X) → i < length xs → x ≡ get_or xs i x
    → All P xs → P x
read_all P xs i x within is all = subst P (sym is) (all i x within)

pub named_then : (P Q : Names → Type 0) → ((names : Names) → P names → Q names) → (said : Saying) → IfNamed P said
    → IfNamed Q said
named_then P Q then (Within names) is = then names is
named_then P Q then Possible is = tt
