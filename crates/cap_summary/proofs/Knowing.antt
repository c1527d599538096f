-- What a summary says after one more step, or one more segment.
use Rattle.std.specs.Prelude.{List, false, get_or, if◌then◌else◌, length, map, take, true, ℕ, ◌++◌, ◌+◌, ◌<◌, ◌||◌, ◌∷◌}
use Rattle.std.specs.Prelude.{[], refl, ◌≡◌, ◌≤◌}
use Rattle.cap_machine.proofs.{Turns.ends_more}
use Rattle.cap_machine.specs.{History.step_after, History.turned}
use Rattle.cap_summary.proofs.{LineAsking.has_any-append, Naming.effect_among, Naming.first_among, Naming.second_among}
use Rattle.cap_summary.proofs.{All-append, Naming.asks_among, checks_in_turn, checks_more, ends_in_turn, length-append}
use Rattle.cap_summary.proofs.{All-cons, All-nil, ap, arith, fun_ext, map-append, sym, take_more, ◌∙◌}
use Rattle.cap_summary.specs.{Rc, declared.line_asks.LineAsks.LineAsks, declared.precondition.Precondition.Precondition}
use Rattle.cap_summary.specs.{declared.effect.Effect.Effect, declared.key.Key.Key, declared.known.Known.Known, found_at}
use Rattle.cap_summary.specs.{Composing.IsJoined, Effects.LineLeaves, Effects.line_after, Effects.turned_cell, touched}
use Rattle.cap_summary.specs.{Asks.AgreeOnLine, Asks.asked_holds, Asks.is_refusal, Asks.refusals_in, Knows.StepsLeave, Names.EffectWithin}
use Rattle.cap_summary.specs.{Asks.AreWithin, Effects.changed, Effects.leaves, Keys.mode_cell, Names.LineWithin, values}
use Rattle.cap_summary.specs.{Asks.asks_in, Asks.has_any, Asks.refused, Keys.cells_of, Names.AreAmong, Names.names_in}
use Rattle.cap_summary.specs.{Keys.Cells, Knows.Knows, Knows.Says, Names.Names, effect_touch, effect_turn, requirement}
use Rattle.cap_summary.specs.{LineEffect, State, Step, Turn, check, ended, kept, later, said, stays, touch, turn}
use Rattle.cap_summary.specs.Preconditions.{AgreeIn, AllSaid, IfNamed, IsWithMore, Possible, Saying, Within, asks_size}
use Rattle.cap_summary.specs.Preconditions.{is_met}

-- one more item of a run
pub one_more : {X Z : Type 0} (run : List (Rc X Z)) (i : ℕ) (x : Rc X Z) → i < length run → x ≡ get_or run i x
    → values (take (i + 1) run) ≡ values (take i run) ++ x.value ∷ []
one_more run i x within at = ap values (take_more run i x within)
    ∙ map-append (λ item. item.value) (take i run) (get_or run i x ∷ [])
    ∙ ap (λ y. values (take i run) ++ y.value ∷ []) (sym at)

-- the calls of two parts that were refused for lack of a right
pub refused_parts : (t u : List Step) → refused (t ++ u) ≡ refused t + refused u
refused_parts [] u = omega arith
refused_parts (step ∷ t) u = omega (arith, refused_parts t u)

has_any-map : {X Y : Type 0} (f : X → Y) (xs : List X) → has_any (map f xs) ≡ has_any xs
has_any-map f xs = grind arith

-- the cells after the steps, as one
pub cells_after : (effect : Effect) (pre : Precondition) (t : List Step) → Says effect pre t → (s : State)
    → changed effect (cells_of s) ≡ cells_of (ended s t)
cells_after effect pre t says s = fun_ext (λ p. fun_ext (λ k. says.after s p k))

none_touch : (p : ℕ) (k : Key) → StepsLeave [] p k
none_touch p Key.Mode = All-nil (λ (step : Step). turn step p ≡ stays)
none_touch p (Key.Fd f) = All-nil (λ (step : Step). touch step p f ≡ kept)

both_leave : (t u : List Step) (p : ℕ) (k : Key) → StepsLeave t p k → StepsLeave u p k → StepsLeave (t ++ u) p k
both_leave t u p Key.Mode first second = All-append (λ (step : Step). turn step p ≡ stays) t u first second
both_leave t u p (Key.Fd f) first second = All-append (λ (step : Step). touch step p f ≡ kept) t u first second

pub says_none : (effect : Effect) (pre : Precondition)
    → ((cells : Cells) (p : ℕ) (k : Key) → changed effect cells p k ≡ cells p k)
    → ((s : State) → is_met (cells_of s) pre ≡ false) → ((said : Saying) → AllSaid said pre)
    → ((names : Names) → EffectWithin names effect) → asks_size pre ≡ 0 → Says effect pre []
says_none effect pre same never each effects nothing = record {
  after = λ s p k. same (cells_of s) p k;
  left = λ p k is. none_touch p k;
  finds = never;
  same = λ s r is. refl;
  possible = each Possible;
  effect_named = effects (names_in []);
  asks_named = each (Within (names_in []));
  few = omega (arith, nothing);
  refusals = omega (arith, nothing);
}

pub knows_both : (a b both : Known) (t u : List Step) → Knows a t → Knows b u → IsJoined a b both → Knows both (t ++ u)
knows_both a b both t u first second joined = record {
  after = λ s p k. (joined.effect.rows p).cells (cells_of s) k
      ∙ ap (λ (cells : Cells). changed b.effect.value cells p k) (between s) ∙ second.after (ended s t) p k
      ∙ ap (λ (state : State). cells_of state p k) (sym (ends_in_turn s t u));
  finds = λ s. joined.precondition.with.met s
      ∙ ap (λ (cells : Cells). is_met (cells_of s) a.precondition.value || is_met cells b.precondition.value) (between s)
      ∙ ap (λ r. r || is_met (cells_of (ended s t)) b.precondition.value) (first.finds s)
      ∙ ap (λ r. has_any (check s t) || r) (second.finds (ended s t)) ∙ sym (found s);
  same = λ s r is.
      let two = joined.precondition.with.agree s r is in
      let later_same : check (ended s t) u ≡ check (ended r t) u =
      second.same (ended s t) (ended r t) (rw (between s, between r) at two.1) in
      checks_in_turn s t u ∙ ap (λ xs. xs ++ map (later (length t)) (check (ended s t) u)) (first.same s r two.0)
      ∙ ap (λ ys. check r t ++ map (later (length t)) ys) later_same ∙ sym (checks_in_turn r t u);
  possible = joined.precondition.with.each Possible tt second.possible first.possible;
  left = λ p k is. both_leave t u p k (first.left p k ((joined.effect.rows p).leaves k is).0)
      (second.left p k ((joined.effect.rows p).leaves k is).1);
  effect_named = λ p. (joined.effect.rows p).names (names_in (t ++ u)) (names_in (t ++ u)) (λ q is. effect q) (effect p)
      (second_effect p) (second_effect p);
  asks_named = joined.precondition.with.each (Within (names_in (t ++ u))) effect
      (asks_among (names_in u) (names_in (t ++ u)) beyond b.precondition.value second.asks_named)
      (asks_among (names_in t) (names_in (t ++ u)) front a.precondition.value first.asks_named);
  few = omega (arith, joined.precondition.with.few, first.few, second.few, length-append t u);
  refusals = omega (arith, joined.precondition.with.refusals, first.refusals, second.refusals, refused_parts t u);
}
  where
    front : AreAmong (names_in t) (names_in (t ++ u))
    front = first_among t u

    beyond : AreAmong (names_in u) (names_in (t ++ u))
    beyond = second_among t u

    effect : EffectWithin (names_in (t ++ u)) a.effect.value
    effect = effect_among (names_in t) (names_in (t ++ u)) front a.effect.value first.effect_named

    second_effect : EffectWithin (names_in (t ++ u)) b.effect.value
    second_effect = effect_among (names_in u) (names_in (t ++ u)) beyond b.effect.value second.effect_named

    between : (s : State) → changed a.effect.value (cells_of s) ≡ cells_of (ended s t)
    between s = cells_after a.effect.value a.precondition.value t first s

    found : (s : State) → has_any (check s (t ++ u)) ≡ (has_any (check s t) || has_any (check (ended s t) u))
    found s = ap has_any (checks_in_turn s t u)
        ∙ has_any-append (check s t) (map (later (length t)) (check (ended s t) u))
        ∙ ap (λ r. has_any (check s t) || r) (has_any-map (later (length t)) (check (ended s t) u))

-- another precondition that holds in the same states
pub says_same : (effect : Effect) (pre new : Precondition) (t : List Step) → Says effect pre t
    → ((s : State) → is_met (cells_of s) new ≡ is_met (cells_of s) pre)
    → ((s r : Cells) → AgreeIn s r new → AgreeIn s r pre) → ((said : Saying) → AllSaid said pre → AllSaid said new)
    → asks_size new ≤ asks_size pre → length new.refusals.items ≤ length pre.refusals.items → Says effect new t
says_same effect pre new t says met agree each few refusals = record {
  after = says.after;
  finds = λ s. met s ∙ says.finds s;
  same = λ s r is. says.same s r (agree (cells_of s) (cells_of r) is);
  left = says.left;
  possible = each Possible says.possible;
  effect_named = says.effect_named;
  asks_named = each (Within (names_in t)) says.asks_named;
  few = omega (arith, few, says.few);
  refusals = omega (arith, refusals, says.refusals);
}

-- a mode is turned as its cell is
turned_is : (t : Turn) (s : State) (p : ℕ) → turned_cell t (cells_of s) p ≡ mode_cell (turned t s.mode p)
turned_is t s p = grind arith

module _ (step : Step) (line : LineEffect) (me : ℕ) (cells : (p f : ℕ) → effect_touch line me p f ≡ touch step p f)
    (modes : (p : ℕ) → effect_turn line me p ≡ turn step p) where
  line_is : (s : State) (p : ℕ) (k : Key) → line_after line me (cells_of s) p k ≡ cells_of (step_after step s) p k
  line_is s p Key.Mode = turned_is (effect_turn line me p) s p ∙ ap (λ t. mode_cell (turned t s.mode p)) (modes p)
  line_is s p (Key.Fd f) = ap (λ t. touched t s.cell p f) (cells p f)

  -- the cells after it
  pub line_step : (s : State) → line_after line me (cells_of s) ≡ cells_of (ended s (step ∷ []))
  line_step s = fun_ext (λ p. fun_ext (λ k. line_is s p k
      ∙ ap (λ (state : State). cells_of state p k) (sym (ends_more s [] step))))

  -- a step whose line leaves a cell or a mode
  step_leaves : (p : ℕ) (k : Key) → LineLeaves line me p k → StepsLeave (step ∷ []) p k
  step_leaves p Key.Mode is = All-cons (λ (step : Step). turn step p ≡ stays) step [] (sym (modes p) ∙ is)
      (All-nil (λ (step : Step). turn step p ≡ stays))
  step_leaves p (Key.Fd f) is = All-cons (λ (step : Step). touch step p f ≡ kept) step [] (sym (cells p f) ∙ is)
      (All-nil (λ (step : Step). touch step p f ≡ kept))

  pub after_more : (effect new : Effect) (t : List Step) (s : State)
      → ((p : ℕ) (k : Key) → changed effect (cells_of s) p k ≡ cells_of (ended s t) p k)
      → ((cells : Cells) (p : ℕ) (k : Key) → changed new cells p k ≡ line_after line me (changed effect cells) p k)
      → (p : ℕ) (k : Key) → changed new (cells_of s) p k ≡ cells_of (ended s (t ++ step ∷ [])) p k
  after_more effect new t s so_far does p k = does (cells_of s) p k
      ∙ ap (λ (cells : Cells). line_after line me cells p k) (fun_ext (λ q. fun_ext (λ j. so_far q j)))
      ∙ line_is (ended s t) p k ∙ ap (λ (state : State). cells_of state p k) (sym (ends_more s t step))

  pub says_more : (effect new : Effect) (pre more : Precondition) (asks : LineAsks) (t : List Step) → Says effect pre t
      → ((cells : Cells) (p : ℕ) (k : Key) → changed new cells p k ≡ line_after line me (changed effect cells) p k)
      → ((p : ℕ) (k : Key) → leaves new p k ≡ true → (leaves effect p k ≡ true) × LineLeaves line me p k)
      → IsWithMore effect (λ cells. asked_holds cells asks) (λ s r. AgreeOnLine s r asks)
      (IfNamed (λ names. AreWithin names (asks_in asks))) 3 (refusals_in asks) pre more
      → ((s : State) → asked_holds (cells_of s) asks ≡ has_any (said step s))
      → ((s r : State) → AgreeOnLine (cells_of s) (cells_of r) asks → said step s ≡ said step r)
      → ((names : Names) → LineWithin names me line → EffectWithin names effect → EffectWithin names new)
      → LineWithin (names_in (t ++ step ∷ [])) me line → AreWithin (names_in (t ++ step ∷ [])) (asks_in asks)
      → refusals_in asks ≤ (if is_refusal (requirement step.line).reply then 1 else 0) → Says new more (t ++ step ∷ [])
  says_more effect new pre more asks t so_far does leaves with says same effects line_named asks_named one = record {
    after = λ s. after_more effect new t s (so_far.after s) does;
    finds = λ s. with.met s ∙ ap (λ (cells : Cells). is_met (cells_of s) pre || asked_holds cells asks) (between s)
        ∙ ap (λ r. r || asked_holds (cells_of (ended s t)) asks) (so_far.finds s)
        ∙ ap (λ r. has_any (check s t) || r) (says (ended s t)) ∙ sym (found s);
    same = λ s r is.
        let two = with.agree s r is in
        let last : said step (ended s t) ≡ said step (ended r t) =
        same (ended s t) (ended r t) (rw (between s, between r) at two.1) in
        checks_more s t step ∙ ap (λ xs. xs ++ map (found_at (length t + 1)) (said step (ended s t)))
        (so_far.same s r two.0) ∙ ap (λ ys. check r t ++ map (found_at (length t + 1)) ys) last
        ∙ sym (checks_more r t step);
    possible = with.each Possible tt tt so_far.possible;
    left = λ p k is. both_leave t (step ∷ []) p k (so_far.left p k (leaves p k is).0) (step_leaves p k (leaves p k is).1);
    effect_named = effects (names_in (t ++ step ∷ [])) line_named named;
    asks_named = with.each (Within (names_in (t ++ step ∷ []))) named asks_named
        (asks_among (names_in t) (names_in (t ++ step ∷ [])) front pre so_far.asks_named);
    few = omega (arith, with.few, so_far.few, length-append t (step ∷ []));
    refusals = omega (arith, with.refusals, one, so_far.refusals, refused_parts t (step ∷ []));
  }
    where
      front : AreAmong (names_in t) (names_in (t ++ step ∷ []))
      front = first_among t (step ∷ [])

      named : EffectWithin (names_in (t ++ step ∷ [])) effect
      named = effect_among (names_in t) (names_in (t ++ step ∷ [])) front effect so_far.effect_named

      between : (s : State) → changed effect (cells_of s) ≡ cells_of (ended s t)
      between s = cells_after effect pre t so_far s

      found : (s : State) → has_any (check s (t ++ step ∷ [])) ≡ (has_any (check s t) || has_any (said step (ended s
          t)))
      found s = ap has_any (checks_more s t step)
          ∙ has_any-append (check s t) (map (found_at (length t + 1)) (said step (ended s t)))
          ∙ ap (λ r. has_any (check s t) || r) (has_any-map (found_at (length t + 1)) (said step (ended s t)))
