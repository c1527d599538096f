-- Which process is at the place of a pid.
use Rattle.std.proofs.Common.{◌≡◌, ℕ, ◌+◌, ◌<◌, ◌≤◌, ◌==◌, ◌&&◌, ◌||◌, nat_le, if◌then◌else◌, Bool, true, false, List, [], ◌∷◌, ◌++◌}
use Rattle.std.proofs.Common.{length, get_or, set, Some, None, refl, ap, sym, ◌∙◌, arith, length-append, eq-eqb}
use Rattle.std.proofs.Common.{zero, suc}
use Rattle.std.specs.Prelude.{slice_get, slice_set, slice_index_or}
use Rattle.std.specs.List.{AllZip}
use Rattle.std.specs.Option.{option_map_or}
use Rattle.std.proofs.lemmas.Option.{slice_get-get_or, slice_get_past}
use Rattle.std.proofs.lemmas.Bool.{cases_eq, cases_lt, cases_order, eqb-true, ne_eqb}
use Rattle.std.proofs.lemmas.Grind.{get_or-set_at, common_steps}
use Rattle.std.proofs.lemmas.List.{get_or-set_other, length-set}
use Rattle.std.proofs.Math.Logic.{⊎_elim}
use Rattle.cap_trace.specs.Views.{fds_spelled}
use Rattle.cap_machine.specs.declared.cell.Cell.{Cell}
use Rattle.cap_machine.specs.declared.cell.Cell.TheVariants.{Closed}
use Rattle.cap_machine.specs.declared.cell.Mode.{Mode}
use Rattle.cap_machine.specs.declared.cell.Mode.TheVariants.{Inside, Outside}
use Rattle.cap_machine.specs.declared.rule.Effect.{Effect}
use Rattle.cap_machine.specs.declared.rule.Effect.TheVariants.{Keep, Start, Exit, Forget, Exec, CloseFrom, Enter, Give}
use Rattle.cap_machine.specs.declared.rule.Effect.TheVariants.{GiveTwo, Change, Fork, ForkAs}
use Rattle.cap_machine.specs.declared.table.Process.{Process}
use Rattle.cap_machine.specs.Op.{applied, exec}
use Rattle.cap_machine.specs.Touch.{Touch, kept, given, taken, Turn, stays, turns, started}
use Rattle.cap_machine.specs.History.{touched, turned}
use Rattle.cap_machine.specs.Effect.{effect_touch, effect_turn, own_cell, own_mode, IsOwn}
use Rattle.cap_machine.specs.Code.Table.{own, own_at, IsSame}

is_own : (q : Process) (r : ℕ) → q.pid ≡ r → own r (Some q) ≡ Some q
is_own q r e = ap (λ (b : Bool). if b then Some q else None) (eq-eqb q.pid r e)

is_other : (q : Process) (r : ℕ) → (q.pid ≡ r → ⊥) → own r (Some q) ≡ None
is_other q r ne = ap (λ (b : Bool). if b then Some q else None) (ne_eqb q.pid r ne)

-- an element that wasn't written
get_other : {X : Type 0} (xs : List X) (i j : ℕ) (y : X) → (j ≡ i → ⊥) → slice_get (set xs i y) j ≡ slice_get xs j
get_other xs i j y ne =
    ⊎_elim
    (λ lt.
    let within : j < length (set xs i y) = omega (arith, length-set xs i y) in
    slice_get-get_or (set xs i y) j y within ∙ ap (λ x. Some x) (get_or-set_other xs i j y y ne)
    ∙ sym (slice_get-get_or xs j y lt))
    (λ ge.
    let past : length (set xs i y) ≤ j = omega (arith, length-set xs i y) in
    slice_get_past (set xs i y) j past ∙ sym (slice_get_past xs j ge))
    (cases_lt j (length xs))

-- the process of pid p, which is at its place, is another one now
pub put_own : (place : ℕ → ℕ) (ps : List Process) (p : ℕ) (d q : Process) (r : ℕ) → place p < length ps
    → (slice_index_or ps (place p) d).pid ≡ p
    → q.pid ≡ p → own_at (slice_set ps (place p) q) (place r) r ≡ (if r == p then Some q else own_at ps (place r) r)
put_own place ps p d q r within was now =
    ⊎_elim
    (λ e.
    let at : place r ≡ place p = ap place e in
    let there : place r < length (set ps (place p) q) = omega (arith, length-set ps (place p) q) in
    ap (own r) (slice_get-get_or (set ps (place p) q) (place r) q there
    ∙ ap (λ x. Some x) (get_or-set_at ps (place p) (place r) q q at within))
    ∙ is_own q r (now ∙ sym e)
    ∙ ap (λ (b : Bool). if b then Some q else own_at ps (place r) r) (sym (eq-eqb r p e)))
    (λ ne.
    let old : Process = get_or ps (place p) d in
    ⊎_elim
    (λ at.
    let there : place r < length (set ps (place p) q) = omega (arith, length-set ps (place p) q) in
    let before : place r < length ps = omega arith in
    ap (own r) (slice_get-get_or (set ps (place p) q) (place r) q there
    ∙ ap (λ x. Some x) (get_or-set_at ps (place p) (place r) q q at within))
    ∙ is_other q r (λ e. ne (sym e ∙ now))
    ∙ sym (is_other old r (λ e. ne (sym e ∙ was)))
    ∙ ap (λ (i : ℕ). own r (Some (get_or ps i d))) (sym at)
    ∙ ap (own r) (sym (slice_get-get_or ps (place r) d before)))
    (λ other. ap (own r) (get_other ps (place p) (place r) q other))
    (cases_eq (place r) (place p))
    ∙ ap (λ (b : Bool). if b then Some q else own_at ps (place r) r) (sym (ne_eqb r p ne)))
    (cases_eq r p)

last_of : {X : Type 0} (xs : List X) (y : X) → get_or (xs ++ y ∷ []) (length xs) y ≡ y
last_of xs y = grind (arith, common_steps)

earlier_of : {X : Type 0} (xs : List X) (y d : X) (j : ℕ) → j < length xs → get_or (xs ++ y ∷ []) j d ≡ get_or xs j d
earlier_of xs y d j lt = grind (arith, common_steps)

-- a process with another pid at the end of the list changes nothing
one_more : (ps : List Process) (q : Process) (r j : ℕ) → own r (Some q) ≡ None
    → own r (slice_get (ps ++ q ∷ []) j) ≡ own r (slice_get ps j)
one_more ps q r j other =
    let long : length (ps ++ q ∷ []) ≡ length ps + 1 = omega (arith, length-append ps (q ∷ [])) in
    ⊎_elim
    (λ e.
    let there : length ps < length (ps ++ q ∷ []) = omega arith in
    let past : length ps ≤ length ps = omega arith in
    ap (λ i. own r (slice_get (ps ++ q ∷ []) i)) e
    ∙ ap (own r) (slice_get-get_or (ps ++ q ∷ []) (length ps) q there ∙ ap (λ x. Some x) (last_of ps q))
    ∙ other
    ∙ ap (own r) (sym (slice_get_past ps (length ps) past))
    ∙ ap (λ i. own r (slice_get ps i)) (sym e))
    (λ o. ⊎_elim
    (λ lt.
    let there : j < length (ps ++ q ∷ []) = omega arith in
    ap (own r) (slice_get-get_or (ps ++ q ∷ []) j q there ∙ ap (λ x. Some x) (earlier_of ps q q j lt)
    ∙ sym (slice_get-get_or ps j q lt)))
    (λ gt.
    let past : length (ps ++ q ∷ []) ≤ j = omega arith in
    let before : length ps ≤ j = omega arith in
    ap (own r) (slice_get_past (ps ++ q ∷ []) j past ∙ sym (slice_get_past ps j before)))
    o)
    (cases_order j (length ps))

-- one more process, and places at which only its pid has another one
pub append_own : (place later : ℕ → ℕ) (ps : List Process) (p : ℕ) (q : Process) (r : ℕ)
    → later r ≡ (if r == p then length ps else place r)
    → q.pid ≡ p → own_at (ps ++ q ∷ []) (later r) r ≡ (if r == p then Some q else own_at ps (place r) r)
append_own place later ps p q r next now =
    let long : length (ps ++ q ∷ []) ≡ length ps + 1 = omega (arith, length-append ps (q ∷ [])) in
    ⊎_elim
    (λ e.
    let at : later r ≡ length ps = next ∙ ap (λ (b : Bool). if b then length ps else place r) (eq-eqb r p e) in
    let there : length ps < length (ps ++ q ∷ []) = omega arith in
    ap (λ i. own r (slice_get (ps ++ q ∷ []) i)) at
    ∙ ap (own r) (slice_get-get_or (ps ++ q ∷ []) (length ps) q there ∙ ap (λ x. Some x) (last_of ps q))
    ∙ is_own q r (now ∙ sym e)
    ∙ ap (λ (b : Bool). if b then Some q else own_at ps (place r) r) (sym (eq-eqb r p e)))
    (λ ne.
    let at : later r ≡ place r = next ∙ ap (λ (b : Bool). if b then length ps else place r) (ne_eqb r p ne) in
    let other : own r (Some q) ≡ None = is_other q r (λ e. ne (sym e ∙ now)) in
    ap (λ i. own r (slice_get (ps ++ q ∷ []) i)) at
    ∙ one_more ps q r (place r) other
    ∙ ap (λ (b : Bool). if b then Some q else own_at ps (place r) r) (sym (ne_eqb r p ne)))
    (cases_eq r p)

-- the places alone: pid p had no process, and has none at the end of the list
pub places_own : (place later : ℕ → ℕ) (ps : List Process) (p r : ℕ) → later r ≡ (if r == p then length ps else place r)
    → own_at ps (place p) p ≡ None → own_at ps (later r) r ≡ own_at ps (place r) r
places_own place later ps p r next none =
    ⊎_elim
    (λ e.
    let at : later r ≡ length ps = next ∙ ap (λ (b : Bool). if b then length ps else place r) (eq-eqb r p e) in
    let past : length ps ≤ length ps = omega arith in
    ap (λ i. own r (slice_get ps i)) at ∙ ap (own r) (slice_get_past ps (length ps) past) ∙ sym none
    ∙ ap (λ i. own_at ps (place i) i) (sym e))
    (λ ne. ap (λ i. own r (slice_get ps i))
    (next ∙ ap (λ (b : Bool). if b then length ps else place r) (ne_eqb r p ne)))
    (cases_eq r p)

-- the same at a place that a look-up gave
pub put_at : (place : ℕ → ℕ) (ps : List Process) (p i : ℕ) (d q : Process) (r : ℕ) → i ≡ place p → i < length ps
    → d ≡ slice_index_or ps i d
    → d.pid ≡ p → q.pid ≡ p → own_at (slice_set ps i q) (place r) r ≡ (if r == p then Some q else own_at ps (place r) r)
put_at place ps p i d q r e within was mine now =
    let there : place p < length ps = omega arith in
    ap (λ (k : ℕ). own_at (set ps k q) (place r) r) e
    ∙ put_own place ps p d q r there
    (ap (λ (k : ℕ). (get_or ps k d).pid) (sym e) ∙ ap (λ (x : Process). x.pid) (sym was) ∙ mine) now

-- and the process that stood there
pub own_there : (place : ℕ → ℕ) (ps : List Process) (p i : ℕ) (d : Process) → i ≡ place p → i < length ps
    → d ≡ slice_index_or ps i d → d.pid ≡ p → own_at ps (place p) p ≡ Some d
own_there place ps p i d e within was mine =
    ap (λ (k : ℕ). own p (slice_get ps k)) (sym e)
    ∙ ap (own p) (slice_get-get_or ps i d within ∙ ap (λ x. Some x) (sym was))
    ∙ is_own d p mine

-- what is asked of each process, where one is changed
pub changed : {R : Type 0} (ask : Process → R) (default : R) (g : R → R) (place : ℕ → ℕ) (ps : List Process) (p i : ℕ)
    (d q : Process) (old : ℕ → R)
    → i ≡ place p → i < length ps → d ≡ slice_index_or ps i d → (slice_index_or ps i d).pid ≡ p → q.pid ≡ d.pid
    → ask q ≡ g (ask d) → ((r : ℕ) → option_map_or ask (own_at ps (place r) r) default ≡ old r) → (r : ℕ)
    → option_map_or ask (own_at (slice_set ps i q) (place r) r) default ≡ (if r == p then g (old r) else old r)
changed ask default g place ps p i d q old e within was owner same gives before r =
    let mine : d.pid ≡ p = ap (λ (x : Process). x.pid) was ∙ owner in
    let now : q.pid ≡ p = same ∙ mine in
    let put : own_at (slice_set ps i q) (place r) r ≡ (if r == p then Some q else own_at ps (place r) r) =
    put_at place ps p i d q r e within was mine now in
    ⊎_elim
    (λ here.
    let yes : (r == p) ≡ true = eq-eqb r p here in
    let there : option_map_or ask (own_at ps (place p) p) default ≡ ask d =
    ap (λ o. option_map_or ask o default) (own_there place ps p i d e within was mine) in
    let asked : ask d ≡ old r = sym there ∙ before p ∙ ap old (sym here) in
    ap (λ o. option_map_or ask o default) (put ∙ ap (λ (b : Bool). if b then Some q else own_at ps (place r) r) yes)
    ∙ gives
    ∙ ap g asked
    ∙ ap (λ (b : Bool). if b then g (old r) else old r) (sym yes))
    (λ ne.
    let no : (r == p) ≡ false = ne_eqb r p ne in
    ap (λ o. option_map_or ask o default) (put ∙ ap (λ (b : Bool). if b then Some q else own_at ps (place r) r) no)
    ∙ before r
    ∙ ap (λ (b : Bool). if b then g (old r) else old r) (sym no))
    (cases_eq r p)

-- one test inside another
pub both_tests : {R : Type 0} (b t : Bool) (x y : R)
    → (if b then (if t then x else y) else y) ≡ (if b && t then x else y)
both_tests true true x y = refl
both_tests true false x y = refl
both_tests false true x y = refl
both_tests false false x y = refl

-- a test that decides nothing
pub either_way : {R : Type 0} (b : Bool) (x : R) → (if b then x else x) ≡ x
either_way true x = refl
either_way false x = refl

-- what an effect of a line of its own makes of a process is what the line does
choice : {X Y : Type 0} (read : X → Y) (b : Bool) (x y : X) → (if b then read x else read y) ≡ read (if b then x else y)
choice read true x y = refl
choice read false x y = refl

module _ (me p f : ℕ) (cell : ℕ → ℕ → Cell) (mine : ℕ → Cell) (is : (g : ℕ) → mine g ≡ cell me g) where
  -- where the line touches one cell of its own process
  at_one : (b t : Bool) (touch : Touch) (c : Cell) → (b ≡ true → p ≡ me) → c ≡ touched touch cell p f
      → (if b then (if t then c else mine f) else cell p f) ≡ touched (if b && t then touch else kept) cell p f
  at_one true true touch c same e = e
  at_one true false touch c same e = is f ∙ ap (λ (q : ℕ). cell q f) (sym (same refl))
  at_one false t touch c same e = refl

  -- where it touches all of them
  at_all : (b : Bool) (touch : Touch) (c : Cell) → c ≡ touched touch cell p f
      → (if b then c else cell p f) ≡ touched (if b then touch else kept) cell p f
  at_all true touch c e = e
  at_all false touch c e = refl

  none : (b : Bool) → (b ≡ true → p ≡ me) → (if b then mine f else cell p f) ≡ cell p f
  none true same = is f ∙ ap (λ (q : ℕ). cell q f) (sym (same refl))
  none false same = refl

  itself : (p == me) ≡ true → p ≡ me
  itself = eqb-true p me

  pub own_touch : (effect : Effect) → IsOwn effect
      → (if p == me then own_cell effect mine f else cell p f) ≡ touched (effect_touch effect me p f) cell p f
  own_touch Keep one = none (p == me) itself
  own_touch Enter one = none (p == me) itself
  own_touch (Start fds) one = at_all (p == me) (given (started (fds_spelled fds.now) f)) _ refl
  own_touch Exit one = absurd one
  own_touch Forget one = absurd one
  own_touch Exec one = at_all (p == me) (taken exec me f) _ (ap (applied exec) (is f))
  own_touch (CloseFrom n) one = at_one (p == me) (nat_le n f) (given Closed) Closed itself refl
  own_touch (Give g c) one = at_one (p == me) (f == g) (given c) c itself refl
  own_touch (GiveTwo g h c) one = at_one (p == me) (f == g || f == h) (given c) c itself refl
  own_touch (Change g op h) one = at_one (p == me) (f == g) (taken op me h) _ itself (ap (applied op) (is h))
  own_touch (Fork child) one = absurd one
  own_touch (ForkAs child g) one = absurd one

pub own_turn : (effect : Effect) (me p : ℕ) (mode : ℕ → Mode) (m : Mode) → IsOwn effect → m ≡ mode me
    → (if p == me then own_mode effect m else mode p) ≡ turned (effect_turn effect me p) mode p
own_turn effect me p mode m one is = by effect one
  where
    same : (b : Bool) → (b ≡ true → p ≡ me) → (if b then m else mode p) ≡ mode p
    same true here = is ∙ ap mode (sym (here refl))
    same false here = refl

    by : (effect : Effect) → IsOwn effect
        → (if p == me then own_mode effect m else mode p) ≡ turned (effect_turn effect me p) mode p
    by (Start fds) one = choice (λ (t : Turn). turned t mode p) (p == me) (turns Outside) stays
    by Exit one = absurd one
    by Enter one = choice (λ (t : Turn). turned t mode p) (p == me) (turns Inside) stays
    by Keep one = same (p == me) (eqb-true p me)
    by Forget one = absurd one
    by Exec one = same (p == me) (eqb-true p me)
    by (CloseFrom n) one = same (p == me) (eqb-true p me)
    by (Give g c) one = same (p == me) (eqb-true p me)
    by (GiveTwo g h c) one = same (p == me) (eqb-true p me)
    by (Change g op h) one = same (p == me) (eqb-true p me)
    by (Fork child) one = absurd one
    by (ForkAs child g) one = absurd one

-- the same is asked of two processes, if they are anywhere
asked_if : {R : Type 0} (ask : Process → R) (default : R) (p q : Process) (b : Bool) → ask q ≡ ask p
    → option_map_or ask (if b then Some q else None) default ≡ option_map_or ask (if b then Some p else None) default
asked_if ask default p q true e = e
asked_if ask default p q false e = refl

-- a list of copies answers as the list does
pub asked_of_copies : {R : Type 0} (ask : Process → R) (default : R) (ps qs : List Process) (i r : ℕ)
    → ((p q : Process) → IsSame p q → ask q ≡ ask p) → AllZip IsSame ps qs
    → option_map_or ask (own_at qs i r) default ≡ option_map_or ask (own_at ps i r) default
asked_of_copies ask default [] [] i r follows e = refl
asked_of_copies ask default [] (q ∷ qs) i r follows e = absurd e
asked_of_copies ask default (p ∷ ps) [] i r follows e = absurd e
asked_of_copies ask default (p ∷ ps) (q ∷ qs) zero r follows e =
    ap (λ (n : ℕ). option_map_or ask (if n == r then Some q else None) default) e.0.2
    ∙ asked_if ask default p q (p.pid == r) (follows p q e.0)
asked_of_copies ask default (p ∷ ps) (q ∷ qs) (suc i) r follows e =
    asked_of_copies ask default ps qs i r follows e.1
