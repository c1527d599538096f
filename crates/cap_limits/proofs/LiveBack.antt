-- What is wanted before a line is what is live there.
use Rattle.std.proofs.Common.{◌≡◌, ◌⊎◌, ◌↔◌, ℕ, ◌<◌, ◌==◌, nat_le, ◌&&◌, ◌||◌, if◌then◌else◌}
use Rattle.std.proofs.Common.{Bool, true, false, List, [], ◌∷◌, Option, Some, None, refl, sym, ap, ◌∙◌, subst, inl, inr}
use Rattle.std.proofs.Common.{arith}
use Rattle.std.proofs.lemmas.Bool.{cases_Bool, cases_eq, or_cases, and_parts, and_from, cond-true, cond-false, eqb-true, eq-eqb}
use Rattle.std.proofs.lemmas.Bool.{and_cases, or_left, or_right, and_left, and_right, both_ways, lt-ltb, ne_eqb, or_parts, or_from}
use Rattle.std.proofs.Math.Logic.{⊎_elim}
use Rattle.cap_rights.specs.Rights.{all, holds, join}
use Rattle.cap_rights.proofs.Members.{join_holds, meet_holds, all_holds, none_holds}
use Rattle.cap_machine.specs.declared.cell.OnExec.{OnExec}
use Rattle.cap_machine.specs.declared.cell.OnExec.TheVariants.{Set, Clear, Unsure}
use Rattle.cap_machine.specs.declared.cell.Cell.{Cell}
use Rattle.cap_machine.specs.declared.cell.Cell.TheVariants.{Unknown, Closed}
use Rattle.cap_machine.specs.declared.cell.HeldOp.{HeldOp}
use Rattle.cap_machine.specs.declared.cell.HeldOp.TheVariants.{Becomes, Keeps}
use Rattle.cap_machine.specs.declared.cell.Op.{Op}
use Rattle.cap_machine.specs.declared.rule.Check.{Check}
use Rattle.cap_machine.specs.declared.rule.Requirement.{Requirement}
use Rattle.cap_machine.specs.declared.rule.Effect.{Effect}
use Rattle.cap_machine.specs.declared.rule.Effect.TheVariants.{Keep, Start, Exit, Forget, Exec, CloseFrom, Enter, Give}
use Rattle.cap_machine.specs.declared.rule.Effect.TheVariants.{GiveTwo, Change, Fork, ForkAs}
use Rattle.cap_machine.specs.Op.{held_op, same, exec}
use Rattle.cap_trace.specs.Views.{fds_spelled}
use Rattle.cap_machine.specs.declared.step.Step.{Step}
use Rattle.cap_machine.specs.Rule.{requirement}
use Rattle.cap_machine.specs.Touch.{Touch, kept, given, taken, started, touch}
use Rattle.cap_machine.specs.Effect.{effect_touch}
use Rattle.cap_machine.specs.Judge.{listed}
use Rattle.cap_limits.specs.Live.{is_success, checks_need, step_needs, HandsOn, Passes, Live}
use Rattle.cap_limits.specs.Code.Wanted.{back_through, wanted_with, undone, wanted_in_either, with_checks}
use Rattle.cap_machine.specs.Effect.{is_child}
use Rattle.cap_limits.specs.Code.Wanted.{with_requirement, wanted_before}
use Rattle.std.proofs.Math.Path.{fun_ext}
use Rattle.cap_machine.proofs.Profiles.{or_swap}

-- ---- one line of a process, as the code takes it apart

pub same_own : {A : Type 0} (w : ℕ → A) (p me : ℕ) → (if p == me then w me else w p) ≡ w p
same_own w p me =
    ⊎_elim (λ yes. cond-true (p == me) (w me) (w p) yes ∙ ap w (sym (eqb-true p me yes)))
    (λ no. cond-false (p == me) (w me) (w p) no) (cases_Bool (p == me))

own_then : {A : Type 0} (b : Bool) (own mid rest : A) → mid ≡ (if b then own else rest)
    → (a : A) → (if b then a else mid) ≡ (if b then a else rest)
own_then true own mid rest is a = refl
own_then false own mid rest is a = is

eq_turned : (f g : ℕ) → (f == g) ≡ (g == f)
eq_turned f g =
    ⊎_elim (λ e. eq-eqb f g e ∙ sym (eq-eqb g f (sym e))) (λ ne. ne_eqb f g ne ∙ sym (ne_eqb g f (λ e. ne (sym e))))
    (cases_eq f g)

-- what is read of a table once one value was written
pub written_at : {V A : Type 0} (read : Option V → A) (me p : ℕ) (b : Bool) (value : V) (old new : Option V)
    → b ≡ (me == p) → new ≡ (if b then Some value else old)
    → read new ≡ (if p == me then read (Some value) else read old)
written_at read me p b value old new is written =
    ap read (written ∙ ap (λ (t : Bool). if t then Some value else old) (is ∙ eq_turned me p))
    ∙ read_if (p == me)
  where
    read_if : (t : Bool) → read (if t then Some value else old) ≡ (if t then read (Some value) else read old)
    read_if true = refl
    read_if false = refl

-- what one of them becomes by itself, in two steps
pub by_own : {A : Type 0} (me p : ℕ) (own new : A) (mid rest : ℕ → A) (f : A → A)
    → ((q : ℕ) → mid q ≡ (if q == me then own else rest q))
    → new ≡ (if p == me then f (mid me) else mid p) → new ≡ (if p == me then f own else rest p)
by_own me p own new mid rest f is_mid is =
    is
    ∙ ap (λ a. if p == me then f a else mid p)
    (is_mid me ∙ cond-true (me == me) own (rest me) (eq-eqb me me refl))
    ∙ own_then (p == me) own (mid p) (rest p) (is_mid p) (f own)

pub before_rule : (d : Requirement) (effect : Effect) (me : ℕ) (w mid new : ℕ → ℕ → OnExec → ℕ)
    → ((p f : ℕ) (x : OnExec) → mid p f x
    ≡ (if p == me then wanted_in_either effect me w f x else (if is_child effect p then 0 else w p f x)))
    → (p f : ℕ) (x : OnExec) → new p f x
    ≡ (if p == me then with_requirement d (undone effect (mid me)) f x else mid p f x)
    → new p f x ≡ wanted_before d effect me w p f x
before_rule d effect me w mid new is_mid p f x is =
    let own : mid me ≡ wanted_in_either effect me w =
    fun_ext (λ g. fun_ext (λ y. is_mid me g y
    ∙ cond-true (me == me) (wanted_in_either effect me w g y) (if is_child effect me then 0 else w me g y)
    (eq-eqb me me refl))) in
    is
    ∙ ap (λ (u : ℕ → OnExec → ℕ). if p == me then with_requirement d (undone effect u) f x else mid p f x) own
    ∙ own_then (p == me) (wanted_in_either effect me w f x) (mid p f x) (if is_child effect p then 0 else w p f x)
    (is_mid p f x) (with_requirement d (undone effect (wanted_in_either effect me w)) f x)

-- ---- where rights come from

-- right k is wanted of some cell to which these touches hand on the cell of descriptor f of process p with it
abbrev pub Reaches : (ℕ → ℕ → Touch) → (ℕ → ℕ → OnExec → ℕ) → ℕ → ℕ → OnExec → ℕ → Type 0
Reaches touches after p f x k =
    (q g : ℕ) × (y : OnExec) × Passes (touches q g) p f x q g y k × (holds (after q g y) k ≡ true)

pub stays_there : (touches : ℕ → ℕ → Touch) (after : ℕ → ℕ → OnExec → ℕ) (p f : ℕ) (x : OnExec) (k : ℕ)
    → touches p f ≡ kept → holds (after p f x) k ≡ true → Reaches touches after p f x k
stays_there touches after p f x k e h =
    (p, f, x, subst (λ (t : Touch). Passes t p f x p f x k) (sym e) (refl, refl, refl), h)

pub taken_there : (touches : ℕ → ℕ → Touch) (after : ℕ → ℕ → OnExec → ℕ) (p f : ℕ) (x : OnExec) (k q g : ℕ) (y : OnExec)
    (op : Op) → touches q g ≡ taken op p f → HandsOn (held_op op x) y k → holds (after q g y) k ≡ true
    → Reaches touches after p f x k
taken_there touches after p f x k q g y op e hands h =
    (q, g, y, subst (λ (t : Touch). Passes t p f x q g y k) (sym e) (refl, refl, hands), h)

passes_if : (b : Bool) (t u : Touch) (p f : ℕ) (x : OnExec) (q g : ℕ) (y : OnExec) (k : ℕ)
    → Passes (if b then t else u) p f x q g y k
    → ((b ≡ true) × Passes t p f x q g y k) ⊎ ((b ≡ false) × Passes u p f x q g y k)
passes_if true t u p f x q g y k h = inl (refl, h)
passes_if false t u p f x q g y k h = inr (refl, h)

-- what was kept is where it was
here : (w : ℕ → ℕ → OnExec → ℕ) (p f : ℕ) (x : OnExec) (q g : ℕ) (y : OnExec) (k : ℕ) → q ≡ p → g ≡ f → y ≡ x
    → holds (w q g y) k ≡ true → holds (w p f x) k ≡ true
here w p f x q g y k eq eg ey h =
    subst (λ (r : ℕ). holds r k ≡ true)
    (ap (λ (r : ℕ). w r g y) eq ∙ ap (λ (r : ℕ). w p r y) eg ∙ ap (λ (r : OnExec). w p f r) ey) h

-- cells that are given, by a test, and others that are kept
given_moves : (b : ℕ → ℕ → Bool) (c : ℕ → ℕ → Cell) (w : ℕ → ℕ → OnExec → ℕ) (p f : ℕ) (x : OnExec) (k : ℕ)
    → (holds (if b p f then 0 else w p f x) k ≡ true)
    ↔ Reaches (λ q g. if b q g then given (c q g) else kept) w p f x k
given_moves b c w p f x k = (
  λ h. ⊎_elim
      (λ yes. absurd (both_ways _ (ap (λ (r : ℕ). holds r k) (cond-true (b p f) 0 (w p f x) yes) ∙ none_holds k) h))
      (λ no. stays_there _ w p f x k (cond-false (b p f) (given (c p f)) kept no)
      (ap (λ (r : ℕ). holds r k) (sym (cond-false (b p f) 0 (w p f x) no)) ∙ h))
      (cases_Bool (b p f)),
  λ reach. ⊎_elim (λ yes. absurd yes.1)
      (λ no. let e : b p f ≡ false = ap (λ (r : ℕ). b r f) (sym no.1.0) ∙ ap (λ (r : ℕ). b reach.0 r) (sym no.1.1) ∙ no.0 in
      ap (λ (r : ℕ). holds r k) (cond-false (b p f) 0 (w p f x) e)
      ∙ here w p f x reach.0 reach.1 reach.2 k no.1.0 no.1.1 no.1.2 reach.4)
      (passes_if (b reach.0 reach.1) (given (c reach.0 reach.1)) kept p f x reach.0 reach.1 reach.2 k reach.3),
)

-- ---- what an op hands on

all_hold : (k : ℕ) → k < 63 → holds all k ≡ true
all_hold k lt = all_holds k ∙ lt-ltb k 64 (omega arith)

abbrev pub HandsBack : HeldOp → (OnExec → ℕ) → ℕ → Type 0
HandsBack op after k = (y : OnExec) × HandsOn op y k × (holds (after y) k ≡ true)

hands_back : (op : HeldOp) (after : OnExec → ℕ) (k : ℕ) → k < 63
    → (holds (back_through op after) k ≡ true) ↔ HandsBack op after k
hands_back (Becomes c) after k lt = (λ h. absurd (both_ways _ (none_holds k) h), λ back. absurd back.1)
hands_back (Keeps None flag) after k lt = (
  λ h. (flag, (refl, all_hold k lt), h),
  λ back. subst (λ (y : OnExec). holds (after y) k ≡ true) (sym back.1.0) back.2,
)
hands_back (Keeps (Some m) flag) after k lt = (
  λ h. let parts = and_parts _ _ (sym (meet_holds (after flag) m k) ∙ h) in
      (flag, (refl, meet_holds all m k ∙ and_from _ _ (all_hold k lt) parts.1), parts.0),
  λ back. meet_holds (after flag) m k
      ∙ and_from _ _ (subst (λ (y : OnExec). holds (after y) k ≡ true) (sym back.1.0) back.2)
      (and_parts _ _ (sym (meet_holds all m k) ∙ back.1.1)).1,
)

-- a child's cell is just its parent's
hands_same : (x : OnExec) (k : ℕ) → k < 63 → HandsOn (held_op same x) x k
hands_same Set k lt = (refl, all_hold k lt)
hands_same Clear k lt = (refl, all_hold k lt)
hands_same Unsure k lt = (refl, all_hold k lt)

same_flag_from : (x y : OnExec) (k : ℕ) → HandsOn (held_op same x) y k → y ≡ x
same_flag_from Set y k h = sym h.0
same_flag_from Clear y k h = sym h.0
same_flag_from Unsure y k h = sym h.0

-- cells that are taken, by a test, and others that are kept
taken_back : (b : ℕ → ℕ → Bool) (op : Op) (me : ℕ) (from : ℕ → ℕ) (w : ℕ → ℕ → OnExec → ℕ) (p f : ℕ) (x : OnExec) (k : ℕ)
    → Reaches (λ q g. if b q g then taken op me (from g) else kept) w p f x k
    → ((b p f ≡ false) × (holds (w p f x) k ≡ true))
    ⊎ ((q g : ℕ) × (y : OnExec) × (b q g ≡ true) × (me ≡ p) × (from g ≡ f) × HandsOn (held_op op x) y k
    × (holds (w q g y) k ≡ true))
taken_back b op me from w p f x k reach =
    ⊎_elim
    (λ yes. inr (reach.0, reach.1, reach.2, yes.0, yes.1.0, yes.1.1, yes.1.2, reach.4))
    (λ no. inl (
      ap (λ (r : ℕ). b r f) (sym no.1.0) ∙ ap (λ (r : ℕ). b reach.0 r) (sym no.1.1) ∙ no.0,
      here w p f x reach.0 reach.1 reach.2 k no.1.0 no.1.1 no.1.2 reach.4,
    ))
    (passes_if (b reach.0 reach.1) (taken op me (from reach.1)) kept p f x reach.0 reach.1 reach.2 k reach.3)

-- ---- each effect

-- what is wanted before an effect of a line of process me, of each process
abbrev pub moved : Effect → ℕ → (ℕ → ℕ → OnExec → ℕ) → ℕ → ℕ → OnExec → ℕ
moved effect me w p f x =
    if p == me then undone effect (wanted_in_either effect me w) f x else (if is_child effect p then 0 else w p f x)

iff_along : (k a b : ℕ) (P : Type 0) → a ≡ b → (holds b k ≡ true) ↔ P → (holds a k ≡ true) ↔ P
iff_along k a b P e h =
    (λ t. h.0 (ap (λ (r : ℕ). holds r k) (sym e) ∙ t), λ t. ap (λ (r : ℕ). holds r k) e ∙ h.1 t)

own_if : (w : ℕ → ℕ) (p me : ℕ) (c : Bool)
    → (if p == me then (if c then 0 else w me) else w p) ≡ (if p == me && c then 0 else w p)
own_if w p me c =
    ⊎_elim
    (λ yes. cond-true (p == me) (if c then 0 else w me) (w p) yes
    ∙ ap (λ (r : ℕ). if c then 0 else w r) (sym (eqb-true p me yes))
    ∙ ap (λ (b : Bool). if b && c then 0 else w p) (sym yes))
    (λ no. cond-false (p == me) (if c then 0 else w me) (w p) no
    ∙ ap (λ (b : Bool). if b && c then 0 else w p) (sym no))
    (cases_Bool (p == me))

or_if : (a b : Bool) (n : ℕ) → (if b then 0 else (if a then 0 else n)) ≡ (if a || b then 0 else n)
or_if true true n = refl
or_if true false n = refl
or_if false true n = refl
or_if false false n = refl

kept_moves : (w : ℕ → ℕ → OnExec → ℕ) (p f : ℕ) (x : OnExec) (k : ℕ)
    → (holds (w p f x) k ≡ true) ↔ Reaches (λ q g. kept) w p f x k
kept_moves w p f x k = (
  λ h. stays_there (λ q g. kept) w p f x k refl h,
  λ reach. here w p f x reach.0 reach.1 reach.2 k reach.3.0 reach.3.1 reach.3.2 reach.4,
)

-- nothing is held in no rights
not_none : (k : ℕ) (b : Bool) (n : ℕ) → b ≡ true → holds (if b then 0 else n) k ≡ true → ⊥
not_none k b n is h =
    both_ways _ (ap (λ (r : ℕ). holds r k) (cond-true b 0 n is) ∙ none_holds k) h

-- execve(2), fexecve(2)
exec_moves : (me : ℕ) (w : ℕ → ℕ → OnExec → ℕ) (p f : ℕ) (x : OnExec) (k : ℕ) → k < 63
    → (holds (moved Exec me w p f x) k ≡ true) ↔ Reaches (effect_touch Exec me) w p f x k
exec_moves me w p f x k lt =
    let before : ℕ = back_through (held_op exec x) (w me f) in (
      λ h. ⊎_elim
          (λ yes. let back = (hands_back (held_op exec x) (w me f) k lt).0
          (ap (λ (r : ℕ). holds r k) (sym (cond-true (p == me) before (w p f x) yes)) ∙ h) in
          subst (λ (r : ℕ). Reaches (effect_touch Exec me) w r f x k) (sym (eqb-true p me yes))
          (taken_there (effect_touch Exec me) w me f x k me f back.0 exec
          (cond-true (me == me) (taken exec me f) kept (eq-eqb me me refl)) back.1 back.2))
          (λ no. stays_there (effect_touch Exec me) w p f x k (cond-false (p == me) (taken exec me f) kept no)
          (ap (λ (r : ℕ). holds r k) (sym (cond-false (p == me) before (w p f x) no)) ∙ h))
          (cases_Bool (p == me)),
      λ reach. ⊎_elim
          (λ stays. ap (λ (r : ℕ). holds r k) (cond-false (p == me) before (w p f x) stays.0) ∙ stays.1)
          (λ comes. ap (λ (r : ℕ). holds r k) (cond-true (p == me) before (w p f x) (eq-eqb p me (sym comes.4)))
          ∙ (hands_back (held_op exec x) (w me f) k lt).1 (
            comes.2,
            comes.6,
            here w me f comes.2 comes.0 comes.1 comes.2 k (eqb-true comes.0 me comes.3) comes.5 refl comes.7,
          ))
          (taken_back (λ q g. q == me) exec me (λ g. g) w p f x k reach),
    )

-- a cell that became another
change_moves : (g0 h0 me : ℕ) (op : Op) (w : ℕ → ℕ → OnExec → ℕ) (p f : ℕ) (x : OnExec) (k : ℕ) → k < 63
    → (holds (moved (Change g0 op h0) me w p f x) k ≡ true) ↔ Reaches (effect_touch (Change g0 op h0) me) w p f x k
change_moves g0 h0 me op w p f x k lt =
    let touches : ℕ → ℕ → Touch = effect_touch (Change g0 op h0) me in
    let b : ℕ → ℕ → Bool = λ q g. q == me && g == g0 in
    let left : ℕ = if f == g0 then 0 else w me f x in
    let back : ℕ = back_through (held_op op x) (w me g0) in
    let mine : ℕ = if f == h0 then join left back else left in
    let stays : (p == me) ≡ true → holds left k ≡ true → Reaches touches w p f x k = λ own h.
    ⊎_elim (λ gone. absurd (not_none k (f == g0) (w me f x) gone h))
    (λ other. stays_there touches w p f x k (cond-false (b p f) (taken op me h0) kept (and_right (p == me) (f == g0) other))
    (ap (λ (r : ℕ). holds (w r f x) k) (eqb-true p me own)
    ∙ ap (λ (r : ℕ). holds r k) (sym (cond-false (f == g0) 0 (w me f x) other)) ∙ h))
    (cases_Bool (f == g0)) in
    let comes : (p == me) ≡ true → (f == h0) ≡ true → holds back k ≡ true → Reaches touches w p f x k = λ own source h.
    let through = (hands_back (held_op op x) (w me g0) k lt).0 h in
    subst (λ (r : ℕ). Reaches touches w r f x k) (sym (eqb-true p me own))
    (subst (λ (r : ℕ). Reaches touches w me r x k) (sym (eqb-true f h0 source))
    (taken_there touches w me h0 x k me g0 through.0 op
    (cond-true (b me g0) (taken op me h0) kept
    (and_from (me == me) (g0 == g0) (eq-eqb me me refl) (eq-eqb g0 g0 refl))) through.1 through.2)) in (
      λ h. ⊎_elim
          (λ own. let it : holds mine k ≡ true = ap (λ (r : ℕ). holds r k) (sym (cond-true (p == me) mine (w p f x) own)) ∙ h in
          ⊎_elim
          (λ source. ⊎_elim (stays own) (comes own source)
          (or_cases _ _ (sym (join_holds left back k)
          ∙ ap (λ (r : ℕ). holds r k) (sym (cond-true (f == h0) (join left back) left source)) ∙ it)))
          (λ other. stays own (ap (λ (r : ℕ). holds r k) (sym (cond-false (f == h0) (join left back) left other)) ∙ it))
          (cases_Bool (f == h0)))
          (λ foreign. stays_there touches w p f x k
          (cond-false (b p f) (taken op me h0) kept (and_left (p == me) (f == g0) foreign))
          (ap (λ (r : ℕ). holds r k) (sym (cond-false (p == me) mine (w p f x) foreign)) ∙ h))
          (cases_Bool (p == me)),
      λ reach. ⊎_elim
          (λ kept_here. ⊎_elim
          (λ own. let other : (f == g0) ≡ false =
          ⊎_elim (λ n. absurd (both_ways _ n own)) (λ n. n) (and_cases (p == me) (f == g0) kept_here.0) in
          let is_left : holds left k ≡ true = ap (λ (r : ℕ). holds r k) (cond-false (f == g0) 0 (w me f x) other)
          ∙ ap (λ (r : ℕ). holds (w r f x) k) (sym (eqb-true p me own)) ∙ kept_here.1 in
          ap (λ (r : ℕ). holds r k) (cond-true (p == me) mine (w p f x) own)
          ∙ ⊎_elim
          (λ source. ap (λ (r : ℕ). holds r k) (cond-true (f == h0) (join left back) left source)
          ∙ join_holds left back k ∙ or_left _ _ is_left)
          (λ else_where. ap (λ (r : ℕ). holds r k) (cond-false (f == h0) (join left back) left else_where) ∙ is_left)
          (cases_Bool (f == h0)))
          (λ foreign. ap (λ (r : ℕ). holds r k) (cond-false (p == me) mine (w p f x) foreign) ∙ kept_here.1)
          (cases_Bool (p == me)))
          (λ c. let tests = and_parts (c.0 == me) (c.1 == g0) c.3 in
          ap (λ (r : ℕ). holds r k) (cond-true (p == me) mine (w p f x) (eq-eqb p me (sym c.4)))
          ∙ ap (λ (r : ℕ). holds r k) (cond-true (f == h0) (join left back) left (eq-eqb f h0 (sym c.5)))
          ∙ join_holds left back k
          ∙ or_right _ _ ((hands_back (held_op op x) (w me g0) k lt).1 (
            c.2,
            c.6,
            here w me g0 c.2 c.0 c.1 c.2 k (eqb-true c.0 me tests.0) (eqb-true c.1 g0 tests.1) (refl {a = c.2}) c.7,
          )))
          (taken_back b op me (λ g. h0) w p f x k reach),
    )

-- a fork
fork_moves : (child me : ℕ) (w : ℕ → ℕ → OnExec → ℕ) (p f : ℕ) (x : OnExec) (k : ℕ) → k < 63
    → (holds (moved (Fork child) me w p f x) k ≡ true) ↔ Reaches (effect_touch (Fork child) me) w p f x k
fork_moves child me w p f x k lt =
    let touches : ℕ → ℕ → Touch = effect_touch (Fork child) me in
    let its : ℕ = if child == me then 0 else w child f x in
    let mine : ℕ = join (w me f x) its in
    let others : ℕ = if p == child then 0 else w p f x in
    let comes : holds (w child f x) k ≡ true → Reaches touches w me f x k = λ h.
    taken_there touches w me f x k child f x same
    (cond-true (child == child) (taken same me f) kept (eq-eqb child child refl)) (hands_same x k lt) h in
    let stays : holds (w me f x) k ≡ true → Reaches touches w me f x k = λ h.
    ⊎_elim
    (λ self. comes (ap (λ (r : ℕ). holds (w r f x) k) (sym (eqb-true me child self)) ∙ h))
    (λ apart. stays_there touches w me f x k (cond-false (me == child) (taken same me f) kept apart) h)
    (cases_Bool (me == child)) in (
      λ h. ⊎_elim
          (λ own. subst (λ (r : ℕ). Reaches touches w r f x k) (sym (eqb-true p me own))
          (⊎_elim stays
          (λ from_child. ⊎_elim
          (λ self. absurd (not_none k (child == me) (w child f x) self from_child))
          (λ apart. comes (ap (λ (r : ℕ). holds r k) (sym (cond-false (child == me) 0 (w child f x) apart)) ∙ from_child))
          (cases_Bool (child == me)))
          (or_cases _ _ (sym (join_holds (w me f x) its k)
          ∙ ap (λ (r : ℕ). holds r k) (sym (cond-true (p == me) mine others own)) ∙ h))))
          (λ foreign. let it : holds others k ≡ true =
          ap (λ (r : ℕ). holds r k) (sym (cond-false (p == me) mine others foreign)) ∙ h in
          ⊎_elim
          (λ new. absurd (not_none k (p == child) (w p f x) new it))
          (λ old. stays_there touches w p f x k (cond-false (p == child) (taken same me f) kept old)
          (ap (λ (r : ℕ). holds r k) (sym (cond-false (p == child) 0 (w p f x) old)) ∙ it))
          (cases_Bool (p == child)))
          (cases_Bool (p == me)),
      λ reach. ⊎_elim
          (λ kept_here. ⊎_elim
          (λ own. ap (λ (r : ℕ). holds r k) (cond-true (p == me) mine others own)
          ∙ join_holds (w me f x) its k
          ∙ or_left _ _ (ap (λ (r : ℕ). holds (w r f x) k) (sym (eqb-true p me own)) ∙ kept_here.1))
          (λ foreign. ap (λ (r : ℕ). holds r k) (cond-false (p == me) mine others foreign)
          ∙ ap (λ (r : ℕ). holds r k) (cond-false (p == child) 0 (w p f x) kept_here.0) ∙ kept_here.1)
          (cases_Bool (p == me)))
          (λ c. let child_has : holds (w child f x) k ≡ true =
          here w child f x c.0 c.1 c.2 k (eqb-true c.0 child c.3) c.5 (same_flag_from x c.2 k c.6) c.7 in
          ap (λ (r : ℕ). holds r k) (cond-true (p == me) mine others (eq-eqb p me (sym c.4)))
          ∙ join_holds (w me f x) its k
          ∙ ⊎_elim
          (λ self. or_left _ _ (ap (λ (r : ℕ). holds (w r f x) k) (sym (eqb-true child me self)) ∙ child_has))
          (λ apart. or_right _ _ (ap (λ (r : ℕ). holds r k) (cond-false (child == me) 0 (w child f x) apart) ∙ child_has))
          (cases_Bool (child == me)))
          (taken_back (λ q g. q == child) same me (λ g. g) w p f x k reach),
    )

-- a fork that leaves one descriptor of both unknown
as_elsewhere : (child g0 me : ℕ) (w : ℕ → ℕ → OnExec → ℕ) (p f : ℕ) (x : OnExec) (k : ℕ) → (f == g0) ≡ false
    → Reaches (effect_touch (Fork child) me) w p f x k ↔ Reaches (effect_touch (ForkAs child g0) me) w p f x k
as_elsewhere child g0 me w p f x k other =
    let forks : ℕ → ℕ → Touch = effect_touch (Fork child) me in
    let both : ℕ → ℕ → Bool = λ q g. (q == me || q == child) && g == g0 in (
      λ reach. let same_fd : reach.1 ≡ f =
          ⊎_elim (λ t. t.1.1) (λ t. t.1.1)
          (passes_if (reach.0 == child) (taken same me reach.1) kept p f x reach.0 reach.1 reach.2 k reach.3) in
          let apart : both reach.0 reach.1 ≡ false =
          and_right (reach.0 == me || reach.0 == child) (reach.1 == g0) (ap (λ (r : ℕ). r == g0) same_fd ∙ other) in (
            reach.0,
            reach.1,
            reach.2,
            subst (λ (t : Touch). Passes t p f x reach.0 reach.1 reach.2 k)
                (sym (cond-false (both reach.0 reach.1) (given Unknown) (forks reach.0 reach.1) apart)) reach.3,
            reach.4,
          ),
      λ reach. ⊎_elim (λ gone. absurd gone.1) (λ t. (reach.0, reach.1, reach.2, t.1, reach.4))
          (passes_if (both reach.0 reach.1) (given Unknown) (forks reach.0 reach.1) p f x reach.0 reach.1 reach.2 k reach.3),
    )

as_here : (child g0 me : ℕ) (w : ℕ → ℕ → OnExec → ℕ) (p f : ℕ) (x : OnExec) (k : ℕ) → (f == g0) ≡ true
    → (holds (moved (ForkAs child g0) me w p f x) k ≡ true) ↔ Reaches (effect_touch (ForkAs child g0) me) w p f x k
as_here child g0 me w p f x k it =
    let touches : ℕ → ℕ → Touch = effect_touch (ForkAs child g0) me in
    let forks : ℕ → ℕ → Touch = effect_touch (Fork child) me in
    let both : ℕ → ℕ → Bool = λ q g. (q == me || q == child) && g == g0 in
    let all_mine : ℕ = wanted_in_either (ForkAs child g0) me w f x in
    let mine : ℕ = if f == g0 then 0 else all_mine in
    let others : ℕ = if p == child then 0 else w p f x in (
      λ h. ⊎_elim
          (λ own. absurd (not_none k (f == g0) all_mine it
          (ap (λ (r : ℕ). holds r k) (sym (cond-true (p == me) mine others own)) ∙ h)))
          (λ foreign. let left : holds others k ≡ true =
          ap (λ (r : ℕ). holds r k) (sym (cond-false (p == me) mine others foreign)) ∙ h in
          ⊎_elim
          (λ new. absurd (not_none k (p == child) (w p f x) new left))
          (λ old. stays_there touches w p f x k
          (cond-false (both p f) (given Unknown) (forks p f) (and_left (p == me || p == child) (f == g0) (or_from _ _ foreign old))
          ∙ cond-false (p == child) (taken same me f) kept old)
          (ap (λ (r : ℕ). holds r k) (sym (cond-false (p == child) 0 (w p f x) old)) ∙ left))
          (cases_Bool (p == child)))
          (cases_Bool (p == me)),
      λ reach. ⊎_elim (λ gone. absurd gone.1)
          (λ t. ⊎_elim
          (λ c. absurd (both_ways (both reach.0 reach.1) t.0 (and_from _ _ (or_right (reach.0 == me) (reach.0 == child) c.0)
          (ap (λ (r : ℕ). r == g0) c.1.1 ∙ it))))
          (λ s. let neither : (reach.0 == me || reach.0 == child) ≡ false =
          ⊎_elim (λ n. n) (λ n. absurd (both_ways _ n (ap (λ (r : ℕ). r == g0) s.1.1 ∙ it)))
          (and_cases (reach.0 == me || reach.0 == child) (reach.1 == g0) t.0) in
          let foreign : (p == me) ≡ false =
          ap (λ (r : ℕ). r == me) (sym s.1.0) ∙ (or_parts (reach.0 == me) (reach.0 == child) neither).0 in
          let old : (p == child) ≡ false = ap (λ (r : ℕ). r == child) (sym s.1.0) ∙ s.0 in
          ap (λ (r : ℕ). holds r k) (cond-false (p == me) mine others foreign)
          ∙ ap (λ (r : ℕ). holds r k) (cond-false (p == child) 0 (w p f x) old)
          ∙ here w p f x reach.0 reach.1 reach.2 k s.1.0 s.1.1 s.1.2 reach.4)
          (passes_if (reach.0 == child) (taken same me reach.1) kept p f x reach.0 reach.1 reach.2 k t.1))
          (passes_if (both reach.0 reach.1) (given Unknown) (forks reach.0 reach.1) p f x reach.0 reach.1 reach.2 k reach.3),
    )

as_moves : (child g0 me : ℕ) (w : ℕ → ℕ → OnExec → ℕ) (p f : ℕ) (x : OnExec) (k : ℕ) → k < 63
    → (holds (moved (ForkAs child g0) me w p f x) k ≡ true) ↔ Reaches (effect_touch (ForkAs child g0) me) w p f x k
as_moves child g0 me w p f x k lt =
    ⊎_elim (as_here child g0 me w p f x k)
    (λ other. let there = as_elsewhere child g0 me w p f x k other in
    let fork = fork_moves child me w p f x k lt in
    let is : moved (ForkAs child g0) me w p f x ≡ moved (Fork child) me w p f x =
    ap (λ (b : Bool). if p == me then (if b then 0 else wanted_in_either (ForkAs child g0) me w f x)
    else (if p == child then 0 else w p f x)) other in (
      λ h. there.0 (fork.0 (ap (λ (r : ℕ). holds r k) (sym is) ∙ h)),
      λ reach. ap (λ (r : ℕ). holds r k) is ∙ fork.1 (there.1 reach),
    ))
    (cases_Bool (f == g0))

-- what is wanted before an effect is what it hands on to what is wanted after it
pub moves : (effect : Effect) (me : ℕ) (w : ℕ → ℕ → OnExec → ℕ) (p f : ℕ) (x : OnExec) (k : ℕ) → k < 63
    → (holds (moved effect me w p f x) k ≡ true) ↔ Reaches (effect_touch effect me) w p f x k
moves Keep me w p f x k lt = iff_along k _ _ _ (same_own (λ q. w q f x) p me) (kept_moves w p f x k)
moves Enter me w p f x k lt = iff_along k _ _ _ (same_own (λ q. w q f x) p me) (kept_moves w p f x k)
moves (Start fds) me w p f x k lt = given_moves (λ q g. q == me) (λ q g. started (fds_spelled fds.now) g) w p f x k
moves Exit me w p f x k lt = given_moves (λ q g. q == me) (λ q g. Unknown) w p f x k
moves Forget me w p f x k lt = given_moves (λ q g. q == me) (λ q g. Unknown) w p f x k
moves Exec me w p f x k lt = exec_moves me w p f x k lt
moves (CloseFrom n) me w p f x k lt = iff_along k _ _ _ (own_if (λ q. w q f x) p me (nat_le n f))
    (given_moves (λ q g. q == me && nat_le n g) (λ q g. Closed) w p f x k)
moves (Give g c) me w p f x k lt = iff_along k _ _ _ (own_if (λ q. w q f x) p me (f == g))
    (given_moves (λ q h. q == me && h == g) (λ q h. c) w p f x k)
moves (GiveTwo g h c) me w p f x k lt = iff_along k _ _ _
    (ap (λ (n : ℕ). if p == me then n else w p f x) (or_if (f == g) (f == h) (w me f x))
    ∙ own_if (λ q. w q f x) p me (f == g || f == h))
    (given_moves (λ q i. q == me && (i == g || i == h)) (λ q i. c) w p f x k)
moves (Change g op h) me w p f x k lt = change_moves g h me op w p f x k lt
moves (Fork child) me w p f x k lt = fork_moves child me w p f x k lt
moves (ForkAs child g) me w p f x k lt = as_moves child g me w p f x k lt

-- ---- what a line needs

either : (a b n : Bool) → (a || (b || n)) ≡ ((b || a) || n)
either true true n = refl
either true false n = refl
either false true n = refl
either false false n = refl

with_holds : (b : Bool) (r s k : ℕ) → holds (if b then join r s else r) k ≡ ((b && holds s k) || holds r k)
with_holds true r s k = join_holds r s k ∙ or_swap (holds r k) (holds s k)
with_holds false r s k = refl

checks_hold : (checks : List Check) (w : ℕ → OnExec → ℕ) (f : ℕ) (x : OnExec) (k : ℕ)
    → holds (with_checks checks w f x) k ≡ (checks_need checks f k || holds (w f x) k)
checks_hold [] w f x k = refl
checks_hold (check ∷ checks) w f x k =
    checks_hold checks (wanted_with check.fd (λ y. check.needs) w) f x k
    ∙ ap (λ (b : Bool). checks_need checks f k || b) (with_holds (f == check.fd) (w f x) check.needs k)
    ∙ ap (λ (b : Bool). checks_need checks f k || ((b && holds check.needs k) || holds (w f x) k))
    (eq_turned f check.fd)
    ∙ either (checks_need checks f k) (check.fd == f && holds check.needs k) (holds (w f x) k)

needs_in : (s : Bool) (own : Bool) (checks : List Check) (w : ℕ → OnExec → ℕ) (f : ℕ) (x : OnExec) (k r : ℕ)
    → holds (if own then (if s then with_checks checks w f x else w f x) else r) k
    ≡ ((s && (own && checks_need checks f k)) || holds (if own then w f x else r) k)
needs_in true true checks w f x k r = checks_hold checks w f x k
needs_in _ _ checks w f x k r = refl

-- right by right: what is wanted before a line is live there
pub live_before : (step : Step) (d : Requirement) (effect : Effect) (me : ℕ) (w new : ℕ → ℕ → OnExec → ℕ)
    (later : List Step)
    → d ≡ requirement step.line → me ≡ step.line.pid → ((p f : ℕ) → effect_touch effect me p f ≡ touch step p f)
    → ((p f : ℕ) (x : OnExec) → new p f x ≡ wanted_before d effect me w p f x)
    → ((p f : ℕ) (x : OnExec) (k : ℕ) → k < 63 → (holds (w p f x) k ≡ true) ↔ Live later p f x k)
    → (p f : ℕ) (x : OnExec) (k : ℕ) → k < 63 → (holds (new p f x) k ≡ true) ↔ Live (step ∷ later) p f x k
live_before step d effect me w new later is_requirement is_me touches is live p f x k lt =
    let needs : Bool = is_success d.reply && (p == me && checks_need (listed d.checks) f k) in
    let is_needs : needs ≡ step_needs step p f k =
    ap (λ (r : ℕ). is_success d.reply && (p == r && checks_need (listed d.checks) f k)) is_me
    ∙ ap (λ (e : Requirement). is_success e.reply
    && (p == step.line.pid && checks_need (listed e.checks) f k)) is_requirement in
    let split : holds (new p f x) k ≡ (needs || holds (moved effect me w p f x) k) =
    ap (λ (r : ℕ). holds r k) (is p f x)
    ∙ needs_in (is_success d.reply) (p == me) (listed d.checks) (undone effect (wanted_in_either effect me w)) f x k
    (if is_child effect p then 0 else w p f x) in
    let reach = moves effect me w p f x k lt in (
      λ h. ⊎_elim (λ n. inl (sym is_needs ∙ n))
          (λ m. let r = reach.0 m in inr (
            r.0,
            r.1,
            r.2,
            subst (λ (t : Touch). Passes t p f x r.0 r.1 r.2 k) (touches r.0 r.1) r.3,
            (live r.0 r.1 r.2 k lt).0 r.4,
          ))
          (or_cases needs (holds (moved effect me w p f x) k) (sym split ∙ h)),
      λ alive. split ∙ ⊎_elim (λ n. or_left needs _ (is_needs ∙ n))
          (λ r. or_right needs _ (reach.1 (
            r.0,
            r.1,
            r.2,
            subst (λ (t : Touch). Passes t p f x r.0 r.1 r.2 k) (sym (touches r.0 r.1)) r.3,
            (live r.0 r.1 r.2 k lt).1 r.4,
          )))
          alive,
    )
