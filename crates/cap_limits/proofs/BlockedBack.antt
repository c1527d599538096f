-- The first line in the way of capability mode, before a line.
use Rattle.std.proofs.Common.{◌≡◌, ◌⊎◌, ℕ, zero, suc, ◌+◌, ◌<◌, ◌==◌, nat_lt, ◌&&◌, if◌then◌else◌, Bool, true, false}
use Rattle.std.proofs.Common.{List, ◌∷◌, Option, Some, None, refl, sym, ap, ◌∙◌, subst, inl, inr, arith}
use Rattle.std.proofs.lemmas.Bool.{cases_Bool, cond-true, cond-false, eqb-true, eq-eqb, both_ways}
use Rattle.std.proofs.lemmas.Bool.{cases_lt, lt-ltb, le-ltb}
use Rattle.std.proofs.Math.Logic.{⊎_elim}
use Rattle.cap_machine.specs.declared.cell.Mode.{Mode}
use Rattle.cap_machine.specs.declared.cell.Mode.TheVariants.{Inside, Outside, Unsure}
use Rattle.cap_machine.specs.declared.rule.Requirement.{Requirement}
use Rattle.cap_machine.specs.declared.rule.Effect.{Effect}
use Rattle.cap_machine.specs.declared.rule.Effect.TheVariants.{Start, Exit, Enter}
use Rattle.cap_machine.specs.declared.rule.Effect.TheVariants.{Fork, ForkAs}
use Rattle.cap_machine.specs.declared.step.Step.{Step}
use Rattle.cap_machine.specs.Rule.{requirement}
use Rattle.cap_machine.specs.Judge.{is_forbidden}
use Rattle.cap_machine.specs.Touch.{Turn, stays, turns, follows, turn}
use Rattle.cap_machine.specs.Effect.{effect_turn}
use Rattle.cap_limits.specs.Live.{is_success, step_blocks, ModePasses, Blocks}
use Rattle.cap_limits.specs.Live.{IsFirstBlock}
use Rattle.cap_limits.specs.Code.Wanted.{earlier, unblocked, blocked_in_either, blocked_before}
use Rattle.cap_machine.specs.Effect.{is_child}

-- ---- the first number, from one on, at which a fact holds

abbrev pub IsFirst : (ℕ → Type 0) → ℕ → Option ℕ → Type 0
IsFirst P at None = (n : ℕ) → P n → ⊥
IsFirst P at (Some position) = (n : ℕ) × (position ≡ at + n) × P n × ((m : ℕ) → m < n → P m → ⊥)

first_same : (P Q : ℕ → Type 0) (at : ℕ) (o : Option ℕ) → ((n : ℕ) → P n → Q n) → ((n : ℕ) → Q n → P n)
    → IsFirst P at o → IsFirst Q at o
first_same P Q at None to of none = λ n q. none n (of n q)
first_same P Q at (Some position) to of first =
    (first.0, first.1, to first.0 first.2, λ m lt q. first.3 m lt (of m q))

first_either : (P Q : ℕ → Type 0) (at : ℕ) (a b : Option ℕ) → IsFirst P at a → IsFirst Q at b
    → IsFirst (λ n. P n ⊎ Q n) at (earlier a b)
first_either P Q at None b none first =
    first_same Q (λ n. P n ⊎ Q n) at b (λ n q. inr q) (λ n e. ⊎_elim (λ p. absurd (none n p)) (λ q. q) e) first
first_either P Q at (Some i) None first none =
    first_same P (λ n. P n ⊎ Q n) at (Some i) (λ n p. inl p) (λ n e. ⊎_elim (λ p. p) (λ q. absurd (none n q)) e) first
first_either P Q at (Some i) (Some j) a b =
    let Either : ℕ → Type 0 = λ n. P n ⊎ Q n in
    ⊎_elim
    (λ lt. subst (λ (r : Option ℕ). IsFirst Either at r)
    (sym (ap (λ (r : ℕ). Some r) (cond-true (nat_lt i j) i j (lt-ltb i j lt))))
    (a.0, a.1, inl a.2, λ m less e. ⊎_elim (a.3 m less) (b.3 m (omega (arith, a.1, b.1))) e))
    (λ le. subst (λ (r : Option ℕ). IsFirst Either at r)
    (sym (ap (λ (r : ℕ). Some r) (cond-false (nat_lt i j) i j (le-ltb i j le))))
    (b.0, b.1, inr b.2, λ m less e. ⊎_elim (a.3 m (omega (arith, a.1, b.1))) (b.3 m less) e))
    (cases_lt i j)

from_next : (P : ℕ → Type 0) → (P zero → ⊥) → ((n : ℕ) → P (suc n) → ⊥) → (n : ℕ) → P n → ⊥
from_next P first_not none zero p = first_not p
from_next P first_not none (suc n) p = none n p

before_next : (P : ℕ → Type 0) (n : ℕ) → (P zero → ⊥) → ((m : ℕ) → m < n → P (suc m) → ⊥) → (m : ℕ) → m < suc n → P m → ⊥
before_next P n first_not less zero lt p = first_not p
before_next P n first_not less (suc m) lt p = less m (omega (arith, lt)) p

-- the first number or one of the next
first_later : (P : ℕ → Type 0) (at : ℕ) (o : Option ℕ) → (P zero → ⊥) → IsFirst (λ n. P (suc n)) (at + 1) o → IsFirst P at o
first_later P at None first_not none = from_next P first_not none
first_later P at (Some position) first_not first =
    (suc first.0, omega (arith, first.1), first.2, before_next P first.0 first_not first.3)

first_now : (P : ℕ → Type 0) (at : ℕ) → P zero → IsFirst P at (Some at)
first_now P at p = (0, omega arith, p, λ m lt q. absurd (omega (arith, lt)))

as_first : (later : List Step) (at p : ℕ) (o : Option ℕ) → IsFirstBlock later at p o → IsFirst (Blocks later p) at o
as_first later at p None h = h
as_first later at p (Some position) h = h

from_first : (later : List Step) (at p : ℕ) (o : Option ℕ) → IsFirst (Blocks later p) at o → IsFirstBlock later at p o
from_first later at p None h = h
from_first later at p (Some position) h = h

-- ---- what a step hands on

-- step n of the later ones, in a mode that comes from that of process p before these turns, is in the way
abbrev pub Handed : (ℕ → Turn) → List Step → ℕ → ℕ → Type 0
Handed turned later p n = (q : ℕ) × ModePasses (turned q) p q × Blocks later q n

turn_if : (b : Bool) (t : Turn) (p q : ℕ) → ModePasses (if b then t else stays) p q
    → ((b ≡ true) × ModePasses t p q) ⊎ ((b ≡ false) × (q ≡ p))
turn_if true t p q h = inl (refl, h)
turn_if false t p q h = inr (refl, h)

stays_mode : (turned : ℕ → Turn) (later : List Step) (p n : ℕ) → turned p ≡ stays → Blocks later p n
    → Handed turned later p n
stays_mode turned later p n e blocks = (p, subst (λ (t : Turn). ModePasses t p p) (sym e) refl, blocks)

abbrev pub blocked_moved : Effect → ℕ → (ℕ → Option ℕ) → ℕ → Option ℕ
blocked_moved effect me blocked p =
    if p == me then unblocked effect (blocked_in_either effect me blocked)
    else (if is_child effect p then None else blocked p)

-- an effect that turns no mode
still : (effect : Effect) (me : ℕ) (blocked : ℕ → Option ℕ) (later : List Step) (at p : ℕ)
    → ((q : ℕ) → effect_turn effect me q ≡ stays) → blocked_moved effect me blocked p ≡ blocked p
    → IsFirst (Blocks later p) at (blocked p)
    → IsFirst (Handed (effect_turn effect me) later p) at (blocked_moved effect me blocked p)
still effect me blocked later at p none is first =
    subst (λ (r : Option ℕ). IsFirst (Handed (effect_turn effect me) later p) at r) (sym is)
    (first_same (Blocks later p) (Handed (effect_turn effect me) later p) at (blocked p)
    (λ n. stays_mode (effect_turn effect me) later p n (none p))
    (λ n h. let e : h.0 ≡ p = subst (λ (t : Turn). ModePasses t p h.0) (none h.0) h.1 in
    subst (λ (q : ℕ). Blocks later q n) e h.2) first)

same_blocked : (blocked : ℕ → Option ℕ) (p me : ℕ) → (if p == me then blocked me else blocked p) ≡ blocked p
same_blocked blocked p me =
    ⊎_elim (λ own. cond-true (p == me) (blocked me) (blocked p) own ∙ ap blocked (sym (eqb-true p me own)))
    (λ foreign. cond-false (p == me) (blocked me) (blocked p) foreign) (cases_Bool (p == me))

-- an effect that turns the mode of its process
turned_moves : (me : ℕ) (m : Mode) (blocked : ℕ → Option ℕ) (later : List Step) (at p : ℕ)
    → IsFirst (Blocks later p) at (blocked p)
    → IsFirst (Handed (λ q. if q == me then turns m else stays) later p) at (if p == me then None else blocked p)
turned_moves me m blocked later at p first =
    let turned : ℕ → Turn = λ q. if q == me then turns m else stays in
    let comes : (n : ℕ) → Handed turned later p n → ((p == me) ≡ false) × Blocks later p n = λ n h.
    ⊎_elim (λ t. absurd t.1)
    (λ t. (ap (λ (r : ℕ). r == me) (sym t.1) ∙ t.0, subst (λ (q : ℕ). Blocks later q n) t.1 h.2))
    (turn_if (h.0 == me) (turns m) p h.0 h.1) in
    ⊎_elim
    (λ own. subst (λ (r : Option ℕ). IsFirst (Handed turned later p) at r)
    (sym (cond-true (p == me) None (blocked p) own)) (λ n h. both_ways (p == me) (comes n h).0 own))
    (λ foreign. subst (λ (r : Option ℕ). IsFirst (Handed turned later p) at r)
    (sym (cond-false (p == me) None (blocked p) foreign))
    (first_same (Blocks later p) (Handed turned later p) at (blocked p)
    (λ n. stays_mode turned later p n (cond-false (p == me) (turns m) stays foreign)) (λ n h. (comes n h).1) first))
    (cases_Bool (p == me))

fork_source : (child me : ℕ) (later : List Step) (n : ℕ)
    → Handed (λ q. if q == child then follows me else stays) later me n → Blocks later child n ⊎ Blocks later me n
fork_source child me later n h =
    ⊎_elim (λ t. inl (subst (λ (q : ℕ). Blocks later q n) (eqb-true h.0 child t.0) h.2))
    (λ t. inr (subst (λ (q : ℕ). Blocks later q n) t.1 h.2))
    (turn_if (h.0 == child) (follows me) me h.0 h.1)

-- a fork
fork_turns : (child me : ℕ) (blocked : ℕ → Option ℕ) (later : List Step) (at p : ℕ)
    → ((q : ℕ) → IsFirst (Blocks later q) at (blocked q))
    → IsFirst (Handed (effect_turn (Fork child) me) later p) at (blocked_moved (Fork child) me blocked p)
fork_turns child me blocked later at p first =
    let turned : ℕ → Turn = λ q. if q == child then follows me else stays in
    let mine : Option ℕ = earlier (blocked me) (if child == me then None else blocked child) in
    let others : Option ℕ = if p == child then None else blocked p in
    let comes : (n : ℕ) → Handed turned later p n
    → ((me ≡ p) × Blocks later child n) ⊎ (((p == child) ≡ false) × Blocks later p n) = λ n h.
    ⊎_elim (λ t. inl (t.1, subst (λ (q : ℕ). Blocks later q n) (eqb-true h.0 child t.0) h.2))
    (λ t. inr (ap (λ (r : ℕ). r == child) (sym t.1) ∙ t.0, subst (λ (q : ℕ). Blocks later q n) t.1 h.2))
    (turn_if (h.0 == child) (follows me) p h.0 h.1) in
    let of_child : (n : ℕ) → Blocks later child n → Handed turned later me n = λ n b. (
      child,
      subst (λ (t : Turn). ModePasses t me child)
          (sym (cond-true (child == child) (follows me) stays (eq-eqb child child refl))) refl,
      b,
    ) in
    let of_me : (n : ℕ) → Blocks later me n → Handed turned later me n = λ n b.
    ⊎_elim (λ self. of_child n (subst (λ (q : ℕ). Blocks later q n) (eqb-true me child self) b))
    (λ apart. stays_mode turned later me n (cond-false (me == child) (follows me) stays apart) b)
    (cases_Bool (me == child)) in
    let Its : ℕ → Type 0 = λ n. ((child == me) ≡ false) × Blocks later child n in
    let its : IsFirst Its at (if child == me then None else blocked child) =
    ⊎_elim
    (λ self. subst (λ (r : Option ℕ). IsFirst Its at r) (sym (cond-true (child == me) None (blocked child) self))
    (λ n h. both_ways (child == me) h.0 self))
    (λ apart. subst (λ (r : Option ℕ). IsFirst Its at r) (sym (cond-false (child == me) None (blocked child) apart))
    (first_same (Blocks later child) Its at (blocked child) (λ n b. (apart, b)) (λ n h. h.1) (first child)))
    (cases_Bool (child == me)) in
    let all_mine : IsFirst (Handed turned later me) at mine =
    first_same (λ n. Blocks later me n ⊎ Its n) (Handed turned later me) at mine
    (λ n e. ⊎_elim (of_me n) (λ h. of_child n h.1) e)
    (λ n h. ⊎_elim
    (λ b. ⊎_elim (λ self. inl (subst (λ (q : ℕ). Blocks later q n) (eqb-true child me self) b))
    (λ apart. inr (apart, b)) (cases_Bool (child == me)))
    (λ b. inl b)
    (fork_source child me later n h))
    (first_either (Blocks later me) Its at (blocked me) (if child == me then None else blocked child) (first me) its) in
    ⊎_elim
    (λ own. subst (λ (r : Option ℕ). IsFirst (Handed turned later p) at r) (sym (cond-true (p == me) mine others own))
    (subst (λ (q : ℕ). IsFirst (Handed turned later q) at mine) (sym (eqb-true p me own)) all_mine))
    (λ foreign. subst (λ (r : Option ℕ). IsFirst (Handed turned later p) at r)
    (sym (cond-false (p == me) mine others foreign))
    (⊎_elim
    (λ new. subst (λ (r : Option ℕ). IsFirst (Handed turned later p) at r)
    (sym (cond-true (p == child) None (blocked p) new))
    (λ n h. ⊎_elim (λ t. both_ways (p == me) foreign (eq-eqb p me (sym t.0))) (λ t. both_ways (p == child) t.0 new)
    (comes n h)))
    (λ old. subst (λ (r : Option ℕ). IsFirst (Handed turned later p) at r)
    (sym (cond-false (p == child) None (blocked p) old))
    (first_same (Blocks later p) (Handed turned later p) at (blocked p)
    (λ n. stays_mode turned later p n (cond-false (p == child) (follows me) stays old))
    (λ n h. ⊎_elim (λ t. absurd (both_ways (p == me) foreign (eq-eqb p me (sym t.0)))) (λ t. t.1) (comes n h))
    (first p)))
    (cases_Bool (p == child))))
    (cases_Bool (p == me))

pub blocked_moves : (effect : Effect) (me : ℕ) (blocked : ℕ → Option ℕ) (later : List Step) (at p : ℕ)
    → ((q : ℕ) → IsFirst (Blocks later q) at (blocked q))
    → IsFirst (Handed (effect_turn effect me) later p) at (blocked_moved effect me blocked p)
blocked_moves Enter me b later at p first = turned_moves me Inside b later at p (first p)
blocked_moves (Start fds) me b later at p first = turned_moves me Outside b later at p (first p)
blocked_moves Exit me b later at p first = turned_moves me Unsure b later at p (first p)
blocked_moves (Fork child) me b later at p first = fork_turns child me b later at p first
blocked_moves (ForkAs child g) me b later at p first = fork_turns child me b later at p first
blocked_moves effect me b later at p first = still effect me b later at p (λ q. refl) (same_blocked b p me) (first p)

-- ---- a line

-- with the line itself
with_line : (own s forbids : Bool) (at : ℕ) (mine others : Option ℕ) (P : ℕ → Type 0)
    → (P zero → (s && (own && forbids)) ≡ true) → ((s && (own && forbids)) ≡ true → P zero)
    → IsFirst (λ n. P (suc n)) (at + 1) (if own then mine else others)
    → IsFirst P at (if own then (if s && forbids then Some at else mine) else others)
with_line true true true at mine others P to of first = first_now P at (of refl)
with_line true true false at mine others P to of first = first_later P at mine (λ p. both_ways _ refl (to p)) first
with_line true false forbids at mine others P to of first = first_later P at mine (λ p. both_ways _ refl (to p)) first
with_line false true forbids at mine others P to of first = first_later P at others (λ p. both_ways _ refl (to p)) first
with_line false false forbids at mine others P to of first = first_later P at others (λ p. both_ways _ refl (to p)) first

handed_turn : (one other : ℕ → Turn) (later : List Step) (p n : ℕ) → ((q : ℕ) → one q ≡ other q)
    → Handed one later p n → Handed other later p n
handed_turn one other later p n e h = (h.0, subst (λ (t : Turn). ModePasses t p h.0) (e h.0) h.1, h.2)

pub blocked_line : (step : Step) (d : Requirement) (effect : Effect) (at me : ℕ) (blocked new : ℕ → Option ℕ)
    (later : List Step) → d ≡ requirement step.line → me ≡ step.line.pid
    → ((p : ℕ) → effect_turn effect me p ≡ turn step p)
    → ((p : ℕ) → new p ≡ blocked_before d effect at me blocked p)
    → ((p : ℕ) → IsFirstBlock later (at + 1) p (blocked p)) → (p : ℕ) → IsFirstBlock (step ∷ later) at p (new p)
blocked_line step d effect at me blocked new later is_requirement is_me turned is first p =
    let blocks : Bool = is_success d.reply && (p == me && is_forbidden d.class) in
    let is_blocks : blocks ≡ step_blocks step p =
    ap (λ (r : ℕ). is_success d.reply && (p == r && is_forbidden d.class)) is_me
    ∙ ap (λ (e : Requirement). is_success e.reply && (p == step.line.pid && is_forbidden e.class)) is_requirement in
    let moves = blocked_moves effect me blocked later (at + 1) p (λ q. as_first later (at + 1) q (blocked q) (first q)) in
    from_first (step ∷ later) at p (new p)
    (subst (λ (r : Option ℕ). IsFirst (Blocks (step ∷ later) p) at r) (sym (is p))
    (with_line (p == me) (is_success d.reply) (is_forbidden d.class) at
    (unblocked effect (blocked_in_either effect me blocked)) (if is_child effect p then None else blocked p)
    (Blocks (step ∷ later) p) (λ b. is_blocks ∙ b) (λ b. sym is_blocks ∙ b)
    (first_same (Handed (effect_turn effect me) later p) (λ n. Blocks (step ∷ later) p (suc n)) (at + 1)
    (blocked_moved effect me blocked p)
    (λ n. handed_turn (effect_turn effect me) (turn step) later p n turned)
    (λ n. handed_turn (turn step) (effect_turn effect me) later p n (λ q. sym (turned q))) moves)))
