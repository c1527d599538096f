-- A state beside one that has fewer rights, and no later line misses them.
use Rattle.std.proofs.Common.{◌≡◌, ℕ, suc, ◌^◌, ◌<◌, ◌≤◌, ◌==◌, Bool, true, false, ◌&&◌, ◌||◌, not, if◌then◌else◌, List}
use Rattle.std.proofs.Common.{[]}
use Rattle.std.proofs.Common.{◌∷◌, ◌++◌, map, Option, Some, None, refl, sym, ap, ◌∙◌, subst, inl, inr}
use Rattle.std.specs.Prelude.{◌⊎◌}
use Rattle.std.proofs.lemmas.Bool.{and_from, and_parts, or_cases, or_left, or_right, eq-eqb}
use Rattle.cap_rights.specs.Rights.{all, holds, has_all, minus}
use Rattle.cap_machine.specs.declared.cell.OnExec.{OnExec}
use Rattle.cap_machine.specs.declared.cell.Cell.{Cell}
use Rattle.cap_machine.specs.declared.cell.Cell.TheVariants.{Held}
use Rattle.cap_machine.specs.declared.cell.HeldOp.{HeldOp}
use Rattle.cap_machine.specs.declared.cell.HeldOp.TheVariants.{Becomes, Keeps}
use Rattle.cap_machine.specs.declared.cell.Op.{Op}
use Rattle.cap_machine.specs.declared.cell.Mode.{Mode}
use Rattle.cap_machine.specs.declared.cell.Mode.TheVariants.{Inside}
use Rattle.cap_machine.specs.declared.step.Step.{Step}
use Rattle.cap_machine.specs.declared.rule.Check.{Check}
use Rattle.cap_machine.specs.declared.rule.Class.{Class}
use Rattle.cap_machine.specs.declared.rule.Requirement.{Requirement}
use Rattle.cap_machine.specs.declared.rule.Reply.{Reply}
use Rattle.cap_machine.specs.declared.rule.Reply.TheVariants.{Success, NotCapable, NotPermitted, Other}
use Rattle.cap_machine.specs.declared.rule.LimitWord.{LimitWord}
use Rattle.cap_machine.specs.declared.verdict.Finding.{Finding}
use Rattle.cap_machine.specs.declared.verdict.Finding.TheVariants as say
use Rattle.cap_machine.specs.State.{State}
use Rattle.cap_machine.specs.Op.{applied, held, held_op, masked}
use Rattle.cap_machine.specs.Touch.{Touch, kept, given, taken, Turn, stays, turns, follows, touch, turn}
use Rattle.cap_machine.specs.History.{touched, turned, step_after}
use Rattle.cap_machine.specs.Judge.{listed, is_inside, is_outside, is_forbidden, is_allowed, shortfall, fault, faults}
use Rattle.cap_machine.specs.Judge.{forbidden, judged_by, is_excused, all_excused, has_check}
use Rattle.cap_machine.specs.Rule.{requirement}
use Rattle.cap_machine.specs.Check.{check, said}
use Rattle.cap_limits.specs.Live.{Live, HandsOn, Passes, ModePasses, Blocks, checks_need, is_success}
use Rattle.cap_machine.proofs.NamedNeeds.{AllNamed, item_checks}
use Rattle.cap_limits.proofs.LimitBits.{IsPart, part_masked, masked_set, masked_from, masked_parts, part_has}
use Rattle.cap_limits.proofs.LimitBits.{part_lacks}
use Rattle.cap_limits.proofs.LimitBits.{has_more}
use Rattle.cap_limits.proofs.LimitFindings.{Within, within_itself, within_check}

-- ---- one cell

-- Both cells are held with one flag. The second has part of the rights of the first, and each of those that are live.
pub record Less (live : OnExec → ℕ → Type 0) (c e : Cell) : Type 0 where
  pub rights : ℕ
  pub fewer : ℕ
  pub flag : OnExec
  pub is : c ≡ Held rights flag
  pub is_less : e ≡ Held fewer flag
  pub set : rights ≤ all
  pub set_less : fewer ≤ all
  pub is_part : IsPart fewer rights
  pub enough : (k : ℕ) → k < 63 → holds rights k ≡ true → live flag k → holds fewer k ≡ true

-- the second cell is the first, or has fewer rights
abbrev pub Beside : (OnExec → ℕ → Type 0) → Cell → Cell → Type 0
Beside live c e = (e ≡ c) ⊎ Less live c e

pub beside_for : (live other : OnExec → ℕ → Type 0) (c e : Cell) → ((y : OnExec) (k : ℕ) → other y k → live y k)
    → Beside live c e → Beside other c e
beside_for live other c e h (inl same) = inl same
beside_for live other c e h (inr less) = inr (record {
  rights = less.rights;
  fewer = less.fewer;
  flag = less.flag;
  is = less.is;
  is_less = less.is_less;
  set = less.set;
  set_less = less.set_less;
  is_part = less.is_part;
  enough = λ k lt is alive. less.enough k lt is (h less.flag k alive);
})

-- ---- what is said of one line

if_both : (a b : Bool) (x y : Finding) → a ≡ b → x ≡ y
    → (if a then [] else x ∷ []) ≡ (if b then [] else y ∷ [])
if_both a b x y same alike =
    ap (λ (c : Bool). if c then [] else x ∷ []) same ∙ ap (λ (z : Finding). if b then [] else z ∷ []) alike

fault_same : (word : LimitWord) (one : Check) (c e : Cell) → one.needs < 2 ^ 63
    → Beside (λ y k. holds one.needs k ≡ true) c e → fault word one e ≡ fault word one c
fault_same word one c e lt (inl same) = ap (fault word one) same
fault_same word one c e lt (inr h) =
    let enough : (k : ℕ) → k < 63 → holds one.needs k ≡ true → holds h.rights k ≡ true → holds h.fewer k ≡ true =
    λ k kt needs is. h.enough k kt is needs in
    ap (fault word one) h.is_less
    ∙ if_both (has_all h.fewer one.needs) (has_all h.rights one.needs)
    (shortfall word one.fd (minus one.needs h.fewer)) (shortfall word one.fd (minus one.needs h.rights))
    (part_has h.fewer h.rights one.needs h.set_less h.set lt h.is_part enough)
    (ap (shortfall word one.fd) (part_lacks h.fewer h.rights one.needs h.set_less h.set lt h.is_part enough))
    ∙ sym (ap (fault word one) h.is)

faults_same : (word : LimitWord) (checks : List Check) (cells less : ℕ → Cell) → AllNamed checks
    → ((f : ℕ) → Beside (λ y k. checks_need checks f k ≡ true) (cells f) (less f))
    → faults word checks (map (λ (one : Check). less one.fd) checks)
    ≡ faults word checks (map (λ (one : Check). cells one.fd) checks)
faults_same word [] cells less are beside = refl
faults_same word (one ∷ checks) cells less are beside =
    let needs : ℕ → ℕ → Type 0 = λ f k. checks_need (one ∷ checks) f k ≡ true in
    let here = fault_same word one (cells one.fd) (less one.fd) are.0
    (beside_for (λ y k. needs one.fd k) (λ y k. holds one.needs k ≡ true) (cells one.fd) (less one.fd)
    (λ y k is. or_left (one.fd == one.fd && holds one.needs k) (checks_need checks one.fd k)
    (and_from (one.fd == one.fd) (holds one.needs k) (eq-eqb one.fd one.fd refl) is)) (beside one.fd)) in
    let rest = faults_same word checks cells less are.1
    (λ f. beside_for (λ y k. needs f k) (λ y k. checks_need checks f k ≡ true) (cells f) (less f)
    (λ y k is. or_right (one.fd == f && holds one.needs k) (checks_need checks f k) is) (beside f)) in
    ap (λ (r : List Finding). r ++ faults word checks (map (λ (more : Check). less more.fd) checks)) here
    ∙ ap (λ (r : List Finding). fault word one (cells one.fd) ++ r) rest

excused_more : (live : OnExec → ℕ → Type 0) (excuse : Option ℕ) (c e : Cell) → Beside live c e
    → is_excused excuse e ≡ true → is_excused excuse c ≡ true
excused_more live excuse c e (inl same) is = ap (is_excused excuse) (sym same) ∙ is
excused_more live None c e (inr h) is = is
excused_more live (Some x) c e (inr h) is =
    ap (is_excused (Some x)) h.is
    ∙ has_more h.fewer h.rights x h.is_part (sym (ap (is_excused (Some x)) h.is_less) ∙ is)

all_excused_more : (live : ℕ → OnExec → ℕ → Type 0) (checks : List Check) (cells less : ℕ → Cell)
    → ((f : ℕ) → Beside (live f) (cells f) (less f))
    → all_excused checks (map (λ (one : Check). less one.fd) checks) ≡ true
    → all_excused checks (map (λ (one : Check). cells one.fd) checks) ≡ true
all_excused_more live [] cells less beside is = refl
all_excused_more live (one ∷ checks) cells less beside is =
    let parts = and_parts (is_excused one.excuse (less one.fd))
    (all_excused checks (map (λ (more : Check). less more.fd) checks)) is in
    and_from (is_excused one.excuse (cells one.fd)) (all_excused checks (map (λ (more : Check). cells more.fd) checks))
    (excused_more (live one.fd) one.excuse (cells one.fd) (less one.fd) (beside one.fd) parts.0)
    (all_excused_more live checks cells less beside parts.1)

-- the mode is the same, or that of a process that has entered, where nothing is in the way
abbrev pub ModeBeside : (ℕ → Type 0) → Mode → Mode → Type 0
ModeBeside blocks m n = (n ≡ m) ⊎ ((n ≡ Inside) × ((i : ℕ) → blocks i → ⊥))

forbidden_same : (class : Class) (m n : Mode) → (n ≡ m) ⊎ ((n ≡ Inside) × (is_forbidden class ≡ true → ⊥))
    → forbidden class n ≡ forbidden class m
forbidden_same class m n (inl same) = ap (forbidden class) same
forbidden_same class m n (inr entered) = by (is_forbidden class) entered.1
  where
    by : (b : Bool) → (b ≡ true → ⊥)
        → (if b && is_inside n then say.Forbidden ∷ [] else []) ≡ (if b && is_inside m then say.Forbidden ∷ [] else [])
    by true none = absurd (none refl)
    by false none = refl

outside_before : (m n : Mode) (P : Type 0) → (n ≡ m) ⊎ ((n ≡ Inside) × P) → is_outside n ≡ true → is_outside m ≡ true
outside_before m n P (inl same) is = ap is_outside (sym same) ∙ is
outside_before m n P (inr entered) is = absurd (let inside : is_outside n ≡ false = ap is_outside entered.0 in cc)

within_if : (a b : Bool) (x : Finding) → (a ≡ true → b ≡ true)
    → Within (if a then x ∷ [] else []) (if b then x ∷ [] else [])
within_if true b x h =
    subst (λ (c : Bool). Within (x ∷ []) (if c then x ∷ [] else [])) (sym (h refl)) (within_itself (x ∷ []))
within_if false b x h = record { within = λ y is. absurd is }

within_same : (xs ys : List Finding) → xs ≡ ys → Within xs ys
within_same xs ys same = subst (Within xs) same (within_itself xs)

or_or : (a b c : Bool) → (a ≡ true → b ≡ true) → (a || c) ≡ true → (b || c) ≡ true
or_or a b c h is = elim (or_cases a c is) [ inl first ↦ or_left b c (h first) | inr second ↦ or_right b c second ]

not_or : (at a b : Bool) → (a ≡ true → b ≡ true) → (not at || a) ≡ true → (not at || b) ≡ true
not_or true a b h is = h is
not_or false a b h is = refl

judged_within : (reply : Reply) (d : Requirement) (m n : Mode) (cells less : ℕ → Cell) → AllNamed (listed d.checks)
    → ((f : ℕ) → Beside (λ y k. (is_success reply && checks_need (listed d.checks) f k) ≡ true) (cells f) (less f))
    → (n ≡ m) ⊎ ((n ≡ Inside) × ((is_success reply && is_forbidden d.class) ≡ true → ⊥))
    → Within (judged_by reply d n (map (λ (one : Check). less one.fd) (listed d.checks)))
    (judged_by reply d m (map (λ (one : Check). cells one.fd) (listed d.checks)))
judged_within Success d m n cells less are beside modes =
    within_same _ _
    (ap (λ (r : List Finding). r
    ++ faults d.word (listed d.checks) (map (λ (one : Check). less one.fd) (listed d.checks)))
    (forbidden_same d.class m n modes)
    ∙ ap (λ (r : List Finding). forbidden d.class m ++ r) (faults_same d.word (listed d.checks) cells less are beside))
judged_within NotCapable d m n cells less are beside modes =
    let before = all_excused (listed d.checks) (map (λ (one : Check). cells one.fd) (listed d.checks)) in
    let after = all_excused (listed d.checks) (map (λ (one : Check). less one.fd) (listed d.checks)) in
    within_if (has_check d.checks && (after && (not d.at || is_outside n)))
    (has_check d.checks && (before && (not d.at || is_outside m))) say.Refusal (λ is.
    let first = and_parts (has_check d.checks) (after && (not d.at || is_outside n)) is in
    let second = and_parts after (not d.at || is_outside n) first.1 in
    and_from (has_check d.checks) (before && (not d.at || is_outside m)) first.0
    (and_from before (not d.at || is_outside m)
    (all_excused_more (λ f y k. false ≡ true) (listed d.checks) cells less beside second.0)
    (not_or d.at (is_outside n) (is_outside m) (outside_before m n _ modes) second.1)))
judged_within NotPermitted d m n cells less are beside modes =
    within_if (is_outside n || is_allowed d.class) (is_outside m || is_allowed d.class) say.ModeRefusal
    (or_or (is_outside n) (is_outside m) (is_allowed d.class) (outside_before m n _ modes))
judged_within Other d m n cells less are beside modes = within_itself []

-- ---- a state

-- The second state is the first but for rights that no later step misses, and for processes that have entered with
-- nothing in the way.
pub record Enough (later : List Step) (s less : State) : Type 0 where
  pub cells : (p f : ℕ) → Beside (Live later p f) (s.cell p f) (less.cell p f)
  pub modes : (p : ℕ) → ModeBeside (Blocks later p) (s.mode p) (less.mode p)

pub enough_itself : (later : List Step) (s : State) → Enough later s s
enough_itself later s = record { cells = λ p f. inl refl; modes = λ p. inl refl }

own_needs : (b c : Bool) (me : ℕ) → (b && c) ≡ true → (b && (me == me && c)) ≡ true
own_needs b c me is =
    let parts = and_parts b c is in
    and_from b (me == me && c) parts.0 (and_from (me == me) c (eq-eqb me me refl) parts.1)

-- of the next step only what is said without it
pub said_within : (step : Step) (later : List Step) (s less : State) → Enough (step ∷ later) s less
    → Within (said step less) (said step s)
said_within step later s less enough =
    let d = requirement step.line in
    let me = step.line.pid in
    judged_within d.reply d (s.mode me) (less.mode me) (s.cell me) (less.cell me) (item_checks step.line.item)
    (λ f. beside_for (Live (step ∷ later) me f)
    (λ y k. (is_success d.reply && checks_need (listed d.checks) f k) ≡ true) (s.cell me f) (less.cell me f)
    (λ y k is. inl (own_needs (is_success d.reply) (checks_need (listed d.checks) f k) me is)) (enough.cells me f))
    (elim (enough.modes me) [
      | inl same ↦ inl same
      | inr entered ↦ inr (entered.0, λ is. entered.1 0 (own_needs (is_success d.reply) (is_forbidden d.class) me is))
    ])

-- ---- what a touch makes of them

op_beside : (op : Op) (live next : OnExec → ℕ → Type 0) (c e : Cell)
    → ((x y : OnExec) (k : ℕ) → HandsOn (held_op op x) y k → next y k → live x k)
    → Beside live c e → Beside next (applied op c) (applied op e)
op_beside op live next c e back (inl same) = inl (ap (applied op) same)
op_beside op live next c e back (inr h) = by (held_op op h.flag) refl
  where
    by : (hop : HeldOp) → held_op op h.flag ≡ hop → Beside next (applied op c) (applied op e)
    by hop is =
        let first : applied op c ≡ held hop h.rights = ap (applied op) h.is ∙ ap (λ o. held o h.rights) is in
        let second : applied op e ≡ held hop h.fewer = ap (applied op) h.is_less ∙ ap (λ o. held o h.fewer) is in
        made hop is first second
      where
        made : (hop : HeldOp) → held_op op h.flag ≡ hop → applied op c ≡ held hop h.rights
            → applied op e ≡ held hop h.fewer → Beside next (applied op c) (applied op e)
        made (Becomes cell) is first second = inl (second ∙ sym first)
        made (Keeps mask flag) is first second = inr (record {
          rights = masked mask h.rights;
          fewer = masked mask h.fewer;
          flag = flag;
          is = first;
          is_less = second;
          set = masked_set mask h.rights h.set;
          set_less = masked_set mask h.fewer h.set_less;
          is_part = part_masked mask h.fewer h.rights h.is_part;
          enough = λ k lt has alive. (let parts = masked_parts mask h.rights k lt has in
              masked_from mask h.fewer k lt parts.1 (h.enough k lt parts.0
              (back h.flag flag k (subst (λ o. HandsOn o flag k) (sym is) (refl, parts.1)) alive)));
        })

touched_beside : (t : Touch) (live : ℕ → ℕ → OnExec → ℕ → Type 0) (next : OnExec → ℕ → Type 0)
    (cells less : ℕ → ℕ → Cell) (q g : ℕ)
    → ((p f : ℕ) (x y : OnExec) (k : ℕ) → Passes t p f x q g y k → next y k → live p f x k)
    → ((p f : ℕ) → Beside (live p f) (cells p f) (less p f))
    → Beside next (touched t cells q g) (touched t less q g)
touched_beside kept live next cells less q g back beside =
    beside_for (live q g) next (cells q g) (less q g) (λ y k alive. back q g y y k (refl, refl, refl) alive)
    (beside q g)
touched_beside (given c) live next cells less q g back beside = inl refl
touched_beside (taken op from g0) live next cells less q g back beside =
    op_beside op (live from g0) next (cells from g0) (less from g0)
    (λ x y k hands alive. back from g0 x y k (refl, refl, hands) alive) (beside from g0)

turned_beside : (t : Turn) (blocks : ℕ → ℕ → Type 0) (next : ℕ → Type 0) (modes less : ℕ → Mode) (q : ℕ)
    → ((p n : ℕ) → ModePasses t p q → next n → blocks p (suc n))
    → ((p : ℕ) → ModeBeside (blocks p) (modes p) (less p))
    → ModeBeside next (turned t modes q) (turned t less q)
turned_beside stays blocks next modes less q back beside = elim (beside q) [
  | inl same ↦ inl same
  | inr entered ↦ inr (entered.0, λ n in_way. entered.1 (suc n) (back q n refl in_way))
]
turned_beside (turns m) blocks next modes less q back beside = inl refl
turned_beside (follows r) blocks next modes less q back beside = elim (beside r) [
  | inl same ↦ inl same
  | inr entered ↦ inr (entered.0, λ n in_way. entered.1 (suc n) (back r n refl in_way))
]

pub enough_after : (step : Step) (later : List Step) (s less : State) → Enough (step ∷ later) s less
    → Enough later (step_after step s) (step_after step less)
enough_after step later s less enough = record {
  cells = λ q g. touched_beside (touch step q g) (Live (step ∷ later)) (Live later q g) s.cell less.cell q g
      (λ p f x y k passes alive. inr (q, g, y, passes, alive)) enough.cells;
  modes = λ q. turned_beside (turn step q) (Blocks (step ∷ later)) (Blocks later q) s.mode less.mode q
      (λ p n passes in_way. (q, passes, in_way)) enough.modes;
}

-- later findings are there with all the rights too
pub enough_check : (later : List Step) (s less : State) → Enough later s less
    → Within (check less later) (check s later)
enough_check [] s less enough = within_itself []
enough_check (step ∷ later) s less enough =
    within_check s less step later (said_within step later s less enough)
    (enough_check later (step_after step s) (step_after step less) (enough_after step later s less enough))
