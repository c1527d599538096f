-- A live right that is lacking shows: some later line lacks it.
use Rattle.std.proofs.Common.{◌≡◌, ℕ, ◌<◌, ◌≤◌, ◌==◌, Bool, true, false, Option, None, ◌&&◌, not, if◌then◌else◌, List}
use Rattle.std.proofs.Common.{[]}
use Rattle.std.proofs.Common.{◌∷◌, ◌++◌, map, refl, sym, ap, ◌∙◌, subst, arith, inl, inr}
use Rattle.std.proofs.lemmas.Bool.{and_parts, or_cases, eqb-true}
use Rattle.cap_rights.specs.Rights.{all, holds, has_all, minus}
use Rattle.cap_machine.specs.declared.cell.OnExec.{OnExec}
use Rattle.cap_machine.specs.declared.cell.Cell.{Cell}
use Rattle.cap_machine.specs.declared.cell.Cell.TheVariants.{Unknown, Closed, Held}
use Rattle.cap_machine.specs.declared.cell.HeldOp.{HeldOp}
use Rattle.cap_machine.specs.declared.cell.HeldOp.TheVariants.{Becomes, Keeps}
use Rattle.cap_machine.specs.declared.cell.Mode.{Mode}
use Rattle.cap_machine.specs.declared.step.Step.{Step}
use Rattle.cap_machine.specs.declared.rule.Check.{Check}
use Rattle.cap_machine.specs.declared.rule.Requirement.{Requirement}
use Rattle.cap_machine.specs.declared.rule.Reply.{Reply}
use Rattle.cap_machine.specs.declared.rule.Reply.TheVariants.{Success}
use Rattle.cap_machine.specs.declared.rule.LimitWord.{LimitWord}
use Rattle.cap_machine.specs.declared.rule.LimitWord.TheVariants.{Missing, Expanded}
use Rattle.cap_machine.specs.declared.verdict.Finding.{Finding}
use Rattle.cap_machine.specs.declared.verdict.Finding.TheVariants as say
use Rattle.cap_machine.specs.State.{State}
use Rattle.cap_machine.specs.Op.{applied, held, held_op, masked}
use Rattle.cap_machine.specs.Touch.{Touch, kept, given, taken, touch}
use Rattle.cap_machine.specs.History.{touched, step_after}
use Rattle.cap_machine.specs.Judge.{listed, is_inside, is_forbidden, shortfall, fault, faults, forbidden, judged_by}
use Rattle.cap_machine.specs.Rule.{requirement}
use Rattle.cap_machine.specs.Check.{check}
use Rattle.cap_limits.specs.Live.{Live, HandsOn, Passes, step_needs, checks_need, is_success}
use Rattle.cap_limits.specs.LimitLaws.{Lacks, LimitsAreLeast}
use Rattle.cap_limits.proofs.LimitBits.{ones_hold, minus_holds, has_all_each, masked_from, masked_lacks, masked_set, rights_of_cell}
use Rattle.cap_limits.proofs.LimitFindings.{In, in_left, in_right, in_either, NewIn, new_now, new_later, newly_in}

-- ---- one line

lacks_shortfall : (word : LimitWord) (f lacking k : ℕ) → holds lacking k ≡ true → Lacks (shortfall word f lacking) f k
lacks_shortfall Missing f lacking k is = (refl, is)
lacks_shortfall Expanded f lacking k is = (refl, is)

shortfall_lacks : (word : LimitWord) (f lacking g k : ℕ) → Lacks (shortfall word f lacking) g k
    → (f ≡ g) × (holds lacking k ≡ true)
shortfall_lacks Missing f lacking g k h = h
shortfall_lacks Expanded f lacking g k h = h

-- a finding that lacks the right
record Lacking (xs : List Finding) (f k : ℕ) : Type 0 where
  finding : Finding
  is : In xs finding
  lacks : Lacks finding f k

lacking_left : (xs ys : List Finding) (f k : ℕ) → Lacking xs f k → Lacking (xs ++ ys) f k
lacking_left xs ys f k h =
    record { finding = h.finding; is = in_left xs ys h.finding h.is; lacks = h.lacks }

lacking_right : (xs ys : List Finding) (f k : ℕ) → Lacking ys f k → Lacking (xs ++ ys) f k
lacking_right xs ys f k h =
    record { finding = h.finding; is = in_right xs ys h.finding h.is; lacks = h.lacks }

true_not : (a b : Bool) → a ≡ true → b ≡ false → (a && not b) ≡ true
true_not true true is lacks = absurd (cc)
true_not true false is lacks = refl
true_not false b is lacks = absurd (cc)

not_both : (a b : Bool) → b ≡ true → (a && not b) ≡ true → ⊥
not_both true true is both = cc
not_both true false is both = cc
not_both false b is both = cc

-- a check of a cell that lacks the right
fault_lacks : (word : LimitWord) (one : Check) (cell : Cell) (fewer k : ℕ) (flag : OnExec) → cell ≡ Held fewer flag
    → fewer ≤ all → k < 63 → holds one.needs k ≡ true → holds fewer k ≡ false → Lacking (fault word one cell) one.fd k
fault_lacks word one cell fewer k flag is le lt needs lacks =
    subst (λ (c : Cell). Lacking (fault word one c) one.fd k) (sym is) (by (has_all fewer one.needs) refl)
  where
    by : (b : Bool) → has_all fewer one.needs ≡ b
        → Lacking (if b then [] else shortfall word one.fd (minus one.needs fewer) ∷ []) one.fd k
    by true has = absurd (let there = has_all_each fewer one.needs k has needs in cc)
    by false has = record {
      finding = shortfall word one.fd (minus one.needs fewer);
      is = inl refl;
      lacks = lacks_shortfall word one.fd (minus one.needs fewer) k (minus_holds one.needs fewer k le lt
          ∙ true_not (holds one.needs k) (holds fewer k) needs lacks);
    }

-- and of one that holds it
fault_holds : (word : LimitWord) (one : Check) (cell : Cell) (rights f k : ℕ) (flag : OnExec)
    → (one.fd ≡ f → cell ≡ Held rights flag)
    → rights ≤ all → k < 63 → holds rights k ≡ true → (x : Finding) → In (fault word one cell) x → Lacks x f k → ⊥
fault_holds word one Unknown rights f k flag is le lt has x found lacks = found
fault_holds word one Closed rights f k flag is le lt has x (inl e) lacks =
    subst (λ (y : Finding). Lacks y f k) e lacks
fault_holds word one Closed rights f k flag is le lt has x (inr found) lacks = found
fault_holds word one (Held there y) rights f k flag is le lt has x found lacks = by (has_all there one.needs) found
  where
    by : (b : Bool) → In (if b then [] else shortfall word one.fd (minus one.needs there) ∷ []) x → ⊥
    by true found = found
    by false (inl e) =
        let h =
        shortfall_lacks word one.fd (minus one.needs there) f k (subst (λ (z : Finding). Lacks z f k) e lacks) in
        let same : there ≡ rights = ap rights_of_cell (is h.0) in
        not_both (holds one.needs k) (holds rights k) has (sym (minus_holds one.needs rights k le lt)
        ∙ ap (λ (r : ℕ). holds (minus one.needs r) k) (sym same) ∙ h.1)
    by false (inr found) = found

checks_lack : (word : LimitWord) (checks : List Check) (cells : ℕ → Cell) (f fewer k : ℕ) (flag : OnExec)
    → checks_need checks f k ≡ true → cells f ≡ Held fewer flag → fewer ≤ all → k < 63 → holds fewer k ≡ false
    → Lacking (faults word checks (map (λ (one : Check). cells one.fd) checks)) f k
checks_lack word [] cells f fewer k flag needs is le lt lacks = absurd (cc)
checks_lack word (one ∷ checks) cells f fewer k flag needs is le lt lacks =
    elim (or_cases (one.fd == f && holds one.needs k) (checks_need checks f k) needs) [
      | inl here ↦ (let both = and_parts (one.fd == f) (holds one.needs k) here in
          let same : one.fd ≡ f = eqb-true one.fd f both.0 in
          lacking_left (fault word one (cells one.fd))
          (faults word checks (map (λ (more : Check). cells more.fd) checks)) f k
          (subst (λ (g : ℕ). Lacking (fault word one (cells one.fd)) g k) same
          (fault_lacks word one (cells one.fd) fewer k flag (ap cells same ∙ is) le lt both.1 lacks)))
      | inr there ↦ lacking_right (fault word one (cells one.fd))
          (faults word checks (map (λ (more : Check). cells more.fd) checks)) f k
          (checks_lack word checks cells f fewer k flag there is le lt lacks)
    ]

checks_hold : (word : LimitWord) (checks : List Check) (cells : ℕ → Cell) (f rights k : ℕ) (flag : OnExec)
    → cells f ≡ Held rights flag → rights ≤ all → k < 63 → holds rights k ≡ true → (x : Finding)
    → In (faults word checks (map (λ (one : Check). cells one.fd) checks)) x → Lacks x f k → ⊥
checks_hold word [] cells f rights k flag is le lt has x found lacks = found
checks_hold word (one ∷ checks) cells f rights k flag is le lt has x found lacks =
    elim (in_either (fault word one (cells one.fd))
    (faults word checks (map (λ (more : Check). cells more.fd) checks)) x
    found) [
      | inl here ↦ fault_holds word one (cells one.fd) rights f k flag (λ same. ap cells same ∙ is) le lt has x here
          lacks
      | inr there ↦ checks_hold word checks cells f rights k flag is le lt has x there lacks
    ]

judged_lacks : (reply : Reply) (d : Requirement) (m : Mode) (cells : ℕ → Cell) (f fewer k : ℕ) (flag : OnExec)
    → is_success reply ≡ true → checks_need (listed d.checks) f k ≡ true → cells f ≡ Held fewer flag → fewer ≤ all
    → k < 63
    → holds fewer k ≡ false
    → Lacking (judged_by reply d m (map (λ (one : Check). cells one.fd) (listed d.checks))) f k
judged_lacks Success d m cells f fewer k flag ok needs is le lt lacks =
    lacking_right (forbidden d.class m)
    (faults d.word (listed d.checks) (map (λ (one : Check). cells one.fd) (listed d.checks)))
    f k (checks_lack d.word (listed d.checks) cells f fewer k flag needs is le lt lacks)
judged_lacks _ d m cells f fewer k flag ok needs is le lt lacks = absurd (cc)

forbidden_lacks : (b : Bool) (x : Finding) (f k : ℕ) → In (if b then say.Forbidden ∷ [] else []) x → Lacks x f k → ⊥
forbidden_lacks true x f k (inl e) lacks = subst (λ (y : Finding). Lacks y f k) e lacks
forbidden_lacks true x f k (inr found) lacks = found
forbidden_lacks false x f k found lacks = found

judged_holds : (reply : Reply) (d : Requirement) (m : Mode) (cells : ℕ → Cell) (f rights k : ℕ) (flag : OnExec)
    → is_success reply ≡ true → cells f ≡ Held rights flag → rights ≤ all → k < 63 → holds rights k ≡ true
    → (x : Finding)
    → In (judged_by reply d m (map (λ (one : Check). cells one.fd) (listed d.checks))) x → Lacks x f k → ⊥
judged_holds Success d m cells f rights k flag ok is le lt has x found lacks =
    elim (in_either (forbidden d.class m)
    (faults d.word (listed d.checks) (map (λ (one : Check). cells one.fd) (listed d.checks))) x found) [
      | inl here ↦ forbidden_lacks (is_forbidden d.class && is_inside m) x f k here lacks
      | inr there ↦ checks_hold d.word (listed d.checks) cells f rights k flag is le lt has x there lacks
    ]
judged_holds _ d m cells f rights k flag ok is le lt has x found lacks = absurd (cc)

-- what a step that needs the right is
pub record Needing (step : Step) (p f k : ℕ) : Type 0 where
  pub succeeds : is_success (requirement step.line).reply ≡ true
  pub own : p ≡ step.line.pid
  pub needs : checks_need (listed (requirement step.line).checks) f k ≡ true

pub needing : (step : Step) (p f k : ℕ) → step_needs step p f k ≡ true → Needing step p f k
needing step p f k is =
    let d = requirement step.line in
    let first = and_parts (is_success d.reply) (p == step.line.pid && checks_need (listed d.checks) f k) is in
    let second = and_parts (p == step.line.pid) (checks_need (listed d.checks) f k) first.1 in
    record { succeeds = first.0; own = eqb-true p step.line.pid second.0; needs = second.1 }

-- ---- a trace

-- what a touch that hands the cell on makes of it
pub record Handed (t : Touch) (p f : ℕ) (x : OnExec) (q g : ℕ) (y : OnExec) (k : ℕ) : Type 0 where
  pub mask : Option ℕ
  pub leaves : holds (masked mask all) k ≡ true
  pub becomes : (cells : ℕ → ℕ → Cell) (rights : ℕ) → cells p f ≡ Held rights x
      → touched t cells q g ≡ Held (masked mask rights) y

hands_on : (op : HeldOp) (y : OnExec) (k : ℕ) → HandsOn op y k
    → (mask : Option ℕ) × (holds (masked mask all) k ≡ true)
    × ((rights : ℕ) → held op rights ≡ Held (masked mask rights) y)
hands_on (Becomes cell) y k h = absurd h
hands_on (Keeps mask flag) y k h = (mask, h.1, λ rights. ap (Held (masked mask rights)) h.0)

pub handed : (t : Touch) (p f : ℕ) (x : OnExec) (q g : ℕ) (y : OnExec) (k : ℕ) → k < 63 → Passes t p f x q g y k
    → Handed t p f x q g y k
handed kept p f x q g y k lt h = record {
  mask = None;
  leaves = ones_hold 64 k (omega arith);
  becomes = λ cells rights is. ap (λ (r : ℕ). cells r g) h.0 ∙ ap (cells p) h.1 ∙ is ∙ ap (Held rights) (sym h.2);
}
handed (given c) p f x q g y k lt h = absurd h
handed (taken op from g0) p f x q g y k lt h =
    let next = hands_on (held_op op x) y k h.2 in
    record {
      mask = next.0;
      leaves = next.1;
      becomes = λ cells rights is.
          ap (applied op) (ap (λ (r : ℕ). cells r g0) h.0 ∙ ap (cells p) h.1 ∙ is) ∙ next.2 rights;
    }

-- the right is held in one state and not in the other
pub record Differ (s less : State) (p f k : ℕ) (flag : OnExec) : Type 0 where
  pub rights : ℕ
  pub fewer : ℕ
  pub is : s.cell p f ≡ Held rights flag
  pub is_less : less.cell p f ≡ Held fewer flag
  pub set : rights ≤ all
  pub set_less : fewer ≤ all
  pub has : holds rights k ≡ true
  pub lacks : holds fewer k ≡ false

differ_later : (s less : State) (step : Step) (p f k : ℕ) (x : OnExec) (q g : ℕ) (y : OnExec) → k < 63
    → Differ s less p f k x → Passes (touch step q g) p f x q g y k
    → Differ (step_after step s) (step_after step less) q g k y
differ_later s less step p f k x q g y lt d passes =
    let h = handed (touch step q g) p f x q g y k lt passes in
    record {
      rights = masked h.mask d.rights;
      fewer = masked h.mask d.fewer;
      is = h.becomes s.cell d.rights d.is;
      is_less = h.becomes less.cell d.fewer d.is_less;
      set = masked_set h.mask d.rights d.set;
      set_less = masked_set h.mask d.fewer d.set_less;
      has = masked_from h.mask d.rights k lt h.leaves d.has;
      lacks = masked_lacks h.mask d.fewer k d.lacks;
    }

differ_now : (s less : State) (step : Step) (later : List Step) (p f k : ℕ) (x : OnExec) → k < 63
    → Differ s less p f k x
    → Needing step p f k → NewIn (check less (step ∷ later)) (check s (step ∷ later)) k
differ_now s less step later p f k x lt d n =
    let dem = requirement step.line in
    let me = step.line.pid in
    let lacking = judged_lacks dem.reply dem (less.mode me) (less.cell me) f d.fewer k x n.succeeds n.needs
    (ap (λ (r : ℕ). less.cell r f) (sym n.own) ∙ d.is_less) d.set_less lt d.lacks in
    new_now s less step later f k lacking.finding lacking.is lacking.lacks
    (judged_holds dem.reply dem (s.mode me) (s.cell me) f d.rights k x n.succeeds
    (ap (λ (r : ℕ). s.cell r f) (sym n.own) ∙ d.is) d.set lt d.has)

pub least : (later : List Step) (s less : State) (p f k : ℕ) (x : OnExec) → k < 63 → Differ s less p f k x
    → Live later p f x k → NewIn (check less later) (check s later) k
least [] s less p f k x lt d live = absurd live
least (step ∷ later) s less p f k x lt d (inl needs) =
    differ_now s less step later p f k x lt d (needing step p f k needs)
least (step ∷ later) s less p f k x lt d (inr rest) =
    new_later s less step step later later k
    (least later (step_after step s) (step_after step less) rest.0 rest.1 k rest.2 lt
    (differ_later s less step p f k x rest.0 rest.1 rest.2 lt d rest.3) rest.4)

pub limits_are_least : LimitsAreLeast
limits_are_least s less later p f rights fewer k flag sets sets_less lt is has live is_less lacks =
    newly_in (check less later) (check s later) k
    (least later s less p f k flag lt (record {
      rights = rights;
      fewer = fewer;
      is = is;
      is_less = is_less;
      set = sets p f rights flag is;
      set_less = sets_less p f fewer flag is_less;
      has = has;
      lacks = lacks;
    }) live)
