-- The findings of a trace, its first step first.
use Rattle.std.proofs.Common.{◌≡◌, ℕ, zero, suc, ◌+◌, ◌<◌, ◌≤◌, List, [], ◌∷◌, ◌++◌, length, map, refl, sym, ap, ◌∙◌}
use Rattle.std.proofs.Common.{subst, arith, inl, inr}
use Rattle.std.specs.Prelude.{◌⊎◌, slice_index_or}
use Rattle.std.specs.List.{All, IsAmong}
use Rattle.cap_machine.specs.declared.step.Step.{Step}
use Rattle.cap_machine.specs.declared.verdict.Found.{Found}
use Rattle.cap_machine.specs.declared.verdict.Finding.{Finding}
use Rattle.cap_machine.specs.State.{State}
use Rattle.cap_machine.specs.History.{step_after}
use Rattle.cap_machine.specs.Check.{check, said, found_at}
use Rattle.cap_machine.specs.Laws.{later as moved}
use Rattle.cap_limits.specs.LimitLaws.{Lacks, NewlyLacks}
use Rattle.cap_machine.proofs.Turns.{checks_in_turn}
use Rattle.cap_machine.proofs.Positions.{positions_within}

-- ---- members of a list

-- x is one of these
abbrev pub In : {X : Type 0} → List X → X → Type 0
In [] x = ⊥
In (y ∷ ys) x = (x ≡ y) ⊎ In ys x

pub in_at : {X : Type 0} (xs : List X) (x d : X) (i : ℕ) → i < length xs → x ≡ slice_index_or xs i d → In xs x
in_at [] x d i lt e = absurd (omega arith)
in_at (y ∷ ys) x d zero lt e = inl e
in_at (y ∷ ys) x d (suc i) lt e = inr (in_at ys x d i (omega arith) e)

pub in_among : {X : Type 0} (xs : List X) (x : X) → IsAmong xs x → In xs x
in_among xs x is = in_at xs x x is.0 is.1.0 is.1.1

pub among_in : {X : Type 0} (xs : List X) (x : X) → In xs x → IsAmong xs x
among_in [] x is = absurd is
among_in (y ∷ ys) x (inl e) = (zero, (omega arith, e))
among_in (y ∷ ys) x (inr is) = let rest = among_in ys x is in (suc rest.0, (omega (arith, rest.1.0), rest.1.1))

pub in_left : {X : Type 0} (xs ys : List X) (x : X) → In xs x → In (xs ++ ys) x
in_left [] ys x is = absurd is
in_left (z ∷ xs) ys x (inl e) = inl e
in_left (z ∷ xs) ys x (inr is) = inr (in_left xs ys x is)

pub in_right : {X : Type 0} (xs ys : List X) (x : X) → In ys x → In (xs ++ ys) x
in_right [] ys x is = is
in_right (z ∷ xs) ys x is = inr (in_right xs ys x is)

pub in_either : {X : Type 0} (xs ys : List X) (x : X) → In (xs ++ ys) x → In xs x ⊎ In ys x
in_either [] ys x is = inr is
in_either (z ∷ xs) ys x (inl e) = inl (inl e)
in_either (z ∷ xs) ys x (inr is) = elim (in_either xs ys x is) [ inl here ↦ inl (inr here) | inr there ↦ inr there ]

pub in_map : {X Y : Type 0} (f : X → Y) (xs : List X) (x : X) → In xs x → In (map f xs) (f x)
in_map f [] x is = absurd is
in_map f (y ∷ ys) x (inl e) = inl (ap f e)
in_map f (y ∷ ys) x (inr is) = inr (in_map f ys x is)

pub from_map : {X Y : Type 0} (f : X → Y) (xs : List X) (y : Y) → In (map f xs) y → (x : X) × In xs x × (y ≡ f x)
from_map f [] y is = absurd is
from_map f (z ∷ zs) y (inl e) = (z, inl refl, e)
from_map f (z ∷ zs) y (inr is) = let rest = from_map f zs y is in (rest.0, inr rest.1, rest.2)

-- each of the first list is in the second
pub record Within {X : Type 0} (new old : List X) : Type 0 where
  pub within : (x : X) → In new x → In old x

pub within_itself : {X : Type 0} (xs : List X) → Within xs xs
within_itself xs = record { within = λ x is. is }

pub within_all : {X : Type 0} (new old : List X) → Within new old → All (IsAmong old) new
within_all new old h k d lt = among_in old (slice_index_or new k d)
    (h.within (slice_index_or new k d) (in_at new (slice_index_or new k d) d k lt refl))

-- ---- findings

-- the first step's findings, and those of the later ones from the state after it
check_first : (s : State) (step : Step) (later : List Step)
    → check s (step ∷ later) ≡ map (found_at 1) (said step s) ++ map (moved 1) (check (step_after step s) later)
check_first s step later = checks_in_turn s (step ∷ []) later

pub found_now : (s : State) (step : Step) (later : List Step) (x : Finding) → In (said step s) x
    → In (check s (step ∷ later)) (found_at 1 x)
found_now s step later x is = subst (λ (r : List Found). In r (found_at 1 x)) (sym (check_first s step later))
    (in_left (map (found_at 1) (said step s)) (map (moved 1) (check (step_after step s) later)) (found_at 1 x)
    (in_map (found_at 1) (said step s) x is))

pub found_later : (s : State) (step : Step) (later : List Step) (x : Found) → In (check (step_after step s) later) x
    → In (check s (step ∷ later)) (moved 1 x)
found_later s step later x is = subst (λ (r : List Found). In r (moved 1 x)) (sym (check_first s step later))
    (in_right (map (found_at 1) (said step s)) (map (moved 1) (check (step_after step s) later)) (moved 1 x)
    (in_map (moved 1) (check (step_after step s) later) x is))

-- a finding belongs to the first step, or to a later one
pub found_when : (s : State) (step : Step) (later : List Step) (x : Found) → In (check s (step ∷ later)) x
    → ((y : Finding) × In (said step s) y × (x ≡ found_at 1 y))
    ⊎ ((y : Found) × In (check (step_after step s) later) y × (x ≡ moved 1 y))
found_when s step later x is =
    elim (in_either (map (found_at 1) (said step s)) (map (moved 1) (check (step_after step s) later)) x
    (subst (λ (r : List Found). In r x) (check_first s step later) is)) [
      | inl now ↦ inl (from_map (found_at 1) (said step s) x now)
      | inr then ↦ inr (from_map (moved 1) (check (step_after step s) later) x then)
    ]

-- positions begin at 1
pub found_after : (s : State) (later : List Step) (x : Found) → In (check s later) x → 1 ≤ x.at
found_after s later x is =
    let among = among_in (check s later) x is in
    let place = positions_within s later among.0 x among.1.0 in
    subst (λ (r : Found). 1 ≤ r.at) (sym among.1.1) place.0

-- where each step's findings are within those that it has in another state
pub within_check : (s t : State) (step : Step) (later : List Step) → Within (said step t) (said step s)
    → Within (check (step_after step t) later) (check (step_after step s) later)
    → Within (check t (step ∷ later)) (check s (step ∷ later))
within_check s t step later now then = record {
  within = λ x is. elim (found_when t step later x is) [
    | inl here ↦ subst (In (check s (step ∷ later))) (sym here.2)
        (found_now s step later here.0 (now.within here.0 here.1))
    | inr there ↦ subst (In (check s (step ∷ later))) (sym there.2)
        (found_later s step later there.0 (then.within there.0 there.1))
  ];
}

pub silent_check : (s : State) (step : Step) (later : List Step) → said step s ≡ []
    → check (step_after step s) later ≡ [] → check s (step ∷ later) ≡ []
silent_check s step later now then = check_first s step later
    ∙ ap (λ (r : List Finding). map (found_at 1) r ++ map (moved 1) (check (step_after step s) later)) now
    ∙ ap (map (moved 1)) then

-- ---- a right that is newly lacking

-- the first list has a finding that lacks the right, and the second has none at its position
pub record NewIn (new old : List Found) (k : ℕ) : Type 0 where
  pub found : Found
  pub fd : ℕ
  pub is_new : In new found
  pub lacks : Lacks found.finding fd k
  pub not_old : (other : Found) → In old other → other.at ≡ found.at → Lacks other.finding fd k → ⊥

pub newly_in : (new old : List Found) (k : ℕ) → NewIn new old k → NewlyLacks new old k
newly_in new old k h = (
  h.found,
  h.fd,
  among_in new h.found h.is_new,
  h.lacks,
  λ other is at lacks. h.not_old other (in_among old other is) at lacks,
)

-- a finding after one more step
pub new_later : (s t : State) (a b : Step) (before after : List Step) (k : ℕ)
    → NewIn (check (step_after a t) after) (check (step_after b s) before) k
    → NewIn (check t (a ∷ after)) (check s (b ∷ before)) k
new_later s t a b before after k h = record {
  found = moved 1 h.found;
  fd = h.fd;
  is_new = found_later t a after h.found h.is_new;
  lacks = h.lacks;
  not_old = λ other is at lacks. elim (found_when s b before other is) [
    | inl now ↦ absurd (let place = found_after (step_after a t) after h.found h.is_new in
        let first : other.at ≡ 1 = ap (λ (r : Found). r.at) now.2 in
        omega arith)
    | inr then ↦ h.not_old then.0 then.1
        (let second : other.at ≡ 1 + then.0.at = ap (λ (r : Found). r.at) then.2 in omega arith)
        (subst (λ (r : Found). Lacks r.finding h.fd k) then.2 lacks)
  ];
}

-- a finding of the first step
pub new_now : (s t : State) (step : Step) (later : List Step) (fd k : ℕ) (x : Finding) → In (said step t) x
    → Lacks x fd k
    → ((y : Finding) → In (said step s) y → Lacks y fd k → ⊥)
    → NewIn (check t (step ∷ later)) (check s (step ∷ later)) k
new_now s t step later fd k x is lack none = record {
  found = found_at 1 x;
  fd = fd;
  is_new = found_now t step later x is;
  lacks = lack;
  not_old = λ other among at lacks. elim (found_when s step later other among) [
    | inl now ↦ none now.0 now.1 (subst (λ (r : Found). Lacks r.finding fd k) now.2 lacks)
    | inr then ↦ absurd (let place = found_after (step_after step s) later then.0 then.1 in
        let second : other.at ≡ 1 + then.0.at = ap (λ (r : Found). r.at) then.2 in
        omega arith)
  ];
}
