-- Descriptors that rise, as a loop tests them.
use Rattle.std.proofs.Common.{◌≡◌, ℕ, ◌+◌, Bool, true, false, cond, ltb, List, [], ◌∷◌, ◌++◌}
use Rattle.std.proofs.Common.{Option, Some, None, Result, Ok, Err, refl, sym, ap, ◌∙◌}
use Rattle.std.specs.List.{list_any}
use Rattle.std.proofs.lemmas.List.{append-nil}
use Rattle.cap_trace.specs.declared.fault.FirstFault.{FirstFault}
use Rattle.cap_trace.specs.declared.fault.FirstFault.TheVariants as faults
use Rattle.cap_trace.specs.Reading.{◌>>=◌, fd_at, fds_from}
use Rattle.cap_trace.specs.Views.{fds_in, TakesFd}

-- what went wrong, if anything did
abbrev pub failure : {A : Type 0} → Result A FirstFault → Option FirstFault
failure (Ok x) = None
failure (Err e) = Some e

failure-same : {A B : Type 0} (r : Result A FirstFault) (f : A → B) → failure (r >>= λ x. Ok (f x)) ≡ failure r
failure-same (Ok x) f = refl
failure-same (Err e) f = refl

not_failed : {A B : Type 0} (r : Result A FirstFault) (f : A → Result B FirstFault) → failure (r >>= f) ≡ None
    → (x : A) × (r ≡ Ok x) × (failure (f x) ≡ None)
not_failed (Ok x) f h = (x, refl, h)
not_failed (Err e) f h = absurd cc

tested : {A : Type 0} (b : Bool) (e : FirstFault) (r : Result A FirstFault) → failure (cond b (Err e) r) ≡ None
    → (b ≡ false) × (failure r ≡ None)
tested true e r h = absurd cc
tested false e r h = (refl, h)

-- descriptors that rise are all that the parts spell
pub rising_listed : (low : ℕ) (ts : List (List ℕ)) → failure (fds_from low ts) ≡ None → fds_from low ts ≡ Ok (fds_in ts)
unfolding fds_from fds_in
rising_listed low [] h = refl
rising_listed low (t ∷ ts) h =
    let a = not_failed (fd_at t)
    (λ f. cond (ltb f low) (Err faults.Argument) (fds_from (f + 1) ts) >>= λ fs. Ok (f ∷ fs)) h in
    let b = tested (ltb a.0 low) faults.Argument (fds_from (a.0 + 1) ts) (sym
    (failure-same (cond (ltb a.0 low) (Err faults.Argument) (fds_from (a.0 + 1) ts)) (λ fs. a.0 ∷ fs)) ∙ a.2) in
    let all : fds_in (t ∷ ts) ≡ a.0 ∷ fds_in ts =
    ap (λ (r : Result ℕ FirstFault). elim r as (λ _. List ℕ) [ Ok f ↦ f ∷ fds_in ts | Err e ↦ fds_in ts ]) a.1 in
    rw (a.1, b.0, rising_listed (a.0 + 1) ts b.1) (ap Ok (sym all))

-- ---- the descriptors that parts spell, by what the first of them does

abbrev pub with_first : Result ℕ FirstFault → List ℕ → List ℕ
with_first first fs = elim first as (λ _. List ℕ) [ Ok f ↦ f ∷ fs | Err e ↦ fs ]

first_is : (parts others : List (List ℕ)) (first : Result ℕ FirstFault) → TakesFd parts first others
    → fds_in parts ≡ with_first first (fds_in others)
unfolding fds_in
first_is parts others (Ok f) h = ap fds_in h.1 ∙ ap (λ (r : Result ℕ FirstFault). with_first r (fds_in others)) h.2
first_is parts others (Err e) h = ap fds_in h.1 ∙ ap (λ (r : Result ℕ FirstFault). with_first r (fds_in others)) h.2

-- with those in front of the parts
pub listed_on : (front : List ℕ) (parts others : List (List ℕ)) (first found : Result ℕ FirstFault) (total : List ℕ)
    → TakesFd parts first others → first ≡ found → front ++ fds_in parts ≡ total
    → front ++ with_first found (fds_in others) ≡ total
listed_on front parts others first found total h e listed =
    ap (λ (r : Result ℕ FirstFault). front ++ with_first r (fds_in others)) (sym e)
    ∙ ap (λ (fs : List ℕ). front ++ fs) (sym (first_is parts others first h)) ∙ listed

pub listed_end : (front : List ℕ) (parts : List (List ℕ)) (total : List ℕ) → parts ≡ [] → front ++ fds_in parts ≡ total
    → front ≡ total
unfolding fds_in
listed_end front parts total e h = sym (append-nil front) ∙ sym (ap (λ (x : List (List ℕ)). front ++ fds_in x) e) ∙ h

-- the same, as a loop seeks one of them
pub any_on : (test : ℕ → Bool) (parts others : List (List ℕ)) (first found : Result ℕ FirstFault) (any : Bool)
    → TakesFd parts first others → first ≡ found → list_any test (fds_in parts) ≡ any
    → list_any test (with_first found (fds_in others)) ≡ any
any_on test parts others first found any h e among =
    ap (λ (r : Result ℕ FirstFault). list_any test (with_first r (fds_in others))) (sym e)
    ∙ ap (λ (fs : List ℕ). list_any test fs) (sym (first_is parts others first h)) ∙ among

pub any_end : (test : ℕ → Bool) (parts : List (List ℕ)) (any : Bool) → parts ≡ [] → list_any test (fds_in parts) ≡ any
    → false ≡ any
unfolding fds_in
any_end test parts any e h = sym (ap (λ (x : List (List ℕ)). list_any test (fds_in x)) e) ∙ h

abbrev done : {A : Type 0} → A → Result A FirstFault
done x = Ok x

pub ok_same : {A : Type 0} (x y : A) → done x ≡ done y → x ≡ y
ok_same x y e = cc
