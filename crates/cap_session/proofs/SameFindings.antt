-- Lists of findings that are the same.
use Rattle.std.proofs.Common.{◌≡◌, ℕ, ◌<◌, List, [], ◌∷◌, length, map, get_or, refl, arith, suc, zero, true, false, Bool}
use Rattle.std.specs.Prelude.{◌&&◌}
use Rattle.std.proofs.Common.{◌+◌, ◌∙◌, inl, inr, sym}
use Rattle.std.proofs.lemmas.Bool.Decides.{eqb_tells}
use Rattle.std.proofs.lemmas.List.{get_or_default}
use Rattle.cap_machine.specs.declared.verdict.Finding.{Finding}
use Rattle.cap_machine.specs.declared.verdict.Found.{Found}
use Rattle.cap_session.specs.Changes.{same_finding, same_findings}

abbrev finding_of : Found → Finding
finding_of one = one.finding

pub same_all : (xs ys : List Found) → length xs ≡ length ys → ((k : ℕ) (d : Found) → k < length xs
    → same_finding (get_or xs k d).finding (get_or ys k d).finding ≡ true)
    → same_findings (map (λ one. one.finding) xs) (map (λ one. one.finding) ys) ≡ true
same_all [] [] long each = refl
same_all [] (y ∷ ys) long each = absurd (omega arith)
same_all (x ∷ xs) [] long each = absurd (omega arith)
same_all (x ∷ xs) (y ∷ ys) long each =
    rw (each 0 x (omega arith)) (same_all xs ys (omega arith) (λ k d lt. each (suc k) d (omega arith)))

and_false : (b : Bool) → (b && false) ≡ false
and_false true = refl
and_false false = refl

pub same_not : (xs ys : List Found) (k : ℕ) (d : Found) → length xs ≡ length ys → k < length xs
    → same_finding (get_or xs k d).finding (get_or ys k d).finding ≡ false
    → same_findings (map (λ one. one.finding) xs) (map (λ one. one.finding) ys) ≡ false
same_not [] ys k d long lt not_same = absurd (omega arith)
same_not (x ∷ xs) [] k d long lt not_same = absurd (omega arith)
same_not (x ∷ xs) (y ∷ ys) zero d long lt not_same = rw not_same refl
same_not (x ∷ xs) (y ∷ ys) (suc k) d long lt not_same =
    rw (same_not xs ys k d (omega arith) (omega arith) not_same) (and_false (same_finding x.finding y.finding))

pub same_long : (xs ys : List Found) → (length xs ≡ length ys → ⊥)
    → same_findings (map (λ one. one.finding) xs) (map (λ one. one.finding) ys) ≡ false
same_long [] [] long = absurd (long refl)
same_long [] (y ∷ ys) long = refl
same_long (x ∷ xs) [] long = refl
same_long (x ∷ xs) (y ∷ ys) long =
    rw (same_long xs ys (λ same. long (omega arith))) (and_false (same_finding x.finding y.finding))

-- one more that is the same
pub same_at : (xs ys : List Found) (i : ℕ) (none : Found) → length xs ≡ length ys → i < length xs
    → same_finding (get_or xs i none).finding (get_or ys i none).finding ≡ true
    → ((k : ℕ) (d : Found) → k < i → same_finding (get_or xs k d).finding (get_or ys k d).finding ≡ true)
    → (k : ℕ) (d : Found) → k < i + 1 → same_finding (get_or xs k d).finding (get_or ys k d).finding ≡ true
same_at xs ys i none long lt same before k d below = elim (eqb_tells k i) [
  | inl here ↦
      let within : i < length ys = omega (arith, long) in
      let one = get_or_default xs i d none lt in
      let other = get_or_default ys i d none within in
      rw here.1 (rw (one, other) same)
  | inr other ↦ before k d (omega (arith, other.1))
]

-- what is read of both at an index
pub same_read : (xs ys : List Found) (i : ℕ) (x y : Found) (b : Bool) → length xs ≡ length ys → i < length xs
    → x ≡ get_or xs i x → y ≡ get_or ys i y → same_finding x.finding y.finding ≡ b
    → same_finding (get_or xs i x).finding (get_or ys i x).finding ≡ b
same_read xs ys i x y b long lt is other same =
    let within : i < length ys = omega (arith, long) in
    let there : get_or ys i x ≡ y = get_or_default ys i x y within ∙ sym other in
    rw (← is, there) same
