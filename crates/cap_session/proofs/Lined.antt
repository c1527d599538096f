-- What lines give, one after the other.
use Rattle.std.proofs.Common.{◌≡◌, ℕ, suc, ◌+◌, ◌<◌, List, [], ◌∷◌, ◌++◌, length, refl, sym, ◌∙◌, ap, arith, true}
use Rattle.std.specs.Prelude.{Result, Ok, Err, nat_lt}
use Rattle.cap_session.specs.Texts.{with_line, with_lines}
use Rattle.cap_session.specs.declared.refused.Refusal.{Refusal}
use Rattle.cap_session.specs.declared.refused.Refused.{Refused}
use Rattle.cap_session.specs.declared.refused.Refused.TheVariants.{LongLine}

-- a line that is too long is refused
pub long_refused : {A : Type 0} (next : A → List ℕ → Result A Refused) (known : A) (line : List ℕ) → 1024 < length line
    → with_line next known line ≡ Err LongLine
long_refused next known line long =
    let is : nat_lt 1024 (length line) ≡ true = grind arith in
    rw is refl

-- the next line, where it is good and where it is refused
pub line_good : {A : Type 0} (next : A → List ℕ → Result A Refused) (known now : A) (before : ℕ) (line : List ℕ)
    (more : List (List ℕ)) → with_line next known line ≡ Ok now →
    with_lines next known before (line ∷ more) ≡ with_lines next now (before + 1) more
unfolding with_lines
line_good next known now before line more is = rw (is, with_lines) refl

pub line_bad : {A : Type 0} (next : A → List ℕ → Result A Refused) (known : A) (before : ℕ) (reason : Refused)
    (line : List ℕ) (more : List (List ℕ)) → with_line next known line ≡ Err reason →
    with_lines next known before (line ∷ more) ≡ Err (record { reason = reason; line = before + 1 })
unfolding with_lines
line_bad next known before reason line more is = rw (is, with_lines) refl

-- good lines before others
pub after_good : {A : Type 0} (next : A → List ℕ → Result A Refused) (known now : A) (before : ℕ)
    (xs ys : List (List ℕ)) → with_lines next known before xs ≡ Ok now →
    with_lines next known before (xs ++ ys) ≡ with_lines next now (before + length xs) ys
unfolding with_lines
after_good next known now before [] ys good =
    let same : known ≡ now = cc in
    let none : before ≡ before + 0 = omega arith in
    rw same (ap (λ n. with_lines next now n ys) none)
after_good {A = A} next known now before (x ∷ xs) ys good =
    go (with_line next known x) refl (λ mid rest. after_good next mid now (before + 1) xs ys rest)
  where
    go : (r : Result A Refused) → with_line next known x ≡ r → ((mid : A) → with_lines next mid (before + 1) xs ≡ Ok now
        → with_lines next mid (before + 1) (xs ++ ys) ≡ with_lines next now (before + 1 + length xs) ys) →
        with_lines next known before ((x ∷ xs) ++ ys) ≡ with_lines next now (before + length (x ∷ xs)) ys
    go (Ok mid) is more =
        let count : before + 1 + length xs ≡ before + suc (length xs) = omega arith in
        line_good next known mid before x (xs ++ ys) is
        ∙ more mid (sym (line_good next known mid before x xs is) ∙ good) ∙ ap (λ n. with_lines next now n ys) count
    go (Err c) is more =
        let bad : Result A Refusal = Err (record { reason = c; line = before + 1 }) in
        let none : bad ≡ Ok now = sym (line_bad next known before c x xs is) ∙ good in
        cc

-- a refused line before others
pub after_refused : {A : Type 0} (next : A → List ℕ → Result A Refused) (known : A) (e : Refusal) (before : ℕ)
    (xs ys : List (List ℕ)) → with_lines next known before xs ≡ Err e →
    with_lines next known before (xs ++ ys) ≡ Err e
unfolding with_lines
after_refused next known e before [] ys bad = cc
after_refused {A = A} next known e before (x ∷ xs) ys bad =
    go (with_line next known x) refl (λ mid rest. after_refused next mid e (before + 1) xs ys rest)
  where
    go : (r : Result A Refused) → with_line next known x ≡ r → ((mid : A) → with_lines next mid (before + 1) xs ≡ Err e
        → with_lines next mid (before + 1) (xs ++ ys) ≡ Err e) → with_lines next known before ((x ∷ xs) ++ ys) ≡ Err e
    go (Ok mid) is more = line_good next known mid before x (xs ++ ys) is
        ∙ more mid (sym (line_good next known mid before x xs is) ∙ bad)
    go (Err c) is more = line_bad next known before c x (xs ++ ys) is ∙ sym (line_bad next known before c x xs is) ∙ bad

pub no_line : {A : Type 0} (next : A → List ℕ → Result A Refused) (known : A) (before : ℕ)
    → with_lines next known before [] ≡ Ok known
unfolding with_lines
no_line next known before = refl
