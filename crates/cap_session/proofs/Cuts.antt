-- How bytes are cut.
use Rattle.std.proofs.Common.{◌≡◌, ℕ, zero, suc, ◌+◌, ◌<◌, List, [], ◌∷◌, ◌++◌, length, take, drop, get_or, refl, sym}
use Rattle.std.proofs.Common.{◌∙◌, ap, append_assoc, add-one, arith, true, false, cond}
use Rattle.std.specs.Prelude.{◌==◌, Some, None}
use Rattle.std.proofs.lemmas.List.{append-nil}
use Rattle.std.proofs.lemmas.Bool.{false_from_ne_true}
use Rattle.memchr.specs.Find.{IsFirstByte, is_byte}
use Rattle.cap_session.specs.Lines.{whole_lines, last_piece}

pub whole_lines-append : (held xs ys : List ℕ)
    → whole_lines held (xs ++ ys) ≡ whole_lines held xs ++ whole_lines (last_piece held xs) ys
unfolding whole_lines last_piece
whole_lines-append held [] ys = refl
whole_lines-append held (b ∷ xs) ys =
    let lf : whole_lines [] (xs ++ ys) ≡ whole_lines [] xs ++ whole_lines (last_piece [] xs) ys =
    whole_lines-append [] xs ys in
    let other : whole_lines (held ++ b ∷ []) (xs ++ ys) ≡ whole_lines (held ++ b ∷ []) xs
    ++ whole_lines (last_piece (held ++ b ∷ []) xs) ys = whole_lines-append (held ++ b ∷ []) xs ys in
    elim (b == 10) as (λ v. cond v (held ∷ whole_lines [] (xs ++ ys)) (whole_lines (held ++ b ∷ []) (xs ++ ys))
    ≡ cond v (held ∷ whole_lines [] xs) (whole_lines (held ++ b ∷ []) xs)
    ++ whole_lines (cond v (last_piece [] xs) (last_piece (held ++ b ∷ []) xs)) ys) [
      | true ↦ ap (λ ls. held ∷ ls) lf
      | false ↦ other
    ]

pub last_piece-append : (held xs ys : List ℕ) → last_piece held (xs ++ ys) ≡ last_piece (last_piece held xs) ys
unfolding last_piece
last_piece-append held [] ys = refl
last_piece-append held (b ∷ xs) ys =
    elim (b == 10) as (λ v. cond v (last_piece [] (xs ++ ys)) (last_piece (held ++ b ∷ []) (xs ++ ys))
    ≡ last_piece (cond v (last_piece [] xs) (last_piece (held ++ b ∷ []) xs)) ys) [
      | true ↦ last_piece-append [] xs ys
      | false ↦ last_piece-append (held ++ b ∷ []) xs ys
    ]

-- the bytes up to the first LF complete a line
pub record Cut (held bytes : List ℕ) (k : ℕ) : Type 0 where
  pub whole : whole_lines held bytes ≡ (held ++ take k bytes) ∷ whole_lines [] (drop (k + 1) bytes)
  pub last : last_piece held bytes ≡ last_piece [] (drop (k + 1) bytes)

-- no line is completed
pub record NoCut (held bytes : List ℕ) : Type 0 where
  pub whole : whole_lines held bytes ≡ []
  pub last : last_piece held bytes ≡ held ++ bytes

cut_from : (held bytes : List ℕ) (k : ℕ) → k < length bytes → ((j : ℕ) → j < k → (get_or bytes j 0 == 10) ≡ true → ⊥)
    → (get_or bytes k 0 == 10) ≡ true →
    (whole_lines held bytes ≡ (held ++ take k bytes) ∷ whole_lines [] (drop (suc k) bytes))
    × (last_piece held bytes ≡ last_piece [] (drop (suc k) bytes))
unfolding whole_lines last_piece
cut_from held [] k within before here = absurd (omega arith)
cut_from held (b ∷ bytes) zero within before here =
    (rw here (ap (λ l. l ∷ whole_lines [] bytes) (sym (append-nil held))), rw here refl)
cut_from held (b ∷ bytes) (suc k) within before here =
    let none : (b == 10) ≡ false = false_from_ne_true (b == 10) (before 0 (omega arith)) in
    let rest = cut_from (held ++ b ∷ []) bytes k (omega arith) (λ j h. before (suc j) (omega arith)) here in (
      rw none (rest.0 ∙ ap (λ l. l ∷ whole_lines [] (drop (suc k) bytes)) (append_assoc held (b ∷ []) (take k bytes))),
      rw none rest.1,
    )

no_cut_from : (held bytes : List ℕ) → ((j : ℕ) → j < length bytes → (get_or bytes j 0 == 10) ≡ true → ⊥)
    → (whole_lines held bytes ≡ []) × (last_piece held bytes ≡ held ++ bytes)
unfolding whole_lines last_piece
no_cut_from held [] before = (refl, sym (append-nil held))
no_cut_from held (b ∷ bytes) before =
    let none : (b == 10) ≡ false = false_from_ne_true (b == 10) (before 0 (omega arith)) in
    let rest = no_cut_from (held ++ b ∷ []) bytes (λ j h. before (suc j) (omega arith)) in
    (rw none rest.0, rw none (rest.1 ∙ append_assoc held (b ∷ []) bytes))

pub cut_at : (held bytes : List ℕ) (k : ℕ) → IsFirstByte (is_byte 10) bytes (Some k) → Cut held bytes k
cut_at held bytes k found =
    let both = cut_from held bytes k found.0.high (λ j h. found.0.before j (omega arith) h) found.1 in
    record { whole = rw add-one both.0; last = rw add-one both.1 }

pub no_cut : (held bytes : List ℕ) → IsFirstByte (is_byte 10) bytes None → NoCut held bytes
no_cut held bytes found =
    let both = no_cut_from held bytes (λ j h. found j (omega arith) h) in
    record { whole = both.0; last = both.1 }

front_from : (held bytes : List ℕ) (k : ℕ) → k < length bytes → ((j : ℕ) → j < k → (get_or bytes j 0 == 10) ≡ true → ⊥)
    → (get_or bytes k 0 == 10) ≡ true →
    (whole_lines held (take (suc k) bytes) ≡ (held ++ take k bytes) ∷ []) × (last_piece held (take (suc k) bytes) ≡ [])
unfolding whole_lines last_piece
front_from held [] k within before here = absurd (omega arith)
front_from held (b ∷ bytes) zero within before here = (rw here (ap (λ l. l ∷ []) (sym (append-nil held))), rw here refl)
front_from held (b ∷ bytes) (suc k) within before here =
    let none : (b == 10) ≡ false = false_from_ne_true (b == 10) (before 0 (omega arith)) in
    let rest = front_from (held ++ b ∷ []) bytes k (omega arith) (λ j h. before (suc j) (omega arith)) here in
    (rw none (rest.0 ∙ ap (λ l. l ∷ []) (append_assoc held (b ∷ []) (take k bytes))), rw none rest.1)

-- up to its first LF, the bytes are one line
pub record Front (held bytes : List ℕ) (k : ℕ) : Type 0 where
  pub whole : whole_lines held (take (k + 1) bytes) ≡ (held ++ take k bytes) ∷ []
  pub last : last_piece held (take (k + 1) bytes) ≡ []

pub front_at : (held bytes : List ℕ) (k : ℕ) → IsFirstByte (is_byte 10) bytes (Some k) → Front held bytes k
front_at held bytes k found =
    let both = front_from held bytes k found.0.high (λ j h. found.0.before j (omega arith) h) found.1 in
    record { whole = rw add-one both.0; last = rw add-one both.1 }
