-- How a line is cut at its first space.
use Rattle.std.proofs.Common.{◌≡◌, ℕ, zero, suc, ◌+◌, ◌<◌, List, [], ◌∷◌, length, take, drop, get_or, refl, sym, ap, add-one}
use Rattle.std.proofs.Common.{arith, true, false}
use Rattle.std.specs.Prelude.{◌==◌, Some, None}
use Rattle.std.proofs.lemmas.Bool.{false_from_ne_true}
use Rattle.memchr.specs.Find.{IsFirstByte, is_byte}
use Rattle.cap_session.specs.Commands.{first_word, after_word}

split_from : (line : List ℕ) (k : ℕ) → k < length line → ((j : ℕ) → j < k → (get_or line j 0 == 32) ≡ true → ⊥)
    → (get_or line k 0 == 32) ≡ true →
    (first_word line ≡ take k line) × (after_word line ≡ Some (drop (suc k) line))
unfolding first_word after_word
split_from [] k within before here = absurd (omega arith)
split_from (b ∷ line) zero within before here = (rw here refl, rw here refl)
split_from (b ∷ line) (suc k) within before here =
    let none : (b == 32) ≡ false = false_from_ne_true (b == 32) (before 0 (omega arith)) in
    let rest = split_from line k (omega arith) (λ j h. before (suc j) (omega arith)) here in
    (rw none (ap (λ l. b ∷ l) rest.0), rw none rest.1)

no_split_from : (line : List ℕ) → ((j : ℕ) → j < length line → (get_or line j 0 == 32) ≡ true → ⊥)
    → (first_word line ≡ line) × (after_word line ≡ None)
unfolding first_word after_word
no_split_from [] before = (refl, refl)
no_split_from (b ∷ line) before =
    let none : (b == 32) ≡ false = false_from_ne_true (b == 32) (before 0 (omega arith)) in
    let rest = no_split_from line (λ j h. before (suc j) (omega arith)) in
    (rw none (ap (λ l. b ∷ l) rest.0), rw none rest.1)

pub word_before : (line : List ℕ) (k : ℕ) → IsFirstByte (is_byte 32) line (Some k) → take k line ≡ first_word line
word_before line k found =
    sym (split_from line k found.0.high (λ j h. found.0.before j (omega arith) h) found.1).0

pub rest_beyond : (line : List ℕ) (k : ℕ) → IsFirstByte (is_byte 32) line (Some k)
    → Some (drop (k + 1) line) ≡ after_word line
rest_beyond line k found =
    rw add-one (sym (split_from line k found.0.high (λ j h. found.0.before j (omega arith) h) found.1).1)

pub word_alone : (line : List ℕ) → IsFirstByte (is_byte 32) line None → first_word line ≡ line
word_alone line found = (no_split_from line (λ j h. found j (omega arith) h)).0

pub no_rest : (line : List ℕ) → IsFirstByte (is_byte 32) line None → after_word line ≡ None
no_rest line found = (no_split_from line (λ j h. found j (omega arith) h)).1
