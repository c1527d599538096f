-- The place of the first such byte: none comes before it.
use Rattle.std.proofs.Common.{◌≡◌, ℕ, ◌<◌, ◌≤◌, ◌==◌, Bool, true, false, cond, List, length, get_or, Option, Some, None}
use Rattle.std.proofs.Common.{ap, sym, ◌∙◌, arith, nat_lt}
use Rattle.std.specs.List.{position}
use Rattle.std.proofs.lemmas.List.Sums.{position_or_len_is}
use Rattle.std.proofs.lemmas.Bool.{le-ltb, lt-ltb, false_from_ne_true}
use Rattle.memchr.specs.Find.{IsFirstByte, is_byte}

position_is : (p : ℕ → Bool) (xs : List ℕ) (i : ℕ) (b : Bool) → nat_lt i (length xs) ≡ b → i ≤ length xs
    → ((k : ℕ) → k < i → p (get_or xs k 0) ≡ false) → (i < length xs → p (get_or xs i 0) ≡ true)
    → cond b (Some i) None ≡ position p xs
position_is p xs i b e within before here = sym (ap (λ (n : ℕ). cond (nat_lt n (length xs)) (Some n) None)
    (position_or_len_is p xs i 0 within before here) ∙ ap (λ (t : Bool). cond t (Some i) None) e)

pub first_place : (stop : ℕ) (xs : List ℕ) (r : Option ℕ) → IsFirstByte (is_byte stop) xs r
    → r ≡ position (λ x. x == stop) xs
first_place stop xs None h = position_is (is_byte stop) xs (length xs) false (le-ltb _ _ (omega arith)) (omega arith)
    (λ k lt. false_from_ne_true (is_byte stop (get_or xs k 0)) (h k (omega arith) lt)) (λ lt. absurd (omega arith))
first_place stop xs (Some i) h = position_is (is_byte stop) xs i true (lt-ltb _ _ h.0.high) (omega (arith, h.0.high))
    (λ k lt. false_from_ne_true (is_byte stop (get_or xs k 0)) (h.0.before k (omega arith) lt)) (λ lt. h.1)
