-- The first right held from one on, by the bits of a set from there.
use Rattle.std.proofs.Common.{◌≡◌, ℕ, zero, suc, ◌+◌, ◌-◌, ◌^◌, ◌/◌, ◌%◌, ◌<◌, ◌≤◌, eqb, sym, ap, ◌∙◌, arith}
use Rattle.std.specs.Int.{bit_at, trailing_zeros, w64}
use Rattle.std.specs.Int.Count.{trailing_of_zero}
use Rattle.std.proofs.lemmas.Nat.{shr-shr, shr_le}
use Rattle.std.proofs.lemmas.Nat.Bits.{bit_at-zero, bit_at-trailing_zeros}
use Rattle.cap_rights.specs.Rights.{HoldsNone, IsNextHeld}

bit_from : (n from k : ℕ) → from ≤ k → bit_at n k ≡ bit_at (n / 2 ^ from) (k - from)
bit_from n from k le =
    let e : k ≡ from + (k - from) = omega (arith, le) in
    ap (λ (i : ℕ). bit_at n i) e ∙ ap (λ (m : ℕ). m % 2) (sym (shr-shr n from (k - from)))

below : (q i : ℕ) → q < 2 ^ 64 → i < trailing_zeros w64 q → bit_at q i ≡ 0
below zero i lt b = bit_at-zero i
below (suc q) i lt b = (bit_at-trailing_zeros w64 (suc q) (omega arith) lt).2 i b

here : (q : ℕ) → q < 2 ^ 64 → trailing_zeros w64 q < 63 → bit_at q (trailing_zeros w64 q) ≡ 1
here zero lt b = absurd (omega (arith, b, trailing_of_zero 64))
here (suc q) lt b = (bit_at-trailing_zeros w64 (suc q) (omega arith) lt).1

pub none_before : (n from to : ℕ) → n < 2 ^ 64 → to ≤ from + trailing_zeros w64 (n / 2 ^ from) → HoldsNone n from to
none_before n from to lt le k above before =
    let q = n / 2 ^ from in
    let small : q < 2 ^ 64 = omega (arith, lt, shr_le n from) in
    ap (λ (b : ℕ). eqb b 1) (bit_from n from k above ∙ below q (k - from) small (omega (arith, le, above, before)))

pub is_next : (n from : ℕ) → n < 2 ^ 64 → from + trailing_zeros w64 (n / 2 ^ from) < 63
    → IsNextHeld n from (from + trailing_zeros w64 (n / 2 ^ from))
is_next n from lt within =
    let q = n / 2 ^ from in
    let t = trailing_zeros w64 q in
    let small : q < 2 ^ 64 = omega (arith, lt, shr_le n from) in
    let up : from ≤ from + t = omega arith in
    let same : from + t - from ≡ t = omega arith in (
      up,
      none_before n from (from + t) lt (omega arith),
      ap (λ (b : ℕ). eqb b 1) (bit_from n from (from + t) up ∙ ap (λ (i : ℕ). bit_at q i) same
          ∙ here q small (omega (arith, within))),
    )
