-- Sets of rights, right by right.
use Rattle.std.proofs.Common.{◌≡◌, ℕ, zero, suc, ◌-◌, ◌^◌, ◌<◌, ◌≤◌, ◌&&◌, Bool, true, false, not, eqb, min}
use Rattle.std.proofs.Common.{refl, sym, ap, ◌∙◌, arith}
use Rattle.std.specs.Prelude.{Option, Some, None}
use Rattle.std.specs.Int.{bit_at, w64}
use Rattle.std.proofs.lemmas.Nat.{and_le_l, and_le_r}
use Rattle.std.proofs.lemmas.Nat.Bits.{bit_at_and, bit_at_not, bit_at_ones, bit_at-lt, same_from_bits}
use Rattle.std.proofs.lemmas.Nat.Bits.{same_from_bits_below}
use Rattle.std.proofs.lemmas.Bool.{eqb-true, eq-eqb, and_parts, and_from, and_left}
use Rattle.std.proofs.Math.Bool.{and-true}
use Rattle.std.specs.Cmp.{both_ways}
use Rattle.cap_rights.specs.Rights.{holds, minus, has_all, named, all, meet, none, without_full}
use Rattle.cap_machine.specs.declared.cell.Cell.{Cell}
use Rattle.cap_machine.specs.declared.cell.Cell.TheVariants.{Unknown, Closed, Held}
use Rattle.cap_machine.specs.Op.{masked}

-- what a cell holds
abbrev pub rights_of_cell : Cell → ℕ
rights_of_cell Unknown = none
rights_of_cell Closed = none
rights_of_cell (Held rights flag) = rights

-- ---- one right of what an operation makes

min_test : (x y : ℕ) → x < 2 → y < 2 → eqb (min x y) 1 ≡ (eqb x 1 && eqb y 1)
min_test (suc (suc x)) y p q = absurd (omega arith)
min_test x (suc (suc y)) p q = absurd (omega arith)
min_test _ _ p q = refl

not_test : (x : ℕ) → x < 2 → eqb (1 - x) 1 ≡ not (eqb x 1)
not_test (suc (suc x)) p = absurd (omega arith)
not_test _ p = refl

pub meet_holds : (r s k : ℕ) → holds (meet r s) k ≡ (holds r k && holds s k)
meet_holds r s k = ap (λ (x : ℕ). eqb x 1) (bit_at_and r s k)
    ∙ min_test (bit_at r k) (bit_at s k) (bit_at-lt r k) (bit_at-lt s k)

pub ones_hold : (n k : ℕ) → k < n → holds (2 ^ n - 1) k ≡ true
ones_hold n k lt = ap (λ (x : ℕ). eqb x 1) (bit_at_ones n k lt)

pub all_meet : (m k : ℕ) → k < 63 → holds (meet all m) k ≡ holds m k
all_meet m k lt = meet_holds all m k ∙ ap (λ (b : Bool). b && holds m k) (ones_hold 64 k (omega arith))

pub without_full_holds : (r k : ℕ) → k < 63 → holds (without_full r) k ≡ holds r k
without_full_holds r k lt =
    meet_holds r named k ∙ ap (λ (b : Bool). holds r k && b) (ones_hold 63 k lt) ∙ and-true (holds r k)

pub minus_holds : (r s k : ℕ) → s ≤ all → k < 63 → holds (minus r s) k ≡ (holds r k && not (holds s k))
minus_holds r s k le lt =
    meet_holds (without_full r) (all - s) k ∙ ap (λ (b : Bool). b && holds (all - s) k) (without_full_holds r k lt)
    ∙ ap (λ (b : Bool). holds r k && b)
    (ap (λ (x : ℕ). eqb x 1) (bit_at_not w64 s k (omega arith) (omega arith)) ∙ not_test (bit_at s k) (bit_at-lt s k))

-- ---- sets of named rights, right by right

same_bit : (x y : ℕ) → x < 2 → y < 2 → eqb x 1 ≡ eqb y 1 → x ≡ y
same_bit zero zero p q e = refl
same_bit zero (suc zero) p q e = absurd (cc)
same_bit (suc zero) zero p q e = absurd (cc)
same_bit (suc zero) (suc zero) p q e = refl
same_bit (suc (suc x)) y p q e = absurd (omega arith)
same_bit x (suc (suc y)) p q e = absurd (omega arith)

-- two sets that hold the same are one
same_held : (r s : ℕ) → ((k : ℕ) → holds r k ≡ holds s k) → r ≡ s
same_held r s h = same_from_bits r s
    (λ k. same_bit (bit_at r k) (bit_at s k) (bit_at-lt r k) (bit_at-lt s k) (h k))

-- two sets of named rights that hold the same are one
pub same_named : (r s : ℕ) → r < 2 ^ 63 → s < 2 ^ 63 → ((k : ℕ) → k < 63 → holds r k ≡ holds s k) → r ≡ s
same_named r s rl sl h = same_from_bits_below 63 r s rl sl
    (λ k lt. same_bit (bit_at r k) (bit_at s k) (bit_at-lt r k) (bit_at-lt s k) (h k lt))

pub meet_named : (r n : ℕ) → n < 2 ^ 63 → meet r n < 2 ^ 63
meet_named r n lt = omega (arith, and_le_r r n)

pub without_full_named : (r : ℕ) → without_full r < 2 ^ 63
without_full_named r = omega (arith, and_le_r r named)

pub minus_named : (r s : ℕ) → minus r s < 2 ^ 63
minus_named r s = omega (arith, and_le_l (without_full r) (all - s), without_full_named r)

absorbed_by : (a b : Bool) → (b ≡ true → a ≡ true) → (a && b) ≡ b
absorbed_by true b h = refl
absorbed_by false true h = h refl
absorbed_by false false h = refl

-- a set has named rights where it holds each
pub has_all_from : (r n : ℕ) → n < 2 ^ 63 → ((k : ℕ) → k < 63 → holds n k ≡ true → holds r k ≡ true)
    → has_all r n ≡ true
has_all_from r n lt h = eq-eqb (meet r n) n (same_named (meet r n) n (meet_named r n lt) lt
    (λ k kt. meet_holds r n k ∙ absorbed_by (holds r k) (holds n k) (h k kt)))

-- and holds each that it has
pub has_all_each : (r n k : ℕ) → has_all r n ≡ true → holds n k ≡ true → holds r k ≡ true
has_all_each r n k has is =
    (and_parts (holds r k) (holds n k)
    (sym (meet_holds r n k) ∙ ap (λ (x : ℕ). holds x k) (eqb-true (meet r n) n has) ∙ is)).0

-- ---- part of a set

-- each right of the first is in the second
pub record IsPart (s r : ℕ) : Type 0 where
  pub part : (k : ℕ) → holds s k ≡ true → holds r k ≡ true

pub part_itself : (r : ℕ) → IsPart r r
part_itself r = record { part = λ k is. is }

pub part_meet : (s r m : ℕ) → IsPart s r → IsPart (meet s m) (meet r m)
part_meet s r m h = record {
  part = λ k is. (let both = and_parts (holds s k) (holds m k) (sym (meet_holds s m k) ∙ is) in
      meet_holds r m k ∙ and_from (holds r k) (holds m k) (h.part k both.0) both.1);
}

pub part_of_meet : (s r m : ℕ) → IsPart s r → IsPart (meet s m) r
part_of_meet s r m h = record {
  part = λ k is. h.part k (and_parts (holds s k) (holds m k) (sym (meet_holds s m k) ∙ is)).0;
}

pub part_masked : (mask : Option ℕ) (s r : ℕ) → IsPart s r → IsPart (masked mask s) (masked mask r)
part_masked None s r h = h
part_masked (Some m) s r h = part_meet s r m h

pub masked_set : (mask : Option ℕ) (r : ℕ) → r ≤ all → masked mask r ≤ all
masked_set None r le = le
masked_set (Some m) r le = omega (arith, and_le_l r m)

-- what a mask leaves of a set
pub masked_from : (mask : Option ℕ) (r k : ℕ) → k < 63 → holds (masked mask all) k ≡ true → holds r k ≡ true
    → holds (masked mask r) k ≡ true
masked_from None r k lt left is = is
masked_from (Some m) r k lt left is =
    meet_holds r m k ∙ and_from (holds r k) (holds m k) is (sym (all_meet m k lt) ∙ left)

pub masked_parts : (mask : Option ℕ) (r k : ℕ) → k < 63 → holds (masked mask r) k ≡ true
    → (holds r k ≡ true) × (holds (masked mask all) k ≡ true)
masked_parts None r k lt is = (is, ones_hold 64 k (omega arith))
masked_parts (Some m) r k lt is =
    let both = and_parts (holds r k) (holds m k) (sym (meet_holds r m k) ∙ is) in
    (both.0, all_meet m k lt ∙ both.1)

pub masked_lacks : (mask : Option ℕ) (r k : ℕ) → holds r k ≡ false → holds (masked mask r) k ≡ false
masked_lacks None r k is = is
masked_lacks (Some m) r k is = meet_holds r m k ∙ and_left (holds r k) (holds m k) is

-- ---- what a part lacks of a need

-- a part that holds of a need all that the set holds
module _ (s r n : ℕ) (sl : s ≤ all) (rl : r ≤ all) (nl : n < 2 ^ 63) (is_part : IsPart s r)
    (enough : (k : ℕ) → k < 63 → holds n k ≡ true → holds r k ≡ true → holds s k ≡ true) where
  pub part_has : has_all s n ≡ has_all r n
  part_has = both_ways (has_all s n) (has_all r n)
      (λ has. has_all_from r n nl (λ k lt is. is_part.part k (has_all_each s n k has is)))
      (λ has. has_all_from s n nl (λ k lt is. enough k lt is (has_all_each r n k has is)))

  same_lack : (a b c : Bool) → (c ≡ true → b ≡ true) → (a ≡ true → b ≡ true → c ≡ true)
      → (a && not c) ≡ (a && not b)
  same_lack true true false h g = ap not (g refl refl)
  same_lack true false true h g = ap not (sym (h refl))
  same_lack _ _ _ h g = refl

  pub part_lacks : minus n s ≡ minus n r
  part_lacks = same_named (minus n s) (minus n r) (minus_named n s) (minus_named n r)
      (λ k lt. minus_holds n s k sl lt ∙ same_lack (holds n k) (holds r k) (holds s k) (is_part.part k) (enough k lt)
      ∙ sym (minus_holds n r k rl lt))

-- what a part has, the set has
pub has_more : (s r x : ℕ) → IsPart s r → has_all s x ≡ true → has_all r x ≡ true
has_more s r x h has = eq-eqb (meet r x) x (same_held (meet r x) x
    (λ k. meet_holds r x k ∙ absorbed_by (holds r k) (holds x k) (λ is. h.part k (has_all_each s x k has is))))
