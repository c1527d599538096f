-- The marks of the first bytes of a text, and where its first line is cut off by them.
use Rattle.std.proofs.Common.{◌≡◌, ◌≢◌, ℕ, ◌+◌, ◌-◌, ◌/◌, ◌%◌, ◌^◌, ◌<◌, ◌≤◌, ◌==◌, Bool, true, false, List, length}
use Rattle.std.proofs.Common.{take, drop, map, cond, get_or, refl, sym, ap, subst, ◌∙◌, arith, ⊎_elim, shr-shr, w64}
use Rattle.std.specs.Prelude.{Some, None}
use Rattle.std.specs.Int.{bit_at, trailing_zeros}
use Rattle.std.specs.Simd.Lanes.{mask_l}
use Rattle.std.proofs.lemmas.Simd.{bit_mask_l}
use Rattle.std.proofs.lemmas.Bool.{cases_lt}
use Rattle.std.proofs.lemmas.Nat.Bits.{bit_at-trailing_zeros}
use Rattle.std.proofs.lemmas.List.{get_or-take, get_or-drop, get_or_past, length-drop, length-take-le}
use Rattle.std.proofs.Math.ListN.{get_or-map}
use Rattle.std.proofs.Math.Nat.{zero-div}
use Rattle.memchr.specs.Find.{IsFirstByte, is_byte}
use Rattle.cap_session.specs.Code.LineEnds.{AreMarks, IsCut, IsWithin, ends_at}

abbrev is_end : ℕ → Bool
is_end x = x == 10

abbrev pub block_marks : List ℕ → ℕ
block_marks bytes = mask_l (map is_end (take 64 bytes))

bit_is : (bytes : List ℕ) (k : ℕ) → bit_at (block_marks bytes) k ≡ cond (is_end (get_or (take 64 bytes) k 0)) 1 0
bit_is bytes k = bit_mask_l (map is_end (take 64 bytes)) k
    ∙ ap (λ b. cond b 1 0) (get_or-map is_end (take 64 bytes) k 0)

near : (bytes : List ℕ) (k : ℕ) → k < 64 → bit_at (block_marks bytes) k ≡ cond (is_end (get_or bytes k 0)) 1 0
near bytes k lt = bit_is bytes k ∙ ap (λ x. cond (is_end x) 1 0) (get_or-take 64 bytes k 0 lt)

far : (bytes : List ℕ) (k : ℕ) → 64 ≤ length bytes → 64 ≤ k → bit_at (block_marks bytes) k ≡ 0
far bytes k long past = bit_is bytes k
    ∙ ap (λ x. cond (is_end x) 1 0) (get_or_past (take 64 bytes) k 0 (omega (arith, length-take-le 64 bytes long)))

one : (b : Bool) → cond {A = ℕ} b 1 0 ≡ 1 → b ≡ true
one true e = refl
one false e = absurd (omega arith)

pub marked : (bytes : List ℕ) → 64 ≤ length bytes → AreMarks bytes 64 (block_marks bytes)
marked bytes long = record {
  few = omega arith;
  within = long;
  set = λ k lt ends. near bytes k lt ∙ ap (λ b. cond b 1 0) ends;
  only = λ k set. ⊎_elim
      (λ lt. (lt, one (is_end (get_or bytes k 0)) (sym (near bytes k lt) ∙ set)))
      (λ ge. absurd (omega (arith, far bytes k long ge)))
      (cases_lt k 64);
}

-- where the first bit of the marks is
pub record IsBit (text : List ℕ) (from seen marks bit : ℕ) : Type 0 where
  pub low : bit < seen
  pub high : from + bit < length text
  pub ends : ends_at text (from + bit)
  pub before : IsWithin text (from + bit)

pub first_bit : (text : List ℕ) (from seen marks : ℕ) → from ≤ length text → IsWithin text from
    → AreMarks (drop from text) seen marks → marks ≢ 0 → marks < 2 ^ 64
    → IsBit text from seen marks (trailing_zeros w64 marks)
first_bit text from seen marks within none are some fits =
    let h = bit_at-trailing_zeros w64 marks (omega (arith, some)) fits in
    let at = are.only (trailing_zeros w64 marks) h.1 in
    let there : (k : ℕ) → get_or (drop from text) k 0 ≡ get_or text (from + k) 0 =
    λ k. get_or-drop from text k 0 in
    record {
      low = at.0;
      high = omega (arith, length-drop from text, are.within, at.0);
      ends = ap is_end (sym (there (trailing_zeros w64 marks))) ∙ at.1;
      before = λ k low lt ends. ⊎_elim
          (λ early. none k low early ends)
          (λ late.
          let is : from + (k - from) ≡ k = omega arith in
          let set : bit_at marks (k - from) ≡ 1 = are.set (k - from) (omega (arith, at.0))
          (ap is_end (there (k - from)) ∙ ap (λ i. is_end (get_or text i 0)) is ∙ ends) in
          absurd (omega (arith, set, h.2 (k - from) (omega arith))))
          (cases_lt k from);
    }

-- the same of a text under another name
pub first_in : (now text : List ℕ) (from seen marks : ℕ) → text ≡ now → from ≤ length now → IsWithin now from
    → AreMarks (drop from now) seen marks → marks ≢ 0 → marks < 2 ^ 64
    → IsBit text from seen marks (trailing_zeros w64 marks)
first_in now text from seen marks is within none are some fits =
    subst (λ t. IsBit t from seen marks (trailing_zeros w64 marks)) (sym is)
    (first_bit now from seen marks within none are some fits)

-- the line that ends at the first LF
pub cut_at : (text : List ℕ) (at : ℕ) → at < length text → ends_at text at → IsWithin text at
    → IsCut text (take at text) (drop (at + 1) text)
cut_at text at lt ends none =
    let long : length (take at text) ≡ at = length-take-le at text (omega arith) in
    record {
      first = subst (λ n. IsFirstByte (is_byte 10) text (Some n)) (sym long)
          (record { low = omega arith; high = lt; before = none }, ends);
      begins = ap (λ n. take n text) (sym long);
      leaves = ap (λ n. drop (n + 1) text) (sym long);
    }

-- what the marks say of what is left
pub left_marks : (text : List ℕ) (from seen marks bit : ℕ) → AreMarks (drop from text) seen marks → bit < seen
    → AreMarks (drop (from + bit + 1) text) (seen - bit - 1) (marks / 2 ^ bit / 2)
left_marks text from seen marks bit are lt =
    let left : ℕ = marks / 2 ^ bit / 2 in
    let moved : (k : ℕ) → bit_at left k ≡ bit_at marks (bit + 1 + k) =
    λ k. ap (λ m. bit_at m k) (shr-shr marks bit 1) ∙ ap (λ m. m % 2) (shr-shr marks (bit + 1) k) in
    let there : (k : ℕ) → get_or (drop from text) (bit + 1 + k) 0 ≡ get_or (drop (from + bit + 1) text) k 0 =
    λ k. get_or-drop from text (bit + 1 + k) 0 ∙ ap (λ i. get_or text i 0) (omega arith)
    ∙ sym (get_or-drop (from + bit + 1) text k 0) in
    record {
      few = omega (arith, are.few);
      within = omega (arith, are.within, length-drop from text, length-drop (from + bit + 1) text);
      set = λ k low ends. moved k ∙ are.set (bit + 1 + k) (omega arith) (ap is_end (there k) ∙ ends);
      only = λ k set.
          let was = are.only (bit + 1 + k) (sym (moved k) ∙ set) in
          (omega (arith, was.0), ap is_end (sym (there k)) ∙ was.1);
    }

-- what is found after a place that has no LF before it
pub found_beyond : (text : List ℕ) (from at : ℕ) → IsWithin text from
    → IsFirstByte (is_byte 10) (drop from text) (Some at) → from ≤ length text
    → IsCut text (take (from + at) text) (drop (from + at + 1) text)
found_beyond text from at none found within =
    let high : from + at < length text = omega (arith, found.0.high, length-drop from text) in
    cut_at text (from + at) high (ap is_end (sym (get_or-drop from text at 0)) ∙ found.1) (λ k low lt ends. ⊎_elim
    (λ early. none k low early ends)
    (λ late.
    let is : from + (k - from) ≡ k = omega arith in
    found.0.before (k - from) (omega arith) (omega arith)
    (ap is_end (get_or-drop from text (k - from) 0) ∙ ap (λ i. is_end (get_or text i 0)) is ∙ ends))
    (cases_lt k from))

pub none_beyond : (text : List ℕ) (from : ℕ) → IsWithin text from → IsFirstByte (is_byte 10) (drop from text) None
    → from ≤ length text → IsFirstByte (is_byte 10) text None
none_beyond text from none found within k low high ends =
    ⊎_elim
    (λ early. none k low early ends)
    (λ late.
    let is : from + (k - from) ≡ k = omega arith in
    found (k - from) (omega arith) (omega (arith, length-drop from text))
    (ap is_end (get_or-drop from text (k - from) 0) ∙ ap (λ i. is_end (get_or text i 0)) is ∙ ends))
    (cases_lt k from)

-- no LF where no bit is set
pub none_marked : (text : List ℕ) (seen marks : ℕ) → AreMarks text seen marks → marks ≡ 0 → IsWithin text seen
none_marked text seen marks are none k low lt ends =
    let set : bit_at marks k ≡ 1 = are.set k lt ends in
    let clear : bit_at marks k ≡ 0 = ap (λ m. bit_at m k) none ∙ ap (λ m. m % 2) (zero-div (2 ^ k)) in
    absurd (omega (arith, set, clear))

-- nor in a block after
pub none_in_block : (text : List ℕ) (from marks : ℕ) → IsWithin text from → AreMarks (drop from text) 64 marks
    → marks ≡ 0 → IsWithin text (from + 64)
none_in_block text from marks before are none k low lt ends =
    ⊎_elim
    (λ early. before k low early ends)
    (λ late.
    let is : from + (k - from) ≡ k = omega arith in
    none_marked (drop from text) 64 marks are none (k - from) (omega arith) (omega arith)
    (ap is_end (get_or-drop from text (k - from) 0) ∙ ap (λ i. is_end (get_or text i 0)) is ∙ ends))
    (cases_lt k from)
