-- One set of rights beside another that has the same names and may have FULL.
use Rattle.std.proofs.Common.{◌≡◌, ℕ, ◌^◌, ◌<◌, refl, sym, ap, ◌∙◌, true, Option, Some, None}
use Rattle.std.specs.Int.RustNames.{bit_and}
use Rattle.std.specs.Int.Bits.{and_self}
use Rattle.std.proofs.lemmas.Nat.{and_assoc, and_comm, and_mask}
use Rattle.std.proofs.Math.Nat.{mod-eq_of_lt}
use Rattle.std.proofs.lemmas.Bool.{eqb-true, eq-eqb}
use Rattle.cap_rights.specs.Rights.{named, has_all, without_full, meet}
use Rattle.cap_machine.specs.Op.{masked}

-- s is within t, and lacks at most FULL of it
pub record IsFewer (s t : ℕ) : Type 0 where
  pub within : bit_and t s ≡ s
  pub names : bit_and s named ≡ bit_and t named

pub few_same : (s : ℕ) → IsFewer s s
few_same s = record { within = and_self s; names = refl }

-- a named set is its own names
own_names : (n : ℕ) → n < 2 ^ 63 → bit_and n named ≡ n
own_names n lt = and_mask n 63 ∙ mod-eq_of_lt lt

-- a named need that t has, s has too
pub has_need : (s t n : ℕ) → IsFewer s t → n < 2 ^ 63 → has_all t n ≡ true → has_all s n ≡ true
has_need s t n fewer lt has =
    let names : (r : ℕ) → bit_and (bit_and r named) n ≡ bit_and r n = λ r. and_assoc n r named
    ∙ ap (bit_and r) (and_comm named n ∙ own_names n lt) in
    eq-eqb (bit_and s n) n (sym (names s) ∙ ap (λ r. bit_and r n) fewer.names ∙ names t ∙ eqb-true (bit_and t n) n has)

-- what s has, t has too
pub has_excuse : (s t x : ℕ) → IsFewer s t → has_all s x ≡ true → has_all t x ≡ true
has_excuse s t x fewer has =
    let e = eqb-true (bit_and s x) x has in
    eq-eqb (bit_and t x) x (ap (bit_and t) (sym e) ∙ sym (and_assoc x t s) ∙ ap (λ r. bit_and r x) fewer.within ∙ e)

-- the same mask on both
pub few_meet : (m s t : ℕ) → IsFewer s t → IsFewer (bit_and s m) (bit_and t m)
few_meet m s t fewer =
    let twice : bit_and m (bit_and s m) ≡ bit_and s m = and_comm m (bit_and s m) ∙ and_assoc m s m
    ∙ ap (bit_and s) (and_self m) in
    let turned : (r : ℕ) → bit_and (bit_and r m) named ≡ bit_and (bit_and r named) m = λ r. and_assoc named r m
    ∙ ap (bit_and r) (and_comm m named) ∙ sym (and_assoc m r named) in
    record {
      within = and_assoc (bit_and s m) t m ∙ ap (bit_and t) twice ∙ sym (and_assoc m t s)
          ∙ ap (λ r. bit_and r m) fewer.within;
      names = turned s ∙ ap (λ r. bit_and r m) fewer.names ∙ sym (turned t);
    }

pub few_masked : (mask : Option ℕ) (s t : ℕ) → IsFewer s t → IsFewer (masked mask s) (masked mask t)
few_masked None s t fewer = fewer
few_masked (Some m) s t fewer = few_meet m s t fewer

-- a limit that gave no right: the asked names beside what is left of t
pub few_limited : (asked t : ℕ) → has_all t (without_full asked) ≡ true → IsFewer (without_full asked) (meet t asked)
few_limited asked t has =
    let e = eqb-true (bit_and t (bit_and asked named)) (bit_and asked named) has in
    record {
      within = and_assoc (bit_and asked named) t asked
          ∙ ap (bit_and t) (sym (and_assoc named asked asked) ∙ ap (λ r. bit_and r named) (and_self asked)) ∙ e;
      names = and_assoc named asked named ∙ ap (bit_and asked) (and_self named) ∙ sym e ∙ sym (and_assoc named t asked);
    }
