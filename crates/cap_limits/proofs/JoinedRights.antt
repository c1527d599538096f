-- Sets of rights, joined.
use Rattle.std.proofs.Common.{◌≡◌, ℕ, ◌<◌, ◌==◌, Bool, true, false, refl, sym, ap, ◌∙◌, arith, if◌then◌else◌, subst}
use Rattle.std.proofs.lemmas.Bool.{cases_eq, false≢true}
use Rattle.std.specs.Option.{option_map_or}
use Rattle.std.specs.Map.{lookup}
use Rattle.std.proofs.Common.{List, [], ◌∷◌, length}
use Rattle.std.proofs.Math.Logic.{⊎_elim}
use Rattle.std.proofs.lemmas.Nat.{or_comm}
use Rattle.std.proofs.lemmas.Nat.Bits.{same_from_bits, bit_at_or, bit_at-zero}
use Rattle.std.proofs.lemmas.Bool.Decides.{nat_tests}
use Rattle.cap_rights.specs.Rights.{join}
use Rattle.cap_machine.specs.declared.cell.OnExec.{OnExec}
use Rattle.cap_limits.specs.declared.live.fd_rights.ByFlag.{ByFlag}
use Rattle.cap_limits.specs.Code.Wanted.{flag_rights}

pub join_comm : (r s : ℕ) → join r s ≡ join s r
join_comm r s = or_comm r s

pub join_swap : (r s t : ℕ) → join (join r s) t ≡ join (join r t) s
join_swap r s t = same_from_bits _ _ (λ k. simp bit_at_or (omega arith))

pub join_pairs : (r s t u : ℕ) → join (join r s) (join t u) ≡ join (join r t) (join s u)
join_pairs r s t u = same_from_bits _ _ (λ k. simp bit_at_or (omega arith))

pub join_none : (r : ℕ) → join r 0 ≡ r
join_none r = same_from_bits _ _ (λ k. simp (bit_at_or, bit_at-zero) (omega arith))

pub none_join : (r : ℕ) → join 0 r ≡ r
none_join r = join_comm 0 r ∙ join_none r

-- where no rights are added, nothing changes
pub with_none : (b : Bool) (r s : ℕ) → s ≡ 0 → r ≡ (if b then join r s else r)
with_none true r s none = sym (ap (join r) none ∙ join_none r)
with_none false r s none = refl

-- what is left of one is added to the other: rights of descriptor g go over
pub moved_over : (to from new old : ℕ → ℕ) (g r f : ℕ) → new f ≡ (if f == g then join (to f) r else to f)
    → from g ≡ r → old g ≡ 0 → ((f ≡ g → ⊥) → old f ≡ from f) → join (new f) (old f) ≡ join (to f) (from f)
moved_over to from new old g r f added here gone others =
    ⊎_elim
    (λ e. subst (λ (h : ℕ). new h ≡ (if h == g then join (to h) r else to h) → join (new h) (old h) ≡ join (to h) (from h))
    (sym e) (λ a. grind (arith, nat_tests, join_none, a, here, gone)) added)
    (λ ne. let o = others ne in grind (arith, nat_tests, ne))
    (cases_eq f g)

-- an empty list of rights has none
pub none_in_empty : (test : ℕ → Bool) (entries : List (ℕ × ByFlag)) (x : OnExec) → length entries ≡ 0
    → option_map_or (λ (own : ByFlag). flag_rights own x) (lookup test entries) 0 ≡ 0
none_in_empty test [] x e = refl
none_in_empty test (entry ∷ entries) x e = absurd (omega arith)

-- where not even one is left, there is none
pub is_empty_from : (n : ℕ) → (0 < n → false ≡ true) → n ≡ 0
is_empty_from n none = ⊎_elim (λ e. e) (λ ne. absurd (false≢true (none (omega arith)))) (cases_eq n 0)
