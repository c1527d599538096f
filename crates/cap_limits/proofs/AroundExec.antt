-- What is wanted of a process, from what is wanted before its next exec and after it.
use Rattle.std.proofs.Common.{◌≡◌, ℕ, ◌==◌, Bool, true, false, refl, ap, ◌∙◌, if◌then◌else◌}
use Rattle.cap_rights.specs.Rights.{join}
use Rattle.cap_machine.specs.declared.cell.OnExec.{OnExec}
use Rattle.cap_machine.specs.declared.cell.OnExec.TheVariants.{Set, Clear, Unsure}
use Rattle.cap_machine.specs.Op.{held_op, exec}
use Rattle.cap_limits.specs.Code.Wanted.{around_exec, wanted_with, back_through}
use Rattle.cap_limits.proofs.JoinedRights.{join_comm, none_join, join_swap, join_pairs}

two : (n m q r : ℕ) → n ≡ m → q ≡ r → join n q ≡ join m r
two n m q r e h = ap (λ (k : ℕ). join k q) e ∙ ap (join m) h

with_more : (b : Bool) (n r q : ℕ) → join (if b then join n r else n) q ≡ (if b then join (join n q) r else join n q)
with_more true n r q = join_swap n r q
with_more false n r q = refl

module _ (until_exec after_exec new : ℕ → OnExec → ℕ) where
  pub added : (g : ℕ) (r : OnExec → ℕ)
      → ((f : ℕ) (x : OnExec) → new f x ≡ (if f == g then join (until_exec f x) (r x) else until_exec f x))
      → (f : ℕ) (x : OnExec) → around_exec new after_exec f x ≡ wanted_with g r (around_exec until_exec after_exec) f x
  added g r is f Set = is f Set
  added g r is f Clear =
      ap (λ (n : ℕ). join n (after_exec f Clear)) (is f Clear)
      ∙ with_more (f == g) (until_exec f Clear) (r Clear) (after_exec f Clear)
  added g r is f Unsure = is f Unsure

  -- what an exec hands on
  pub handed_on : (gone : ℕ → OnExec → ℕ) → ((f : ℕ) (x : OnExec) → gone f x ≡ join (after_exec f x) (until_exec f x))
      → ((f : ℕ) (x : OnExec) → new f x ≡ 0)
      → (f : ℕ) (x : OnExec) → around_exec new gone f x
      ≡ back_through (held_op exec x) (around_exec until_exec after_exec f)
  handed_on gone is none f Set = none f Set
  handed_on gone is none f Clear =
      two (new f Clear) 0 (gone f Clear) (join (after_exec f Clear) (until_exec f Clear)) (none f Clear) (is f Clear)
      ∙ none_join (join (after_exec f Clear) (until_exec f Clear)) ∙ join_comm (after_exec f Clear) (until_exec f Clear)
  handed_on gone is none f Unsure = none f Unsure

pub joined : (until_exec after_exec own gone new both : ℕ → OnExec → ℕ)
    → ((f : ℕ) (x : OnExec) → new f x ≡ join (until_exec f x) (own f x))
    → ((f : ℕ) (x : OnExec) → both f x ≡ join (after_exec f x) (gone f x))
    → (f : ℕ) (x : OnExec) → around_exec new both f x
    ≡ join (around_exec until_exec after_exec f x) (around_exec own gone f x)
joined until_exec after_exec own gone new both is is_far f Set = is f Set
joined until_exec after_exec own gone new both is is_far f Clear =
    two (new f Clear) (join (until_exec f Clear) (own f Clear)) (both f Clear)
    (join (after_exec f Clear) (gone f Clear))
    (is f Clear) (is_far f Clear)
    ∙ join_pairs (until_exec f Clear) (own f Clear) (after_exec f Clear) (gone f Clear)
joined until_exec after_exec own gone new both is is_far f Unsure = is f Unsure
