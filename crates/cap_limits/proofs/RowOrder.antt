-- Rows of descriptors that rise stand in their order.
use Rattle.std.proofs.Common.{◌≡◌, ◌⊎◌, ℕ, ◌<◌, ◌≤◌, ◌^◌, nat_cmp, List, [], ◌∷◌, ◌++◌, map, sym, subst}
use Rattle.std.specs.List.{All, AllByRecursion, flat_map}
use Rattle.std.specs.List.Sorted.{IsStrictlySortedBy}
use Rattle.std.proofs.lemmas.List.Elements.{All-map}
use Rattle.std.proofs.lemmas.List.{length-map}
use Rattle.std.proofs.lemmas.Map.Keys.{IsStrictlyIncreasing-from_sorted}
use Rattle.std.proofs.lemmas.Map.Views.{length-le_from_below}
use Rattle.std.proofs.Math.Logic.{⊎_elim}
use Rattle.cap_limits.specs.declared.limit.Limit.{Limit}
use Rattle.cap_limits.specs.Limits.{Row}
use Rattle.cap_limits.specs.Limits.{row_of, AreInOrder}

abbrev pub fd_of : Row → ℕ
fd_of row = row.0

-- a descriptor has one row or none
abbrev pub HasOne : ℕ → List Row → Type 0
HasOne f rows = (rows ≡ []) ⊎ ((rights : ℕ) × (rows ≡ (f, rights) ∷ []))

module _ {X : Type 0} (key : X → ℕ) (row : X → List Row) (one : (x : X) → HasOne (key x) (row x)) where
  rows_all : (P : ℕ → Type 0) (xs : List X) → AllByRecursion P (map key xs) → AllByRecursion P (map fd_of (flat_map row xs))
  rows_all P [] all = all
  rows_all P (x ∷ xs) all =
      let rest = rows_all P xs all.1 in
      ⊎_elim
      (λ none. subst (λ (rows : List Row). AllByRecursion P (map fd_of (rows ++ flat_map row xs))) (sym none) rest)
      (λ some. subst (λ (rows : List Row). AllByRecursion P (map fd_of (rows ++ flat_map row xs))) (sym some.1) (all.0, rest))
      (one x)

  pub rows_sorted : (xs : List X) → IsStrictlySortedBy nat_cmp (map key xs)
      → IsStrictlySortedBy nat_cmp (map fd_of (flat_map row xs))
  unfolding IsStrictlySortedBy
  rows_sorted [] sorted = sorted
  rows_sorted (x ∷ xs) sorted =
      let rest = rows_sorted xs sorted.1 in
      ⊎_elim
      (λ none. subst (λ (rows : List Row). IsStrictlySortedBy nat_cmp (map fd_of (rows ++ flat_map row xs))) (sym none) rest)
      (λ some. subst (λ (rows : List Row). IsStrictlySortedBy nat_cmp (map fd_of (rows ++ flat_map row xs))) (sym some.1)
      (rows_all _ xs sorted.0, rest))
      (one x)

-- the rows of limits
pub in_order : (limits : List Limit) (rows : List Row) → map row_of limits ≡ rows
    → All (λ (limit : Limit). limit.fd < 2 ^ 32) limits → IsStrictlySortedBy nat_cmp (map fd_of rows)
    → AreInOrder (map row_of limits)
in_order limits rows is below sorted =
    let own = subst (λ (r : List Row). IsStrictlySortedBy nat_cmp (map fd_of r)) (sym is) sorted in
    let fds : All (λ (f : ℕ). f < 2 ^ 32) (map fd_of (map row_of limits)) =
    All-map (λ (f : ℕ). f < 2 ^ 32) fd_of (map row_of limits)
    (All-map (λ (row : Row). row.0 < 2 ^ 32) row_of limits below) in
    record {
      rise = IsStrictlyIncreasing-from_sorted (map fd_of (map row_of limits)) own;
      few = subst (λ (n : ℕ). n ≤ 2 ^ 32) (length-map (map row_of limits) fd_of)
          (length-le_from_below (2 ^ 32) (map fd_of (map row_of limits)) own fds);
    }
