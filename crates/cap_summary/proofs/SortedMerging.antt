-- A table that is made of two, key by key.
use Rattle.std.specs.Prelude.{List, None, Option, Some, [], if◌then◌else◌, is_some, ◌++◌, ◌+◌, ◌<◌, ◌||◌, ◌∷◌, ◌≡◌, ◌≤◌}
use Rattle.cap_summary.proofs.{SortedFound.RisesFrom-lower, SortedFound.found_below, arith, cases_lt, eq-eqb, nat_tests}
use Rattle.cap_summary.specs.{Sorted.Rises, Sorted.RisesFrom, Sorted.found, eqb, option_or, refl, true, ℕ}
use Rattle.cap_summary.proofs.{ap, inl, inr, ne_eqb, sym, ◌∙◌}
use mathlib.Core.Bool.{false≢true}

-- a key from the bound on isn't found
abbrev pub EndsBelow : {V : Type 0} → ℕ → List (ℕ × V) → Type 0
EndsBelow bound l = (k : ℕ) → bound ≤ k → found l k ≡ None

-- a key that is greater than all goes to the end
RisesFrom-append : {V : Type 0} (b : ℕ) (l : List (ℕ × V)) (k : ℕ) (v : V) → RisesFrom b l → EndsBelow k l → b ≤ k
    → RisesFrom b (l ++ (k, v) ∷ [])
RisesFrom-append b [] k v rises ends le = (le, tt)
RisesFrom-append b ((j, u) ∷ rest) k v rises ends le =
    let lower : j < k = elim (cases_lt j k) [
      | inl lower ↦ lower
      | inr over ↦ absurd (let none = ends j over in grind (arith, nat_tests, none))
    ] in (
      rises.0,
      RisesFrom-append (j + 1) rest k v rises.1 (λ q over. rw (ne_eqb j q (omega (arith, over))) at (ends q over))
          (omega arith),
    )

pub found-append : {V : Type 0} (l : List (ℕ × V)) (k : ℕ) (v : V) (key : ℕ)
    → found (l ++ (k, v) ∷ []) key ≡ option_or (found l key) (if eqb k key then Some v else None)
found-append [] k v key = refl
found-append ((j, u) ∷ rest) k v key =
    let later = found-append rest k v key in
    grind (arith, nat_tests, later)

-- up to a bound the merged table has what is given for each key, and from it on the rest of both has what they have
pub record IsMergedTo {L R O : Type 0} (gives : ℕ → Option L → Option R → Option O → Type 0) (left lefts : List (ℕ × L))
    (right rights : List (ℕ × R)) (merged : List (ℕ × O)) (bound : ℕ) : Type 0 where
  pub left_rises : RisesFrom bound lefts
  pub right_rises : RisesFrom bound rights
  pub left_rest : (k : ℕ) → bound ≤ k → found lefts k ≡ found left k
  pub right_rest : (k : ℕ) → bound ≤ k → found rights k ≡ found right k
  pub merged_rises : Rises merged
  pub merged_below : EndsBelow bound merged
  pub given : (k : ℕ) → k < bound → gives k (found left k) (found right k) (found merged k)

pub Rises-from : {V : Type 0} (b : ℕ) (l : List (ℕ × V)) → RisesFrom b l → Rises l
Rises-from b l rises = RisesFrom-lower 0 b l (omega arith) rises

-- one of the rest has the key, so the key isn't below the bound
pub bound_le : {L R : Type 0} (lefts : List (ℕ × L)) (rights : List (ℕ × R)) (bound key : ℕ) → RisesFrom bound lefts
    → RisesFrom bound rights → (is_some (found lefts key) || is_some (found rights key)) ≡ true → bound ≤ key
bound_le lefts rights bound key left right one = elim (cases_lt key bound) [
  | inl below ↦
      absurd (false≢true (rw (found_below bound lefts key left below, found_below bound rights key right below) at one))
  | inr at_least ↦ at_least
]

module _ {L R O : Type 0} {gives : ℕ → Option L → Option R → Option O
    → Type 0} {left lefts : List (ℕ × L)} {right rights : List
    (ℕ × R)} {merged : List (ℕ × O)} {bound : ℕ} (so_far : IsMergedTo gives left lefts right rights merged bound) where
  -- where nothing is left, all keys are merged
  pub merged_all : ((k : ℕ) → gives k None None None) → lefts ≡ [] → rights ≡ [] → (k : ℕ)
      → gives k (found left k) (found right k) (found merged k)
  merged_all neither no_left no_right k = elim (cases_lt k bound) [
    | inl below ↦ so_far.given k below
    | inr past ↦
        let none_left : found left k ≡ None = sym (so_far.left_rest k past)
        ∙ ap (λ (l : List (ℕ × L)). found l k) no_left in
        let none_right : found right k ≡ None = sym (so_far.right_rest k past)
        ∙ ap (λ (l : List (ℕ × R)). found l k) no_right in
        rw (none_left, none_right, so_far.merged_below k past) (neither k)
  ]

  -- the least key of the rest is merged
  module _ (neither : (k : ℕ) → gives k None None None) (key : ℕ) (le : bound ≤ key) (lefts_rise : RisesFrom key lefts)
      (rights_rise : RisesFrom key rights) {above_left : List (ℕ × L)} {above_right : List (ℕ × R)}
      (left_rises : RisesFrom (key + 1) above_left) (right_rises : RisesFrom (key + 1) above_right)
      (left_above : (k : ℕ) → key < k → found above_left k ≡ found lefts k)
      (right_above : (k : ℕ) → key < k → found above_right k ≡ found rights k) where
    merged_more : (more : List (ℕ × O)) → Rises more → EndsBelow (key + 1) more
        → ((k : ℕ) → k < key → found more k ≡ found merged k)
        → gives key (found lefts key) (found rights key) (found more key)
        → IsMergedTo gives left above_left right above_right more (key + 1)
    merged_more more rises below same here = record {
      left_rises = left_rises;
      right_rises = right_rises;
      left_rest = λ k above. left_above k (omega arith) ∙ so_far.left_rest k (omega arith);
      right_rest = λ k above. right_above k (omega arith) ∙ so_far.right_rest k (omega arith);
      merged_rises = rises;
      merged_below = below;
      given = λ k at_most. elim (cases_lt k key) [
        | inl lower ↦ rw (same k lower) (elim (cases_lt k bound) [
          | inl before ↦ so_far.given k before
          | inr past ↦ rw (
            ← so_far.left_rest k past,
            ← so_far.right_rest k past,
            found_below key lefts k lefts_rise lower,
            found_below key rights k rights_rise lower,
            so_far.merged_below k past,
          ) (neither k)
        ])
        | inr past ↦
            let is : k ≡ key = omega arith in
            rw (is, ← so_far.left_rest key (omega arith), ← so_far.right_rest key (omega arith)) here
      ];
    }

    -- it stays out
    pub left_out : gives key (found lefts key) (found rights key) None
        → IsMergedTo gives left above_left right above_right merged (key + 1)
    left_out here = merged_more merged so_far.merged_rises (λ k over. so_far.merged_below k (omega (arith, over)))
        (λ k lower. refl) (rw (so_far.merged_below key le) here)

    -- or it is put last
    pub put_last : (v : O) → gives key (found lefts key) (found rights key) (Some v)
        → IsMergedTo gives left above_left right above_right (merged ++ (key, v) ∷ []) (key + 1)
    put_last v here =
        let put = found-append merged key v in
        merged_more (merged ++ (key, v) ∷ []) (RisesFrom-append 0 merged key v so_far.merged_rises
        (λ k over. so_far.merged_below k (omega (arith, over))) (omega arith))
        (λ k over. rw (put k, so_far.merged_below k (omega (arith, over)), ne_eqb key k (omega (arith, over))) refl)
        (λ k lower. let more = put k in grind (arith, nat_tests, more, lower))
        (rw (put key, so_far.merged_below key le, eq-eqb key key refl) here)
