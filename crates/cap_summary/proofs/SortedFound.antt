-- What a look-up finds in a list whose keys rise, also where a value was put at a key or taken out.
use Rattle.std.specs.Prelude.{Err, IfErr, Ok, if◌then◌else◌, insert, remove, set, zero, ℕ, ◌+◌, ◌<◌, ◌∷◌, ◌≡◌, ◌≢◌, ◌≤◌}
use Rattle.cap_summary.specs.{AllZip, IsNonDecreasingBy, List, None, Result, Some, false, get_or, length, nat_cmp, refl}
use Rattle.std.specs.{List.Sorted.IsBinarySearchResult, List.Sorted.IsSearchInRange, Ordering.ordering_index}
use Rattle.cap_summary.specs.Sorted.{IsAt, IsGap, KeysRise, Rises, RisesFrom, found}
use Rattle.cap_summary.proofs.{ap, arith, nat_tests, ranked, sym}
use Rattle.cap_summary.specs.{IfOk, [], eqb, suc}

-- no key is below the bound
pub rises_at : {V : Type 0} (b : ℕ) (l : List (ℕ × V)) → RisesFrom b l → (i : ℕ) (d : ℕ × V) → i < length l
    → b ≤ (get_or l i d).0
rises_at b [] rises i d lt = absurd (omega arith)
rises_at b ((k, v) ∷ rest) rises zero d lt = rises.0
rises_at b ((k, v) ∷ rest) rises (suc i) d lt =
    let above = rises_at (k + 1) rest rises.1 i d (omega arith) in
    omega (arith, above, rises.0)

-- a key below the bound isn't found
pub found_below : {V : Type 0} (b : ℕ) (l : List (ℕ × V)) (key : ℕ) → RisesFrom b l → key < b → found l key ≡ None
found_below b [] key rises below = refl
found_below b ((k, v) ∷ rest) key rises below =
    let above : b ≤ k = rises.0 in
    let later = found_below (k + 1) rest key rises.1 (omega arith) in
    grind (arith, nat_tests, later)

-- each key is below those after it
pub keys_rise : {V : Type 0} (b : ℕ) (l : List (ℕ × V)) → RisesFrom b l → (i j : ℕ) (d : ℕ × V) → i < j → j < length l
    → (get_or l i d).0 < (get_or l j d).0
keys_rise b [] rises i j d lt in_range = absurd (omega arith)
keys_rise b ((k, v) ∷ rest) rises i zero d lt in_range = absurd (omega arith)
keys_rise b ((k, v) ∷ rest) rises zero (suc j) d lt in_range =
    omega (arith, rises_at (k + 1) rest rises.1 j d (omega arith))
keys_rise b ((k, v) ∷ rest) rises (suc i) (suc j) d lt in_range =
    keys_rise (k + 1) rest rises.1 i j d (omega arith) (omega arith)

-- and where it is, the keys rise
pub rises_again : {V : Type 0} (b : ℕ) (l : List (ℕ × V)) → ((i : ℕ) (d : ℕ × V) → i < length l → b ≤ (get_or l i d).0)
    → KeysRise l → RisesFrom b l
rises_again b [] above keys = tt
rises_again b ((k, v) ∷ rest) above keys = (
  above 0 (k, v) (omega arith),
  rises_again (k + 1) rest (λ i d lt. let next : k < (get_or rest i d).0 = keys 0 (suc i) d (omega arith) (omega arith) in
      omega (arith, next)) (λ i j d lt in_range. keys (suc i) (suc j) d (omega arith) (omega arith)),
)

-- in the rest, an entry is one place lower
pub is_at_tail : {V : Type 0} (x : ℕ × V) (l : List (ℕ × V)) (key at : ℕ) → IsAt (x ∷ l) key (suc at) → IsAt l key at
is_at_tail x l key at is_at = record { in_range = omega (arith, is_at.in_range); has_key = is_at.has_key }

-- the value at the place of a key is found
pub found_at : {V : Type 0} (b : ℕ) (l : List (ℕ × V)) (key at : ℕ) (d : ℕ × V) → RisesFrom b l → IsAt l key at
    → found l key ≡ Some (get_or l at d).1
found_at b [] key at d rises is_at = absurd (omega (arith, is_at.in_range))
found_at b ((k, v) ∷ rest) key zero d rises is_at = grind (arith, nat_tests, is_at.has_key (k, v))
found_at b ((k, v) ∷ rest) key (suc at) d rises is_at =
    let above = rises_at (k + 1) rest rises.1 at (k, v) (omega (arith, is_at.in_range)) in
    let same = is_at.has_key (k, v) in
    let later = found_at (k + 1) rest key at d rises.1 (is_at_tail (k, v) rest key at is_at) in
    grind (arith, nat_tests, above, same, later)

-- a key that is at no place isn't found
found_absent : {V : Type 0} (l : List (ℕ × V)) (key : ℕ) → ((i : ℕ) (d : ℕ × V) → i < length l → (get_or l i d).0 ≢ key)
    → found l key ≡ None
found_absent [] key absent = refl
found_absent ((k, v) ∷ rest) key absent =
    let first : k ≢ key = absent 0 (k, v) (omega arith) in
    let later = found_absent rest key (λ i d lt. absent (suc i) d (omega arith)) in
    grind (arith, nat_tests, first, later)

keys_in_order : {V : Type 0} (l : List (ℕ × V)) → Rises l → (i j : ℕ) (d : ℕ × V) → i ≤ j → j < length l
    → (get_or l i d).0 ≤ (get_or l j d).0
keys_in_order l rises i j d le in_range =
    grind (arith, keys_rise 0 l rises i j d, λ (same : i ≡ j). ap (λ n. (get_or l n d).0) same)

-- comparisons with a key rise along the list, as a binary search asks
comparisons_rise : {V : Type 0} (l : List (ℕ × V)) (key : ℕ) → Rises l
    → IsNonDecreasingBy (λ entry. ordering_index (nat_cmp entry.0 key)) l
comparisons_rise l key rises i j d le in_range =
    let keys : (get_or l i d).0 ≤ (get_or l j d).0 = keys_in_order l rises i j d le in_range in
    grind (arith, nat_tests)

-- a key that has a gap isn't found
found_gap : {V : Type 0} (l : List (ℕ × V)) (key at : ℕ) → IsGap l key at → found l key ≡ None
found_gap l key at gap = found_absent l key (λ i d lt same. grind (arith, gap.smaller i d, gap.greater i d))

-- a binary search ends at the key, or at the gap for it
pub searched : {V : Type 0} (l : List (ℕ × V)) → Rises l → (key : ℕ) (r : Result ℕ ℕ) → IsSearchInRange r (length l)
    → IsBinarySearchResult (λ entry. nat_cmp entry.0 key) l r → record {
      at : IfOk r (IsAt l key);
      gap : IfErr r (IsGap l key);
      absent : IfErr r (λ _. found l key ≡ None);
    }
searched l rises key (Ok at) in_range equal = record {
  at = record { in_range = in_range; has_key = λ d. ranked _ key _ (sym (equal d)) };
  gap = tt;
  absent = tt;
}
searched l rises key (Err at) in_range parted =
    let sides = parted (comparisons_rise l key rises) in
    let gap : IsGap l key at = record {
      in_range = in_range;
      smaller = λ i d before. ranked _ key _ (sym (sides.0 i d (omega arith) before));
      greater = λ i d after lt. ranked _ key _ (sym (sides.1 i d after lt));
    } in
    record { at = tt; gap = gap; absent = found_gap l key at gap }

-- a key below the first isn't found
pub found_below_first : {V : Type 0} (key : ℕ) (first : ℕ × V) (rest : List (ℕ × V)) → RisesFrom key (first ∷ rest)
    → first.0 ≢ key → found (first ∷ rest) key ≡ None
found_below_first key first rest rises other =
    let lower : key ≤ first.0 = rises.0 in
    let later = found_below (first.0 + 1) rest key rises.1 (omega arith) in
    grind (arith, nat_tests, later)

-- nothing is found in no entries
pub found_nowhere : {V : Type 0} (l : List (ℕ × V)) (key : ℕ) → length l ≡ 0 → found l key ≡ None
found_nowhere [] key none = refl
found_nowhere (x ∷ rest) key none = absurd (omega arith)

-- where each entry has the same key, the keys rise too
pub rises_too : {V : Type 0} (Copied : V → V → Type 0) (bound : ℕ) (old copy : List (ℕ × V))
    → AllZip (λ x y. (y.0 ≡ x.0) × Copied x.1 y.1) old copy → RisesFrom bound old → RisesFrom bound copy
rises_too Copied bound [] [] all rises = tt
rises_too Copied bound [] (y ∷ copy) all rises = absurd all
rises_too Copied bound (x ∷ old) [] all rises = absurd all
rises_too Copied bound ((k, v) ∷ old) ((l, w) ∷ copy) all rises =
    let same : l ≡ k = all.0.0 in
    rw same (rises.0, rises_too Copied (k + 1) old copy all.1 rises.1)

-- keys that rise from a bound rise from a lower one too
pub RisesFrom-lower : {V : Type 0} (a b : ℕ) (l : List (ℕ × V)) → a ≤ b → RisesFrom b l → RisesFrom a l
RisesFrom-lower a b [] le rises = tt
RisesFrom-lower a b ((k, v) ∷ rest) le rises = (omega (arith, rises.0), rises.1)

-- ---- a value that is put at a key
gap_tail : {V : Type 0} (x : ℕ × V) (l : List (ℕ × V)) (key at : ℕ) → IsGap (x ∷ l) key (suc at) → IsGap l key at
gap_tail x l key at gap = record {
  in_range = omega (arith, gap.in_range);
  smaller = λ i d before. gap.smaller (suc i) d (omega arith);
  greater = λ i d after lt. gap.greater (suc i) d (omega arith) (omega arith);
}

-- a new entry in the gap keeps the order
pub RisesFrom-insert : {V : Type 0} (b : ℕ) (l : List (ℕ × V)) (key at : ℕ) (v : V) → RisesFrom b l
    → IsGap l key at → b ≤ key → RisesFrom b (insert l at (key, v))
RisesFrom-insert b [] key zero v rises gap le = (le, tt)
RisesFrom-insert b ((j, u) ∷ rest) key zero v rises gap le =
    let first : key < j = gap.greater 0 (j, u) (omega arith) (omega arith) in
    (le, (omega arith, rises.1))
RisesFrom-insert b [] key (suc at) v rises gap le = absurd (omega (arith, gap.in_range))
RisesFrom-insert b ((j, u) ∷ rest) key (suc at) v rises gap le =
    let first : j < key = gap.smaller 0 (j, u) (omega arith) in
    (rises.0, RisesFrom-insert (j + 1) rest key at v rises.1 (gap_tail (j, u) rest key at gap) (omega arith))

-- it is found, and so are the others as before
pub found-insert : {V : Type 0} (l : List (ℕ × V)) (key at : ℕ) (v : V) → IsGap l key at → (q : ℕ)
    → found (insert l at (key, v)) q ≡ (if eqb q key then Some v else found l q)
found-insert l key zero v gap q = grind (arith, nat_tests)
found-insert [] key (suc at) v gap q = absurd (omega (arith, gap.in_range))
found-insert ((j, u) ∷ rest) key (suc at) v gap q =
    let first : j < key = gap.smaller 0 (j, u) (omega arith) in
    let later = found-insert rest key at v (gap_tail (j, u) rest key at gap) q in
    grind (arith, nat_tests, first, later)

-- another value at the place of a key keeps the order
pub RisesFrom-set : {V : Type 0} (b : ℕ) (l : List (ℕ × V)) (key at : ℕ) (v : V) → RisesFrom b l
    → IsAt l key at → RisesFrom b (set l at (key, v))
RisesFrom-set b [] key at v rises is_at = tt
RisesFrom-set b ((j, u) ∷ rest) key zero v rises is_at = rw (← is_at.has_key (j, u)) rises
RisesFrom-set b ((j, u) ∷ rest) key (suc at) v rises is_at =
    (rises.0, RisesFrom-set (j + 1) rest key at v rises.1 (is_at_tail (j, u) rest key at is_at))

-- it is found, and so are the others as before
pub found-set : {V : Type 0} (b : ℕ) (l : List (ℕ × V)) (key at : ℕ) (v : V) → RisesFrom b l → IsAt l key at → (q : ℕ)
    → found (set l at (key, v)) q ≡ (if eqb q key then Some v else found l q)
found-set b [] key at v rises is_at q = absurd (omega (arith, is_at.in_range))
found-set b ((j, u) ∷ rest) key zero v rises is_at q = grind (arith, nat_tests, is_at.has_key (j, u))
found-set b ((j, u) ∷ rest) key (suc at) v rises is_at q =
    let above = rises_at (j + 1) rest rises.1 at (key, v) (omega (arith, is_at.in_range)) in
    let same = is_at.has_key (key, v) in
    let later = found-set (j + 1) rest key at v rises.1 (is_at_tail (j, u) rest key at is_at) q in
    grind (arith, nat_tests, above, same, later)

-- an entry that is taken out leaves the order
pub RisesFrom-remove : {V : Type 0} (b : ℕ) (l : List (ℕ × V)) (at : ℕ) → RisesFrom b l → RisesFrom b (remove l at)
RisesFrom-remove b [] zero rises = tt
RisesFrom-remove b [] (suc at) rises = tt
RisesFrom-remove b ((j, u) ∷ rest) zero rises = RisesFrom-lower b (j + 1) rest (omega (arith, rises.0)) rises.1
RisesFrom-remove b ((j, u) ∷ rest) (suc at) rises = (rises.0, RisesFrom-remove (j + 1) rest at rises.1)

-- the others are found as before
pub found-remove : {V : Type 0} (l : List (ℕ × V)) (key at : ℕ) → IsAt l key at → (q : ℕ) → eqb q key ≡ false
    → found (remove l at) q ≡ found l q
found-remove [] key at is_at q other = absurd (omega (arith, is_at.in_range))
found-remove ((j, u) ∷ rest) key zero is_at q other = grind (arith, nat_tests, is_at.has_key (j, u))
found-remove ((j, u) ∷ rest) key (suc at) is_at q other =
    let later = found-remove rest key at (is_at_tail (j, u) rest key at is_at) q other in
    grind (arith, nat_tests, later)

-- what taking out the value at a key leaves
pub ruleset takes = (found-remove, RisesFrom-remove, found_at)

-- what a value that is put at a key changes
pub ruleset puts = (found-insert, found-set, RisesFrom-insert, RisesFrom-set)
