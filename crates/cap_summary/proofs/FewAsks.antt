-- How much is listed and asked at most where only these processes and descriptors are named.
use Rattle.std.proofs.{Math.Nat.add-mul, Math.Nat.mul_assoc, Math.Nat.one-mul}
use Rattle.std.specs.Prelude.{All, List, cond, eqb, false, length, map, refl, true, ◌%◌, ◌*◌, ◌++◌, ◌+◌, ◌<◌, ◌^◌, ◌||◌}
use Rattle.std.specs.Prelude.{[], ℕ, ◌∷◌, ◌≡◌, ◌≤◌}
use Rattle.cap_summary.proofs.{Bools.and_left, Bools.and_right, length-append, length-map, list_any-append, nat_tests}
use Rattle.cap_summary.proofs.{All-head, All-tail, ap, arith, eq-eqb, eqb-true, inl, inr, or-true, or_cases, subst, sym}
use Rattle.cap_summary.proofs.{◌∙◌}
use Rattle.cap_summary.specs.{Asks.Rises, Asks.key_number, Sorted.RisesFrom as KeysRiseFrom, declared.ask.Ask.Ask}
use Rattle.cap_summary.specs.{Asks.AreWithin, Asks.AskWithin, Asks.RisesFrom, Kept.is_one, Names.has_key, Sorted.found}
use Rattle.cap_summary.specs.{Asks.place, Kept.room, Kept.these, declared.key.Key.Key, is_some, nat_le}

-- how many of some numbers are not below a bound
abbrev pub count_from : ℕ → List ℕ → ℕ
count_from b [] = 0
count_from b (n ∷ rest) = cond (nat_le b n) 1 0 + count_from b rest

pub count_all : (b : ℕ) (all : List ℕ) → count_from b all ≤ length all
count_all b [] = omega arith
count_all b (n ∷ rest) = let later = count_all b rest in grind (arith, nat_tests, later)

count_less : (b c : ℕ) (all : List ℕ) → b ≤ c → count_from c all ≤ count_from b all
count_less b c [] le = omega arith
count_less b c (n ∷ rest) le = let later = count_less b c rest le in grind (arith, nat_tests, later, le)

-- one of them that isn't below the bound is counted, and those above it too
pub count_taken : (b k : ℕ) (all : List ℕ) → b ≤ k → is_one all k ≡ true → count_from (k + 1) all + 1 ≤ count_from b all
count_taken b k [] le is = absurd (let no : false ≡ true = is in cc)
count_taken b k (n ∷ rest) le is = elim (or_cases (eqb n k) (is_one rest k) is) [
  | inl here ↦ let less = count_less b (k + 1) rest (omega (arith, le)) in grind (arith, nat_tests, less, le, here)
  | inr later ↦ let less = count_taken b k rest le later in grind (arith, nat_tests, less, le)
]

-- a key that is found in the rest is found
found_more : {V : Type 0} (k : ℕ) (v : V) (rest : List (ℕ × V)) (key : ℕ) → is_some (found rest key) ≡ true
    → is_some (found ((k, v) ∷ rest) key) ≡ true
found_more k v rest key is = grind (arith, nat_tests, is)

found_first : {V : Type 0} (k : ℕ) (v : V) (rest : List (ℕ × V)) → is_some (found ((k, v) ∷ rest) k) ≡ true
found_first k v rest = grind (arith, nat_tests)

few_above : {V : Type 0} (b : ℕ) (entries : List (ℕ × V)) (all : List ℕ) → KeysRiseFrom b entries
    → ((key : ℕ) → is_some (found entries key) ≡ true → is_one all key ≡ true) → length entries ≤ count_from b all
few_above b [] all rises among = omega arith
few_above b ((k, v) ∷ rest) all rises among =
    let later = few_above (k + 1) rest all rises.1 (λ key is. among key (found_more k v rest key is)) in
    let own = count_taken b k all rises.0 (among k (found_first k v rest)) in
    omega (arith, later, own)

-- a table has no more entries than there are numbers among which its keys are
pub few_keys : {V : Type 0} (entries : List (ℕ × V)) (all : List ℕ) → KeysRiseFrom 0 entries
    → ((key : ℕ) → is_some (found entries key) ≡ true → is_one all key ≡ true) → length entries ≤ length all
few_keys entries all rises among =
    let some = few_above 0 entries all rises among in
    let every = count_all 0 all in
    omega (arith, some, every)

-- ---- numbers made of others

in_first : (a b : List ℕ) (n : ℕ) → is_one a n ≡ true → is_one (a ++ b) n ≡ true
in_first a b n is = list_any-append (λ m. eqb m n) a b ∙ ap (λ r. r || is_one b n) is

pub in_second : (a b : List ℕ) (n : ℕ) → is_one b n ≡ true → is_one (a ++ b) n ≡ true
in_second a b n is = list_any-append (λ m. eqb m n) a b ∙ ap (λ r. is_one a n || r) is ∙ or-true (is_one a n)

-- those that each of some numbers gives
abbrev pub all_of : (ℕ → List ℕ) → List ℕ → List ℕ
all_of g [] = []
all_of g (m ∷ rest) = g m ++ all_of g rest

pub among_all : (g : ℕ → List ℕ) (all : List ℕ) (m n : ℕ) → is_one all m ≡ true → is_one (g m) n ≡ true
    → is_one (all_of g all) n ≡ true
among_all g [] m n is own = is
among_all g (k ∷ rest) m n is own = elim (or_cases (eqb k m) (is_one rest m) is) [
  | inl e ↦ in_first (g k) (all_of g rest) n (subst (λ i. is_one (g i) n ≡ true) (sym (eqb-true k m e)) own)
  | inr later ↦ in_second (g k) (all_of g rest) n (among_all g rest m n later own)
]

pub count_each : (g : ℕ → List ℕ) (c : ℕ) (all : List ℕ) → ((m : ℕ) → length (g m) ≡ c)
    → length (all_of g all) ≡ length all * c
count_each g c [] each = omega arith
count_each g c (m ∷ rest) each =
    let later = count_each g c rest each in
    let both = length-append (g m) (all_of g rest) in
    let own = each m in
    let parts = add-mul 1 (length rest) c in
    let one = one-mul c in
    omega (arith, later, both, own, parts, one)

pub among_mapped : (g : ℕ → ℕ) (all : List ℕ) (n : ℕ) → is_one all n ≡ true → is_one (map g all) (g n) ≡ true
among_mapped g [] n is = is
among_mapped g (m ∷ rest) n is = elim (or_cases (eqb m n) (is_one rest n) is) [
  | inl e ↦ ap (λ r. r || is_one (map g rest) (g n)) (eq-eqb (g m) (g n) (ap g (eqb-true m n e)))
  | inr later ↦ in_second (g m ∷ []) (map g rest) (g n) (among_mapped g rest n later)
]

-- ---- the places at which may be asked

abbrev forms : List ℕ
forms = 0 ∷ 1 ∷ 2 ∷ 3 ∷ 4 ∷ 5 ∷ 6 ∷ 7 ∷ []

abbrev keys : List ℕ → List ℕ
keys fds = 0 ∷ map (λ f. f + 1) fds

abbrev places_of_key : ℕ → List ℕ
places_of_key k = map (λ form. 8 * k + form) forms

abbrev places_of : List ℕ → ℕ → List ℕ
places_of fds p = map (λ n. p * 2 ^ 36 + n) (all_of places_of_key (keys fds))

pub places : List ℕ → List ℕ → List ℕ
places pids fds = all_of (places_of fds) pids

pub count_places : (pids fds : List ℕ) → length (places pids fds) ≡ 8 * room pids fds
unfolding places
count_places pids fds =
    let in_process = count_each places_of_key 8 (keys fds) (λ k. refl) in
    let each : (p : ℕ) → length (places_of fds p) ≡ length (keys fds) * 8 = λ p.
    length-map (all_of places_of_key (keys fds)) (λ n. p * 2 ^ 36 + n) ∙ in_process in
    let all = count_each (places_of fds) (length (keys fds) * 8) pids each in
    let fewer : length (keys fds) ≡ length fds + 1 = omega (arith, length-map fds (λ f. f + 1)) in
    let turned = mul_assoc (length pids) (length (keys fds)) 8 in
    let cells : length (places pids fds) ≡ length pids * (length fds + 1) * 8 =
    all ∙ sym turned ∙ ap (λ n. length pids * n * 8) fewer in
    omega (arith, cells)

form_among : (form : ℕ) → form < 8 → is_one forms form ≡ true
form_among form small = grind (arith, nat_tests)

key_among : (pids fds : List ℕ) (k : Key) → has_key (these pids fds) k ≡ true → is_one (keys fds) (key_number k) ≡ true
key_among pids fds Key.Mode is = refl
key_among pids fds (Key.Fd f) is = in_second (0 ∷ []) (map (λ n. n + 1) fds) (f + 1) (among_mapped (λ n. n + 1) fds f is)

pub place_among : (pids fds : List ℕ) (ask : Ask) → AskWithin (these pids fds) ask
    → is_one (places pids fds) (place ask) ≡ true
unfolding places
place_among pids fds ask within =
    let own : is_one pids ask.pid ≡ true = and_left (is_one pids ask.pid) (has_key (these pids fds) ask.key) within in
    let its : is_one (keys fds) (key_number ask.key) ≡ true =
    key_among pids fds ask.key (and_right (is_one pids ask.pid) (has_key (these pids fds) ask.key) within) in
    let at : ℕ = 8 * key_number ask.key + ask.lacking.bits % 8 in
    let in_key = among_mapped (λ form. 8 * key_number ask.key + form) forms (ask.lacking.bits % 8)
    (form_among (ask.lacking.bits % 8) (omega arith)) in
    let in_process = among_all places_of_key (keys fds) (key_number ask.key) at its in_key in
    among_all (places_of fds) pids ask.pid (place ask) own
    (among_mapped (λ n. ask.pid * 2 ^ 36 + n) (all_of places_of_key (keys fds)) at in_process)

few_from : (b : ℕ) (asks : List Ask) (all : List ℕ) (within : Ask → Type 0)
    → ((ask : Ask) → within ask → is_one all (place ask) ≡ true)
    → RisesFrom b asks → All within asks → length asks ≤ count_from b all
few_from b [] all within among rises each = omega arith
few_from b (ask ∷ asks) all within among rises each =
    let later = few_from (place ask + 1) asks all within among rises.1 (All-tail within ask asks each) in
    let own = count_taken b (place ask) all rises.0 (among ask (All-head within ask asks each)) in
    omega (arith, later, own)

pub few_asks : (pids fds : List ℕ) (asks : List Ask) → Rises asks → AreWithin (these pids fds) asks
    → length asks ≤ 8 * room pids fds
few_asks pids fds asks rises within =
    let some = few_from 0 asks (places pids fds) (AskWithin (these pids fds)) (place_among pids fds) rises within in
    let every = count_all 0 (places pids fds) in
    let all = count_places pids fds in
    omega (arith, some, every, all)
