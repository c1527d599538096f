-- Findings of segments, one after the other.
use Rattle.std.specs.Prelude.{filter, get_or, length, nat_le, ◌&&◌, ◌++◌, ◌+◌, ◌-◌, ◌<◌, ◌∷◌, ◌≡◌, ◌≤◌, ◌⊎◌}
use Rattle.cap_summary.specs.{Asks.has_any, Finding, Found, State, check, declared.judging.Asked.Asked, ended, found_at}
use Rattle.cap_summary.specs.{All, Bool, List, Step, [], cond, drop, false, later, map, refl, said, take, true, ℕ}
use Rattle.cap_summary.specs.Positions.{found_in, is_at, said_in, within}
use Rattle.cap_summary.proofs.{and-false, append_assoc, checks_in_turn, length-take-le, take-append-drop}
use Rattle.cap_summary.proofs.{All-head, All-tail, append-nil, cases_lt, map-append, take_all, take_more}
use Rattle.cap_summary.proofs.{ap, arith, inl, inr, sym, ◌∙◌}
use Rattle.std.proofs.{Common.length-take, lemmas.List.Elements.filter-append}
use Rattle.std.proofs.{Common.add_assoc, Common.le-leb, lemmas.Bool.lt-leb, lemmas.List.Elements.All-map}
use Rattle.cap_machine.proofs.Positions.{positions_within}

later-later : (m n : ℕ) (xs : List Found) → map (later m) (map (later n) xs) ≡ map (later (m + n)) xs
later-later m n [] = refl
later-later m n (x ∷ xs) =
    ap (λ (k : ℕ). record { at = k; finding = x.finding } ∷ map (later m) (map (later n) xs)) (sym (add_assoc m n x.at))
    ∙ ap (λ (r : List Found). later (m + n) x ∷ r) (later-later m n xs)

pub later-at : (n i : ℕ) (xs : List Finding) → map (later n) (map (found_at i) xs) ≡ map (found_at (n + i)) xs
later-at n i [] = refl
later-at n i (x ∷ xs) = ap (λ r. found_at (n + i) x ∷ r) (later-at n i xs)

-- what is found in two segments, after what was found before
pub found_all : (asked : Asked) (at n : ℕ) (s : State) (t u : List Step) (old : List Found) → n ≡ length t
    → old ++ found_in asked at s (t ++ u) ≡ (old ++ found_in asked at s t) ++ found_in asked (at + n) (ended s t) u
found_all asked at n s t u old len =
    let first : List Found = check s t in
    let second : List Found = check (ended s t) u in
    rw (
      len,
      checks_in_turn s t u,
      map-append (later at) first (map (later (length t)) second),
      later-later at (length t) second,
      filter-append (is_at asked.from asked.to) (map (later at) first) (map (later (at + length t)) second),
    ) (sym (append_assoc old (found_in asked at s t) (found_in asked (at + length t) (ended s t) u)))

pub found_parts : (asked : Asked) (at n : ℕ) (s : State) (t u : List Step) (old first all : List Found) → n ≡ length t
    → first ≡ old ++ found_in asked at s t → all ≡ first ++ found_in asked (at + n) (ended s t) u
    → all ≡ old ++ found_in asked at s (t ++ u)
found_parts asked at n s t u old first all len one two = two
    ∙ ap (λ r. r ++ found_in asked (at + n) (ended s t) u) one ∙ sym (found_all asked at n s t u old len)

pub one_found : (asked : Asked) (at : ℕ) (s : State) (step : Step)
    → said_in asked (at + 1) (said step s) ≡ found_in asked at s (step ∷ [])
one_found asked at s step = ap (within asked.from asked.to) (sym (later-at at 1 (said step s)))

pub some_found : (xs : List Found) → has_any xs ≡ true → 0 < length xs
some_found xs is = grind (arith, is)

-- findings stand at positions from 1
abbrev IsBelow : ℕ → Found → Type 0
IsBelow n found = (1 ≤ found.at) × (found.at ≤ n)

-- findings that are all in a range, or all outside
alike : (p : Found → Bool) (b : Bool) (xs : List Found) → All (λ x. p x ≡ b) xs → filter p xs ≡ cond b xs []
alike p true [] all = refl
alike p false [] all = refl
alike p true (x ∷ xs) all = rw (All-head (λ y. p y ≡ true) x xs all)
    (ap (λ r. x ∷ r) (alike p true xs (All-tail (λ y. p y ≡ true) x xs all)))
alike p false (x ∷ xs) all = rw (All-head (λ y. p y ≡ false) x xs all)
    (alike p false xs (All-tail (λ y. p y ≡ false) x xs all))

-- nothing of a segment is at positions before it or after it
pub not_within : (asked : Asked) (at : ℕ) (s : State) (t : List Step) → (at + length t < asked.from) ⊎ (asked.to ≤ at)
    → found_in asked at s t ≡ []
not_within asked at s t out = alike (is_at asked.from asked.to) false (map (later at) (check s t))
    (All-map (λ x. is_at asked.from asked.to x ≡ false) (later at) (check s t)
    (λ k d lt. by (get_or (check s t) k d).at (positions_within s t k d lt) out))
  where
    by : (i : ℕ) → (1 ≤ i) × (i ≤ length t) → (at + length t < asked.from) ⊎ (asked.to ≤ at)
        → (nat_le asked.from (at + i) && nat_le (at + i) asked.to) ≡ false
    by i is (inl before) = rw (lt-leb asked.from (at + i) (omega (arith, is.1))) refl
    by i is (inr beyond) = rw (lt-leb (at + i) asked.to (omega (arith, is.0))) (and-false (nat_le asked.from (at + i)))

pub found_outside : (asked : Asked) (at : ℕ) (s : State) (t : List Step) (old : List Found)
    → (at + length t < asked.from) ⊎ (asked.to ≤ at) → old ≡ old ++ found_in asked at s t
found_outside asked at s t old out = sym (append-nil old) ∙ ap (λ (r : List Found). old ++ r)
    (sym (not_within asked at s t out))

-- what is said of one step, where its position is asked for and where not
pub said_at : (from to at : ℕ) (xs : List Finding) (asked : Bool) → asked ≡ (nat_le from at && nat_le at to)
    → within from to (map (found_at at) xs) ≡ cond asked (map (found_at at) xs) []
said_at from to at xs asked is = alike (is_at from to) asked (map (found_at at) xs)
    (All-map (λ x. is_at from to x ≡ asked) (found_at at) xs (λ k d lt. sym is))

pub not_asked : (from to at : ℕ) (xs : List Finding) (old : List Found) (asked : Bool)
    → asked ≡ (nat_le from at && nat_le at to) → asked ≡ false → old ≡ old ++ within from to (map (found_at at) xs)
not_asked from to at xs old asked is isn = sym (append-nil old)
    ∙ ap (λ r. old ++ r) (sym (said_at from to at xs asked is ∙ ap (λ b. cond b (map (found_at at) xs) []) isn))

pub asked_for : (from to at : ℕ) (xs : List Finding) (old all : List Found) (asked : Bool)
    → asked ≡ (nat_le from at && nat_le at to)
    → asked ≡ true → all ≡ old ++ map (found_at at) xs → all ≡ old ++ within from to (map (found_at at) xs)
asked_for from to at xs old all asked is asks found = found
    ∙ ap (λ r. old ++ r) (sym (said_at from to at xs asked is ∙ ap (λ b. cond b (map (found_at at) xs) []) asks))

pub later-none : (xs : List Found) → map (later 0) xs ≡ xs
later-none [] = refl
later-none (x ∷ xs) =
    let zero : 0 + x.at ≡ x.at = omega arith in
    ap (λ (k : ℕ). record { at = k; finding = x.finding } ∷ map (later 0) xs) zero
    ∙ ap (λ (r : List Found). x ∷ r) (later-none xs)

-- what is found from the first position on
pub from_first : (asked : Asked) (s : State) (t : List Step) → found_in asked 0 s t ≡ within asked.from asked.to (check s t)
from_first asked s t = ap (within asked.from asked.to) (later-none (check s t))

-- a range of positions that has them all
pub found_whole : (s : State) (t : List Step) (to : ℕ) → length t ≤ to → within 1 to (check s t) ≡ check s t
found_whole s t to long = alike (is_at 1 to) true (check s t)
    (λ k d lt. let is : IsBelow (length t) (get_or (check s t) k d) = positions_within s t k d lt in
    rw (le-leb 1 _ is.0, le-leb (get_or (check s t) k d).at to (omega (arith, is.1))) refl)

-- the first steps are enough, up to the last position that is asked for
pub found_in_first : (asked : Asked) (at n : ℕ) (s : State) (t : List Step) → (n < length t → asked.to ≤ at + n)
    → found_in asked at s (take n t) ≡ found_in asked at s t
found_in_first asked at n s t beyond = elim (cases_lt n (length t)) [
  | inl short ↦
      found_outside asked (at + n) (ended s (take n t)) (drop n t) (found_in asked at s (take n t)) (inr (beyond short))
      ∙ sym (found_all asked at n s (take n t) (drop n t) [] (sym (length-take-le n t (omega arith))))
      ∙ ap (found_in asked at s) (take-append-drop n t)
  | inr long ↦ ap (found_in asked at s) (take_all n t long)
]

-- nothing is before the first position that is asked for
pub none_before_first : (asked : Asked) (s : State) (t : List Step) → [] ≡ found_in asked 0 s (take (asked.from - 1) t)
none_before_first asked s t = elim (cases_lt (asked.from - 1) asked.from) [
  | inl before ↦ found_outside asked 0 s (take (asked.from - 1) t) []
      (inl (omega (arith, length-take (asked.from - 1) t)))
  | inr none ↦ let zero : asked.from - 1 ≡ 0 = omega arith in
      ap (λ (n : ℕ). found_in asked 0 s (take n t)) (sym zero)
]

-- what was found before a step of a trace, and then in the step
pub found_next : (asked : Asked) (n : ℕ) (s : State) (t : List Step) (step : Step) (old new : List Found) → n < length t
    → get_or t n step ≡ step → old ≡ found_in asked 0 s (take n t)
    → new ≡ old ++ said_in asked (n + 1) (said step (ended s (take n t))) → new ≡ found_in asked 0 s (take (n + 1) t)
found_next asked n s t step old new short is one two =
    let before : List Step = take n t in
    let here : n ≡ 0 + n = omega arith in
    found_parts asked 0 n s before (step ∷ []) [] old new (sym (length-take-le n t (omega arith))) one
    (two ∙ ap (λ k. old ++ said_in asked (k + 1) (said step (ended s before))) here
    ∙ ap (λ r. old ++ r) (one_found asked (0 + n) (ended s before) step))
    ∙ ap (found_in asked 0 s) (sym (take_more t n step short ∙ ap (λ (x : Step). before ++ x ∷ []) is))

-- where nothing is asked for after a part, it doesn't matter in which state the next one begins
pub same_beyond : (asked : Asked) (at : ℕ) (s r : State) (t : List Step) → asked.to ≤ at
    → found_in asked at s t ≡ found_in asked at r t
same_beyond asked at s r t beyond =
    not_within asked at s t (inr beyond) ∙ sym (not_within asked at r t (inr beyond))
