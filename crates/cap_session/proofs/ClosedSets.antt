-- Sets of rights that are closed: with each right they hold what the name of that right stands for. These are the sets
-- that some text names.
use Rattle.std.proofs.Common.{◌≡◌, ℕ, zero, suc, ◌+◌, ◌<◌, ◌||◌, Bool, true, false, cond, eqb, if◌then◌else◌, List, []}
use Rattle.std.proofs.Common.{◌∷◌, length, take, Some, refl, sym, ap, ◌∙◌, inl, inr, ◌⊎◌, arith, slice_index_or}
use Rattle.std.specs.Prelude.{find}
use Rattle.std.specs.Option.{option_map_or}
use Rattle.std.specs.List.{list_all}
use Rattle.std.proofs.lemmas.Bool.{eqb-true, and_parts, and_from, or_right, or_cases}
use Rattle.std.proofs.lemmas.List.{get_or-take}
use Rattle.cap_rights.specs.Names.{table, value_at}
use Rattle.cap_rights.specs.Rights.{all, none, named, holds, meet, join, without_full, IsRightSet}
use Rattle.cap_rights.specs.Text.{names, text, stood_from, included}
use Rattle.cap_rights.proofs.OnLiterals.{rights_on_literals}
use Rattle.cap_rights.proofs.Members.{join_holds, meet_holds, none_holds, same_held}
use Rattle.cap_rights.proofs.Again.{reads_sets, written_is_read, named_is_read}

-- a name of the table, and what it stands for
abbrev NameRow : Type 0
NameRow = List ℕ × ℕ

-- it holds with right k each right that the name of right k stands for
pub record IsClosed (r : ℕ) : Type 0 where
  pub closed : (k j : ℕ) → k < 63 → holds (value_at k) j ≡ true → holds r k ≡ true → holds r j ≡ true

-- ---- what the names of the rights held stand for

held_here : (b : Bool) (v rest k : ℕ) → b ≡ true → holds v k ≡ true → holds (cond b (join v rest) rest) k ≡ true
held_here true v rest k e h = join_holds v rest k ∙ ap (λ (x : Bool). x || holds rest k) h
held_here false v rest k e h = absurd (cc)

held_later : (b : Bool) (v rest k : ℕ) → holds rest k ≡ true → holds (cond b (join v rest) rest) k ≡ true
held_later true v rest k h = join_holds v rest k ∙ or_right (holds v k) (holds rest k) h
held_later false v rest k h = h

stood_has : (k : ℕ) (rows : List NameRow) (r i j : ℕ) → i < length rows → holds r (k + i) ≡ true
    → holds (slice_index_or rows i ([], 0)).1 j ≡ true → holds (stood_from k rows r) j ≡ true
unfolding stood_from
stood_has k [] r i j lt h v = absurd (omega arith)
stood_has k (row ∷ rows) r zero j lt h v =
    let here : k + 0 ≡ k = omega arith in
    held_here (holds r k) row.1 (stood_from (suc k) rows r) j (ap (λ (n : ℕ). holds r n) (sym here) ∙ h) v
stood_has k (row ∷ rows) r (suc i) j lt h v =
    let next : k + suc i ≡ suc k + i = omega arith in
    held_later (holds r k) row.1 (stood_from (suc k) rows r) j
    (stood_has (suc k) rows r i j (omega arith) (ap (λ (n : ℕ). holds r n) (sym next) ∙ h) v)

held_from : (b : Bool) (v rest k : ℕ) → holds (cond b (join v rest) rest) k ≡ true
    → ((b ≡ true) × (holds v k ≡ true)) ⊎ (holds rest k ≡ true)
held_from true v rest k h = elim (or_cases (holds v k) (holds rest k) (sym (join_holds v rest k) ∙ h)) [
  | inl is ↦ inl (refl, is)
  | inr is ↦ inr is
]
held_from false v rest k h = inr h

stood_only : (k : ℕ) (rows : List NameRow) (r j : ℕ)
    → ((i : ℕ) → i < length rows → holds r (k + i) ≡ true → holds (slice_index_or rows i ([], 0)).1 j ≡ true
    → holds r j ≡ true)
    → holds (stood_from k rows r) j ≡ true → holds r j ≡ true
unfolding stood_from
stood_only k [] r j h is = absurd (let nothing = none_holds j in cc)
stood_only k (row ∷ rows) r j h is = elim (held_from (holds r k) row.1 (stood_from (suc k) rows r) j is) [
  | inl here ↦ (let same : k + 0 ≡ k = omega arith in
      h 0 (omega arith) (ap (λ (n : ℕ). holds r n) same ∙ here.0) here.1)
  | inr later ↦ stood_only (suc k) rows r j
      (λ i lt has v. (let next : k + suc i ≡ suc k + i = omega arith in
      h (suc i) (omega arith) (ap (λ (n : ℕ). holds r n) next ∙ has) v)) later
]

abbrev own_rows : List NameRow
own_rows = take 63 table

row_value : (k : ℕ) → k < 63 → (slice_index_or own_rows k ([], 0)).1 ≡ value_at k
row_value k lt = ap (λ (row : NameRow). row.1) (get_or-take 63 table k ([], 0) lt)

own_count : length own_rows ≡ 63
unfolding table
own_count = refl

-- ---- closed sets, and those that a text names

absorbed : (a b : Bool) → (b ≡ true → a ≡ true) → (a || b) ≡ a
absorbed true b h = refl
absorbed false true h = sym (h refl)
absorbed false false h = refl

included_closed : (r : ℕ) → IsClosed r → included r ≡ r
unfolding included
included_closed r is = same_held (join r (stood_from 0 own_rows r)) r (λ j. join_holds r (stood_from 0 own_rows r) j
    ∙ absorbed (holds r j) (holds (stood_from 0 own_rows r) j) (stood_only 0 own_rows r j
    (λ i lt has v. (let short : i < 63 = omega (arith, own_count) in
    let here : 0 + i ≡ i = omega arith in
    is.closed i j short (ap (λ (n : ℕ). holds n j) (sym (row_value i short)) ∙ v)
    (ap (λ (n : ℕ). holds r n) (sym here) ∙ has)))))

pub closed_included : (r : ℕ) → included r ≡ r → IsClosed r
unfolding included
closed_included r same = record {
  closed = λ k j lt v has. (let here : 0 + k ≡ k = omega arith in
      let stood = stood_has 0 own_rows r k j (omega (arith, own_count)) (ap (λ (n : ℕ). holds r n) here ∙ has)
      (ap (λ (n : ℕ). holds n j) (row_value k lt) ∙ v) in
      ap (λ (n : ℕ). holds n j) (sym same) ∙ join_holds r (stood_from 0 own_rows r) j
      ∙ or_right (holds r j) (holds (stood_from 0 own_rows r) j) stood);
}

-- a set that a text names is closed
pub named_closed : (bytes : List ℕ) (r : ℕ) → names bytes ≡ Some r → IsClosed r
named_closed bytes r is =
    let again : names (text r) ≡ Some r = named_is_read bytes r is in
    let read : names (text r) ≡ Some (included r) = written_is_read r (reads_sets bytes r is) in
    let same : included r ≡ r = (let both = sym read ∙ again in cc) in
    closed_included r same

-- and its own text names a closed set
pub closed_named : (r : ℕ) → IsRightSet r → IsClosed r → names (text r) ≡ Some r
closed_named r set is = written_is_read r set ∙ ap Some (included_closed r is)

-- ---- single sets

pub all_closed : IsClosed all
unfolding rights_on_literals
all_closed = closed_included all refl

pub none_closed : IsClosed none
unfolding rights_on_literals
none_closed = closed_included none refl

pub by_name_closed : IsClosed named
unfolding rights_on_literals
by_name_closed = closed_included named refl

-- ---- what is made of closed sets

pub meet_closed : (r s : ℕ) → IsClosed r → IsClosed s → IsClosed (meet r s)
meet_closed r s first second = record {
  closed = λ k j lt v has. (let both = and_parts (holds r k) (holds s k) (sym (meet_holds r s k) ∙ has) in
      meet_holds r s j
      ∙ and_from (holds r j) (holds s j) (first.closed k j lt v both.0) (second.closed k j lt v both.1));
}

pub join_closed : (r s : ℕ) → IsClosed r → IsClosed s → IsClosed (join r s)
join_closed r s first second = record {
  closed = λ k j lt v has. elim (or_cases (holds r k) (holds s k) (sym (join_holds r s k) ∙ has)) [
    | inl is ↦ join_holds r s j ∙ ap (λ (b : Bool). b || holds s j) (first.closed k j lt v is)
    | inr is ↦ join_holds r s j ∙ or_right (holds r j) (holds s j) (second.closed k j lt v is)
  ];
}

pub without_full_closed : (r : ℕ) → IsClosed r → IsClosed (without_full r)
without_full_closed r is = meet_closed r named is by_name_closed

-- ---- what a name of the table stands for

abbrev whole_rows : List NameRow → Bool
whole_rows rows = list_all (λ (row : NameRow). eqb (included row.1) row.1) rows

table_whole : whole_rows table ≡ true
unfolding rights_on_literals
table_whole = refl

row_closed : (p : NameRow → Bool) (rows : List NameRow) → whole_rows rows ≡ true
    → IsClosed (option_map_or (λ (row : NameRow). row.1) (find p rows) none)
row_closed p [] are = none_closed
row_closed p (row ∷ rows) are =
    let parts = and_parts (eqb (included row.1) row.1) (whole_rows rows) are in
    let more = row_closed p rows parts.1 in
    elim (p row) as (λ b. IsClosed
    (option_map_or (λ (r : NameRow). r.1) (if b then Some row else find p rows) none)) [
      | true ↦ closed_included row.1 (eqb-true (included row.1) row.1 parts.0)
      | false ↦ more
    ]

pub found_closed : (p : NameRow → Bool) → IsClosed (option_map_or (λ (row : NameRow). row.1) (find p table) none)
found_closed p = row_closed p table table_whole
