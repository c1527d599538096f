-- A text is what was cut from it, and what was joined is cut there again.
use Rattle.std.proofs.Common.{add-one, ◌≡◌, ℕ, suc, ◌+◌, ◌-◌, ◌<◌, ◌&&◌, Bool, true, false, cond, not, eqb, ltb, List}
use Rattle.std.proofs.Common.{[], ◌∷◌, ◌++◌, length, take, drop, Option, Some, None, refl, ap, subst, ◌∙◌, arith, inl}
use Rattle.std.proofs.Common.{inr}
use Rattle.std.specs.Prelude.{nat_eq}
use Rattle.std.specs.List.{position_or_len, list_all, starts_with, ends_with, onto_first, join_with_byte}
use borrow.Author.Tests.{ltb-true}
use Rattle.std.proofs.lemmas.List.{take_at, drop_at, length-append, length-drop, take_all, drop_more, take-append-drop}
use Rattle.std.proofs.Common.{get_or, sym}
use Rattle.std.proofs.lemmas.List.Sums.{passes_at_first}
use Rattle.std.proofs.lemmas.Bool.{eqb-true, lt-ltb, le-ltb, not-true, and_parts}
use Rattle.std.proofs.lemmas.Bool.Decides.{Decides-eqb}
use Rattle.std.proofs.lemmas.Slice.Eq.{starts_is, ends_is}
use Rattle.std.proofs.lemmas.Option.{cond_some}
use Rattle.cap_trace.specs.declared.quotes.Quoting.{Quoting}
use Rattle.cap_trace.specs.declared.quotes.Quoting.TheVariants.{Outside, Inside, Skipping}
use Rattle.cap_trace.specs.Quotes.{after, stops, place, place_from, pieces, pieces_from, around, cut_at_byte}
use Rattle.cap_trace.specs.Quotes.{cut_outside}
use Rattle.cap_trace.specs.Reading.{after_prefix, before_suffix}
use Rattle.cap_trace.proofs.Quoted.{after_one}
use Rattle.cap_trace.proofs.Bars.{onto_some}

-- ---- options and tests

pub eqb_same : (n : ℕ) → eqb n n ≡ true
eqb_same n = (Decides-eqb n n).1 refl

-- ---- round a place

-- the text round a place
split_at : (t : List ℕ) (i stop : ℕ) → i < length t → get_or t i 0 ≡ stop → t ≡ take i t ++ (stop ∷ drop (i + 1) t)
split_at t i stop lt at = sym (take-append-drop i t)
    ∙ ap (λ (s : List ℕ). take i t ++ s) (drop_more t i 0 lt ∙ ap (λ (c : ℕ). c ∷ drop (i + 1) t) at)

pub parted : (t : List ℕ) (i stop : ℕ) → i < length t → get_or t i 0 ≡ stop
    → t ≡ take i t ++ (stop ∷ take (length t - (i + 1)) (drop (i + 1) t))
parted t i stop lt at =
    let whole = take_all (length t - (i + 1)) (drop (i + 1) t) (omega (arith, length-drop (i + 1) t)) in
    split_at t i stop lt at ∙ ap (λ (s : List ℕ). take i t ++ (stop ∷ s)) (sym whole)

-- ---- a prefix

pub after_prefix_takes : (p t r : List ℕ) → after_prefix p t ≡ Some r → t ≡ p ++ r
after_prefix_takes p t r e =
    let k = cond_some (starts_with nat_eq t p) (drop (length p) t) r e in
    (starts_is Decides-eqb t p (starts_with nat_eq t p) refl).0 k.0 ∙ ap (λ (s : List ℕ). p ++ s) k.1

pub after_prefix_again : (p r : List ℕ) → after_prefix p (p ++ r) ≡ Some r
after_prefix_again p r =
    let starts : starts_with nat_eq (p ++ r) p ≡ true =
    (starts_is Decides-eqb (p ++ r) p (starts_with nat_eq (p ++ r) p) refl).1 r refl in
    rw (starts, drop_at p r (length p) refl) refl

-- ---- round the first such byte

abbrev is : ℕ → ℕ → Bool
is c x = eqb x c

abbrev pub lacks : ℕ → List ℕ → Bool
lacks c t = list_all (λ x. not (is c x)) t

found_byte : (c : ℕ) (t : List ℕ) → position_or_len (is c) t < length t
    → t ≡ take (position_or_len (is c) t) t ++ (c ∷ drop (position_or_len (is c) t + 1) t)
found_byte c t lt = split_at t (position_or_len (is c) t) c lt (eqb-true _ c (passes_at_first (is c) t 0 lt))

first_byte : (c : ℕ) (a b : List ℕ) → lacks c a ≡ true → position_or_len (is c) (a ++ c ∷ b) ≡ length a
first_byte c [] b h = rw (eqb_same c) refl
first_byte c (x ∷ a) b h = let p = and_parts (not (is c x)) (lacks c a) h in rw (p.0, first_byte c a b p.1) (omega arith)

around_some : (t : List ℕ) (b : Bool) (k : ℕ) (x : List ℕ × List ℕ) → around t (cond b (Some k) None) ≡ Some x
    → (b ≡ true) × ((take k t, drop (k + 1) t) ≡ x)
around_some t true k x e = (refl, cc)
around_some t false k x e = absurd cc

pub cut_takes : (c : ℕ) (t : List ℕ) (x : List ℕ × List ℕ) → cut_at_byte c t ≡ Some x → t ≡ x.0 ++ (c ∷ x.1)
cut_takes c t x e =
    let k = around_some t (ltb (position_or_len (is c) t) (length t)) (position_or_len (is c) t) x e in
    subst (λ (y : List ℕ × List ℕ). t ≡ y.0 ++ (c ∷ y.1)) k.1 (found_byte c t (ltb-true _ _ k.0))

drop_after : (s : List ℕ) (c : ℕ) (b : List ℕ) → drop (suc (length s)) (s ++ (c ∷ b)) ≡ b
drop_after [] c b = refl
drop_after (y ∷ s) c b = drop_after s c b

pub cut_again : (c : ℕ) (a b : List ℕ) → lacks c a ≡ true → cut_at_byte c (a ++ (c ∷ b)) ≡ Some (a, b)
cut_again c a b h =
    let at = first_byte c a b h in
    let lt : ltb (length a) (length (a ++ c ∷ b)) ≡ true = lt-ltb _ _ (simp length-append (omega arith)) in
    rw (at, lt, take_at a (c ∷ b) (length a) refl, add-one) (ap (λ (r : List ℕ). Some (a, r)) (drop_after a c b))

-- ---- outside quotes

-- no such byte is outside quotes, and the quotes are closed at the end
abbrev pub closes : Quoting → ℕ → List ℕ → Bool
closes q stop [] = elim q as (λ _. Bool) [ Outside ↦ true | Inside ↦ false | Skipping ↦ false ]
closes q stop (c ∷ cs) = not (stops q stop c) && closes (after q c) stop cs

pub closes-append : (q : Quoting) (stop : ℕ) (a b : List ℕ) → closes q stop a ≡ true → closes Outside stop b ≡ true
    → closes q stop (a ++ b) ≡ true
closes-append Outside stop [] b h g = g
closes-append Inside stop [] b h g = absurd cc
closes-append Skipping stop [] b h g = absurd cc
closes-append q stop (c ∷ cs) b h g = let p = and_parts (not (stops q stop c)) (closes (after q c) stop cs) h in
    rw (p.0, closes-append (after q c) stop cs b p.1 g) refl

place_after : (q : Quoting) (stop : ℕ) (a b : List ℕ) → closes q stop a ≡ true
    → place_from q stop (a ++ (stop ∷ b)) ≡ Some (length a)
unfolding place_from
place_after Outside stop [] b h = rw (eqb_same stop) refl
place_after Inside stop [] b h = absurd cc
place_after Skipping stop [] b h = absurd cc
place_after q stop (c ∷ cs) b h = let p = and_parts (not (stops q stop c)) (closes (after q c) stop cs) h in
    rw (not-true _ p.0, place_after (after q c) stop cs b p.1) refl

stop_is : (q : Quoting) (stop c : ℕ) → stops q stop c ≡ true → c ≡ stop
stop_is Outside stop c e = eqb-true c stop e
stop_is Inside stop c e = absurd cc
stop_is Skipping stop c e = absurd cc

place_takes : (q : Quoting) (stop : ℕ) (t : List ℕ) (i : ℕ) → place_from q stop t ≡ Some i
    → t ≡ take i t ++ (stop ∷ drop (suc i) t)
unfolding place_from
place_takes q stop [] i e = absurd cc
place_takes q stop (c ∷ cs) i e =
    elim (after_one (stops q stop c) (place_from (after q c) stop cs) i e) [
      | inl h ↦ rw (h.1, ← stop_is q stop c h.0) refl
      | inr h ↦ rw h.1.2 (ap (λ (s : List ℕ). c ∷ s) (place_takes (after q c) stop cs h.1.0 h.1.1))
    ]

around_is : (t : List ℕ) (o : Option ℕ) (x : List ℕ × List ℕ) → around t o ≡ Some x
    → (k : ℕ) × (o ≡ Some k) × ((take k t, drop (k + 1) t) ≡ x)
around_is t None x e = absurd cc
around_is t (Some k) x e = (k, refl, cc)

pub outside_takes : (stop : ℕ) (t : List ℕ) (x : List ℕ × List ℕ) → cut_outside stop t ≡ Some x
    → t ≡ x.0 ++ (stop ∷ x.1)
outside_takes stop t x e =
    let k = around_is t (place stop t) x e in
    subst (λ (y : List ℕ × List ℕ). t ≡ y.0 ++ (stop ∷ y.1)) k.2 (rw add-one (place_takes Outside stop t k.0 k.1))

pub outside_again : (stop : ℕ) (a b : List ℕ) → closes Outside stop a ≡ true
    → cut_outside stop (a ++ (stop ∷ b)) ≡ Some (a, b)
outside_again stop a b h = rw (place_after Outside stop a b h, take_at a (stop ∷ b) (length a) refl, add-one)
    (ap (λ (r : List ℕ). Some (a, r)) (drop_after a stop b))

-- ---- parts at commas

pub pieces_after : (q : Quoting) (a b : List ℕ) → closes q 44 a ≡ true
    → pieces_from q (a ++ (44 ∷ b)) ≡ a ∷ pieces_from Outside b
unfolding pieces_from
pieces_after Outside [] b h = refl
pieces_after Inside [] b h = absurd cc
pieces_after Skipping [] b h = absurd cc
pieces_after q (c ∷ cs) b h = let p = and_parts (not (stops q 44 c)) (closes (after q c) 44 cs) h in
    rw (not-true _ p.0, pieces_after (after q c) cs b p.1) refl

piece_alone : (q : Quoting) (a : List ℕ) → closes q 44 a ≡ true → pieces_from q a ≡ a ∷ []
unfolding pieces_from
piece_alone q [] h = refl
piece_alone q (c ∷ cs) h = let p = and_parts (not (stops q 44 c)) (closes (after q c) 44 cs) h in
    rw (not-true _ p.0, piece_alone (after q c) cs p.1) refl

-- a text that may be a part
pub record IsPart (t : List ℕ) : Type 0 where
  pub some : 0 < length t
  pub comma : closes Outside 44 t ≡ true
  pub bracket : closes Outside 41 t ≡ true

abbrev pub AreParts : List (List ℕ) → Type 0
AreParts [] = Unit {0}
AreParts (t ∷ ts) = IsPart t × AreParts ts

parts_joined : (t : List ℕ) (ts : List (List ℕ)) → AreParts (t ∷ ts)
    → pieces_from Outside (join_with_byte 44 (t ∷ ts)) ≡ t ∷ ts
parts_joined t [] h = piece_alone Outside t h.0.comma
parts_joined t (u ∷ us) h = pieces_after Outside t (join_with_byte 44 (u ∷ us)) h.0.comma
    ∙ ap (λ (r : List (List ℕ)). t ∷ r) (parts_joined u us h.1)

pieces_some : (t : List ℕ) → 0 < length t → pieces t ≡ pieces_from Outside t
unfolding pieces
pieces_some [] lt = absurd (omega arith)
pieces_some (c ∷ cs) lt = refl

length_joined : (t : List ℕ) (ts : List (List ℕ)) → 0 < length t → 0 < length (join_with_byte 44 (t ∷ ts))
length_joined t [] lt = lt
length_joined t (u ∷ us) lt = simp length-append (omega arith)

pub pieces_again : (ts : List (List ℕ)) → AreParts ts → pieces (join_with_byte 44 ts) ≡ ts
unfolding pieces
pieces_again [] h = refl
pieces_again (t ∷ ts) h = pieces_some (join_with_byte 44 (t ∷ ts)) (length_joined t ts h.0.some) ∙ parts_joined t ts h

onto_joined : (c : ℕ) (parts : List (List ℕ)) → 0 < length parts
    → join_with_byte 44 (onto_first c parts) ≡ c ∷ join_with_byte 44 parts
onto_joined c [] lt = absurd (omega arith)
onto_joined c (t ∷ []) lt = refl
onto_joined c (t ∷ u ∷ us) lt = refl

step_there : (b : Bool) (c : ℕ) (here more : List (List ℕ)) → 0 < length (cond b ([] ∷ here) (onto_first c more))
step_there true c here more = omega arith
step_there false c here more = onto_some c more

pieces_there : (q : Quoting) (t : List ℕ) → 0 < length (pieces_from q t)
unfolding pieces_from
pieces_there q [] = omega arith
pieces_there q (c ∷ cs) = step_there (stops q 44 c) c (pieces_from Outside cs) (pieces_from (after q c) cs)

nothing_joined : (parts : List (List ℕ)) → 0 < length parts
    → join_with_byte 44 ([] ∷ parts) ≡ 44 ∷ join_with_byte 44 parts
nothing_joined [] lt = absurd (omega arith)
nothing_joined (t ∷ ts) lt = refl

step_joined : (b : Bool) (c : ℕ) (cs : List ℕ) (here more : List (List ℕ)) → (b ≡ true → c ≡ 44) → 0 < length here
    → 0 < length more → join_with_byte 44 here ≡ cs → join_with_byte 44 more ≡ cs
    → join_with_byte 44 (cond b ([] ∷ here) (onto_first c more)) ≡ c ∷ cs
step_joined true c cs here more same lt mt e f = rw (nothing_joined here lt, e, same refl) refl
step_joined false c cs here more same lt mt e f = rw (onto_joined c more mt, f) refl

pieces_from_joined : (q : Quoting) (t : List ℕ) → join_with_byte 44 (pieces_from q t) ≡ t
unfolding pieces_from
pieces_from_joined q [] = refl
pieces_from_joined q (c ∷ cs) =
    step_joined (stops q 44 c) c cs (pieces_from Outside cs) (pieces_from (after q c) cs) (stop_is q 44 c)
    (pieces_there Outside cs)
    (pieces_there (after q c) cs) (pieces_from_joined Outside cs) (pieces_from_joined (after q c) cs)

pub pieces_takes : (t : List ℕ) → join_with_byte 44 (pieces t) ≡ t
unfolding pieces
pieces_takes [] = refl
pieces_takes (c ∷ cs) = pieces_from_joined Outside (c ∷ cs)

-- ---- a suffix

pub before_suffix_takes : (p t r : List ℕ) → before_suffix p t ≡ Some r → t ≡ r ++ p
before_suffix_takes p t r e =
    let k = cond_some (ends_with nat_eq t p) (take (length t - length p) t) r e in
    (ends_is Decides-eqb t p (ends_with nat_eq t p) refl).0 k.0 ∙ ap (λ (s : List ℕ). s ++ p) k.1

pub before_suffix_again : (p r : List ℕ) → before_suffix p (r ++ p) ≡ Some r
before_suffix_again p r =
    let ends : ends_with nat_eq (r ++ p) p ≡ true =
    (ends_is Decides-eqb (r ++ p) p (ends_with nat_eq (r ++ p) p) refl).1 r refl in
    rw ends (ap Some (take_at r p (length (r ++ p) - length p) (simp length-append (omega arith))))

-- ---- no such byte

none_byte : (c : ℕ) (t : List ℕ) → lacks c t ≡ true → position_or_len (is c) t ≡ length t
none_byte c [] h = refl
none_byte c (x ∷ xs) h = let p = and_parts (not (is c x)) (lacks c xs) h in rw (p.0, none_byte c xs p.1) (omega arith)

pub cut_none : (c : ℕ) (t : List ℕ) → lacks c t ≡ true → cut_at_byte c t ≡ None
cut_none c t h =
    let at = none_byte c t h in
    let ge : ltb (length t) (length t) ≡ false = le-ltb _ _ (omega arith) in
    rw (at, ge) refl
