-- Texts without commas, brackets and quotes, and other texts that can be a part.
use Rattle.std.proofs.Common.{◌≡◌, ℕ, ◌+◌, ◌*◌, ◌-◌, ◌<◌, ◌&&◌, ◌||◌, Bool, true, false, cond, not, eqb, leb, List, []}
use Rattle.std.proofs.Common.{◌∷◌, ◌++◌, length, Option, Some, None, refl, sym, ap, subst, ◌∙◌, arith, tests, ◌⊎◌, inl}
use Rattle.std.proofs.Common.{inr}
use Rattle.std.specs.Prelude.{option_map}
use Rattle.std.specs.List.{list_all, slice_split}
use Rattle.std.specs.Char.{is_ascii_digit, is_ascii_uppercase}
use Rattle.std.specs.Str.{bytes_eq}
use Rattle.std.proofs.lemmas.Slice.Eq.{bytes_eq-Decides}
use Rattle.std.proofs.lemmas.Bool.{not-true, and_parts, and_from, or_cases}
use Rattle.std.proofs.lemmas.Option.{cond_some}
use Rattle.cap_rights.proofs.Plain.{plain as right_byte}
use Rattle.cap_trace.specs.declared.quotes.Quoting.{Quoting}
use Rattle.cap_trace.specs.declared.quotes.Quoting.TheVariants.{Outside, Inside, Skipping}
use Rattle.cap_trace.specs.declared.fields.Place.{Place}
use Rattle.cap_trace.specs.declared.fields.Place.TheVariants.{Between, Slash, Digits, OneDigit}
use Rattle.cap_trace.specs.Quotes.{after}
use Rattle.cap_trace.specs.Fields.{is_flag_byte, is_word, is_flags, is_plain, hex_digit, is_escaped, second_digit}
use Rattle.cap_trace.specs.Fields.{item_step, is_between, are_items, quoted}
use Rattle.cap_trace.specs.Steps.{takes_all}
use Rattle.cap_trace.specs.Code.FlagSteps.{flag_step}
use Rattle.cap_trace.proofs.Bars.{are_words}
use Rattle.cap_trace.proofs.Cuts.{closes, IsPart}

pub weaken : (p q : ℕ → Bool) → ((c : ℕ) → p c ≡ true → q c ≡ true) → (t : List ℕ) → list_all p t ≡ true
    → list_all q t ≡ true
weaken p q f [] h = refl
weaken p q f (c ∷ cs) h = let k = and_parts (p c) (list_all p cs) h in
    and_from (q c) (list_all q cs) (f c k.0) (weaken p q f cs k.1)

-- no comma, no bracket that closes, no quote
abbrev pub is_quiet : ℕ → Bool
is_quiet c = not (eqb c 44) && not (eqb c 41) && not (eqb c 34)

quiet_stop : (stop c : ℕ) → (stop ≡ 44) ⊎ (stop ≡ 41) → is_quiet c ≡ true → eqb c stop ≡ false
quiet_stop stop c (inl o) h = let k = and_parts (not (eqb c 44) && not (eqb c 41)) (not (eqb c 34)) h in
    let l = and_parts (not (eqb c 44)) (not (eqb c 41)) k.0 in rw o (not-true _ l.0)
quiet_stop stop c (inr o) h = let k = and_parts (not (eqb c 44) && not (eqb c 41)) (not (eqb c 34)) h in
    let l = and_parts (not (eqb c 44)) (not (eqb c 41)) k.0 in rw o (not-true _ l.1)

quiet_quote : (c : ℕ) → is_quiet c ≡ true → eqb c 34 ≡ false
quiet_quote c h = not-true _ (and_parts (not (eqb c 44) && not (eqb c 41)) (not (eqb c 34)) h).1

quiet_closes : (stop : ℕ) (t : List ℕ) → (stop ≡ 44) ⊎ (stop ≡ 41) → list_all is_quiet t ≡ true
    → closes Outside stop t ≡ true
quiet_closes stop [] o h = refl
quiet_closes stop (c ∷ cs) o h =
    let p = and_parts (is_quiet c) (list_all is_quiet cs) h in
    rw (quiet_stop stop c o p.0, quiet_quote c p.0) (quiet_closes stop cs o p.1)

pub quiet_part : (t : List ℕ) → 0 < length t → list_all is_quiet t ≡ true → IsPart t
quiet_part t lt h = record {
  some = lt;
  comma = quiet_closes 44 t (inl refl) h;
  bracket = quiet_closes 41 t (inr refl) h;
}

-- ---- bytes

pub digit_quiet : (c : ℕ) → is_ascii_digit c ≡ true → is_quiet c ≡ true
digit_quiet c h = grind (arith, tests)

pub right_quiet : (c : ℕ) → right_byte c ≡ true → is_quiet c ≡ true
right_quiet c h = grind (arith, tests)

pub flag_quiet : (c : ℕ) → is_flag_byte c ≡ true → is_quiet c ≡ true
flag_quiet c h = grind (arith, tests)

upper_quiet : (c : ℕ) → is_ascii_uppercase c ≡ true → is_quiet c ≡ true
upper_quiet c h = grind (arith, tests)

bar_quiet : (c : ℕ) → eqb c 124 ≡ true → is_quiet c ≡ true
bar_quiet c h = grind (arith, tests)

-- ---- flags and commands

-- what is taken begins with a step
takes_first : {S : Type 0} (step : S → ℕ → Option S) (ends : S → Bool) (s : S) (c : ℕ) (cs : List ℕ) (o : Option S)
    → step s c ≡ o
    → (elim o as (λ _. Bool) [ None ↦ false | Some u ↦ takes_all step ends u cs ]) ≡ true
    → (u : S) × (step s c ≡ Some u) × (takes_all step ends u cs ≡ true)
takes_first step ends s c cs None e h = absurd cc
takes_first step ends s c cs (Some u) e h = (u, e, h)

pub takes_one : {S : Type 0} (step : S → ℕ → Option S) (ends : S → Bool) (s : S) (c : ℕ) (cs : List ℕ)
    → takes_all step ends s (c ∷ cs) ≡ true → (u : S) × (step s c ≡ Some u) × (takes_all step ends u cs ≡ true)
unfolding takes_all
takes_one step ends s c cs h = takes_first step ends s c cs (step s c) refl h

inside_name : (c : ℕ) (a b : Bool) (u : Bool) → eqb c 124 ≡ a → is_flag_byte c ≡ b
    → cond a (Some true) (cond b (Some false) None) ≡ Some u → is_quiet c ≡ true
inside_name c true b u e f h = bar_quiet c e
inside_name c false true u e f h = flag_quiet c f
inside_name c false false u e f h = absurd cc

flag_step_quiet : (b : Bool) (c : ℕ) (u : Bool) → flag_step b c ≡ Some u → is_quiet c ≡ true
flag_step_quiet true c u e = upper_quiet c (cond_some (is_ascii_uppercase c) false u e).0
flag_step_quiet false c u e = inside_name c (eqb c 124) (is_flag_byte c) u refl refl e

names_quiet : (b : Bool) (t : List ℕ) → takes_all flag_step not b t ≡ true → list_all is_quiet t ≡ true
names_quiet b [] h = refl
names_quiet b (c ∷ cs) h =
    let k = takes_one flag_step not b c cs h in
    and_from (is_quiet c) (list_all is_quiet cs) (flag_step_quiet b c k.0 k.1) (names_quiet k.0 cs k.2)

names_some : (t : List ℕ) → takes_all flag_step not true t ≡ true → 0 < length t
unfolding takes_all
names_some [] h = absurd cc
names_some (c ∷ cs) h = omega arith

pub flags_part : (t : List ℕ) → is_flags t ≡ true → IsPart t
flags_part t h =
    elim (or_cases (bytes_eq t (48 ∷ [])) (list_all is_word (slice_split (λ c. eqb c 124) t)) h) as (λ _. IsPart t) [
      | inl e ↦ subst IsPart (sym ((bytes_eq-Decides t (48 ∷ [])).0 e)) (quiet_part (48 ∷ []) (omega arith) refl)
      | inr e ↦ let taken = are_words t ∙ e in quiet_part t (names_some t taken) (names_quiet true t taken)
    ]

pub word_part : (t : List ℕ) → is_word t ≡ true → IsPart t
word_part [] h = absurd cc
word_part (c ∷ cs) h =
    let k = and_parts (is_ascii_uppercase c) (list_all is_flag_byte cs) h in
    quiet_part (c ∷ cs) (omega arith) (and_from (is_quiet c) (list_all is_quiet cs) (upper_quiet c k.0)
    (weaken is_flag_byte is_quiet flag_quiet cs k.1))

-- ---- paths

-- where a place in a path is, by its quotes
quoting_of : Place → Quoting
quoting_of Between = Inside
quoting_of Slash = Skipping
quoting_of Digits = Inside
quoting_of (OneDigit h) = Inside

hex_apart : (c d : ℕ) (a b : Bool) → is_ascii_digit c ≡ a → (leb 97 c && leb c 102) ≡ b
    → cond a (Some (c - 48)) (cond b (Some (c - 87)) None) ≡ Some d → (eqb c 92 ≡ false) × (eqb c 34 ≡ false)
hex_apart c d true b e f h = (grind (arith, tests), grind (arith, tests))
hex_apart c d false true e f h = (grind (arith, tests), grind (arith, tests))
hex_apart c d false false e f h = absurd cc

hex_inside : (c d : ℕ) → hex_digit c ≡ Some d → after Inside c ≡ Inside
hex_inside c d h = let k = hex_apart c d (is_ascii_digit c) (leb 97 c && leb c 102) refl refl h in rw (k.0, k.1) refl

plain_inside : (c : ℕ) → is_plain c ≡ true → eqb c 34 ≡ false
plain_inside c h = grind (arith, tests)

after_plain : (c : ℕ) (u : Place) (a b : Bool) → eqb c 92 ≡ a → is_plain c ≡ b
    → cond a (Some Slash) (cond b (Some Between) None) ≡ Some u → after Inside c ≡ quoting_of u
unfolding quoting_of
after_plain c u true b e f h = rw e (ap quoting_of (cond_some true Slash u h).1)
after_plain c u false true e f h = rw (e, plain_inside c f) (ap quoting_of (cond_some true Between u h).1)
after_plain c u false false e f h = absurd cc

after_slash : (u : Place) (a b : Bool) → cond a (Some Between) (cond b (Some Digits) None) ≡ Some u
    → Inside ≡ quoting_of u
unfolding quoting_of
after_slash u true b h = ap quoting_of (cond_some true Between u h).1
after_slash u false true h = ap quoting_of (cond_some true Digits u h).1
after_slash u false false h = absurd cc

after_digit : (c : ℕ) (u : Place) (o : Option ℕ) → hex_digit c ≡ o → option_map OneDigit o ≡ Some u
    → after Inside c ≡ quoting_of u
unfolding quoting_of
after_digit c u None e h = absurd cc
after_digit c u (Some d) e h = hex_inside c d e ∙ ap quoting_of (cond_some true (OneDigit d) u h).1

after_second : (c g : ℕ) (u : Place) (o : Option ℕ) → hex_digit c ≡ o → second_digit g o ≡ Some u
    → after Inside c ≡ quoting_of u
unfolding quoting_of
after_second c g u None e h = absurd cc
after_second c g u (Some d) e h = hex_inside c d e ∙ ap quoting_of (cond_some (is_escaped (16 * g + d)) Between u h).1

item_inside : (p : Place) (c : ℕ) (u : Place) → item_step p c ≡ Some u → after (quoting_of p) c ≡ quoting_of u
unfolding quoting_of
item_inside Between c u h = after_plain c u (eqb c 92) (is_plain c) refl refl h
item_inside Slash c u h = after_slash u (eqb c 34 || eqb c 92) (eqb c 120) h
item_inside Digits c u h = after_digit c u (hex_digit c) refl h
item_inside (OneDigit g) c u h = after_second c g u (hex_digit c) refl h

quoted_step : (p : Place) (stop c : ℕ) (rest : List ℕ) → closes (after (quoting_of p) c) stop rest ≡ true
    → closes (quoting_of p) stop (c ∷ rest) ≡ true
unfolding quoting_of
quoted_step Between stop c rest h = h
quoted_step p stop c rest h = h

items_end : (p : Place) (stop : ℕ) → is_between p ≡ true → closes (quoting_of p) stop (34 ∷ []) ≡ true
unfolding quoting_of
items_end Between stop h = refl
items_end p stop h = absurd cc

items_close : (p : Place) (stop : ℕ) (t : List ℕ) → takes_all item_step is_between p t ≡ true
    → closes (quoting_of p) stop (t ++ 34 ∷ []) ≡ true
unfolding takes_all
items_close p stop [] h = items_end p stop h
items_close p stop (c ∷ cs) h =
    let k = takes_one item_step is_between p c cs h in
    quoted_step p stop c (cs ++ 34 ∷ []) (subst (λ (q : Quoting). closes q stop (cs ++ 34 ∷ []) ≡ true)
    (sym (item_inside p c k.0 k.1)) (items_close k.0 stop cs k.2))

pub path_part : (p : List ℕ) → are_items p ≡ true → IsPart (quoted p)
unfolding quoting_of
path_part p h = record { some = omega arith; comma = items_close Between 44 p h; bracket = items_close Between 41 p h }
