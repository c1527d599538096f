-- A loop over the bytes of flags finds what cutting them at the bars says.
use Rattle.std.proofs.Common.{◌≡◌, ℕ, ◌<◌, ◌&&◌, Bool, true, false, cond, not, eqb, List, [], ◌∷◌, length, Option, Some}
use Rattle.std.proofs.Common.{None, refl, sym, ap, ◌∙◌, arith, tests}
use Rattle.std.specs.List.{list_all, slice_split, onto_first}
use Rattle.std.specs.Char.{is_ascii_uppercase}
use Rattle.cap_trace.specs.Fields.{is_flag_byte, is_word}
use Rattle.cap_trace.specs.Steps.{takes_all}
use Rattle.cap_trace.specs.Code.FlagSteps.{flag_step}

-- a test of a byte, as the tables of bytes keep it
pub is_one : (b : Bool) → eqb (cond b 1 0) 1 ≡ b
is_one true = refl
is_one false = refl

abbrev cut_at_bars : List ℕ → List (List ℕ)
cut_at_bars t = slice_split (λ c. eqb c 124) t

-- the parts; the first goes on with a name or begins one
going_on : List (List ℕ) → Bool
going_on [] = true
going_on (w ∷ ws) = list_all is_flag_byte w && list_all is_word ws

bar_no_upper : (c : ℕ) → eqb c 124 ≡ true → is_ascii_uppercase c ≡ false
bar_no_upper c h = grind (arith, tests)

-- what a step leads to
led_to : List ℕ → Option Bool → Bool
led_to cs None = false
led_to cs (Some b) = takes_all flag_step not b cs

one_step : (b : Bool) (c : ℕ) (cs : List ℕ) → takes_all flag_step not b (c ∷ cs) ≡ led_to cs (flag_step b c)
unfolding takes_all led_to
one_step b c cs = refl

inside_onto : (c : ℕ) (parts : List (List ℕ)) → 0 < length parts
    → going_on (onto_first c parts) ≡ (is_flag_byte c && going_on parts)
unfolding going_on
inside_onto c [] lt = absurd (omega arith)
inside_onto c (w ∷ ws) lt = and_assoc (is_flag_byte c) (list_all is_flag_byte w) (list_all is_word ws)
  where
    and_assoc : (a b d : Bool) → (a && b && d) ≡ (a && (b && d))
    and_assoc true b d = refl
    and_assoc false b d = refl

begin_onto : (c : ℕ) (parts : List (List ℕ)) → 0 < length parts
    → list_all is_word (onto_first c parts) ≡ (is_ascii_uppercase c && going_on parts)
unfolding going_on
begin_onto c [] lt = absurd (omega arith)
begin_onto c (w ∷ ws) lt = and_assoc (is_ascii_uppercase c) (list_all is_flag_byte w) (list_all is_word ws)
  where
    and_assoc : (a b d : Bool) → (a && b && d) ≡ (a && (b && d))
    and_assoc true b d = refl
    and_assoc false b d = refl

pub onto_some : (c : ℕ) (parts : List (List ℕ)) → 0 < length (onto_first c parts)
onto_some c [] = omega arith
onto_some c (w ∷ ws) = omega arith

split_step : (b : Bool) (c : ℕ) (more : List (List ℕ)) → 0 < length (cond b ([] ∷ more) (onto_first c more))
split_step true c more = omega arith
split_step false c more = onto_some c more

split_some : (t : List ℕ) → 0 < length (cut_at_bars t)
split_some [] = omega arith
split_some (c ∷ cs) = split_step (eqb c 124) c (cut_at_bars cs)

nothing_goes_on : (ws : List (List ℕ)) → list_all is_word ws ≡ going_on ([] ∷ ws)
unfolding going_on
nothing_goes_on ws = refl

inside_step : (c : ℕ) (cs : List ℕ) (a b : Bool) → eqb c 124 ≡ a → is_flag_byte c ≡ b → takes_all flag_step not false cs
    ≡ going_on (cut_at_bars cs) → takes_all flag_step not true cs ≡ list_all is_word (cut_at_bars cs)
    → led_to cs (cond a (Some true) (cond b (Some false) None))
    ≡ going_on (cond a ([] ∷ cut_at_bars cs) (onto_first c (cut_at_bars cs)))
unfolding led_to
inside_step c cs true b e f on begin = begin ∙ nothing_goes_on (cut_at_bars cs)
inside_step c cs false true e f on begin = on
    ∙ sym (inside_onto c (cut_at_bars cs) (split_some cs) ∙ ap (λ (x : Bool). x && going_on (cut_at_bars cs)) f)
inside_step c cs false false e f on begin =
    sym (inside_onto c (cut_at_bars cs) (split_some cs) ∙ ap (λ (x : Bool). x && going_on (cut_at_bars cs)) f)

begin_step : (c : ℕ) (cs : List ℕ) (a b : Bool) → eqb c 124 ≡ a → is_ascii_uppercase c ≡ b
    → takes_all flag_step not false cs ≡ going_on (cut_at_bars cs)
    → led_to cs (cond b (Some false) None)
    ≡ list_all is_word (cond a ([] ∷ cut_at_bars cs) (onto_first c (cut_at_bars cs)))
unfolding led_to
begin_step c cs true true e f on = absurd (let low = bar_no_upper c e in cc)
begin_step c cs true false e f on = refl
begin_step c cs false true e f on = on
    ∙ sym (begin_onto c (cut_at_bars cs) (split_some cs) ∙ ap (λ (x : Bool). x && going_on (cut_at_bars cs)) f)
begin_step c cs false false e f on =
    sym (begin_onto c (cut_at_bars cs) (split_some cs) ∙ ap (λ (x : Bool). x && going_on (cut_at_bars cs)) f)

both_ways : (t : List ℕ) → (takes_all flag_step not false t ≡ going_on (cut_at_bars t))
    × (takes_all flag_step not true t ≡ list_all is_word (cut_at_bars t))
unfolding takes_all going_on
both_ways [] = (refl, refl)
both_ways (c ∷ cs) =
    let more = both_ways cs in (
      one_step false c cs ∙ inside_step c cs (eqb c 124) (is_flag_byte c) refl refl more.0 more.1,
      one_step true c cs ∙ begin_step c cs (eqb c 124) (is_ascii_uppercase c) refl refl more.0,
    )

pub are_words : (t : List ℕ) → takes_all flag_step not true t ≡ list_all is_word (cut_at_bars t)
are_words t = (both_ways t).1
