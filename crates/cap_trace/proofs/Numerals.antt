-- A field that is read is spelled so, and what spells it is read.
use Rattle.std.proofs.Common.{◌≡◌, ℕ, zero, suc, ◌^◌, ◌<◌, ◌≤◌, ◌≢◌, ◌&&◌, ◌||◌, Bool, true, false, cond, not, eqb, ltb}
use Rattle.std.proofs.Common.{leb, List, length, get_or, Option, Some, None, Result, Ok, Err, refl, sym, ap, ◌∙◌, arith}
use Rattle.std.proofs.Common.{tests, ◌+◌, ◌-◌, ◌∷◌, ◌++◌, take, drop}
use Rattle.std.proofs.lemmas.List.{length-take-le, get_or-take, take_all}
use Rattle.std.specs.Str.{all_ascii_digits}
use Rattle.std.specs.Str.Parse.{digits_value}
use Rattle.std.specs.Fmt.{decimal}
use Rattle.std.proofs.lemmas.Str.Parse.{IsNumeralModel, numerals_by_value, tells_all_ascii_digits}
use Rattle.std.proofs.lemmas.Fmt.{decimal-digits_value, digits_decimal, digits_value-decimal, decimal_nonempty}
use Rattle.std.proofs.lemmas.Fmt.{first_decimal, decimal_digit}
use Rattle.std.proofs.lemmas.Bool.{eqb-true, lt-ltb, le-leb, and_parts}
use Rattle.std.proofs.lemmas.Option.{cond_some}
use borrow.Author.Tests.{ltb-true, leb-true}
use Rattle.cap_trace.specs.declared.fault.FirstFault.{FirstFault}
use Rattle.cap_trace.specs.Number.{num_at, digits_at, is_odd}
use Rattle.cap_trace.specs.Reading.{◌>>=◌, need, positive}
use Rattle.cap_trace.proofs.Cuts.{parted}

pub own : IsNumeralModel (λ ds. all_ascii_digits ds ≡ true) (digits_value 10)
own = numerals_by_value _ tells_all_ascii_digits

-- ---- steps

pub bind_ok : {A B : Type 0} (r : Result A FirstFault) (f : A → Result B FirstFault) (y : B) → (r >>= f) ≡ Ok y
    → (x : A) × (r ≡ Ok x) × (f x ≡ Ok y)
bind_ok (Ok x) f y e = (x, refl, e)
bind_ok (Err d) f y e = absurd cc

pub need_ok : {A : Type 0} (d : FirstFault) (o : Option A) (x : A) → need d o ≡ Ok x → o ≡ Some x
need_ok d None x e = absurd cc
need_ok d (Some y) x e = (let e2 = e in cc)

positive_step : (d : FirstFault) (n m : ℕ) (b : Bool) → (b ≡ false → n ≢ 0)
    → ◌≡◌ {A = Result ℕ FirstFault} (cond b (Err d) (Ok n)) (Ok m) → (n ≡ m) × (0 < n)
positive_step d n m true h e = absurd cc
positive_step d n m false h e = ((let e2 = e in cc), (let ne = h refl in omega arith))

pub positive_ok : (d : FirstFault) (o : Option ℕ) (n : ℕ) → positive d o ≡ Ok n → (o ≡ Some n) × (0 < n)
positive_ok d None n e = absurd cc
positive_ok d (Some m) n e = let p = positive_step d m n (eqb m 0) (grind (arith, tests)) e in
    (ap Some p.0, omega (arith, p.0, p.1))

pub positive_again : (d : FirstFault) (n : ℕ) → 0 < n → positive d (Some n) ≡ Ok n
positive_again d n lt = let e : eqb n 0 ≡ false = grind (arith, tests) in rw e refl

-- ---- tests on the way

pub unless_ok : {A : Type 0} (b : Bool) (d : FirstFault) (r : Result A FirstFault) (x : A) → cond b (Err d) r ≡ Ok x
    → (b ≡ false) × (r ≡ Ok x)
unless_ok true d r x e = absurd cc
unless_ok false d r x e = (refl, e)

-- ---- numbers

unless_some : {A : Type 0} (b : Bool) (o : Option A) (x : A) → cond b None o ≡ Some x → (b ≡ false) × (o ≡ Some x)
unless_some true o x e = absurd cc
unless_some false o x e = (refl, e)

below : (most : ℕ) (o : Option ℕ) (n : ℕ)
    → (elim o as (λ _. Option ℕ) [ None ↦ None | Some m ↦ cond (leb m most) (Some m) None ]) ≡ Some n
    → (o ≡ Some n) × (n ≤ most)
below most None n e = absurd cc
below most (Some m) n e = let k = cond_some (leb m most) m n e in
    (ap Some k.1, (let l : leb m most ≡ true = k.0 in omega (arith, k.1, leb-true m most l)))

odd_parts : (a b c : Bool) → (a || (b && not c)) ≡ false → (a ≡ false) × (b ≡ true → c ≡ true)
odd_parts true b c e = absurd cc
odd_parts false true true e = (refl, λ _. refl)
odd_parts false true false e = absurd cc
odd_parts false false c e = (refl, λ f. absurd cc)

plain_number : (t : List ℕ) → is_odd t ≡ false → (0 < length t) × (get_or t 0 0 ≡ 48 → length t ≡ 1)
plain_number t e =
    let p = odd_parts (eqb (length t) 0) (eqb (get_or t 0 0) 48) (eqb (length t) 1) e in
    let some : eqb (length t) 0 ≡ false = p.0 in
    (grind (arith, tests), λ nought. eqb-true _ _ (p.1 (rw nought refl)))

not_odd : (a b c : Bool) → a ≡ false → (b ≡ true → c ≡ true) → (a || (b && not c)) ≡ false
not_odd true b c e f = absurd cc
not_odd false true true e f = refl
not_odd false true false e f = absurd (let g = f refl in cc)
not_odd false false c e f = refl

number_plain : (t : List ℕ) → 0 < length t → (get_or t 0 0 ≡ 48 → length t ≡ 1) → is_odd t ≡ false
number_plain t some nought =
    let there : eqb (length t) 0 ≡ false = grind (arith, tests) in
    not_odd (eqb (length t) 0) (eqb (get_or t 0 0) 48) (eqb (length t) 1) there
    (λ e. let one = nought (eqb-true _ _ e) in rw one refl)

pub num_takes : (most : ℕ) (t : List ℕ) (n : ℕ) → num_at most t ≡ Some n → (t ≡ decimal n) × (n ≤ most)
unfolding num_at digits_at
num_takes most t n e =
    let a = unless_some (is_odd t)
    (elim (digits_at t) as (λ _. Option ℕ) [ None ↦ None | Some m ↦ cond (leb m most) (Some m) None ]) n e in
    let b = below most (digits_at t) n a.1 in
    let d = cond_some (all_ascii_digits t && ltb (digits_value 10 t) (2 ^ 64)) (digits_value 10 t) n b.0 in
    let f = and_parts (all_ascii_digits t) (ltb (digits_value 10 t) (2 ^ 64)) d.0 in
    let p = plain_number t a.0 in
    (sym (decimal-digits_value own t f.0 p.0 p.1 (ltb-true _ _ f.1)) ∙ ap decimal d.1, b.1)

decimal_first : (n : ℕ) → n < 2 ^ 64 → get_or (decimal n) 0 0 ≡ 48 → length (decimal n) ≡ 1
decimal_first zero lt e = ap length (decimal_digit 0 (omega arith))
decimal_first (suc n) lt e = absurd (omega (arith, first_decimal (suc n) (omega arith) lt))

pub num_again : (most n : ℕ) → n ≤ most → n < 2 ^ 64 → num_at most (decimal n) ≡ Some n
unfolding num_at digits_at
num_again most n le lt =
    let odd = number_plain (decimal n) (decimal_nonempty n lt) (decimal_first n lt) in
    let all = digits_decimal own n lt in
    let value = digits_value-decimal own n lt in
    let fits : ltb n (2 ^ 64) ≡ true = lt-ltb _ _ lt in
    let small : leb n most ≡ true = le-leb n most le in
    rw (odd, all, value, fits, small) refl

-- ---- what number_of promises of what it finds

pub num_found : (most : ℕ) (t : List ℕ) (n : ℕ) → Some n ≡ num_at most t → t ≡ decimal n
num_found most t n e = (num_takes most t n (sym e)).0

pub num_only : (most : ℕ) (t : List ℕ) (r : Option ℕ) → r ≡ num_at most t → most < 2 ^ 64 → (n : ℕ) → n ≤ most
    → t ≡ decimal n → r ≡ Some n
num_only most t r e fits n le is = e ∙ ap (num_at most) is ∙ num_again most n le (omega (arith, le, fits))

-- ---- the digits before a place

-- they are digits, and write this number
pub record Digits (t : List ℕ) (i n : ℕ) : Type 0 where
  pub digits : all_ascii_digits (take i t) ≡ true
  pub value : n ≡ digits_value 10 (take i t)

-- a leading 0 is the only digit
abbrev pub LoneZero : List ℕ → ℕ → Type 0
LoneZero t i = get_or t 0 0 ≡ 48 → i ≤ 1

digits_are : {t : List ℕ} {i n : ℕ} → Digits t i n → i ≤ length t → i ≢ 0 → LoneZero t i → n < 2 ^ 64
    → decimal n ≡ take i t
digits_are {t = t} {i = i} {n = n} d le some nought small =
    let size : length (take i t) ≡ i = length-take-le i t le in
    let first : get_or (take i t) 0 0 ≡ get_or t 0 0 = get_or-take i t 0 0 (omega (arith, some)) in
    ap decimal d.value ∙ decimal-digits_value own (take i t) d.digits (omega (arith, size, some))
    (λ z. let le = nought (sym first ∙ z) in omega (arith, size, le, some)) (omega (arith, d.value, small))

-- with the byte that ends them, and the rest
pub number_ends : {t : List ℕ} {i n stop : ℕ} → Digits t i n → i < length t → get_or t i 0 ≡ stop → i ≢ 0
    → LoneZero t i → n < 2 ^ 64 → t ≡ decimal n ++ (stop ∷ take (length t - (i + 1)) (drop (i + 1) t))
number_ends {t = t} {i = i} {n = n} {stop = stop} d lt at some nought small =
    parted t i stop lt at ∙ ap (λ (s : List ℕ). s ++ (stop ∷ take (length t - (i + 1)) (drop (i + 1) t)))
    (sym (digits_are d (omega (arith, lt)) some nought small))

-- with nothing after them
pub number_whole : {t : List ℕ} {i n : ℕ} → Digits t i n → length t ≤ i → i ≤ length t → i ≢ 0
    → LoneZero t i → n < 2 ^ 64 → t ≡ decimal n
number_whole {t = t} {i = i} d le within some nought small =
    sym (digits_are d within some nought small ∙ take_all i t le)
