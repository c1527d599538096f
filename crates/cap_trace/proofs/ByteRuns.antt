-- What runs of bytes say of a path and of flags.
use Rattle.std.proofs.Common.{◌≡◌, ℕ, zero, suc, ◌+◌, ◌-◌, ◌<◌, ◌≤◌, Bool, true, false, not, eqb, List}
use Rattle.std.proofs.Common.{length, get_or, take, drop, Some, refl, sym, ◌∙◌, arith, tests}
use Rattle.std.proofs.lemmas.Bool.{and_from, or_right}
use Rattle.std.proofs.lemmas.List.{length-take-le, get_or-take}
use Rattle.std.proofs.lemmas.List.Folds.{list_all_more}
use Rattle.std.specs.List.{list_all, slice_split}
use Rattle.std.specs.Char.{is_ascii_uppercase}
use Rattle.std.specs.Str.{bytes_eq}
use Rattle.std.specs.Prelude.{codes}
use Rattle.cap_trace.specs.declared.runs.Run.TheVariants.{Name, Path}
use Rattle.cap_trace.specs.Entry.{some_flags}
use Rattle.cap_trace.specs.Fields.{is_flag_byte, is_flags, is_plain, is_word}
use Rattle.cap_trace.specs.Code.FlagSteps.{flag_step}
use Rattle.cap_trace.specs.Code.FastPath.{Before}
use Rattle.cap_trace.specs.Code.Runs.{Runs}
use Rattle.cap_trace.specs.Steps.{takes_all}
use Rattle.cap_trace.proofs.Bars.{are_words}
use Rattle.cap_trace.proofs.Cuts.{parted}
use Rattle.cap_trace.proofs.Steps.{takes_more, takes_end}

-- ---- a path

pub plain_run : (t : List ℕ) (n : ℕ) → n ≤ length t → Runs Path t 0 n → list_all is_plain (take n t) ≡ true
plain_run t zero le h = refl
plain_run t (suc n) le h =
    let one : suc n ≡ n + 1 = omega arith in
    let before = plain_run t n (omega (arith, le)) (λ k low high. h k low (omega (arith, high))) in
    rw one (list_all_more is_plain t n 0 (omega (arith, le))
    ∙ and_from (list_all is_plain (take n t)) (is_plain (get_or t n 0)) before (h n (omega arith) (omega arith)))

-- ---- flags

-- at this place a name of flags begins, wherever they end
abbrev pub NameBegins : List ℕ → ℕ → Type 0
NameBegins t from = (last : ℕ) → from ≤ last → last ≤ length t
    → takes_all flag_step not true (drop from (take last t)) ≡ takes_all flag_step not true (take last t)

no_bar : (c : ℕ) → is_flag_byte c ≡ true → eqb c 124 ≡ false
no_bar c h = grind (arith, tests)

name_step : (c : ℕ) → is_flag_byte c ≡ true → Some false ≡ flag_step false c
name_step c h = let other = no_bar c h in rw (other, h) refl

first_step : (c : ℕ) → is_ascii_uppercase c ≡ true → Some false ≡ flag_step true c
first_step c h = rw h refl

bar_step : (c : ℕ) → c ≡ 124 → Some true ≡ flag_step false c
bar_step c h = rw h refl

-- a name goes on up to the end of the run
name_run : (t : List ℕ) (i n : ℕ) (total : Bool) → i + n ≤ length t → Runs Name t i (i + n)
    → takes_all flag_step not false (drop i t) ≡ total → takes_all flag_step not false (drop (i + n) t) ≡ total
name_run t i zero total le run h = let e : i + 0 ≡ i = omega arith in rw e h
name_run t i (suc n) total le run h =
    let e : i + suc n ≡ i + n + 1 = omega arith in
    rw e (takes_more flag_step not false false t (i + n) total (omega (arith, le))
    (name_step (get_or t (i + n) 0) (run (i + n) (omega arith) (omega arith)))
    (name_run t i n total (omega (arith, le)) (λ k low high. run k low (omega (arith, high))) h))

-- the name from its letter to the end of the run
name_read : (t : List ℕ) (from end last : ℕ) → from < end → end ≤ last → last ≤ length t → NameBegins t from
    → is_ascii_uppercase (get_or t from 0) ≡ true → Runs Name t (from + 1) end
    → takes_all flag_step not false (drop end (take last t)) ≡ takes_all flag_step not true (take last t)
name_read t from end last lt le within begins upper run =
    let size : length (take last t) ≡ last = length-take-le last t within in
    let total = takes_all flag_step not true (take last t) in
    let first : get_or (take last t) from 0 ≡ get_or t from 0 = get_or-take last t from 0 (omega (arith, lt, le)) in
    let after = takes_more flag_step not true false (take last t) from total (omega (arith, lt, le, size))
    (rw first (first_step (get_or t from 0) upper)) (begins last (omega (arith, lt, le)) within) in
    let count : end ≡ from + 1 + (end - (from + 1)) = omega (arith, lt) in
    rw count (name_run (take last t) (from + 1) (end - (from + 1)) total (omega (arith, lt, le, size))
    (λ k low high. let same = get_or-take last t k 0 (omega (arith, high, lt, le)) in
    rw same (run k low (omega (arith, high, lt)))) after)

pub bar_read : (t : List ℕ) (from end : ℕ) → from < end → end < length t → NameBegins t from
    → is_ascii_uppercase (get_or t from 0) ≡ true → Runs Name t (from + 1) end → get_or t end 0 ≡ 124
    → NameBegins t (end + 1)
bar_read t from end lt inside begins upper run bar = λ last low within.
    let size : length (take last t) ≡ last = length-take-le last t within in
    let same : get_or (take last t) end 0 ≡ get_or t end 0 = get_or-take last t end 0 (omega (arith, low)) in
    takes_more flag_step not false true (take last t) end _ (omega (arith, low, size))
    (bar_step (get_or (take last t) end 0) (same ∙ bar))
    (name_read t from end last lt (omega (arith, low)) within begins upper run)

names_whole : (t : List ℕ) (from end : ℕ) → from < end → end < length t → NameBegins t from
    → is_ascii_uppercase (get_or t from 0) ≡ true → Runs Name t (from + 1) end → is_flags (take end t) ≡ true
names_whole t from end lt inside begins upper run =
    let size : length (take end t) ≡ end = length-take-le end t (omega (arith, inside)) in
    let read = name_read t from end end lt (omega arith) (omega (arith, inside)) begins upper run in
    let all = takes_end flag_step not false (take end t) end _ (omega (arith, size)) read in
    or_right (bytes_eq (take end t) (codes "0")) (list_all is_word (slice_split (λ c. eqb c 124) (take end t)))
    (sym (all ∙ are_words (take end t)))

pub flags_end : (stop : ℕ) (t : List ℕ) (from end : ℕ) → from < end → end < length t → NameBegins t from
    → is_ascii_uppercase (get_or t from 0) ≡ true → Runs Name t (from + 1) end → get_or t end 0 ≡ stop
    → Before t (some_flags (take end t)) stop (take (length t - (end + 1)) (drop (end + 1) t))
flags_end stop t from end lt inside begins upper run at =
    record {
      spelling = take end t;
      arg = (refl, names_whole t from end lt inside begins upper run);
      parts = parted t end stop inside at;
    }
