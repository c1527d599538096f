-- A flag that is last, after a bar.
use Rattle.std.proofs.Common.{◌≡◌, ℕ, ◌-◌, ◌==◌, Bool, true, false, List, [], ◌∷◌, ◌++◌, cond, length, take, drop}
use Rattle.std.proofs.Common.{sym, ap, ◌∙◌, eqb}
use Rattle.std.specs.List.{onto_first, list_any, ends_with}
use Rattle.std.specs.Str.{bytes_eq}
use Rattle.std.proofs.lemmas.List.{take-append-drop}
use Rattle.std.proofs.lemmas.Slice.Eq.{bytes_eq-Decides}
use Rattle.std.proofs.lemmas.Bool.{or_right}
use Rattle.cap_machine.specs.Flags.{flag_words, has_flag}

abbrev beyond_first : List (List ℕ) → List (List ℕ)
beyond_first [] = []
beyond_first (word ∷ words) = words

abbrev stands_in : List ℕ → List (List ℕ) → Bool
stands_in name words = list_any (λ word. bytes_eq word name) words

-- one byte before words; the name is one of them, but not the first
one_before : (name : List ℕ) (is_bar : Bool) (byte : ℕ) (words : List (List ℕ))
    → stands_in name (beyond_first words) ≡ true
    → stands_in name (beyond_first (cond is_bar ([] ∷ words) (onto_first byte words))) ≡ true
one_before name true byte [] is = absurd (cc)
one_before name true byte (word ∷ words) is = or_right (bytes_eq word name) (stands_in name words) is
one_before name false byte [] is = absurd (cc)
one_before name false byte (word ∷ words) is = is

after_bar : (name front last : List ℕ) → has_flag last name ≡ true
    → stands_in name (beyond_first (flag_words (front ++ 124 ∷ last))) ≡ true
after_bar name [] last is = is
after_bar name (byte ∷ front) last is =
    one_before name (byte == 124) byte (flag_words (front ++ 124 ∷ last)) (after_bar name front last is)

among : (name : List ℕ) (words : List (List ℕ)) → stands_in name (beyond_first words) ≡ true
    → stands_in name words ≡ true
among name [] is = is
among name (word ∷ words) is = or_right (bytes_eq word name) (stands_in name words) is

-- where flags end with a bar and a name, the name is one of them
pub last_flag : (flags name : List ℕ) → has_flag name name ≡ true → ends_with eqb flags (124 ∷ name) ≡ true
    → has_flag flags name ≡ true
last_flag flags name itself ends =
    let at = length flags - length (124 ∷ name) in
    let last : 124 ∷ name ≡ drop at flags = (bytes_eq-Decides (124 ∷ name) (drop at flags)).0 ends in
    let parts : flags ≡ take at flags ++ 124 ∷ name =
    sym (take-append-drop at flags) ∙ ap (λ (l : List ℕ). take at flags ++ l) (sym last) in
    ap (λ (l : List ℕ). has_flag l name) parts
    ∙ among name (flag_words (take at flags ++ 124 ∷ name)) (after_bar name (take at flags) name itself)
