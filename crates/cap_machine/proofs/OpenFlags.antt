-- Flags of openat(2) that ask for no more than to read.
use Rattle.std.proofs.Common.{◌≡◌, ℕ, ◌||◌, Bool, true, false, List, [], ◌∷◌, refl, ap, sym, ◌∙◌}
use Rattle.std.specs.Prelude.{codes}
use Rattle.std.specs.List.{list_any, list_all}
use Rattle.std.specs.Str.{bytes_eq}
use Rattle.std.proofs.lemmas.Slice.Eq.{bytes_eq-Decides}
use Rattle.std.proofs.lemmas.Bool.{and_parts, false_from_ne_true}
use Rattle.cap_rights.specs.Names.{table}
use Rattle.cap_rights.specs.Rights.{join}
use Rattle.cap_machine.specs.Flags.{flag_words, has_flag, is_one_of, all_known}
use Rattle.cap_machine.specs.Needs.{named, access_needs, opening_needs, openat_needs}

-- a name that is none of the known ones is in no list of them
absent_in : (known : List (List ℕ)) (name : List ℕ) (words : List (List ℕ)) → is_one_of known name ≡ false
    → list_all (is_one_of known) words ≡ true → list_any (λ word. bytes_eq word name) words ≡ false
absent_in known name [] unknown all = refl
absent_in known name (word ∷ words) unknown all =
    let parts = and_parts (is_one_of known word) (list_all (is_one_of known) words) all in
    let here : bytes_eq word name ≡ false = false_from_ne_true (bytes_eq word name) (λ same.
    let listed : is_one_of known name ≡ true =
    sym (ap (is_one_of known) ((bytes_eq-Decides word name).0 same)) ∙ parts.0 in
    cc) in
    ap (λ (b : Bool). b || list_any (λ word. bytes_eq word name) words) here
    ∙ absent_in known name words unknown parts.1

absent : (known : List (List ℕ)) (flags name : List ℕ) → all_known known flags ≡ true → is_one_of known name ≡ false
    → has_flag flags name ≡ false
absent known flags name all unknown = absent_in known name (flag_words flags) unknown all

abbrev pub reading_flags : List (List ℕ)
reading_flags =
    codes "O_RDONLY" ∷ codes "O_CLOEXEC" ∷ codes "O_DIRECTORY" ∷ codes "O_NONBLOCK" ∷ codes "O_NOFOLLOW" ∷ []

pub reading_needs : (flags : List ℕ) → all_known reading_flags flags ≡ true
    → openat_needs flags ≡ join (named (codes "CAP_LOOKUP")) (named (codes "CAP_READ"))
unfolding openat_needs access_needs opening_needs named table
reading_needs flags all =
    let lacks : (name : List ℕ) → is_one_of reading_flags name ≡ false → has_flag flags name ≡ false =
    λ name. absent reading_flags flags name all in
    simp (
      lacks (codes "O_PATH") refl,
      lacks (codes "O_SEARCH") refl,
      lacks (codes "O_EXEC") refl,
      lacks (codes "O_RDWR") refl,
      lacks (codes "O_WRONLY") refl,
      lacks (codes "O_CREAT") refl,
      lacks (codes "O_TRUNC") refl,
      lacks (codes "O_SYNC") refl,
      lacks (codes "O_FSYNC") refl,
      lacks (codes "O_EXLOCK") refl,
      lacks (codes "O_SHLOCK") refl,
    ) refl
