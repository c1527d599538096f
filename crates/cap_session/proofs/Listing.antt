-- What a loop over the listed descriptors of a line keeps.
use Rattle.std.proofs.Common.{◌≡◌, ℕ, ◌+◌, List, [], ◌∷◌, ◌++◌, refl, sym, ◌∙◌, ap, append_assoc, rules}
use Rattle.std.specs.Prelude.{Result, Ok, Err, IsOk, Option, Some, None, MatchOption}
use Rattle.std.proofs.lemmas.List.{append-nil}
use Rattle.cap_machine.specs.declared.cell.Cell.{Cell}
use Rattle.cap_session.specs.StartTexts.{listed_at, cells_from, ◌>>=◌}
use Rattle.cap_session.specs.declared.refused.Refused.{Refused}

-- these cells, and then those
abbrev pub prepend : List (ℕ × Cell) → Result (List (ℕ × Cell)) Refused → Result (List (ℕ × Cell)) Refused
prepend done (Ok cells) = Ok (done ++ cells)
prepend done (Err e) = Err e

prepend-nil : (r : Result (List (ℕ × Cell)) Refused) → r ≡ prepend [] r
prepend-nil (Ok cells) = refl
prepend-nil (Err e) = refl

pub cells_first : (low : ℕ) (ws : List (List ℕ)) → cells_from low ws ≡ prepend [] (cells_from low ws)
cells_first low ws = prepend-nil (cells_from low ws)

abbrev with_first : ℕ × Cell → List (ℕ × Cell) → Result (List (ℕ × Cell)) Refused
with_first first others = Ok (first ∷ others)

prepend_first : (done : List (ℕ × Cell)) (first : ℕ × Cell) (r : Result (List (ℕ × Cell)) Refused)
    → prepend done (r >>= with_first first) ≡ prepend (done ++ first ∷ []) r
prepend_first done first (Ok cells) = ap (λ (l : List (ℕ × Cell)). Ok l) (sym (append_assoc done (first ∷ []) cells))
prepend_first done first (Err e) = refl

good_word : (low : ℕ) (word : List ℕ) (more : List (List ℕ)) (first : ℕ × Cell) → listed_at low word ≡ Ok first →
    cells_from low (word ∷ more) ≡ (cells_from (first.0 + 1) more >>= with_first first)
unfolding cells_from
good_word low word more first is = rw is refl

bad_word : (low : ℕ) (word : List ℕ) (more : List (List ℕ)) (e : Refused) → listed_at low word ≡ Err e
    → cells_from low (word ∷ more) ≡ Err e
unfolding cells_from
bad_word low word more e is = rw is refl

no_word : (low : ℕ) → cells_from low [] ≡ Ok []
unfolding cells_from
no_word low = refl

pub cells_more : (low : ℕ) (word : List ℕ) (ws more : List (List ℕ)) (done : List (ℕ × Cell)) (first : ℕ × Cell)
    (all : Result (List (ℕ × Cell)) Refused) → ws ≡ word ∷ more → listed_at low word ≡ Ok first →
    all ≡ prepend done (cells_from low ws) → all ≡ prepend (done ++ first ∷ []) (cells_from (first.0 + 1) more)
cells_more low word ws more done first all are is so_far =
    so_far ∙ ap (λ (l : List (List ℕ)). prepend done (cells_from low l)) are
    ∙ ap (prepend done) (good_word low word more first is)
    ∙ prepend_first done first (cells_from (first.0 + 1) more)

pub cells_stop : (low : ℕ) (word : List ℕ) (ws more : List (List ℕ)) (done : List (ℕ × Cell)) (e : Refused)
    (all : Result (List (ℕ × Cell)) Refused) → ws ≡ word ∷ more → listed_at low word ≡ Err e →
    all ≡ prepend done (cells_from low ws) → all ≡ Err e
cells_stop low word ws more done e all are is so_far =
    so_far ∙ ap (λ (l : List (List ℕ)). prepend done (cells_from low l)) are
    ∙ ap (prepend done) (bad_word low word more e is)

pub cells_end : (low : ℕ) (ws : List (List ℕ)) (done : List (ℕ × Cell)) (all : Result (List (ℕ × Cell)) Refused)
    → ws ≡ [] → all ≡ prepend done (cells_from low ws) → all ≡ Ok done
cells_end low ws done all are so_far =
    so_far ∙ ap (λ (l : List (List ℕ)). prepend done (cells_from low l)) are ∙ ap (prepend done) (no_word low)
    ∙ ap (λ (l : List (ℕ × Cell)). Ok l) (append-nil done)

pub known_ok : {A B : Type 0} (r : Result A B) (x : A) → r ≡ Ok x → IsOk r
known_ok r x is = rw is (search rules)

-- the words that are left decide
pub left_good : (done : List (ℕ × Cell)) (all r : Result (List (ℕ × Cell)) Refused) → all ≡ prepend done r
    → IsOk r → IsOk all
left_good done all (Ok cells) is good = rw is (search rules)
left_good done all (Err e) is good = absurd (search rules)

pub left_bad : (done : List (ℕ × Cell)) (all r : Result (List (ℕ × Cell)) Refused) (e : Refused) → all ≡ prepend done r
    → r ≡ Err e → all ≡ Err e
left_bad done all r e is bad = is ∙ ap (prepend done) bad

-- the listed cells, whether they were kept or memory ran out for them
pub listed_either : {V : Type 0} (items : V → List (ℕ × Cell)) (r : Result (List (ℕ × Cell)) Refused) (cells : Option V)
    → MatchOption cells (IsOk r) (λ v. r ≡ Ok (items v)) → (x : List (ℕ × Cell)) × (r ≡ Ok x)
listed_either items r (Some v) is = (items v, is)
listed_either items (Ok x) None is = (x, refl)
listed_either items (Err e) None is = absurd (search rules)
