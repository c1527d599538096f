-- Runs of shared items: what an edit of a run is as a list of the items.
use Rattle.std.proofs.Common.{◌≡◌, ℕ, ◌+◌, ◌<◌, List, [], ◌∷◌, ◌++◌, length, take, drop, insert, remove, slice_set}
use Rattle.std.proofs.Common.{slice_range, refl, sym, ap, ◌∙◌, add-one, arith}
use Rattle.std.proofs.lemmas.List.{map-append, take-map, drop-map, length-map, set_split}
use Rattle.std.proofs.lemmas.Slice.{between_to_end}
use Rattle.std.specs.declared.rc.Rc.{Rc}
use Rattle.std.specs.List.{AllZip, AppendsClones}
use Rattle.cap_tree.specs.Run.{values}

-- a copy shares the item
values_from_clones : {X Z : Type 0} (xs ys : List (Rc X Z)) → AllZip (λ x y. y.value ≡ x.value) xs ys
    → values ys ≡ values xs
values_from_clones [] [] same = refl
values_from_clones [] (y ∷ ys) same = absurd same
values_from_clones (x ∷ xs) [] same = absurd same
values_from_clones (x ∷ xs) (y ∷ ys) same =
    let rest = values_from_clones xs ys same.1 in
    let first = same.0 in
    cc

pub values-append_clones : {X Z : Type 0} (old new more : List (Rc X Z))
    → AppendsClones (λ x y. y.value ≡ x.value) old new more → values new ≡ values old ++ values more
values-append_clones old new more (added, is, same) =
    ap values is
    ∙ (map-append (λ item. item.value) old added ∙ ap (λ zs. values old ++ zs) (values_from_clones more added same))

-- what is before a place, and from one on
before : {X Z : Type 0} (run : List (Rc X Z)) (at : ℕ) → values (take at run) ≡ take at (values run)
before run at = sym (take-map (λ item. item.value) at run)

beyond : {X Z : Type 0} (run : List (Rc X Z)) (at : ℕ)
    → values (slice_range run at (length run)) ≡ drop at (values run)
beyond run at = ap values (between_to_end run at (length run) (omega arith))
    ∙ sym (drop-map (λ item. item.value) at run)

pub insert-values : {X Z : Type 0} (run : List (Rc X Z)) (at : ℕ) (x : X)
    → values (take at run) ++ x ∷ values (slice_range run at (length run)) ≡ insert (values run) at x
insert-values run at x = rw (before run at, beyond run at) refl

pub remove-values : {X Z : Type 0} (run : List (Rc X Z)) (at : ℕ)
    → values (take at run) ++ values (slice_range run (at + 1) (length run)) ≡ remove (values run) at
remove-values run at = rw (before run at, beyond run (at + 1), add-one) refl

pub set-values : {X Z : Type 0} (run : List (Rc X Z)) (at : ℕ) (x : X) → at < length run
    → values (take at run) ++ x ∷ values (slice_range run (at + 1) (length run)) ≡ slice_set (values run) at x
set-values run at x within = rw (before run at, beyond run (at + 1), add-one)
    (sym (set_split (values run) at x (rw (length-map run (λ item. item.value)) within)))
