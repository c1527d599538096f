-- A run that is cut in two.
use Rattle.std.proofs.Common.{◌≡◌, ℕ, ◌+◌, ◌^◌, ◌≤◌, List, ◌++◌, length, sym, ap, ◌∙◌, arith}
use Rattle.std.proofs.lemmas.List.{map-append, length-map}
use Rattle.std.specs.declared.rc.Rc.{Rc}
use Rattle.cap_tree.specs.Run.{values}

pub values-halves : {X Z : Type 0} (front back all : List (Rc X Z)) → all ≡ front ++ back
    → values front ++ values back ≡ values all
values-halves front back all is = sym (map-append (λ item. item.value) front back) ∙ ap values (sym is)

pub length-both : {X Z : Type 0} (front back : List (Rc X Z)) (most : ℕ) → length front + length back ≤ most
    → length (values front) + length (values back) ≤ most
length-both front back most few =
    let f = length-map front (λ item. item.value) in
    let b = length-map back (λ item. item.value) in
    rw (f, b) few

pub cut-few : (front back at all : ℕ) → front ≡ at → back + at ≡ all → all ≤ 2 ^ 30 → front + back ≤ 2 ^ 30
cut-few front back at all f b few = omega arith
