use Rattle.std.proofs.Common.{rules, tests, ◌≡◌, Bool, List, [], ◌∷◌, ◌||◌, map, refl, ap, sym, ◌∙◌, Bor, ℕ}
use Rattle.std.specs.List.{list_any}
use Rattle.std.specs.Str.{bytes_eq}
use Rattle.std.proofs.lemmas.Iterator.{YieldsList-from_slice}
use Rattle.std.proofs.lemmas.Iterator.Search.{any_from_yields_List}
use Rattle.cap_machine.proofs.flags.is_one_of_these.Goals as goal

list_any-map : {X Y : Type 0} (test : Y → Bool) (f : X → Y) (xs : List X)
    → list_any test (map f xs) ≡ list_any (λ x. test (f x)) xs
list_any-map test f [] = refl
list_any-map test f (x ∷ xs) = ap (λ r. test (f x) || r) (list_any-map test f xs)

pub returns : goal.returns
returns c =
    any_from_yields_List (λ (name : Bor (List ℕ)). bytes_eq c.args.word.now name.now) _ _ _ c.any.ensures.ran
    (YieldsList-from_slice c.args.known.now c.iter.ensures.rest)
    (λ x b q k. search (rules, tests))
    ∙ sym (list_any-map (bytes_eq c.args.word.now) (λ (name : Bor (List ℕ)). name.now) c.args.known.now)
