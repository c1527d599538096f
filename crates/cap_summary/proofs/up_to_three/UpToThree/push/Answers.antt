use Rattle.std.specs.Prelude.{List, [], length, min, refl, set, take, ℕ, ◌++◌, ◌+◌, ◌<◌, ◌∷◌, ◌≡◌}
use Rattle.cap_summary.proofs.{All-push, arith, list_any-append, ◌∙◌}
use Rattle.std.proofs.{lemmas.Grind.take-set_at, lemmas.List.length-take}
use Rattle.cap_summary.specs.Asks.{AskWithin, asks_of, holds}
use Rattle.cap_summary.proofs.up_to_three.UpToThree.push.Goals as goal

one_put : {X : Type 0} (xs : List X) (n : ℕ) (x : X) → length xs ≡ 3 → length (take (min n 3) xs) < 3
    → take (min (n + 1) 3) (set xs n x) ≡ take (min n 3) xs ++ x ∷ []
one_put xs n x is below =
    let few : n < 3 = omega (arith, below, length-take (min n 3) xs) in
    let own : min n 3 ≡ n = omega arith in
    let next : min (n + 1) 3 ≡ n + 1 = omega arith in
    rw (own, next) (take-set_at xs n (n + 1) x refl (omega arith))

pub returns-clause-asks : goal.returns-clause-asks
returns-clause-asks c = one_put c.args.self.now.asks c.args.self.now.count c.args.ask (omega arith) c.requires

pub returns-clause-holds : goal.returns-clause-holds
returns-clause-holds c = λ cells. rw (returns-clause-asks c)
    (list_any-append (holds cells) (asks_of c.args.self.now) (c.args.ask ∷ []) ∙ grind arith)

pub returns-clause-names : goal.returns-clause-names
returns-clause-names c = λ names all own. rw (returns-clause-asks c)
    (All-push (AskWithin names) (asks_of c.args.self.now) c.args.ask all own)
