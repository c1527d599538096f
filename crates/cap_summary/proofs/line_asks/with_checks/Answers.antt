use Rattle.cap_summary.specs.{All, Asks.AgreeOn, Asks.asks_of, Check, Keys.cells_of, List, [], declared.ask.Ask.Ask}
use Rattle.std.specs.Prelude.{◌++◌, ◌∷◌, ◌≡◌}
use Rattle.cap_summary.proofs.{All-head, LineAsking.both_within, LineAsking.one_fault, LineAsking.one_lacked, rules}
use Rattle.cap_summary.proofs.{LineAsking.two_faults, LineAsking.two_lacked, Uniting.all_left, Uniting.all_right}
use Rattle.cap_summary.proofs.line_asks.with_checks.Goals as goal

pub returns-in-One-clause-holds : goal.returns-in-One-clause-holds
returns-in-One-clause-holds c = λ word s. one_lacked _ _ c.in-One.a _ _ _ c.in-One.is
    (c.push.ensures.holds (cells_of s)) (c.of_check.ensures.holds word (cells_of s))

pub returns-in-Two-clause-holds : goal.returns-in-Two-clause-holds
returns-in-Two-clause-holds c = λ word s. two_lacked _ _ c.in-Two.a c.in-Two.b _ _ _ _ _ c.in-Two.is
    (c.push-in-Two.ensures.holds (cells_of s)) (c.push-in-Two-2.ensures.holds (cells_of s))
    (c.of_check-in-Two.ensures.holds word (cells_of s)) (c.of_check-in-Two-2.ensures.holds word (cells_of s))

pub returns-in-Two-clause-names : goal.returns-in-Two-clause-names
returns-in-Two-clause-names c = λ names own checks mode.
    let both = both_within names c.args.checks.now c.in-Two.a c.in-Two.b c.in-Two.is checks in
    search rules

pub returns-in-One-clause-mode : goal.returns-in-One-clause-mode
returns-in-One-clause-mode c = λ s r all. all_left (AgreeOn s r) (asks_of c.args.mode) (c.of_check.result ∷ [])
    (rw c.push.ensures.asks at all)

pub returns-in-One-clause-same : goal.returns-in-One-clause-same
returns-in-One-clause-same c = λ is word s r all.
    let P : Ask → Type 0 = AgreeOn (cells_of s) (cells_of r) in
    let ask = c.of_check.result in
    one_fault word c.args.checks.now c.in-One.a (λ (check : Check). s.cell c.args.me check.fd)
    (λ (check : Check). r.cell c.args.me check.fd) c.in-One.is (c.of_check.ensures.same is word (cells_of s) (cells_of r)
    (All-head P ask [] (all_right P (asks_of c.args.mode) (ask ∷ []) (rw c.push.ensures.asks at all))))

-- the asks of a mode and of two checks
parts : (P : Ask → Type 0) (mode most all : List Ask) (ask next : Ask) → most ≡ mode ++ ask ∷ []
    → all ≡ most ++ next ∷ [] → All P all → All P mode × P ask × P next
parts P mode most all ask next one two each =
    let whole : All P (most ++ next ∷ []) = rw two at each in
    let first : All P (mode ++ ask ∷ []) = rw one at (all_left P most (next ∷ []) whole) in (
      all_left P mode (ask ∷ []) first,
      All-head P ask [] (all_right P mode (ask ∷ []) first),
      All-head P next [] (all_right P most (next ∷ []) whole),
    )

pub returns-in-Two-clause-mode : goal.returns-in-Two-clause-mode
returns-in-Two-clause-mode c = λ s r all.
    (parts (AgreeOn s r) _ _ _ _ _ c.push-in-Two.ensures.asks c.push-in-Two-2.ensures.asks all).0

pub returns-in-Two-clause-same : goal.returns-in-Two-clause-same
returns-in-Two-clause-same c = λ is word s r all.
    let each = parts (AgreeOn (cells_of s) (cells_of r)) _ _ _ _ _ c.push-in-Two.ensures.asks
    c.push-in-Two-2.ensures.asks all in
    two_faults word c.args.checks.now c.in-Two.a c.in-Two.b (λ (check : Check). s.cell c.args.me check.fd)
    (λ (check : Check). r.cell c.args.me check.fd) c.in-Two.is
    (c.of_check-in-Two.ensures.same is word (cells_of s) (cells_of r) each.1)
    (c.of_check-in-Two-2.ensures.same is word (cells_of s) (cells_of r) each.2)
