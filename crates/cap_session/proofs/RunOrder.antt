-- Runs in order: in two parts, moved, and without their first line.
use Rattle.std.proofs.Common.{◌≡◌, ℕ, ◌+◌, ◌-◌, ◌≤◌, List, [], ◌∷◌, ◌++◌, map, refl, ap, ◌∙◌}
use Rattle.std.proofs.Common.{arith}
use Rattle.cap_summary.specs.declared.kept_run.KeptRun.{KeptRun}
use Rattle.cap_session.specs.Code.RunTable.{was_end, at_end, apart_end, behind, InOrder, up, down}

-- ---- the ends of two parts

pub was_end-append : (was : ℕ) (a b : List KeptRun) → was_end was (a ++ b) ≡ was_end (was_end was a) b
unfolding was_end
was_end-append was [] b = refl
was_end-append was (run ∷ a) b = was_end-append (run.was + run.len) a b

pub at_end-append : (at : ℕ) (a b : List KeptRun) → at_end at (a ++ b) ≡ at_end (at_end at a) b
unfolding at_end
at_end-append at [] b = refl
at_end-append at (run ∷ a) b = at_end-append (run.at + run.len) a b

-- ---- order

-- runs lie behind the lines that they come after
pub ends_behind : (was at apart : ℕ) (runs : List KeptRun) → InOrder was at apart runs
    → (was ≤ was_end was runs) × (at ≤ at_end at runs)
unfolding InOrder was_end at_end
ends_behind was at apart [] order = (omega arith, omega arith)
ends_behind was at apart (run ∷ runs) order =
    let more = ends_behind (run.was + run.len) (run.at + run.len) (behind run) runs order.4 in
    (omega (arith, order.0, more.0), omega (arith, order.1, more.1))

-- and behind fewer
pub order_lower : (was at apart was' at' apart' : ℕ) (runs : List KeptRun) → was' ≤ was → at' ≤ at → apart' ≤ apart
    → InOrder was at apart runs → InOrder was' at' apart' runs
unfolding InOrder
order_lower was at apart was' at' apart' [] w a s order = tt
order_lower was at apart was' at' apart' (run ∷ runs) w a s order =
    (omega (arith, order.0), omega (arith, order.1), omega (arith, order.2), order.3, order.4)

-- where they begin behind a line in one of both, they don't meet the run that ends there in both
pub order_apart : (was at : ℕ) (runs : List KeptRun) → InOrder was at 0 runs → InOrder was at (was + at) runs
unfolding InOrder
order_apart was at [] order = tt
order_apart was at (run ∷ runs) order = (order.0, order.1, omega (arith, order.0, order.1), order.3, order.4)

-- the least sum behind runs isn't more than that behind their ends
pub apart_end-le : (was at apart : ℕ) (runs : List KeptRun) → apart ≤ was + at + 1
    → apart_end apart runs ≤ was_end was runs + at_end at runs + 1
unfolding was_end at_end apart_end
apart_end-le was at apart [] le = le
apart_end-le was at apart (run ∷ runs) le =
    apart_end-le (run.was + run.len) (run.at + run.len) (behind run) runs (omega arith)

pub order_front : (was at apart : ℕ) (a b : List KeptRun) → InOrder was at apart (a ++ b) → InOrder was at apart a
unfolding InOrder
order_front was at apart [] b order = tt
order_front was at apart (run ∷ a) b order = (
  order.0,
  order.1,
  order.2,
  order.3,
  order_front (run.was + run.len) (run.at + run.len) (behind run) a b order.4,
)

pub order_back : (was at apart : ℕ) (a b : List KeptRun) → InOrder was at apart (a ++ b)
    → InOrder (was_end was a) (at_end at a) (apart_end apart a) b
unfolding InOrder was_end at_end apart_end
order_back was at apart [] b order = order
order_back was at apart (run ∷ a) b order =
    order_back (run.was + run.len) (run.at + run.len) (behind run) a b order.4

pub order_both : (was at apart : ℕ) (a b : List KeptRun) → InOrder was at apart a
    → InOrder (was_end was a) (at_end at a) (apart_end apart a) b → InOrder was at apart (a ++ b)
unfolding InOrder was_end at_end apart_end
order_both was at apart [] b front back = back
order_both was at apart (run ∷ a) b front back = (
  front.0,
  front.1,
  front.2,
  front.3,
  order_both (run.was + run.len) (run.at + run.len) (behind run) a b front.4 back,
)

-- ---- moved

pub order_up : (was at apart : ℕ) (runs : List KeptRun) → InOrder was at apart runs
    → InOrder was (at + 1) (apart + 1) (map up runs)
unfolding InOrder
order_up was at apart [] order = tt
order_up was at apart (run ∷ runs) order = (
  order.0,
  omega (arith, order.1),
  omega (arith, order.2),
  order.3,
  order_lower (run.was + run.len) (run.at + run.len + 1) (behind run + 1) (run.was + run.len) (run.at + 1 + run.len)
      (behind (up run)) (map up runs) (omega arith) (omega arith) (omega arith)
      (order_up (run.was + run.len) (run.at + run.len) (behind run) runs order.4),
)

pub order_down : (was at apart : ℕ) (runs : List KeptRun) → InOrder was (at + 1) (apart + 1) runs
    → InOrder was at apart (map down runs)
unfolding InOrder
order_down was at apart [] order = tt
order_down was at apart (run ∷ runs) order = (
  order.0,
  omega (arith, order.1),
  omega (arith, order.1, order.2),
  order.3,
  order_lower (run.was + run.len) (run.at - 1 + run.len) (run.was + run.len + (run.at - 1 + run.len) + 1)
      (run.was + run.len) (run.at - 1 + run.len) (behind (down run)) (map down runs) (omega arith) (omega arith)
      (omega arith)
      (order_down (run.was + run.len) (run.at - 1 + run.len) (run.was + run.len + (run.at - 1 + run.len) + 1) runs
      (order_lower (run.was + run.len) (run.at + run.len) (behind run) (run.was + run.len) (run.at - 1 + run.len + 1)
      (run.was + run.len + (run.at - 1 + run.len) + 1 + 1) runs (omega arith) (omega (arith, order.1))
      (omega (arith, order.1)) order.4)),
)

pub was_end-up : (was : ℕ) (runs : List KeptRun) → was_end was (map up runs) ≡ was_end was runs
unfolding was_end
was_end-up was [] = refl
was_end-up was (run ∷ runs) = was_end-up (run.was + run.len) runs

pub was_end-down : (was : ℕ) (runs : List KeptRun) → was_end was (map down runs) ≡ was_end was runs
unfolding was_end
was_end-down was [] = refl
was_end-down was (run ∷ runs) = was_end-down (run.was + run.len) runs

pub at_end-up : (at : ℕ) (runs : List KeptRun) → at_end (at + 1) (map up runs) ≡ at_end at runs + 1
unfolding at_end
at_end-up at [] = refl
at_end-up at (run ∷ runs) =
    ap (λ n. at_end n (map up runs)) (omega arith) ∙ at_end-up (run.at + run.len) runs

pub at_end-down : (was at apart : ℕ) (runs : List KeptRun) → InOrder was (at + 1) apart runs
    → at_end at (map down runs) + 1 ≡ at_end (at + 1) runs
unfolding at_end InOrder
at_end-down was at apart [] order = refl
at_end-down was at apart (run ∷ runs) order =
    let one : run.at - 1 + run.len + 1 ≡ run.at + run.len = omega (arith, order.1) in
    at_end-down (run.was + run.len) (run.at - 1 + run.len) (behind run) runs
    (order_lower (run.was + run.len) (run.at + run.len) (behind run) (run.was + run.len) (run.at - 1 + run.len + 1)
    (behind run) runs (omega arith) (omega (arith, one)) (omega arith) order.4)
    ∙ ap (λ n. at_end n runs) one
