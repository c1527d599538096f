-- Laws of Booleans.
use Rattle.std.proofs.{lemmas.Bool.and_parts}
use Rattle.std.specs.Prelude.{◌≡◌, ◌&&◌, ◌||◌, Bool, true, false, not}
use Rattle.cap_summary.proofs.{arith, or_parts}

pub not_and : (x y : Bool) → not (x && y) ≡ (not x || not y)
not_and x y = grind arith

pub or_crossed : (a b x y : Bool) → ((a || b) || (x || y)) ≡ ((a || x) || (b || y))
or_crossed a b x y = grind arith

-- a Boolean is false if it leads to a contradiction where it is true
pub not_true : (b c : Bool) → c ≡ false → (b ≡ true → c ≡ true) → b ≡ false
not_true b c is leads = grind (arith, is, leads)

pub both_of : (all a b : Bool) → (a ≡ true → b ≡ true → all ≡ true) → (all ≡ true → a ≡ true)
    → (all ≡ true → b ≡ true) → all ≡ (a && b)
both_of all a b both one other = grind (arith, both, one, other)

-- a part of what holds, or of what doesn't
pub and_left : (a b : Bool) → (a && b) ≡ true → a ≡ true
and_left a b is = (and_parts a b is).0

pub and_right : (a b : Bool) → (a && b) ≡ true → b ≡ true
and_right a b is = (and_parts a b is).1

pub or_right : (a b : Bool) → (a || b) ≡ false → b ≡ false
or_right a b is = (or_parts a b is).1
