-- Asks and refusals that `==` finds equal are the same.
use Rattle.std.{specs.Option.option_eq, specs.Option.option_copied, proofs.Math.Bool.beq, proofs.lemmas.Bool.and_parts}
use mathlib.Core.Bool.{false≢true}
use Rattle.std.specs.Prelude.{◌≡◌, ◌&&◌, ◌∷◌, Bool, true, false, refl, Option, Some, None, ℕ, List, [], eqb}
use Rattle.cap_summary.specs.{pointwise, Cell, Held, HeldOp, Op, declared.ask.Ask.Ask, declared.base.Base.Base}
use Rattle.cap_summary.specs.{declared.effect.Row.Row, declared.key.Key.Key, declared.kinds.Kinds.Kinds}
use Rattle.cap_summary.specs.{declared.up_to_three.UpToThree.UpToThree, declared.value.Value.Value}
use Rattle.cap_summary.proofs.{Bor, ap, rules, arith, eqb-true, common_steps}
use Rattle.cap_machine.specs.contracts.cell.CellPartialEq.TheImpl as cells
use Rattle.cap_machine.specs.contracts.cell.HeldOpPartialEq.TheImpl as helds
use Rattle.cap_machine.specs.contracts.cell.OpPartialEq.TheImpl as ops
use Rattle.cap_summary.specs.contracts.value.ValuePartialEq.TheImpl as values
use Rattle.cap_summary.specs.contracts.base.BasePartialEq.TheImpl as bases
use Rattle.cap_summary.specs.contracts.effect.RowPartialEq.TheImpl as rows
use Rattle.cap_summary.specs.contracts.key.KeyPartialEq.TheImpl as keys
use Rattle.cap_summary.specs.contracts.kinds.KindsPartialEq.TheImpl as kinds
use Rattle.cap_summary.specs.contracts.ask.AskPartialEq.TheImpl as asks
use Rattle.cap_summary.specs.contracts.up_to_three.UpToThreePartialEq.TheImpl as threes

-- ---- lists and options
module _ {X : Type 0} (E : X → X → Bool) (same : (a b : X) → E a b ≡ true → a ≡ b) where
  same_list : (xs ys : List X) → pointwise E xs ys ≡ true → xs ≡ ys
  same_list [] [] is = refl
  same_list [] (y ∷ ys) is = absurd cc
  same_list (x ∷ xs) [] is = absurd cc
  same_list (x ∷ xs) (y ∷ ys) is =
      let both = and_parts (E x y) (pointwise E xs ys) is in
      grind (arith, same x y both.0, same_list xs ys both.1)

  same_option : (a b : Option X) → option_eq E a b ≡ true → a ≡ b
  same_option None None is = refl
  same_option None (Some y) is = absurd cc
  same_option (Some x) None is = absurd cc
  same_option (Some x) (Some y) is = ap Some (same x y is)

-- ---- asks and refusals
same_key : (a b : Key) → keys.eq-value.it a b ≡ true → a ≡ b
same_key a b is = search rules

same_kinds : (a b : Kinds) → kinds.eq-value.it a b ≡ true → a ≡ b
same_kinds a b is = grind (arith, common_steps)

same_ask : (a b : Ask) → asks.eq-value.it a b ≡ true → a ≡ b
same_ask a b is = grind (
  arith,
  common_steps,
  same_key a.key b.key,
  same_kinds a.kinds b.kinds,
  same_kinds a.lacking b.lacking,
)

pub same_asks : (xs ys : List Ask) → pointwise asks.eq-value.it xs ys ≡ true → xs ≡ ys
same_asks = same_list asks.eq-value.it same_ask

same_three : (a b : UpToThree) → threes.eq-value.it a b ≡ true → a ≡ b
same_three a b is = grind (arith, common_steps, same_asks a.asks b.asks, eqb-true a.count b.count)

pub same_refusals : (xs ys : List UpToThree) → pointwise threes.eq-value.it xs ys ≡ true → xs ≡ ys
same_refusals = same_list threes.eq-value.it same_three

pub beq_true : (a b : Bool) → beq a b ≡ true → a ≡ b
beq_true true true is = refl
beq_true true false is = absurd cc
beq_true false true is = absurd cc
beq_true false false is = refl

-- ---- effects
pub same_cell : (a b : Cell) → cells.eq-value.it a b ≡ true → a ≡ b
same_cell a b is = search rules

same_held : (a b : HeldOp) → helds.eq-value.it a b ≡ true → a ≡ b
same_held a b is = search rules

same_op : (a b : Op) → ops.eq-value.it a b ≡ true → a ≡ b
same_op a b is =
    let unknown = and_parts (cells.eq-value.it a.unknown b.unknown) _ is in
    let closed = and_parts (cells.eq-value.it a.closed b.closed) _ unknown.1 in
    let set = and_parts (helds.eq-value.it a.set b.set) _ closed.1 in
    let others = and_parts (helds.eq-value.it a.clear b.clear) _ set.1 in
    grind (
      arith,
      common_steps,
      same_cell a.unknown b.unknown unknown.0,
      same_cell a.closed b.closed closed.0,
      same_held a.set b.set set.0,
      same_held a.clear b.clear others.0,
      same_held a.unsure b.unsure others.1,
    )

pub same_value : (a b : Value) → values.eq-value.it a b ≡ true → a ≡ b
same_value Value.Unknown Value.Unknown is = refl
same_value Value.Closed Value.Closed is = refl
same_value (Value.Held r f) (Value.Held s g) is =
    let held : Held r f ≡ Held s g = same_cell (Held r f) (Held s g) is in
    cc
same_value (Value.Same p k) (Value.Same q l) is =
    let both = and_parts (eqb p q) _ is in
    grind (arith, eqb-true p q both.0, same_key k l both.1)
same_value (Value.Of p k a) (Value.Of q l b) is =
    let pid = and_parts (eqb p q) _ is in
    let more = and_parts (keys.eq-value.it k l) _ pid.1 in
    grind (arith, eqb-true p q pid.0, same_key k l more.0, same_op a b more.1)
same_value a b is = absurd (false≢true is)

same_base : (a b : Base) → bases.eq-value.it a b ≡ true → a ≡ b
same_base a b is = search rules

module _ {V : Type 0} (E : V → V → Bool) (same : (a b : V) → E a b ≡ true → a ≡ b) where
  same_entry : (a b : ℕ × V) → (eqb a.0 b.0 && E a.1 b.1) ≡ true → a ≡ b
  same_entry (k, v) (l, w) is = grind (arith, common_steps, eqb-true k l, same v w)

  same_entries : (a b : List (ℕ × V)) → pointwise (λ x y. eqb x.0 y.0 && E x.1 y.1) a b ≡ true → a ≡ b
  same_entries = same_list (λ x y. eqb x.0 y.0 && E x.1 y.1) same_entry

pub same_row : (a b : Row) → rows.eq-value.it a b ≡ true → a ≡ b
same_row a b is =
    let base = and_parts (bases.eq-value.it a.base b.base) _ is in
    let others = and_parts (option_eq values.eq-value.it a.mode b.mode) _ base.1 in
    grind (
      arith,
      common_steps,
      same_base a.base b.base base.0,
      same_option values.eq-value.it same_value a.mode b.mode
          others.0,
      same_entries values.eq-value.it same_value a.cells b.cells others.1,
    )

pub same_rows : (a b : List (ℕ × Row)) → pointwise (λ x y. eqb x.0 y.0 && rows.eq-value.it x.1 y.1) a b ≡ true → a ≡ b
same_rows = same_entries rows.eq-value.it same_row

-- a row that may be there
pub same_given : (a b : Option (Bor Row)) → option_eq (λ x y. rows.eq-value.it x.now y.now) a b ≡ true
    → option_copied a ≡ option_copied b
same_given None None is = refl
same_given None (Some y) is = absurd cc
same_given (Some x) None is = absurd cc
same_given (Some x) (Some y) is = ap Some (same_row x.now y.now is)
