-- One op after another.
use Rattle.std.proofs.Common.{◌≡◌, ℕ, Option, Some, None, refl, sym, ap}
use Rattle.std.proofs.lemmas.Nat.{and_assoc}
use Rattle.cap_machine.specs.declared.cell.OnExec.TheVariants.{Set, Clear, Unsure}
use Rattle.cap_machine.specs.declared.cell.Cell.{Cell}
use Rattle.cap_machine.specs.declared.cell.Cell.TheVariants.{Held}
use Rattle.cap_machine.specs.declared.cell.HeldOp.{HeldOp}
use Rattle.cap_machine.specs.declared.cell.HeldOp.TheVariants.{Becomes, Keeps}
use Rattle.cap_machine.specs.declared.cell.Op.{Op}
use Rattle.cap_machine.specs.Op.{applied, masked, held, held_op}
use Rattle.cap_machine.specs.Code.Composed.{both_masks, kept_then, held_then, in_turn}

masks_in_turn : (first later : Option ℕ) (rights : ℕ)
    → masked (both_masks first later) rights ≡ masked later (masked first rights)
masks_in_turn None later rights = refl
masks_in_turn (Some m) None rights = refl
masks_in_turn (Some m) (Some n) rights = sym (and_assoc n rights m)

kept_in_turn : (mask : Option ℕ) (op : HeldOp) (rights : ℕ)
    → held (kept_then mask op) rights ≡ held op (masked mask rights)
kept_in_turn mask (Becomes cell) rights = refl
kept_in_turn mask (Keeps later flag) rights = ap (λ r. Held r flag) (masks_in_turn mask later rights)

held_in_turn : (op : HeldOp) (later : Op) (rights : ℕ)
    → held (held_then op later) rights ≡ applied later (held op rights)
held_in_turn (Becomes cell) later rights = refl
held_in_turn (Keeps mask flag) later rights = kept_in_turn mask (held_op later flag) rights

pub ops_in_turn : (first later : Op) (cell : Cell)
    → applied (in_turn first later) cell ≡ applied later (applied first cell)
ops_in_turn first later (Held rights Set) = held_in_turn first.set later rights
ops_in_turn first later (Held rights Clear) = held_in_turn first.clear later rights
ops_in_turn first later (Held rights Unsure) = held_in_turn first.unsure later rights
ops_in_turn first later _ = refl
