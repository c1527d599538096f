-- One op after another is one op.
use Rattle.std.specs.Prelude.{ℕ, Option, Some, None}
use Rattle.cap_rights.specs.Rights.{meet}
use Rattle.cap_machine.specs.declared.cell.HeldOp.{HeldOp}
use Rattle.cap_machine.specs.declared.cell.HeldOp.TheVariants.{Becomes, Keeps}
use Rattle.cap_machine.specs.declared.cell.Op.{Op}
use Rattle.cap_machine.specs.Op.{applied, held_op}

-- the rights that are in both masks
abbrev pub both_masks : Option ℕ → Option ℕ → Option ℕ
both_masks None later = later
both_masks (Some first) None = Some first
both_masks (Some first) (Some later) = Some (meet first later)

-- what becomes of a cell that one op left held with this mask, by another
abbrev pub kept_then : Option ℕ → HeldOp → HeldOp
kept_then first (Becomes cell) = Becomes cell
kept_then first (Keeps later flag) = Keeps (both_masks first later) flag

abbrev pub held_then : HeldOp → Op → HeldOp
held_then (Becomes cell) later = Becomes (applied later cell)
held_then (Keeps mask flag) later = kept_then mask (held_op later flag)

-- the op that does what first does and then what later does
abbrev pub in_turn : Op → Op → Op
in_turn first later = record {
  unknown = applied later first.unknown;
  closed = applied later first.closed;
  set = held_then first.set later;
  clear = held_then first.clear later;
  unsure = held_then first.unsure later;
}
