-- Whether a cell may have rights. Only the code's contracts use this.
use Rattle.std.specs.Prelude.{ℕ, Bool, true, false}
use Rattle.cap_rights.specs.Rights.{has_all}
use Rattle.cap_machine.specs.declared.cell.Cell.{Cell}
use Rattle.cap_machine.specs.declared.cell.Cell.TheVariants.{Unknown, Closed, Held}

-- the cell is known to have these rights, or nothing is known of it
abbrev pub may_have : Cell → ℕ → Bool
may_have Unknown needs = true
may_have Closed needs = false
may_have (Held rights flag) needs = has_all rights needs
