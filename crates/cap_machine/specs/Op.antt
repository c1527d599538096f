-- What becomes of a cell, as a table by its kind: of an unknown one, of a closed one, and of a held one by its
-- close-on-exec flag.
use Rattle.std.specs.Prelude.{ℕ, Option, Some, None}
use Rattle.cap_rights.specs.Rights.{meet, named, without_full}
use Rattle.cap_machine.specs.declared.cell.OnExec.{OnExec}
use Rattle.cap_machine.specs.declared.cell.OnExec.TheVariants.{Set, Clear, Unsure}
use Rattle.cap_machine.specs.declared.cell.Cell.{Cell}
use Rattle.cap_machine.specs.declared.cell.Cell.TheVariants.{Unknown, Closed, Held}
use Rattle.cap_machine.specs.declared.cell.HeldOp.{HeldOp}
use Rattle.cap_machine.specs.declared.cell.HeldOp.TheVariants.{Becomes, Keeps}
use Rattle.cap_machine.specs.declared.cell.Op.{Op}

-- the rights that a mask leaves; without one, all
abbrev pub masked : Option ℕ → ℕ → ℕ
masked None rights = rights
masked (Some mask) rights = meet rights mask

-- what a cell that holds these rights becomes
abbrev pub held : HeldOp → ℕ → Cell
held (Becomes cell) rights = cell
held (Keeps mask flag) rights = Held (masked mask rights) flag

-- what becomes of a held cell with this flag
abbrev pub held_op : Op → OnExec → HeldOp
held_op op Set = op.set
held_op op Clear = op.clear
held_op op Unsure = op.unsure

abbrev pub applied : Op → Cell → Cell
applied op Unknown = op.unknown
applied op Closed = op.closed
applied op (Held rights flag) = held (held_op op flag) rights

-- a held cell stays held and keeps its flag; a mask takes rights away
abbrev pub keeping : Cell → Cell → Option ℕ → Op
keeping unknown closed mask = record {
  unknown = unknown;
  closed = closed;
  set = Keeps mask Set;
  clear = Keeps mask Clear;
  unsure = Keeps mask Unsure;
}

-- a held cell stays held and gets this flag
abbrev pub marking : Cell → Cell → Option ℕ → OnExec → Op
marking unknown closed mask flag = record {
  unknown = unknown;
  closed = closed;
  set = Keeps mask flag;
  clear = Keeps mask flag;
  unsure = Keeps mask flag;
}

-- fork(2): the child has what the parent has
abbrev pub same : Op
same = keeping Unknown Closed None

-- dup(2), openat(2): a new descriptor has the rights of the one that it comes from, and a flag of its own
abbrev pub derive : OnExec → Op
derive flag = marking Unknown Unknown None flag

-- dup2(2) to the same number: the descriptor keeps its rights and its flag
abbrev pub copy_to_itself : Op
copy_to_itself = keeping Unknown Unknown None

-- cap_rights_limit(2): rights are only ever taken away. Of an unknown descriptor the asked rights are
-- known now; that it was never limited is false now, so FULL is not among them
abbrev pub limit : ℕ → Op
limit asked = keeping (Held (without_full asked) Unsure) (Held (without_full asked) Unsure) (Some asked)

-- cap_ioctls_limit(2), cap_fcntls_limit(2): the descriptor keeps its rights and its flag, and was limited
abbrev pub narrow : Op
narrow = keeping Unknown Unknown (Some named)

-- execve(2), fexecve(2): a held descriptor is closed or stays open by its flag
abbrev pub exec : Op
exec = record {
  unknown = Unknown;
  closed = Closed;
  set = Becomes Closed;
  clear = Keeps None Clear;
  unsure = Becomes Unknown;
}

-- fcntl(2), F_SETFD: the flag of a held descriptor changes
abbrev pub set_flag : OnExec → Op
set_flag flag = marking Unknown Closed None flag

-- the same with other flags, which may limit the descriptor too
abbrev pub narrow_and_set_flag : OnExec → Op
narrow_and_set_flag flag = marking Unknown Unknown (Some named) flag
