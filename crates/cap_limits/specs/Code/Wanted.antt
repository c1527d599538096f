-- What the code keeps of the rights that are live, of each process by descriptor and flag, and how a line changes it on
-- the way back. Only the code's contracts use this; Live says what is live.
use Rattle.std.specs.Prelude.{ℕ, ◌≤◌, ◌==◌, ◌&&◌, nat_le, nat_lt, Bool, false, if◌then◌else◌, IsSome, List, [], ◌∷◌}
use Rattle.std.specs.Prelude.{Option, Some, None}
use Rattle.std.specs.Option.{option_map_or}
use Rattle.std.specs.Ordering.{nat_cmp}
use Rattle.std.specs.BTreeMap.{get}
use Rattle.cap_rights.specs.Rights.{join}
use Rattle.cap_machine.specs.declared.cell.OnExec.{OnExec}
use Rattle.cap_machine.specs.declared.cell.OnExec.TheVariants.{Set, Clear, Unsure}
use Rattle.cap_machine.specs.declared.cell.HeldOp.{HeldOp}
use Rattle.cap_machine.specs.declared.cell.HeldOp.TheVariants.{Becomes, Keeps}
use Rattle.cap_machine.specs.declared.rule.Check.{Check}
use Rattle.cap_machine.specs.declared.rule.Requirement.{Requirement}
use Rattle.cap_machine.specs.declared.rule.Effect.{Effect}
use Rattle.cap_machine.specs.declared.rule.Effect.TheVariants.{Keep, Start, Exit, Forget, Exec, CloseFrom, Enter, Give}
use Rattle.cap_machine.specs.declared.rule.Effect.TheVariants.{GiveTwo, Change, Fork, ForkAs}
use Rattle.cap_limits.specs.declared.live.fd_rights.ByFlag.{ByFlag}
use Rattle.cap_limits.specs.declared.live.fd_rights.FdRights.{FdRights}
use Rattle.cap_limits.specs.declared.live.process.LiveProcess.{LiveProcess}
use Rattle.cap_limits.specs.declared.live.LiveRights.{LiveRights}
use Rattle.cap_machine.specs.Op.{masked, held_op, exec}
use Rattle.cap_machine.specs.Effect.{is_child}
use Rattle.cap_machine.specs.Judge.{listed, is_forbidden}
use Rattle.cap_limits.specs.Live.{is_success}

-- ---- rights by descriptor

-- rights for each flag
abbrev pub flag_rights : ByFlag → OnExec → ℕ
flag_rights rights Set = rights.set
flag_rights rights Clear = rights.clear
flag_rights rights Unsure = rights.unsure

-- the rights of a descriptor with this flag
abbrev pub rights_of : FdRights → ℕ → OnExec → ℕ
rights_of rights f x = option_map_or (λ (own : ByFlag). flag_rights own x) (get nat_cmp rights.map f) 0

-- it has rights, or none, of one of the descriptors from this one on
abbrev pub HasFrom : FdRights → ℕ → Type 0
HasFrom rights n = (f : ℕ) × (n ≤ f) × IsSome (get nat_cmp rights.map f)

-- ---- one process

-- what is wanted before the next exec, and what it hands on of what is wanted after it
abbrev pub around_exec : (ℕ → OnExec → ℕ) → (ℕ → OnExec → ℕ) → ℕ → OnExec → ℕ
around_exec until_exec after_exec f Set = until_exec f Set
around_exec until_exec after_exec f Clear = join (until_exec f Clear) (after_exec f Clear)
around_exec until_exec after_exec f Unsure = until_exec f Unsure

-- the rights that are wanted of a descriptor where it is held with this flag
abbrev pub wanted_of : LiveProcess → ℕ → OnExec → ℕ
wanted_of own f x = around_exec (rights_of own.until_exec) (rights_of own.after_exec) f x

-- what is wanted of a held cell, from what is wanted of what it becomes
abbrev pub back_through : HeldOp → (OnExec → ℕ) → ℕ
back_through (Becomes c) after = 0
back_through (Keeps mask flag) after = masked mask (after flag)

-- the same, but nothing is wanted of one descriptor
abbrev pub wanted_without : ℕ → (ℕ → OnExec → ℕ) → ℕ → OnExec → ℕ
wanted_without g wanted f x = if f == g then 0 else wanted f x

-- the same, and these rights of one descriptor
abbrev pub wanted_with : ℕ → (OnExec → ℕ) → (ℕ → OnExec → ℕ) → ℕ → OnExec → ℕ
wanted_with g rights wanted f x = if f == g then join (wanted f x) (rights x) else wanted f x

-- what is wanted of a process before an effect of its own, from what is wanted after it, also of a child
abbrev pub undone : Effect → (ℕ → OnExec → ℕ) → ℕ → OnExec → ℕ
undone Keep wanted f x = wanted f x
undone Enter wanted f x = wanted f x
undone (Start fds) wanted f x = 0
undone Exit wanted f x = 0
undone Forget wanted f x = 0
undone Exec wanted f x = back_through (held_op exec x) (wanted f)
undone (CloseFrom n) wanted f x = if nat_le n f then 0 else wanted f x
undone (Give g c) wanted f x = wanted_without g wanted f x
undone (GiveTwo g h c) wanted f x = wanted_without h (wanted_without g wanted) f x
undone (Change g op h) wanted f x =
    wanted_with h (λ y. back_through (held_op op y) (wanted g)) (wanted_without g wanted) f x
undone (Fork child) wanted f x = wanted f x
undone (ForkAs child g) wanted f x = wanted_without g wanted f x

-- the position of the first line in the way of capability mode, likewise
abbrev pub unblocked : Effect → Option ℕ → Option ℕ
unblocked (Start fds) blocked = None
unblocked Exit blocked = None
unblocked Enter blocked = None
unblocked effect blocked = blocked

-- the earlier of two positions
abbrev pub earlier : Option ℕ → Option ℕ → Option ℕ
earlier None other = other
earlier (Some n) None = Some n
earlier (Some n) (Some m) = Some (if nat_lt n m then n else m)

-- with what checks need
abbrev pub with_checks : List Check → (ℕ → OnExec → ℕ) → ℕ → OnExec → ℕ
with_checks [] wanted f x = wanted f x
with_checks (check ∷ checks) wanted f x = with_checks checks (wanted_with check.fd (λ y. check.needs) wanted) f x

-- with what a line with this requirement needs, and where it is in the way
abbrev pub with_requirement : Requirement → (ℕ → OnExec → ℕ) → ℕ → OnExec → ℕ
with_requirement d wanted f x = if is_success d.reply then with_checks (listed d.checks) wanted f x else wanted f x

abbrev pub blocked_with : Requirement → ℕ → Option ℕ → Option ℕ
blocked_with d at blocked = if is_success d.reply && is_forbidden d.class then Some at else blocked

-- ---- all processes

-- the rights that are wanted of a descriptor of a process where it is held with this flag
abbrev pub wanted : LiveRights → ℕ → ℕ → OnExec → ℕ
wanted live p f x = option_map_or (λ own. wanted_of own f x) (get nat_cmp live.processes p) 0

abbrev pub blocked : LiveRights → ℕ → Option ℕ
blocked live p = option_map_or (λ (own : LiveProcess). own.blocked) (get nat_cmp live.processes p) None

-- what is wanted of a process and of the child that its line makes
abbrev pub wanted_in_either : Effect → ℕ → (ℕ → ℕ → OnExec → ℕ) → ℕ → OnExec → ℕ
wanted_in_either (Fork child) me wanted f x = join (wanted me f x) (if child == me then 0 else wanted child f x)
wanted_in_either (ForkAs child g) me wanted f x = join (wanted me f x) (if child == me then 0 else wanted child f x)
wanted_in_either effect me wanted f x = wanted me f x

abbrev pub blocked_in_either : Effect → ℕ → (ℕ → Option ℕ) → Option ℕ
blocked_in_either (Fork child) me blocked = earlier (blocked me) (if child == me then None else blocked child)
blocked_in_either (ForkAs child g) me blocked = earlier (blocked me) (if child == me then None else blocked child)
blocked_in_either effect me blocked = blocked me

-- what is wanted before a line of process me with this requirement and this effect
abbrev pub wanted_before : Requirement → Effect → ℕ → (ℕ → ℕ → OnExec → ℕ) → ℕ → ℕ → OnExec → ℕ
wanted_before d effect me wanted p f x =
    if p == me then with_requirement d (undone effect (wanted_in_either effect me wanted)) f x
    else if is_child effect p then 0 else wanted p f x

abbrev pub blocked_before : Requirement → Effect → ℕ → ℕ → (ℕ → Option ℕ) → ℕ → Option ℕ
blocked_before d effect at me blocked p =
    if p == me then blocked_with d at (unblocked effect (blocked_in_either effect me blocked))
    else if is_child effect p then None else blocked p
