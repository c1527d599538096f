-- Whatever a step does, held cells hold sets of rights.
use Rattle.std.proofs.Common.{◌≡◌, ℕ, ◌≤◌, ◌==◌, Bool, true, false, ◌&&◌, ◌||◌, not, if◌then◌else◌, List, refl}
use Rattle.std.proofs.Common.{subst, arith}
use Rattle.std.specs.Prelude.{Option, Some, None, codes, nat_le}
use Rattle.std.specs.List.{list_any}
use Rattle.std.specs.Str.{bytes_eq}
use Rattle.std.proofs.lemmas.Nat.{and_le_r}
use Rattle.cap_rights.specs.Rights.{all, named, without_full}
use Rattle.cap_trace.specs.Item.{Item}
use Rattle.cap_trace.specs.Item as items
use Rattle.cap_trace.specs.Call.{Call}
use Rattle.cap_trace.specs.Call as calls
use Rattle.cap_trace.specs.declared.line.Dir.{Dir}
use Rattle.cap_trace.specs.declared.line.Answer.{Answer}
use Rattle.cap_trace.specs.declared.line.Answer.TheVariants as answers
use Rattle.cap_trace.specs.declared.calls.FdCall.{FdCall}
use Rattle.cap_trace.specs.declared.calls.FdCall.TheVariants.{Accept, Fexecve, Close, Closefrom, Dup, CapIoctlsLimit}
use Rattle.cap_trace.specs.declared.calls.FdCall.TheVariants.{CapFcntlsLimit}
use Rattle.cap_trace.specs.declared.calls.DupCommand.{DupCommand}
use Rattle.cap_trace.specs.declared.calls.DupCommand.TheVariants.{FDup2fd, FDup2fdCloexec}
use Rattle.cap_trace.specs.declared.calls.PathCall.{PathCall}
use Rattle.cap_trace.specs.declared.calls.PathCall.TheVariants.{Execve}
use Rattle.cap_trace.specs.declared.calls.AtFlagsCall.{AtFlagsCall}
use Rattle.cap_trace.specs.declared.calls.AtFlagsCall.TheVariants.{Openat}
use Rattle.cap_trace.specs.declared.calls.FlagsCall.{FlagsCall}
use Rattle.cap_trace.specs.declared.calls.FlagsCall.TheVariants.{Socket, Socketpair, Pipe2}
use Rattle.cap_trace.specs.declared.calls.BareCall.{BareCall}
use Rattle.cap_trace.specs.declared.calls.BareCall.TheVariants.{Pipe, Kqueue, ShmOpen, MqOpen, Fhopen, Fork, Vfork}
use Rattle.cap_trace.specs.declared.calls.BareCall.TheVariants.{Pdfork, CapEnter}
use Rattle.cap_machine.specs.declared.cell.Profile.{Profile}
use Rattle.cap_machine.specs.declared.cell.Profile.TheVariants.{One, Two}
use Rattle.cap_machine.specs.declared.cell.OnExec.{OnExec}
use Rattle.cap_machine.specs.declared.cell.OnExec.TheVariants as flags
use Rattle.cap_machine.specs.declared.cell.Cell.{Cell}
use Rattle.cap_machine.specs.declared.cell.Cell.TheVariants.{Unknown, Closed, Held}
use Rattle.cap_machine.specs.declared.cell.HeldOp.{HeldOp}
use Rattle.cap_machine.specs.declared.cell.HeldOp.TheVariants.{Becomes, Keeps}
use Rattle.cap_machine.specs.declared.cell.Op.{Op}
use Rattle.cap_machine.specs.declared.step.Step.{Step}
use Rattle.cap_machine.specs.State.{State}
use Rattle.cap_machine.specs.Op.{applied, held, same, derive, copy_to_itself, limit, narrow, set_flag}
use Rattle.cap_machine.specs.Op.{narrow_and_set_flag}
use Rattle.cap_machine.specs.Flags.{all_known}
use Rattle.cap_machine.specs.Places.{below, is_cwd, is_empty}
use Rattle.cap_machine.specs.Errno.{ebadf}
use Rattle.cap_machine.specs.Touch.{Touch, kept, given, taken, started, succeeded, on_fd, on_success, on_made, on_both}
use Rattle.cap_machine.specs.Touch.{closing, whole, copied, copied_to, unknown, left_by_exec, exec_touch}
use Rattle.cap_machine.specs.Touch.{closefrom_touch, open_flag, socket_flag, fd_flag, fd_touch, fcntl_touch}
use Rattle.cap_machine.specs.Touch.{fcntl_copied_to, plain_fd_flags, set_fd_op, path_touch, opened_below, at_touch}
use Rattle.cap_machine.specs.Touch.{flags_touch, fork_touch, pdfork_touch, bare_touch, call_touch, item_touch, touch}
use Rattle.cap_machine.specs.History.{touched, step_after}
use Rattle.cap_limits.specs.LimitLaws.{HoldsSets}
use Rattle.cap_limits.proofs.LimitBits.{masked_set}

-- ---- cells and ops

abbrev CellSet : Cell → Type 0
CellSet Unknown = Unit {0}
CellSet Closed = Unit {0}
CellSet (Held rights flag) = rights ≤ all

abbrev HeldSet : HeldOp → Type 0
HeldSet (Becomes c) = CellSet c
HeldSet (Keeps mask flag) = Unit {0}

abbrev OpSet : Op → Type 0
OpSet op = CellSet op.unknown × CellSet op.closed × HeldSet op.set × HeldSet op.clear × HeldSet op.unsure

abbrev TouchSet : Touch → Type 0
TouchSet kept = Unit {0}
TouchSet (given c) = CellSet c
TouchSet (taken op q g) = OpSet op

held_set : (op : HeldOp) (rights : ℕ) → HeldSet op → rights ≤ all → CellSet (held op rights)
held_set (Becomes c) rights is le = is
held_set (Keeps mask flag) rights is le = masked_set mask rights le

applied_set : (op : Op) (c : Cell) → OpSet op → CellSet c → CellSet (applied op c)
applied_set op Unknown is set = is.0
applied_set op Closed is set = is.1
applied_set op (Held rights flags.Set) is set = held_set op.set rights is.2 set
applied_set op (Held rights flags.Clear) is set = held_set op.clear rights is.3 set
applied_set op (Held rights flags.Unsure) is set = held_set op.unsure rights is.4 set

touched_set : (t : Touch) (cells : ℕ → ℕ → Cell) (p f : ℕ) → TouchSet t → ((q g : ℕ) → CellSet (cells q g))
    → CellSet (touched t cells p f)
touched_set kept cells p f is sets = sets p f
touched_set (given c) cells p f is sets = is
touched_set (taken op q g) cells p f is sets = applied_set op (cells q g) is (sets q g)

-- ---- where a touch goes

unless : (b : Bool) (t : Touch) → TouchSet t → TouchSet (if b then t else kept)
unless true t is = is
unless false t is = tt

choose : (b : Bool) (t u : Touch) → TouchSet t → TouchSet u → TouchSet (if b then t else u)
choose true t u first second = first
choose false t u first second = second

success_set : (g : ℕ) (answer : Answer) (t : Touch) (me p f : ℕ) → TouchSet t → TouchSet (on_success g answer t me p f)
success_set g answer t me p f is =
    unless (succeeded answer) (on_fd g t me p f) (unless (p == me && f == g) t is)

made_set : (answer : Answer) (t : Touch) (me p f : ℕ) → TouchSet t → TouchSet (on_made answer t me p f)
made_set (answers.Made d) t me p f is = unless (p == me && f == d) t is
made_set _ t me p f is = tt

both_set : (answer : Answer) (t : Touch) (me p f : ℕ) → TouchSet t → TouchSet (on_both answer t me p f)
both_set (answers.Pair d e) t me p f is = unless (p == me && (f == d || f == e)) t is
both_set _ t me p f is = tt

-- ---- each touch

all_set : all ≤ all
all_set = omega arith

closing_set : (answer : Answer) → TouchSet (closing answer)
closing_set (answers.Fault e) = choose (e == ebadf) kept (given Unknown) tt tt
closing_set _ = tt

copied_set : (itself : Op) (flag : OnExec) (g h me : ℕ) → OpSet itself → TouchSet (copied_to itself flag g h me)
copied_set itself flag g h me is = by (g == h)
  where
    by : (b : Bool) → TouchSet (taken (if b then itself else derive flag) me g)
    by true = is
    by false = (tt, tt, tt, tt, tt)

set_fd_set : (names : List ℕ) (g me : ℕ) → TouchSet (taken (set_fd_op names) me g)
set_fd_set names g me = by (all_known plain_fd_flags names)
  where
    by : (b : Bool)
        → TouchSet (taken (if b then set_flag (fd_flag names) else narrow_and_set_flag (fd_flag names)) me g)
    by true = (tt, tt, tt, tt, tt)
    by false = (tt, tt, tt, tt, tt)

limit_set : (asked me g : ℕ) → TouchSet (taken (limit asked) me g)
limit_set asked me g =
    let le : without_full asked ≤ all = omega (arith, and_le_r asked named) in
    (le, le, tt, tt, tt)

left_set : (profile : Profile) (me f : ℕ) → TouchSet (left_by_exec profile me f)
left_set One me f = tt
left_set Two me f = (tt, tt, tt, tt, tt)

exec_set : (profile : Profile) (answer : Answer) (me p f : ℕ) → TouchSet (exec_touch profile answer me p f)
exec_set profile answer me p f =
    unless (succeeded answer && p == me) (left_by_exec profile me f) (left_set profile me f)

closefrom_set : (profile : Profile) (g : ℕ) (answer : Answer) (me p f : ℕ)
    → TouchSet (closefrom_touch profile g answer me p f)
closefrom_set One g answer me p f = tt
closefrom_set Two g answer me p f = unless (succeeded answer && (p == me && nat_le g f)) (given Closed) tt

started_set : (fds : List ℕ) (f : ℕ) → CellSet (started fds f)
started_set fds f = by (list_any (λ g. f == g) fds)
  where
    by : (b : Bool) → CellSet (if b then Held all flags.Unsure else Closed)
    by true = all_set
    by false = tt

-- ---- each form of call

fd_set : (profile : Profile) (call : FdCall) (g : ℕ) (answer : Answer) (me p f : ℕ)
    → TouchSet (fd_touch profile call g answer me p f)
fd_set profile Close g answer me p f = unless (p == me && f == g) (closing answer) (closing_set answer)
fd_set profile Closefrom g answer me p f = closefrom_set profile g answer me p f
fd_set profile Dup g answer me p f = made_set answer (copied flags.Clear g me) me p f (tt, tt, tt, tt, tt)
fd_set profile Accept g answer me p f = made_set answer unknown me p f tt
fd_set profile Fexecve g answer me p f = exec_set profile answer me p f
fd_set profile CapIoctlsLimit g answer me p f = success_set g answer (taken narrow me g) me p f (tt, tt, tt, tt, tt)
fd_set profile CapFcntlsLimit g answer me p f = success_set g answer (taken narrow me g) me p f (tt, tt, tt, tt, tt)
fd_set profile _ g answer me p f = tt

fcntl_set : (command : List ℕ) (g : ℕ) (answer : Answer) (me p f : ℕ) → TouchSet (fcntl_touch command g answer me p f)
fcntl_set command g answer me p f =
    let plain = on_made answer (copied flags.Clear g me) me p f in
    let marked = on_made answer (copied flags.Set g me) me p f in
    let is_marked = bytes_eq command (codes "F_DUPFD_CLOEXEC") in
    choose (bytes_eq command (codes "F_DUPFD")) plain (if is_marked then marked else kept)
    (made_set answer (copied flags.Clear g me) me p f (tt, tt, tt, tt, tt))
    (unless is_marked marked (made_set answer (copied flags.Set g me) me p f (tt, tt, tt, tt, tt)))

dup_set : (command : DupCommand) (g h me : ℕ) → TouchSet (fcntl_copied_to command g h me)
dup_set FDup2fd g h me = copied_set copy_to_itself flags.Clear g h me (tt, tt, tt, tt, tt)
dup_set FDup2fdCloexec g h me = copied_set (derive flags.Unsure) flags.Set g h me (tt, tt, tt, tt, tt)

path_set : (profile : Profile) (call : PathCall) (answer : Answer) (me p f : ℕ)
    → TouchSet (path_touch profile call answer me p f)
path_set profile Execve answer me p f = exec_set profile answer me p f
path_set profile _ answer me p f = tt

opened_set : (g : Option ℕ) (dir : Dir) (path : List ℕ) (flag : OnExec) (me : ℕ)
    → TouchSet (opened_below g dir path flag me)
opened_set (Some g) dir path flag me = (tt, tt, tt, tt, tt)
opened_set None dir path flag me = choose (is_cwd dir && not (is_empty path)) (whole flag) unknown all_set tt

at_set : (call : AtFlagsCall) (dir : Dir) (path names : List ℕ) (answer : Answer) (me p f : ℕ)
    → TouchSet (at_touch call dir path names answer me p f)
at_set Openat dir path names answer me p f =
    made_set answer (opened_below (below dir path) dir path (open_flag names) me) me p f
    (opened_set (below dir path) dir path (open_flag names) me)
at_set _ dir path names answer me p f = tt

flags_set : (call : FlagsCall) (names : List ℕ) (answer : Answer) (me p f : ℕ)
    → TouchSet (flags_touch call names answer me p f)
flags_set Socket names answer me p f = made_set answer (whole (socket_flag names)) me p f all_set
flags_set Socketpair names answer me p f = both_set answer (whole (socket_flag names)) me p f all_set
flags_set Pipe2 names answer me p f = both_set answer (whole (open_flag names)) me p f all_set

fork_set : (answer : Answer) (me p f : ℕ) → TouchSet (fork_touch answer me p f)
fork_set (answers.Made c) me p f = unless (not (c == 0) && p == c) (taken same me f) (tt, tt, tt, tt, tt)
fork_set _ me p f = tt

pdfork_set : (answer : Answer) (me p f : ℕ) → TouchSet (pdfork_touch answer me p f)
pdfork_set (answers.Pair c d) me p f =
    choose (c == 0) kept _ tt
    (choose ((p == me || p == c) && f == d) (given Unknown) _ tt
    (unless (p == c) (taken same me f) (tt, tt, tt, tt, tt)))
pdfork_set _ me p f = tt

bare_set : (call : BareCall) (answer : Answer) (me p f : ℕ) → TouchSet (bare_touch call answer me p f)
bare_set Pipe answer me p f = both_set answer (whole flags.Clear) me p f all_set
bare_set Kqueue answer me p f = made_set answer unknown me p f tt
bare_set ShmOpen answer me p f = made_set answer unknown me p f tt
bare_set MqOpen answer me p f = made_set answer unknown me p f tt
bare_set Fhopen answer me p f = made_set answer unknown me p f tt
bare_set Fork answer me p f = fork_set answer me p f
bare_set Vfork answer me p f = fork_set answer me p f
bare_set Pdfork answer me p f = pdfork_set answer me p f
bare_set CapEnter answer me p f = tt

call_set : (profile : Profile) (call : Call) (answer : Answer) (me p f : ℕ)
    → TouchSet (call_touch profile call answer me p f)
call_set profile (calls.OnFd call g) answer me p f = fd_set profile call g answer me p f
call_set profile (calls.Accept4 g names) answer me p f = made_set answer unknown me p f tt
call_set profile (calls.Dup2 g h) answer me p f =
    made_set answer (copied_to copy_to_itself flags.Clear g h me) me p f
    (copied_set copy_to_itself flags.Clear g h me (tt, tt, tt, tt, tt))
call_set profile (calls.Fcntl g command) answer me p f = fcntl_set command g answer me p f
call_set profile (calls.FcntlDup command g h) answer me p f =
    made_set answer (fcntl_copied_to command g h me) me p f (dup_set command g h me)
call_set profile (calls.FcntlSetFd g names) answer me p f =
    success_set g answer (taken (set_fd_op names) me g) me p f (set_fd_set names g me)
call_set profile (calls.RightsLimit g asked) answer me p f =
    success_set g answer (taken (limit asked) me g) me p f (limit_set asked me g)
call_set profile (calls.Open path names) answer me p f = made_set answer (whole (open_flag names)) me p f all_set
call_set profile (calls.OnPath call path) answer me p f = path_set profile call answer me p f
call_set profile (calls.AtFlags call dir path names) answer me p f = at_set call dir path names answer me p f
call_set profile (calls.OnFlags call names) answer me p f = flags_set call names answer me p f
call_set profile (calls.Bare call) answer me p f = bare_set call answer me p f
call_set profile _ answer me p f = tt

item_set : (profile : Profile) (item : Item) (me p f : ℕ) → TouchSet (item_touch profile item me p f)
item_set profile (items.Start fds) me p f = unless (p == me) (given (started fds f)) (started_set fds f)
item_set profile items.Exit me p f = unless (p == me) (given Unknown) tt
item_set profile (items.Foreign g) me p f = unless (p == me && f == g) (given Unknown) tt
item_set profile (items.Needs marker g rights) me p f = tt
item_set profile items.Global me p f = tt
item_set profile (items.Call call answer) me p f = call_set profile call answer me p f

-- ---- a state

set_of_held : (c : Cell) → ((rights : ℕ) (flag : OnExec) → c ≡ Held rights flag → rights ≤ all) → CellSet c
set_of_held (Held rights flag) h = h rights flag refl
set_of_held _ h = tt

pub holds_sets_after : (step : Step) (s : State) → HoldsSets s → HoldsSets (step_after step s)
holds_sets_after step s sets p f rights flag is =
    subst CellSet is (touched_set (touch step p f) s.cell p f
    (item_set step.profile step.line.item step.line.pid p f) (λ q g. set_of_held (s.cell q g) (sets q g)))
