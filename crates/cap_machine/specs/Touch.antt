-- What one step, a line in a profile, does to one cell and to one mode. It follows what the line records, whatever is
-- said of the line. No line touches another process than its own and its child.
use Rattle.std.specs.Prelude.{ℕ, ◌==◌, ◌&&◌, ◌||◌, not, Bool, true, false, if◌then◌else◌, List, [], ◌∷◌, Option, Some}
use Rattle.std.specs.Prelude.{None, codes, nat_le}
use Rattle.std.specs.List.{list_any}
use Rattle.std.specs.Str.{bytes_eq}
use Rattle.cap_rights.specs.Rights.{all}
use Rattle.cap_trace.specs.Item.{Item}
use Rattle.cap_trace.specs.Item as items
use Rattle.cap_trace.specs.Call.{Call}
use Rattle.cap_trace.specs.Call as calls
use Rattle.cap_trace.specs.declared.line.Dir.{Dir}
use Rattle.cap_trace.specs.declared.line.Answer.{Answer}
use Rattle.cap_trace.specs.declared.line.Answer.TheVariants as answers
use Rattle.cap_trace.specs.declared.calls.FdCall.{FdCall}
use Rattle.cap_trace.specs.declared.calls.FdCall.TheVariants.{Accept, Fexecve, Close, Closefrom, Dup, CapIoctlsLimit}
use Rattle.cap_trace.specs.declared.calls.FdCall.TheVariants.{CapFcntlsLimit}
use Rattle.cap_trace.specs.declared.calls.DupCommand.{DupCommand}
use Rattle.cap_trace.specs.declared.calls.DupCommand.TheVariants.{FDup2fd, FDup2fdCloexec}
use Rattle.cap_trace.specs.declared.calls.PathCall.{PathCall}
use Rattle.cap_trace.specs.declared.calls.PathCall.TheVariants.{Execve}
use Rattle.cap_trace.specs.declared.calls.AtFlagsCall.{AtFlagsCall}
use Rattle.cap_trace.specs.declared.calls.AtFlagsCall.TheVariants.{Openat}
use Rattle.cap_trace.specs.declared.calls.FlagsCall.{FlagsCall}
use Rattle.cap_trace.specs.declared.calls.FlagsCall.TheVariants.{Socket, Socketpair, Pipe2}
use Rattle.cap_trace.specs.declared.calls.BareCall.{BareCall}
use Rattle.cap_trace.specs.declared.calls.BareCall.TheVariants.{Pipe, Kqueue, ShmOpen, MqOpen, Fhopen, Fork, Vfork}
use Rattle.cap_trace.specs.declared.calls.BareCall.TheVariants.{Pdfork, CapEnter}
use Rattle.cap_machine.specs.Errno.{ebadf}
use Rattle.cap_machine.specs.declared.cell.Profile.{Profile}
use Rattle.cap_machine.specs.declared.cell.Profile.TheVariants.{One, Two}
use Rattle.cap_machine.specs.declared.cell.OnExec.{OnExec}
use Rattle.cap_machine.specs.declared.cell.OnExec.TheVariants as flags
use Rattle.cap_machine.specs.declared.cell.Cell.{Cell}
use Rattle.cap_machine.specs.declared.cell.Cell.TheVariants.{Unknown, Closed, Held}
use Rattle.cap_machine.specs.declared.cell.Mode.{Mode}
use Rattle.cap_machine.specs.declared.cell.Mode.TheVariants.{Inside, Outside, Unsure}
use Rattle.cap_machine.specs.declared.cell.Op.{Op}
use Rattle.cap_machine.specs.declared.step.Step.{Step}
use Rattle.cap_machine.specs.Op.{limit, derive, copy_to_itself, narrow, same, exec, set_flag, narrow_and_set_flag}
use Rattle.cap_machine.specs.Flags.{has_flag, all_known}
use Rattle.cap_machine.specs.Places.{below, is_cwd, is_empty}

-- a cell is kept, is as given, or is what an op makes of the cell of descriptor g of process q before the line
pub data Touch : Type 0 where
  kept : Touch
  given : Cell → Touch
  taken : Op → ℕ → ℕ → Touch

-- a mode is kept, is as given, or is that of process q before the line
pub data Turn : Type 0 where
  stays : Turn
  turns : Mode → Turn
  follows : ℕ → Turn

-- ---- where a touch goes; me is the process of the line

-- a call succeeded where it answered no errno
abbrev pub succeeded : Answer → Bool
succeeded (answers.Fault e) = false
succeeded _ = true

-- one descriptor of the process
abbrev pub on_fd : ℕ → Touch → ℕ → ℕ → ℕ → Touch
on_fd g t me p f = if p == me && f == g then t else kept

-- one descriptor, where the call succeeded
abbrev pub on_success : ℕ → Answer → Touch → ℕ → ℕ → ℕ → Touch
on_success g answer t me p f = if succeeded answer then on_fd g t me p f else kept

-- the descriptor that the call made
abbrev pub on_made : Answer → Touch → ℕ → ℕ → ℕ → Touch
on_made (answers.Made d) t me p f = on_fd d t me p f
on_made _ t me p f = kept

-- the two descriptors that the call made
abbrev pub on_both : Answer → Touch → ℕ → ℕ → ℕ → Touch
on_both (answers.Pair d e) t me p f = if p == me && (f == d || f == e) then t else kept
on_both _ t me p f = kept

-- ---- descriptors

-- after `@start` the listed descriptors are held and were never limited, and there are no others; what an exec does
-- with them isn't known
abbrev pub started : List ℕ → ℕ → Cell
started fds f = if list_any (λ g. f == g) fds then Held all flags.Unsure else Closed

-- close(2): a descriptor is closed by a success, and in doubt after any other failure than errno 9, that there was none
abbrev pub closing : Answer → Touch
closing (answers.Fault e) = if e == ebadf then kept else given Unknown
closing _ = given Closed

-- rights(4): a new descriptor has all rights, those of the one that it comes from, or nothing is known of them
abbrev pub whole : OnExec → Touch
whole flag = given (Held all flag)

abbrev pub copied : OnExec → ℕ → ℕ → Touch
copied flag g me = taken (derive flag) me g

-- dup2(2): a copy to another number is a new descriptor with this flag; to the same number nothing new is made
abbrev pub copied_to : Op → OnExec → ℕ → ℕ → ℕ → Touch
copied_to itself flag g h me = taken (if g == h then itself else derive flag) me g

abbrev pub unknown : Touch
unknown = given Unknown

-- execve(2), fexecve(2): in profile 1 nothing is known of any descriptor afterwards, and in profile 2 its flag decides
abbrev pub left_by_exec : Profile → ℕ → ℕ → Touch
left_by_exec One me f = given Unknown
left_by_exec Two me f = taken exec me f

abbrev pub exec_touch : Profile → Answer → ℕ → ℕ → ℕ → Touch
exec_touch profile answer me p f = if succeeded answer && p == me then left_by_exec profile me f else kept

-- closefrom(2): in profile 2 the descriptor and all above it are closed; in profile 1 nothing is known to change
abbrev pub closefrom_touch : Profile → ℕ → Answer → ℕ → ℕ → ℕ → Touch
closefrom_touch One g answer me p f = kept
closefrom_touch Two g answer me p f = if succeeded answer && (p == me && nat_le g f) then given Closed else kept

-- ---- close-on-exec flags

-- open(2), openat(2), pipe2(2)
abbrev pub open_flag : List ℕ → OnExec
open_flag names = if has_flag names (codes "O_CLOEXEC") then flags.Set else flags.Clear

-- socket(2), socketpair(2)
abbrev pub socket_flag : List ℕ → OnExec
socket_flag names = if has_flag names (codes "SOCK_CLOEXEC") then flags.Set else flags.Clear

-- fcntl(2), F_SETFD
abbrev pub fd_flag : List ℕ → OnExec
fd_flag names = if has_flag names (codes "FD_CLOEXEC") then flags.Set else flags.Clear

-- ---- each form of call

abbrev pub fd_touch : Profile → FdCall → ℕ → Answer → ℕ → ℕ → ℕ → Touch
fd_touch profile Close g answer me p f = on_fd g (closing answer) me p f
fd_touch profile Closefrom g answer me p f = closefrom_touch profile g answer me p f
fd_touch profile Dup g answer me p f = on_made answer (copied flags.Clear g me) me p f
fd_touch profile Accept g answer me p f = on_made answer unknown me p f
fd_touch profile Fexecve g answer me p f = exec_touch profile answer me p f
fd_touch profile CapIoctlsLimit g answer me p f = on_success g answer (taken narrow me g) me p f
fd_touch profile CapFcntlsLimit g answer me p f = on_success g answer (taken narrow me g) me p f
fd_touch profile _ g answer me p f = kept

-- fcntl(2): two of its commands make a copy that is answered
abbrev pub fcntl_touch : List ℕ → ℕ → Answer → ℕ → ℕ → ℕ → Touch
fcntl_touch command g answer me p f =
    if bytes_eq command (codes "F_DUPFD") then on_made answer (copied flags.Clear g me) me p f
    else if bytes_eq command (codes "F_DUPFD_CLOEXEC") then on_made answer (copied flags.Set g me) me p f
    else kept

-- two make one with a number that was asked for; of F_DUP2FD_CLOEXEC to the same number the flag isn't known
abbrev pub fcntl_copied_to : DupCommand → ℕ → ℕ → ℕ → Touch
fcntl_copied_to FDup2fd g h me = copied_to copy_to_itself flags.Clear g h me
fcntl_copied_to FDup2fdCloexec g h me = copied_to (derive flags.Unsure) flags.Set g h me

-- F_SETFD sets the flag of a held descriptor. Other names than FD_CLOEXEC may limit it in a way that isn't kept
abbrev pub plain_fd_flags : List (List ℕ)
plain_fd_flags = codes "0" ∷ codes "FD_CLOEXEC" ∷ []

abbrev pub set_fd_op : List ℕ → Op
set_fd_op names = if all_known plain_fd_flags names then set_flag (fd_flag names)
    else narrow_and_set_flag (fd_flag names)

abbrev pub set_fd_touch : List ℕ → ℕ → Answer → ℕ → ℕ → ℕ → Touch
set_fd_touch names g answer me p f = on_success g answer (taken (set_fd_op names) me g) me p f

abbrev pub path_touch : Profile → PathCall → Answer → ℕ → ℕ → ℕ → Touch
path_touch profile Execve answer me p f = exec_touch profile answer me p f
path_touch profile _ answer me p f = kept

-- openat(2): a file below a directory has the rights of the directory's descriptor; one below the current directory has
-- all; a file that an absolute path or an empty one names is unknown
abbrev pub opened_below : Option ℕ → Dir → List ℕ → OnExec → ℕ → Touch
opened_below (Some g) dir path flag me = copied flag g me
opened_below None dir path flag me = if is_cwd dir && not (is_empty path) then whole flag else unknown

abbrev pub at_touch : AtFlagsCall → Dir → List ℕ → List ℕ → Answer → ℕ → ℕ → ℕ → Touch
at_touch Openat dir path names answer me p f =
    on_made answer (opened_below (below dir path) dir path (open_flag names) me) me p f
at_touch _ dir path names answer me p f = kept

-- socket(2), socketpair(2), pipe(2)
abbrev pub flags_touch : FlagsCall → List ℕ → Answer → ℕ → ℕ → ℕ → Touch
flags_touch Socket names answer me p f = on_made answer (whole (socket_flag names)) me p f
flags_touch Socketpair names answer me p f = on_both answer (whole (socket_flag names)) me p f
flags_touch Pipe2 names answer me p f = on_both answer (whole (open_flag names)) me p f

-- fork(2), vfork(2): the child has what the parent has at that line; the child's own return, 0, changes nothing
abbrev pub fork_touch : Answer → ℕ → ℕ → ℕ → Touch
fork_touch (answers.Made c) me p f = if not (c == 0) && p == c then taken same me f else kept
fork_touch _ me p f = kept

-- pdfork(2): so does its child, and of the process descriptor nothing is known in either
abbrev pub pdfork_touch : Answer → ℕ → ℕ → ℕ → Touch
pdfork_touch (answers.Pair c d) me p f =
    if c == 0 then kept
    else if (p == me || p == c) && f == d then given Unknown
    else if p == c then taken same me f
    else kept
pdfork_touch _ me p f = kept

abbrev pub bare_touch : BareCall → Answer → ℕ → ℕ → ℕ → Touch
bare_touch Pipe answer me p f = on_both answer (whole flags.Clear) me p f
bare_touch Kqueue answer me p f = on_made answer unknown me p f
bare_touch ShmOpen answer me p f = on_made answer unknown me p f
bare_touch MqOpen answer me p f = on_made answer unknown me p f
bare_touch Fhopen answer me p f = on_made answer unknown me p f
bare_touch Fork answer me p f = fork_touch answer me p f
bare_touch Vfork answer me p f = fork_touch answer me p f
bare_touch Pdfork answer me p f = pdfork_touch answer me p f
bare_touch CapEnter answer me p f = kept

-- what a call of process me does to descriptor f of process p
abbrev pub call_touch : Profile → Call → Answer → ℕ → ℕ → ℕ → Touch
call_touch profile (calls.OnFd call g) answer me p f = fd_touch profile call g answer me p f
call_touch profile (calls.Accept4 g names) answer me p f = on_made answer unknown me p f
call_touch profile (calls.Dup2 g h) answer me p f = on_made answer (copied_to copy_to_itself flags.Clear g h me) me p f
call_touch profile (calls.Fcntl g command) answer me p f = fcntl_touch command g answer me p f
call_touch profile (calls.FcntlDup command g h) answer me p f = on_made answer (fcntl_copied_to command g h me) me p f
call_touch profile (calls.FcntlSetFd g names) answer me p f = set_fd_touch names g answer me p f
call_touch profile (calls.RightsLimit g asked) answer me p f = on_success g answer (taken (limit asked) me g) me p f
call_touch profile (calls.Open path names) answer me p f = on_made answer (whole (open_flag names)) me p f
call_touch profile (calls.OnPath call path) answer me p f = path_touch profile call answer me p f
call_touch profile (calls.AtFlags call dir path names) answer me p f = at_touch call dir path names answer me p f
call_touch profile (calls.OnFlags call names) answer me p f = flags_touch call names answer me p f
call_touch profile (calls.Bare call) answer me p f = bare_touch call answer me p f
call_touch profile _ answer me p f = kept

abbrev pub item_touch : Profile → Item → ℕ → ℕ → ℕ → Touch
item_touch profile (items.Start fds) me p f = if p == me then given (started fds f) else kept
item_touch profile items.Exit me p f = if p == me then given Unknown else kept
item_touch profile (items.Foreign g) me p f = on_fd g (given Unknown) me p f
item_touch profile (items.Needs marker g rights) me p f = kept
item_touch profile items.Global me p f = kept
item_touch profile (items.Call call answer) me p f = call_touch profile call answer me p f

-- what a step does to descriptor f of process p
abbrev pub touch : Step → ℕ → ℕ → Touch
touch step p f = item_touch step.profile step.line.item step.line.pid p f

-- ---- modes

-- cap_enter(2)
abbrev pub enter_turn : Answer → ℕ → ℕ → Turn
enter_turn answer me p = if succeeded answer && p == me then turns Inside else stays

-- fork(2): the child is in its parent's mode
abbrev pub fork_turn : Answer → ℕ → ℕ → Turn
fork_turn (answers.Made c) me p = if not (c == 0) && p == c then follows me else stays
fork_turn _ me p = stays

abbrev pub pdfork_turn : Answer → ℕ → ℕ → Turn
pdfork_turn (answers.Pair c d) me p = if not (c == 0) && p == c then follows me else stays
pdfork_turn _ me p = stays

-- no other call changes a mode, exec among them, and none leaves capability mode
abbrev pub call_turn : Call → Answer → ℕ → ℕ → Turn
call_turn (calls.Bare CapEnter) answer me p = enter_turn answer me p
call_turn (calls.Bare Fork) answer me p = fork_turn answer me p
call_turn (calls.Bare Vfork) answer me p = fork_turn answer me p
call_turn (calls.Bare Pdfork) answer me p = pdfork_turn answer me p
call_turn _ answer me p = stays

-- a process that begins with `@start` is outside
abbrev pub item_turn : Item → ℕ → ℕ → Turn
item_turn (items.Start fds) me p = if p == me then turns Outside else stays
item_turn items.Exit me p = if p == me then turns Unsure else stays
item_turn (items.Foreign g) me p = stays
item_turn (items.Needs marker g rights) me p = stays
item_turn items.Global me p = stays
item_turn (items.Call call answer) me p = call_turn call answer me p

-- what a step does to the mode of process p; in both profiles the same
abbrev pub turn : Step → ℕ → Turn
turn step p = item_turn step.line.item step.line.pid p
