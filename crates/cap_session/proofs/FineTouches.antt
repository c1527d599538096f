-- What a line that can be spelled does to a cell: it makes cells of closed sets of rights, and a held cell alone at a
-- descriptor within the limit.
use Rattle.std.proofs.Common.{◌≡◌, ℕ, ◌==◌, Bool, true, false, ◌&&◌, ◌||◌, not, if◌then◌else◌, List, [], ◌∷◌, refl}
use Rattle.std.proofs.Common.{◌⊎◌, inl, inr}
use Rattle.std.specs.Prelude.{Option, Some, None, codes, nat_le}
use Rattle.std.specs.List.{list_any}
use Rattle.std.specs.Str.{bytes_eq}
use Rattle.std.proofs.lemmas.Bool.{and_parts, eq-eqb, or_cases, or_left, or_right}
use Rattle.cap_rights.specs.Rights.{all}
use Rattle.cap_trace.specs.Item.{Item}
use Rattle.cap_trace.specs.Item as items
use Rattle.cap_trace.specs.Call.{Call}
use Rattle.cap_trace.specs.Call as calls
use Rattle.cap_trace.specs.Entry.{a_dir, fds, args_of, args_of_call, kind_of, fcntl_kind, IsFd, IsAnswer, IsWhole}
use Rattle.cap_trace.specs.declared.line.Dir.{Dir}
use Rattle.cap_trace.specs.declared.line.Dir.TheVariants as dirs
use Rattle.cap_trace.specs.declared.line.Answer.{Answer}
use Rattle.cap_trace.specs.declared.line.Answer.TheVariants as answers
use Rattle.cap_trace.specs.declared.calls.ResultKind.TheVariants as kinds
use Rattle.cap_trace.specs.declared.calls.FdCall.{FdCall}
use Rattle.cap_trace.specs.declared.calls.FdCall.TheVariants.{Accept, Fexecve, Close, Closefrom, Dup, CapIoctlsLimit}
use Rattle.cap_trace.specs.declared.calls.FdCall.TheVariants.{CapFcntlsLimit}
use Rattle.cap_trace.specs.declared.calls.DupCommand.{DupCommand}
use Rattle.cap_trace.specs.declared.calls.DupCommand.TheVariants.{FDup2fd, FDup2fdCloexec}
use Rattle.cap_trace.specs.declared.calls.PathCall.{PathCall}
use Rattle.cap_trace.specs.declared.calls.PathCall.TheVariants.{Execve}
use Rattle.cap_trace.specs.declared.calls.AtFlagsCall.{AtFlagsCall}
use Rattle.cap_trace.specs.declared.calls.AtFlagsCall.TheVariants.{Openat}
use Rattle.cap_trace.specs.declared.calls.FlagsCall.{FlagsCall}
use Rattle.cap_trace.specs.declared.calls.FlagsCall.TheVariants.{Socket, Socketpair, Pipe2}
use Rattle.cap_trace.specs.declared.calls.BareCall.{BareCall}
use Rattle.cap_trace.specs.declared.calls.BareCall.TheVariants.{Pipe, Kqueue, ShmOpen, MqOpen, Fhopen, Fork, Vfork}
use Rattle.cap_trace.specs.declared.calls.BareCall.TheVariants.{Pdfork, CapEnter}
use Rattle.cap_machine.specs.declared.cell.Profile.{Profile}
use Rattle.cap_machine.specs.declared.cell.Profile.TheVariants.{One, Two}
use Rattle.cap_machine.specs.declared.cell.OnExec.{OnExec}
use Rattle.cap_machine.specs.declared.cell.OnExec.TheVariants as flags
use Rattle.cap_machine.specs.declared.cell.Cell.{Cell}
use Rattle.cap_machine.specs.declared.cell.Cell.TheVariants.{Unknown, Closed, Held}
use Rattle.cap_machine.specs.declared.cell.HeldOp.{HeldOp}
use Rattle.cap_machine.specs.declared.cell.HeldOp.TheVariants.{Becomes, Keeps}
use Rattle.cap_machine.specs.declared.cell.Op.{Op}
use Rattle.cap_machine.specs.declared.step.Step.{Step}
use Rattle.cap_machine.specs.Op.{same, derive, copy_to_itself, limit, narrow, set_flag, exec, narrow_and_set_flag}
use Rattle.cap_machine.specs.Flags.{all_known}
use Rattle.cap_machine.specs.Named.{dir_names, arg_names}
use Rattle.cap_machine.specs.Places.{below, is_empty, is_absolute, dir_fd}
use Rattle.cap_limits.specs.Standing.{IsHeld}
use Rattle.cap_machine.specs.Errno.{ebadf}
use Rattle.cap_machine.specs.Touch.{Touch, kept, given, taken, started, succeeded, on_fd, on_success, on_made, on_both}
use Rattle.cap_machine.specs.Touch.{closing, whole, copied, copied_to, unknown, exec_touch}
use Rattle.cap_machine.specs.Touch.{closefrom_touch, open_flag, socket_flag, fd_flag, fd_touch, fcntl_touch}
use Rattle.cap_machine.specs.Touch.{fcntl_copied_to, plain_fd_flags, set_fd_op, path_touch, opened_below, at_touch}
use Rattle.cap_machine.specs.Touch.{flags_touch, fork_touch, pdfork_touch, bare_touch, call_touch, item_touch, touch}
use Rattle.cap_session.proofs.ClosedSets.{IsClosed, all_closed, by_name_closed, without_full_closed}
use Rattle.cap_session.proofs.FineLines.{FineLine, FineArg, FineArgs, args_within, same_fd}

-- ---- cells and ops

abbrev pub ClosedCell : Cell → Type 0
ClosedCell Unknown = Unit {0}
ClosedCell Closed = Unit {0}
ClosedCell (Held rights flag) = IsClosed rights

abbrev pub ClosedMask : Option ℕ → Type 0
ClosedMask None = Unit {0}
ClosedMask (Some mask) = IsClosed mask

abbrev pub ClosedHeld : HeldOp → Type 0
ClosedHeld (Becomes c) = ClosedCell c
ClosedHeld (Keeps mask flag) = ClosedMask mask

abbrev pub ClosedOp : Op → Type 0
ClosedOp op =
    ClosedCell op.unknown × ClosedCell op.closed × ClosedHeld op.set × ClosedHeld op.clear × ClosedHeld op.unsure

-- a cell is held after it only where it was held before
abbrev pub KeepsUnheld : Op → Type 0
KeepsUnheld op = (IsHeld op.unknown → ⊥) × (IsHeld op.closed → ⊥)

-- What a touch of descriptor f does. A cell is taken from another descriptor only where both are within the limit.
-- Where it is taken from its own, Every holds: no descriptor of the process is kept.
abbrev pub FineTouch : Type 0 → ℕ → Touch → Type 0
FineTouch Every f kept = Unit {0}
FineTouch Every f (given c) = ClosedCell c × (IsHeld c → IsFd f)
FineTouch Every f (taken op q g) = ClosedOp op × ((IsFd f × IsFd g) ⊎ ((g ≡ f) × KeepsUnheld op × Every))

-- ---- answers

abbrev MadeFd : Answer → Type 0
MadeFd (answers.Made n) = IsFd n
MadeFd _ = Unit {0}

abbrev PairFds : Answer → Type 0
PairFds (answers.Pair n m) = IsFd n × IsFd m
PairFds _ = Unit {0}

fd_answer : (answer : Answer) → IsAnswer kinds.Fd answer → MadeFd answer
fd_answer (answers.Made n) is = is
fd_answer _ is = tt

same_answer : (g : ℕ) (answer : Answer) → IsAnswer (kinds.Same g) answer → MadeFd answer
same_answer g (answers.Made n) is = is.1
same_answer g _ is = tt

pair_answer : (answer : Answer) → IsAnswer kinds.FdPair answer → PairFds answer
pair_answer (answers.Pair n m) is = is
pair_answer _ is = tt

-- ---- where a touch goes

copied_op : (flag : OnExec) → ClosedOp (derive flag)
copied_op flag = (tt, tt, tt, tt, tt)

narrow_op : ClosedOp narrow
narrow_op = (tt, tt, by_name_closed, by_name_closed, by_name_closed)

never : (x : Bool) (q g : ℕ) → (if x then given Unknown else taken same q g) ≡ kept → ⊥
never true q g e = cc
never false q g e = cc

module _ (Every : Type 0) (me p f : ℕ) where
  if_fine : (b : Bool) (t u : Touch) → (b ≡ true → FineTouch Every f t) → FineTouch Every f u
      → FineTouch Every f (if b then t else u)
  if_fine true t u one other = one refl
  if_fine false t u one other = other

  fd_fine : (g : ℕ) (t : Touch) → IsFd g → (IsFd f → FineTouch Every f t) → FineTouch Every f (on_fd g t me p f)
  fd_fine g t is fine = if_fine (p == me && f == g) t kept
      (λ e. fine (same_fd f g (and_parts (p == me) (f == g) e).1 is)) tt

  success_fine : (g : ℕ) (answer : Answer) (op : Op) → IsFd g → ClosedOp op
      → FineTouch Every f (on_success g answer (taken op me g) me p f)
  success_fine g answer op is closed = if_fine (succeeded answer) (on_fd g (taken op me g) me p f) kept
      (λ _. fd_fine g (taken op me g) is (λ own. (closed, inl (own, is)))) tt

  made_fine : (answer : Answer) (t : Touch) → MadeFd answer → (IsFd f → FineTouch Every f t)
      → FineTouch Every f (on_made answer t me p f)
  made_fine (answers.Made d) t is fine = fd_fine d t is fine
  made_fine (answers.Pair d e) t is fine = tt
  made_fine (answers.Fault e) t is fine = tt

  both_fine : (answer : Answer) (t : Touch) → PairFds answer → (IsFd f → FineTouch Every f t)
      → FineTouch Every f (on_both answer t me p f)
  both_fine (answers.Made d) t is fine = tt
  both_fine (answers.Pair d e) t is fine = if_fine (p == me && (f == d || f == e)) t kept
      (λ both. elim (or_cases (f == d) (f == e) (and_parts (p == me) (f == d || f == e) both).1) [
        | inl first ↦ fine (same_fd f d first is.0)
        | inr second ↦ fine (same_fd f e second is.1)
      ]) tt
  both_fine (answers.Fault e) t is fine = tt

  nothing_fine : FineTouch Every f (given Unknown)
  nothing_fine = (tt, λ is. absurd is)

  closed_fine : FineTouch Every f (given Closed)
  closed_fine = (tt, λ is. absurd is)

  whole_fine : (flag : OnExec) → IsFd f → FineTouch Every f (whole flag)
  whole_fine flag is = (all_closed, λ _. is)

  copied_fine : (flag : OnExec) (g : ℕ) → IsFd g → IsFd f → FineTouch Every f (copied flag g me)
  copied_fine flag g from is = (copied_op flag, inl (is, from))

  copied_to_fine : (itself : Op) (flag : OnExec) (g h : ℕ) → ClosedOp itself → IsFd g → IsFd f
      → FineTouch Every f (copied_to itself flag g h me)
  copied_to_fine itself flag g h closed from is = by (g == h)
    where
      by : (b : Bool) → FineTouch Every f (taken (if b then itself else derive flag) me g)
      by true = (closed, inl (is, from))
      by false = copied_fine flag g from is

  -- a touch of each descriptor of a process, from its own cell
  each_fine : (b : Bool) (op : Op) → ClosedOp op → KeepsUnheld op
      → (((n : ℕ) → (if b then taken op me n else kept) ≡ kept → ⊥) → Every)
      → FineTouch Every f (if b then taken op me f else kept)
  each_fine true op closed unheld every = (closed, inr (refl, unheld, every (λ n e. cc)))
  each_fine false op closed unheld every = tt

  -- ---- each touch of the table

  closing_fine : (answer : Answer) → FineTouch Every f (closing answer)
  closing_fine (answers.Made d) = closed_fine
  closing_fine (answers.Pair d e) = closed_fine
  closing_fine (answers.Fault e) = if_fine (e == ebadf) kept (given Unknown) (λ _. tt) nothing_fine

  exec_fine : (profile : Profile) (answer : Answer)
      → (((n : ℕ) → exec_touch profile answer me p n ≡ kept → ⊥) → Every)
      → FineTouch Every f (exec_touch profile answer me p f)
  exec_fine One answer every = if_fine (succeeded answer && p == me) (given Unknown) kept (λ _. nothing_fine) tt
  exec_fine Two answer every =
      each_fine (succeeded answer && p == me) exec (tt, tt, tt, tt, tt) (λ is. is, λ is. is) every

  closefrom_fine : (profile : Profile) (g : ℕ) (answer : Answer)
      → FineTouch Every f (closefrom_touch profile g answer me p f)
  closefrom_fine One g answer = tt
  closefrom_fine Two g answer =
      if_fine (succeeded answer && (p == me && nat_le g f)) (given Closed) kept (λ _. closed_fine) tt

  fork_fine : (answer : Answer) → (((n : ℕ) → fork_touch answer me p n ≡ kept → ⊥) → Every)
      → FineTouch Every f (fork_touch answer me p f)
  fork_fine (answers.Made c) every =
      each_fine (not (c == 0) && p == c) same (tt, tt, tt, tt, tt) (λ is. is, λ is. is) every
  fork_fine (answers.Pair c d) every = tt
  fork_fine (answers.Fault e) every = tt

  beside : (a m b : Bool) (is : ℕ → Bool)
      → (((n : ℕ) → (if a then kept else if (m || b) && is n then given Unknown else if b then taken same me n
      else kept) ≡ kept → ⊥) → Every)
      → FineTouch Every f (if a then kept else if (m || b) && is f then given Unknown else if b then taken same me f
      else kept)
  beside true m b is every = tt
  beside false true true is every = if_fine (is f) (given Unknown) (taken same me f) (λ _. nothing_fine)
      ((tt, tt, tt, tt, tt), inr (refl, (λ h. h, λ h. h), every (λ n. never (is n) me n)))
  beside false false true is every = if_fine (is f) (given Unknown) (taken same me f) (λ _. nothing_fine)
      ((tt, tt, tt, tt, tt), inr (refl, (λ h. h, λ h. h), every (λ n. never (is n) me n)))
  beside false true false is every = if_fine (is f) (given Unknown) kept (λ _. nothing_fine) tt
  beside false false false is every = tt

  pdfork_fine : (answer : Answer) → (((n : ℕ) → pdfork_touch answer me p n ≡ kept → ⊥) → Every)
      → FineTouch Every f (pdfork_touch answer me p f)
  pdfork_fine (answers.Pair c d) every = beside (c == 0) (p == me) (p == c) (λ n. n == d) every
  pdfork_fine (answers.Made c) every = tt
  pdfork_fine (answers.Fault e) every = tt

  start_fine : (fs : List ℕ) → FineArgs (fds fs) → FineTouch Every f (given (started fs f))
  start_fine fs are = by (list_any (λ g. f == g) fs) (λ e. args_within f (fds fs) are (listed fs e))
    where
      listed : (gs : List ℕ) → list_any (λ g. f == g) gs ≡ true → list_any (arg_names f) (fds gs) ≡ true
      listed [] is = is
      listed (g ∷ gs) is = elim (or_cases (f == g) (list_any (λ g. f == g) gs) is) [
        | inl here ↦ or_left (f == g) (list_any (arg_names f) (fds gs)) here
        | inr later ↦ or_right (f == g) (list_any (arg_names f) (fds gs)) (listed gs later)
      ]

      by : (b : Bool) → (b ≡ true → IsFd f) → FineTouch Every f (given (if b then Held all flags.Unsure else Closed))
      by true is = (all_closed, λ _. is refl)
      by false is = closed_fine

-- ---- each form of call

module _ (Every : Type 0) (answer : Answer) (me p f : ℕ) where
  copy_fine : (flag : OnExec) (g : ℕ) → IsFd g → MadeFd answer
      → FineTouch Every f (on_made answer (copied flag g me) me p f)
  copy_fine flag g from made = made_fine Every me p f answer _ made (copied_fine Every me p f flag g from)

  new_fine : (flag : OnExec) → MadeFd answer → FineTouch Every f (on_made answer (whole flag) me p f)
  new_fine flag made = made_fine Every me p f answer _ made (whole_fine Every me p f flag)

  pair_fine : (flag : OnExec) → PairFds answer → FineTouch Every f (on_both answer (whole flag) me p f)
  pair_fine flag made = both_fine Every me p f answer _ made (whole_fine Every me p f flag)

  unknown_fine : MadeFd answer → FineTouch Every f (on_made answer unknown me p f)
  unknown_fine made = made_fine Every me p f answer _ made (λ _. nothing_fine Every me p f)

  fd_call_fine : (profile : Profile) (call : FdCall) (g : ℕ) → IsFd g → IsAnswer (kind_of (calls.OnFd call g)) answer
      → (((n : ℕ) → fd_touch profile call g answer me p n ≡ kept → ⊥) → Every)
      → FineTouch Every f (fd_touch profile call g answer me p f)
  fd_call_fine profile Close g is whole every =
      fd_fine Every me p f g (closing answer) is (λ _. closing_fine Every me p f answer)
  fd_call_fine profile Closefrom g is whole every = closefrom_fine Every me p f profile g answer
  fd_call_fine profile Dup g is whole every = copy_fine flags.Clear g is (fd_answer answer whole)
  fd_call_fine profile Accept g is whole every = unknown_fine (fd_answer answer whole)
  fd_call_fine profile Fexecve g is whole every = exec_fine Every me p f profile answer every
  fd_call_fine profile CapIoctlsLimit g is whole every = success_fine Every me p f g answer narrow is narrow_op
  fd_call_fine profile CapFcntlsLimit g is whole every = success_fine Every me p f g answer narrow is narrow_op
  fd_call_fine profile _ g is whole every = tt

  fcntl_fine : (command : List ℕ) (g : ℕ) → IsFd g → IsAnswer (fcntl_kind command) answer
      → FineTouch Every f (fcntl_touch command g answer me p f)
  fcntl_fine command g is whole =
      by (bytes_eq command (codes "F_DUPFD")) (bytes_eq command (codes "F_DUPFD_CLOEXEC")) whole
    where
      by : (a b : Bool) → IsAnswer (if a || b then kinds.Fd else kinds.Count) answer
          → FineTouch Every f (if a then on_made answer (copied flags.Clear g me) me p f
          else if b then on_made answer (copied flags.Set g me) me p f else kept)
      by true b made = copy_fine flags.Clear g is (fd_answer answer made)
      by false true made = copy_fine flags.Set g is (fd_answer answer made)
      by false false made = tt

  to_number_fine : (itself : Op) (flag : OnExec) (g h : ℕ) → ClosedOp itself → IsFd g → MadeFd answer
      → FineTouch Every f (on_made answer (copied_to itself flag g h me) me p f)
  to_number_fine itself flag g h closed is made =
      made_fine Every me p f answer _ made (copied_to_fine Every me p f itself flag g h closed is)

  dup_fine : (command : DupCommand) (g h : ℕ) → IsFd g → MadeFd answer
      → FineTouch Every f (on_made answer (fcntl_copied_to command g h me) me p f)
  dup_fine FDup2fd g h is made = to_number_fine copy_to_itself flags.Clear g h (tt, tt, tt, tt, tt) is made
  dup_fine FDup2fdCloexec g h is made = to_number_fine (derive flags.Unsure) flags.Set g h (tt, tt, tt, tt, tt) is made

  set_fd_closed : (names : List ℕ) → ClosedOp (set_fd_op names)
  set_fd_closed names = by (all_known plain_fd_flags names)
    where
      by : (b : Bool) → ClosedOp (if b then set_flag (fd_flag names) else narrow_and_set_flag (fd_flag names))
      by true = (tt, tt, tt, tt, tt)
      by false = (tt, tt, by_name_closed, by_name_closed, by_name_closed)

  limit_closed : (asked : ℕ) → IsClosed asked → ClosedOp (limit asked)
  limit_closed asked is = (without_full_closed asked is, without_full_closed asked is, is, is, is)

  path_fine : (profile : Profile) (call : PathCall)
      → (((n : ℕ) → path_touch profile call answer me p n ≡ kept → ⊥) → Every)
      → FineTouch Every f (path_touch profile call answer me p f)
  path_fine profile Execve every = exec_fine Every me p f profile answer every
  path_fine profile _ every = tt

  from_cwd : (flag : OnExec) (path : List ℕ) → IsFd f
      → FineTouch Every f (if not (is_empty path) then whole flag else unknown)
  from_cwd flag path is = if_fine Every me p f (not (is_empty path)) (whole flag) unknown
      (λ _. whole_fine Every me p f flag is) (nothing_fine Every me p f)

  opened_fine : (flag : OnExec) (b : Bool) (dir : Dir) (path : List ℕ) → ((g : ℕ) → dir_names g dir ≡ true → IsFd g)
      → IsFd f → FineTouch Every f (opened_below (if b then None else dir_fd dir) dir path flag me)
  opened_fine flag true (dirs.Fd g) path are is = nothing_fine Every me p f
  opened_fine flag true dirs.Cwd path are is = from_cwd flag path is
  opened_fine flag false (dirs.Fd g) path are is = copied_fine Every me p f flag g (are g (itself g)) is
    where
      itself : (n : ℕ) → (n == n) ≡ true
      itself n = eq-eqb n n refl
  opened_fine flag false dirs.Cwd path are is = from_cwd flag path is

  at_fine : (call : AtFlagsCall) (dir : Dir) (path names : List ℕ) → ((g : ℕ) → dir_names g dir ≡ true → IsFd g)
      → IsAnswer (kind_of (calls.AtFlags call dir path names)) answer
      → FineTouch Every f (at_touch call dir path names answer me p f)
  at_fine Openat dir path names are made =
      made_fine Every me p f answer (opened_below (below dir path) dir path (open_flag names) me)
      (fd_answer answer made)
      (opened_fine (open_flag names) (is_empty path || is_absolute path) dir path are)
  at_fine _ dir path names are made = tt

  flags_fine : (call : FlagsCall) (names : List ℕ) → IsAnswer (kind_of (calls.OnFlags call names)) answer
      → FineTouch Every f (flags_touch call names answer me p f)
  flags_fine Socket names made = new_fine (socket_flag names) (fd_answer answer made)
  flags_fine Socketpair names made = pair_fine (socket_flag names) (pair_answer answer made)
  flags_fine Pipe2 names made = pair_fine (open_flag names) (pair_answer answer made)

  bare_fine : (call : BareCall) → IsAnswer (kind_of (calls.Bare call)) answer
      → (((n : ℕ) → bare_touch call answer me p n ≡ kept → ⊥) → Every)
      → FineTouch Every f (bare_touch call answer me p f)
  bare_fine Pipe made every = pair_fine flags.Clear (pair_answer answer made)
  bare_fine Kqueue made every = unknown_fine (fd_answer answer made)
  bare_fine ShmOpen made every = unknown_fine (fd_answer answer made)
  bare_fine MqOpen made every = unknown_fine (fd_answer answer made)
  bare_fine Fhopen made every = unknown_fine (fd_answer answer made)
  bare_fine Fork made every = fork_fine Every me p f answer every
  bare_fine Vfork made every = fork_fine Every me p f answer every
  bare_fine Pdfork made every = pdfork_fine Every me p f answer every
  bare_fine CapEnter made every = tt

  dir_within : (dir : Dir) → FineArg (a_dir dir) → (g : ℕ) → dir_names g dir ≡ true → IsFd g
  dir_within (dirs.Fd h) is g same = same_fd g h same is
  dir_within dirs.Cwd is g same = absurd (cc)

  call_fine : (profile : Profile) (call : Call) → FineArgs (args_of_call call) → IsAnswer (kind_of call) answer
      → (((n : ℕ) → call_touch profile call answer me p n ≡ kept → ⊥) → Every)
      → FineTouch Every f (call_touch profile call answer me p f)
  call_fine profile (calls.OnFd call g) args made every = fd_call_fine profile call g args.0 made every
  call_fine profile (calls.Accept4 g names) args made every = unknown_fine (fd_answer answer made)
  call_fine profile (calls.Dup2 g h) args made every =
      to_number_fine copy_to_itself flags.Clear g h (tt, tt, tt, tt, tt) args.0 (same_answer h answer made)
  call_fine profile (calls.Fcntl g command) args made every = fcntl_fine command g args.0 made
  call_fine profile (calls.FcntlDup command g h) args made every =
      dup_fine command g h args.0 (same_answer h answer made)
  call_fine profile (calls.FcntlSetFd g names) args made every =
      success_fine Every me p f g answer (set_fd_op names) args.0 (set_fd_closed names)
  call_fine profile (calls.RightsLimit g asked) args made every =
      success_fine Every me p f g answer (limit asked) args.0 (limit_closed asked args.1.0)
  call_fine profile (calls.Open path names) args made every = new_fine (open_flag names) (fd_answer answer made)
  call_fine profile (calls.OnPath call path) args made every = path_fine profile call every
  call_fine profile (calls.AtFlags call dir path names) args made every =
      at_fine call dir path names (dir_within dir args.0) made
  call_fine profile (calls.OnFlags call names) args made every = flags_fine call names made
  call_fine profile (calls.Bare call) args made every = bare_fine call made every
  call_fine profile _ args made every = tt

item_fine : (Every : Type 0) (profile : Profile) (item : Item) (me p f : ℕ) → FineArgs (args_of item) → IsWhole item
    → (((n : ℕ) → item_touch profile item me p n ≡ kept → ⊥) → Every)
    → FineTouch Every f (item_touch profile item me p f)
item_fine Every profile (items.Start fs) me p f args made every =
    if_fine Every me p f (p == me) (given (started fs f)) kept (λ _. start_fine Every me p f fs args) tt
item_fine Every profile items.Exit me p f args made every =
    if_fine Every me p f (p == me) (given Unknown) kept (λ _. nothing_fine Every me p f) tt
item_fine Every profile (items.Foreign g) me p f args made every =
    fd_fine Every me p f g (given Unknown) args.0 (λ _. nothing_fine Every me p f)
item_fine Every profile (items.Needs marker g rights) me p f args made every = tt
item_fine Every profile items.Global me p f args made every = tt
item_fine Every profile (items.Call call answer) me p f args made every =
    call_fine Every answer me p f profile call args made every

-- no descriptor of the process is kept by the step
abbrev pub KeepsNone : Step → ℕ → Type 0
KeepsNone step p = (n : ℕ) → touch step p n ≡ kept → ⊥

pub touch_fine : (step : Step) (p f : ℕ) → FineLine step.line → FineTouch (KeepsNone step p) f (touch step p f)
touch_fine step p f fine = item_fine (KeepsNone step p) step.profile step.line.item step.line.pid p f fine.args
    fine.whole (λ none. none)
