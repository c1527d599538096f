-- What profile 1 knows beside what profile 2 knows of the same trace.
use Rattle.std.proofs.Common.{◌≡◌, ℕ, ◌==◌, Bool, true, false, ◌&&◌, ◌||◌, not, if◌then◌else◌, List, [], ◌∷◌, ◌++◌, map}
use Rattle.std.proofs.Common.{Option, Some, None, refl, sym, ap, ◌∙◌}
use Rattle.std.specs.Prelude.{codes}
use Rattle.std.specs.Str.{bytes_eq}
use Rattle.cap_rights.specs.Rights.{all, named as all_named, has_all, none, without_full}
use Rattle.cap_trace.specs.Item.{Item}
use Rattle.cap_trace.specs.Item as items
use Rattle.cap_trace.specs.Call.{Call}
use Rattle.cap_trace.specs.Call as calls
use Rattle.cap_trace.specs.declared.line.Dir.{Dir}
use Rattle.cap_trace.specs.declared.line.Answer.{Answer}
use Rattle.cap_trace.specs.declared.line.Answer.TheVariants as answers
use Rattle.cap_trace.specs.declared.calls.FdCall.{FdCall}
use Rattle.cap_trace.specs.declared.calls.FdCall.TheVariants.{Accept, Fexecve, Close, Closefrom, Dup, CapIoctlsLimit}
use Rattle.cap_trace.specs.declared.calls.FdCall.TheVariants.{CapFcntlsLimit}
use Rattle.cap_trace.specs.declared.calls.PathCall.{PathCall}
use Rattle.cap_trace.specs.declared.calls.PathCall.TheVariants.{Execve}
use Rattle.cap_trace.specs.declared.calls.AtFlagsCall.{AtFlagsCall}
use Rattle.cap_trace.specs.declared.calls.AtFlagsCall.TheVariants.{Openat}
use Rattle.cap_trace.specs.declared.calls.FlagsCall.{FlagsCall}
use Rattle.cap_trace.specs.declared.calls.FlagsCall.TheVariants.{Socket, Socketpair, Pipe2}
use Rattle.cap_trace.specs.declared.calls.BareCall.{BareCall}
use Rattle.cap_trace.specs.declared.calls.BareCall.TheVariants.{Pipe, Kqueue, ShmOpen, MqOpen, Fhopen, Fork, Vfork}
use Rattle.cap_trace.specs.declared.calls.BareCall.TheVariants.{Pdfork, CapEnter}
use Rattle.cap_trace.specs.declared.calls.DupCommand.{DupCommand}
use Rattle.cap_trace.specs.declared.calls.DupCommand.TheVariants.{FDup2fd, FDup2fdCloexec}
use Rattle.cap_machine.specs.declared.cell.Cell.{Cell}
use Rattle.cap_machine.specs.declared.cell.Cell.TheVariants.{Unknown, Closed, Held}
use Rattle.cap_machine.specs.declared.cell.OnExec.{OnExec}
use Rattle.cap_machine.specs.declared.cell.OnExec.TheVariants as flags
use Rattle.cap_machine.specs.declared.cell.HeldOp.TheVariants.{Keeps}
use Rattle.cap_machine.specs.declared.cell.Op.{Op}
use Rattle.cap_machine.specs.declared.cell.Mode.{Mode}
use Rattle.cap_machine.specs.declared.cell.Profile.TheVariants.{One, Two}
use Rattle.cap_machine.specs.declared.rule.Check.{Check}
use Rattle.cap_machine.specs.declared.rule.LimitWord.{LimitWord}
use Rattle.cap_machine.specs.declared.rule.LimitWord.TheVariants.{Expanded}
use Rattle.cap_machine.specs.declared.verdict.Finding.{Finding}
use Rattle.cap_machine.specs.Op.{applied, same, derive, copy_to_itself, limit, narrow, set_flag, narrow_and_set_flag}
use Rattle.cap_machine.specs.Flags.{all_known}
use Rattle.cap_machine.specs.Places.{below, is_cwd, is_empty}
use Rattle.cap_machine.specs.Errno.{ebadf}
use Rattle.cap_machine.specs.Touch.{Touch, kept, given, taken, started, succeeded, on_fd, on_success, on_made, on_both}
use Rattle.cap_machine.specs.Touch.{closing, whole, copied, copied_to, unknown, left_by_exec, exec_touch}
use Rattle.cap_machine.specs.Touch.{closefrom_touch, open_flag, socket_flag, fd_flag, fd_touch, fcntl_touch}
use Rattle.cap_machine.specs.Touch.{fcntl_copied_to, plain_fd_flags, set_fd_op, path_touch, opened_below, at_touch}
use Rattle.cap_machine.specs.Touch.{flags_touch, fork_touch, pdfork_touch, bare_touch, call_touch, item_touch}
use Rattle.cap_machine.specs.History.{touched}
use Rattle.cap_machine.specs.Judge.{listed, fault, judged}
use Rattle.cap_machine.specs.Rule.{limit_requirement, call_requirement, item_requirement, check_of}
use Rattle.cap_machine.specs.ProfileLaws.{is_closefrom, item_did}
use Rattle.cap_machine.proofs.Rights.{IsFewer, few_same, few_masked, few_limited}

-- profile 1 knows nothing of the cell, or the same but for FULL and the flag
abbrev pub Under : Cell → Cell → Type 0
Under Unknown c = Unit {0}
Under Closed Unknown = ⊥
Under Closed Closed = Unit {0}
Under Closed (Held t y) = ⊥
Under (Held s x) Unknown = ⊥
Under (Held s x) Closed = ⊥
Under (Held s x) (Held t y) = IsFewer s t

pub under_same : (c : Cell) → Under c c
under_same (Held s x) = few_same s
under_same _ = tt

-- ---- ops

-- an op that leaves a held cell held
abbrev keeping_held : Cell → Option ℕ → OnExec → OnExec → OnExec → Op
keeping_held shut mask a b d = record {
  unknown = Unknown;
  closed = shut;
  set = Keeps mask a;
  clear = Keeps mask b;
  unsure = Keeps mask d;
}

held_under : (shut : Cell) (mask : Option ℕ) (a b d x y : OnExec) (s t : ℕ) → IsFewer s t
    → Under (applied (keeping_held shut mask a b d) (Held s x)) (applied (keeping_held shut mask a b d) (Held t y))
held_under shut mask a b d flags.Set flags.Set s t fewer = few_masked mask s t fewer
held_under shut mask a b d flags.Set flags.Clear s t fewer = few_masked mask s t fewer
held_under shut mask a b d flags.Set flags.Unsure s t fewer = few_masked mask s t fewer
held_under shut mask a b d flags.Clear flags.Set s t fewer = few_masked mask s t fewer
held_under shut mask a b d flags.Clear flags.Clear s t fewer = few_masked mask s t fewer
held_under shut mask a b d flags.Clear flags.Unsure s t fewer = few_masked mask s t fewer
held_under shut mask a b d flags.Unsure flags.Set s t fewer = few_masked mask s t fewer
held_under shut mask a b d flags.Unsure flags.Clear s t fewer = few_masked mask s t fewer
held_under shut mask a b d flags.Unsure flags.Unsure s t fewer = few_masked mask s t fewer

op_under : (shut : Cell) (mask : Option ℕ) (a b d : OnExec) (c e : Cell) → Under c e
    → Under (applied (keeping_held shut mask a b d) c) (applied (keeping_held shut mask a b d) e)
op_under shut mask a b d Unknown e u = tt
op_under shut mask a b d Closed Closed u = under_same shut
op_under shut mask a b d (Held s x) (Held t y) u = held_under shut mask a b d x y s t u
op_under shut mask a b d _ _ u = absurd u

-- of nothing each part is nothing
pub none_of : {X : Type 0} (xs ys : List X) → xs ++ ys ≡ [] → (xs ≡ []) × (ys ≡ [])
none_of [] ys none = (refl, none)
none_of (x ∷ xs) ys none = absurd (cc)

ended_by : {X : Type 0} (xs : List X) → xs ++ [] ≡ [] → xs ≡ []
ended_by xs none = (none_of xs [] none).0

-- a check of profile 2 that says nothing has the rights
pub has_of_quiet : (b : Bool) (x : Finding) → (if b then [] else x ∷ []) ≡ [] → b ≡ true
has_of_quiet true x quiet = refl
has_of_quiet false x quiet = cc

pub quiet_of_has : (b : Bool) (x : Finding) → b ≡ true → (if b then [] else x ∷ []) ≡ []
quiet_of_has true x is = refl
quiet_of_has false x is = cc

-- a limit that succeeded where nothing was found in profile 2
limit_held : (asked : ℕ) (word : LimitWord) (check : Check) (x y : OnExec) (s t : ℕ) → IsFewer s t
    → Under (applied (limit asked) (Held s x)) (applied (limit asked) (Held t y))
limit_held asked word check x y s t fewer =
    held_under (Held (without_full asked) flags.Unsure) (Some asked) flags.Set flags.Clear flags.Unsure x y s t fewer

limit_unknown : (asked t : ℕ) (y : OnExec) → has_all t (without_full asked) ≡ true
    → Under (applied (limit asked) Unknown) (applied (limit asked) (Held t y))
limit_unknown asked t flags.Set has = few_limited asked t has
limit_unknown asked t flags.Clear has = few_limited asked t has
limit_unknown asked t flags.Unsure has = few_limited asked t has

limit_under : (asked : ℕ) (word : LimitWord) (check : Check) (c e : Cell) → check.needs ≡ without_full asked
    → fault word check e ≡ [] → Under c e → Under (applied (limit asked) c) (applied (limit asked) e)
limit_under asked word check Unknown Unknown needs quiet u = few_same (without_full asked)
limit_under asked word check Unknown Closed needs quiet u = few_same (without_full asked)
limit_under asked word check Unknown (Held t y) needs quiet u =
    limit_unknown asked t y (ap (has_all t) (sym needs) ∙ has_of_quiet (has_all t check.needs) _ quiet)
limit_under asked word check Closed Closed needs quiet u = few_same (without_full asked)
limit_under asked word check (Held s x) (Held t y) needs quiet u = limit_held asked word check x y s t u
limit_under asked word check _ _ needs quiet u = absurd u

-- ---- what a line does

module _ (one two : ℕ → ℕ → Cell) (under : (p f : ℕ) → Under (one p f) (two p f)) where
  -- a touch of each profile leaves such cells
  abbrev Fit : Touch → Touch → Type 0
  Fit t u = (p f : ℕ) → Under (touched t one p f) (touched u two p f)

  kept_fit : Fit kept kept
  kept_fit p f = under p f

  given_fit : (c : Cell) → Fit (given c) (given c)
  given_fit c p f = under_same c

  whole_fit : (flag : OnExec) → Fit (whole flag) (whole flag)
  whole_fit flag p f = few_same all

  forgot_fit : (t : Touch) → Fit (given Unknown) t
  forgot_fit t p f = tt

  taken_fit : (shut : Cell) (mask : Option ℕ) (a b d : OnExec) (q g : ℕ)
      → Fit (taken (keeping_held shut mask a b d) q g) (taken (keeping_held shut mask a b d) q g)
  taken_fit shut mask a b d q g p f = op_under shut mask a b d (one q g) (two q g) (under q g)

  unless : (b : Bool) (t u : Touch) → Fit t u → Fit (if b then t else kept) (if b then u else kept)
  unless true t u fit = fit
  unless false t u fit = kept_fit

  choose : (b : Bool) (t u : Touch) → Fit t t → Fit u u → Fit (if b then t else u) (if b then t else u)
  choose true t u first second = first
  choose false t u first second = second

  -- a line does to a cell the same in both profiles, and it fits
  abbrev Fits : (ℕ → ℕ → ℕ → Touch) → (ℕ → ℕ → ℕ → Touch) → Type 0
  Fits a b = (me p f : ℕ) → Under (touched (a me p f) one p f) (touched (b me p f) two p f)

  on_fd_fits : (g : ℕ) (t : Touch) → Fit t t → Fits (on_fd g t) (on_fd g t)
  on_fd_fits g t fit me p f = unless (p == me && f == g) t t fit p f

  on_success_fits : (g : ℕ) (answer : Answer) (t : ℕ → Touch) → ((me : ℕ) → Fit (t me) (t me))
      → Fits (λ me. on_success g answer (t me) me) (λ me. on_success g answer (t me) me)
  on_success_fits g answer t fit me p f = unless (succeeded answer) (on_fd g (t me) me p f) (on_fd g (t me) me p f)
      (λ q h. unless (p == me && f == g) (t me) (t me) (fit me) q h) p f

  on_made_fits : (answer : Answer) (t : ℕ → Touch) → ((me : ℕ) → Fit (t me) (t me))
      → Fits (λ me. on_made answer (t me) me) (λ me. on_made answer (t me) me)
  on_made_fits (answers.Made d) t fit me p f = on_fd_fits d (t me) (fit me) me p f
  on_made_fits (answers.Pair d e) t fit me p f = kept_fit p f
  on_made_fits (answers.Fault e) t fit me p f = kept_fit p f

  on_both_fits : (answer : Answer) (t : Touch) → Fit t t → Fits (on_both answer t) (on_both answer t)
  on_both_fits (answers.Made d) t fit me p f = kept_fit p f
  on_both_fits (answers.Pair d e) t fit me p f = unless (p == me && (f == d || f == e)) t t fit p f
  on_both_fits (answers.Fault e) t fit me p f = kept_fit p f

  closing_fit : (answer : Answer) → Fit (closing answer) (closing answer)
  closing_fit (answers.Made d) = given_fit Closed
  closing_fit (answers.Pair d e) = given_fit Closed
  closing_fit (answers.Fault e) = choose (e == ebadf) kept (given Unknown) kept_fit (given_fit Unknown)

  derived_fit : (flag : OnExec) (g me : ℕ) → Fit (copied flag g me) (copied flag g me)
  derived_fit flag g me = taken_fit Unknown None flag flag flag me g

  itself_fit : (g me : ℕ) → Fit (taken copy_to_itself me g) (taken copy_to_itself me g)
  itself_fit g me = taken_fit Unknown None flags.Set flags.Clear flags.Unsure me g

  narrow_fit : (g me : ℕ) → Fit (taken narrow me g) (taken narrow me g)
  narrow_fit g me = taken_fit Unknown (Some all_named) flags.Set flags.Clear flags.Unsure me g

  dup2_fit : (g h me : ℕ)
      → Fit (copied_to copy_to_itself flags.Clear g h me) (copied_to copy_to_itself flags.Clear g h me)
  dup2_fit g h me = pick (g == h)
    where
      pick : (b : Bool) → Fit (taken (if b then copy_to_itself else derive flags.Clear) me g)
          (taken (if b then copy_to_itself else derive flags.Clear) me g)
      pick true = itself_fit g me
      pick false = derived_fit flags.Clear g me

  dup_command_fit : (command : DupCommand) (g h me : ℕ)
      → Fit (fcntl_copied_to command g h me) (fcntl_copied_to command g h me)
  dup_command_fit FDup2fd g h me = dup2_fit g h me
  dup_command_fit FDup2fdCloexec g h me = pick (g == h)
    where
      pick : (b : Bool) → Fit (taken (if b then derive flags.Unsure else derive flags.Set) me g)
          (taken (if b then derive flags.Unsure else derive flags.Set) me g)
      pick true = derived_fit flags.Unsure g me
      pick false = derived_fit flags.Set g me

  set_fd_fit : (names : List ℕ) (g me : ℕ) → Fit (taken (set_fd_op names) me g) (taken (set_fd_op names) me g)
  set_fd_fit names g me = pick (all_known plain_fd_flags names)
    where
      pick : (b : Bool) → Fit (taken (if b then set_flag (fd_flag names) else narrow_and_set_flag (fd_flag names)) me g)
          (taken (if b then set_flag (fd_flag names) else narrow_and_set_flag (fd_flag names)) me g)
      pick true = taken_fit Closed None (fd_flag names) (fd_flag names) (fd_flag names) me g
      pick false = taken_fit Unknown (Some all_named) (fd_flag names) (fd_flag names) (fd_flag names) me g

  forked_fit : (me f : ℕ) → Fit (taken same me f) (taken same me f)
  forked_fit me f = taken_fit Closed None flags.Set flags.Clear flags.Unsure me f

  exec_fits : (answer : Answer) → Fits (exec_touch One answer) (exec_touch Two answer)
  exec_fits answer me p f = unless (succeeded answer && p == me) (given Unknown) (left_by_exec Two me f)
      (forgot_fit (left_by_exec Two me f)) p f

  -- ---- each form of call

  closefrom_fits : (answer : Answer) (g : ℕ) → succeeded answer ≡ false
      → Fits (closefrom_touch One g answer) (closefrom_touch Two g answer)
  closefrom_fits (answers.Fault e) g failed me p f = kept_fit p f
  closefrom_fits _ g failed me p f = absurd (cc)

  fd_fits : (call : FdCall) (g : ℕ) (answer : Answer) → (is_closefrom (calls.OnFd call g) && succeeded answer) ≡ false
      → Fits (fd_touch One call g answer) (fd_touch Two call g answer)
  fd_fits Close g answer never me p f = on_fd_fits g (closing answer) (closing_fit answer) me p f
  fd_fits Closefrom g answer never me p f = closefrom_fits answer g never me p f
  fd_fits Dup g answer never me p f = on_made_fits answer (copied flags.Clear g) (derived_fit flags.Clear g) me p f
  fd_fits Accept g answer never me p f = on_made_fits answer (λ me. unknown) (λ me. given_fit Unknown) me p f
  fd_fits Fexecve g answer never me p f = exec_fits answer me p f
  fd_fits CapIoctlsLimit g answer never me p f =
      on_success_fits g answer (λ me. taken narrow me g) (narrow_fit g) me p f
  fd_fits CapFcntlsLimit g answer never me p f =
      on_success_fits g answer (λ me. taken narrow me g) (narrow_fit g) me p f
  fd_fits _ g answer never me p f = kept_fit p f

  copied_fits : (flag : OnExec) (g : ℕ) (answer : Answer) (me p f : ℕ)
      → Fit (on_made answer (copied flag g me) me p f) (on_made answer (copied flag g me) me p f)
  copied_fits flag g (answers.Made d) me p f =
      unless (p == me && f == d) (copied flag g me) (copied flag g me) (derived_fit flag g me)
  copied_fits flag g (answers.Pair d e) me p f = kept_fit
  copied_fits flag g (answers.Fault e) me p f = kept_fit

  fcntl_fits : (command : List ℕ) (g : ℕ) (answer : Answer)
      → Fits (fcntl_touch command g answer) (fcntl_touch command g answer)
  fcntl_fits command g answer me p f =
      let plain = on_made answer (copied flags.Clear g me) me p f in
      let marked = on_made answer (copied flags.Set g me) me p f in
      let is_marked = bytes_eq command (codes "F_DUPFD_CLOEXEC") in
      choose (bytes_eq command (codes "F_DUPFD")) plain (if is_marked then marked else kept)
      (copied_fits flags.Clear g answer me p f)
      (choose is_marked marked kept (copied_fits flags.Set g answer me p f) kept_fit) p f

  path_fits : (call : PathCall) (answer : Answer) → Fits (path_touch One call answer) (path_touch Two call answer)
  path_fits Execve answer me p f = exec_fits answer me p f
  path_fits _ answer me p f = kept_fit p f

  opened_fit : (g : Option ℕ) (dir : Dir) (path : List ℕ) (flag : OnExec) (me : ℕ)
      → Fit (opened_below g dir path flag me) (opened_below g dir path flag me)
  opened_fit (Some g) dir path flag me = derived_fit flag g me
  opened_fit None dir path flag me =
      choose (is_cwd dir && not (is_empty path)) (whole flag) unknown (whole_fit flag) (given_fit Unknown)

  at_fits : (call : AtFlagsCall) (dir : Dir) (path names : List ℕ) (answer : Answer)
      → Fits (at_touch call dir path names answer) (at_touch call dir path names answer)
  at_fits Openat dir path names answer me p f =
      on_made_fits answer (opened_below (below dir path) dir path (open_flag names))
      (opened_fit (below dir path) dir path (open_flag names)) me p f
  at_fits _ dir path names answer me p f = kept_fit p f

  flags_fits : (call : FlagsCall) (names : List ℕ) (answer : Answer)
      → Fits (flags_touch call names answer) (flags_touch call names answer)
  flags_fits Socket names answer me p f =
      on_made_fits answer (λ me. whole (socket_flag names)) (λ me. whole_fit (socket_flag names)) me p f
  flags_fits Socketpair names answer me p f =
      on_both_fits answer (whole (socket_flag names)) (whole_fit (socket_flag names)) me p f
  flags_fits Pipe2 names answer me p f =
      on_both_fits answer (whole (open_flag names)) (whole_fit (open_flag names)) me p f

  fork_fits : (answer : Answer) → Fits (fork_touch answer) (fork_touch answer)
  fork_fits (answers.Made c) me p f =
      unless (not (c == 0) && p == c) (taken same me f) (taken same me f) (forked_fit me f) p f
  fork_fits (answers.Pair c d) me p f = kept_fit p f
  fork_fits (answers.Fault e) me p f = kept_fit p f

  pdfork_fits : (answer : Answer) → Fits (pdfork_touch answer) (pdfork_touch answer)
  pdfork_fits (answers.Pair c d) me p f =
      choose (c == 0) kept _ kept_fit
      (choose ((p == me || p == c) && f == d) (given Unknown) _ (given_fit Unknown)
      (choose (p == c) (taken same me f) kept (forked_fit me f) kept_fit)) p f
  pdfork_fits (answers.Made c) me p f = kept_fit p f
  pdfork_fits (answers.Fault e) me p f = kept_fit p f

  bare_fits : (call : BareCall) (answer : Answer) → Fits (bare_touch call answer) (bare_touch call answer)
  bare_fits Pipe answer me p f = on_both_fits answer (whole flags.Clear) (whole_fit flags.Clear) me p f
  bare_fits Kqueue answer me p f = on_made_fits answer (λ me. unknown) (λ me. given_fit Unknown) me p f
  bare_fits ShmOpen answer me p f = on_made_fits answer (λ me. unknown) (λ me. given_fit Unknown) me p f
  bare_fits MqOpen answer me p f = on_made_fits answer (λ me. unknown) (λ me. given_fit Unknown) me p f
  bare_fits Fhopen answer me p f = on_made_fits answer (λ me. unknown) (λ me. given_fit Unknown) me p f
  bare_fits Fork answer me p f = fork_fits answer me p f
  bare_fits Vfork answer me p f = fork_fits answer me p f
  bare_fits Pdfork answer me p f = pdfork_fits answer me p f
  bare_fits CapEnter answer me p f = kept_fit p f

  -- a limit that succeeded, where nothing was found in profile 2
  limit_fits : (g asked : ℕ) (answer : Answer) (m : Mode) (me : ℕ)
      → judged (limit_requirement g asked answer) m (two me g ∷ []) ≡ []
      → (p f : ℕ) → Under (touched (on_success g answer (taken (limit asked) me g) me p f) one p f)
      (touched (on_success g answer (taken (limit asked) me g) me p f) two p f)
  limit_fits g asked (answers.Fault e) m me quiet p f = kept_fit p f
  limit_fits g asked (answers.Made n) m me quiet p f =
      unless (p == me && f == g) (taken (limit asked) me g) (taken (limit asked) me g)
      (λ q h. limit_under asked Expanded (check_of g (without_full asked) (Some asked)) (one me g) (two me g) refl
      (ended_by (fault Expanded (check_of g (without_full asked) (Some asked)) (two me g)) quiet) (under me g)) p f
  limit_fits g asked (answers.Pair n k) m me quiet p f =
      unless (p == me && f == g) (taken (limit asked) me g) (taken (limit asked) me g)
      (λ q h. limit_under asked Expanded (check_of g (without_full asked) (Some asked)) (one me g) (two me g) refl
      (ended_by (fault Expanded (check_of g (without_full asked) (Some asked)) (two me g)) quiet) (under me g)) p f

  -- of a call that isn't a closefrom that succeeded, where nothing was found in profile 2
  call_fits : (call : Call) (answer : Answer) (m : Mode) (me : ℕ) → (is_closefrom call && succeeded answer) ≡ false
      → judged (call_requirement call answer) m
      (map (λ (check : Check). two me check.fd) (listed (call_requirement call answer).checks)) ≡ []
      → (p f : ℕ) → Under (touched (call_touch One call answer me p f) one p f)
      (touched (call_touch Two call answer me p f) two p f)
  call_fits (calls.OnFd call g) answer m me never quiet p f = fd_fits call g answer never me p f
  call_fits (calls.Accept4 g names) answer m me never quiet p f =
      on_made_fits answer (λ me. unknown) (λ me. given_fit Unknown) me p f
  call_fits (calls.Dup2 g h) answer m me never quiet p f =
      on_made_fits answer (copied_to copy_to_itself flags.Clear g h) (dup2_fit g h) me p f
  call_fits (calls.Fcntl g command) answer m me never quiet p f = fcntl_fits command g answer me p f
  call_fits (calls.FcntlDup command g h) answer m me never quiet p f =
      on_made_fits answer (fcntl_copied_to command g h) (dup_command_fit command g h) me p f
  call_fits (calls.FcntlSetFd g names) answer m me never quiet p f =
      on_success_fits g answer (λ me. taken (set_fd_op names) me g) (set_fd_fit names g) me p f
  call_fits (calls.RightsLimit g asked) answer m me never quiet p f = limit_fits g asked answer m me quiet p f
  call_fits (calls.Open path names) answer m me never quiet p f =
      on_made_fits answer (λ me. whole (open_flag names)) (λ me. whole_fit (open_flag names)) me p f
  call_fits (calls.OnPath call path) answer m me never quiet p f = path_fits call answer me p f
  call_fits (calls.AtFlags call dir path names) answer m me never quiet p f = at_fits call dir path names answer me p f
  call_fits (calls.OnFlags call names) answer m me never quiet p f = flags_fits call names answer me p f
  call_fits (calls.Bare call) answer m me never quiet p f = bare_fits call answer me p f
  call_fits _ answer m me never quiet p f = kept_fit p f

  pub item_fits : (item : Item) (m : Mode) (me : ℕ) → item_did is_closefrom item ≡ false
      → judged (item_requirement item) m
      (map (λ (check : Check). two me check.fd) (listed (item_requirement item).checks)) ≡ []
      → (p f : ℕ) → Under (touched (item_touch One item me p f) one p f) (touched (item_touch Two item me p f) two p f)
  item_fits (items.Call call answer) m me never quiet p f = call_fits call answer m me never quiet p f
  item_fits (items.Start fds) m me never quiet p f =
      unless (p == me) (given (started fds f)) (given (started fds f)) (given_fit (started fds f)) p f
  item_fits items.Exit m me never quiet p f = unless (p == me) (given Unknown) (given Unknown) (given_fit Unknown) p f
  item_fits (items.Foreign g) m me never quiet p f = on_fd_fits g (given Unknown) (given_fit Unknown) me p f
  item_fits (items.Needs marker g rights) m me never quiet p f = kept_fit p f
  item_fits items.Global m me never quiet p f = kept_fit p f
