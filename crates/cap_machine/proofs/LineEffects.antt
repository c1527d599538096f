-- What a line does to the cells is what one effect does, which names only what the line names.
use Rattle.std.proofs.Common.{◌≡◌, ℕ, ◌==◌, ◌&&◌, ◌||◌, not, Bool, true, false, if◌then◌else◌, List, None}
use Rattle.std.proofs.Common.{refl, eq-eqb}
use Rattle.std.specs.List.{list_any}
use Rattle.std.specs.Prelude.{codes}
use Rattle.std.specs.Str.{bytes_eq}
use Rattle.std.proofs.lemmas.Bool.{or_left, or_right}
use Rattle.cap_rights.specs.Rights.{all}
use Rattle.cap_trace.specs.Item.{Item}
use Rattle.cap_trace.specs.Item as items
use Rattle.cap_trace.specs.Call.{Call}
use Rattle.cap_trace.specs.Call as calls
use Rattle.cap_trace.specs.declared.line.Dir.{Dir}
use Rattle.cap_trace.specs.declared.line.Dir.TheVariants as dirs
use Rattle.cap_trace.specs.declared.line.Answer.{Answer}
use Rattle.cap_trace.specs.declared.line.Answer.TheVariants as answers
use Rattle.cap_trace.specs.declared.calls.DupCommand.{DupCommand}
use Rattle.cap_trace.specs.declared.calls.DupCommand.TheVariants.{FDup2fd, FDup2fdCloexec}
use Rattle.cap_trace.specs.declared.calls.FdCall.{FdCall}
use Rattle.cap_trace.specs.declared.calls.FdCall.TheVariants.{Accept, Fexecve, Close, Closefrom, Dup, CapIoctlsLimit}
use Rattle.cap_trace.specs.declared.calls.FdCall.TheVariants.{CapFcntlsLimit}
use Rattle.cap_trace.specs.declared.calls.PathCall.TheVariants.{Execve}
use Rattle.cap_trace.specs.declared.calls.AtFlagsCall.{AtFlagsCall}
use Rattle.cap_trace.specs.declared.calls.AtFlagsCall.TheVariants.{Openat}
use Rattle.cap_trace.specs.declared.calls.FlagsCall.{FlagsCall}
use Rattle.cap_trace.specs.declared.calls.FlagsCall.TheVariants.{Socket, Socketpair, Pipe2}
use Rattle.cap_trace.specs.declared.calls.BareCall.{BareCall}
use Rattle.cap_trace.specs.declared.calls.BareCall.TheVariants.{Pipe, Kqueue, ShmOpen, MqOpen, Fhopen, Fork, Vfork}
use Rattle.cap_trace.specs.declared.calls.BareCall.TheVariants.{Pdfork, CapEnter}
use Rattle.cap_trace.specs.Entry.{args_of, args_of_call}
use Rattle.cap_machine.specs.declared.cell.Profile.{Profile}
use Rattle.cap_machine.specs.declared.cell.Profile.TheVariants.{One, Two}
use Rattle.cap_machine.specs.declared.cell.OnExec.{OnExec}
use Rattle.cap_machine.specs.declared.cell.Cell.{Cell}
use Rattle.cap_machine.specs.declared.cell.Cell.TheVariants.{Unknown, Closed, Held}
use Rattle.cap_machine.specs.declared.cell.Op.{Op}
use Rattle.cap_machine.specs.declared.rule.Effect.{Effect}
use Rattle.cap_machine.specs.declared.rule.Effect.TheVariants as effects
use Rattle.cap_machine.specs.Errno.{ebadf}
use Rattle.cap_machine.specs.Op.{same}
use Rattle.cap_machine.specs.Places.{is_cwd, is_empty, is_absolute, dir_fd}
use Rattle.cap_machine.specs.Touch.{Touch, kept, given, taken, on_fd, on_success, on_made, on_both, closing, exec_touch}
use Rattle.cap_machine.specs.Touch.{closefrom_touch, opened_below, open_flag, fd_touch, fcntl_touch, fcntl_copied_to}
use Rattle.cap_machine.specs.Touch.{at_touch, flags_touch, fork_touch, pdfork_touch, bare_touch, call_touch, item_touch}
use Rattle.cap_machine.specs.Effect.{effect_touch}
use Rattle.cap_machine.specs.Named.{dir_names, arg_names, answer_names, item_answer_names, is_fork, answer_makes}
use Rattle.cap_machine.specs.Named.{item_makes, is_whole_call, is_whole_item}
use Rattle.cap_machine.specs.Effect.{is_child}

pub itself : (f : ℕ) → (f == f) ≡ true
itself f = eq-eqb f f refl

-- the first argument
pub leading : (g : ℕ) (b : Bool) → (g == g || b) ≡ true
leading g b = or_left (g == g) b (itself g)

-- it is no start, and the descriptors that it has one by one are named
abbrev pub FdsNamed : (ℕ → Bool) → Effect → Type 0
FdsNamed named (effects.Start fs) = ⊥
FdsNamed named (effects.Give g c) = named g ≡ true
FdsNamed named (effects.GiveTwo g h c) = (named g ≡ true) × (named h ≡ true)
FdsNamed named (effects.Change g op h) = (named g ≡ true) × (named h ≡ true)
FdsNamed named (effects.ForkAs child g) = named g ≡ true
FdsNamed named _ = Unit {0}

-- it goes to such descriptors alone
abbrev pub IsSingle : Effect → Type 0
IsSingle effects.Keep = Unit {0}
IsSingle effects.Enter = Unit {0}
IsSingle (effects.Give g c) = Unit {0}
IsSingle (effects.GiveTwo g h c) = Unit {0}
IsSingle (effects.Change g op h) = Unit {0}
IsSingle _ = ⊥

-- These are the touches by an effect of process me, which names these descriptors, and makes no other processes than
-- these; unless the line may change every cell, it goes to single descriptors.
pub record IsDone (named makes : ℕ → Bool) (whole : Bool) (me : ℕ) (touches : ℕ → ℕ → Touch) : Type 0 where
  pub effect : Effect
  pub does : (p f : ℕ) → effect_touch effect me p f ≡ touches p f
  pub fds : FdsNamed named effect
  pub child : (p : ℕ) → is_child effect p ≡ true → makes p ≡ true
  pub single : whole ≡ false → IsSingle effect

both_kept : (b : Bool) → kept ≡ (if b then kept else kept)
both_kept true = refl
both_kept false = refl

module _ (args makes : ℕ → Bool) (whole : Bool) (me : ℕ) where
  abbrev Done : Answer → (ℕ → ℕ → Touch) → Type 0
  Done answer touches = IsDone (λ g. args g || answer_names g answer) makes whole me touches

  keeps : (answer : Answer) → Done answer (λ p f. kept)
  keeps answer = record {
    effect = effects.Keep;
    does = λ p f. refl;
    fds = tt;
    child = λ p is. absurd (cc);
    single = λ part. tt;
  }

  gives : (answer : Answer) (g : ℕ) (c : Cell) → (args g || answer_names g answer) ≡ true
      → Done answer (on_fd g (given c) me)
  gives answer g c is = record {
    effect = effects.Give g c;
    does = λ p f. refl;
    fds = is;
    child = λ p is. absurd (cc);
    single = λ part. tt;
  }

  changes : (answer : Answer) (g h : ℕ) (op : Op) → (args g || answer_names g answer) ≡ true → args h ≡ true
      → Done answer (on_fd g (taken op me h) me)
  changes answer g h op is from = record {
    effect = effects.Change g op h;
    does = λ p f. refl;
    fds = (is, or_left (args h) (answer_names h answer) from);
    child = λ p is. absurd (cc);
    single = λ part. tt;
  }

  made_given : (answer : Answer) (c : Cell) → Done answer (on_made answer (given c) me)
  made_given (answers.Made d) c = gives (answers.Made d) d c (or_right (args d) (d == d) (itself d))
  made_given (answers.Pair d e) c = keeps (answers.Pair d e)
  made_given (answers.Fault e) c = keeps (answers.Fault e)

  made_taken : (answer : Answer) (op : Op) (g : ℕ) → args g ≡ true → Done answer (on_made answer (taken op me g) me)
  made_taken (answers.Made d) op g is = changes (answers.Made d) d g op (or_right (args d) (d == d) (itself d)) is
  made_taken (answers.Pair d e) op g is = keeps (answers.Pair d e)
  made_taken (answers.Fault e) op g is = keeps (answers.Fault e)

  two_given : (answer : Answer) (c : Cell) → Done answer (on_both answer (given c) me)
  two_given (answers.Made d) c = keeps (answers.Made d)
  two_given (answers.Pair d e) c = record {
    effect = effects.GiveTwo d e c;
    does = λ p f. refl;
    fds = (or_right (args d) _ (leading d _), or_right (args e) _ (or_right (e == d) (e == e) (itself e)));
    child = λ p is. absurd (cc);
    single = λ part. tt;
  }
  two_given (answers.Fault e) c = keeps (answers.Fault e)

  changed : (answer : Answer) (g : ℕ) (op : Op) → args g ≡ true → Done answer (on_success g answer (taken op me g) me)
  changed (answers.Made d) g op is = changes (answers.Made d) g g op (or_left (args g) _ is) is
  changed (answers.Pair d e) g op is = changes (answers.Pair d e) g g op (or_left (args g) _ is) is
  changed (answers.Fault e) g op is = keeps (answers.Fault e)

  in_doubt : (answer : Answer) (g : ℕ) (b : Bool) → args g ≡ true
      → Done answer (on_fd g (if b then kept else given Unknown) me)
  in_doubt answer g true is = record {
    effect = effects.Keep;
    does = λ p f. both_kept (p == me && f == g);
    fds = tt;
    child = λ p is. absurd (cc);
    single = λ part. tt;
  }
  in_doubt answer g false is = gives answer g Unknown (or_left (args g) _ is)

  closes : (answer : Answer) (g : ℕ) → args g ≡ true → Done answer (on_fd g (closing answer) me)
  closes (answers.Made d) g is = gives (answers.Made d) g Closed (or_left (args g) _ is)
  closes (answers.Pair d e) g is = gives (answers.Pair d e) g Closed (or_left (args g) _ is)
  closes (answers.Fault e) g is = in_doubt (answers.Fault e) g (e == ebadf) is

  -- a line that may change every cell
  all_done : (answer : Answer) (effect : Effect) → whole ≡ true → FdsNamed (λ g. args g || answer_names g answer) effect
      → ((p : ℕ) → is_child effect p ≡ true → makes p ≡ true) → Done answer (effect_touch effect me)
  all_done answer effect is named child =
      record { effect = effect; does = λ p f. refl; fds = named; child = child; single = λ part. absurd (cc) }

  executes : (profile : Profile) (answer : Answer) → whole ≡ true → Done answer (exec_touch profile answer me)
  executes profile (answers.Fault e) is = keeps (answers.Fault e)
  executes One (answers.Made d) is = all_done (answers.Made d) effects.Forget is tt (λ p is. absurd (cc))
  executes One (answers.Pair d e) is = all_done (answers.Pair d e) effects.Forget is tt (λ p is. absurd (cc))
  executes Two (answers.Made d) is = all_done (answers.Made d) effects.Exec is tt (λ p is. absurd (cc))
  executes Two (answers.Pair d e) is = all_done (answers.Pair d e) effects.Exec is tt (λ p is. absurd (cc))

  closes_from : (profile : Profile) (answer : Answer) (g : ℕ) → whole ≡ true
      → Done answer (closefrom_touch profile g answer me)
  closes_from One answer g is = keeps answer
  closes_from Two (answers.Fault e) g is = keeps (answers.Fault e)
  closes_from Two (answers.Made d) g is = all_done (answers.Made d) (effects.CloseFrom g) is tt (λ p is. absurd (cc))
  closes_from Two (answers.Pair d e) g is = all_done (answers.Pair d e) (effects.CloseFrom g) is tt (λ p is. absurd (cc))

  forks_unless : (answer : Answer) (c : ℕ) (b : Bool) → whole ≡ true
      → ((p : ℕ) → (not b && p == c) ≡ true → makes p ≡ true)
      → Done answer (λ p f. if not b && p == c then taken same me f else kept)
  forks_unless answer c true is child = keeps answer
  forks_unless answer c false is child = all_done answer (effects.Fork c) is tt child

  forks : (answer : Answer) → whole ≡ true → ((p : ℕ) → answer_makes p answer ≡ true → makes p ≡ true)
      → Done answer (fork_touch answer me)
  forks (answers.Made c) is child = forks_unless (answers.Made c) c (c == 0) is child
  forks (answers.Pair c d) is child = keeps (answers.Pair c d)
  forks (answers.Fault e) is child = keeps (answers.Fault e)

  forks_as_unless : (answer : Answer) (c d : ℕ) (b : Bool) → whole ≡ true → (args d || answer_names d answer) ≡ true
      → ((p : ℕ) → (not b && p == c) ≡ true → makes p ≡ true)
      → Done answer (λ p f. if b then kept else if (p == me || p == c) && f == d then given Unknown
      else if p == c then taken same me f else kept)
  forks_as_unless answer c d true is named child = keeps answer
  forks_as_unless answer c d false is named child = all_done answer (effects.ForkAs c d) is named child

  forks_as : (answer : Answer) → whole ≡ true → ((p : ℕ) → answer_makes p answer ≡ true → makes p ≡ true)
      → Done answer (pdfork_touch answer me)
  forks_as (answers.Made c) is child = keeps (answers.Made c)
  forks_as (answers.Pair c d) is child = forks_as_unless (answers.Pair c d) c d (c == 0) is
      (or_right (args d) _ (or_right (d == c) (d == d) (itself d))) child
  forks_as (answers.Fault e) is child = keeps (answers.Fault e)

  -- ---- each form of call

  fd_done : (profile : Profile) (call : FdCall) (g : ℕ) (answer : Answer) → args g ≡ true
      → (is_whole_call (calls.OnFd call g) ≡ true → whole ≡ true) → Done answer (fd_touch profile call g answer me)
  fd_done profile Close g answer is big = closes answer g is
  fd_done profile Closefrom g answer is big = closes_from profile answer g (big refl)
  fd_done profile Dup g answer is big = made_taken answer _ g is
  fd_done profile Accept g answer is big = made_given answer Unknown
  fd_done profile Fexecve g answer is big = executes profile answer (big refl)
  fd_done profile CapIoctlsLimit g answer is big = changed answer g _ is
  fd_done profile CapFcntlsLimit g answer is big = changed answer g _ is
  fd_done profile _ g answer is big = keeps answer

  -- by a test
  either_done : (answer : Answer) (b : Bool) (t u : ℕ → ℕ → Touch) → Done answer t → Done answer u
      → Done answer (λ p f. if b then t p f else u p f)
  either_done answer true t u first second = first
  either_done answer false t u first second = second

  fcntl_done : (command : List ℕ) (g : ℕ) (answer : Answer) → args g ≡ true
      → Done answer (fcntl_touch command g answer me)
  fcntl_done command g answer is =
      either_done answer (bytes_eq command (codes "F_DUPFD")) _ _ (made_taken answer _ g is)
      (either_done answer (bytes_eq command (codes "F_DUPFD_CLOEXEC")) _ _ (made_taken answer _ g is) (keeps answer))

  dup_done : (command : DupCommand) (g h : ℕ) (answer : Answer) → args g ≡ true
      → Done answer (on_made answer (fcntl_copied_to command g h me) me)
  dup_done FDup2fd g h answer is = made_taken answer _ g is
  dup_done FDup2fdCloexec g h answer is = made_taken answer _ g is

  opened_unless : (answer : Answer) (b : Bool) (flag : OnExec) (dir : Dir) (path : List ℕ)
      → Done answer (on_made answer (if b then given (Held all flag) else given Unknown) me)
  opened_unless answer true flag dir path = made_given answer _
  opened_unless answer false flag dir path = made_given answer _

  opened : (b : Bool) (dir : Dir) (path : List ℕ) (flag : OnExec) (answer : Answer)
      → ((g : ℕ) → dir_names g dir ≡ true → args g ≡ true)
      → Done answer (on_made answer (opened_below (if b then None else dir_fd dir) dir path flag me) me)
  opened true dir path flag answer is = opened_unless answer (is_cwd dir && not (is_empty path)) flag dir path
  opened false (dirs.Fd g) path flag answer is = made_taken answer _ g (is g (itself g))
  opened false dirs.Cwd path flag answer is = opened_unless answer (not (is_empty path)) flag dirs.Cwd path

  at_done : (call : AtFlagsCall) (dir : Dir) (path names : List ℕ) (answer : Answer)
      → ((g : ℕ) → dir_names g dir ≡ true → args g ≡ true) → Done answer (at_touch call dir path names answer me)
  at_done Openat dir path names answer is = opened (is_empty path || is_absolute path) dir path (open_flag names) answer is
  at_done _ dir path names answer is = keeps answer

  flags_done : (call : FlagsCall) (names : List ℕ) (answer : Answer) → Done answer (flags_touch call names answer me)
  flags_done Socket names answer = made_given answer _
  flags_done Socketpair names answer = two_given answer _
  flags_done Pipe2 names answer = two_given answer _

  bare_done : (call : BareCall) (answer : Answer)
      → ((p : ℕ) → (is_fork (calls.Bare call) && answer_makes p answer) ≡ true → makes p ≡ true)
      → (is_whole_call (calls.Bare call) ≡ true → whole ≡ true) → Done answer (bare_touch call answer me)
  bare_done Pipe answer child big = two_given answer _
  bare_done Kqueue answer child big = made_given answer _
  bare_done ShmOpen answer child big = made_given answer _
  bare_done MqOpen answer child big = made_given answer _
  bare_done Fhopen answer child big = made_given answer _
  bare_done Fork answer child big = forks answer (big refl) child
  bare_done Vfork answer child big = forks answer (big refl) child
  bare_done Pdfork answer child big = forks_as answer (big refl) child
  bare_done CapEnter answer child big = keeps answer

  call_done : (profile : Profile) (call : Call) (answer : Answer)
      → ((g : ℕ) → list_any (arg_names g) (args_of_call call) ≡ true → args g ≡ true)
      → ((p : ℕ) → (is_fork call && answer_makes p answer) ≡ true → makes p ≡ true)
      → (is_whole_call call ≡ true → whole ≡ true) → Done answer (call_touch profile call answer me)
  call_done profile (calls.OnFd call g) answer is child big = fd_done profile call g answer (is g (leading g _)) big
  call_done profile (calls.Accept4 g names) answer is child big = made_given answer Unknown
  call_done profile (calls.Dup2 g h) answer is child big = made_taken answer _ g (is g (leading g _))
  call_done profile (calls.Fcntl g command) answer is child big = fcntl_done command g answer (is g (leading g _))
  call_done profile (calls.FcntlDup command g h) answer is child big = dup_done command g h answer (is g (leading g _))
  call_done profile (calls.FcntlSetFd g names) answer is child big = changed answer g _ (is g (leading g _))
  call_done profile (calls.RightsLimit g asked) answer is child big = changed answer g _ (is g (leading g _))
  call_done profile (calls.Open path names) answer is child big = made_given answer _
  call_done profile (calls.OnPath Execve path) answer is child big = executes profile answer (big refl)
  call_done profile (calls.AtFlags call dir path names) answer is child big =
      at_done call dir path names answer (λ g here. is g (or_left (dir_names g dir) _ here))
  call_done profile (calls.OnFlags call names) answer is child big = flags_done call names answer
  call_done profile (calls.Bare call) answer is child big = bare_done call answer child big
  call_done profile _ answer is child big = keeps answer

-- The effect of `@start` has the text of its descriptors, so it is apart.
abbrev pub IsNoStart : Item → Type 0
IsNoStart (items.Start fs) = ⊥
IsNoStart _ = Unit {0}

pub item_done : (profile : Profile) (item : Item) (me : ℕ) → IsNoStart item
    → IsDone (λ g. list_any (arg_names g) (args_of item) || item_answer_names g item) (λ p. item_makes p item)
    (is_whole_item item) me (item_touch profile item me)
item_done profile (items.Call call answer) me is =
    call_done (λ g. list_any (arg_names g) (args_of_call call)) (λ p. is_fork call && answer_makes p answer)
    (is_whole_call call) me profile call answer (λ g is. is) (λ p is. is) (λ is. is)
item_done profile (items.Start fs) me is = absurd is
item_done profile items.Exit me is = record {
  effect = effects.Exit;
  does = λ p f. refl;
  fds = tt;
  child = λ p is. absurd (cc);
  single = λ part. absurd (cc);
}
item_done profile (items.Foreign g) me is = record {
  effect = effects.Give g Unknown;
  does = λ p f. refl;
  fds = or_left _ false (leading g false);
  child = λ p is. absurd (cc);
  single = λ part. tt;
}
item_done profile (items.Needs marker g rights) me is = record {
  effect = effects.Keep;
  does = λ p f. refl;
  fds = tt;
  child = λ p is. absurd (cc);
  single = λ part. tt;
}
item_done profile items.Global me is = record {
  effect = effects.Keep;
  does = λ p f. refl;
  fds = tt;
  child = λ p is. absurd (cc);
  single = λ part. tt;
}
