-- What a line says: a process, and a call with its answer, or a marker; the arguments of each by kind, and which
-- answers fit which call.
use Rattle.std.specs.Prelude.{◌≡◌, ℕ, ◌+◌, ◌^◌, ◌<◌, ◌≤◌, ◌||◌, List, [], ◌∷◌, codes, if◌then◌else◌}
use Rattle.std.specs.Str.{bytes_eq}
use Rattle.cap_trace.specs.Item.{Item}
use Rattle.cap_trace.specs.Item as items
use Rattle.cap_trace.specs.Call.{Call}
use Rattle.cap_trace.specs.Call as calls
use Rattle.cap_trace.specs.declared.line.Answer.{Answer}
use Rattle.cap_trace.specs.declared.line.Answer.TheVariants as answers
use Rattle.cap_trace.specs.declared.line.Dir.{Dir}
use Rattle.cap_trace.specs.declared.calls.DupCommand.{DupCommand}
use Rattle.cap_trace.specs.declared.calls.Form.TheVariants as forms
use Rattle.cap_trace.specs.declared.calls.ResultKind.{ResultKind}
use Rattle.cap_trace.specs.declared.calls.ResultKind.TheVariants.{Count, Zero, Fd, Same, FdPair, Child, ChildAndFd, Any}
use Rattle.cap_trace.specs.Limits.{largest_pid, largest_fd, largest_errno}
use Rattle.cap_trace.specs.Names.{Head, listed, unlisted, row_of}

-- a line without where it lies in memory
pub record Entry : Type 0 where
  pub pid : ℕ
  pub item : Item

abbrev pub IsPid : ℕ → Type 0
IsPid p = (0 < p) × (p ≤ largest_pid)

abbrev pub IsFd : ℕ → Type 0
IsFd f = f ≤ largest_fd

-- ---- the name

abbrev pub head_of_call : Call → Head
head_of_call (calls.OnFd c x) = listed (forms.OnFd c)
head_of_call (calls.Send c x) = listed (forms.Send c)
head_of_call (calls.SendTo c x) = listed (forms.Send c)
head_of_call (calls.Accept4 x y) = listed forms.Accept4
head_of_call (calls.Dup2 x y) = listed forms.Dup2
head_of_call (calls.Fcntl x y) = listed forms.Fcntl
head_of_call (calls.FcntlDup c x y) = listed forms.Fcntl
head_of_call (calls.FcntlSetFd x y) = listed forms.Fcntl
head_of_call (calls.Mmap x y z) = listed forms.Mmap
head_of_call (calls.RightsLimit x y) = listed forms.RightsLimit
head_of_call (calls.Open x y) = listed forms.Open
head_of_call (calls.OnPath c x) = listed (forms.OnPath c)
head_of_call (calls.OnPaths c x y) = listed (forms.OnPaths c)
head_of_call (calls.At c x y) = listed (forms.At c)
head_of_call (calls.AtFlags c x y z) = listed (forms.AtFlags c)
head_of_call (calls.SymlinkAt x y z) = listed forms.SymlinkAt
head_of_call (calls.RenameAt x y z u) = listed forms.RenameAt
head_of_call (calls.LinkAt x y z u v) = listed forms.LinkAt
head_of_call (calls.OnFlags c x) = listed (forms.OnFlags c)
head_of_call (calls.Bare c) = listed (forms.Bare c)
head_of_call (calls.Other n a) = unlisted n

abbrev pub head_of : Item → Head
head_of (items.Call c a) = head_of_call c
head_of (items.Start fs) = listed forms.Start
head_of items.Exit = listed forms.Exit
head_of (items.Foreign f) = listed forms.Foreign
head_of (items.Needs m f r) = listed (forms.Needs m)
head_of items.Global = listed forms.Global

-- ---- the arguments, from the left

-- a word that is written unchanged
pub data Word : Type 0 where
  dest : Word
  set_fd : Word
  dup_to : DupCommand → Word

-- an argument: flags, the path between its quotes, other commands of fcntl and the arguments of a call that has no form
-- of its own are kept as they are spelled
pub data Arg : Type 0 where
  an_fd : ℕ → Arg
  a_dir : Dir → Arg
  some_flags : List ℕ → Arg
  some_rights : ℕ → Arg
  a_path : List ℕ → Arg
  a_command : List ℕ → Arg
  a_word : Word → Arg
  free_text : List ℕ → Arg

abbrev pub args_of_call : Call → List Arg
args_of_call (calls.OnFd c x) = an_fd x ∷ []
args_of_call (calls.Send c x) = an_fd x ∷ []
args_of_call (calls.SendTo c x) = an_fd x ∷ a_word dest ∷ []
args_of_call (calls.Accept4 x y) = an_fd x ∷ some_flags y ∷ []
args_of_call (calls.Dup2 x y) = an_fd x ∷ an_fd y ∷ []
args_of_call (calls.Fcntl x y) = an_fd x ∷ a_command y ∷ []
args_of_call (calls.FcntlDup c x y) = an_fd x ∷ a_word (dup_to c) ∷ an_fd y ∷ []
args_of_call (calls.FcntlSetFd x y) = an_fd x ∷ a_word set_fd ∷ some_flags y ∷ []
args_of_call (calls.Mmap x y z) = an_fd x ∷ some_flags y ∷ some_flags z ∷ []
args_of_call (calls.RightsLimit x y) = an_fd x ∷ some_rights y ∷ []
args_of_call (calls.Open x y) = a_path x ∷ some_flags y ∷ []
args_of_call (calls.OnPath c x) = a_path x ∷ []
args_of_call (calls.OnPaths c x y) = a_path x ∷ a_path y ∷ []
args_of_call (calls.At c x y) = a_dir x ∷ a_path y ∷ []
args_of_call (calls.AtFlags c x y z) = a_dir x ∷ a_path y ∷ some_flags z ∷ []
args_of_call (calls.SymlinkAt x y z) = a_path x ∷ a_dir y ∷ a_path z ∷ []
args_of_call (calls.RenameAt x y z u) = a_dir x ∷ a_path y ∷ a_dir z ∷ a_path u ∷ []
args_of_call (calls.LinkAt x y z u v) = a_dir x ∷ a_path y ∷ a_dir z ∷ a_path u ∷ some_flags v ∷ []
args_of_call (calls.OnFlags c x) = some_flags x ∷ []
args_of_call (calls.Bare c) = []
args_of_call (calls.Other n a) = free_text a ∷ []

abbrev pub fds : List ℕ → List Arg
fds [] = []
fds (f ∷ fs) = an_fd f ∷ fds fs

abbrev pub args_of : Item → List Arg
args_of (items.Call c a) = args_of_call c
args_of (items.Start fs) = fds fs
args_of items.Exit = []
args_of (items.Foreign f) = an_fd f ∷ []
args_of (items.Needs m f r) = an_fd f ∷ some_rights r ∷ []
args_of items.Global = []

-- ---- the answer

-- the commands of fcntl that make a descriptor
abbrev pub fcntl_kind : List ℕ → ResultKind
fcntl_kind w = if bytes_eq w (codes "F_DUPFD") || bytes_eq w (codes "F_DUPFD_CLOEXEC") then Fd else Count

abbrev pub head_kind : Head → ResultKind
head_kind (listed f) = (row_of f).kind
head_kind (unlisted n) = Any

-- dup2 and the commands of fcntl that do the same answer the descriptor that they were given
abbrev pub kind_of : Call → ResultKind
kind_of (calls.Dup2 x y) = Same y
kind_of (calls.FcntlDup c x y) = Same y
kind_of (calls.Fcntl x y) = fcntl_kind y
kind_of c = head_kind (head_of_call c)

abbrev pub IsAnswer : ResultKind → Answer → Type 0
IsAnswer k (answers.Fault e) = (0 < e) × (e ≤ largest_errno)
IsAnswer Count (answers.Made n) = n < 2 ^ 64
IsAnswer Zero (answers.Made n) = n ≡ 0
IsAnswer Fd (answers.Made n) = IsFd n
IsAnswer (Same g) (answers.Made n) = (n ≡ g) × IsFd n
IsAnswer FdPair (answers.Made n) = ⊥
IsAnswer Child (answers.Made n) = n ≤ largest_pid
IsAnswer ChildAndFd (answers.Made n) = ⊥
IsAnswer Any (answers.Made n) = n < 2 ^ 64
IsAnswer Count (answers.Pair n m) = ⊥
IsAnswer Zero (answers.Pair n m) = ⊥
IsAnswer Fd (answers.Pair n m) = ⊥
IsAnswer (Same g) (answers.Pair n m) = ⊥
IsAnswer FdPair (answers.Pair n m) = IsFd n × IsFd m
IsAnswer Child (answers.Pair n m) = ⊥
IsAnswer ChildAndFd (answers.Pair n m) = (n ≤ largest_pid) × IsFd m
IsAnswer Any (answers.Pair n m) = (n < 2 ^ 64) × (m < 2 ^ 64)

-- each at least low, and above the one before it
abbrev pub RisesFrom : ℕ → List ℕ → Type 0
RisesFrom low [] = Unit {0}
RisesFrom low (f ∷ fs) = (low ≤ f) × RisesFrom (f + 1) fs

-- what goes beyond the single arguments: the answer is one of its call, and the descriptors of a start rise
abbrev pub IsWhole : Item → Type 0
IsWhole (items.Call c a) = IsAnswer (kind_of c) a
IsWhole (items.Start fs) = RisesFrom 0 fs
IsWhole items.Exit = Unit {0}
IsWhole (items.Foreign f) = Unit {0}
IsWhole (items.Needs m f r) = Unit {0}
IsWhole items.Global = Unit {0}
