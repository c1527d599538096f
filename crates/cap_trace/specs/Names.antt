-- The table of names: each call and marker that has a form of its own, with the kind of its result.
use Rattle.std.specs.Prelude.{ℕ, List, [], ◌∷◌, ◌&&◌, ◌||◌, ◌==◌, not, Bool, false, Option, Some, None, codes, find}
use Rattle.std.specs.Prelude.{if◌then◌else◌}
use Rattle.std.specs.Str.{bytes_eq}
use Rattle.std.specs.Char.{is_ascii_lowercase, is_ascii_digit}
use Rattle.std.specs.List.{list_all}
use Rattle.cap_trace.specs.declared.calls.FdCall.{FdCall}
use Rattle.cap_trace.specs.declared.calls.FdCall.TheVariants as on_fd_calls
use Rattle.cap_trace.specs.declared.calls.SendCall.{SendCall}
use Rattle.cap_trace.specs.declared.calls.SendCall.TheVariants as sends_calls
use Rattle.cap_trace.specs.declared.calls.PathCall.{PathCall}
use Rattle.cap_trace.specs.declared.calls.PathCall.TheVariants as on_path_calls
use Rattle.cap_trace.specs.declared.calls.PathsCall.{PathsCall}
use Rattle.cap_trace.specs.declared.calls.PathsCall.TheVariants as on_paths_calls
use Rattle.cap_trace.specs.declared.calls.AtCall.{AtCall}
use Rattle.cap_trace.specs.declared.calls.AtCall.TheVariants as at_dir_calls
use Rattle.cap_trace.specs.declared.calls.AtFlagsCall.{AtFlagsCall}
use Rattle.cap_trace.specs.declared.calls.AtFlagsCall.TheVariants as at_dir_with_flags_calls
use Rattle.cap_trace.specs.declared.calls.FlagsCall.{FlagsCall}
use Rattle.cap_trace.specs.declared.calls.FlagsCall.TheVariants as on_flags_calls
use Rattle.cap_trace.specs.declared.calls.BareCall.{BareCall}
use Rattle.cap_trace.specs.declared.calls.BareCall.TheVariants as bare_calls
use Rattle.cap_trace.specs.declared.calls.DupCommand.{DupCommand}
use Rattle.cap_trace.specs.declared.calls.DupCommand.TheVariants as dup_commands
use Rattle.cap_trace.specs.declared.calls.NeedsMarker.{NeedsMarker}
use Rattle.cap_trace.specs.declared.calls.NeedsMarker.TheVariants as needs_markers
use Rattle.cap_trace.specs.declared.calls.Form.{Form}
use Rattle.cap_trace.specs.declared.calls.Form.TheVariants as forms
use Rattle.cap_trace.specs.declared.calls.ResultKind.{ResultKind}
use Rattle.cap_trace.specs.declared.calls.ResultKind.TheVariants.{Count, Zero, Fd, FdPair, Child, ChildAndFd}

-- a row: the name, and the result of a call that doesn't fail
pub record Row : Type 0 where
  pub name : List ℕ
  pub kind : ResultKind

abbrev pub row : List ℕ → ResultKind → Row
row n k = record { name = n; kind = k }

-- tools/calls.py: rows
-- a call whose one argument is a descriptor
abbrev pub on_fd : FdCall → Row
on_fd on_fd_calls.Read = row (codes "read") Count
on_fd on_fd_calls.Readv = row (codes "readv") Count
on_fd on_fd_calls.Recvfrom = row (codes "recvfrom") Count
on_fd on_fd_calls.Recvmsg = row (codes "recvmsg") Count
on_fd on_fd_calls.Pread = row (codes "pread") Count
on_fd on_fd_calls.Preadv = row (codes "preadv") Count
on_fd on_fd_calls.Write = row (codes "write") Count
on_fd on_fd_calls.Writev = row (codes "writev") Count
on_fd on_fd_calls.Pwrite = row (codes "pwrite") Count
on_fd on_fd_calls.Pwritev = row (codes "pwritev") Count
on_fd on_fd_calls.Lseek = row (codes "lseek") Count
on_fd on_fd_calls.Fstat = row (codes "fstat") Count
on_fd on_fd_calls.Fstatfs = row (codes "fstatfs") Count
on_fd on_fd_calls.Fsync = row (codes "fsync") Count
on_fd on_fd_calls.Fdatasync = row (codes "fdatasync") Count
on_fd on_fd_calls.Ftruncate = row (codes "ftruncate") Count
on_fd on_fd_calls.Fchmod = row (codes "fchmod") Count
on_fd on_fd_calls.Fchown = row (codes "fchown") Count
on_fd on_fd_calls.Fchflags = row (codes "fchflags") Count
on_fd on_fd_calls.Fchdir = row (codes "fchdir") Count
on_fd on_fd_calls.Flock = row (codes "flock") Count
on_fd on_fd_calls.Fpathconf = row (codes "fpathconf") Count
on_fd on_fd_calls.Futimes = row (codes "futimes") Count
on_fd on_fd_calls.Futimens = row (codes "futimens") Count
on_fd on_fd_calls.Ioctl = row (codes "ioctl") Count
on_fd on_fd_calls.Accept = row (codes "accept") Fd
on_fd on_fd_calls.Bind = row (codes "bind") Count
on_fd on_fd_calls.Connect = row (codes "connect") Count
on_fd on_fd_calls.Listen = row (codes "listen") Count
on_fd on_fd_calls.Shutdown = row (codes "shutdown") Count
on_fd on_fd_calls.Getpeername = row (codes "getpeername") Count
on_fd on_fd_calls.Getsockname = row (codes "getsockname") Count
on_fd on_fd_calls.Getsockopt = row (codes "getsockopt") Count
on_fd on_fd_calls.Setsockopt = row (codes "setsockopt") Count
on_fd on_fd_calls.Fexecve = row (codes "fexecve") Zero
on_fd on_fd_calls.Close = row (codes "close") Zero
on_fd on_fd_calls.Closefrom = row (codes "closefrom") Zero
on_fd on_fd_calls.Dup = row (codes "dup") Fd
on_fd on_fd_calls.CapIoctlsLimit = row (codes "cap_ioctls_limit") Zero
on_fd on_fd_calls.CapFcntlsLimit = row (codes "cap_fcntls_limit") Zero

-- a call that sends, to a destination that it names or not
abbrev pub sends : SendCall → Row
sends sends_calls.Sendto = row (codes "sendto") Count
sends sends_calls.Sendmsg = row (codes "sendmsg") Count

-- a call whose one argument is a path
abbrev pub on_path : PathCall → Row
on_path on_path_calls.Execve = row (codes "execve") Zero
on_path on_path_calls.Access = row (codes "access") Count
on_path on_path_calls.Chdir = row (codes "chdir") Count
on_path on_path_calls.Chflags = row (codes "chflags") Count
on_path on_path_calls.Chmod = row (codes "chmod") Count
on_path on_path_calls.Chown = row (codes "chown") Count
on_path on_path_calls.Lchown = row (codes "lchown") Count
on_path on_path_calls.Lstat = row (codes "lstat") Count
on_path on_path_calls.Mkdir = row (codes "mkdir") Count
on_path on_path_calls.Mkfifo = row (codes "mkfifo") Count
on_path on_path_calls.Mknod = row (codes "mknod") Count
on_path on_path_calls.Readlink = row (codes "readlink") Count
on_path on_path_calls.Rmdir = row (codes "rmdir") Count
on_path on_path_calls.Stat = row (codes "stat") Count
on_path on_path_calls.Statfs = row (codes "statfs") Count
on_path on_path_calls.Truncate = row (codes "truncate") Count
on_path on_path_calls.Unlink = row (codes "unlink") Count

-- a call with two paths
abbrev pub on_paths : PathsCall → Row
on_paths on_paths_calls.Link = row (codes "link") Count
on_paths on_paths_calls.Rename = row (codes "rename") Count
on_paths on_paths_calls.Symlink = row (codes "symlink") Count

-- a call at a directory
abbrev pub at_dir : AtCall → Row
at_dir at_dir_calls.Mkdirat = row (codes "mkdirat") Count
at_dir at_dir_calls.Mkfifoat = row (codes "mkfifoat") Count
at_dir at_dir_calls.Mknodat = row (codes "mknodat") Count
at_dir at_dir_calls.Readlinkat = row (codes "readlinkat") Count
at_dir at_dir_calls.Futimesat = row (codes "futimesat") Count

-- a call at a directory, with flags
abbrev pub at_dir_with_flags : AtFlagsCall → Row
at_dir_with_flags at_dir_with_flags_calls.Openat = row (codes "openat") Fd
at_dir_with_flags at_dir_with_flags_calls.Unlinkat = row (codes "unlinkat") Count
at_dir_with_flags at_dir_with_flags_calls.Fstatat = row (codes "fstatat") Count
at_dir_with_flags at_dir_with_flags_calls.Fchmodat = row (codes "fchmodat") Count
at_dir_with_flags at_dir_with_flags_calls.Fchownat = row (codes "fchownat") Count
at_dir_with_flags at_dir_with_flags_calls.Chflagsat = row (codes "chflagsat") Count
at_dir_with_flags at_dir_with_flags_calls.Utimensat = row (codes "utimensat") Count

-- a call whose one argument is flags
abbrev pub on_flags : FlagsCall → Row
on_flags on_flags_calls.Socket = row (codes "socket") Fd
on_flags on_flags_calls.Socketpair = row (codes "socketpair") FdPair
on_flags on_flags_calls.Pipe2 = row (codes "pipe2") FdPair

-- a call without arguments
abbrev pub bare : BareCall → Row
bare bare_calls.Pipe = row (codes "pipe") FdPair
bare bare_calls.Kqueue = row (codes "kqueue") Fd
bare bare_calls.ShmOpen = row (codes "shm_open") Fd
bare bare_calls.MqOpen = row (codes "mq_open") Fd
bare bare_calls.Fhopen = row (codes "fhopen") Fd
bare bare_calls.Fork = row (codes "fork") Child
bare bare_calls.Vfork = row (codes "vfork") Child
bare bare_calls.Pdfork = row (codes "pdfork") ChildAndFd
bare bare_calls.CapEnter = row (codes "cap_enter") Zero

-- a marker of rights that a call needed
abbrev pub needs : NeedsMarker → Row
needs needs_markers.Uses = row (codes "@uses") Zero
needs needs_markers.Refused = row (codes "@refused") Zero

-- the whole table; a marker has no result
abbrev pub row_of : Form → Row
row_of (forms.OnFd c) = on_fd c
row_of (forms.Send c) = sends c
row_of (forms.OnPath c) = on_path c
row_of (forms.OnPaths c) = on_paths c
row_of (forms.At c) = at_dir c
row_of (forms.AtFlags c) = at_dir_with_flags c
row_of (forms.OnFlags c) = on_flags c
row_of (forms.Bare c) = bare c
row_of forms.Accept4 = row (codes "accept4") Fd
row_of forms.Dup2 = row (codes "dup2") Fd
row_of forms.Fcntl = row (codes "fcntl") Count
row_of forms.Mmap = row (codes "mmap") Count
row_of forms.RightsLimit = row (codes "cap_rights_limit") Zero
row_of forms.Open = row (codes "open") Fd
row_of forms.SymlinkAt = row (codes "symlinkat") Count
row_of forms.RenameAt = row (codes "renameat") Count
row_of forms.LinkAt = row (codes "linkat") Count
row_of forms.Start = row (codes "@start") Zero
row_of forms.Exit = row (codes "@exit") Zero
row_of forms.Foreign = row (codes "@foreign") Zero
row_of (forms.Needs c) = needs c
row_of forms.Global = row (codes "@global") Zero

-- end

-- the commands of fcntl that have a form of their own
abbrev pub dup_command_name : DupCommand → List ℕ
dup_command_name dup_commands.FDup2fd = codes "F_DUP2FD"
dup_command_name dup_commands.FDup2fdCloexec = codes "F_DUP2FD_CLOEXEC"

-- what is before the arguments: a name of the table, or any other
pub data Head : Type 0 where
  listed : Form → Head
  unlisted : List ℕ → Head

abbrev pub name_of : Head → List ℕ
name_of (listed f) = (row_of f).name
name_of (unlisted n) = n

-- a name may be made of these
abbrev pub is_name_byte : ℕ → Bool
is_name_byte c = is_ascii_lowercase c || is_ascii_digit c || (c == 95)

-- and doesn't begin with a digit
abbrev pub is_name : List ℕ → Bool
is_name [] = false
is_name (c ∷ cs) = is_name_byte c && not (is_ascii_digit c) && list_all is_name_byte cs

-- ---- looking a name up

-- every row's form, from above
-- tools/calls.py: forms
unfoldable pub all_forms : List Form
all_forms =
    forms.OnFd on_fd_calls.Read ∷ forms.OnFd on_fd_calls.Readv ∷ forms.OnFd on_fd_calls.Recvfrom ∷
    forms.OnFd on_fd_calls.Recvmsg ∷ forms.OnFd on_fd_calls.Pread ∷ forms.OnFd on_fd_calls.Preadv ∷
    forms.OnFd on_fd_calls.Write ∷ forms.OnFd on_fd_calls.Writev ∷ forms.OnFd on_fd_calls.Pwrite ∷
    forms.OnFd on_fd_calls.Pwritev ∷ forms.OnFd on_fd_calls.Lseek ∷ forms.OnFd on_fd_calls.Fstat ∷
    forms.OnFd on_fd_calls.Fstatfs ∷ forms.OnFd on_fd_calls.Fsync ∷ forms.OnFd on_fd_calls.Fdatasync ∷
    forms.OnFd on_fd_calls.Ftruncate ∷ forms.OnFd on_fd_calls.Fchmod ∷ forms.OnFd on_fd_calls.Fchown ∷
    forms.OnFd on_fd_calls.Fchflags ∷ forms.OnFd on_fd_calls.Fchdir ∷ forms.OnFd on_fd_calls.Flock ∷
    forms.OnFd on_fd_calls.Fpathconf ∷ forms.OnFd on_fd_calls.Futimes ∷ forms.OnFd on_fd_calls.Futimens ∷
    forms.OnFd on_fd_calls.Ioctl ∷ forms.OnFd on_fd_calls.Accept ∷ forms.OnFd on_fd_calls.Bind ∷
    forms.OnFd on_fd_calls.Connect ∷ forms.OnFd on_fd_calls.Listen ∷ forms.OnFd on_fd_calls.Shutdown ∷
    forms.OnFd on_fd_calls.Getpeername ∷ forms.OnFd on_fd_calls.Getsockname ∷ forms.OnFd on_fd_calls.Getsockopt ∷
    forms.OnFd on_fd_calls.Setsockopt ∷ forms.OnFd on_fd_calls.Fexecve ∷ forms.OnFd on_fd_calls.Close ∷
    forms.OnFd on_fd_calls.Closefrom ∷ forms.OnFd on_fd_calls.Dup ∷ forms.OnFd on_fd_calls.CapIoctlsLimit ∷
    forms.OnFd on_fd_calls.CapFcntlsLimit ∷ forms.Send sends_calls.Sendto ∷ forms.Send sends_calls.Sendmsg ∷
    forms.OnPath on_path_calls.Execve ∷ forms.OnPath on_path_calls.Access ∷ forms.OnPath on_path_calls.Chdir ∷
    forms.OnPath on_path_calls.Chflags ∷ forms.OnPath on_path_calls.Chmod ∷ forms.OnPath on_path_calls.Chown ∷
    forms.OnPath on_path_calls.Lchown ∷ forms.OnPath on_path_calls.Lstat ∷ forms.OnPath on_path_calls.Mkdir ∷
    forms.OnPath on_path_calls.Mkfifo ∷ forms.OnPath on_path_calls.Mknod ∷ forms.OnPath on_path_calls.Readlink ∷
    forms.OnPath on_path_calls.Rmdir ∷ forms.OnPath on_path_calls.Stat ∷ forms.OnPath on_path_calls.Statfs ∷
    forms.OnPath on_path_calls.Truncate ∷ forms.OnPath on_path_calls.Unlink ∷ forms.OnPaths on_paths_calls.Link ∷
    forms.OnPaths on_paths_calls.Rename ∷ forms.OnPaths on_paths_calls.Symlink ∷ forms.At at_dir_calls.Mkdirat ∷
    forms.At at_dir_calls.Mkfifoat ∷ forms.At at_dir_calls.Mknodat ∷ forms.At at_dir_calls.Readlinkat ∷
    forms.At at_dir_calls.Futimesat ∷ forms.AtFlags at_dir_with_flags_calls.Openat ∷
    forms.AtFlags at_dir_with_flags_calls.Unlinkat ∷ forms.AtFlags at_dir_with_flags_calls.Fstatat ∷
    forms.AtFlags at_dir_with_flags_calls.Fchmodat ∷ forms.AtFlags at_dir_with_flags_calls.Fchownat ∷
    forms.AtFlags at_dir_with_flags_calls.Chflagsat ∷ forms.AtFlags at_dir_with_flags_calls.Utimensat ∷
    forms.OnFlags on_flags_calls.Socket ∷ forms.OnFlags on_flags_calls.Socketpair ∷
    forms.OnFlags on_flags_calls.Pipe2 ∷ forms.Bare bare_calls.Pipe ∷ forms.Bare bare_calls.Kqueue ∷
    forms.Bare bare_calls.ShmOpen ∷ forms.Bare bare_calls.MqOpen ∷ forms.Bare bare_calls.Fhopen ∷
    forms.Bare bare_calls.Fork ∷ forms.Bare bare_calls.Vfork ∷ forms.Bare bare_calls.Pdfork ∷
    forms.Bare bare_calls.CapEnter ∷ forms.Needs needs_markers.Uses ∷ forms.Needs needs_markers.Refused ∷
    forms.Accept4 ∷ forms.Dup2 ∷ forms.Fcntl ∷ forms.Mmap ∷ forms.RightsLimit ∷ forms.Open ∷ forms.SymlinkAt ∷
    forms.RenameAt ∷ forms.LinkAt ∷ forms.Start ∷ forms.Exit ∷ forms.Foreign ∷ forms.Global ∷ []

-- end

-- the form of a name of the table
abbrev pub form_named : List ℕ → Option Form
form_named name = find (λ f. bytes_eq (row_of f).name name) all_forms

abbrev pub or_unlisted : List ℕ → Option Form → Option Head
or_unlisted name (Some f) = Some (listed f)
or_unlisted name None = if is_name name then Some (unlisted name) else None

-- the form of a name, or the name, where it is one
abbrev pub head_named : List ℕ → Option Head
head_named name = or_unlisted name (form_named name)
