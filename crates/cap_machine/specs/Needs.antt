-- The rights that each call needs, by the names that rights(4) has for them. What a name stands for is in the table of
-- names: most stand for themselves, some for more, as CAP_PREAD for CAP_READ and CAP_SEEK.
use Rattle.std.specs.Prelude.{ℕ, ◌&&◌, ◌||◌, Bool, if◌then◌else◌, List, [], ◌∷◌, Option, Some, None, codes, find}
use Rattle.std.specs.Option.{option_map_or}
use Rattle.std.specs.Str.{bytes_eq}
use Rattle.cap_rights.specs.Names.{table}
use Rattle.cap_rights.specs.Rights.{none, join}
-- tools/calls.py: variants
use Rattle.cap_trace.specs.declared.calls.FdCall.{FdCall}
use Rattle.cap_trace.specs.declared.calls.FdCall.TheVariants.{Read, Readv, Recvfrom, Recvmsg, Pread, Preadv, Write}
use Rattle.cap_trace.specs.declared.calls.FdCall.TheVariants.{Writev, Pwrite, Pwritev, Lseek, Fstat, Fstatfs, Fsync}
use Rattle.cap_trace.specs.declared.calls.FdCall.TheVariants.{Fdatasync, Ftruncate, Fchmod, Fchown, Fchflags, Fchdir}
use Rattle.cap_trace.specs.declared.calls.FdCall.TheVariants.{Flock, Fpathconf, Futimes, Futimens, Ioctl, Accept, Bind}
use Rattle.cap_trace.specs.declared.calls.FdCall.TheVariants.{Connect, Listen, Shutdown, Getpeername, Getsockname}
use Rattle.cap_trace.specs.declared.calls.FdCall.TheVariants.{Getsockopt, Setsockopt, Fexecve, Close, Closefrom, Dup}
use Rattle.cap_trace.specs.declared.calls.FdCall.TheVariants.{CapIoctlsLimit, CapFcntlsLimit}
use Rattle.cap_trace.specs.declared.calls.AtCall.{AtCall}
use Rattle.cap_trace.specs.declared.calls.AtCall.TheVariants.{Mkdirat, Mkfifoat, Mknodat, Readlinkat, Futimesat}
use Rattle.cap_trace.specs.declared.calls.AtFlagsCall.{AtFlagsCall}
use Rattle.cap_trace.specs.declared.calls.AtFlagsCall.TheVariants.{Openat, Unlinkat, Fstatat, Fchmodat, Fchownat}
use Rattle.cap_trace.specs.declared.calls.AtFlagsCall.TheVariants.{Chflagsat, Utimensat}
-- end
use Rattle.cap_machine.specs.Flags.{has_flag, is_one_of}

-- the rights that a name stands for
unfoldable pub named : List ℕ → ℕ
named name = option_map_or (λ row. row.1) (find (λ row. bytes_eq row.0 name) table) none

-- ---- calls on one descriptor

unfoldable pub fd_needs : FdCall → ℕ
-- tools/calls.py: fd_needs
fd_needs Read = named (codes "CAP_READ")
fd_needs Readv = named (codes "CAP_READ")
fd_needs Recvfrom = named (codes "CAP_READ")
fd_needs Recvmsg = named (codes "CAP_READ")
fd_needs Pread = named (codes "CAP_PREAD")
fd_needs Preadv = named (codes "CAP_PREAD")
fd_needs Write = named (codes "CAP_WRITE")
fd_needs Writev = named (codes "CAP_WRITE")
fd_needs Pwrite = named (codes "CAP_PWRITE")
fd_needs Pwritev = named (codes "CAP_PWRITE")
fd_needs Lseek = named (codes "CAP_SEEK")
fd_needs Fstat = named (codes "CAP_FSTAT")
fd_needs Fstatfs = named (codes "CAP_FSTATFS")
fd_needs Fsync = named (codes "CAP_FSYNC")
fd_needs Fdatasync = named (codes "CAP_FSYNC")
fd_needs Ftruncate = named (codes "CAP_FTRUNCATE")
fd_needs Fchmod = named (codes "CAP_FCHMOD")
fd_needs Fchown = named (codes "CAP_FCHOWN")
fd_needs Fchflags = named (codes "CAP_FCHFLAGS")
fd_needs Fchdir = named (codes "CAP_FCHDIR")
fd_needs Flock = named (codes "CAP_FLOCK")
fd_needs Fpathconf = named (codes "CAP_FPATHCONF")
fd_needs Futimes = named (codes "CAP_FUTIMES")
fd_needs Futimens = named (codes "CAP_FUTIMES")
fd_needs Ioctl = named (codes "CAP_IOCTL")
fd_needs Accept = named (codes "CAP_ACCEPT")
fd_needs Bind = named (codes "CAP_BIND")
fd_needs Connect = named (codes "CAP_CONNECT")
fd_needs Listen = named (codes "CAP_LISTEN")
fd_needs Shutdown = named (codes "CAP_SHUTDOWN")
fd_needs Getpeername = named (codes "CAP_GETPEERNAME")
fd_needs Getsockname = named (codes "CAP_GETSOCKNAME")
fd_needs Getsockopt = named (codes "CAP_GETSOCKOPT")
fd_needs Setsockopt = named (codes "CAP_SETSOCKOPT")
fd_needs Fexecve = named (codes "CAP_FEXECVE")
fd_needs Close = none
fd_needs Closefrom = none
fd_needs Dup = none
fd_needs CapIoctlsLimit = none
fd_needs CapFcntlsLimit = none

-- end

-- with these rights errno 93 is wrongful, and of a call without any it isn't judged: other limits exist for ioctl(2)
-- and for the calls that set them; fexecve(2) may have to read the file that it runs
unfoldable pub fd_excuse : FdCall → Option ℕ
-- tools/calls.py: fd_excuse
fd_excuse Ioctl = None
fd_excuse CapIoctlsLimit = None
fd_excuse CapFcntlsLimit = None
fd_excuse Fexecve = Some (join (named (codes "CAP_FEXECVE")) (named (codes "CAP_READ")))
fd_excuse call = Some (fd_needs call)

-- end

-- sendto(2), sendmsg(2): without a destination and with one
unfoldable pub send_needs : ℕ
send_needs = named (codes "CAP_WRITE")

unfoldable pub send_to_needs : ℕ
send_to_needs = join (named (codes "CAP_WRITE")) (named (codes "CAP_CONNECT"))

-- fcntl(2): commands that need an open descriptor and no right, that read or set the status of a file, and its locks
unfoldable pub descriptor_commands : List (List ℕ)
descriptor_commands = codes "F_DUPFD" ∷ codes "F_DUPFD_CLOEXEC" ∷ codes "F_GETFD" ∷ []

unfoldable pub status_commands : List (List ℕ)
status_commands = codes "F_GETFL" ∷ codes "F_SETFL" ∷ codes "F_GETOWN" ∷ codes "F_SETOWN" ∷ []

unfoldable pub lock_commands : List (List ℕ)
lock_commands = codes "F_GETLK" ∷ codes "F_SETLK" ∷ codes "F_SETLKW" ∷ []

-- of other commands nothing is known, and then there is no check
unfoldable pub fcntl_needs : List ℕ → Option ℕ
fcntl_needs command =
    if is_one_of descriptor_commands command then Some none
    else if is_one_of status_commands command then Some (named (codes "CAP_FCNTL"))
    else if is_one_of lock_commands command then Some (named (codes "CAP_FLOCK"))
    else None

-- these rights where something is asked for
abbrev pub asked : Bool → ℕ → ℕ
asked is rights = if is then rights else none

-- mmap(2): by the protection, and whether writes are shared
unfoldable pub mmap_needs : List ℕ → List ℕ → ℕ
mmap_needs protection kind =
    join (named (codes "CAP_MMAP"))
    (join (asked (has_flag protection (codes "PROT_READ")) (named (codes "CAP_MMAP_R")))
    (join (asked (has_flag protection (codes "PROT_EXEC")) (named (codes "CAP_MMAP_X")))
    (asked (has_flag protection (codes "PROT_WRITE") && has_flag kind (codes "MAP_SHARED"))
    (named (codes "CAP_MMAP_W")))))

unfoldable pub mmap_excuse : ℕ
mmap_excuse = named (codes "CAP_MMAP_RWX")

unfoldable pub accept_needs : ℕ
accept_needs = named (codes "CAP_ACCEPT")

-- ---- calls at a directory: of the directory's descriptor

unfoldable pub at_needs : AtCall → ℕ
-- tools/calls.py: at_needs
at_needs Mkdirat = named (codes "CAP_MKDIRAT")
at_needs Mkfifoat = named (codes "CAP_MKFIFOAT")
at_needs Mknodat = named (codes "CAP_MKNODAT")
at_needs Readlinkat = named (codes "CAP_LOOKUP")
at_needs Futimesat = named (codes "CAP_FUTIMESAT")

-- end

-- openat(2): how the file is opened
unfoldable pub access_needs : List ℕ → ℕ
access_needs flags =
    if has_flag flags (codes "O_EXEC") then named (codes "CAP_FEXECVE")
    else if has_flag flags (codes "O_RDWR") then join (named (codes "CAP_READ")) (named (codes "CAP_WRITE"))
    else if has_flag flags (codes "O_WRONLY") then named (codes "CAP_WRITE")
    else named (codes "CAP_READ")

-- and what opening it does besides
unfoldable pub opening_needs : List ℕ → ℕ
opening_needs flags =
    join (asked (has_flag flags (codes "O_CREAT")) (named (codes "CAP_CREATE")))
    (join (asked (has_flag flags (codes "O_TRUNC")) (named (codes "CAP_FTRUNCATE")))
    (join (asked (has_flag flags (codes "O_SYNC") || has_flag flags (codes "O_FSYNC")) (named (codes "CAP_FSYNC")))
    (asked (has_flag flags (codes "O_EXLOCK") || has_flag flags (codes "O_SHLOCK")) (named (codes "CAP_FLOCK")))))

-- a file that is only looked up needs no more
unfoldable pub openat_needs : List ℕ → ℕ
openat_needs flags =
    if has_flag flags (codes "O_PATH") || has_flag flags (codes "O_SEARCH") then named (codes "CAP_LOOKUP")
    else join (named (codes "CAP_LOOKUP")) (join (access_needs flags) (opening_needs flags))

unfoldable pub at_flags_needs : AtFlagsCall → List ℕ → ℕ
-- tools/calls.py: at_flags_needs
at_flags_needs Openat flags = openat_needs flags
at_flags_needs Unlinkat flags = named (codes "CAP_UNLINKAT")
at_flags_needs Fstatat flags = named (codes "CAP_FSTATAT")
at_flags_needs Fchmodat flags = named (codes "CAP_FCHMODAT")
at_flags_needs Fchownat flags = named (codes "CAP_FCHOWNAT")
at_flags_needs Chflagsat flags = named (codes "CAP_CHFLAGSAT")
at_flags_needs Utimensat flags = named (codes "CAP_FUTIMESAT")

-- end

unfoldable pub symlink_needs : ℕ
symlink_needs = named (codes "CAP_SYMLINKAT")

unfoldable pub rename_from_needs : ℕ
rename_from_needs = named (codes "CAP_RENAMEAT_SOURCE")

unfoldable pub rename_to_needs : ℕ
rename_to_needs = named (codes "CAP_RENAMEAT_TARGET")

unfoldable pub link_from_needs : ℕ
link_from_needs = named (codes "CAP_LINKAT_SOURCE")

unfoldable pub link_to_needs : ℕ
link_to_needs = named (codes "CAP_LINKAT_TARGET")

-- flags whose meaning is known: with another one errno 93 of the call isn't judged
unfoldable pub plain_open_flags : List (List ℕ)
plain_open_flags =
    codes "0" ∷
    codes "O_RDONLY" ∷
    codes "O_WRONLY" ∷
    codes "O_RDWR" ∷
    codes "O_EXEC" ∷
    codes "O_SEARCH" ∷
    codes "O_PATH" ∷
    codes "O_APPEND" ∷
    codes "O_CREAT" ∷
    codes "O_TRUNC" ∷
    codes "O_EXCL" ∷
    codes "O_SYNC" ∷
    codes "O_FSYNC" ∷
    codes "O_DSYNC" ∷
    codes "O_EXLOCK" ∷
    codes "O_SHLOCK" ∷
    codes "O_CLOEXEC" ∷
    codes "O_DIRECTORY" ∷
    codes "O_NOFOLLOW" ∷
    codes "O_NONBLOCK" ∷
    codes "O_NOCTTY" ∷
    []

unfoldable pub plain_at_flags : List (List ℕ)
plain_at_flags = codes "0" ∷ codes "AT_REMOVEDIR" ∷ codes "AT_SYMLINK_FOLLOW" ∷ codes "AT_SYMLINK_NOFOLLOW" ∷ []

abbrev pub plain_flags : AtFlagsCall → List (List ℕ)
plain_flags Openat = plain_open_flags
plain_flags _ = plain_at_flags
