-- The limits of a line and of its numbers.
use Rattle.std.specs.Prelude.{ℕ}

-- a line has at most so many bytes
abbrev pub longest_line : ℕ
longest_line = 1024

-- pids go from 1 to this
abbrev pub largest_pid : ℕ
largest_pid = 99999

-- descriptors go from 0 to this
abbrev pub largest_fd : ℕ
largest_fd = 1048575

-- errnos go from 1 to this
abbrev pub largest_errno : ℕ
largest_errno = 65535
