-- A call with its arguments, from the left; one constructor for each form. Paths, flags, commands, and the name and the
-- arguments of a call that has no form of its own are texts, as they are spelled.
use Rattle.std.specs.Prelude.{ℕ, List}
use Rattle.cap_trace.specs.declared.line.Dir.{Dir}
use Rattle.cap_trace.specs.declared.calls.FdCall.{FdCall}
use Rattle.cap_trace.specs.declared.calls.SendCall.{SendCall}
use Rattle.cap_trace.specs.declared.calls.DupCommand.{DupCommand}
use Rattle.cap_trace.specs.declared.calls.PathCall.{PathCall}
use Rattle.cap_trace.specs.declared.calls.PathsCall.{PathsCall}
use Rattle.cap_trace.specs.declared.calls.AtCall.{AtCall}
use Rattle.cap_trace.specs.declared.calls.AtFlagsCall.{AtFlagsCall}
use Rattle.cap_trace.specs.declared.calls.FlagsCall.{FlagsCall}
use Rattle.cap_trace.specs.declared.calls.BareCall.{BareCall}

pub data Call : Type 0 where
  OnFd : FdCall → ℕ → Call
  Send : SendCall → ℕ → Call
  SendTo : SendCall → ℕ → Call
  Accept4 : ℕ → List ℕ → Call
  Dup2 : ℕ → ℕ → Call
  Fcntl : ℕ → List ℕ → Call
  FcntlDup : DupCommand → ℕ → ℕ → Call
  FcntlSetFd : ℕ → List ℕ → Call
  Mmap : ℕ → List ℕ → List ℕ → Call
  RightsLimit : ℕ → ℕ → Call
  Open : List ℕ → List ℕ → Call
  OnPath : PathCall → List ℕ → Call
  OnPaths : PathsCall → List ℕ → List ℕ → Call
  At : AtCall → Dir → List ℕ → Call
  AtFlags : AtFlagsCall → Dir → List ℕ → List ℕ → Call
  SymlinkAt : List ℕ → Dir → List ℕ → Call
  RenameAt : Dir → List ℕ → Dir → List ℕ → Call
  LinkAt : Dir → List ℕ → Dir → List ℕ → List ℕ → Call
  OnFlags : FlagsCall → List ℕ → Call
  Bare : BareCall → Call
  Other : List ℕ → List ℕ → Call
