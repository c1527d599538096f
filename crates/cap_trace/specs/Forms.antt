-- The form of each name: the arguments that it asks for, and the call that they make.
use Rattle.std.specs.Prelude.{ℕ, List, [], ◌∷◌, codes, Result, Ok, Err, if◌then◌else◌}
use Rattle.std.specs.Str.{bytes_eq}
use Rattle.cap_trace.specs.declared.fault.FirstFault.{FirstFault}
use Rattle.cap_trace.specs.declared.fault.FirstFault.TheVariants as faults
use Rattle.cap_trace.specs.Item.{Item}
use Rattle.cap_trace.specs.Item as items
use Rattle.cap_trace.specs.Call.{Call}
use Rattle.cap_trace.specs.Call as calls
use Rattle.cap_trace.specs.declared.calls.DupCommand.TheVariants as dup_commands
use Rattle.cap_trace.specs.declared.calls.Form.{Form}
use Rattle.cap_trace.specs.declared.calls.Form.TheVariants as forms
use Rattle.cap_trace.specs.Names.{Head, listed, unlisted}
use Rattle.cap_trace.specs.Entry.{Arg, an_fd, a_dir, some_flags, some_rights, a_path, a_command, a_word, free_text}
use Rattle.cap_trace.specs.Entry.{Word, dest, set_fd, dup_to}

-- the kinds of argument
pub data Slot : Type 0 where
  fd : Slot
  dir : Slot
  flags : Slot
  rights : Slot
  path : Slot
  command : Slot
  word : Word → Slot
  free : Slot

-- arguments of these kinds, or any number of descriptors, each above the one before it
pub data Shape : Type 0 where
  these : List Slot → Shape
  rising_fds : Shape

-- a second argument says that a destination was given
abbrev pub send_shape : List (List ℕ) → List Slot
send_shape [] = fd ∷ []
send_shape (a ∷ []) = fd ∷ []
send_shape (a ∷ b ∷ more) = fd ∷ word dest ∷ []

-- the command decides on a third argument
abbrev pub command_shape : List ℕ → List Slot
command_shape w =
    if bytes_eq w (codes "F_SETFD") then fd ∷ word set_fd ∷ flags ∷ []
    else if bytes_eq w (codes "F_DUP2FD") then fd ∷ word (dup_to dup_commands.FDup2fd) ∷ fd ∷ []
    else if bytes_eq w (codes "F_DUP2FD_CLOEXEC") then fd ∷ word (dup_to dup_commands.FDup2fdCloexec) ∷ fd ∷ []
    else fd ∷ command ∷ []

abbrev pub fcntl_shape : List (List ℕ) → List Slot
fcntl_shape [] = fd ∷ command ∷ []
fcntl_shape (a ∷ []) = fd ∷ command ∷ []
fcntl_shape (a ∷ w ∷ []) = fd ∷ command ∷ []
fcntl_shape (a ∷ w ∷ b ∷ more) = command_shape w

abbrev pub form_shape : Form → List (List ℕ) → Shape
form_shape (forms.OnFd c) ts = these (fd ∷ [])
form_shape (forms.Send c) ts = these (send_shape ts)
form_shape forms.Accept4 ts = these (fd ∷ flags ∷ [])
form_shape forms.Dup2 ts = these (fd ∷ fd ∷ [])
form_shape forms.Fcntl ts = these (fcntl_shape ts)
form_shape forms.Mmap ts = these (fd ∷ flags ∷ flags ∷ [])
form_shape forms.RightsLimit ts = these (fd ∷ rights ∷ [])
form_shape forms.Open ts = these (path ∷ flags ∷ [])
form_shape (forms.OnPath c) ts = these (path ∷ [])
form_shape (forms.OnPaths c) ts = these (path ∷ path ∷ [])
form_shape (forms.At c) ts = these (dir ∷ path ∷ [])
form_shape (forms.AtFlags c) ts = these (dir ∷ path ∷ flags ∷ [])
form_shape forms.SymlinkAt ts = these (path ∷ dir ∷ path ∷ [])
form_shape forms.RenameAt ts = these (dir ∷ path ∷ dir ∷ path ∷ [])
form_shape forms.LinkAt ts = these (dir ∷ path ∷ dir ∷ path ∷ flags ∷ [])
form_shape (forms.OnFlags c) ts = these (flags ∷ [])
form_shape (forms.Bare c) ts = these []
form_shape forms.Start ts = rising_fds
form_shape forms.Exit ts = these []
form_shape forms.Foreign ts = these (fd ∷ [])
form_shape (forms.Needs m) ts = these (fd ∷ rights ∷ [])
form_shape forms.Global ts = these []

-- what a name asks for, where these texts stand in its brackets
abbrev pub shape_of : Head → List (List ℕ) → Shape
shape_of (listed f) ts = form_shape f ts
shape_of (unlisted n) ts = these (free ∷ [])

-- a call without its answer, or a marker
pub data Event : Type 0 where
  a_call : Call → Event
  a_marker : Item → Event

-- what a name says of arguments that have its shape
abbrev pub built : Head → List Arg → Result Event FirstFault
built (listed (forms.OnFd c)) (an_fd x ∷ []) = Ok (a_call (calls.OnFd c x))
built (listed (forms.Send c)) (an_fd x ∷ []) = Ok (a_call (calls.Send c x))
built (listed (forms.Send c)) (an_fd x ∷ a_word dest ∷ []) = Ok (a_call (calls.SendTo c x))
built (listed forms.Accept4) (an_fd x ∷ some_flags y ∷ []) = Ok (a_call (calls.Accept4 x y))
built (listed forms.Dup2) (an_fd x ∷ an_fd y ∷ []) = Ok (a_call (calls.Dup2 x y))
built (listed forms.Fcntl) (an_fd x ∷ a_command y ∷ []) = Ok (a_call (calls.Fcntl x y))
built (listed forms.Fcntl) (an_fd x ∷ a_word (dup_to c) ∷ an_fd y ∷ []) = Ok (a_call (calls.FcntlDup c x y))
built (listed forms.Fcntl) (an_fd x ∷ a_word set_fd ∷ some_flags y ∷ []) = Ok (a_call (calls.FcntlSetFd x y))
built (listed forms.Mmap) (an_fd x ∷ some_flags y ∷ some_flags z ∷ []) = Ok (a_call (calls.Mmap x y z))
built (listed forms.RightsLimit) (an_fd x ∷ some_rights y ∷ []) = Ok (a_call (calls.RightsLimit x y))
built (listed forms.Open) (a_path x ∷ some_flags y ∷ []) = Ok (a_call (calls.Open x y))
built (listed (forms.OnPath c)) (a_path x ∷ []) = Ok (a_call (calls.OnPath c x))
built (listed (forms.OnPaths c)) (a_path x ∷ a_path y ∷ []) = Ok (a_call (calls.OnPaths c x y))
built (listed (forms.At c)) (a_dir x ∷ a_path y ∷ []) = Ok (a_call (calls.At c x y))
built (listed (forms.AtFlags c)) (a_dir x ∷ a_path y ∷ some_flags z ∷ []) = Ok (a_call (calls.AtFlags c x y z))
built (listed forms.SymlinkAt) (a_path x ∷ a_dir y ∷ a_path z ∷ []) = Ok (a_call (calls.SymlinkAt x y z))
built (listed forms.RenameAt) (a_dir x ∷ a_path y ∷ a_dir z ∷ a_path u ∷ []) = Ok (a_call (calls.RenameAt x y z u))
built (listed forms.LinkAt) (a_dir x ∷ a_path y ∷ a_dir z ∷ a_path u ∷ some_flags v ∷ []) =
    Ok (a_call (calls.LinkAt x y z u v))
built (listed (forms.OnFlags c)) (some_flags x ∷ []) = Ok (a_call (calls.OnFlags c x))
built (listed (forms.Bare c)) [] = Ok (a_call (calls.Bare c))
built (listed forms.Exit) [] = Ok (a_marker items.Exit)
built (listed forms.Foreign) (an_fd x ∷ []) = Ok (a_marker (items.Foreign x))
built (listed (forms.Needs m)) (an_fd x ∷ some_rights y ∷ []) = Ok (a_marker (items.Needs m x y))
built (listed forms.Global) [] = Ok (a_marker items.Global)
built (unlisted n) (free_text a ∷ []) = Ok (a_call (calls.Other n a))
built h given = Err faults.Argument
