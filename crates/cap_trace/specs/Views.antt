-- What a line says in the code, whose texts still lie in its bytes, seen as the entry of Entry.
use Rattle.std.specs.Prelude.{◌≡◌, ℕ, Bool, true, false, List, [], ◌∷◌, Result, Ok, Err}
use Rattle.cap_trace.specs.Call.{Call}
use Rattle.cap_trace.specs.Call as calls
use Rattle.cap_trace.specs.Item.{Item}
use Rattle.cap_trace.specs.Item as items
use Rattle.cap_trace.specs.declared.calls.Form.{Form}
use Rattle.cap_trace.specs.declared.calls.Form.TheVariants as forms
use Rattle.cap_trace.specs.declared.line.Call as code_call
use Rattle.cap_trace.specs.declared.line.Call.TheVariants as view
use Rattle.cap_trace.specs.declared.line.Item as code_item
use Rattle.cap_trace.specs.declared.line.Item.TheVariants as view_items
use Rattle.cap_trace.specs.declared.forms.Event as code_event
use Rattle.cap_trace.specs.declared.forms.Event.TheVariants as view_event
use Rattle.cap_trace.specs.Entry.{Arg, an_fd, a_dir, some_flags, some_rights, a_path, a_command, a_word}
use Rattle.cap_trace.specs.Entry.{free_text, dest, set_fd, dup_to}
use Rattle.cap_trace.specs.declared.args.ArgRef.{ArgRef}
use Rattle.cap_trace.specs.declared.args.ArgRef.TheVariants as view_args
use Rattle.cap_trace.specs.declared.fault.FirstFault.{FirstFault}
use Rattle.cap_trace.specs.declared.args.Arguments.{Arguments}
use Rattle.cap_trace.specs.Arguments.{argument_items}
use Rattle.cap_trace.specs.Forms.{Event, a_call, a_marker}
use Rattle.cap_trace.specs.Quotes.{pieces}
use Rattle.cap_trace.specs.Reading.{Gives, fd_at}

-- the descriptors that the parts spell
unfoldable pub fds_in : List (List ℕ) → List ℕ
fds_in [] = []
fds_in (t ∷ ts) = elim (fd_at t) [ Ok f ↦ f ∷ fds_in ts | Err e ↦ fds_in ts ]

-- what the first part spells, and the parts after it
abbrev pub TakesFd : List (List ℕ) → Result ℕ FirstFault → List (List ℕ) → Type 0
TakesFd parts fd others = (t : List ℕ) × (parts ≡ t ∷ others) × Gives (λ f. f) fd (fd_at t)

abbrev pub arg_view : ArgRef → Arg
arg_view (view_args.Fd f) = an_fd f
arg_view (view_args.Dir d) = a_dir d
arg_view (view_args.Flags w) = some_flags w.now
arg_view (view_args.Rights r) = some_rights r
arg_view (view_args.Path p) = a_path p.now
arg_view (view_args.Command w) = a_command w.now
arg_view view_args.Dest = a_word dest
arg_view view_args.SetFd = a_word set_fd
arg_view (view_args.DupTo c) = a_word (dup_to c)
arg_view (view_args.Free a) = free_text a.now

abbrev pub args_view : Arguments ArgRef → List Arg
args_view args = argument_items arg_view args

abbrev pub call_view : code_call.Call → Call
call_view (view.OnFd c x) = calls.OnFd c x
call_view (view.Send c x) = calls.Send c x
call_view (view.SendTo c x) = calls.SendTo c x
call_view (view.Accept4 x y) = calls.Accept4 x y.now
call_view (view.Dup2 x y) = calls.Dup2 x y
call_view (view.Fcntl x y) = calls.Fcntl x y.now
call_view (view.FcntlDup c x y) = calls.FcntlDup c x y
call_view (view.FcntlSetFd x y) = calls.FcntlSetFd x y.now
call_view (view.Mmap x y z) = calls.Mmap x y.now z.now
call_view (view.RightsLimit x y) = calls.RightsLimit x y
call_view (view.Open x y) = calls.Open x.now y.now
call_view (view.OnPath c x) = calls.OnPath c x.now
call_view (view.OnPaths c x y) = calls.OnPaths c x.now y.now
call_view (view.At c x y) = calls.At c x y.now
call_view (view.AtFlags c x y z) = calls.AtFlags c x y.now z.now
call_view (view.SymlinkAt x y z) = calls.SymlinkAt x.now y z.now
call_view (view.RenameAt x y z u) = calls.RenameAt x y.now z u.now
call_view (view.LinkAt x y z u v) = calls.LinkAt x y.now z u.now v.now
call_view (view.OnFlags c x) = calls.OnFlags c x.now
call_view (view.Bare c) = calls.Bare c
call_view (view.Other n a) = calls.Other n.now a.now

-- whether a form is that of a call, and not of a marker
abbrev pub is_call_form : Form → Bool
is_call_form forms.Start = false
is_call_form forms.Exit = false
is_call_form forms.Foreign = false
is_call_form (forms.Needs m) = false
is_call_form forms.Global = false
is_call_form f = true

-- the descriptors of a start, whose text this is
abbrev pub fds_spelled : List ℕ → List ℕ
fds_spelled text = fds_in (pieces text)

abbrev pub item_view : code_item.Item → Item
item_view (view_items.Call c a) = items.Call (call_view c) a
item_view (view_items.Start text) = items.Start (fds_spelled text.now)
item_view view_items.Exit = items.Exit
item_view (view_items.Foreign f) = items.Foreign f
item_view (view_items.Needs m f r) = items.Needs m f r
item_view view_items.Global = items.Global

abbrev pub event_view : code_event.Event → Event
event_view (view_event.Call c) = a_call (call_view c)
event_view (view_event.Marker i) = a_marker (item_view i)
