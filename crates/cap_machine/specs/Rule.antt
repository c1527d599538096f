-- What a line is judged by: for each form of call the descriptors to check, the rights that each needs (Needs), and
-- whether capability mode allows or forbids the call (capsicum(4), cap_enter(2)).
use Rattle.std.specs.Prelude.{ℕ, ◌==◌, ◌&&◌, not, Bool, true, false, if◌then◌else◌, List, [], ◌∷◌, Option, Some, None}
use Rattle.std.specs.List.{list_any}
use Rattle.cap_rights.specs.Rights.{none, all, without_full}
use Rattle.cap_trace.specs.Item.{Item}
use Rattle.cap_trace.specs.Item as items
use Rattle.cap_trace.specs.Call.{Call}
use Rattle.cap_trace.specs.Call as calls
use Rattle.cap_trace.specs.declared.line.Answer.{Answer}
use Rattle.cap_trace.specs.declared.line.Answer.TheVariants as answers
-- tools/calls.py: variants
use Rattle.cap_trace.specs.declared.calls.FdCall.{FdCall}
use Rattle.cap_trace.specs.declared.calls.FdCall.TheVariants.{Read, Readv, Pread, Preadv, Write, Writev, Pwrite}
use Rattle.cap_trace.specs.declared.calls.FdCall.TheVariants.{Pwritev, Lseek, Fstat, Fsync, Ftruncate, Close, Closefrom}
use Rattle.cap_trace.specs.declared.calls.FdCall.TheVariants.{Dup}
use Rattle.cap_trace.specs.declared.calls.BareCall.{BareCall}
use Rattle.cap_trace.specs.declared.calls.BareCall.TheVariants.{Fork, CapEnter}
-- end
use Rattle.cap_trace.specs.declared.calls.NeedsMarker.{NeedsMarker}
use Rattle.cap_trace.specs.declared.calls.NeedsMarker.TheVariants.{Uses, Refused}
use Rattle.cap_trace.specs.Entry.{Entry}
use Rattle.cap_machine.specs.declared.rule.Class.{Class}
use Rattle.cap_machine.specs.declared.rule.Class.TheVariants.{Forbidden, Allowed, Either}
use Rattle.cap_machine.specs.declared.rule.Reply.{Reply}
use Rattle.cap_machine.specs.declared.rule.Reply.TheVariants.{Success, NotCapable, NotPermitted, Other}
use Rattle.cap_machine.specs.declared.rule.LimitWord.TheVariants.{Missing, Expanded}
use Rattle.cap_machine.specs.declared.rule.Check.{Check}
use Rattle.cap_machine.specs.declared.rule.Checks.{Checks}
use Rattle.cap_machine.specs.declared.rule.Checks.TheVariants.{Nothing, One, Two}
use Rattle.cap_machine.specs.declared.rule.Requirement.{Requirement}
use Rattle.cap_machine.specs.Errno.{enotcapable, ecapmode}
use Rattle.cap_machine.specs.Flags.{all_known}
use Rattle.cap_machine.specs.Places.{Place, place, is_empty, is_global, below}
use Rattle.cap_machine.specs.Needs.{fd_needs, fd_excuse, send_needs, send_to_needs, accept_needs, fcntl_needs}
use Rattle.cap_machine.specs.Needs.{mmap_needs, mmap_excuse, at_needs, at_flags_needs, symlink_needs, rename_from_needs}
use Rattle.cap_machine.specs.Needs.{rename_to_needs, link_from_needs, link_to_needs, plain_flags, plain_at_flags}

-- the kind of an answer (errno(2))
abbrev pub reply : Answer → Reply
reply (answers.Fault e) = if e == enotcapable then NotCapable else if e == ecapmode then NotPermitted else Other
reply _ = Success

abbrev pub check_of : ℕ → ℕ → Option ℕ → Check
check_of f needs excuse = record { fd = f; needs = needs; excuse = excuse }

-- ---- a call on one descriptor

abbrev pub on_one : Class → Check → Answer → Requirement
on_one class check answer = record {
  class = class;
  checks = One check;
  reply = reply answer;
  at = false;
  word = Missing;
}

-- capsicum(4) allows these on a descriptor in capability mode
abbrev pub fd_class : FdCall → Class
-- tools/calls.py: fd_class
fd_class Read = Allowed
fd_class Readv = Allowed
fd_class Pread = Allowed
fd_class Preadv = Allowed
fd_class Write = Allowed
fd_class Writev = Allowed
fd_class Pwrite = Allowed
fd_class Pwritev = Allowed
fd_class Lseek = Allowed
fd_class Fstat = Allowed
fd_class Fsync = Allowed
fd_class Ftruncate = Allowed
fd_class Close = Allowed
fd_class Dup = Allowed
fd_class _ = Either

-- end

-- where there is nothing to check
abbrev pub on_none : Class → Answer → Requirement
on_none class answer = record { class = class; checks = Nothing; reply = reply answer; at = false; word = Missing }

-- closefrom(2) needs no descriptor to be open
abbrev pub fd_requirement : FdCall → ℕ → Answer → Requirement
fd_requirement Closefrom f answer = on_none Either answer
fd_requirement call f answer = on_one (fd_class call) (check_of f (fd_needs call) (fd_excuse call)) answer

abbrev pub fcntl_requirement : Option ℕ → ℕ → Answer → Requirement
fcntl_requirement None f answer = on_none Either answer
fcntl_requirement (Some needs) f answer = on_one Either (check_of f needs None) answer

-- a limit needs the rights that it asks for, since it can only take away; what it gives beyond them has a word of its
-- own. ALL is refused rightly to a descriptor that was limited to all 63 by name
abbrev pub limit_requirement : ℕ → ℕ → Answer → Requirement
limit_requirement f asked answer = record {
  class = Allowed;
  checks = One (check_of f (without_full asked) (Some asked));
  reply = reply answer;
  at = false;
  word = Expanded;
}

-- ---- a call at a directory

abbrev pub has_global : List Place → Bool
has_global places = list_any (λ (x : Place). is_global x.dir x.path) places

abbrev pub has_empty : List Place → Bool
has_empty places = list_any (λ (x : Place). is_empty x.path) places

-- errno 93 may come from a path that leaves its directory. It is judged where the directories were never limited, and
-- not where an empty path or flags of unknown meaning stand there
abbrev pub at_excuse : Bool → List Place → Option ℕ
at_excuse is_plain places = if is_plain && not (has_empty places) then Some all else None

-- the directory of a relative path is checked
abbrev pub place_check : Option ℕ → Place → Option Check
place_check excuse x = elim (below x.dir x.path) [ None ↦ None | Some f ↦ Some (check_of f x.needs excuse) ]

abbrev pub both : Option Check → Option Check → Checks
both None None = Nothing
both (Some a) None = One a
both None (Some b) = One b
both (Some a) (Some b) = Two a b

abbrev pub place_checks : Option ℕ → List Place → Checks
place_checks excuse [] = Nothing
place_checks excuse (a ∷ []) = both (place_check excuse a) None
place_checks excuse (a ∷ b ∷ more) = both (place_check excuse a) (place_check excuse b)

abbrev pub at_requirement : Bool → List Place → Answer → Requirement
at_requirement is_plain places answer = record {
  class = if has_global places then Forbidden else Either;
  checks = place_checks (at_excuse is_plain places) places;
  reply = reply answer;
  at = true;
  word = Missing;
}

-- ---- each form of call

abbrev pub bare_class : BareCall → Class
-- tools/calls.py: bare_class
bare_class Fork = Allowed
bare_class CapEnter = Allowed
bare_class _ = Either

-- end

abbrev pub call_requirement : Call → Answer → Requirement
call_requirement (calls.OnFd call f) answer = fd_requirement call f answer
call_requirement (calls.Send call f) answer = on_one Either (check_of f send_needs (Some send_needs)) answer
call_requirement (calls.SendTo call f) answer = on_one Either (check_of f send_to_needs (Some send_to_needs)) answer
call_requirement (calls.Accept4 f flags) answer = on_one Either (check_of f accept_needs (Some accept_needs)) answer
call_requirement (calls.Dup2 f g) answer = on_one Allowed (check_of f none (Some none)) answer
call_requirement (calls.Fcntl f command) answer = fcntl_requirement (fcntl_needs command) f answer
call_requirement (calls.FcntlDup command f g) answer = fcntl_requirement (Some none) f answer
call_requirement (calls.FcntlSetFd f flags) answer = fcntl_requirement (Some none) f answer
call_requirement (calls.Mmap f protection kind) answer =
    on_one Either (check_of f (mmap_needs protection kind) (Some mmap_excuse)) answer
call_requirement (calls.RightsLimit f asked) answer = limit_requirement f asked answer
call_requirement (calls.Open path flags) answer = on_none Forbidden answer
call_requirement (calls.OnPath call path) answer = on_none Forbidden answer
call_requirement (calls.OnPaths call path other) answer = on_none Forbidden answer
call_requirement (calls.At call dir path) answer = at_requirement true (place dir path (at_needs call) ∷ []) answer
call_requirement (calls.AtFlags call dir path flags) answer =
    at_requirement (all_known (plain_flags call) flags) (place dir path (at_flags_needs call flags) ∷ []) answer
call_requirement (calls.SymlinkAt target dir path) answer = at_requirement true
    (place dir path symlink_needs ∷ []) answer
call_requirement (calls.RenameAt dir path to_dir to_path) answer =
    at_requirement true (place dir path rename_from_needs ∷ place to_dir to_path rename_to_needs ∷ []) answer
call_requirement (calls.LinkAt dir path to_dir to_path flags) answer = at_requirement (all_known plain_at_flags flags)
    (place dir path link_from_needs ∷ place to_dir to_path link_to_needs ∷ []) answer
call_requirement (calls.OnFlags call flags) answer = on_none Either answer
call_requirement (calls.Bare call) answer = on_none (bare_class call) answer
call_requirement (calls.Other name args) answer = on_none Either answer

-- ---- markers

-- a marker of needs is judged like a call on one descriptor: one that succeeded, or one that errno 93 refused. That
-- refusal is never called wrong
abbrev pub needs_reply : NeedsMarker → Reply
needs_reply Uses = Success
needs_reply Refused = NotCapable

abbrev pub needs_requirement : NeedsMarker → ℕ → ℕ → Requirement
needs_requirement marker f rights = record {
  class = Either;
  checks = One (check_of f (without_full rights) None);
  reply = needs_reply marker;
  at = false;
  word = Missing;
}

-- `@global()` is judged like a call that capability mode forbids, and that succeeded
abbrev pub global_requirement : Requirement
global_requirement = record { class = Forbidden; checks = Nothing; reply = Success; at = false; word = Missing }

-- nothing is said of any other marker
abbrev pub unjudged : Requirement
unjudged = record { class = Either; checks = Nothing; reply = Other; at = false; word = Missing }

abbrev pub item_requirement : Item → Requirement
item_requirement (items.Call call answer) = call_requirement call answer
item_requirement (items.Needs marker f rights) = needs_requirement marker f rights
item_requirement items.Global = global_requirement
item_requirement _ = unjudged

-- what a line is judged by
abbrev pub requirement : Entry → Requirement
requirement line = item_requirement line.item
