-- What a call needs of a descriptor is closed: it asks with each right for all that the name of that right stands for.
use Rattle.std.proofs.Common.{◌≡◌, ℕ, ◌<◌, ◌==◌, Bool, true, false, ◌&&◌, if◌then◌else◌, List, []}
use Rattle.std.proofs.Common.{◌∷◌, Option, Some, None, refl, inl, inr}
use Rattle.std.specs.Prelude.{codes}
use Rattle.std.specs.Str.{bytes_eq}
use Rattle.std.proofs.lemmas.Bool.{and_parts, or_right, or_cases}
use Rattle.cap_rights.specs.Names.{value_at}
use Rattle.cap_rights.specs.Rights.{none, holds}
use Rattle.cap_trace.specs.Item.{Item}
use Rattle.cap_trace.specs.Item as items
use Rattle.cap_trace.specs.Call.{Call}
use Rattle.cap_trace.specs.Call as calls
use Rattle.cap_trace.specs.Entry.{args_of, args_of_call}
use Rattle.cap_trace.specs.declared.line.Answer.{Answer}
use Rattle.cap_trace.specs.declared.calls.FdCall.{FdCall}
use Rattle.cap_trace.specs.declared.calls.FdCall.TheVariants.{Close, Closefrom, Dup, CapIoctlsLimit, CapFcntlsLimit}
use Rattle.cap_trace.specs.declared.calls.AtCall.{AtCall}
use Rattle.cap_trace.specs.declared.calls.AtCall.TheVariants.{Mkdirat}
use Rattle.cap_trace.specs.declared.calls.AtFlagsCall.{AtFlagsCall}
use Rattle.cap_trace.specs.declared.calls.AtFlagsCall.TheVariants.{Openat}
use Rattle.cap_machine.specs.declared.rule.Check.{Check}
use Rattle.cap_machine.specs.Flags.{is_one_of}
use Rattle.cap_machine.specs.Needs.{named, asked, fd_needs, send_needs, send_to_needs, accept_needs, fcntl_needs}
use Rattle.cap_machine.specs.Needs.{descriptor_commands, status_commands, lock_commands, mmap_needs, at_needs}
use Rattle.cap_machine.specs.Needs.{access_needs, opening_needs, openat_needs, at_flags_needs, symlink_needs}
use Rattle.cap_machine.specs.Needs.{rename_from_needs, rename_to_needs, link_from_needs, link_to_needs}
use Rattle.cap_machine.specs.Places.{Place, below}
use Rattle.cap_machine.specs.Judge.{listed}
use Rattle.cap_limits.specs.Live.{checks_need}
use Rattle.cap_machine.specs.Rule.{fd_requirement, fcntl_requirement, call_requirement, item_requirement, place_check}
use Rattle.cap_machine.specs.Rule.{place_checks, both}
use Rattle.cap_session.proofs.ClosedSets.{IsClosed, none_closed, join_closed, without_full_closed, found_closed}
use Rattle.cap_session.proofs.FineLines.{FineArgs}

-- each check needs a closed set
abbrev pub AllClosed : List Check → Type 0
AllClosed [] = Unit {0}
AllClosed (check ∷ checks) = IsClosed check.needs × AllClosed checks

-- ---- the needs of each call

chosen : (b : Bool) (m n : ℕ) → IsClosed m → IsClosed n → IsClosed (if b then m else n)
chosen true m n first second = first
chosen false m n first second = second

asked_closed : (b : Bool) (n : ℕ) → IsClosed n → IsClosed (asked b n)
asked_closed b n is = chosen b n none is none_closed

by_name : (name : List ℕ) → IsClosed (named name)
unfolding named
by_name name = found_closed (λ row. bytes_eq row.0 name)

fd_closed : (call : FdCall) → IsClosed (fd_needs call)
unfolding fd_needs
fd_closed Close = none_closed
fd_closed Closefrom = none_closed
fd_closed Dup = none_closed
fd_closed CapIoctlsLimit = none_closed
fd_closed CapFcntlsLimit = none_closed
fd_closed _ = by_name _

-- a need that is there is closed
abbrev IsClosedOption : Option ℕ → Type 0
IsClosedOption None = Unit {0}
IsClosedOption (Some n) = IsClosed n

fcntl_closed : (command : List ℕ) → IsClosedOption (fcntl_needs command)
unfolding fcntl_needs
fcntl_closed command =
    one (is_one_of descriptor_commands command) (is_one_of status_commands command) (is_one_of lock_commands command)
  where
    one : (a b c : Bool) → IsClosedOption (if a then Some none else if b then Some (named (codes "CAP_FCNTL"))
        else if c then Some (named (codes "CAP_FLOCK")) else None)
    one true b c = none_closed
    one false true c = by_name _
    one false false true = by_name _
    one false false false = tt

mmap_closed : (protection kind : List ℕ) → IsClosed (mmap_needs protection kind)
unfolding mmap_needs
mmap_closed protection kind = search (join_closed, asked_closed, by_name)

at_closed : (call : AtCall) → IsClosed (at_needs call)
unfolding at_needs
at_closed Mkdirat = by_name _
at_closed _ = by_name _

access_closed : (flags : List ℕ) → IsClosed (access_needs flags)
unfolding access_needs
access_closed flags = search (chosen, join_closed, by_name)

opening_closed : (flags : List ℕ) → IsClosed (opening_needs flags)
unfolding opening_needs
opening_closed flags = search (join_closed, asked_closed, by_name)

openat_closed : (flags : List ℕ) → IsClosed (openat_needs flags)
unfolding openat_needs
openat_closed flags = search (chosen, join_closed, by_name, access_closed, opening_closed)

at_flags_closed : (call : AtFlagsCall) (flags : List ℕ) → IsClosed (at_flags_needs call flags)
unfolding at_flags_needs
at_flags_closed Openat flags = openat_closed flags
at_flags_closed _ flags = by_name _

-- ---- calls at a directory

abbrev IsClosedCheck : Option Check → Type 0
IsClosedCheck None = Unit {0}
IsClosedCheck (Some check) = IsClosed check.needs

place_closed : (excuse : Option ℕ) (x : Place) → IsClosed x.needs → IsClosedCheck (place_check excuse x)
place_closed excuse x is = elim (below x.dir x.path) as (λ b. IsClosedCheck (elim b [
  | None ↦ None
  | Some f ↦ Some (record { fd = f; needs = x.needs; excuse = excuse })
])) [ None ↦ tt | Some f ↦ is ]

both_closed : (a b : Option Check) → IsClosedCheck a → IsClosedCheck b → AllClosed (listed (both a b))
both_closed None None first second = tt
both_closed (Some a) None first second = (first, tt)
both_closed None (Some b) first second = (second, tt)
both_closed (Some a) (Some b) first second = (first, (second, tt))

one_place : (excuse : Option ℕ) (x : Place) → IsClosed x.needs → AllClosed (listed (place_checks excuse (x ∷ [])))
one_place excuse x is = both_closed (place_check excuse x) None (place_closed excuse x is) tt

two_places : (excuse : Option ℕ) (x y : Place) → IsClosed x.needs → IsClosed y.needs
    → AllClosed (listed (place_checks excuse (x ∷ y ∷ [])))
two_places excuse x y first second = both_closed (place_check excuse x) (place_check excuse y)
    (place_closed excuse x first) (place_closed excuse y second)

-- ---- each form of call

fd_checks : (call : FdCall) (f : ℕ) (answer : Answer) → AllClosed (listed (fd_requirement call f answer).checks)
fd_checks Closefrom f answer = tt
fd_checks call f answer = (fd_closed call, tt)

fcntl_checks : (needs : Option ℕ) (f : ℕ) (answer : Answer) → IsClosedOption needs
    → AllClosed (listed (fcntl_requirement needs f answer).checks)
fcntl_checks None f answer is = tt
fcntl_checks (Some n) f answer is = (is, tt)

call_checks : (call : Call) (answer : Answer) → FineArgs (args_of_call call)
    → AllClosed (listed (call_requirement call answer).checks)
unfolding send_needs send_to_needs accept_needs symlink_needs rename_from_needs rename_to_needs link_from_needs link_to_needs
call_checks (calls.OnFd call f) answer fine = fd_checks call f answer
call_checks (calls.Send call f) answer fine = (by_name _, tt)
call_checks (calls.SendTo call f) answer fine = (join_closed _ _ (by_name _) (by_name _), tt)
call_checks (calls.Accept4 f flags) answer fine = (by_name _, tt)
call_checks (calls.Dup2 f g) answer fine = (none_closed, tt)
call_checks (calls.Fcntl f command) answer fine = fcntl_checks (fcntl_needs command) f answer (fcntl_closed command)
call_checks (calls.FcntlDup command f g) answer fine = (none_closed, tt)
call_checks (calls.FcntlSetFd f flags) answer fine = (none_closed, tt)
call_checks (calls.Mmap f protection kind) answer fine = (mmap_closed protection kind, tt)
call_checks (calls.RightsLimit f asked) answer fine = (without_full_closed asked fine.1.0, tt)
call_checks (calls.At call dir path) answer fine =
    one_place _ (record { dir = dir; path = path; needs = at_needs call }) (at_closed call)
call_checks (calls.AtFlags call dir path flags) answer fine =
    one_place _ (record { dir = dir; path = path; needs = at_flags_needs call flags }) (at_flags_closed call flags)
call_checks (calls.SymlinkAt target dir path) answer fine =
    one_place _ (record { dir = dir; path = path; needs = symlink_needs }) (by_name _)
call_checks (calls.RenameAt dir path to_dir to_path) answer fine =
    two_places _ (record { dir = dir; path = path; needs = rename_from_needs })
    (record { dir = to_dir; path = to_path; needs = rename_to_needs }) (by_name _) (by_name _)
call_checks (calls.LinkAt dir path to_dir to_path flags) answer fine =
    two_places _ (record { dir = dir; path = path; needs = link_from_needs })
    (record { dir = to_dir; path = to_path; needs = link_to_needs }) (by_name _) (by_name _)
call_checks _ answer fine = tt

pub item_checks : (item : Item) → FineArgs (args_of item) → AllClosed (listed (item_requirement item).checks)
item_checks (items.Call call answer) fine = call_checks call answer fine
item_checks (items.Needs marker f rights) fine = (without_full_closed rights fine.1.0, tt)
item_checks _ fine = tt

-- ---- what checks need

-- where right k of a descriptor is needed, so is each right that the name of right k stands for
pub needs_more : (checks : List Check) (f k j : ℕ) → k < 63 → holds (value_at k) j ≡ true → AllClosed checks
    → checks_need checks f k ≡ true → checks_need checks f j ≡ true
needs_more [] f k j lt value are is = absurd (cc)
needs_more (check ∷ checks) f k j lt value are is =
    elim (or_cases (check.fd == f && holds check.needs k) (checks_need checks f k) is) [
      | inl here ↦
          let parts = and_parts (check.fd == f) (holds check.needs k) here in
          rw (parts.0, are.0.closed k j lt value parts.1) refl
      | inr later ↦ or_right (check.fd == f && holds check.needs j) (checks_need checks f j)
          (needs_more checks f k j lt value are.1 later)
    ]
