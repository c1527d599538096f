-- No call needs FULL: each need is a set of named rights.
use Rattle.std.proofs.Common.{lit<, ltb, refl, ◌≡◌, ℕ, ◌^◌, ◌<◌, Bool, true, false, ◌&&◌, ◌||◌, if◌then◌else◌, List, []}
use Rattle.std.proofs.Common.{◌∷◌, Option, Some, None}
use Rattle.std.specs.Int.Bits.{mask_lt}
use Rattle.std.specs.Prelude.{codes, find}
use Rattle.std.specs.Option.{option_map_or}
use Rattle.std.specs.Str.{bytes_eq}
use borrow.Author.Tests.{ltb-true}
use Rattle.std.proofs.lemmas.Nat.{or_lt}
use Rattle.std.proofs.lemmas.Bool.{and_parts}
use Rattle.cap_rights.specs.Names.{table}
use Rattle.cap_rights.specs.Rights.{join, none}
use Rattle.cap_trace.specs.Item.{Item}
use Rattle.cap_trace.specs.Item as items
use Rattle.cap_trace.specs.Call.{Call}
use Rattle.cap_trace.specs.Call as calls
use Rattle.cap_trace.specs.declared.line.Answer.{Answer}
use Rattle.cap_trace.specs.declared.calls.FdCall.{FdCall}
use Rattle.cap_trace.specs.declared.calls.FdCall.TheVariants.{Close, Closefrom, Dup}
use Rattle.cap_trace.specs.declared.calls.FdCall.TheVariants.{CapIoctlsLimit, CapFcntlsLimit}
use Rattle.cap_trace.specs.declared.calls.AtCall.{AtCall}
use Rattle.cap_trace.specs.declared.calls.AtCall.TheVariants.{Mkdirat}
use Rattle.cap_trace.specs.declared.calls.AtFlagsCall.{AtFlagsCall}
use Rattle.cap_trace.specs.declared.calls.AtFlagsCall.TheVariants.{Openat}
use Rattle.cap_machine.specs.declared.rule.Check.{Check}
use Rattle.cap_machine.specs.Flags.{has_flag, is_one_of}
use Rattle.cap_machine.specs.Needs.{named, asked, fd_needs, send_needs, send_to_needs, accept_needs, fcntl_needs}
use Rattle.cap_machine.specs.Needs.{descriptor_commands, status_commands, lock_commands, mmap_needs, at_needs}
use Rattle.cap_machine.specs.Needs.{access_needs, opening_needs, openat_needs, at_flags_needs, symlink_needs}
use Rattle.cap_machine.specs.Needs.{rename_from_needs, rename_to_needs, link_from_needs, link_to_needs}
use Rattle.cap_machine.specs.Places.{Place, below}
use Rattle.cap_machine.specs.Judge.{listed}
use Rattle.cap_machine.specs.Rule.{fd_requirement, fcntl_requirement, call_requirement, item_requirement, place_check}
use Rattle.cap_machine.specs.Rule.{place_checks, both}

abbrev pub IsNamed : ℕ → Type 0
IsNamed rights = rights < 2 ^ 63

-- each check needs named rights alone
abbrev pub AllNamed : List Check → Type 0
AllNamed [] = Unit {0}
AllNamed (check ∷ checks) = IsNamed check.needs × AllNamed checks

joined : (a b : ℕ) → IsNamed a → IsNamed b → IsNamed (join a b)
joined a b = or_lt 63 a b

chosen : (b : Bool) (m n : ℕ) → IsNamed m → IsNamed n → IsNamed (if b then m else n)
chosen true m n first second = first
chosen false m n first second = second

asked_named : (b : Bool) (n : ℕ) → IsNamed n → IsNamed (asked b n)
asked_named b n is = chosen b n none is (lit< tt)

-- each row of the table of names
abbrev below_full : List (List ℕ × ℕ) → Bool
below_full [] = true
below_full (row ∷ rows) = ltb row.1 (2 ^ 63) && below_full rows

row_named : (p : (List ℕ × ℕ) → Bool) (rows : List (List ℕ × ℕ)) → below_full rows ≡ true
    → IsNamed (option_map_or (λ row. row.1) (find p rows) none)
row_named p [] are = lit< tt
row_named p (row ∷ rows) are =
    let parts = and_parts (ltb row.1 (2 ^ 63)) (below_full rows) are in
    let more = row_named p rows parts.1 in
    elim (p row) as (λ b. IsNamed
    (option_map_or (λ (r : List ℕ × ℕ). r.1) (if b then Some row else find p rows) none)) [
      | true ↦ ltb-true row.1 (2 ^ 63) parts.0
      | false ↦ more
    ]

named_named : (name : List ℕ) → IsNamed (named name)
unfolding named table
named_named name = row_named (λ row. bytes_eq row.0 name) table refl

fd_named : (call : FdCall) → IsNamed (fd_needs call)
unfolding fd_needs
fd_named Close = lit< tt
fd_named Closefrom = lit< tt
fd_named Dup = lit< tt
fd_named CapIoctlsLimit = lit< tt
fd_named CapFcntlsLimit = lit< tt
fd_named _ = named_named _

-- a need that is there is named
abbrev IsNamedOption : Option ℕ → Type 0
IsNamedOption None = Unit {0}
IsNamedOption (Some n) = IsNamed n

fcntl_named : (command : List ℕ) → IsNamedOption (fcntl_needs command)
unfolding fcntl_needs
fcntl_named command =
    one (is_one_of descriptor_commands command) (is_one_of status_commands command) (is_one_of lock_commands command)
  where
    one : (a b c : Bool) → IsNamedOption (if a then Some none else if b then Some (named (codes "CAP_FCNTL")) else if c
        then Some (named (codes "CAP_FLOCK")) else None)
    one true b c = lit< tt
    one false true c = named_named _
    one false false true = named_named _
    one false false false = tt

mmap_named : (protection kind : List ℕ) → IsNamed (mmap_needs protection kind)
unfolding mmap_needs
mmap_named protection kind =
    joined _ _ (named_named _) (joined _ _ (asked_named (has_flag protection (codes "PROT_READ")) _ (named_named _))
    (joined _ _ (asked_named (has_flag protection (codes "PROT_EXEC")) _ (named_named _))
    (asked_named (has_flag protection (codes "PROT_WRITE") && has_flag kind (codes "MAP_SHARED")) _ (named_named _))))

at_named : (call : AtCall) → IsNamed (at_needs call)
unfolding at_needs
at_named Mkdirat = named_named _
at_named _ = named_named _

access_named : (flags : List ℕ) → IsNamed (access_needs flags)
unfolding access_needs
access_named flags =
    chosen (has_flag flags (codes "O_EXEC")) (named (codes "CAP_FEXECVE"))
    (if has_flag flags (codes "O_RDWR") then join (named (codes "CAP_READ")) (named (codes "CAP_WRITE"))
    else if has_flag flags (codes "O_WRONLY") then named (codes "CAP_WRITE") else named (codes "CAP_READ"))
    (named_named _)
    (chosen (has_flag flags (codes "O_RDWR")) (join (named (codes "CAP_READ")) (named (codes "CAP_WRITE")))
    (if has_flag flags (codes "O_WRONLY") then named (codes "CAP_WRITE") else named (codes "CAP_READ"))
    (joined _ _ (named_named _) (named_named _))
    (chosen (has_flag flags (codes "O_WRONLY")) (named (codes "CAP_WRITE")) (named (codes "CAP_READ")) (named_named _)
    (named_named _)))

opening_named : (flags : List ℕ) → IsNamed (opening_needs flags)
unfolding opening_needs
opening_named flags =
    joined _ _ (asked_named (has_flag flags (codes "O_CREAT")) _ (named_named _))
    (joined _ _ (asked_named (has_flag flags (codes "O_TRUNC")) _ (named_named _))
    (joined _ _ (asked_named (has_flag flags (codes "O_SYNC") || has_flag flags (codes "O_FSYNC")) _ (named_named _))
    (asked_named (has_flag flags (codes "O_EXLOCK") || has_flag flags (codes "O_SHLOCK")) _ (named_named _))))

openat_named : (flags : List ℕ) → IsNamed (openat_needs flags)
unfolding openat_needs
openat_named flags =
    chosen (has_flag flags (codes "O_PATH") || has_flag flags (codes "O_SEARCH")) _ _ (named_named _)
    (joined _ _ (named_named _) (joined _ _ (access_named flags) (opening_named flags)))

at_flags_named : (call : AtFlagsCall) (flags : List ℕ) → IsNamed (at_flags_needs call flags)
unfolding at_flags_needs
at_flags_named Openat flags = openat_named flags
at_flags_named _ flags = named_named _

-- ---- calls at a directory

abbrev IsNamedCheck : Option Check → Type 0
IsNamedCheck None = Unit {0}
IsNamedCheck (Some check) = IsNamed check.needs

place_named : (excuse : Option ℕ) (x : Place) → IsNamed x.needs → IsNamedCheck (place_check excuse x)
place_named excuse x is = elim (below x.dir x.path) as (λ b. IsNamedCheck (elim b [
  | None ↦ None
  | Some f ↦ Some (record { fd = f; needs = x.needs; excuse = excuse })
])) [ None ↦ tt | Some f ↦ is ]

both_named : (a b : Option Check) → IsNamedCheck a → IsNamedCheck b → AllNamed (listed (both a b))
both_named None None first second = tt
both_named (Some a) None first second = (first, tt)
both_named None (Some b) first second = (second, tt)
both_named (Some a) (Some b) first second = (first, (second, tt))

one_place : (excuse : Option ℕ) (x : Place) → IsNamed x.needs → AllNamed (listed (place_checks excuse (x ∷ [])))
one_place excuse x is = both_named (place_check excuse x) None (place_named excuse x is) tt

two_places : (excuse : Option ℕ) (x y : Place) → IsNamed x.needs → IsNamed y.needs
    → AllNamed (listed (place_checks excuse (x ∷ y ∷ [])))
two_places excuse x y first second =
    both_named (place_check excuse x) (place_check excuse y) (place_named excuse x first) (place_named excuse y second)

-- ---- each form of call

fd_checks : (call : FdCall) (f : ℕ) (answer : Answer) → AllNamed (listed (fd_requirement call f answer).checks)
fd_checks Closefrom f answer = tt
fd_checks call f answer = (fd_named call, tt)

fcntl_checks : (needs : Option ℕ) (f : ℕ) (answer : Answer) → IsNamedOption needs
    → AllNamed (listed (fcntl_requirement needs f answer).checks)
fcntl_checks None f answer is = tt
fcntl_checks (Some n) f answer is = (is, tt)

call_checks : (call : Call) (answer : Answer) → AllNamed (listed (call_requirement call answer).checks)
unfolding send_needs send_to_needs accept_needs symlink_needs rename_from_needs rename_to_needs link_from_needs link_to_needs
call_checks (calls.OnFd call f) answer = fd_checks call f answer
call_checks (calls.Send call f) answer = (named_named _, tt)
call_checks (calls.SendTo call f) answer = (joined _ _ (named_named _) (named_named _), tt)
call_checks (calls.Accept4 f flags) answer = (named_named _, tt)
call_checks (calls.Dup2 f g) answer = (lit< tt, tt)
call_checks (calls.Fcntl f command) answer = fcntl_checks (fcntl_needs command) f answer (fcntl_named command)
call_checks (calls.FcntlDup command f g) answer = (lit< tt, tt)
call_checks (calls.FcntlSetFd f flags) answer = (lit< tt, tt)
call_checks (calls.Mmap f protection kind) answer = (mmap_named protection kind, tt)
call_checks (calls.RightsLimit f asked) answer = (mask_lt asked 63, tt)
call_checks (calls.Open path flags) answer = tt
call_checks (calls.OnPath call path) answer = tt
call_checks (calls.OnPaths call path other) answer = tt
call_checks (calls.At call dir path) answer =
    one_place _ (record { dir = dir; path = path; needs = at_needs call }) (at_named call)
call_checks (calls.AtFlags call dir path flags) answer =
    one_place _ (record { dir = dir; path = path; needs = at_flags_needs call flags }) (at_flags_named call flags)
call_checks (calls.SymlinkAt target dir path) answer =
    one_place _ (record { dir = dir; path = path; needs = symlink_needs }) (named_named _)
call_checks (calls.RenameAt dir path to_dir to_path) answer =
    two_places _ (record { dir = dir; path = path; needs = rename_from_needs })
    (record { dir = to_dir; path = to_path; needs = rename_to_needs }) (named_named _) (named_named _)
call_checks (calls.LinkAt dir path to_dir to_path flags) answer =
    two_places _ (record { dir = dir; path = path; needs = link_from_needs })
    (record { dir = to_dir; path = to_path; needs = link_to_needs }) (named_named _) (named_named _)
call_checks _ answer = tt

pub item_checks : (item : Item) → AllNamed (listed (item_requirement item).checks)
item_checks (items.Call call answer) = call_checks call answer
item_checks (items.Needs marker f rights) = (mask_lt rights 63, tt)
item_checks _ = tt
