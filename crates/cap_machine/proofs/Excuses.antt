-- The rights that make a refusal wrongful hold all that the call needs.
use Rattle.std.proofs.Common.{◌≡◌, ℕ, refl, sym, ap, ◌∙◌, Bool, true, false, ◌&&◌, not, if◌then◌else◌, List}
use Rattle.std.proofs.Common.{[], ◌∷◌, Option, Some, None, arith}
use Rattle.std.specs.Int.RustNames.{bit_and}
use Rattle.std.specs.Int.Bits.{and_self}
use Rattle.std.specs.Prelude.{codes}
use Rattle.std.proofs.lemmas.Nat.{and_assoc, and_comm, and_mask}
use Rattle.std.proofs.Math.Nat.{mod-eq_of_lt}
use Rattle.std.proofs.lemmas.Bool.{eqb-true, eq-eqb}
use Rattle.cap_rights.specs.Names.{table}
use Rattle.cap_rights.specs.Rights.{all, named as all_named, has_all, join}
use Rattle.cap_trace.specs.Item.{Item}
use Rattle.cap_trace.specs.Item as items
use Rattle.cap_trace.specs.Call.{Call}
use Rattle.cap_trace.specs.Call as calls
use Rattle.cap_trace.specs.declared.line.Answer.{Answer}
use Rattle.cap_trace.specs.declared.calls.FdCall.{FdCall}
use Rattle.cap_trace.specs.declared.calls.FdCall.TheVariants.{Ioctl, CapIoctlsLimit, CapFcntlsLimit, Fexecve, Closefrom}
use Rattle.cap_machine.specs.declared.rule.Check.{Check}
use Rattle.cap_machine.specs.Flags.{has_flag, all_known}
use Rattle.cap_machine.specs.Needs.{named, asked, fd_needs, fd_excuse, send_needs, send_to_needs, accept_needs}
use Rattle.cap_machine.specs.Needs.{fcntl_needs, mmap_needs, mmap_excuse, at_needs, at_flags_needs, plain_flags}
use Rattle.cap_machine.specs.Needs.{plain_at_flags, symlink_needs, rename_from_needs, rename_to_needs, link_from_needs}
use Rattle.cap_machine.specs.Needs.{link_to_needs}
use Rattle.cap_machine.specs.Places.{Place, place, below}
use Rattle.cap_machine.specs.Judge.{listed}
use Rattle.cap_machine.specs.Rule.{fd_requirement, fcntl_requirement, call_requirement, item_requirement, place_check}
use Rattle.cap_machine.specs.Rule.{place_checks, both}
use Rattle.cap_machine.specs.Rule.{at_excuse, has_empty}
use Rattle.cap_machine.proofs.NamedNeeds.{IsNamed, AllNamed, item_checks}

-- all that is needed is among the rights that make a refusal wrongful, where there are some
abbrev pub Excuses : Option ℕ → ℕ → Type 0
Excuses None needs = Unit {0}
Excuses (Some excuse) needs = bit_and excuse needs ≡ needs

abbrev pub AllExcused : List Check → Type 0
AllExcused [] = Unit {0}
AllExcused (check ∷ checks) = Excuses check.excuse check.needs × AllExcused checks

-- what holds these rights holds the needs
pub has_needs : (held excuse needs : ℕ) → bit_and excuse needs ≡ needs → has_all held excuse ≡ true
    → has_all held needs ≡ true
has_needs held excuse needs within has =
    eq-eqb (bit_and held needs) needs
    (ap (bit_and held) (sym within) ∙ sym (and_assoc needs held excuse)
    ∙ ap (λ r. bit_and r needs) (eqb-true (bit_and held excuse) excuse has) ∙ within)

fd_excused : (call : FdCall) → Excuses (fd_excuse call) (fd_needs call)
unfolding fd_excuse fd_needs named table
fd_excused Ioctl = tt
fd_excused CapIoctlsLimit = tt
fd_excused CapFcntlsLimit = tt
fd_excused Fexecve = refl
fd_excused call = refl

-- what mmap(2) needs, by what is asked for
mmap_asked : Bool → Bool → Bool → ℕ
mmap_asked a b c =
    join (named (codes "CAP_MMAP")) (join (asked a (named (codes "CAP_MMAP_R")))
    (join (asked b (named (codes "CAP_MMAP_X"))) (asked c (named (codes "CAP_MMAP_W")))))

asked_excused : (a b c : Bool) → bit_and mmap_excuse (mmap_asked a b c) ≡ mmap_asked a b c
unfolding mmap_asked mmap_excuse named table
asked_excused true true true = refl
asked_excused true true false = refl
asked_excused true false true = refl
asked_excused true false false = refl
asked_excused false true true = refl
asked_excused false true false = refl
asked_excused false false true = refl
asked_excused false false false = refl

mmap_excused : (protection kind : List ℕ)
    → bit_and mmap_excuse (mmap_needs protection kind) ≡ mmap_needs protection kind
unfolding mmap_needs mmap_asked
mmap_excused protection kind =
    asked_excused (has_flag protection (codes "PROT_READ")) (has_flag protection (codes "PROT_EXEC"))
    (has_flag protection (codes "PROT_WRITE") && has_flag kind (codes "MAP_SHARED"))

limit_excused : (given : ℕ) → bit_and given (bit_and given all_named) ≡ bit_and given all_named
limit_excused given = sym (and_assoc all_named given given) ∙ ap (λ r. bit_and r all_named) (and_self given)

-- ---- calls at a directory: all rights, or none

named_excused : (is_plain : Bool) (places : List Place) (needs : ℕ) → IsNamed needs
    → Excuses (at_excuse is_plain places) needs
named_excused is_plain places needs is = one (is_plain && not (has_empty places))
  where
    one : (b : Bool) → Excuses (if b then Some all else None) needs
    one true = and_comm all needs ∙ and_mask needs 64 ∙ mod-eq_of_lt (omega arith)
    one false = tt

abbrev HasExcuse : Option ℕ → Option Check → Type 0
HasExcuse excuse None = Unit {0}
HasExcuse excuse (Some check) = check.excuse ≡ excuse

place_excuse : (excuse : Option ℕ) (x : Place) → HasExcuse excuse (place_check excuse x)
place_excuse excuse x = elim (below x.dir x.path) as (λ b. HasExcuse excuse (elim b [
  | None ↦ None
  | Some f ↦ Some (record { fd = f; needs = x.needs; excuse = excuse })
])) [ None ↦ tt | Some f ↦ refl ]

one_excused : (excuse : Option ℕ) → ((needs : ℕ) → IsNamed needs → Excuses excuse needs) → (check : Check)
    → check.excuse ≡ excuse → IsNamed check.needs → Excuses check.excuse check.needs
one_excused excuse ok check is named = rw is (ok check.needs named)

both_excused : (excuse : Option ℕ) → ((needs : ℕ) → IsNamed needs → Excuses excuse needs) → (a b : Option Check)
    → HasExcuse excuse a → HasExcuse excuse b → AllNamed (listed (both a b)) → AllExcused (listed (both a b))
both_excused excuse ok None None first second named = tt
both_excused excuse ok (Some a) None first second named = (one_excused excuse ok a first named.0, tt)
both_excused excuse ok None (Some b) first second named = (one_excused excuse ok b second named.0, tt)
both_excused excuse ok (Some a) (Some b) first second named =
    (one_excused excuse ok a first named.0, (one_excused excuse ok b second named.1.0, tt))

places_excused : (is_plain : Bool) (all_places places : List Place)
    → AllNamed (listed (place_checks (at_excuse is_plain all_places) places))
    → AllExcused (listed (place_checks (at_excuse is_plain all_places) places))
places_excused is_plain all_places [] named = tt
places_excused is_plain all_places (a ∷ []) named =
    let excuse : Option ℕ = at_excuse is_plain all_places in
    both_excused excuse (named_excused is_plain all_places) (place_check excuse a) None (place_excuse excuse a) tt named
places_excused is_plain all_places (a ∷ b ∷ more) named =
    let excuse : Option ℕ = at_excuse is_plain all_places in
    both_excused excuse (named_excused is_plain all_places) (place_check excuse a) (place_check excuse b)
    (place_excuse excuse a) (place_excuse excuse b) named

-- ---- each form of call

fd_checks : (call : FdCall) (f : ℕ) (answer : Answer) → AllExcused (listed (fd_requirement call f answer).checks)
fd_checks Closefrom f answer = tt
fd_checks call f answer = (fd_excused call, tt)

fcntl_checks : (needs : Option ℕ) (f : ℕ) (answer : Answer)
    → AllExcused (listed (fcntl_requirement needs f answer).checks)
fcntl_checks None f answer = tt
fcntl_checks (Some n) f answer = (tt, tt)

call_excused : (call : Call) (answer : Answer) → AllNamed (listed (call_requirement call answer).checks)
    → AllExcused (listed (call_requirement call answer).checks)
call_excused (calls.OnFd call f) answer named = fd_checks call f answer
call_excused (calls.Send call f) answer named = (and_self send_needs, tt)
call_excused (calls.SendTo call f) answer named = (and_self send_to_needs, tt)
call_excused (calls.Accept4 f flags) answer named = (and_self accept_needs, tt)
call_excused (calls.Dup2 f g) answer named = (refl, tt)
call_excused (calls.Fcntl f command) answer named = fcntl_checks (fcntl_needs command) f answer
call_excused (calls.FcntlDup command f g) answer named = (tt, tt)
call_excused (calls.FcntlSetFd f flags) answer named = (tt, tt)
call_excused (calls.Mmap f protection kind) answer named = (mmap_excused protection kind, tt)
call_excused (calls.RightsLimit f given) answer named = (limit_excused given, tt)
call_excused (calls.Open path flags) answer named = tt
call_excused (calls.OnPath call path) answer named = tt
call_excused (calls.OnPaths call path other) answer named = tt
call_excused (calls.At call dir path) answer named =
    let places : List Place = place dir path (at_needs call) ∷ [] in places_excused true places places named
call_excused (calls.AtFlags call dir path flags) answer named =
    let places : List Place = place dir path (at_flags_needs call flags) ∷ [] in
    places_excused (all_known (plain_flags call) flags) places places named
call_excused (calls.SymlinkAt target dir path) answer named =
    let places : List Place = place dir path symlink_needs ∷ [] in places_excused true places places named
call_excused (calls.RenameAt dir path to_dir to_path) answer named =
    let places : List Place = place dir path rename_from_needs ∷ place to_dir to_path rename_to_needs ∷ [] in
    places_excused true places places named
call_excused (calls.LinkAt dir path to_dir to_path flags) answer named =
    let places : List Place = place dir path link_from_needs ∷ place to_dir to_path link_to_needs ∷ [] in
    places_excused (all_known plain_at_flags flags) places places named
call_excused _ answer named = tt

pub item_excused : (item : Item) → AllExcused (listed (item_requirement item).checks)
item_excused (items.Call call answer) = call_excused call answer (item_checks (items.Call call answer))
item_excused (items.Needs marker f rights) = (tt, tt)
item_excused _ = tt
