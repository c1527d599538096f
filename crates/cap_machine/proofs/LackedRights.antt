-- What rights that are lacking are, and which steps have a denial.
use Rattle.std.proofs.Common.{◌≡◌, ◌≢◌, ◌↔◌, ℕ, refl, sym, ap, ◌∙◌, Bool, true, false, ◌&&◌, ◌||◌, not, inl, inr}
use Rattle.std.proofs.Common.{if◌then◌else◌, List, [], ◌∷◌, map}
use Rattle.std.specs.List.{All}
use Rattle.std.proofs.lemmas.Bool.{cases_lt}
use Rattle.std.proofs.lemmas.List.Elements.{All-append, All-cons, All-contains, All-nil}
use Rattle.cap_rights.specs.Rights.{none, join, minus, has_all, holds, IsRightSet}
use Rattle.cap_rights.proofs.Members.{join_holds, minus_holds, none_holds, holds_above, has_all_holds, same_held}
use Rattle.cap_machine.specs.declared.cell.Cell.{Cell}
use Rattle.cap_machine.specs.declared.cell.Cell.TheVariants.{Unknown, Closed, Held}
use Rattle.cap_machine.specs.declared.cell.Mode.{Mode}
use Rattle.cap_machine.specs.declared.cell.OnExec.{OnExec}
use Rattle.cap_machine.specs.declared.rule.Reply.{Reply}
use Rattle.cap_machine.specs.declared.rule.Reply.TheVariants.{Success, NotCapable, NotPermitted, Other}
use Rattle.cap_machine.specs.declared.rule.Check.{Check}
use Rattle.cap_machine.specs.declared.rule.Requirement.{Requirement}
use Rattle.cap_machine.specs.declared.denial.Denial.{Denial}
use Rattle.cap_machine.specs.declared.denial.Denial.TheVariants.{Lacks, Inside, Unexplained}
use Rattle.cap_machine.specs.State.{State}
use Rattle.cap_machine.specs.Rule.{requirement}
use Rattle.cap_machine.specs.Judge.{listed, is_inside, is_allowed}
use Rattle.cap_machine.specs.Denials.{lack, lacks, or_unexplained, denied_by, denied}
use Rattle.cap_machine.specs.DenialLaws.{is_refused, RefusedIsDenied, HoldsRightSets, LackingIsSome, LackingIsEnough}
use Rattle.cap_machine.proofs.NamedNeeds.{IsNamed, AllNamed, item_checks}
use Rattle.cap_machine.proofs.Profiles.{or_none}

-- ---- which steps have a denial

never_none : (found : List Denial) → or_unexplained found ≡ [] → ⊥
never_none [] is = cc
never_none (denial ∷ more) is = cc

mode_never_none : (b : Bool) → (if b then Inside ∷ [] else Unexplained ∷ []) ≡ [] → ⊥
mode_never_none true is = cc
mode_never_none false is = cc

denied_where : (r : Reply) (d : Requirement) (m : Mode) (cells : List Cell)
    → (denied_by r d m cells ≡ []) ↔ (is_refused r ≡ false)
denied_where Success d m cells = (λ is. refl, λ is. refl)
denied_where NotCapable d m cells =
    (λ is. absurd (never_none (lacks (listed d.checks) cells) is), λ is. absurd (cc))
denied_where NotPermitted d m cells =
    (λ is. absurd (mode_never_none (is_inside m && not (is_allowed d.class)) is), λ is. absurd (cc))
denied_where Other d m cells = (λ is. refl, λ is. refl)

pub refused_is_denied : RefusedIsDenied
refused_is_denied s step =
    let d : Requirement = requirement step.line in
    denied_where d.reply d (s.mode step.line.pid)
    (map (λ (check : Check). s.cell step.line.pid check.fd) (listed d.checks))

-- ---- with the lacking rights none is lacking

covers : (needed held : Bool) → needed ≡ true → (held || (needed && not held)) ≡ true
covers true true is = refl
covers true false is = refl
covers false held is = absurd (cc)

enough : (needs rights : ℕ) → IsNamed needs → IsRightSet rights
    → has_all (join rights (minus needs rights)) needs ≡ true
enough needs rights named set = (has_all_holds (join rights (minus needs rights)) needs).1 (λ k needed. each k needed)
  where
    each : (k : ℕ) → holds needs k ≡ true → holds (join rights (minus needs rights)) k ≡ true
    each k needed = elim (cases_lt k 63) [
      | inl lt ↦ join_holds rights (minus needs rights) k
          ∙ ap (λ (b : Bool). holds rights k || b) (minus_holds needs rights k set lt)
          ∙ covers (holds needs k) (holds rights k) needed
      | inr le ↦ absurd (let above = holds_above needs 63 k named le in cc)
    ]

IsEnoughFor : Check → Type 0
IsEnoughFor check = (rights : ℕ) (flag : OnExec) → IsRightSet rights
    → lack check (Held (join rights (minus check.needs rights)) flag) ≡ []

all_enough : (checks : List Check) → AllNamed checks → All IsEnoughFor checks
unfolding IsEnoughFor
all_enough [] named = All-nil IsEnoughFor
all_enough (check ∷ checks) named =
    All-cons IsEnoughFor check checks (λ rights flag set.
    let more : ℕ = join rights (minus check.needs rights) in
    ap (λ (b : Bool). if b then [] else Lacks check.fd (minus check.needs more) ∷ [])
    (enough check.needs rights named.0 set)) (all_enough checks named.1)

pub lacking_is_enough : LackingIsEnough
unfolding IsEnoughFor
lacking_is_enough line = all_enough (listed (requirement line).checks) (item_checks line.item)

-- ---- some are lacking

join_none : (rights : ℕ) → join rights none ≡ rights
join_none rights =
    same_held (join rights none) rights (λ k. join_holds rights none k
    ∙ ap (λ (b : Bool). holds rights k || b) (none_holds k) ∙ or_none (holds rights k))

some_lacking : (needs rights : ℕ) → IsNamed needs → IsRightSet rights → has_all rights needs ≡ false
    → minus needs rights ≢ none
some_lacking needs rights named set has is =
    let same : join rights (minus needs rights) ≡ rights = ap (join rights) is ∙ join_none rights in
    let all : has_all rights needs ≡ true = ap (λ r. has_all r needs) (sym same) ∙ enough needs rights named set in
    cc

-- a denial that names rights names some
abbrev NamesSome : Denial → Type 0
NamesSome (Lacks f lacking) = lacking ≢ none
NamesSome Inside = Unit {0}
NamesSome Unexplained = Unit {0}

abbrev IsSetCell : Cell → Type 0
IsSetCell Unknown = Unit {0}
IsSetCell Closed = Unit {0}
IsSetCell (Held rights flag) = IsRightSet rights

abbrev AreSetCells : List Cell → Type 0
AreSetCells [] = Unit {0}
AreSetCells (cell ∷ cells) = IsSetCell cell × AreSetCells cells

lack_names_some : (check : Check) (cell : Cell) → IsNamed check.needs → IsSetCell cell → All NamesSome (lack check cell)
lack_names_some check Unknown named set = All-nil NamesSome
lack_names_some check Closed named set = All-nil NamesSome
lack_names_some check (Held rights flag) named set = by (has_all rights check.needs) refl
  where
    by : (b : Bool) → has_all rights check.needs ≡ b
        → All NamesSome (if b then [] else Lacks check.fd (minus check.needs rights) ∷ [])
    by true is = All-nil NamesSome
    by false is = All-cons NamesSome (Lacks check.fd (minus check.needs rights)) []
        (some_lacking check.needs rights named set is) (All-nil NamesSome)

lacks_name_some : (checks : List Check) (cells : List Cell) → AllNamed checks → AreSetCells cells
    → All NamesSome (lacks checks cells)
lacks_name_some [] cells named sets = All-nil NamesSome
lacks_name_some (check ∷ checks) [] named sets = All-nil NamesSome
lacks_name_some (check ∷ checks) (cell ∷ cells) named sets =
    All-append NamesSome (lack check cell) (lacks checks cells) (lack_names_some check cell named.0 sets.0)
    (lacks_name_some checks cells named.1 sets.1)

unexplained_names_some : (found : List Denial) → All NamesSome found → All NamesSome (or_unexplained found)
unexplained_names_some [] are = All-cons NamesSome Unexplained [] tt (All-nil NamesSome)
unexplained_names_some (denial ∷ more) are = are

denied_name_some : (r : Reply) (d : Requirement) (m : Mode) (cells : List Cell) → AllNamed (listed d.checks)
    → AreSetCells cells → All NamesSome (denied_by r d m cells)
denied_name_some Success d m cells named sets = All-nil NamesSome
denied_name_some NotCapable d m cells named sets =
    unexplained_names_some (lacks (listed d.checks) cells) (lacks_name_some (listed d.checks) cells named sets)
denied_name_some NotPermitted d m cells named sets = by (is_inside m && not (is_allowed d.class))
  where
    by : (b : Bool) → All NamesSome (if b then Inside ∷ [] else Unexplained ∷ [])
    by true = All-cons NamesSome Inside [] tt (All-nil NamesSome)
    by false = All-cons NamesSome Unexplained [] tt (All-nil NamesSome)
denied_name_some Other d m cells named sets = All-nil NamesSome

cell_set : (c : Cell) → ((rights : ℕ) (flag : OnExec) → c ≡ Held rights flag → IsRightSet rights) → IsSetCell c
cell_set (Held rights flag) are = are rights flag refl
cell_set _ are = tt

cells_are_sets : (s : State) (p : ℕ) → HoldsRightSets s → (checks : List Check)
    → AreSetCells (map (λ (check : Check). s.cell p check.fd) checks)
cells_are_sets s p are [] = tt
cells_are_sets s p are (check ∷ checks) = (cell_set (s.cell p check.fd) (are p check.fd), cells_are_sets s p are checks)

pub lacking_is_some : LackingIsSome
lacking_is_some s step f lacking are has =
    let d : Requirement = requirement step.line in
    let cells : List Cell = map (λ (check : Check). s.cell step.line.pid check.fd) (listed d.checks) in
    All-contains NamesSome (denied step s) (Lacks f lacking)
    (denied_name_some d.reply d (s.mode step.line.pid) cells (item_checks step.line.item)
    (cells_are_sets s step.line.pid are (listed d.checks))) has
