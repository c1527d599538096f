-- What is said of a line, of the mode and the cells that stand before it (capsicum(4), cap_enter(2),
-- cap_rights_limit(2)).
use Rattle.std.specs.Prelude.{ℕ, ◌&&◌, ◌||◌, not, Bool, true, false, if◌then◌else◌, List, [], ◌∷◌, ◌++◌, Option, Some}
use Rattle.cap_rights.specs.Rights.{has_all, minus}
use Rattle.cap_machine.specs.declared.cell.Cell.{Cell}
use Rattle.cap_machine.specs.declared.cell.Cell.TheVariants.{Unknown, Closed, Held}
use Rattle.cap_machine.specs.declared.cell.Mode.{Mode}
use Rattle.cap_machine.specs.declared.cell.Mode.TheVariants.{Inside, Outside}
use Rattle.cap_machine.specs.declared.rule.Class.{Class}
use Rattle.cap_machine.specs.declared.rule.Class.TheVariants.{Forbidden, Allowed}
use Rattle.cap_machine.specs.declared.rule.Reply.{Reply}
use Rattle.cap_machine.specs.declared.rule.Reply.TheVariants.{Success, NotCapable, NotPermitted, Other}
use Rattle.cap_machine.specs.declared.rule.LimitWord.{LimitWord}
use Rattle.cap_machine.specs.declared.rule.LimitWord.TheVariants.{Missing, Expanded}
use Rattle.cap_machine.specs.declared.rule.Check.{Check}
use Rattle.cap_machine.specs.declared.rule.Checks.{Checks}
use Rattle.cap_machine.specs.declared.rule.Checks.TheVariants.{Nothing, One, Two}
use Rattle.cap_machine.specs.declared.rule.Requirement.{Requirement}
use Rattle.cap_machine.specs.declared.verdict.Finding.{Finding}
use Rattle.cap_machine.specs.declared.verdict.Finding.TheVariants as say

-- the checks, in order
abbrev pub listed : Checks → List Check
listed Nothing = []
listed (One a) = a ∷ []
listed (Two a b) = a ∷ b ∷ []

abbrev pub is_inside : Mode → Bool
is_inside Inside = true
is_inside _ = false

abbrev pub is_outside : Mode → Bool
is_outside Outside = true
is_outside _ = false

abbrev pub is_forbidden : Class → Bool
is_forbidden Forbidden = true
is_forbidden _ = false

abbrev pub is_allowed : Class → Bool
is_allowed Allowed = true
is_allowed _ = false

-- a success without the rights: of cap_rights_limit(2) the rights have grown
abbrev pub shortfall : LimitWord → ℕ → ℕ → Finding
shortfall Missing f lacking = say.Missing f lacking
shortfall Expanded f lacking = say.Expanded f lacking

-- what is said of one check of a call that succeeded; against what is unknown nothing is said
abbrev pub fault : LimitWord → Check → Cell → List Finding
fault word check Unknown = []
fault word check Closed = say.Closed check.fd ∷ []
fault word check (Held held flag) = if has_all held check.needs then []
    else shortfall word check.fd (minus check.needs held) ∷ []

-- the same of each check, with its cell
abbrev pub faults : LimitWord → List Check → List Cell → List Finding
faults word (check ∷ checks) (cell ∷ cells) = fault word check cell ++ faults word checks cells
faults word _ _ = []

-- rights that make a refusal wrongful are held
abbrev pub is_excused : Option ℕ → Cell → Bool
is_excused (Some excuse) (Held held flag) = has_all held excuse
is_excused _ _ = false

abbrev pub all_excused : List Check → List Cell → Bool
all_excused [] _ = true
all_excused (check ∷ checks) [] = false
all_excused (check ∷ checks) (cell ∷ cells) = is_excused check.excuse cell && all_excused checks cells

abbrev pub has_check : Checks → Bool
has_check Nothing = false
has_check _ = true

-- capability mode forbids a call of this class that succeeded
abbrev pub forbidden : Class → Mode → List Finding
forbidden class m = if is_forbidden class && is_inside m then say.Forbidden ∷ [] else []

-- by the kind of answer:
-- a call that succeeded was forbidden in capability mode, or lacked rights;
-- a call was refused for lack of rights that were held, which of a call at a directory is sure only outside capability
-- mode; a call was refused for capability mode outside it, or one that capability mode allows
abbrev pub judged_by : Reply → Requirement → Mode → List Cell → List Finding
judged_by Success d m cells = forbidden d.class m ++ faults d.word (listed d.checks) cells
judged_by NotCapable d m cells = if has_check d.checks
    && (all_excused (listed d.checks) cells && (not d.at || is_outside m)) then say.Refusal ∷ [] else []
judged_by NotPermitted d m cells = if is_outside m || is_allowed d.class then say.ModeRefusal ∷ [] else []
judged_by Other d m cells = []

-- what is said of a call in this mode, with the cell of each of its checks
abbrev pub judged : Requirement → Mode → List Cell → List Finding
judged d m cells = judged_by d.reply d m cells
