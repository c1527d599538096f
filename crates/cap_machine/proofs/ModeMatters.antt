-- When what is said of a line depends on the mode of its process.
use Rattle.std.proofs.Common.{◌≡◌, ℕ, ◌&&◌, ◌||◌, not, Bool, true, false, if◌then◌else◌, List, [], ◌∷◌, ◌++◌}
use Rattle.std.proofs.Common.{length, map, Option, Some, None, refl, sym, ap, ◌∙◌, arith}
use Rattle.std.specs.Int.Bits.{and_self}
use Rattle.std.proofs.lemmas.Bool.{eq-eqb}
use Rattle.std.proofs.lemmas.List.{length-map}
use Rattle.cap_machine.specs.declared.cell.Cell.{Cell}
use Rattle.cap_machine.specs.declared.cell.Cell.TheVariants.{Held, Unknown}
use Rattle.cap_machine.specs.declared.cell.OnExec.TheVariants as flags
use Rattle.cap_machine.specs.declared.cell.Mode.{Mode}
use Rattle.cap_machine.specs.declared.cell.Mode.TheVariants.{Inside, Outside}
use Rattle.cap_machine.specs.declared.rule.Class.{Class}
use Rattle.cap_machine.specs.declared.rule.Class.TheVariants.{Forbidden}
use Rattle.cap_machine.specs.declared.rule.Check.{Check}
use Rattle.cap_machine.specs.declared.rule.Requirement.{Requirement}
use Rattle.cap_machine.specs.declared.rule.Reply.{Reply}
use Rattle.cap_machine.specs.declared.rule.Reply.TheVariants.{Success, NotCapable, NotPermitted, Other}
use Rattle.cap_machine.specs.declared.verdict.Finding.{Finding}
use Rattle.cap_machine.specs.declared.verdict.Finding.TheVariants as say
use Rattle.cap_machine.specs.Judge.{listed, has_check, all_excused, is_excused, is_outside, is_allowed, is_forbidden}
use Rattle.cap_machine.specs.Judge.{forbidden, faults, judged_by}
use Rattle.cap_machine.specs.Explain.{has_excuse, all_have_excuse, mode_matters_by}
use Rattle.cap_machine.specs.ExplainLaws.{SaidInAnyMode, SaidByMode}

-- ---- where it doesn't

no_excuse : (excuse : Option ℕ) (cell : Cell) → has_excuse excuse ≡ false → is_excused excuse cell ≡ false
no_excuse None cell e = refl
no_excuse (Some x) cell e = absurd (cc)

both_false : (a b c d : Bool) → (a && b) ≡ false → (a ≡ false → c ≡ false) → (b ≡ false → d ≡ false) → (c && d) ≡ false
both_false false b c d e first second = ap (λ (x : Bool). x && d) (first refl)
both_false true b false d e first second = refl
both_false true b true d e first second = second e

none_excused : (checks : List Check) (cells : List Cell) → all_have_excuse checks ≡ false
    → all_excused checks cells ≡ false
none_excused [] cells e = absurd (cc)
none_excused (check ∷ checks) [] e = refl
none_excused (check ∷ checks) (cell ∷ cells) e =
    both_false (has_excuse check.excuse) (all_have_excuse checks) (is_excused check.excuse cell)
    (all_excused checks cells) e (no_excuse check.excuse cell) (none_excused checks cells)

refusal_free : (has excused at have m n : Bool) (x : Finding) → (at && (has && have)) ≡ false
    → (have ≡ false → excused ≡ false)
    → (if has && (excused && (not at || m)) then x ∷ [] else [])
    ≡ (if has && (excused && (not at || n)) then x ∷ [] else [])
refusal_free true true true have m n x e none = absurd (let b : true ≡ false = none e in cc)
refusal_free _ _ _ have m n x e none = refl

or_true : (b : Bool) → (b || true) ≡ true
or_true true = refl
or_true false = refl

allowed_free : (allowed m n : Bool) (x : Finding) → not allowed ≡ false
    → (if m || allowed then x ∷ [] else []) ≡ (if n || allowed then x ∷ [] else [])
allowed_free false m n x e = absurd (cc)
allowed_free true m n x e =
    ap (λ (b : Bool). if b then x ∷ [] else []) (or_true m ∙ sym (or_true n))

forbidden_free : (class : Class) (m n : Mode) → is_forbidden class ≡ false → forbidden class m ≡ forbidden class n
forbidden_free Forbidden m n e = absurd (cc)
forbidden_free _ m n e = refl

free_by : (reply : Reply) (d : Requirement) (m n : Mode) (cells : List Cell) → mode_matters_by reply d ≡ false
    → judged_by reply d m cells ≡ judged_by reply d n cells
free_by Success d m n cells e =
    ap (λ (r : List Finding). r ++ faults d.word (listed d.checks) cells) (forbidden_free d.class m n e)
free_by NotCapable d m n cells e =
    refusal_free (has_check d.checks) (all_excused (listed d.checks) cells) d.at (all_have_excuse (listed d.checks))
    (is_outside m) (is_outside n) say.Refusal e (none_excused (listed d.checks) cells)
free_by NotPermitted d m n cells e =
    allowed_free (is_allowed d.class) (is_outside m) (is_outside n) say.ModeRefusal e
free_by Other d m n cells e = refl

pub said_in_any_mode : SaidInAnyMode
said_in_any_mode d m n cells e = free_by d.reply d m n cells e

-- ---- where it does

-- a cell that excuses
excusing_cell : Option ℕ → Cell
excusing_cell None = Unknown
excusing_cell (Some x) = Held x flags.Unsure

abbrev excusing : List Check → List Cell
excusing checks = map (λ (check : Check). excusing_cell check.excuse) checks

is_excusing : (excuse : Option ℕ) → has_excuse excuse ≡ true → is_excused excuse (excusing_cell excuse) ≡ true
unfolding excusing_cell
is_excusing None e = absurd (cc)
is_excusing (Some x) e = eq-eqb _ x (and_self x)

both_true : (a b c d : Bool) → (a && b) ≡ true → (a ≡ true → c ≡ true) → (b ≡ true → d ≡ true) → (c && d) ≡ true
both_true false b c d e first second = absurd (cc)
both_true true b c d e first second = ap (λ (x : Bool). x && d) (first refl) ∙ second e

all_excusing : (checks : List Check) → all_have_excuse checks ≡ true → all_excused checks (excusing checks) ≡ true
all_excusing [] e = refl
all_excusing (check ∷ checks) e =
    both_true (has_excuse check.excuse) (all_have_excuse checks)
    (is_excused check.excuse (excusing_cell check.excuse)) (all_excused checks (excusing checks)) e
    (is_excusing check.excuse) (all_excusing checks)

refusal_differs : (has excused at have : Bool) (x : Finding) → (at && (has && have)) ≡ true
    → (have ≡ true → excused ≡ true)
    → (if has && (excused && (not at || false)) then x ∷ [] else [])
    ≡ (if has && (excused && (not at || true)) then x ∷ [] else []) → ⊥
refusal_differs has excused false have x e all same = absurd (cc)
refusal_differs false excused true have x e all same = absurd (cc)
refusal_differs true false true have x e all same = absurd (let b : false ≡ true = all e in cc)
refusal_differs true true true have x e all same = absurd (cc)

allowed_differs : (allowed : Bool) (x : Finding) → not allowed ≡ true
    → (if false || allowed then x ∷ [] else []) ≡ (if true || allowed then x ∷ [] else []) → ⊥
allowed_differs true x e same = absurd (cc)
allowed_differs false x e same = absurd (cc)

forbidden_differs : (class : Class) (rest : List Finding) → is_forbidden class ≡ true
    → forbidden class Inside ++ rest ≡ forbidden class Outside ++ rest → ⊥
forbidden_differs Forbidden rest e same =
    absurd (let longer : length (say.Forbidden ∷ rest) ≡ length rest = ap length same
    in omega arith)
forbidden_differs _ rest e same = absurd (cc)

known_by_reply : (reply : Reply) (d : Requirement) → mode_matters_by reply d ≡ true
    → judged_by reply d Inside (excusing (listed d.checks)) ≡ judged_by reply d Outside (excusing (listed d.checks)) → ⊥
known_by_reply Success d e same =
    forbidden_differs d.class (faults d.word (listed d.checks) (excusing (listed d.checks))) e same
known_by_reply NotCapable d e same =
    refusal_differs (has_check d.checks) (all_excused (listed d.checks) (excusing (listed d.checks))) d.at
    (all_have_excuse (listed d.checks)) say.Refusal e (all_excusing (listed d.checks)) same
known_by_reply NotPermitted d e same = allowed_differs (is_allowed d.class) say.ModeRefusal e same
known_by_reply Other d e same = absurd (cc)

pub said_by_mode : SaidByMode
said_by_mode d e = (
  excusing (listed d.checks),
  length-map (listed d.checks) (λ (check : Check). excusing_cell check.excuse),
  known_by_reply d.reply d e,
)
