-- How denials stand to findings.
use Rattle.std.proofs.Common.{◌≡◌, ℕ, refl, ap, subst, ◌∙◌, Bool, true, false, ◌&&◌, ◌||◌, not, inl, inr}
use Rattle.std.proofs.Common.{if◌then◌else◌, List, [], ◌∷◌, ◌++◌, map, Option, Some, None, arith}
use Rattle.std.specs.List.{All, Contains}
use Rattle.std.proofs.lemmas.Bool.{and_parts}
use Rattle.std.proofs.lemmas.List.Elements.{All-append, All-cons, All-contains, All-nil}
use Rattle.cap_rights.specs.Rights.{has_all, minus}
use Rattle.cap_machine.specs.declared.cell.Cell.{Cell}
use Rattle.cap_machine.specs.declared.cell.Cell.TheVariants.{Unknown, Closed, Held}
use Rattle.cap_machine.specs.declared.cell.Mode.{Mode}
use Rattle.cap_machine.specs.declared.cell.Mode.TheVariants as modes
use Rattle.cap_machine.specs.declared.rule.Reply.{Reply}
use Rattle.cap_machine.specs.declared.rule.Reply.TheVariants.{Success, NotCapable, NotPermitted, Other}
use Rattle.cap_machine.specs.declared.rule.LimitWord.{LimitWord}
use Rattle.cap_machine.specs.declared.rule.LimitWord.TheVariants as words
use Rattle.cap_machine.specs.declared.rule.Check.{Check}
use Rattle.cap_machine.specs.declared.rule.Requirement.{Requirement}
use Rattle.cap_machine.specs.declared.verdict.Finding.{Finding}
use Rattle.cap_machine.specs.declared.verdict.Finding.TheVariants as say
use Rattle.cap_machine.specs.declared.denial.Denial.{Denial}
use Rattle.cap_machine.specs.declared.denial.Denial.TheVariants.{Lacks, Inside, Unexplained}
use Rattle.cap_machine.specs.Rule.{requirement}
use Rattle.cap_machine.specs.Judge.{listed, fault, faults, shortfall, forbidden, is_excused, all_excused, has_check}
use Rattle.cap_machine.specs.Judge.{is_forbidden, is_inside, is_outside, is_allowed, judged_by}
use Rattle.cap_machine.specs.Denials.{lack, lacks, or_unexplained, denied_by}
use Rattle.cap_machine.specs.DenialLaws.{WrongIsUnexplained, LackingIsRight, InsideIsRight}
use Rattle.cap_machine.proofs.Excuses.{Excuses, AllExcused, has_needs, item_excused}

-- ---- a call whose refusal for lack of rights is wrong lacks none

-- where rights that make a refusal wrongful are held, none are lacking
excused_lacks : (check : Check) (cell : Cell) (excuse : Option ℕ) → Excuses excuse check.needs
    → is_excused excuse cell ≡ true → lack check cell ≡ []
excused_lacks check Unknown excuse within is = refl
excused_lacks check Closed excuse within is = refl
excused_lacks check (Held held flag) None within is = absurd (cc)
excused_lacks check (Held held flag) (Some excuse) within is =
    ap (λ (b : Bool). if b then [] else Lacks check.fd (minus check.needs held) ∷ [])
    (has_needs held excuse check.needs within is)

none_lacking : (checks : List Check) (cells : List Cell) → AllExcused checks → all_excused checks cells ≡ true
    → lacks checks cells ≡ []
none_lacking [] cells within are = refl
none_lacking (check ∷ checks) [] within are = refl
none_lacking (check ∷ checks) (cell ∷ cells) within are =
    let parts = and_parts (is_excused check.excuse cell) (all_excused checks cells) are in
    ap (λ r. r ++ lacks checks cells) (excused_lacks check cell check.excuse within.0 parts.0)
    ∙ none_lacking checks cells within.1 parts.1

-- ---- what is in the lists

-- a finding that a refusal was wrong
abbrev is_wrong : Finding → Bool
is_wrong say.Refusal = true
is_wrong say.ModeRefusal = true
is_wrong _ = false

abbrev IsOther : Finding → Type 0
IsOther finding = is_wrong finding ≡ false

short_is_other : (word : LimitWord) (f r : ℕ) → IsOther (shortfall word f r)
short_is_other words.Missing f r = refl
short_is_other words.Expanded f r = refl

faults_are_other : (word : LimitWord) (checks : List Check) (cells : List Cell) → All IsOther (faults word checks cells)
faults_are_other word [] cells = All-nil IsOther
faults_are_other word (check ∷ checks) [] = All-nil IsOther
faults_are_other word (check ∷ checks) (cell ∷ cells) =
    All-append IsOther (fault word check cell) (faults word checks cells) (one cell)
    (faults_are_other word checks cells)
  where
    one : (cell : Cell) → All IsOther (fault word check cell)
    one Unknown = All-nil IsOther
    one Closed = All-cons IsOther (say.Closed check.fd) [] refl (All-nil IsOther)
    one (Held held flag) =
        elim (has_all held check.needs)
        as (λ b. All IsOther (if b then [] else shortfall word check.fd (minus check.needs held) ∷ [])) [
          | true ↦ All-nil IsOther
          | false ↦ All-cons IsOther (shortfall word check.fd (minus check.needs held)) []
              (short_is_other word check.fd (minus check.needs held)) (All-nil IsOther)
        ]

success_is_other : (d : Requirement) (m : Mode) (cells : List Cell) → All IsOther (judged_by Success d m cells)
success_is_other d m cells =
    All-append IsOther (forbidden d.class m) (faults d.word (listed d.checks) cells)
    (one (is_forbidden d.class && is_inside m))
    (faults_are_other d.word (listed d.checks) cells)
  where
    one : (b : Bool) → All IsOther (if b then say.Forbidden ∷ [] else [])
    one true = All-cons IsOther say.Forbidden [] refl (All-nil IsOther)
    one false = All-nil IsOther

-- the needed rights that are lacking are no denial inside capability mode
abbrev is_inside_denial : Denial → Bool
is_inside_denial Inside = true
is_inside_denial _ = false

abbrev IsNotInside : Denial → Type 0
IsNotInside denial = is_inside_denial denial ≡ false

lacks_are_not_inside : (checks : List Check) (cells : List Cell) → All IsNotInside (lacks checks cells)
lacks_are_not_inside [] cells = All-nil IsNotInside
lacks_are_not_inside (check ∷ checks) [] = All-nil IsNotInside
lacks_are_not_inside (check ∷ checks) (cell ∷ cells) =
    All-append IsNotInside (lack check cell) (lacks checks cells) (one cell) (lacks_are_not_inside checks cells)
  where
    one : (cell : Cell) → All IsNotInside (lack check cell)
    one Unknown = All-nil IsNotInside
    one Closed = All-nil IsNotInside
    one (Held held flag) =
        elim (has_all held check.needs)
        as (λ b. All IsNotInside (if b then [] else Lacks check.fd (minus check.needs held) ∷ [])) [
          | true ↦ All-nil IsNotInside
          | false ↦ All-cons IsNotInside (Lacks check.fd (minus check.needs held)) [] refl (All-nil IsNotInside)
        ]

unexplained_is_not_inside : (found : List Denial) → All IsNotInside found → All IsNotInside (or_unexplained found)
unexplained_is_not_inside [] are = All-cons IsNotInside Unexplained [] refl (All-nil IsNotInside)
unexplained_is_not_inside (denial ∷ more) are = are

-- a list without an element
nothing : {X : Type 0} (x : X) → Contains [] x → ⊥
nothing x has = absurd (omega (arith, has.1))

-- a list of one
only : {X : Type 0} (x y : X) → Contains (x ∷ []) y → x ≡ y
only x y has = All-contains (λ z. x ≡ z) (x ∷ []) y (All-cons (λ z. x ≡ z) x [] refl (All-nil (λ z. x ≡ z))) has

-- ---- what is said and what was lacking, by the kind of answer

-- whether a refusal for lack of rights is wrong
abbrev wrong_rights : Requirement → Mode → List Cell → Bool
wrong_rights d m cells = has_check d.checks && (all_excused (listed d.checks) cells && (not d.at || is_outside m))

lacks_none : (d : Requirement) (m : Mode) (cells : List Cell) → AllExcused (listed d.checks) → wrong_rights d m cells
    ≡ true
    → denied_by NotCapable d m cells ≡ Unexplained ∷ []
lacks_none d m cells within is =
    let first = and_parts (has_check d.checks) (all_excused (listed d.checks) cells && (not d.at || is_outside m)) is in
    let second = and_parts (all_excused (listed d.checks) cells) (not d.at || is_outside m) first.1 in
    ap or_unexplained (none_lacking (listed d.checks) cells within second.0)

-- a wrong refusal for capability mode isn't explained by it, and an explained one isn't wrong
wrong_mode : (m : Mode) (allowed : Bool) → (is_outside m || allowed) ≡ true → (is_inside m && not allowed) ≡ false
wrong_mode modes.Inside false is = absurd (cc)
wrong_mode _ _ is = refl

right_mode : (m : Mode) (allowed : Bool) → (is_inside m && not allowed) ≡ true → (is_outside m || allowed) ≡ false
right_mode modes.Inside false is = refl
right_mode _ _ is = absurd (cc)

-- a finding that is in one of these lists is there for a reason
chosen : {X : Type 0} (b : Bool) (x y : X) → Contains (if b then x ∷ [] else []) y → b ≡ true
chosen true x y has = refl
chosen false x y has = absurd (nothing y has)

is_other : (d : Requirement) (m : Mode) (cells : List Cell) (x : Finding) → is_wrong x ≡ true
    → Contains (judged_by Success d m cells) x → ⊥
is_other d m cells x is has =
    let other : is_wrong x ≡ false =
    All-contains IsOther (judged_by Success d m cells) x (success_is_other d m cells) has in
    cc

wrong_is_unexplained : (r : Reply) (d : Requirement) (m : Mode) (cells : List Cell) (x : Finding) → is_wrong x ≡ true
    → AllExcused (listed d.checks) → Contains (judged_by r d m cells) x → denied_by r d m cells ≡ Unexplained ∷ []
wrong_is_unexplained Success d m cells x is within has = absurd (is_other d m cells x is has)
wrong_is_unexplained NotCapable d m cells x is within has =
    lacks_none d m cells within (chosen (wrong_rights d m cells) say.Refusal x has)
wrong_is_unexplained NotPermitted d m cells x is within has =
    ap (λ (b : Bool). if b then Inside ∷ [] else Unexplained ∷ [])
    (wrong_mode m (is_allowed d.class) (chosen (is_outside m || is_allowed d.class) say.ModeRefusal x has))
wrong_is_unexplained Other d m cells x is within has = absurd (nothing x has)

pub the_wrong : WrongIsUnexplained
the_wrong s step has =
    let d : Requirement = requirement step.line in
    let m : Mode = s.mode step.line.pid in
    let cells : List Cell = map (λ (check : Check). s.cell step.line.pid check.fd) (listed d.checks) in
    let within : AllExcused (listed d.checks) = item_excused step.line.item in
    elim has [
      | inl refusal ↦ wrong_is_unexplained d.reply d m cells say.Refusal refl within refusal
      | inr refusal ↦ wrong_is_unexplained d.reply d m cells say.ModeRefusal refl within refusal
    ]

-- a denial of one of these lists
unexplained_lacks : (f r : ℕ) → Contains (Unexplained ∷ []) (Lacks f r) → ⊥
unexplained_lacks f r has = let is = only Unexplained (Lacks f r) has in cc

chosen_lacks : (b : Bool) (f r : ℕ) → Contains (if b then Inside ∷ [] else Unexplained ∷ []) (Lacks f r) → ⊥
chosen_lacks true f r has = let is = only Inside (Lacks f r) has in cc
chosen_lacks false f r has = unexplained_lacks f r has

lacking_is_right : (r : Reply) (d : Requirement) (m : Mode) (cells : List Cell) (f lacking : ℕ)
    → AllExcused (listed d.checks) → Contains (denied_by r d m cells) (Lacks f lacking) → judged_by r d m cells ≡ []
lacking_is_right Success d m cells f lacking within has = absurd (nothing (Lacks f lacking) has)
lacking_is_right NotCapable d m cells f lacking within has =
    cases (wrong_rights d m cells) (λ is. unexplained_lacks f lacking
    (subst (λ xs. Contains xs (Lacks f lacking)) (lacks_none d m cells within is) has))
  where
    cases : (b : Bool) → (b ≡ true → ⊥) → (if b then say.Refusal ∷ [] else []) ≡ []
    cases true never = absurd (never refl)
    cases false never = refl
lacking_is_right NotPermitted d m cells f lacking within has =
    absurd (chosen_lacks (is_inside m && not (is_allowed d.class)) f lacking has)
lacking_is_right Other d m cells f lacking within has = refl

pub the_lacking : LackingIsRight
the_lacking s step f lacking has =
    let d : Requirement = requirement step.line in
    lacking_is_right d.reply d (s.mode step.line.pid)
    (map (λ (check : Check). s.cell step.line.pid check.fd) (listed d.checks)) f lacking
    (item_excused step.line.item) has

inside_is_right : (r : Reply) (d : Requirement) (m : Mode) (cells : List Cell) → Contains (denied_by r d m cells) Inside
    → judged_by r d m cells ≡ []
inside_is_right Success d m cells has = absurd (nothing Inside has)
inside_is_right NotCapable d m cells has =
    let are : All IsNotInside (or_unexplained (lacks (listed d.checks) cells)) =
    unexplained_is_not_inside (lacks (listed d.checks) cells) (lacks_are_not_inside (listed d.checks) cells) in
    let is : is_inside_denial Inside ≡ false =
    All-contains IsNotInside (or_unexplained (lacks (listed d.checks) cells)) Inside are has in
    absurd (cc)
inside_is_right NotPermitted d m cells has =
    ap (λ (b : Bool). if b then say.ModeRefusal ∷ [] else [])
    (right_mode m (is_allowed d.class) (cases (is_inside m && not (is_allowed d.class)) has))
  where
    cases : (b : Bool) → Contains (if b then Inside ∷ [] else Unexplained ∷ []) Inside → b ≡ true
    cases true has = refl
    cases false has = let is = only Unexplained Inside has in cc
inside_is_right Other d m cells has = refl

pub the_inside : InsideIsRight
the_inside s step has =
    let d : Requirement = requirement step.line in
    inside_is_right d.reply d (s.mode step.line.pid)
    (map (λ (check : Check). s.cell step.line.pid check.fd) (listed d.checks)) has
