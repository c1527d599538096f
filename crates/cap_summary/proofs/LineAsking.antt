-- What one line asks, and where something is said of it.
use Rattle.std.specs.Prelude.{◌≡◌, ◌∷◌, ◌++◌, ◌&&◌, ◌||◌, List, [], Bool, true, false, cond, refl, not, map}
use Rattle.cap_machine.specs.{declared.rule.Reply.TheVariants.Success, declared.rule.Class.Class, Judge.forbidden, Judge.is_excused, Judge.is_forbidden, Judge.judged}
use Rattle.cap_machine.specs.declared.verdict.Finding.TheVariants.{ModeRefusal, Refusal}
use Rattle.cap_machine.specs.{Judge.judged_by, declared.rule.Reply.Reply}
use Rattle.cap_machine.specs.declared.rule.Reply.TheVariants.{NotPermitted, Other}
use Rattle.cap_summary.specs.{Finding}
use Rattle.cap_summary.specs.{Asks.has_any, Asks.has_kind, Keys.mode_cell, Names.ChecksWithin, Names.Names, Requirement}
use Rattle.cap_summary.specs.{Cell, Checks, LimitWord, NotCapable, all_excused, faults, has_check, is_outside, list_any}
use Rattle.cap_summary.{specs.Check, specs.Mode, specs.fault, specs.listed, proofs.arith, proofs.◌∙◌, proofs.sym}
use Rattle.cap_summary.specs.declared.kinds.TheConstants.Kinds.{CLEAR, CLOSED, UNHELD}

pub has_any-append : {X : Type 0} (xs ys : List X) → has_any (xs ++ ys) ≡ (has_any xs || has_any ys)
has_any-append xs ys = grind arith

-- ---- a call that succeeded
pub forbidden_found : (class : Class) (m : Mode)
    → (is_forbidden class && has_kind CLOSED (mode_cell m)) ≡ has_any (forbidden class m)
forbidden_found class m = grind arith

missing_found : (word : LimitWord) (cell : Check → Cell) (checks : List Check)
    → list_any (λ check. has_any (fault word check (cell check))) checks ≡ has_any (faults word checks (map cell checks))
missing_found word cell [] = refl
missing_found word cell (a ∷ checks) = grind (arith, missing_found word cell checks, has_any-append (fault word a (cell a)))

pub not_forbidden : (class : Class) → (class ≡ Class.Forbidden → ⊥) → is_forbidden class ≡ false
not_forbidden class other = grind (arith, other)

-- it is found where it was forbidden or lacked rights
pub success_found : (word : LimitWord) (class : Class) (m : Mode) (cell : Check → Cell) (checks : List Check)
    → ((is_forbidden class && has_kind CLOSED (mode_cell m))
    || list_any (λ check. has_any (fault word check (cell check))) checks)
    ≡ has_any (forbidden class m ++ faults word checks (map cell checks))
success_found word class m cell checks = rw (forbidden_found class m, missing_found word cell checks)
    (sym (has_any-append (forbidden class m) (faults word checks (map cell checks))))

-- ---- a refusal
checked : (checks : Checks) → (checks ≡ Checks.Nothing → ⊥) → has_check checks ≡ true
checked checks some = grind (arith, some)

may_be_inside : (m : Mode) → has_kind UNHELD (mode_cell m) ≡ not (is_outside m)
may_be_inside m = grind arith

may_lack : (cell : Check → Cell) (checks : List Check)
    → list_any (λ check. not (is_excused check.excuse (cell check))) checks ≡ not (all_excused checks (map cell checks))
may_lack cell [] = refl
may_lack cell (a ∷ checks) = grind (arith, may_lack cell checks)

-- it is found where each check has its excuse, and at a directory outside capability mode
pub refusal_found : (d : Requirement) (m : Mode) (cell : Check → Cell) → d.reply ≡ NotCapable
    → (d.checks ≡ Checks.Nothing → ⊥) → not ((d.at && has_kind UNHELD (mode_cell m))
    || list_any (λ check. not (is_excused check.excuse (cell check))) (listed d.checks))
    ≡ has_any (judged d m (map cell (listed d.checks)))
refusal_found d m cell refused some =
    rw (may_be_inside m, may_lack cell (listed d.checks), refused, checked d.checks some)
    (by d.at (is_outside m) (all_excused (listed d.checks) (map cell (listed d.checks))))
  where
    by : (at outside excused : Bool) → not ((at && not outside) || not excused)
        ≡ has_any (cond (excused && (not at || outside)) (Refusal ∷ []) [])
    by at outside excused = grind arith

-- ---- the same is said in two states

-- what isn't a call that succeeded has one finding or none
pub one_finding : (d : Requirement) (m n : Mode) (xs ys : List Cell) → (d.reply ≡ Success → ⊥)
    → has_any (judged d m xs) ≡ has_any (judged d n ys) → judged d m xs ≡ judged d n ys
one_finding d m n xs ys other same = by d.reply other same
  where
    single : (x : Finding) (a b : Bool) → has_any (cond a (x ∷ []) []) ≡ has_any (cond b (x ∷ []) [])
        → cond a (x ∷ []) [] ≡ cond b (x ∷ []) []
    single x true true is = refl
    single x true false is = absurd (let wrong : true ≡ false = is in cc)
    single x false true is = absurd (let wrong : false ≡ true = is in cc)
    single x false false is = refl

    by : (reply : Reply) → (reply ≡ Success → ⊥) → has_any (judged_by reply d m xs) ≡ has_any (judged_by reply d n ys)
        → judged_by reply d m xs ≡ judged_by reply d n ys
    by Success other is = absurd (other refl)
    by NotCapable other is = single Refusal _ _ is
    by NotPermitted other is = single ModeRefusal _ _ is
    by Other other is = refl

forbidden_same : (class : Class) (m n : Mode) → has_any (forbidden class m) ≡ has_any (forbidden class n)
    → forbidden class m ≡ forbidden class n
forbidden_same class m n same = grind (arith, same)

-- what capability mode refused
is_clear : (m : Mode) → has_kind CLEAR (mode_cell m) ≡ is_outside m
is_clear m = grind arith

pub refused_same : (d : Requirement) (m n : Mode) (xs ys : List Cell) → d.reply ≡ NotPermitted
    → has_kind CLEAR (mode_cell m) ≡ has_kind CLEAR (mode_cell n) → judged d m xs ≡ judged d n ys
refused_same d m n xs ys is same = rw (is, sym (is_clear m) ∙ same ∙ is_clear n) refl

-- what a call that succeeded is said to lack, of one check and of two
pub one_fault : (word : LimitWord) (checks : Checks) (a : Check) (cell other : Check → Cell) → checks ≡ Checks.One a
    → fault word a (cell a) ≡ fault word a (other a)
    → faults word (listed checks) (map cell (listed checks)) ≡ faults word (listed checks) (map other (listed checks))
one_fault word checks a cell other is same = rw (is, same) refl

pub two_faults : (word : LimitWord) (checks : Checks) (a b : Check) (cell other : Check → Cell) → checks ≡ Checks.Two a b
    → fault word a (cell a) ≡ fault word a (other a) → fault word b (cell b) ≡ fault word b (other b)
    → faults word (listed checks) (map cell (listed checks)) ≡ faults word (listed checks) (map other (listed checks))
two_faults word checks a b cell other is same next = rw (is, same, next) refl

-- the findings of a call that succeeded
pub success_same : (d : Requirement) (m n : Mode) (cell other : Check → Cell) → d.reply ≡ Success
    → has_any (forbidden d.class m) ≡ has_any (forbidden d.class n)
    → faults d.word (listed d.checks) (map cell (listed d.checks))
    ≡ faults d.word (listed d.checks) (map other (listed d.checks))
    → judged d m (map cell (listed d.checks)) ≡ judged d n (map other (listed d.checks))
success_same d m n cell other is mode lacks = rw (is, forbidden_same d.class m n mode, lacks) refl

-- ---- the asks of a mode, and then of the checks
pub one_lacked : (p : Check → Bool) (checks : Checks) (a : Check) (mode all ask : Bool) → checks ≡ Checks.One a
    → all ≡ (mode || ask) → ask ≡ p a → all ≡ (mode || list_any p (listed checks))
one_lacked p checks a mode all ask is put asks = rw (is, put, asks) (grind arith)

pub two_lacked : (p : Check → Bool) (checks : Checks) (a b : Check) (mode most all ask next : Bool)
    → checks ≡ Checks.Two a b → most ≡ (mode || ask) → all ≡ (most || next) → ask ≡ p a → next ≡ p b
    → all ≡ (mode || list_any p (listed checks))
two_lacked p checks a b mode most all ask next is put then asks more = rw (is, then, put, asks, more) (grind arith)

pub both_within : (names : Names) (checks : Checks) (a b : Check) → checks ≡ Checks.Two a b → ChecksWithin names checks
    → (names.fds a.fd ≡ true) × (names.fds b.fd ≡ true)
both_within names checks a b is all = let each = rw is at all in (each 0 a (omega arith), each 1 a (omega arith))
