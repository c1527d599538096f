-- Which rights of a descriptor the steps from here on need: a backward analysis of a straight-line program, as that of
-- live variables. A right is live in a cell where the next step needs it of that cell, or hands the cell on with that
-- right to a cell in which the right is live after the step (rights(4), cap_rights_limit(2)).
use Rattle.std.specs.Prelude.{◌≡◌, ◌⊎◌, ℕ, ◌+◌, ◌<◌, ◌==◌, ◌&&◌, Bool, true, false, List, [], ◌∷◌, zero, suc}
use Rattle.std.specs.Prelude.{Option, Some, None}
use Rattle.std.specs.List.{list_any}
use Rattle.cap_rights.specs.Rights.{all, holds}
use Rattle.cap_machine.specs.declared.cell.OnExec.{OnExec}
use Rattle.cap_machine.specs.declared.cell.HeldOp.{HeldOp}
use Rattle.cap_machine.specs.declared.cell.HeldOp.TheVariants.{Becomes, Keeps}
use Rattle.cap_machine.specs.declared.rule.Check.{Check}
use Rattle.cap_machine.specs.declared.rule.Reply.{Reply}
use Rattle.cap_machine.specs.declared.rule.Reply.TheVariants.{Success}
use Rattle.cap_machine.specs.declared.step.Step.{Step}
use Rattle.cap_machine.specs.Op.{masked, held_op}
use Rattle.cap_machine.specs.Rule.{requirement}
use Rattle.cap_machine.specs.Judge.{listed, is_forbidden}
use Rattle.cap_machine.specs.Touch.{Touch, kept, given, taken, Turn, stays, turns, follows, touch, turn}

-- ---- what one step needs

abbrev pub is_success : Reply → Bool
is_success Success = true
is_success _ = false

-- some check of descriptor f needs right k
abbrev pub checks_need : List Check → ℕ → ℕ → Bool
checks_need checks f k = list_any (λ (check : Check). check.fd == f && holds check.needs k) checks

-- a call that succeeded needs right k of descriptor f of process p. What a call that failed asks for is not needed
abbrev pub step_needs : Step → ℕ → ℕ → ℕ → Bool
step_needs step p f k =
    is_success (requirement step.line).reply
    && (p == step.line.pid && checks_need (listed (requirement step.line).checks) f k)

-- ---- what one step hands on

-- a held cell stays held, gets flag y, and keeps right k where it has it
abbrev pub HandsOn : HeldOp → OnExec → ℕ → Type 0
HandsOn (Becomes cell) y k = ⊥
HandsOn (Keeps mask flag) y k = (flag ≡ y) × (holds (masked mask all) k ≡ true)

-- Where the cell of descriptor f of process p is held with flag x, this touch of the cell of descriptor g of process q
-- hands it on: that cell is then held with flag y, and has right k where the first had it.
abbrev pub Passes : Touch → ℕ → ℕ → OnExec → ℕ → ℕ → OnExec → ℕ → Type 0
Passes kept p f x q g y k = (q ≡ p) × (g ≡ f) × (y ≡ x)
Passes (given c) p f x q g y k = ⊥
Passes (taken op from g0) p f x q g y k = (from ≡ p) × (g0 ≡ f) × HandsOn (held_op op x) y k

-- right k is live in the cell of descriptor f of process p before these steps, where it is held with flag x
abbrev pub Live : List Step → ℕ → ℕ → OnExec → ℕ → Type 0
Live [] p f x k = ⊥
Live (step ∷ later) p f x k = (step_needs step p f k ≡ true)
    ⊎ ((q g : ℕ) × (y : OnExec) × Passes (touch step q g) p f x q g y k × Live later q g y k)

-- ---- capability mode (cap_enter(2))

-- a call of process p that capability mode forbids succeeded
abbrev pub step_blocks : Step → ℕ → Bool
step_blocks step p = is_success (requirement step.line).reply
    && (p == step.line.pid && is_forbidden (requirement step.line).class)

-- the mode of process q after a step is that of process p before it
abbrev pub ModePasses : Turn → ℕ → ℕ → Type 0
ModePasses stays p q = q ≡ p
ModePasses (turns m) p q = ⊥
ModePasses (follows r) p q = r ≡ p

-- Step n of these, counted from 0, succeeded by a call that capability mode forbids, in a mode that comes from the mode
-- of process p before them: p may not enter.
abbrev pub Blocks : List Step → ℕ → ℕ → Type 0
Blocks [] p n = ⊥
Blocks (step ∷ later) p zero = step_blocks step p ≡ true
Blocks (step ∷ later) p (suc n) = (q : ℕ) × ModePasses (turn step q) p q × Blocks later q n

-- The first of these steps, which begin at a position, that is in the way of capability mode: none, or the one at
-- another position.
abbrev pub IsFirstBlock : List Step → ℕ → ℕ → Option ℕ → Type 0
IsFirstBlock later at p None = (n : ℕ) → Blocks later p n → ⊥
IsFirstBlock later at p (Some position) = (n : ℕ) × (position ≡ at + n) × Blocks later p n
    × ((m : ℕ) → m < n → Blocks later p m → ⊥)
