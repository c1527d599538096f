-- Asks that hold in every state, in none, or in some.
use Rattle.std.specs.Prelude.{if◌then◌else◌, ◌∷◌, ◌≡◌}
use Rattle.cap_summary.proofs.{TestPassing.none_lacks, TestPassing.own_rights, ap, arith, inl, inr, or_cases, ◌∙◌}
use Rattle.cap_summary.specs.{Closed, Unknown, declared.ask.Ask.Ask, declared.key.Key.Key, has_all, list_all, list_any}
use Rattle.cap_summary.specs.{Bool, Cell, Held, List, OnExec, State, [], false, none, refl, true, ℕ}
use Rattle.cap_summary.specs.Asks.{each_kind, has_kind, holding, is_sure, passes, standing}
use Rattle.cap_summary.specs.Keys.{Cells, cell_mode, cells_of}

-- a state of chosen cells, with these rights where they are held
abbrev pub chosen : ℕ → Cells → State
chosen r cells = record { cell = λ p f. holding r (cells p (Key.Fd f)); mode = λ p. cell_mode (cells p Key.Mode) }

pub stands : (r : ℕ) (cells : Cells) (p : ℕ) (k : Key) → cells_of (chosen r cells) p k ≡ standing r k (cells p k)
stands r cells p Key.Mode = refl
stands r cells p (Key.Fd f) = refl

-- at a descriptor they pass by their kind
pub sure_by_kind : (a : Ask) (c : Cell) → has_kind a.kinds c ≡ passes a (holding a.rights c)
sure_by_kind a c = grind (arith, own_rights a.rights)

-- what passes so passes in any state
pub sure_passes : (a : Ask) (s : State) (p : ℕ) (k : Key) → is_sure a k (cells_of s p k) ≡ true
    → passes a (cells_of s p k) ≡ true
sure_passes a s p Key.Mode is = grind (arith, is)
sure_passes a s p (Key.Fd f) is = rw (sure_by_kind a (s.cell p f) ∙ is) refl

-- what fails so fails with more rights
pub fails_with : (a : Ask) (r : ℕ) (k : Key) (c : Cell) → has_all r a.rights ≡ true → is_sure a k c ≡ false
    → passes a (standing r k c) ≡ false
fails_with a r k c all is = grind (arith, all, is)

-- the first of some cells that fails a test
abbrev pub failing : (Cell → Bool) → List Cell → Cell
failing p [] = Unknown
failing p (c ∷ cells) = if p c then failing p cells else c

pub failing_fails : (p : Cell → Bool) (cells : List Cell) → list_all p cells ≡ false → p (failing p cells) ≡ false
failing_fails p [] is = absurd cc
failing_fails p (c ∷ cells) is = grind (arith, is, failing_fails p cells)

-- a test of the kind passes each cell where it passes one of each kind
pub each_passes : (p : Cell → Bool) → ((r : ℕ) (flag : OnExec) → p (Held r flag) ≡ p (Held none flag))
    → list_all p each_kind ≡ true → (c : Cell) → p c ≡ true
each_passes p alike all (Held r flag) = grind (arith, alike r flag, all)
each_passes p alike all Unknown = grind (arith, all)
each_passes p alike all Closed = grind (arith, all)

-- one of some cells passes a test
passing : (p : Cell → Bool) (cells : List Cell) → list_any p cells ≡ true → (c : Cell) × (p c ≡ true)
passing p [] is = absurd cc
passing p (c ∷ cells) is = elim (or_cases (p c) (list_any p cells) is) [ inl h ↦ (c, h) | inr h ↦ passing p cells h ]

-- ---- in some state
pub fails_somewhere : (p : ℕ) (k : Key) (a : Ask) → list_all (is_sure a k) each_kind ≡ false
    → (s : State) × (passes a (cells_of s p k) ≡ false)
fails_somewhere p k a is =
    let cells : Cells = λ q j. failing (is_sure a k) each_kind in (
      chosen a.rights cells,
      ap (passes a) (stands a.rights cells p k) ∙ failing_fails (is_sure a k) each_kind is,
    )

pub holds_somewhere : (p : ℕ) (k : Key) (a : Ask) → list_any (λ (c : Cell). passes a (standing none k c)) each_kind ≡ true
    → (s : State) × (passes a (cells_of s p k) ≡ true)
holds_somewhere p k a is =
    let one = passing (λ (c : Cell). passes a (standing none k c)) each_kind is in
    let cells : Cells = λ q j. one.0 in
    (chosen none cells, ap (passes a) (stands none cells p k) ∙ one.1)

-- ---- in no state
-- a held cell fails where one that holds no rights does
held_fails : (a : Ask) (r : ℕ) (flag : OnExec) → passes a (Held none flag) ≡ false → passes a (Held r flag) ≡ false
held_fails a r flag is = grind (arith, is, none_lacks)

-- so a test fails each cell where it fails one of each kind
each_fails : (p : Cell → Bool) → ((r : ℕ) (flag : OnExec) → p (Held none flag) ≡ false → p (Held r flag) ≡ false)
    → list_any p each_kind ≡ false → (c : Cell) → p c ≡ false
each_fails p held is (Held r flag) = grind (arith, held r flag, is)
each_fails p held is Unknown = grind (arith, is)
each_fails p held is Closed = grind (arith, is)

pub never_passes : (p : ℕ) (k : Key) (a : Ask) → list_any (λ (c : Cell). passes a (standing none k c)) each_kind ≡ false
    → (s : State) → passes a (cells_of s p k) ≡ false
never_passes p Key.Mode a is s = grind (arith, is)
never_passes p (Key.Fd f) a is s = each_fails (passes a) (held_fails a) is (s.cell p f)

-- ---- in every state
-- a test looks at the kind alone where no rights are lacked
pub alike_sure : (a : Ask) (k : Key) (r : ℕ) (flag : OnExec) → is_sure a k (Held r flag) ≡ is_sure a k (Held none flag)
alike_sure a k r flag = grind arith

pub certain_holds : (p : ℕ) (k : Key) (a : Ask) → list_all (is_sure a k) each_kind ≡ true → (s : State)
    → passes a (cells_of s p k) ≡ true
certain_holds p k a is s =
    sure_passes a s p k (each_passes (is_sure a k) (alike_sure a k) is (cells_of s p k))
