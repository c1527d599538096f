-- What the passages of a walk make of a cell and of its chain.
use Rattle.std.proofs.Common.{◌≡◌, ℕ, ◌==◌, ◌&&◌, if◌then◌else◌, Bool, true, false, List, [], ◌∷◌, ◌++◌}
use Rattle.std.proofs.Common.{reverse, refl, sym, ap, ◌∙◌, append_assoc, eqb-true, eq-eqb, Some}
use Rattle.std.proofs.lemmas.List.{append-nil}
use Rattle.std.proofs.lemmas.Bool.{and_parts}
use Rattle.cap_machine.specs.declared.cell.Cell.{Cell}
use Rattle.cap_machine.specs.declared.cell.Cell.TheVariants.{Unknown, Closed, Held}
use Rattle.cap_machine.specs.declared.cell.OnExec.{OnExec}
use Rattle.cap_machine.specs.declared.cell.OnExec.TheVariants as flags
use Rattle.cap_machine.specs.declared.cell.Op.{Op}
use Rattle.cap_machine.specs.declared.provenance.CellLink.{CellLink}
use Rattle.cap_machine.specs.declared.provenance.CellEnd.{CellEnd}
use Rattle.cap_machine.specs.declared.walks.Passage.{Passage}
use Rattle.cap_machine.specs.Op.{applied}
use Rattle.cap_machine.specs.Touch.{kept, given, taken}
use Rattle.cap_machine.specs.History.{touched}
use Rattle.cap_machine.specs.Provenance.{CellChain, same_flag, same_cell, is_idle, named_touch, cell_link, by_touch}
use Rattle.cap_machine.specs.Code.Passages.{constant, cell_along, links_along, chain_along}
use Rattle.cap_machine.specs.Code.Walks.{chain_unless}
use Rattle.cap_machine.specs.Code.Following.{passage}

-- ---- the same cell

same_flag-true : (x y : OnExec) → same_flag x y ≡ true → x ≡ y
same_flag-true flags.Set flags.Set e = refl
same_flag-true flags.Clear flags.Clear e = refl
same_flag-true flags.Unsure flags.Unsure e = refl
same_flag-true _ _ e = absurd (cc)

same_flag-self : (x : OnExec) → same_flag x x ≡ true
same_flag-self flags.Set = refl
same_flag-self _ = refl

pub same_cell-true : (c d : Cell) → same_cell c d ≡ true → c ≡ d
same_cell-true Unknown Unknown e = refl
same_cell-true Unknown Closed e = absurd (cc)
same_cell-true Unknown (Held t y) e = absurd (cc)
same_cell-true Closed Unknown e = absurd (cc)
same_cell-true Closed Closed e = refl
same_cell-true Closed (Held t y) e = absurd (cc)
same_cell-true (Held r x) Unknown e = absurd (cc)
same_cell-true (Held r x) Closed e = absurd (cc)
same_cell-true (Held r x) (Held t y) e =
    let parts = and_parts (r == t) (same_flag x y) e in
    ap (λ (n : ℕ). Held n x) (eqb-true r t parts.0) ∙ ap (Held t) (same_flag-true x y parts.1)

pub same_cell-self : (c : Cell) → same_cell c c ≡ true
same_cell-self (Held r x) = ap (λ (b : Bool). b && same_flag x x) (eq-eqb r r refl) ∙ same_flag-self x
same_cell-self _ = refl

-- what an idle touch takes, and leaves
pub idle_takes : (op : Op) (q g p f : ℕ) (c : Cell) → is_idle op (q == p && g == f) c ≡ true → (q ≡ p) × (g ≡ f)
idle_takes op q g p f c e =
    let parts = and_parts (q == p && g == f) (same_cell (applied op c) c) e in
    let names = and_parts (q == p) (g == f) parts.0 in
    (eqb-true q p names.0, eqb-true g f names.1)

pub idle_leaves : (op : Op) (own : Bool) (c : Cell) → is_idle op own c ≡ true → applied op c ≡ c
idle_leaves op own c e = same_cell-true (applied op c) c (and_parts own (same_cell (applied op c) c) e).1

-- ---- the oldest passage

pub cell_along-oldest : (xs : List Passage) (x : Passage) (c : Cell)
    → cell_along (xs ++ x ∷ []) c ≡ cell_along xs (applied x.op c)
cell_along-oldest [] x c = refl
cell_along-oldest (y ∷ xs) x c = ap (applied y.op) (cell_along-oldest xs x c)

append_where : (b : Bool) (l : CellLink) (xs ys : List CellLink)
    → (if b then xs ++ ys else l ∷ (xs ++ ys)) ≡ (if b then xs else l ∷ xs) ++ ys
append_where true l xs ys = refl
append_where false l xs ys = refl

links_along-oldest : (xs : List Passage) (x : Passage) (c : Cell)
    → links_along (xs ++ x ∷ []) c ≡ links_along xs (applied x.op c) ++ links_along (x ∷ []) c
links_along-oldest [] x c = refl
links_along-oldest (y ∷ xs) x c =
    let last : List CellLink = links_along (x ∷ []) c in
    let before : List CellLink = links_along xs (applied x.op c) in
    let idle : Cell → Bool = λ d. is_idle y.op y.from_itself d in
    ap (λ (d : Cell). if idle d then links_along (xs ++ x ∷ []) c else y.link ∷ links_along (xs ++ x ∷ []) c)
    (cell_along-oldest xs x c)
    ∙ ap (λ (r : List CellLink). if idle (cell_along xs (applied x.op c)) then r else y.link ∷ r)
    (links_along-oldest xs x c)
    ∙ append_where (idle (cell_along xs (applied x.op c))) y.link before last

pub one_more_named : (rest xs : List Passage) (x : Passage) (c : Cell) (links later : List CellLink)
    → rest ≡ xs ++ x ∷ []
    → reverse later ≡ links_along (x ∷ []) c ++ reverse links
    → links_along xs (applied x.op c) ++ reverse later ≡ links_along rest c ++ reverse links
one_more_named rest xs x c links later is more =
    ap (λ (r : List CellLink). links_along xs (applied x.op c) ++ r) more
    ∙ sym (append_assoc (links_along xs (applied x.op c)) (links_along (x ∷ []) c) (reverse links))
    ∙ ap (λ (r : List CellLink). r ++ reverse links)
    (sym (links_along-oldest xs x c) ∙ ap (λ (r : List Passage). links_along r c) (sym is))

pub constant-is : (c d : Cell) → applied (constant c) d ≡ c
constant-is c Unknown = refl
constant-is c Closed = refl
constant-is c (Held r flags.Set) = refl
constant-is c (Held r flags.Clear) = refl
constant-is c (Held r flags.Unsure) = refl

-- ---- one step more

abbrev pub chain : List CellLink → CellEnd → CellChain
chain links end = record { links = links; end = end }

pub same_chain : (a b : CellChain) → a.links ≡ b.links → a.end ≡ b.end → a ≡ b
same_chain a b links end = ap (λ (x : List CellLink). chain x a.end) links ∙ ap (chain b.links) end

-- the links before the oldest passage, whether it is named or not
links_before : (xs : List Passage) (x : Passage) (c : Cell) (idle : Bool) (rest : List CellLink)
    → is_idle x.op x.from_itself c ≡ idle
    → links_along (xs ++ x ∷ []) c ++ rest
    ≡ links_along xs (applied x.op c) ++ (if idle then rest else x.link ∷ rest)
links_before xs x c true rest e =
    ap (λ (r : List CellLink). r ++ rest)
    (links_along-oldest xs x c
    ∙ ap (λ (b : Bool). links_along xs (applied x.op c) ++ (if b then [] else x.link ∷ [])) e
    ∙ append-nil (links_along xs (applied x.op c)))
links_before xs x c false rest e =
    ap (λ (r : List CellLink). r ++ rest)
    (links_along-oldest xs x c
    ∙ ap (λ (b : Bool). links_along xs (applied x.op c) ++ (if b then [] else x.link ∷ [])) e)
    ∙ append_assoc (links_along xs (applied x.op c)) (x.link ∷ []) rest

module _ (xs : List Passage) (before : ℕ → ℕ → Cell) (chains : ℕ → ℕ → CellChain) (at p f : ℕ) where
  -- where the oldest passage gave the cell
  pub chain_given : (c : Cell)
      → chain_along (xs ++ passage at p f (constant c) false ∷ []) c (chain_unless (Some c) (chains p f))
      ≡ chain_along xs (touched (given c) before p f) (by_touch (named_touch (given c) before p f) chains at p f)
  chain_given c =
      let x : Passage = passage at p f (constant c) false in
      same_chain (chain_along (xs ++ x ∷ []) c (chain_unless (Some c) (chains p f)))
      (chain_along xs c (by_touch (given c) chains at p f))
      (links_before xs x c false [] refl
      ∙ ap (λ (d : Cell). links_along xs d ++ cell_link at p f ∷ []) (constant-is c c)) refl

  taken_by : (op : Op) (q g : ℕ) (idle : Bool) → is_idle op (q == p && g == f) (before q g) ≡ idle
      → chain_along (xs ++ passage at p f op (q == p && g == f) ∷ []) (before q g) (chains q g)
      ≡ chain_along xs (applied op (before q g)) (by_touch (if idle then kept else taken op q g) chains at p f)
  taken_by op q g true e =
      let x : Passage = passage at p f op (q == p && g == f) in
      let names = idle_takes op q g p f (before q g) e in
      let same : chains q g ≡ chains p f = ap (λ (r : ℕ). chains r g) names.0 ∙ ap (chains p) names.1 in
      same_chain (chain_along (xs ++ x ∷ []) (before q g) (chains q g))
      (chain_along xs (applied op (before q g)) (chains p f))
      (links_before xs x (before q g) true (chains q g).links e
      ∙ ap (λ (r : CellChain). links_along xs (applied op (before q g)) ++ r.links) same)
      (ap (λ (r : CellChain). r.end) same)
  taken_by op q g false e =
      let x : Passage = passage at p f op (q == p && g == f) in
      same_chain (chain_along (xs ++ x ∷ []) (before q g) (chains q g))
      (chain_along xs (applied op (before q g)) (by_touch (taken op q g) chains at p f))
      (links_before xs x (before q g) false (chains q g).links e) refl

  -- where it took the cell of another, or changed it
  pub chain_taken : (op : Op) (q g : ℕ)
      → chain_along (xs ++ passage at p f op (q == p && g == f) ∷ []) (before q g) (chains q g)
      ≡ chain_along xs (touched (taken op q g) before p f)
      (by_touch (named_touch (taken op q g) before p f) chains at p f)
  chain_taken op q g = taken_by op q g (is_idle op (q == p && g == f) (before q g)) refl
