-- What the chain of a cell names: it is enough, and leaves out no step that touched the cell.
use Rattle.std.proofs.Common.{◌≡◌, ◌==◌, ℕ, ◌+◌, ◌≤◌, ◌&&◌, if◌then◌else◌, Bool, true, false, List, [], ◌∷◌, length}
use Rattle.std.proofs.Common.{reverse, refl}
use Rattle.std.proofs.Common.{sym, ap, ◌∙◌, subst, arith, eq-eqb}
use Rattle.std.proofs.lemmas.List.{length-reverse}
use Rattle.std.proofs.lemmas.Bool.{cases_eq, ne_eqb}
use Rattle.std.proofs.Math.Logic.{⊎_elim}
use Rattle.cap_machine.specs.declared.step.Step.{Step}
use Rattle.cap_machine.specs.declared.cell.Cell.{Cell}
use Rattle.cap_machine.specs.declared.provenance.CellLink.{CellLink}
use Rattle.cap_machine.specs.declared.provenance.CellEnd.{CellEnd}
use Rattle.cap_machine.specs.declared.provenance.CellEnd.TheVariants as cells
use Rattle.cap_machine.specs.State.{State}
use Rattle.cap_machine.specs.declared.cell.Op.{Op}
use Rattle.cap_machine.specs.Op.{applied}
use Rattle.cap_machine.specs.Touch.{Touch, kept, given, taken, touch}
use Rattle.cap_machine.specs.History.{touched, cell_after}
use Rattle.cap_machine.specs.Provenance.{CellChain, same_cell, is_idle, named_touch, by_touch, cell_chain, cell_at_end}
use Rattle.cap_machine.specs.ProvenanceLaws.{touch_at, made, replayed, CellsAreReplayed, named_at, NoneNamed}
use Rattle.cap_machine.specs.ProvenanceLaws.{CellGoesOn}
use Rattle.cap_machine.specs.ProvenanceLaws.{IsCellChain, CellsSkipNone, UnnamedLeaves, NamedChanges}
use Rattle.cap_machine.proofs.Passages.{same_cell-self, idle_takes, idle_leaves}

-- ---- the step at a position

touch-newest : (step : Step) (history : List Step) (p f : ℕ)
    → touch_at (step ∷ history) (length history + 1) p f ≡ touch step p f
touch-newest step history p f =
    ap (λ (b : Bool). if b then touch step p f else touch_at history (length history + 1) p f)
    (eq-eqb (length history + 1) (length history + 1) refl)

touch-older : (step : Step) (history : List Step) (k p f : ℕ) → k ≤ length history
    → touch_at (step ∷ history) k p f ≡ touch_at history k p f
touch-older step history k p f le =
    ap (λ (b : Bool). if b then touch step p f else touch_at history k p f)
    (ne_eqb k (length history + 1) (λ e. absurd (omega arith)))

-- ---- touches that are named

no_gift : (idle : Bool) (op : Op) (q g : ℕ) (c : Cell) → (if idle then kept else taken op q g) ≡ given c → ⊥
no_gift true op q g c e = absurd (cc)
no_gift false op q g c e = absurd (cc)

where_named : (idle : Bool) (op to : Op) (q g r h : ℕ) → (if idle then kept else taken op q g) ≡ taken to r h
    → taken op q g ≡ taken to r h
where_named true op to q g r h e = absurd (cc)
where_named false op to q g r h e = e

where_kept : (idle : Bool) (op : Op) (q g : ℕ) → (if idle then kept else taken op q g) ≡ kept → idle ≡ true
where_kept true op q g e = refl
where_kept false op q g e = absurd (cc)

named_gives : (t : Touch) (before : ℕ → ℕ → Cell) (p f : ℕ) (c : Cell) → named_touch t before p f ≡ given c
    → t ≡ given c
named_gives (taken op q g) before p f c e = absurd (no_gift (is_idle op (q == p && g == f) (before q g)) op q g c e)
named_gives _ before p f c e = e

named_takes : (t : Touch) (before : ℕ → ℕ → Cell) (p f : ℕ) (op : Op) (q g : ℕ)
    → named_touch t before p f ≡ taken op q g
    → t ≡ taken op q g
named_takes kept before p f op q g e = e
named_takes (given d) before p f op q g e = e
named_takes (taken to r h) before p f op q g e =
    where_named (is_idle to (r == p && h == f) (before r h)) to op r h q g e

named_keeps : (t : Touch) (before : ℕ → ℕ → Cell) (p f : ℕ) → named_touch t before p f ≡ kept
    → touched t before p f ≡ before p f
named_keeps kept before p f e = refl
named_keeps (given d) before p f e = absurd (cc)
named_keeps (taken op q g) before p f e =
    let idle : is_idle op (q == p && g == f) (before q g) ≡ true =
    where_kept (is_idle op (q == p && g == f) (before q g)) op q g e in
    let names = idle_takes op q g p f (before q g) idle in
    idle_leaves op (q == p && g == f) (before q g) idle ∙ ap (λ (r : ℕ). before r g) names.0 ∙ ap (before p) names.1

-- ---- a chain is enough

-- links at positions up to n
AreWithin : ℕ → List CellLink → Type 0
AreWithin n [] = Unit {0}
AreWithin n (link ∷ links) = (link.at ≤ n) × AreWithin n links

wider : (n m : ℕ) (links : List CellLink) → n ≤ m → AreWithin n links → AreWithin m links
unfolding AreWithin
wider n m [] le are = tt
wider n m (link ∷ links) le are = (omega (arith, are.0), wider n m links le are.1)

within_by : (t : Touch) (before : ℕ → ℕ → CellChain) (n m p f : ℕ) → n + 1 ≤ m
    → ((q g : ℕ) → AreWithin n (before q g).links) → AreWithin m (by_touch t before (n + 1) p f).links
unfolding AreWithin
within_by kept before n m p f le are = wider n m (before p f).links (omega arith) (are p f)
within_by (given c) before n m p f le are = (le, tt)
within_by (taken op q g) before n m p f le are = (le, wider n m (before q g).links (omega arith) (are q g))

are_within : (s : State) (history : List Step) (p f : ℕ) → AreWithin (length history) (cell_chain s history p f).links
unfolding AreWithin
are_within s [] p f = tt
are_within s (step ∷ history) p f =
    within_by (named_touch (touch step p f) (cell_after s history) p f) (cell_chain s history) (length history)
    (length (step ∷ history)) p f (omega arith)
    (are_within s history)

replay-older : (step : Step) (history : List Step) (links : List CellLink) (c : Cell) → AreWithin (length history) links
    → replayed (step ∷ history) links c ≡ replayed history links c
unfolding AreWithin
replay-older step history [] c are = refl
replay-older step history (link ∷ links) c are =
    ap (λ (t : Touch). made t (replayed (step ∷ history) links c))
    (touch-older step history link.at link.pid link.fd are.0)
    ∙ ap (made (touch_at history link.at link.pid link.fd)) (replay-older step history links c are.1)

module _ (s : State) (step : Step) (history : List Step) where
  abbrev chains : ℕ → ℕ → CellChain
  chains = cell_chain s history

  abbrev end_of : ℕ → ℕ → Cell
  end_of p f = cell_at_end (chains p f).end

  abbrev telling : ℕ → ℕ → Touch
  telling p f = named_touch (touch step p f) (cell_after s history) p f

  replay_by : (t : Touch) (p f : ℕ) → telling p f ≡ t
      → ((q g : ℕ) → replayed history (chains q g).links (end_of q g) ≡ cell_after s history q g)
      → replayed (step ∷ history) (by_touch t chains (length history + 1) p f).links
      (cell_at_end (by_touch t chains (length history + 1) p f).end)
      ≡ touched (touch step p f) (cell_after s history) p f
  replay_by kept p f e known =
      replay-older step history (chains p f).links (end_of p f) (are_within s history p f) ∙ known p f
      ∙ sym (named_keeps (touch step p f) (cell_after s history) p f e)
  replay_by (given c) p f e known =
      let is : touch step p f ≡ given c = named_gives (touch step p f) (cell_after s history) p f c e in
      ap (λ (t : Touch). made t c) (touch-newest step history p f ∙ is)
      ∙ sym (ap (λ (t : Touch). touched t (cell_after s history) p f) is)
  replay_by (taken op q g) p f e known =
      let is : touch step p f ≡ taken op q g = named_takes (touch step p f) (cell_after s history) p f op q g e in
      ap (λ (t : Touch). made t (replayed (step ∷ history) (chains q g).links (end_of q g)))
      (touch-newest step history p f ∙ is)
      ∙ ap (applied op)
      (replay-older step history (chains q g).links (end_of q g) (are_within s history q g) ∙ known q g)
      ∙ sym (ap (λ (t : Touch). touched t (cell_after s history) p f) is)

replay : (s : State) (history : List Step) (p f : ℕ)
    → replayed history (cell_chain s history p f).links (cell_at_end (cell_chain s history p f).end)
    ≡ cell_after s history p f
replay s [] p f = refl
replay s (step ∷ history) p f =
    replay_by s step history (named_touch (touch step p f) (cell_after s history) p f) p f refl (replay s history)

pub cells_are_replayed : CellsAreReplayed
cells_are_replayed s trace p f = replay s (reverse trace) p f

-- ---- a chain leaves nothing out

goes_along : (x : Touch) (links : List CellLink) (end : CellEnd) (from later : ℕ → ℕ → Type 0)
    → ((q g : ℕ) → from q g → later q g) → CellGoesOn x links end from → CellGoesOn x links end later
goes_along (taken op q g) links end from later map h = map q g h
goes_along _ links end from later map h = h

goes_on : (t u : Touch) (links : List CellLink) (end : CellEnd) (from later : ℕ → ℕ → Type 0) → t ≡ u
    → ((q g : ℕ) → from q g → later q g) → CellGoesOn t links end from → CellGoesOn u links end later
goes_on t u links end from later same map goes =
    let P : Touch → Type 0 = λ x. CellGoesOn x links end later in
    subst P same (goes_along t links end from later map goes)

named-newest : (s : State) (step : Step) (history : List Step) (p f : ℕ)
    → named_at s (step ∷ history) (length history + 1) p f ≡ named_touch (touch step p f) (cell_after s history) p f
named-newest s step history p f =
    ap (λ (b : Bool). if b then named_touch (touch step p f) (cell_after s history) p f
    else named_at s history (length history + 1) p f)
    (eq-eqb (length history + 1) (length history + 1) refl)

named-older : (s : State) (step : Step) (history : List Step) (k p f : ℕ) → k ≤ length history
    → named_at s (step ∷ history) k p f ≡ named_at s history k p f
named-older s step history k p f le =
    ap (λ (b : Bool). if b then named_touch (touch step p f) (cell_after s history) p f else named_at s history k p f)
    (ne_eqb k (length history + 1) (λ e. absurd (omega arith)))

-- one more step, at or above the position
unnamed-older : (s : State) (step : Step) (history : List Step) (low high p f : ℕ) → high ≤ length history + 1
    → NoneNamed s history low high p f → NoneNamed s (step ∷ history) low high p f
unnamed-older s step history low high p f le none k above below =
    named-older s step history k p f (omega arith) ∙ none k above below

chain-older : (s : State) (step : Step) (history : List Step) (links : List CellLink) (end : CellEnd) (high p f : ℕ)
    → high ≤ length history + 1 → IsCellChain s history links end high p f
    → IsCellChain s (step ∷ history) links end high p f
chain-older s step history [] end high p f le is = (unnamed-older s step history 0 high p f le is.0, is.1)
chain-older s step history (link ∷ links) end high p f le is = (
  is.0,
  is.1,
  is.2,
  unnamed-older s step history link.at high p f le is.3,
  goes_on (named_at s history link.at p f) (named_at s (step ∷ history) link.at p f) links end
      (λ q g. IsCellChain s history links end link.at q g) (λ q g. IsCellChain s (step ∷ history) links end link.at q g)
      (sym (named-older s step history link.at p f (omega (arith, is.2))))
      (λ q g h. chain-older s step history links end link.at q g (omega (arith, is.2)) h) is.4,
)

-- one more position, whose step doesn't touch the cell
unnamed_higher : (s : State) (history : List Step) (low high p f : ℕ) → named_at s history high p f ≡ kept
    → NoneNamed s history low high p f → NoneNamed s history low (high + 1) p f
unnamed_higher s history low high p f keeps none k above below =
    ⊎_elim (λ e. ap (λ (i : ℕ). named_at s history i p f) e ∙ keeps) (λ ne. none k above (omega arith))
    (cases_eq k high)

higher : (s : State) (history : List Step) (links : List CellLink) (end : CellEnd) (high p f : ℕ)
    → named_at s history high p f ≡ kept → IsCellChain s history links end high p f
    → IsCellChain s history links end (high + 1) p f
higher s history [] end high p f keeps is = (unnamed_higher s history 0 high p f keeps is.0, is.1)
higher s history (link ∷ links) end high p f keeps is =
    (is.0, is.1, omega (arith, is.2), unnamed_higher s history link.at high p f keeps is.3, is.4)

nothing_between : (s : State) (history : List Step) (n p f : ℕ) → NoneNamed s history n (n + 1) p f
nothing_between s history n p f k above below = absurd (omega arith)

module _ (s : State) (step : Step) (history : List Step) where
  abbrev known : ℕ → ℕ → CellChain
  known = cell_chain s history

  abbrev newest : ℕ
  newest = length history + 1

  abbrev IsNext : CellChain → ℕ → ℕ → Type 0
  IsNext chain p f = IsCellChain s (step ∷ history) chain.links chain.end (newest + 1) p f

  chain_by : (t : Touch) (p f : ℕ) → named_touch (touch step p f) (cell_after s history) p f ≡ t
      → ((q g : ℕ) → IsCellChain s history (known q g).links (known q g).end newest q g)
      → IsNext (by_touch t known newest p f) p f
  chain_by kept p f e is =
      higher s (step ∷ history) (known p f).links (known p f).end newest p f (named-newest s step history p f ∙ e)
      (chain-older s step history (known p f).links (known p f).end newest p f (omega arith) (is p f))
  chain_by (given c) p f e is =
      let P : Touch → Type 0 =
      λ x. CellGoesOn x [] (cells.Given c) (λ q g. IsCellChain s (step ∷ history) [] (cells.Given c) newest q g) in (
        refl,
        refl,
        omega arith,
        nothing_between s (step ∷ history) newest p f,
        subst P (sym (named-newest s step history p f ∙ e)) (refl, refl),
      )
  chain_by (taken op q g) p f e is =
      let P : Touch → Type 0 = λ x. CellGoesOn x (known q g).links (known q g).end
      (λ r h. IsCellChain s (step ∷ history) (known q g).links (known q g).end newest r h) in (
        refl,
        refl,
        omega arith,
        nothing_between s (step ∷ history) newest p f,
        subst P (sym (named-newest s step history p f ∙ e))
            (chain-older s step history (known q g).links (known q g).end newest q g (omega arith) (is q g)),
      )

is_chain : (s : State) (history : List Step) (p f : ℕ)
    → IsCellChain s history (cell_chain s history p f).links (cell_chain s history p f).end (length history + 1) p f
is_chain s [] p f = (λ k above below. refl, refl)
is_chain s (step ∷ history) p f =
    let P : ℕ → Type 0 = λ n. IsCellChain s (step ∷ history) (cell_chain s (step ∷ history) p f).links
    (cell_chain s (step ∷ history) p f).end n p f in
    let same : length history + 1 + 1 ≡ length (step ∷ history) + 1 = omega arith in
    subst P same
    (chain_by s step history (named_touch (touch step p f) (cell_after s history) p f) p f refl (is_chain s history))

pub cells_skip_none : CellsSkipNone
cells_skip_none s trace p f =
    let P : ℕ → Type 0 = λ n. IsCellChain s (reverse trace) (cell_chain s (reverse trace) p f).links
    (cell_chain s (reverse trace) p f).end (n + 1) p f in
    subst P (length-reverse trace) (is_chain s (reverse trace) p f)

-- ---- what is named changes the cell

pub unnamed_leaves : UnnamedLeaves
unnamed_leaves s step history p f e = named_keeps (touch step p f) (cell_after s history) p f e

not_idle : (idle : Bool) (op to : Op) (q g r h : ℕ) → (if idle then kept else taken op q g) ≡ taken to r h
    → idle ≡ false
not_idle true op to q g r h e = absurd (cc)
not_idle false op to q g r h e = refl

same_op : (op to : Op) (q g r h : ℕ) → taken op q g ≡ taken to r h → (op ≡ to) × (q ≡ r) × (g ≡ h)
same_op op to q g r h e = (cc, cc, cc)

changed_by : (t : Touch) (before : ℕ → ℕ → Cell) (p f : ℕ) (op : Op) → named_touch t before p f ≡ taken op p f
    → touched t before p f ≡ before p f → ⊥
changed_by kept before p f op e same = absurd (cc)
changed_by (given d) before p f op e same = absurd (cc)
changed_by (taken to q g) before p f op e same =
    let names : (to ≡ op) × (q ≡ p) × (g ≡ f) =
    same_op to op q g p f (where_named (is_idle to (q == p && g == f) (before q g)) to op q g p f e) in
    let own : (q == p && g == f) ≡ true =
    ap (λ (b : Bool). b && g == f) (eq-eqb q p names.1) ∙ eq-eqb g f names.2 in
    let idle : is_idle to (q == p && g == f) (before q g) ≡ true =
    ap (λ (b : Bool). b && same_cell (applied to (before q g)) (before q g)) own
    ∙ ap (λ (c : Cell). same_cell c (before q g))
    (same ∙ sym (ap (λ (r : ℕ). before r g) names.1 ∙ ap (before p) names.2))
    ∙ same_cell-self (before q g) in
    let not : is_idle to (q == p && g == f) (before q g) ≡ false =
    not_idle (is_idle to (q == p && g == f) (before q g)) to op q g p f e in
    absurd (let b : true ≡ false = sym idle ∙ not in cc)

pub named_changes : NamedChanges
named_changes s step history p f op e same = changed_by (touch step p f) (cell_after s history) p f op e same
