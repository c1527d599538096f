-- What a walk finds: after one step more, where it has ended, and without steps that leave it where it is.
use Rattle.std.proofs.Common.{◌≡◌, ℕ, ◌+◌, ◌==◌, ◌&&◌, true, false, List, [], ◌∷◌, ◌++◌, length, reverse}
use Rattle.std.proofs.Common.{Vec, Global, Result, Ok, Err, OnErr, Option, Some, None, refl, sym, ap, ◌∙◌, append_assoc}
use Rattle.std.specs.Option.{is_some}
use Rattle.std.specs.Prelude.{unwrap_or}
use Rattle.std.proofs.lemmas.List.{append-nil, reverse-append}
use Rattle.std.proofs.lemmas.List.Elements.{All-head, All-tail}
use Rattle.cap_machine.specs.declared.step.Step.{Step}
use Rattle.cap_machine.specs.declared.cell.Cell.{Cell}
use Rattle.cap_machine.specs.declared.cell.Mode.{Mode}
use Rattle.cap_machine.specs.declared.provenance.CellLink.{CellLink}
use Rattle.cap_machine.specs.declared.provenance.CellEnd.{CellEnd}
use Rattle.cap_machine.specs.declared.provenance.CellEnd.TheVariants as cells
use Rattle.cap_machine.specs.declared.provenance.ModeLink.{ModeLink}
use Rattle.cap_machine.specs.declared.provenance.ModeEnd.{ModeEnd}
use Rattle.cap_machine.specs.declared.provenance.ModeEnd.TheVariants as modes
use Rattle.cap_machine.specs.declared.walks.Passage.{Passage}
use Rattle.cap_machine.specs.declared.walks.CellWalk.{CellWalk}
use Rattle.cap_machine.specs.declared.walks.ModeWalk.{ModeWalk}
use Rattle.cap_machine.specs.State.{State}
use Rattle.cap_machine.specs.Touch.{Touch, kept, given, taken, touch, Turn, stays, turns, follows, turn}
use Rattle.cap_machine.specs.History.{touched, cell_after, turned, mode_after}
use Rattle.cap_machine.specs.Provenance.{CellChain, named_touch, by_touch, cell_chain, cell_at_end}
use Rattle.cap_machine.specs.Provenance.{ModeChain, named_turn, by_turn, mode_chain, mode_link}
use Rattle.cap_machine.specs.Code.Passages.{constant, cell_along, links_along, chain_along}
use Rattle.cap_machine.specs.Code.Walks.{cell_known, cell_found, chain_unless, SameCellWalk, CellIsFound, LeavesCell}
use Rattle.cap_machine.specs.Code.Walks.{mode_known, mode_found, mode_chain_unless, mode_along, ModeIsFound, LeavesMode}
use Rattle.cap_machine.specs.Code.Walks.{SameModeWalk, CellsMayBeLeftOut, ModesMayBeLeftOut}
use Rattle.cap_machine.specs.Code.Following.{passage, Follows, FollowsMode}
use Rattle.cap_machine.proofs.Passages.{chain, same_chain, cell_along-oldest, constant-is, chain_given, chain_taken}
use Rattle.cap_machine.proofs.ModeChains.{named_follows}

-- whatever the error
on_err : {T E P : Type 0} (r : Result T E) → P → OnErr r P
on_err (Ok x) p = tt
on_err (Err e) p = p

-- ---- cells: one step more

-- what a walk finds by its parts
abbrev chain_by : List Passage → Option Cell → State → List Step → ℕ → ℕ → CellChain
chain_by passages gift s history p f =
    chain_along passages (unwrap_or gift (cell_after s history p f)) (chain_unless gift (cell_chain s history p f))

module _ (s : State) (history : List Step) where
  abbrev before : ℕ → ℕ → Cell
  before = cell_after s history

  abbrev chains : ℕ → ℕ → CellChain
  chains = cell_chain s history

  -- the chain and the cell of one that hasn't ended, by what the step before does
  abbrev chain_then : CellWalk → Touch → ℕ → CellChain
  chain_then old t at =
      chain_along old.passages.items (touched t before old.pid old.fd)
      (by_touch (named_touch t before old.pid old.fd) chains at old.pid old.fd)

  abbrev chain_now : CellWalk → CellChain
  chain_now walk = chain_by walk.passages.items walk.given s history walk.pid walk.fd

  abbrev cell_now : CellWalk → Cell
  cell_now walk = cell_along walk.passages.items (unwrap_or walk.given (before walk.pid walk.fd))

  chain_follows : (old new : CellWalk) (at : ℕ) (t : Touch) → old.given ≡ None → Follows old new at t
      → chain_now new ≡ chain_then old t at
  chain_follows old new at kept none is =
      ap chain_now is
      ∙ ap (λ (g : Option Cell). chain_by old.passages.items g s history old.pid old.fd) none
  chain_follows old new at (given c) none is =
      ap (λ (xs : List Passage). chain_by xs new.given s history new.pid new.fd) is.0
      ∙ ap (λ (g : Option Cell). chain_by (old.passages.items ++ passage at old.pid old.fd (constant c) false ∷ []) g s
      history new.pid new.fd) is.1
      ∙ chain_given old.passages.items before chains at old.pid old.fd c
  chain_follows old new at (taken op q g) none is =
      let more : List Passage =
      old.passages.items ++ passage at old.pid old.fd op (q == old.pid && g == old.fd) ∷ [] in
      ap (λ (xs : List Passage). chain_by xs new.given s history new.pid new.fd) is.0
      ∙ ap (λ (d : Option Cell). chain_by more d s history new.pid new.fd) is.1
      ∙ ap (λ (r : ℕ). chain_by more None s history r new.fd) is.2
      ∙ ap (chain_by more None s history q) is.3
      ∙ chain_taken old.passages.items before chains at old.pid old.fd op q g

  cell_follows : (old new : CellWalk) (at : ℕ) (t : Touch) → old.given ≡ None → Follows old new at t
      → cell_now new ≡ cell_along old.passages.items (touched t before old.pid old.fd)
  cell_follows old new at kept none is =
      ap cell_now is
      ∙ ap (λ (g : Option Cell). cell_along old.passages.items (unwrap_or g (before old.pid old.fd))) none
  cell_follows old new at (given c) none is =
      ap (λ (xs : List Passage). cell_along xs (unwrap_or new.given (before new.pid new.fd))) is.0
      ∙ ap (λ (g : Option Cell). cell_along (old.passages.items ++ passage at old.pid old.fd (constant c) false ∷ [])
      (unwrap_or g (before new.pid new.fd))) is.1
      ∙ cell_along-oldest old.passages.items (passage at old.pid old.fd (constant c) false) c
      ∙ ap (cell_along old.passages.items) (constant-is c c)
  cell_follows old new at (taken op q g) none is =
      let x : Passage = passage at old.pid old.fd op (q == old.pid && g == old.fd) in
      ap (λ (xs : List Passage). cell_along xs (unwrap_or new.given (before new.pid new.fd))) is.0
      ∙ ap (λ (d : Option Cell). cell_along (old.passages.items ++ x ∷ []) (unwrap_or d (before new.pid new.fd))) is.1
      ∙ ap (λ (r : ℕ). cell_along (old.passages.items ++ x ∷ []) (before r new.fd)) is.2
      ∙ ap (λ (r : ℕ). cell_along (old.passages.items ++ x ∷ []) (before q r)) is.3
      ∙ cell_along-oldest old.passages.items x (before q g)

pub found_next : (old new : CellWalk) (s : State) (history : List Step) (step : Step) (at : ℕ) (t : Touch)
    → old.given ≡ None → t ≡ touch step old.pid old.fd → Follows old new at t → length history + 1 ≡ at
    → cell_found new s history ≡ cell_found old s (step ∷ history)
unfolding cell_found
found_next old new s history step at t none is goes e =
    chain_follows s history old new at t none goes
    ∙ ap (λ (u : Touch). chain_then s history old u at) is
    ∙ ap (chain_then s history old (touch step old.pid old.fd)) (sym e)
    ∙ sym (ap (λ (g : Option Cell). chain_by old.passages.items g s (step ∷ history) old.pid old.fd) none)

pub known_next : (old new : CellWalk) (s : State) (history : List Step) (step : Step) (at : ℕ) (t : Touch)
    → old.given ≡ None → t ≡ touch step old.pid old.fd → Follows old new at t
    → cell_known new s history ≡ cell_known old s (step ∷ history)
unfolding cell_known
known_next old new s history step at t none is goes =
    cell_follows s history old new at t none goes
    ∙ ap (λ (u : Touch). cell_along old.passages.items (touched u (cell_after s history) old.pid old.fd)) is
    ∙ sym (ap (λ (g : Option Cell). cell_along old.passages.items
    (unwrap_or g (cell_after s (step ∷ history) old.pid old.fd))) none)

-- ---- cells: a walk that has ended

chain_ended : (gift : Option Cell) (passages : List Passage) (c d : Cell) (a b : CellChain) → is_some gift ≡ true
    → chain_along passages (unwrap_or gift c) (chain_unless gift a)
    ≡ chain_along passages (unwrap_or gift d) (chain_unless gift b)
chain_ended None passages c d a b e = absurd (cc)
chain_ended (Some x) passages c d a b e = refl

cell_ended : (gift : Option Cell) (passages : List Passage) (c d : Cell) → is_some gift ≡ true
    → cell_along passages (unwrap_or gift c) ≡ cell_along passages (unwrap_or gift d)
cell_ended None passages c d e = absurd (cc)
cell_ended (Some x) passages c d e = refl

pub cell_is_found : (walk : CellWalk) → is_some walk.given ≡ true → CellIsFound walk
unfolding cell_found cell_known
cell_is_found walk e = record {
  chain = λ s t history older. chain_ended walk.given walk.passages.items (cell_after s history walk.pid walk.fd)
      (cell_after t older walk.pid walk.fd) (cell_chain s history walk.pid walk.fd)
      (cell_chain t older walk.pid walk.fd) e;
  cell = λ s t history older. cell_ended walk.given walk.passages.items (cell_after s history walk.pid walk.fd)
      (cell_after t older walk.pid walk.fd) e;
}

-- ---- cells: steps that are left out

back_one : (step : Step) (trace history : List Step)
    → reverse (step ∷ trace) ++ history ≡ reverse trace ++ step ∷ history
back_one step trace history =
    ap (λ (r : List Step). r ++ history) (reverse-append (step ∷ []) trace)
    ∙ append_assoc (reverse trace) (step ∷ []) history

chain_left : (s : State) (trace history : List Step) (p f : ℕ) → LeavesCell trace p f
    → cell_chain s (reverse trace ++ history) p f ≡ cell_chain s history p f
chain_left s [] history p f leaves = refl
chain_left s (step ∷ trace) history p f leaves =
    let Is : Step → Type 0 = λ (x : Step). touch x p f ≡ kept in
    ap (λ (h : List Step). cell_chain s h p f) (back_one step trace history)
    ∙ chain_left s trace (step ∷ history) p f (All-tail Is step trace leaves)
    ∙ ap (λ (t : Touch). by_touch (named_touch t (cell_after s history) p f) (cell_chain s history)
    (length history + 1) p f) (All-head Is step trace leaves)

cell_left : (s : State) (trace history : List Step) (p f : ℕ) → LeavesCell trace p f
    → cell_after s (reverse trace ++ history) p f ≡ cell_after s history p f
cell_left s [] history p f leaves = refl
cell_left s (step ∷ trace) history p f leaves =
    let Is : Step → Type 0 = λ (x : Step). touch x p f ≡ kept in
    ap (λ (h : List Step). cell_after s h p f) (back_one step trace history)
    ∙ cell_left s trace (step ∷ history) p f (All-tail Is step trace leaves)
    ∙ ap (λ (t : Touch). touched t (cell_after s history) p f) (All-head Is step trace leaves)

pub cells_may_be_left_out : CellsMayBeLeftOut
unfolding cell_found cell_known
cells_may_be_left_out walk s history trace leaves =
    let was : Cell = cell_after s (reverse trace ++ history) walk.pid walk.fd in
    let same : was ≡ cell_after s history walk.pid walk.fd = cell_left s trace history walk.pid walk.fd leaves in
    let chain : CellChain = cell_chain s (reverse trace ++ history) walk.pid walk.fd in (
      ap (λ (c : Cell). chain_along walk.passages.items (unwrap_or walk.given c) (chain_unless walk.given chain)) same
          ∙ ap (λ (r : CellChain). chain_along walk.passages.items
          (unwrap_or walk.given (cell_after s history walk.pid walk.fd)) (chain_unless walk.given r))
          (chain_left s trace history walk.pid walk.fd leaves),
      ap (λ (c : Cell). cell_along walk.passages.items (unwrap_or walk.given c)) same,
    )

-- ---- cells: a walk that stays, and one that is finished

same_cell_walk : (old : CellWalk) (passages : Vec Passage Global) → passages.items ≡ old.passages.items
    → SameCellWalk old (record old { passages = passages })
unfolding cell_found cell_known
same_cell_walk old passages e = record {
  chain = λ s history. ap (λ (xs : List Passage). chain_by xs old.given s history old.pid old.fd) e;
  cell = λ s history.
      ap (λ (xs : List Passage). cell_along xs (unwrap_or old.given (cell_after s history old.pid old.fd))) e;
  pid = refl;
  fd = refl;
}

-- where there was no memory for a passage more
pub no_passage_more : {T E : Type 0} (r : Result T E) (old : CellWalk) (passages : Vec Passage Global)
    → passages.items ≡ old.passages.items → OnErr r (SameCellWalk old (record old { passages = passages }))
no_passage_more r old passages e = on_err r (same_cell_walk old passages e)

end_cell : (gift : Option Cell) (p f : ℕ) (c : Cell)
    → cell_at_end (chain_unless gift (record { links = []; end = cells.Start p f c })).end ≡ unwrap_or gift c
end_cell None p f c = refl
end_cell (Some d) p f c = refl

no_links : (gift : Option Cell) (end : CellEnd)
    → (chain_unless gift (record { links = []; end = end })).links ≡ []
no_links None end = refl
no_links (Some c) end = refl

module _ (walk : CellWalk) (s : State) (passages : List Passage) (c : Cell) (end : CellEnd) where
  abbrev pub EndsAt : Type 0
  EndsAt = (passages ≡ walk.passages.items) × (c ≡ cell_at_end end)
      × (end ≡ (chain_unless walk.given (cell_chain s [] walk.pid walk.fd)).end)

  cell_there : EndsAt → c ≡ unwrap_or walk.given (s.cell walk.pid walk.fd)
  cell_there at = at.1 ∙ ap cell_at_end at.2 ∙ end_cell walk.given walk.pid walk.fd (s.cell walk.pid walk.fd)

  pub chain_finished : (links : List CellLink) → EndsAt → links ≡ links_along passages c
      → chain links end ≡ cell_found walk s []
  unfolding cell_found
  chain_finished links at is =
      let there : Cell = unwrap_or walk.given (s.cell walk.pid walk.fd) in
      same_chain (chain links end) (chain_by walk.passages.items walk.given s [] walk.pid walk.fd)
      (is ∙ ap (λ (xs : List Passage). links_along xs c) at.0 ∙ ap (links_along walk.passages.items) (cell_there at)
      ∙ sym (append-nil (links_along walk.passages.items there))
      ∙ ap (λ (r : List CellLink). links_along walk.passages.items there ++ r)
      (sym (no_links walk.given (cells.Start walk.pid walk.fd (s.cell walk.pid walk.fd)))))
      at.2

  pub cell_finished : EndsAt → cell_along passages c ≡ cell_known walk s []
  unfolding cell_known
  cell_finished at =
      ap (λ (xs : List Passage). cell_along xs c) at.0 ∙ ap (cell_along walk.passages.items) (cell_there at)

-- ---- modes: one step more

abbrev modes_by : List ModeLink → Option Mode → State → List Step → ℕ → ModeChain
modes_by links gift s history p = mode_along links (mode_chain_unless gift (mode_chain s history p))

abbrev pub links_and_end : ModeEnd → List ModeLink → ModeChain
links_and_end end links = record { links = links; end = end }

module _ (s : State) (history : List Step) where
  abbrev mode_then : ModeWalk → Turn → ℕ → ModeChain
  mode_then old t at = mode_along old.links.items (by_turn t (mode_chain s history) at old.pid)

  modes_follow : (old new : ModeWalk) (at : ℕ) (t : Turn) → old.turned ≡ None → FollowsMode old new at t
      → modes_by new.links.items new.turned s history new.pid ≡ mode_then old t at
  modes_follow old new at stays none is =
      ap (λ (w : ModeWalk). modes_by w.links.items w.turned s history w.pid) is
      ∙ ap (λ (g : Option Mode). modes_by old.links.items g s history old.pid) none
  modes_follow old new at (turns m) none is =
      let more : List ModeLink = old.links.items ++ mode_link at old.pid ∷ [] in
      ap (λ (r : List ModeLink). modes_by r new.turned s history new.pid) is.0
      ∙ ap (λ (g : Option Mode). modes_by more g s history new.pid) is.1
      ∙ ap (links_and_end (modes.Given m)) (append-nil more)
  modes_follow old new at (follows q) none is =
      let more : List ModeLink = old.links.items ++ mode_link at old.pid ∷ [] in
      let rest : ModeChain = mode_chain s history q in
      ap (λ (r : List ModeLink). modes_by r new.turned s history new.pid) is.0
      ∙ ap (λ (g : Option Mode). modes_by more g s history new.pid) is.1
      ∙ ap (modes_by more None s history) is.2
      ∙ ap (links_and_end rest.end) (append_assoc old.links.items (mode_link at old.pid ∷ []) rest.links)

  mode_follows : (old new : ModeWalk) (at : ℕ) (t : Turn) → old.turned ≡ None → FollowsMode old new at t
      → unwrap_or new.turned (mode_after s history new.pid) ≡ turned t (mode_after s history) old.pid
  mode_follows old new at stays none is =
      ap (λ (w : ModeWalk). unwrap_or w.turned (mode_after s history w.pid)) is
      ∙ ap (λ (g : Option Mode). unwrap_or g (mode_after s history old.pid)) none
  mode_follows old new at (turns m) none is =
      ap (λ (g : Option Mode). unwrap_or g (mode_after s history new.pid)) is.1
  mode_follows old new at (follows q) none is =
      ap (λ (g : Option Mode). unwrap_or g (mode_after s history new.pid)) is.1 ∙ ap (mode_after s history) is.2

pub mode_found_next : (old new : ModeWalk) (s : State) (history : List Step) (step : Step) (at : ℕ) (t : Turn)
    → old.turned ≡ None → t ≡ turn step old.pid → FollowsMode old new at (named_turn t old.pid)
    → length history + 1 ≡ at
    → mode_found new s history ≡ mode_found old s (step ∷ history)
unfolding mode_found
mode_found_next old new s history step at t none is goes e =
    modes_follow s history old new at (named_turn t old.pid) none goes
    ∙ ap (λ (u : Turn). mode_then s history old (named_turn u old.pid) at) is
    ∙ ap (mode_then s history old (named_turn (turn step old.pid) old.pid)) (sym e)
    ∙ sym (ap (λ (g : Option Mode). modes_by old.links.items g s (step ∷ history) old.pid) none)

pub mode_known_next : (old new : ModeWalk) (s : State) (history : List Step) (step : Step) (at : ℕ) (t : Turn)
    → old.turned ≡ None → t ≡ turn step old.pid → FollowsMode old new at (named_turn t old.pid)
    → mode_known new s history ≡ mode_known old s (step ∷ history)
unfolding mode_known
mode_known_next old new s history step at t none is goes =
    mode_follows s history old new at (named_turn t old.pid) none goes
    ∙ named_follows t (mode_after s history) old.pid
    ∙ ap (λ (u : Turn). turned u (mode_after s history) old.pid) is
    ∙ sym (ap (λ (g : Option Mode). unwrap_or g (mode_after s (step ∷ history) old.pid)) none)

-- ---- modes: a walk that has ended

modes_ended : (gift : Option Mode) (links : List ModeLink) (a b : ModeChain) → is_some gift ≡ true
    → mode_along links (mode_chain_unless gift a) ≡ mode_along links (mode_chain_unless gift b)
modes_ended None links a b e = absurd (cc)
modes_ended (Some m) links a b e = refl

mode_ended : (gift : Option Mode) (m n : Mode) → is_some gift ≡ true → unwrap_or gift m ≡ unwrap_or gift n
mode_ended None m n e = absurd (cc)
mode_ended (Some x) m n e = refl

pub mode_is_found : (walk : ModeWalk) → is_some walk.turned ≡ true → ModeIsFound walk
unfolding mode_found mode_known
mode_is_found walk e = record {
  chain = λ s t history older. modes_ended walk.turned walk.links.items (mode_chain s history walk.pid)
      (mode_chain t older walk.pid) e;
  mode = λ s t history older. mode_ended walk.turned (mode_after s history walk.pid) (mode_after t older walk.pid) e;
}

-- ---- modes: steps that are left out

modes_left : (s : State) (trace history : List Step) (p : ℕ) → LeavesMode trace p
    → mode_chain s (reverse trace ++ history) p ≡ mode_chain s history p
modes_left s [] history p leaves = refl
modes_left s (step ∷ trace) history p leaves =
    let Is : Step → Type 0 = λ (x : Step). turn x p ≡ stays in
    ap (λ (h : List Step). mode_chain s h p) (back_one step trace history)
    ∙ modes_left s trace (step ∷ history) p (All-tail Is step trace leaves)
    ∙ ap (λ (t : Turn). by_turn (named_turn t p) (mode_chain s history) (length history + 1) p)
    (All-head Is step trace leaves)

mode_left : (s : State) (trace history : List Step) (p : ℕ) → LeavesMode trace p
    → mode_after s (reverse trace ++ history) p ≡ mode_after s history p
mode_left s [] history p leaves = refl
mode_left s (step ∷ trace) history p leaves =
    let Is : Step → Type 0 = λ (x : Step). turn x p ≡ stays in
    ap (λ (h : List Step). mode_after s h p) (back_one step trace history)
    ∙ mode_left s trace (step ∷ history) p (All-tail Is step trace leaves)
    ∙ ap (λ (t : Turn). turned t (mode_after s history) p) (All-head Is step trace leaves)

pub modes_may_be_left_out : ModesMayBeLeftOut
unfolding mode_found mode_known
modes_may_be_left_out walk s history trace leaves = (
  ap (λ (r : ModeChain). mode_along walk.links.items (mode_chain_unless walk.turned r))
      (modes_left s trace history walk.pid leaves),
  ap (unwrap_or walk.turned) (mode_left s trace history walk.pid leaves),
)

-- ---- modes: a walk that stays, and one that is finished

same_mode_walk : (old : ModeWalk) (links : Vec ModeLink Global) → links.items ≡ old.links.items
    → SameModeWalk old (record old { links = links })
unfolding mode_found mode_known
same_mode_walk old links e = record {
  chain = λ s history. ap (λ (r : List ModeLink). modes_by r old.turned s history old.pid) e;
  mode = λ s history. refl;
  pid = refl;
}

-- where there was no memory for a link more
pub no_link_more : {T E : Type 0} (r : Result T E) (old : ModeWalk) (links : Vec ModeLink Global)
    → links.items ≡ old.links.items → OnErr r (SameModeWalk old (record old { links = links }))
no_link_more r old links e = on_err r (same_mode_walk old links e)

module _ (walk : ModeWalk) (s : State) where
  pub modes_given : (m : Mode) → walk.turned ≡ Some m
      → links_and_end (modes.Given m) walk.links.items ≡ mode_found walk s []
  unfolding mode_found
  modes_given m e =
      ap (links_and_end (modes.Given m)) (sym (append-nil walk.links.items))
      ∙ sym (ap (λ (g : Option Mode). modes_by walk.links.items g s [] walk.pid) e)

  pub mode_given : (m : Mode) → walk.turned ≡ Some m → m ≡ mode_known walk s []
  unfolding mode_known
  mode_given m e = sym (ap (λ (g : Option Mode). unwrap_or g (s.mode walk.pid)) e)

  pub modes_of_start : (m : Mode) → walk.turned ≡ None → m ≡ s.mode walk.pid
      → links_and_end (modes.Start walk.pid m) walk.links.items ≡ mode_found walk s []
  unfolding mode_found
  modes_of_start m e is =
      ap (λ (n : Mode). links_and_end (modes.Start walk.pid n) walk.links.items) is
      ∙ ap (links_and_end (modes.Start walk.pid (s.mode walk.pid))) (sym (append-nil walk.links.items))
      ∙ sym (ap (λ (g : Option Mode). modes_by walk.links.items g s [] walk.pid) e)

  pub mode_of_start : (m : Mode) → walk.turned ≡ None → m ≡ s.mode walk.pid → m ≡ mode_known walk s []
  unfolding mode_known
  mode_of_start m e is = is ∙ sym (ap (λ (g : Option Mode). unwrap_or g (s.mode walk.pid)) e)
