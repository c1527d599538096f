-- What the chain of a mode names: it ends in the mode, and leaves out no step that turned it.
use Rattle.std.proofs.Common.{◌≡◌, ◌==◌, ℕ, ◌+◌, ◌≤◌, if◌then◌else◌, Bool, true, false, List, [], ◌∷◌, length}
use Rattle.std.proofs.Common.{reverse, refl}
use Rattle.std.proofs.Common.{sym, ap, ◌∙◌, subst, arith, eq-eqb, eqb-true}
use Rattle.std.proofs.lemmas.List.{length-reverse}
use Rattle.std.proofs.lemmas.Bool.{cases_eq, ne_eqb}
use Rattle.std.proofs.Math.Logic.{⊎_elim}
use Rattle.cap_machine.specs.declared.step.Step.{Step}
use Rattle.cap_machine.specs.declared.provenance.ModeLink.{ModeLink}
use Rattle.cap_machine.specs.declared.provenance.ModeEnd.{ModeEnd}
use Rattle.cap_machine.specs.declared.provenance.ModeEnd.TheVariants as modes
use Rattle.cap_machine.specs.declared.cell.Mode.{Mode}
use Rattle.cap_machine.specs.State.{State}
use Rattle.cap_machine.specs.Touch.{Turn, stays, turns, follows, turn}
use Rattle.cap_machine.specs.History.{turned, mode_after}
use Rattle.cap_machine.specs.Provenance.{named_turn, ModeChain, by_turn, mode_chain}
use Rattle.cap_machine.specs.ProvenanceLaws.{turn_at, mode_at_end, ModesAreFollowed, Unturned, ModeGoesOn, IsModeChain}
use Rattle.cap_machine.specs.ProvenanceLaws.{ModesSkipNone}

-- ---- a chain ends in the mode

from_itself : (own : Bool) (q : ℕ) (mode : ℕ → Mode) (p : ℕ) → (own ≡ true → q ≡ p)
    → turned (if own then stays else follows q) mode p ≡ mode q
from_itself true q mode p is = ap mode (sym (is refl))
from_itself false q mode p is = refl

pub named_follows : (t : Turn) (mode : ℕ → Mode) (p : ℕ) → turned (named_turn t p) mode p ≡ turned t mode p
named_follows (follows q) mode p = from_itself (q == p) q mode p (λ e. eqb-true q p e)
named_follows _ mode p = refl

followed_by : (t : Turn) (before : ℕ → ModeChain) (s : State) (history : List Step) (n p : ℕ)
    → ((q : ℕ) → mode_at_end (before q).end ≡ mode_after s history q)
    → mode_at_end (by_turn t before n p).end ≡ turned t (mode_after s history) p
followed_by stays before s history n p known = known p
followed_by (turns m) before s history n p known = refl
followed_by (follows q) before s history n p known = known q

followed : (s : State) (history : List Step) (p : ℕ)
    → mode_at_end (mode_chain s history p).end ≡ mode_after s history p
followed s [] p = refl
followed s (step ∷ history) p =
    followed_by (named_turn (turn step p) p) (mode_chain s history) s history (length history + 1) p
    (followed s history)
    ∙ named_follows (turn step p) (mode_after s history) p

pub modes_are_followed : ModesAreFollowed
modes_are_followed s trace p = followed s (reverse trace) p

-- ---- the step at a position

turn-newest : (step : Step) (history : List Step) (p : ℕ)
    → turn_at (step ∷ history) (length history + 1) p ≡ named_turn (turn step p) p
turn-newest step history p =
    ap (λ (b : Bool). if b then named_turn (turn step p) p else turn_at history (length history + 1) p)
    (eq-eqb (length history + 1) (length history + 1) refl)

turn-older : (step : Step) (history : List Step) (k p : ℕ) → k ≤ length history
    → turn_at (step ∷ history) k p ≡ turn_at history k p
turn-older step history k p le =
    ap (λ (b : Bool). if b then named_turn (turn step p) p else turn_at history k p)
    (ne_eqb k (length history + 1) (λ e. absurd (omega arith)))

-- ---- a chain leaves nothing out

goes_along : (x : Turn) (links : List ModeLink) (end : ModeEnd) (from later : ℕ → Type 0)
    → ((q : ℕ) → from q → later q) → ModeGoesOn x links end from → ModeGoesOn x links end later
goes_along (follows q) links end from later map h = map q h
goes_along _ links end from later map h = h

goes_on : (t u : Turn) (links : List ModeLink) (end : ModeEnd) (from later : ℕ → Type 0) → t ≡ u
    → ((q : ℕ) → from q → later q) → ModeGoesOn t links end from → ModeGoesOn u links end later
goes_on t u links end from later same map goes =
    let P : Turn → Type 0 = λ x. ModeGoesOn x links end later in
    subst P same (goes_along t links end from later map goes)

-- one more step, at or above the position
unturned-older : (step : Step) (history : List Step) (low high p : ℕ) → high ≤ length history + 1
    → Unturned history low high p → Unturned (step ∷ history) low high p
unturned-older step history low high p le none k above below =
    turn-older step history k p (omega arith) ∙ none k above below

chain-older : (s : State) (step : Step) (history : List Step) (links : List ModeLink) (end : ModeEnd) (high p : ℕ)
    → high ≤ length history + 1 → IsModeChain s history links end high p
    → IsModeChain s (step ∷ history) links end high p
chain-older s step history [] end high p le is = (unturned-older step history 0 high p le is.0, is.1)
chain-older s step history (link ∷ links) end high p le is = (
  is.0,
  is.1,
  unturned-older step history link.at high p le is.2,
  goes_on (turn_at history link.at p) (turn_at (step ∷ history) link.at p) links end
      (λ q. IsModeChain s history links end link.at q) (λ q. IsModeChain s (step ∷ history) links end link.at q)
      (sym (turn-older step history link.at p (omega (arith, is.1))))
      (λ q h. chain-older s step history links end link.at q (omega (arith, is.1)) h) is.3,
)

-- one more position, whose step doesn't turn the mode
unturned_higher : (history : List Step) (low high p : ℕ) → turn_at history high p ≡ stays
    → Unturned history low high p → Unturned history low (high + 1) p
unturned_higher history low high p keeps none k above below =
    ⊎_elim (λ e. ap (λ (i : ℕ). turn_at history i p) e ∙ keeps) (λ ne. none k above (omega arith)) (cases_eq k high)

higher : (s : State) (history : List Step) (links : List ModeLink) (end : ModeEnd) (high p : ℕ)
    → turn_at history high p ≡ stays → IsModeChain s history links end high p
    → IsModeChain s history links end (high + 1) p
higher s history [] end high p keeps is = (unturned_higher history 0 high p keeps is.0, is.1)
higher s history (link ∷ links) end high p keeps is =
    (is.0, omega (arith, is.1), unturned_higher history link.at high p keeps is.2, is.3)

nothing_between : (history : List Step) (n p : ℕ) → Unturned history n (n + 1) p
nothing_between history n p k above below = absurd (omega arith)

module _ (s : State) (step : Step) (history : List Step) where
  abbrev known : ℕ → ModeChain
  known = mode_chain s history

  abbrev newest : ℕ
  newest = length history + 1

  abbrev IsNext : ModeChain → ℕ → Type 0
  IsNext chain p = IsModeChain s (step ∷ history) chain.links chain.end (newest + 1) p

  chain_by : (t : Turn) (p : ℕ) → named_turn (turn step p) p ≡ t
      → ((q : ℕ) → IsModeChain s history (known q).links (known q).end newest q)
      → IsNext (by_turn t known newest p) p
  chain_by stays p e is =
      higher s (step ∷ history) (known p).links (known p).end newest p (turn-newest step history p ∙ e)
      (chain-older s step history (known p).links (known p).end newest p (omega arith) (is p))
  chain_by (turns m) p e is =
      let P : Turn → Type 0 =
      λ x. ModeGoesOn x [] (modes.Given m) (λ q. IsModeChain s (step ∷ history) [] (modes.Given m) newest q) in (
        refl,
        omega arith,
        nothing_between (step ∷ history) newest p,
        subst P (sym (turn-newest step history p ∙ e)) (refl, refl),
      )
  chain_by (follows q) p e is =
      let P : Turn → Type 0 = λ x. ModeGoesOn x (known q).links (known q).end
      (λ r. IsModeChain s (step ∷ history) (known q).links (known q).end newest r) in (
        refl,
        omega arith,
        nothing_between (step ∷ history) newest p,
        subst P (sym (turn-newest step history p ∙ e))
            (chain-older s step history (known q).links (known q).end newest q (omega arith) (is q)),
      )

is_chain : (s : State) (history : List Step) (p : ℕ)
    → IsModeChain s history (mode_chain s history p).links (mode_chain s history p).end (length history + 1) p
is_chain s [] p = (λ k above below. refl, refl)
is_chain s (step ∷ history) p =
    let P : ℕ → Type 0 = λ n. IsModeChain s (step ∷ history) (mode_chain s (step ∷ history) p).links
    (mode_chain s (step ∷ history) p).end n p in
    let same : length history + 1 + 1 ≡ length (step ∷ history) + 1 = omega arith in
    subst P same (chain_by s step history (named_turn (turn step p) p) p refl (is_chain s history))

pub modes_skip_none : ModesSkipNone
modes_skip_none s trace p =
    let P : ℕ → Type 0 = λ n. IsModeChain s (reverse trace) (mode_chain s (reverse trace) p).links
    (mode_chain s (reverse trace) p).end (n + 1) p in
    subst P (length-reverse trace) (is_chain s (reverse trace) p)
