-- A loop over bytes that keeps a state.
use Rattle.std.proofs.Common.{◌≡◌, ℕ, ◌+◌, ◌<◌, ◌≤◌, Bool, false, List, length, get_or, drop, Option, Some, None, sym}
use Rattle.std.proofs.Common.{ap, ◌∙◌}
use Rattle.std.proofs.lemmas.List.{drop_more, drop_all}
use Rattle.cap_trace.specs.Steps.{takes_all}

-- what is left to take, by what one step gives
from_step : {S : Type 0} (step : S → ℕ → Option S) (ends : S → Bool) (rest : List ℕ) → Option S → Bool
from_step step ends rest None = false
from_step step ends rest (Some s) = takes_all step ends s rest

takes_here : {S : Type 0} (step : S → ℕ → Option S) (ends : S → Bool) (s : S) (t : List ℕ) (i : ℕ) (o : Option S)
    → i < length t → o ≡ step s (get_or t i 0)
    → takes_all step ends s (drop i t) ≡ from_step step ends (drop (i + 1) t) o
unfolding takes_all from_step
takes_here {S} step ends s t i o lt e =
    ap (takes_all step ends s) (drop_more t i 0 lt) ∙ ap (from_step step ends (drop (i + 1) t)) (sym e)

pub takes_stop : {S : Type 0} (step : S → ℕ → Option S) (ends : S → Bool) (s : S) (t : List ℕ) (i : ℕ) (total : Bool)
    → i < length t → None ≡ step s (get_or t i 0)
    → takes_all step ends s (drop i t) ≡ total → false ≡ total
unfolding from_step
takes_stop step ends s t i total lt e h = sym (takes_here step ends s t i None lt e) ∙ h

pub takes_more : {S : Type 0} (step : S → ℕ → Option S) (ends : S → Bool) (s u : S) (t : List ℕ) (i : ℕ) (total : Bool)
    → i < length t → Some u ≡ step s (get_or t i 0)
    → takes_all step ends s (drop i t) ≡ total → takes_all step ends u (drop (i + 1) t) ≡ total
unfolding from_step
takes_more step ends s u t i total lt e h = sym (takes_here step ends s t i (Some u) lt e) ∙ h

pub takes_end : {S : Type 0} (step : S → ℕ → Option S) (ends : S → Bool) (s : S) (t : List ℕ) (i : ℕ) (total : Bool)
    → length t ≤ i
    → takes_all step ends s (drop i t) ≡ total → ends s ≡ total
unfolding takes_all
takes_end step ends s t i total le h = sym (ap (takes_all step ends s) (drop_all i t le)) ∙ h
