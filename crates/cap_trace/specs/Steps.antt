-- Texts that are read byte by byte, with a state. Only the code's contracts use this.
use Rattle.std.specs.Prelude.{ℕ, Bool, false, List, [], ◌∷◌, Option, Some, None}

-- whether each byte may be where it is, and the text may end where it ends
unfoldable pub takes_all : {S : Type 0} → (S → ℕ → Option S) → (S → Bool) → S → List ℕ → Bool
takes_all step ends s [] = ends s
takes_all step ends s (c ∷ cs) = elim (step s c) [ None ↦ false | Some t ↦ takes_all step ends t cs ]
