-- What is known to be the same of two summaries.
use Rattle.std.specs.Prelude.{◌≡◌, true}
use Rattle.cap_tree.specs.declared.similarity.Similarity.{Similarity}

-- what a similarity says of two summaries: each flag that is set gives its relation
pub record AreAlike {S : Type 0} (same_effect same_precondition : S → S → Type 0) (similarity : Similarity)
    (old new : S) : Type 0 where
  pub effect : similarity.effect ≡ true → same_effect old new
  pub precondition : similarity.precondition ≡ true → same_precondition old new
