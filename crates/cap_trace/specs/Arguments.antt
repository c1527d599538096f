-- A few values as a list.
use Rattle.std.specs.Prelude.{List, [], ◌∷◌}
use Rattle.cap_trace.specs.declared.args.Arguments.{Arguments}
use Rattle.cap_trace.specs.declared.args.Arguments.TheVariants as arguments

abbrev pub argument_items : {A B : Type 0} → (A → B) → Arguments A → List B
argument_items f arguments.Zero = []
argument_items f (arguments.One a) = f a ∷ []
argument_items f (arguments.Two a b) = f a ∷ f b ∷ []
argument_items f (arguments.Three a b c) = f a ∷ f b ∷ f c ∷ []
argument_items f (arguments.Four a b c d) = f a ∷ f b ∷ f c ∷ f d ∷ []
argument_items f (arguments.Five a b c d e) = f a ∷ f b ∷ f c ∷ f d ∷ f e ∷ []
