-- The text of an argument that is seen where it lies, and texts with commas.
use Rattle.std.specs.Prelude.{ℕ, List, [], ◌∷◌, ◌++◌}
use Rattle.cap_trace.specs.declared.args.ArgRef.{ArgRef}
use Rattle.cap_trace.specs.Views.{arg_view}
use Rattle.cap_trace.specs.Spelling.{arg_text}

abbrev pub shown_text : ArgRef → List ℕ
shown_text a = arg_text (arg_view a)

-- texts, each after a comma
unfoldable pub with_commas : List (List ℕ) → List ℕ
with_commas [] = []
with_commas (t ∷ ts) = (44 ∷ t) ++ with_commas ts
