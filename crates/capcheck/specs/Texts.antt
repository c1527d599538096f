-- What is known of the text that a name stands for: nothing, as of a file, that there is none, or its bytes.
use Rattle.std.specs.Prelude.{◌≡◌, ℕ, Bool, true, false, List, Option, None, Some, []}
use Rattle.capcheck.specs.declared.texts.Opened.{Opened}
use Rattle.capcheck.specs.declared.texts.Opened.TheVariants.{File, Standard, Empty}

-- what is known of the text of a name: nothing, that there is none, or its bytes
pub data Known : Type 0 where
  unknown : Known
  missing : Known
  holds : List ℕ → Known

-- a reader of such a text has these bytes still to come
abbrev pub Gives : Known → Option (List ℕ) → Type 0
Gives unknown bytes = Unit {0}
Gives missing bytes = ⊥
Gives (holds text) bytes = bytes ≡ Some text

-- such a text may be one that can't be opened
abbrev pub MayFail : Known → Type 0
MayFail unknown = Unit {0}
MayFail missing = Unit {0}
MayFail (holds text) = ⊥

-- What opening the text of a name comes to: from what opens it, to a reader or to none, and to what opens the next.
-- Without a name the text is standard input.
abbrev pub Opens : Type 0 → Type 0 → Type 1
Opens T R = T → Option (List ℕ) → Option R → T → Type 0

module _ {F I : Type 0} where
  abbrev pub is_file : Opened F I → Bool
  is_file (File file) = true
  is_file (Standard input) = false
  is_file Empty = false

  -- the bytes still to come, where they are known: those of the device in it
  abbrev pub remaining_of : (F → Option (List ℕ)) → (I → Option (List ℕ)) → Opened F I
      → Option (List ℕ)
  remaining_of of_file of_standard (File file) = of_file file
  remaining_of of_file of_standard (Standard input) = of_standard input
  remaining_of of_file of_standard Empty = Some []

-- What a system S opened for a name: the file to which opening this name came, or none where it came to none; and its
-- standard input where there is no name. `opens` and `gives` say so of one call each.
module _ {S F I : Type 0} (opens : S → List ℕ → Option F → S → Type 0) (gives : S → I → S → Type 0) where
  abbrev pub OpensFrom : S → Option (List ℕ) → Option (Opened F I) → S → Type 0
  OpensFrom s (Some name) (Some (File file)) t = opens s name (Some file) t
  OpensFrom s (Some name) None t = opens s name None t
  OpensFrom s None (Some (Standard input)) t = gives s input t
  OpensFrom s _ _ t = ⊥
