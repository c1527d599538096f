-- Lines that are read in one pass: what has been found so far. Only the code's contracts use this.
use Rattle.std.specs.Prelude.{◌≡◌, ℕ, ◌≤◌, List, ◌∷◌, ◌++◌, length}
use Rattle.std.specs.Fmt.{decimal}
use Rattle.std.specs.List.{join_with_byte}
use Rattle.cap_trace.specs.Item.{Item}
use Rattle.cap_trace.specs.Limits.{longest_line}
use Rattle.cap_trace.specs.Names.{Head, name_of}
use Rattle.cap_trace.specs.Entry.{Arg, args_of, head_of, IsPid, IsWhole}
use Rattle.cap_trace.specs.Spelling.{SpellsArg, SpellsArgs, IsHead, tail_text}

-- the text is a spelling of the argument, this byte, and the rest
pub record Before (text : List ℕ) (a : Arg) (stop : ℕ) (rest : List ℕ) : Type 0 where
  pub spelling : List ℕ
  pub arg : SpellsArg spelling a
  pub parts : text ≡ spelling ++ (stop ∷ rest)

-- the text is a spelling of the arguments, a closing bracket, and the rest
pub record Between (text : List ℕ) (given : List Arg) (rest : List ℕ) : Type 0 where
  pub texts : List (List ℕ)
  pub args : SpellsArgs texts given
  pub parts : text ≡ join_with_byte 44 texts ++ (41 ∷ rest)

-- after this name and its bracket, the text spells the item
pub record SpellsAfter (h : Head) (text : List ℕ) (i : Item) : Type 0 where
  pub head : head_of i ≡ h
  pub args : Between text (args_of i) (tail_text i)
  pub whole : IsWhole i

-- the bytes begin with this process and name, and the text follows the bracket
pub record Starts (bytes : List ℕ) (p : ℕ) (h : Head) (text : List ℕ) : Type 0 where
  pub short : length bytes ≤ longest_line
  pub pid : IsPid p
  pub head : IsHead h
  pub parts : bytes ≡ decimal p ++ (32 ∷ (name_of h ++ (40 ∷ text)))
