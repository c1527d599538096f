-- What a line that can be spelled says of its arguments: descriptors within their limit, and sets of rights that are
-- closed.
use Rattle.std.proofs.Common.{◌≡◌, ℕ, ◌==◌, true, List, [], ◌∷◌, sym, subst, inl, inr}
use Rattle.std.specs.List.{list_any}
use Rattle.std.proofs.lemmas.Bool.{eqb-true, or_cases}
use Rattle.cap_trace.specs.declared.line.Dir.TheVariants as dirs
use Rattle.cap_trace.specs.Entry.{Entry, Arg, an_fd, a_dir, some_rights, args_of, IsFd, IsPid, IsWhole}
use Rattle.cap_trace.specs.Spelling.{SpellsArg, SpellsArgs, IsProper}
use Rattle.cap_machine.specs.Named.{arg_names}
use Rattle.cap_session.proofs.ClosedSets.{IsClosed, named_closed}

abbrev pub FineArg : Arg → Type 0
FineArg (an_fd f) = IsFd f
FineArg (a_dir (dirs.Fd f)) = IsFd f
FineArg (some_rights r) = IsClosed r
FineArg _ = Unit {0}

abbrev pub FineArgs : List Arg → Type 0
FineArgs [] = Unit {0}
FineArgs (a ∷ others) = FineArg a × FineArgs others

pub record FineLine (line : Entry) : Type 0 where
  pub pid : IsPid line.pid
  pub args : FineArgs (args_of line.item)
  pub whole : IsWhole line.item

arg_fine : (t : List ℕ) (a : Arg) → SpellsArg t a → FineArg a
arg_fine t (an_fd f) is = is.1
arg_fine t (a_dir (dirs.Fd f)) is = is.1
arg_fine t (some_rights r) is = named_closed t r is
arg_fine t _ is = tt

args_fine : (ts : List (List ℕ)) (given : List Arg) → SpellsArgs ts given → FineArgs given
args_fine [] [] is = tt
args_fine [] (a ∷ others) is = absurd is
args_fine (t ∷ ts) [] is = tt
args_fine (t ∷ ts) (a ∷ others) is = (arg_fine t a is.0, args_fine ts others is.1)

pub line_fine : (line : Entry) → IsProper line → FineLine line
line_fine line is = record {
  pid = is.1.1.pid;
  args = args_fine is.1.0 (args_of line.item) is.1.1.args;
  whole = is.1.1.whole;
}

-- ---- what an argument names

pub same_fd : (f g : ℕ) → (f == g) ≡ true → IsFd g → IsFd f
same_fd f g same is = subst IsFd (sym (eqb-true f g same)) is

arg_within : (f : ℕ) (a : Arg) → FineArg a → arg_names f a ≡ true → IsFd f
arg_within f (an_fd g) is same = same_fd f g same is
arg_within f (a_dir (dirs.Fd g)) is same = same_fd f g same is
arg_within f (a_dir dirs.Cwd) is same = absurd (cc)
arg_within f _ is same = absurd (cc)

pub args_within : (f : ℕ) (given : List Arg) → FineArgs given → list_any (arg_names f) given ≡ true → IsFd f
args_within f [] are is = absurd (cc)
args_within f (a ∷ others) are is = elim (or_cases (arg_names f a) (list_any (arg_names f) others) is) [
  | inl here ↦ arg_within f a are.0 here
  | inr later ↦ args_within f others are.1 later
]
