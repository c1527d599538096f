-- The descriptors of a line that can be spelled are within the limit.
use Rattle.std.proofs.Common.{◌≡◌, ℕ, List, [], ◌∷◌, Result, Ok, Err, refl}
use Rattle.std.specs.List.{All}
use Rattle.std.proofs.lemmas.List.Elements.{All-nil, All-cons}
use Rattle.cap_trace.specs.declared.fault.FirstFault.{FirstFault}
use Rattle.cap_trace.specs.declared.fault.FirstFault.TheVariants as faults
use Rattle.cap_trace.specs.Entry.{Entry, Arg, an_fd, args_of, IsFd}
use Rattle.cap_trace.specs.Limits.{largest_fd}
use Rattle.cap_trace.specs.Number.{num_at}
use Rattle.cap_trace.specs.Quotes.{pieces}
use Rattle.cap_trace.specs.Reading.{fd_at}
use Rattle.cap_trace.specs.Views.{fds_in, fds_spelled}
use Rattle.cap_trace.specs.Spelling.{SpellsArg, SpellsArgs, IsProper}
use Rattle.cap_trace.proofs.Numerals.{need_ok, num_takes}
use Rattle.cap_machine.specs.Effect.{ArgWithin, FdsWithin}

arg_within : (t : List ℕ) (a : Arg) → SpellsArg t a → ArgWithin a
arg_within t (an_fd f) is = is.1
arg_within t _ is = tt

args_within : (ts : List (List ℕ)) (given : List Arg) → SpellsArgs ts given → FdsWithin given
args_within [] [] is = tt
args_within [] (a ∷ others) is = absurd is
args_within (t ∷ ts) [] is = tt
args_within (t ∷ ts) (a ∷ others) is = (arg_within t a is.0, args_within ts others is.1)

pub proper_within : (line : Entry) → IsProper line → FdsWithin (args_of line.item)
proper_within line is = args_within is.1.0 (args_of line.item) is.1.1.args

-- and those that a start spells
fds_within : (ts : List (List ℕ)) → All IsFd (fds_in ts)
unfolding fds_in fd_at
fds_within [] = All-nil IsFd
fds_within (t ∷ ts) = by (fd_at t) refl (fds_within ts)
  where
    by : (r : Result ℕ FirstFault) → fd_at t ≡ r → All IsFd (fds_in ts)
        → All IsFd (elim r [ Ok f ↦ f ∷ fds_in ts | Err e ↦ fds_in ts ])
    by (Ok f) is others =
        let read = num_takes largest_fd t f (need_ok faults.Argument (num_at largest_fd t) f is) in
        All-cons IsFd f (fds_in ts) read.1 others
    by (Err e) is others = others

pub spelled_within : (text : List ℕ) → All IsFd (fds_spelled text)
spelled_within text = fds_within (pieces text)
