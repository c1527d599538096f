-- Reading a line from the left, with the first fault that is met.
use Rattle.std.specs.Prelude.{◌≡◌, ℕ, ◌+◌, ◌-◌, ◌^◌, ◌==◌, Bool, List, [], ◌∷◌, length, take, drop, Option, Some, None}
use Rattle.std.specs.Prelude.{Result, Ok, Err, nat_lt, codes, option_map, if◌then◌else◌}
use Rattle.std.specs.Str.{bytes_eq}
use Rattle.std.specs.List.{starts_with, ends_with, list_all}
use Rattle.std.specs.Prelude.{nat_eq}
use Rattle.cap_rights.specs.Text.{names}
use Rattle.cap_trace.specs.declared.fault.FirstFault.{FirstFault}
use Rattle.cap_trace.specs.declared.fault.FirstFault.TheVariants as faults
use Rattle.cap_trace.specs.Item.{Item}
use Rattle.cap_trace.specs.Item as items
use Rattle.cap_trace.specs.declared.line.Answer.{Answer}
use Rattle.cap_trace.specs.declared.line.Answer.TheVariants as answers
use Rattle.cap_trace.specs.declared.line.Dir.{Dir}
use Rattle.cap_trace.specs.declared.line.Dir.TheVariants as dirs
use Rattle.cap_trace.specs.declared.calls.ResultKind.{ResultKind}
use Rattle.cap_trace.specs.declared.calls.ResultKind.TheVariants.{Count, Zero, Fd, Same, FdPair, Child, ChildAndFd, Any}
use Rattle.cap_trace.specs.Limits.{longest_line, largest_pid, largest_fd, largest_errno}
use Rattle.cap_trace.specs.Names.{Head, listed, unlisted, head_named}
use Rattle.cap_trace.specs.Number.{num_at}
use Rattle.cap_trace.specs.Quotes.{cut_at_byte, cut_outside, pieces}
use Rattle.cap_trace.specs.Fields.{is_flags, are_items, is_free}
use Rattle.cap_trace.specs.Entry.{Entry, Arg, an_fd, a_dir, some_flags, some_rights, a_path, a_command, a_word}
use Rattle.cap_trace.specs.Entry.{free_text, kind_of}
use Rattle.cap_trace.specs.Spelling.{word_text, is_command}
use Rattle.cap_trace.specs.Forms.{Slot, fd, dir, flags, rights, path, command, word, free, Shape, these, rising_fds}
use Rattle.cap_trace.specs.Forms.{shape_of, Event, a_call, a_marker, built}

infixl 10 ◌>>=◌
abbrev pub ◌>>=◌ : {A B : Type 0} → Result A FirstFault → (A → Result B FirstFault) → Result B FirstFault
(Ok x) >>= f = f x
(Err e) >>= f = Err e

-- what a function gave, seen by view, is what reading gives
abbrev pub Gives : {X Y : Type 0} → (X → Y) → Result X FirstFault → Result Y FirstFault → Type 0
Gives view (Ok x) read = read ≡ Ok (view x)
Gives view (Err e) read = read ≡ Err e

-- a value that is there, or this fault
abbrev pub need : {A : Type 0} → FirstFault → Option A → Result A FirstFault
need e None = Err e
need e (Some x) = Ok x

-- the same of a number that may not be 0
abbrev pub positive : FirstFault → Option ℕ → Result ℕ FirstFault
positive e None = Err e
positive e (Some n) = if n == 0 then Err e else Ok n

-- a text that passes a test is kept unchanged
abbrev pub kept : (List ℕ → Bool) → FirstFault → List ℕ → Result (List ℕ) FirstFault
kept test e t = if test t then Ok t else Err e

-- what follows a prefix
abbrev pub after_prefix : List ℕ → List ℕ → Option (List ℕ)
after_prefix p t = if starts_with nat_eq t p then Some (drop (length p) t) else None

-- what is before a suffix
abbrev pub before_suffix : List ℕ → List ℕ → Option (List ℕ)
before_suffix p t = if ends_with nat_eq t p then Some (take (length t - length p) t) else None

-- ---- fields

unfoldable pub pid_at : List ℕ → Result ℕ FirstFault
pid_at t = positive faults.Pid (num_at largest_pid t)

unfoldable pub fd_at : List ℕ → Result ℕ FirstFault
fd_at t = need faults.Argument (num_at largest_fd t)

unfoldable pub rights_at : List ℕ → Result ℕ FirstFault
rights_at t = need faults.Right (names t)

unfoldable pub dir_at : List ℕ → Result Dir FirstFault
dir_at t = if bytes_eq t (codes "AT_FDCWD") then Ok dirs.Cwd else (fd_at t >>= λ f. Ok (dirs.Fd f))

unfoldable pub flags_at : List ℕ → Result (List ℕ) FirstFault
flags_at t = kept is_flags faults.Argument t

unfoldable pub command_at : List ℕ → Result (List ℕ) FirstFault
command_at t = kept is_command faults.Argument t

unfoldable pub path_at : List ℕ → Result (List ℕ) FirstFault
path_at t = do
  opened ← need faults.Argument (after_prefix (34 ∷ []) t)
  inside ← need faults.Argument (before_suffix (34 ∷ []) opened)
  kept are_items faults.Argument inside

unfoldable pub free_at : List ℕ → Result (List ℕ) FirstFault
free_at t = kept (λ a. list_all is_free a) faults.Shape t

-- ---- step 5: first how many arguments there are, then each from the left

unfoldable pub arg_at : Slot → List ℕ → Result Arg FirstFault
arg_at fd t = fd_at t >>= λ f. Ok (an_fd f)
arg_at dir t = dir_at t >>= λ d. Ok (a_dir d)
arg_at flags t = flags_at t >>= λ f. Ok (some_flags f)
arg_at rights t = rights_at t >>= λ r. Ok (some_rights r)
arg_at path t = path_at t >>= λ p. Ok (a_path p)
arg_at command t = command_at t >>= λ c. Ok (a_command c)
arg_at (word w) t = if bytes_eq t (word_text w) then Ok (a_word w) else Err faults.Argument
arg_at free t = free_at t >>= λ a. Ok (free_text a)

unfoldable pub args_at : List Slot → List (List ℕ) → Result (List Arg) FirstFault
args_at [] [] = Ok []
args_at [] (t ∷ ts) = Err faults.Argument
args_at (s ∷ ss) [] = Err faults.Argument
args_at (s ∷ ss) (t ∷ ts) = do
  a ← arg_at s t
  others ← args_at ss ts
  Ok (a ∷ others)

unfoldable pub fds_from : ℕ → List (List ℕ) → Result (List ℕ) FirstFault
fds_from low [] = Ok []
fds_from low (t ∷ ts) = do
  f ← fd_at t
  fs ← (if nat_lt f low then Err faults.Argument else fds_from (f + 1) ts)
  Ok (f ∷ fs)

abbrev pub shaped : Head → Shape → List (List ℕ) → Result Event FirstFault
shaped h rising_fds ts = fds_from 0 ts >>= λ fs. Ok (a_marker (items.Start fs))
shaped h (these slots) ts = if length ts == length slots then (args_at slots ts >>= λ given. built h given)
    else Err faults.Argument

unfoldable pub event_at : Head → List (List ℕ) → Result Event FirstFault
event_at h ts = shaped h (shape_of h ts) ts

-- ---- steps 6 and 7: what follows the arguments

abbrev pub number_at : Option ℕ → Result Answer FirstFault
number_at None = Err faults.Answer
number_at (Some n) = Ok (answers.Made n)

-- a descriptor, but not the one that was given
abbrev pub same_at : ℕ → Option ℕ → Result Answer FirstFault
same_at g None = Err faults.Answer
same_at g (Some n) = if n == g then Ok (answers.Made n) else Err faults.Argument

-- two numbers with a comma between them
abbrev pub pair_at : ℕ → ℕ → Option (List ℕ × List ℕ) → Result Answer FirstFault
pair_at n m None = Err faults.Answer
pair_at n m (Some c) = do
  x ← need faults.Answer (num_at n c.0)
  y ← need faults.Answer (num_at m c.1)
  Ok (answers.Pair x y)

abbrev pub any_at : List ℕ → Option (List ℕ × List ℕ) → Result Answer FirstFault
any_at t None = number_at (num_at (2 ^ 64 - 1) t)
any_at t (Some c) = pair_at (2 ^ 64 - 1) (2 ^ 64 - 1) (Some c)

unfoldable pub made_at : ResultKind → List ℕ → Result Answer FirstFault
made_at Count t = number_at (num_at (2 ^ 64 - 1) t)
made_at Zero t = number_at (num_at 0 t)
made_at Fd t = number_at (num_at largest_fd t)
made_at (Same g) t = same_at g (num_at largest_fd t)
made_at FdPair t = pair_at largest_fd largest_fd (cut_at_byte 44 t)
made_at Child t = number_at (num_at largest_pid t)
made_at ChildAndFd t = pair_at largest_pid largest_fd (cut_at_byte 44 t)
made_at Any t = any_at t (cut_at_byte 44 t)

-- by the errno that is there, if one is
abbrev pub result_at : ResultKind → List ℕ → Option (List ℕ) → Result Answer FirstFault
result_at k t None = made_at k t
result_at k t (Some n) = positive faults.Answer (num_at largest_errno n) >>= λ e. Ok (answers.Fault e)

unfoldable pub answer_at : ResultKind → List ℕ → Result Answer FirstFault
answer_at k tail = do
  t ← need faults.Shape (after_prefix (codes " RET ") tail)
  result_at k t (after_prefix (codes "-1 errno ") t)

-- a marker ends after its bracket
unfoldable pub ended : Event → List ℕ → Result Item FirstFault
ended (a_call c) tail = answer_at (kind_of c) tail >>= λ a. Ok (items.Call c a)
ended (a_marker i) tail = if length tail == 0 then Ok i else Err faults.Shape

-- ---- the line

-- step 4: the arguments, and what follows them
abbrev pub args_and_tail : Head → List ℕ → Option (List (List ℕ) × List ℕ)
args_and_tail (listed f) text = option_map (λ c. (pieces c.0, c.1)) (cut_outside 41 text)
args_and_tail (unlisted n) text = option_map (λ c. (c.0 ∷ [], c.1)) (cut_at_byte 41 text)

-- steps 4 to 7: what follows the opening bracket
abbrev pub after_bracket : Head → List ℕ → Result Item FirstFault
after_bracket h text = do
  args ← need faults.Shape (args_and_tail h text)
  said ← event_at h args.0
  ended said args.1

-- step 3: the name before that bracket
unfoldable pub item_at : List ℕ → Result Item FirstFault
item_at text = do
  cut ← need faults.Shape (cut_at_byte 40 text)
  head ← need faults.Shape (head_named cut.0)
  after_bracket head cut.1

-- step 2: pid, space, and the rest
unfoldable pub entry_at : List ℕ → Option (List ℕ × List ℕ) → Result Entry FirstFault
entry_at bytes None = pid_at bytes >>= λ _. Err faults.Shape
entry_at bytes (Some cut) = do
  pid ← pid_at cut.0
  item ← item_at cut.1
  Ok (record { pid = pid; item = item })

-- the seven steps
unfoldable pub line_of : List ℕ → Result Entry FirstFault
line_of bytes = if nat_lt longest_line (length bytes) then Err faults.LongLine
    else entry_at bytes (cut_at_byte 32 bytes)

-- the fault of the bytes, where they have one
abbrev pub fault : List ℕ → Option FirstFault
fault bytes = elim (line_of bytes) [ Ok e ↦ None | Err f ↦ Some f ]
