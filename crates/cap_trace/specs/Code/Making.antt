-- Making the parts of a line, and a line, of what a producer of traces knows.
use Rattle.std.specs.Prelude.{◌≡◌, ℕ, ◌+◌, ◌^◌, ◌==◌, ◌&&◌, Bool, true, false, List, [], ◌∷◌, Option, Some, None}
use Rattle.std.specs.Prelude.{Result, Ok, Err, nat_le, nat_lt, is_none, IsTrue}
use Rattle.std.specs.List.{list_all}
use Rattle.cap_rights.specs.Text.{names, text}
use Rattle.cap_trace.specs.declared.fault.LineFault.{LineFault}
use Rattle.cap_trace.specs.declared.fault.LineFault.TheVariants as line_faults
use Rattle.cap_trace.specs.Item.{Item}
use Rattle.cap_trace.specs.Item as items
use Rattle.cap_trace.specs.Call as calls
use Rattle.cap_trace.specs.declared.line.Answer.{Answer}
use Rattle.cap_trace.specs.declared.line.Answer.TheVariants as answers
use Rattle.cap_trace.specs.declared.line.Dir.TheVariants as dirs
use Rattle.cap_trace.specs.declared.calls.ResultKind.{ResultKind}
use Rattle.cap_trace.specs.declared.calls.ResultKind.TheVariants.{Count, Zero, Fd, Same, FdPair, Child, ChildAndFd, Any}
use Rattle.cap_trace.specs.Limits.{largest_pid, largest_fd, largest_errno}
use Rattle.cap_trace.specs.Names.{Head, listed, unlisted, is_name, form_named}
use Rattle.cap_trace.specs.Fields.{is_flags, are_items, is_free}
use Rattle.cap_trace.specs.Entry.{Entry, Arg, an_fd, a_dir, some_flags, some_rights, a_path, a_command, a_word}
use Rattle.cap_trace.specs.Entry.{free_text, args_of_call, head_of_call, kind_of}
use Rattle.cap_trace.specs.Spelling.{is_command, IsProper}

-- the value, exactly where its text is good, and else this fault; memory runs out only for a good one
abbrev pub MakesWhere : {A : Type 0} → Bool → LineFault → A → Result A LineFault → Type 0
MakesWhere good f v (Ok x) = IsTrue good × (x ≡ v)
MakesWhere good f v (Err line_faults.Memory) = IsTrue good
MakesWhere good f v (Err e) = (good ≡ false) × (e ≡ f)

-- the line, exactly where some bytes spell it
abbrev pub IsLineOf : Entry → Option Entry → Type 0
IsLineOf e None = IsProper e → ⊥
IsLineOf e (Some l) = (l ≡ e) × IsProper e

-- ---- the same, field by field

abbrev pub is_fd : ℕ → Bool
is_fd f = nat_le f largest_fd

abbrev pub is_pid : ℕ → Bool
is_pid p = nat_lt 0 p && nat_le p largest_pid

-- an argument that some text spells; of rights see is_named
abbrev pub is_good : Arg → Bool
is_good (an_fd f) = is_fd f
is_good (a_dir (dirs.Fd f)) = is_fd f
is_good (a_dir dirs.Cwd) = true
is_good (some_flags w) = is_flags w
is_good (some_rights r) = true
is_good (a_path p) = are_items p
is_good (a_command w) = is_command w
is_good (a_word w) = true
is_good (free_text a) = list_all is_free a

abbrev pub are_good : List Arg → Bool
are_good [] = true
are_good (a ∷ []) = is_good a
are_good (a ∷ b ∷ more) = is_good a && are_good (b ∷ more)

abbrev pub is_head : Head → Bool
is_head (listed f) = true
is_head (unlisted n) = is_name n && is_none (form_named n)

abbrev pub is_answer : ResultKind → Answer → Bool
is_answer k (answers.Fault e) = nat_lt 0 e && nat_le e largest_errno
is_answer Count (answers.Made n) = nat_lt n (2 ^ 64)
is_answer Zero (answers.Made n) = n == 0
is_answer Fd (answers.Made n) = is_fd n
is_answer (Same g) (answers.Made n) = (n == g) && is_fd n
is_answer FdPair (answers.Made n) = false
is_answer Child (answers.Made n) = nat_le n largest_pid
is_answer ChildAndFd (answers.Made n) = false
is_answer Any (answers.Made n) = nat_lt n (2 ^ 64)
is_answer Count (answers.Pair n m) = false
is_answer Zero (answers.Pair n m) = false
is_answer Fd (answers.Pair n m) = false
is_answer (Same g) (answers.Pair n m) = false
is_answer FdPair (answers.Pair n m) = is_fd n && is_fd m
is_answer Child (answers.Pair n m) = false
is_answer ChildAndFd (answers.Pair n m) = nat_le n largest_pid && is_fd m
is_answer Any (answers.Pair n m) = nat_lt n (2 ^ 64) && nat_lt m (2 ^ 64)

-- descriptors, each at least low and above the one before it
unfoldable pub all_rise : ℕ → List ℕ → Bool
all_rise low [] = true
all_rise low (f ∷ fs) = nat_le low f && is_fd f && all_rise (f + 1) fs

abbrev pub is_good_item : Item → Bool
is_good_item (items.Call c a) = are_good (args_of_call c) && is_head (head_of_call c) && is_answer (kind_of c) a
is_good_item (items.Start fs) = all_rise 0 fs
is_good_item items.Exit = true
is_good_item (items.Foreign f) = is_fd f
is_good_item (items.Needs m f r) = is_fd f
is_good_item items.Global = true

abbrev pub is_same_set : ℕ → Option ℕ → Bool
is_same_set r None = false
is_same_set r (Some s) = s == r

-- the names of these rights stand for no others
abbrev pub is_named : ℕ → Bool
is_named r = is_same_set r (names (text r))

abbrev pub has_named_rights : Item → Bool
has_named_rights (items.Call (calls.RightsLimit f r) a) = is_named r
has_named_rights (items.Needs m f r) = is_named r
has_named_rights i = true
