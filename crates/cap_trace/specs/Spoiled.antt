-- Which fault a line has, by the field that is wrong, and not by how the line is read.
use Rattle.std.specs.Prelude.{◌≡◌, ◌≤◌, ◌<◌, ◌==◌, ◌↔◌, ◌⊎◌, ℕ, Bool, true, false, List, [], ◌∷◌, ◌++◌, length}
use Rattle.std.specs.Prelude.{Some, None, codes}
use Rattle.std.specs.List.{join_with_byte, before_first}
use Rattle.std.specs.Fmt.{decimal}
use Rattle.cap_rights.specs.Text.{names}
use Rattle.cap_trace.specs.declared.fault.FirstFault.{FirstFault}
use Rattle.cap_trace.specs.declared.fault.FirstFault.TheVariants as faults
use Rattle.cap_trace.specs.Item as items
use Rattle.cap_trace.specs.Call.{Call}
use Rattle.cap_trace.specs.declared.line.Answer.{Answer}
use Rattle.cap_trace.specs.declared.calls.ResultKind.{ResultKind}
use Rattle.cap_trace.specs.declared.calls.ResultKind.TheVariants.{Same}
use Rattle.cap_trace.specs.Limits.{longest_line}
use Rattle.cap_trace.specs.declared.calls.Form.{Form}
use Rattle.cap_trace.specs.declared.calls.Form.TheVariants as forms
use Rattle.cap_trace.specs.Names.{listed, name_of}
use Rattle.cap_trace.specs.Quotes.{place}
use Rattle.cap_trace.specs.Entry.{Entry, Arg, an_fd, a_dir, some_flags, some_rights, a_path, a_command, a_word}
use Rattle.cap_trace.specs.Entry.{free_text, IsPid, IsFd, IsAnswer, kind_of, args_of, args_of_call, head_of_call}
use Rattle.cap_trace.specs.Spelling.{SpellsArg, SpellsArgs, answer_text, joined, IsProper}
use Rattle.cap_trace.specs.Reading.{fault}

-- ---- too many bytes

-- exactly where a line has more bytes than it may have
abbrev pub LongLineExactly : Type 0
LongLineExactly = (bytes : List ℕ) → (fault bytes ≡ Some faults.LongLine) ↔ (longest_line < length bytes)

-- ---- the pid

abbrev pub SpellsNoPid : List ℕ → Type 0
SpellsNoPid t = (p : ℕ) → IsPid p → t ≡ decimal p → ⊥

-- exactly where, of no more bytes than a line may have, those before the first space (all, where there is none) spell
-- no pid
abbrev pub PidExactly : Type 0
PidExactly = (bytes : List ℕ) → (fault bytes ≡ Some faults.Pid)
    ↔ ((length bytes ≤ longest_line) × SpellsNoPid (before_first (λ c. c == 32) bytes))

-- ---- rights

-- a limit of a descriptor and a marker of needs have rights
abbrev pub has_rights : Form → Bool
has_rights forms.RightsLimit = true
has_rights (forms.Needs marker) = true
has_rights form = false

-- one of these with a text that names no rights
pub record HasNoRights (bytes : List ℕ) : Type 0 where
  pub pid : ℕ
  pub form : Form
  pub fd : ℕ
  pub rights : List ℕ
  pub rest : List ℕ
  pub is_pid : IsPid pid
  pub asks : has_rights form ≡ true
  pub is_fd : IsFd fd
  pub unnamed : names rights ≡ None
  pub parts : bytes ≡ decimal pid
      ++ (32 ∷ (name_of (listed form) ++ (40 ∷ (decimal fd ++ (44 ∷ (rights ++ (41 ∷ rest)))))))

-- only of these
abbrev pub RightOnlyOfRights : Type 0
RightOnlyOfRights = (bytes : List ℕ) → fault bytes ≡ Some faults.Right → HasNoRights bytes

-- ---- one argument

-- arguments of the same kind
abbrev pub AreAlike : Arg → Arg → Type 0
AreAlike (an_fd f) (an_fd g) = Unit {0}
AreAlike (a_dir d) (a_dir e) = Unit {0}
AreAlike (some_flags v) (some_flags w) = Unit {0}
AreAlike (some_rights r) (some_rights s) = Unit {0}
AreAlike (a_path p) (a_path q) = Unit {0}
AreAlike (a_command v) (a_command w) = Unit {0}
AreAlike (a_word v) (a_word w) = Unit {0}
AreAlike a b = ⊥

-- a text that spells no argument of this kind; its quotes are closed, and outside them it has no comma and no closing
-- bracket
pub record Spoils (t : List ℕ) (a : Arg) : Type 0 where
  pub some : 0 < length t
  pub comma : place 44 (t ++ 44 ∷ []) ≡ Some (length t)
  pub bracket : place 41 (t ++ 41 ∷ []) ≡ Some (length t)
  pub none : (b : Arg) → AreAlike a b → SpellsArg t b → ⊥

abbrev pub fault_of_arg : Arg → FirstFault
fault_of_arg (some_rights r) = faults.Right
fault_of_arg a = faults.Argument

-- texts of these arguments but for one, whose fault this is
abbrev pub SpoilsOne : List (List ℕ) → List Arg → FirstFault → Type 0
SpoilsOne [] given f = ⊥
SpoilsOne (t ∷ ts) [] f = ⊥
SpoilsOne (t ∷ ts) (free_text a ∷ others) f = ⊥
SpoilsOne (t ∷ ts) (a ∷ others) f =
    (Spoils t a × (SpellsArgs ts others × (f ≡ fault_of_arg a))) ⊎ (SpellsArg t a × SpoilsOne ts others f)

-- a good line with one argument spoiled has the fault of that argument
abbrev pub SpoiledArgument : Type 0
SpoiledArgument = (e : Entry) (texts : List (List ℕ)) (f : FirstFault) → IsProper e
    → length (joined e texts) ≤ longest_line → SpoilsOne texts (args_of e.item) f → fault (joined e texts) ≡ Some f

-- ---- the answer

-- a call with these texts for its arguments and this text for its answer
abbrev pub answered : ℕ → Call → List (List ℕ) → List ℕ → List ℕ
answered pid call texts answer = decimal pid
    ++ (32 ∷ (name_of (head_of_call call) ++ (40 ∷ (join_with_byte 44 texts ++ (41 ∷ (codes " RET " ++ answer))))))

abbrev pub SpellsNoAnswer : ResultKind → List ℕ → Type 0
SpellsNoAnswer k t = (a : Answer) → IsAnswer k a → t ≡ answer_text a → ⊥

-- where a call has to answer the descriptor that it was given, another descriptor is a wrong argument
abbrev pub FaultOfAnswer : ResultKind → List ℕ → FirstFault → Type 0
FaultOfAnswer (Same g) t f = (((n : ℕ) × (IsFd n × (t ≡ decimal n))) × (f ≡ faults.Argument))
    ⊎ (((n : ℕ) → IsFd n → t ≡ decimal n → ⊥) × (f ≡ faults.Answer))
FaultOfAnswer k t f = f ≡ faults.Answer

-- a good line of a call whose answer is spoiled has the fault of the answer
abbrev pub SpoiledAnswer : Type 0
SpoiledAnswer = (pid : ℕ) (call : Call) (good : Answer) (texts : List (List ℕ)) (t : List ℕ) (f : FirstFault)
    → IsProper (record { pid = pid; item = items.Call call good }) → SpellsArgs texts (args_of_call call)
    → length (answered pid call texts t) ≤ longest_line
    → SpellsNoAnswer (kind_of call) t → FaultOfAnswer (kind_of call) t f → fault (answered pid call texts t) ≡ Some f
