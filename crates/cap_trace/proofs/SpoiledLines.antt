-- A good line with one argument or its answer spoiled has the fault of that field.
use Rattle.std.proofs.Common.{◌≡◌, ℕ, suc, ◌+◌, ◌≤◌, Bool, true, false, cond, eqb, List, [], ◌∷◌, ◌++◌, length, Option}
use Rattle.std.proofs.Common.{Some, None, Result, Ok, Err, refl, sym, ap, subst, ◌∙◌, ◌⊎◌, inl, inr, arith}
use Rattle.std.specs.Prelude.{codes, option_map}
use Rattle.std.specs.List.{join_with_byte}
use Rattle.std.specs.Str.{bytes_eq}
use Rattle.std.specs.Fmt.{decimal}
use Rattle.std.proofs.lemmas.Fmt.{digits_decimal}
use Rattle.std.proofs.lemmas.Slice.Eq.{bytes_eq-Decides}
use Rattle.cap_trace.specs.declared.fault.FirstFault.{FirstFault}
use Rattle.cap_trace.specs.declared.fault.FirstFault.TheVariants as faults
use Rattle.cap_trace.specs.Item.{Item}
use Rattle.cap_trace.specs.Item as items
use Rattle.cap_trace.specs.Call.{Call}
use Rattle.cap_trace.specs.Call as calls
use Rattle.cap_trace.specs.declared.line.Answer.{Answer}
use Rattle.cap_trace.specs.declared.calls.ResultKind.{ResultKind}
use Rattle.cap_trace.specs.declared.calls.ResultKind.TheVariants.{Same}
use Rattle.cap_trace.specs.declared.calls.DupCommand.TheVariants as dup_commands
use Rattle.cap_trace.specs.declared.calls.Form.{Form}
use Rattle.cap_trace.specs.declared.calls.Form.TheVariants as forms
use Rattle.cap_trace.specs.declared.quotes.Quoting.{Quoting}
use Rattle.cap_trace.specs.declared.quotes.Quoting.TheVariants.{Outside, Inside, Skipping}
use Rattle.cap_trace.specs.Names.{Head, listed, name_of}
use Rattle.cap_trace.specs.Quotes.{after, stops, place_from}
use Rattle.cap_trace.specs.Entry.{Entry, Arg, an_fd, a_dir, some_flags, some_rights, a_path, a_command, a_word}
use Rattle.cap_trace.specs.Entry.{free_text, Word, dest, set_fd, dup_to, args_of, args_of_call, head_of, head_of_call}
use Rattle.cap_trace.specs.Entry.{fds, kind_of, IsPid, IsFd, IsWhole, RisesFrom}
use Rattle.cap_trace.specs.Spelling.{SpellsArg, SpellsArgs, IsHead, IsProper, word_text, answer_text, tail_text, joined}
use Rattle.cap_trace.specs.Forms.{Slot, these}
use Rattle.cap_trace.specs.Reading.{◌>>=◌, after_prefix, fd_at, rights_at, dir_at, flags_at, command_at, path_at}
use Rattle.cap_trace.specs.Reading.{arg_at, args_at, fds_from, shaped, event_at, result_at, made_at, answer_at, ended}
use Rattle.cap_trace.specs.Reading.{args_and_tail, after_bracket, item_at, entry_at, line_of}
use Rattle.cap_trace.specs.Spoiled.{AreAlike, Spoils, fault_of_arg, SpoilsOne, SpoiledArgument, answered}
use Rattle.cap_trace.specs.Spoiled.{SpellsNoAnswer, FaultOfAnswer, SpoiledAnswer}
use Rattle.cap_trace.proofs.Cuts.{closes, IsPart, AreParts, outside_again, pieces_again, cut_again, eqb_same}
use Rattle.std.proofs.lemmas.Bool.{le-ltb, and_parts}
use Rattle.cap_trace.specs.Number.{num_at}
use Rattle.cap_trace.proofs.Built.{call_again}
use Rattle.cap_trace.proofs.Answered.{answer_takes, answer_is, decimal_no_errno}
use Rattle.cap_trace.proofs.Heads.{head_again, head_lacks}
use Rattle.cap_trace.proofs.Numerals.{own, num_takes, num_again}
use Rattle.cap_trace.proofs.Spelled.{ok_is, bind_made, slot_of, slots_of, as_many, arg_again, arg_takes, arg_part}
use Rattle.cap_trace.proofs.Spelled.{is_closed, are_closed, fds_closed, fd_takes, fd_again, pid_again, args_parts}
use Rattle.cap_trace.proofs.WholeLines.{joined_closes, digits_lack, between_again, Cuts}
use Rattle.cap_trace.proofs.Faults.{arg_err, fd_err, slot_fault, same_err, is_same, made_fails, errno_err}
use Rattle.cap_trace.proofs.FirstFaults.{err_fault, short_line}

-- ---- one part, by where a comma or a bracket after it is found

some_suc : (o : Option ℕ) (n : ℕ) → option_map suc o ≡ Some (suc n) → o ≡ Some n
some_suc None n e = absurd cc
some_suc (Some m) n e = ap Some (let e2 = e in cc)

no_stop : (b : Bool) (o : Option ℕ) (n : ℕ) → cond b (Some 0) (option_map suc o) ≡ Some (suc n)
    → (b ≡ false) × (o ≡ Some n)
no_stop true o n e = absurd cc
no_stop false o n e = (refl, some_suc o n e)

step_closes : (q : Quoting) (stop c : ℕ) (cs : List ℕ) → stops q stop c ≡ false → closes (after q c) stop cs ≡ true
    → closes q stop (c ∷ cs) ≡ true
step_closes q stop c cs s h = rw (s, h) refl

closes_there : (q : Quoting) (stop : ℕ) (t : List ℕ) → place_from q stop (t ++ stop ∷ []) ≡ Some (length t)
    → closes q stop t ≡ true
unfolding place_from
closes_there Outside stop [] e = refl
closes_there Inside stop [] e = absurd cc
closes_there Skipping stop [] e = absurd cc
closes_there q stop (c ∷ cs) e =
    let k = no_stop (stops q stop c) (place_from (after q c) stop (cs ++ stop ∷ [])) (length cs) e in
    step_closes q stop c cs k.0 (closes_there (after q c) stop cs k.1)

spoiled_part : (t : List ℕ) (a : Arg) → Spoils t a → IsPart t
spoiled_part t a s = record {
  some = s.some;
  comma = closes_there Outside 44 t s.comma;
  bracket = closes_there Outside 41 t s.bracket;
}

-- ---- a spoiled argument

alike_made : {A : Type 0} (a : Arg) (make : A → Arg) (r : Result A FirstFault) (b : Arg)
    → ((x : A) → AreAlike a (make x)) → (r >>= λ x. Ok (make x)) ≡ Ok b → AreAlike a b
alike_made a make r b alike e = let x = bind_made r make b e in subst (λ (y : Arg). AreAlike a y) x.2 (alike x.0)

alike_word : (w : Word) (c : Bool) (b : Arg)
    → ◌≡◌ {A = Result Arg FirstFault} (cond c (Ok (a_word w)) (Err faults.Argument)) (Ok b) → AreAlike (a_word w) b
alike_word w true b e = subst (λ (y : Arg). AreAlike (a_word w) y) (ok_is (a_word w) b e) tt
alike_word w false b e = absurd cc

-- what is read as the kind of an argument is an argument of that kind
alike_ok : (a b : Arg) (t : List ℕ) → is_closed a ≡ true → arg_at (slot_of a) t ≡ Ok b → AreAlike a b
unfolding arg_at slot_of is_closed
alike_ok (an_fd f) b t c e = alike_made (an_fd f) (λ x. an_fd x) (fd_at t) b (λ x. tt) e
alike_ok (a_dir d) b t c e = alike_made (a_dir d) (λ x. a_dir x) (dir_at t) b (λ x. tt) e
alike_ok (some_flags w) b t c e = alike_made (some_flags w) (λ x. some_flags x) (flags_at t) b (λ x. tt) e
alike_ok (some_rights r) b t c e = alike_made (some_rights r) (λ x. some_rights x) (rights_at t) b (λ x. tt) e
alike_ok (a_path p) b t c e = alike_made (a_path p) (λ x. a_path x) (path_at t) b (λ x. tt) e
alike_ok (a_command w) b t c e = alike_made (a_command w) (λ x. a_command x) (command_at t) b (λ x. tt) e
alike_ok (a_word w) b t c e = alike_word w (bytes_eq t (word_text w)) b e
alike_ok (free_text f) b t c e = absurd cc

same_kind : (a : Arg) → is_closed a ≡ true → slot_fault (slot_of a) ≡ fault_of_arg a
unfolding slot_of is_closed
same_kind (free_text f) c = absurd cc
same_kind a c = refl

arg_spoiled : (t : List ℕ) (a : Arg) (r : Result Arg FirstFault) → arg_at (slot_of a) t ≡ r → is_closed a ≡ true
    → Spoils t a → r ≡ Err (fault_of_arg a)
arg_spoiled t a (Ok b) e c s = absurd (s.none b (alike_ok a b t c e) (arg_takes (slot_of a) t b e))
arg_spoiled t a (Err d) e c s = ap Err (arg_err (slot_of a) t d e ∙ same_kind a c)

-- ---- texts, and one is spoiled

abbrev Step : List ℕ → List (List ℕ) → Arg → List Arg → FirstFault → Type 0
Step t ts a others f =
    (Spoils t a × (SpellsArgs ts others × (f ≡ fault_of_arg a))) ⊎ (SpellsArg t a × SpoilsOne ts others f)

spoils_step : (t : List ℕ) (ts : List (List ℕ)) (a : Arg) (others : List Arg) (f : FirstFault)
    → SpoilsOne (t ∷ ts) (a ∷ others) f → Step t ts a others f
spoils_step t ts (free_text a) others f h = absurd h
spoils_step t ts a others f h = h

spoiled_many : (ts : List (List ℕ)) (given : List Arg) (f : FirstFault) → SpoilsOne ts given f
    → length ts ≡ length (slots_of given)
spoiled_many [] given f h = absurd h
spoiled_many (t ∷ ts) [] f h = absurd h
spoiled_many (t ∷ ts) (a ∷ others) f h =
    elim (spoils_step t ts a others f h) as (λ _. length (t ∷ ts) ≡ length (slots_of (a ∷ others))) [
      | inl s ↦ omega (arith, as_many ts others s.1.0)
      | inr s ↦ omega (arith, spoiled_many ts others f s.1)
    ]

spoiled_parts : (ts : List (List ℕ)) (given : List Arg) (f : FirstFault) → are_closed given ≡ true
    → SpoilsOne ts given f
    → AreParts ts
spoiled_parts [] given f c h = tt
spoiled_parts (t ∷ ts) [] f c h = absurd h
spoiled_parts (t ∷ ts) (a ∷ others) f c h =
    let k = and_parts (is_closed a) (are_closed others) c in
    elim (spoils_step t ts a others f h) as (λ _. AreParts (t ∷ ts)) [
      | inl s ↦ (spoiled_part t a s.0, args_parts ts others k.1 s.1.0)
      | inr s ↦ (arg_part t a k.0 s.0, spoiled_parts ts others f k.1 s.1)
    ]

args_spoiled : (ts : List (List ℕ)) (given : List Arg) (f : FirstFault) → are_closed given ≡ true → SpoilsOne ts given f
    → args_at (slots_of given) ts ≡ Err f
unfolding args_at
args_spoiled [] given f c h = absurd h
args_spoiled (t ∷ ts) [] f c h = absurd h
args_spoiled (t ∷ ts) (a ∷ others) f c h =
    let k = and_parts (is_closed a) (are_closed others) c in
    elim (spoils_step t ts a others f h) as (λ _. args_at (slots_of (a ∷ others)) (t ∷ ts) ≡ Err f) [
      | inl s ↦ rw (arg_spoiled t a (arg_at (slot_of a) t) refl k.0 s.0) (ap Err (sym s.1.1))
      | inr s ↦ rw (arg_again t a s.0, args_spoiled ts others f k.1 s.1) refl
    ]

these_spoiled : (h : Head) (ts : List (List ℕ)) (given : List Arg) (f : FirstFault) (ss : List Slot)
    → ss ≡ slots_of given → are_closed given ≡ true → SpoilsOne ts given f → shaped h (these ss) ts ≡ Err f
these_spoiled h ts given f ss same c s =
    let many : eqb (length ts) (length (slots_of given)) ≡ true =
    rw (spoiled_many ts given f s) (eqb_same (length (slots_of given))) in
    ap (λ (x : List Slot). shaped h (these x) ts) same ∙ rw (many, args_spoiled ts given f c s) refl

-- ---- what a name says of spoiled texts

-- a word that is none
word_no : (u : List ℕ) (v w : Word) (b : Bool) → Spoils u (a_word v) → bytes_eq u (word_text w) ≡ b → b ≡ false
word_no u v w true s e = absurd (s.none (a_word w) tt ((bytes_eq-Decides u (word_text w)).0 e))
word_no u v w false s e = refl

no_command : (t u v : List ℕ) (w : Word) → Spoils u (a_word w)
    → event_at (listed forms.Fcntl) (t ∷ u ∷ v ∷ []) ≡ Err faults.Argument
unfolding event_at
no_command t u v w s =
    rw (
      word_no u w set_fd (bytes_eq u (codes "F_SETFD")) s refl,
      word_no u w (dup_to dup_commands.FDup2fd) (bytes_eq u (codes "F_DUP2FD")) s refl,
      word_no u w (dup_to dup_commands.FDup2fdCloexec) (bytes_eq u (codes "F_DUP2FD_CLOEXEC")) s refl,
    ) refl

-- the word of a command is there, or is spoiled
word_or : (t u : List ℕ) (ts : List (List ℕ)) (a b : Arg) (w : Word) (others : List Arg) (f : FirstFault)
    → SpoilsOne (t ∷ u ∷ ts) (a ∷ a_word w ∷ others) f
    → (u ≡ word_text w) ⊎ (Spoils u (a_word w) × (f ≡ faults.Argument))
word_or t u ts a b w others f h =
    elim (spoils_step t (u ∷ ts) a (a_word w ∷ others) f h) as (λ _. (u ≡ word_text w)
    ⊎ (Spoils u (a_word w) × (f ≡ faults.Argument))) [
      | inl s ↦ inl s.1.0.0
      | inr s ↦ elim s.1 as (λ _. (u ≡ word_text w) ⊎ (Spoils u (a_word w) × (f ≡ faults.Argument))) [
        | inl k ↦ inr (k.0, k.1.1)
        | inr k ↦ inl k.0
      ]
    ]

command_spoiled : (w : Word) (x : ℕ) (b : Arg) → are_closed (an_fd x ∷ a_word w ∷ b ∷ []) ≡ true
    → ((t v : List ℕ) → event_at (listed forms.Fcntl) (t ∷ word_text w ∷ v ∷ [])
    ≡ shaped (listed forms.Fcntl) (these (slots_of (an_fd x ∷ a_word w ∷ b ∷ []))) (t ∷ word_text w ∷ v ∷ []))
    → (ts : List (List ℕ)) (f : FirstFault) → SpoilsOne ts (an_fd x ∷ a_word w ∷ b ∷ []) f
    → event_at (listed forms.Fcntl) ts ≡ Err f
unfolding slot_of
command_spoiled w x b closed same [] f h = absurd h
command_spoiled w x b closed same (t ∷ u ∷ v ∷ []) f h =
    elim (word_or t u (v ∷ []) (an_fd x) b w
    (b ∷ []) f h) as (λ _. event_at (listed forms.Fcntl) (t ∷ u ∷ v ∷ []) ≡ Err f) [
      | inl e ↦ ap (λ (s : List ℕ). event_at (listed forms.Fcntl) (t ∷ s ∷ v ∷ [])) e ∙ same t v
          ∙ these_spoiled (listed forms.Fcntl) (t ∷ word_text w ∷ v ∷ []) (an_fd x ∷ a_word w ∷ b ∷ []) f _ refl closed
          (subst (λ (s : List ℕ). SpoilsOne (t ∷ s ∷ v ∷ []) (an_fd x ∷ a_word w ∷ b ∷ []) f) e h)
      | inr k ↦ no_command t u v w k.0 ∙ ap Err (sym k.1)
    ]
command_spoiled w x b closed same ts f h =
    absurd (omega (arith, spoiled_many ts (an_fd x ∷ a_word w ∷ b ∷ []) f h))

call_spoiled : (c : Call) (ts : List (List ℕ)) (f : FirstFault) → SpoilsOne ts (args_of_call c) f
    → event_at (head_of_call c) ts ≡ Err f
unfolding event_at slot_of is_closed
call_spoiled (calls.Other n a) [] f h = absurd h
call_spoiled (calls.Other n a) (t ∷ ts) f h = absurd h
call_spoiled (calls.Send c x) [] f h = absurd h
call_spoiled (calls.Send c x) (t ∷ []) f h =
    these_spoiled (listed (forms.Send c)) (t ∷ []) (an_fd x ∷ []) f _ refl refl h
call_spoiled (calls.Send c x) (t ∷ u ∷ ts) f h = absurd (omega (arith, spoiled_many (t ∷ u ∷ ts) (an_fd x ∷ []) f h))
call_spoiled (calls.SendTo c x) [] f h = absurd h
call_spoiled (calls.SendTo c x) (t ∷ []) f h =
    absurd (omega (arith, spoiled_many (t ∷ []) (an_fd x ∷ a_word dest ∷ []) f h))
call_spoiled (calls.SendTo c x) (t ∷ u ∷ ts) f h =
    these_spoiled (listed (forms.Send c)) (t ∷ u ∷ ts) (an_fd x ∷ a_word dest ∷ []) f _ refl refl h
call_spoiled (calls.Fcntl x y) [] f h = absurd h
call_spoiled (calls.Fcntl x y) (t ∷ []) f h =
    absurd (omega (arith, spoiled_many (t ∷ []) (an_fd x ∷ a_command y ∷ []) f h))
call_spoiled (calls.Fcntl x y) (t ∷ u ∷ []) f h =
    these_spoiled (listed forms.Fcntl) (t ∷ u ∷ []) (an_fd x ∷ a_command y ∷ []) f _ refl refl h
call_spoiled (calls.Fcntl x y) (t ∷ u ∷ v ∷ ts) f h =
    absurd (omega (arith, spoiled_many (t ∷ u ∷ v ∷ ts) (an_fd x ∷ a_command y ∷ []) f h))
call_spoiled (calls.FcntlSetFd x y) ts f h = command_spoiled set_fd x (some_flags y) refl (λ t v. refl) ts f h
call_spoiled (calls.FcntlDup dup_commands.FDup2fd x y) ts f h =
    command_spoiled (dup_to dup_commands.FDup2fd) x (an_fd y) refl (λ t v. refl) ts f h
call_spoiled (calls.FcntlDup dup_commands.FDup2fdCloexec x y) ts f h =
    command_spoiled (dup_to dup_commands.FDup2fdCloexec) x (an_fd y) refl (λ t v. refl) ts f h
call_spoiled c ts f h = these_spoiled (head_of_call c) ts (args_of_call c) f _ refl refl h

fd_spoiled : (t : List ℕ) (g : ℕ) (r : Result ℕ FirstFault) → fd_at t ≡ r → Spoils t (an_fd g) → r ≡ Err faults.Argument
fd_spoiled t g (Ok f) e s = absurd (s.none (an_fd f) tt (fd_takes t f e))
fd_spoiled t g (Err d) e s = ap Err (fd_err t d e)

fds_spoiled : (low : ℕ) (ts : List (List ℕ)) (fs : List ℕ) (f : FirstFault) → SpoilsOne ts (fds fs) f → RisesFrom low fs
    → fds_from low ts ≡ Err f
unfolding fds_from
fds_spoiled low [] fs f h r = absurd h
fds_spoiled low (t ∷ ts) [] f h r = absurd h
fds_spoiled low (t ∷ ts) (g ∷ gs) f h r =
    elim h as (λ _. fds_from low (t ∷ ts) ≡ Err f) [
      | inl s ↦ rw (fd_spoiled t g (fd_at t) refl s.0) (ap Err (sym s.1.1))
      | inr s ↦ rw (fd_again t g s.0, le-ltb g low r.0, fds_spoiled (g + 1) ts gs f s.1 r.1) refl
    ]

event_spoiled : (i : Item) (ts : List (List ℕ)) (f : FirstFault) → SpoilsOne ts (args_of i) f → IsWhole i
    → event_at (head_of i) ts ≡ Err f
unfolding event_at slot_of is_closed
event_spoiled (items.Call c a) ts f h w = call_spoiled c ts f h
event_spoiled (items.Start fs) ts f h w = rw (fds_spoiled 0 ts fs f h w) refl
event_spoiled items.Exit [] f h w = absurd h
event_spoiled items.Exit (t ∷ ts) f h w = absurd h
event_spoiled (items.Foreign g) ts f h w = these_spoiled (listed forms.Foreign) ts (an_fd g ∷ []) f _ refl refl h
event_spoiled (items.Needs m g r) ts f h w =
    these_spoiled (listed (forms.Needs m)) ts (an_fd g ∷ some_rights r ∷ []) f _ refl refl h
event_spoiled items.Global [] f h w = absurd h
event_spoiled items.Global (t ∷ ts) f h w = absurd h

-- ---- the line

-- only a call without a form of its own has arguments that are one text
abbrev Listed : Item → Type 0
Listed i = (g : Form) × ((head_of i ≡ listed g) × (are_closed (args_of i) ≡ true))

call_listed : (c : Call) (a : Answer) (ts : List (List ℕ)) (f : FirstFault) → SpoilsOne ts (args_of_call c) f
    → Listed (items.Call c a)
unfolding is_closed
call_listed (calls.Other n b) a [] f h = absurd h
call_listed (calls.Other n b) a (t ∷ ts) f h = absurd h
call_listed c a ts f h = (_, (refl, refl))

item_listed : (i : Item) (ts : List (List ℕ)) (f : FirstFault) → SpoilsOne ts (args_of i) f → Listed i
unfolding is_closed
item_listed (items.Call c a) ts f h = call_listed c a ts f h
item_listed (items.Start fs) ts f h = (forms.Start, (refl, fds_closed fs))
item_listed items.Exit ts f h = (forms.Exit, (refl, refl))
item_listed (items.Foreign g) ts f h = (forms.Foreign, (refl, refl))
item_listed (items.Needs m g r) ts f h = (forms.Needs m, (refl, refl))
item_listed items.Global ts f h = (forms.Global, (refl, refl))

listed_args_and_tail : (g : Form) (ts : List (List ℕ)) (tail : List ℕ) → AreParts ts
    → args_and_tail (listed g) (join_with_byte 44 ts ++ (41 ∷ tail)) ≡ Some (ts, tail)
listed_args_and_tail g ts tail parts =
    rw (outside_again 41 (join_with_byte 44 ts) tail (joined_closes ts parts), pieces_again ts parts) refl

spoiled_after_bracket : (i : Item) (ts : List (List ℕ)) (tail : List ℕ) (f : FirstFault) → SpoilsOne ts (args_of i) f
    → IsWhole i → after_bracket (head_of i) (join_with_byte 44 ts ++ (41 ∷ tail)) ≡ Err f
spoiled_after_bracket i ts tail f h w =
    let k = item_listed i ts f h in
    let cut : args_and_tail (head_of i) (join_with_byte 44 ts ++ (41 ∷ tail)) ≡ Some (ts, tail) =
    ap (λ (x : Head). args_and_tail x (join_with_byte 44 ts ++ (41 ∷ tail))) k.1.0
    ∙ listed_args_and_tail k.0 ts tail (spoiled_parts ts (args_of i) f k.1.1 h) in
    rw (cut, event_spoiled i ts f h w) refl

-- the pid and the name of a line are read, whatever follows
item_from : (h : Head) (rest : List ℕ) → IsHead h → item_at (name_of h ++ (40 ∷ rest)) ≡ after_bracket h rest
unfolding item_at
item_from h rest is = rw (cut_again 40 (name_of h) rest (head_lacks h is), head_again h is) refl

entry_fails : (p : ℕ) (text : List ℕ) (f : FirstFault) → IsPid p → item_at text ≡ Err f
    → length (decimal p ++ (32 ∷ text)) ≤ 1024 → line_of (decimal p ++ (32 ∷ text)) ≡ Err f
unfolding entry_at
entry_fails p text f is e le =
    short_line (decimal p ++ (32 ∷ text)) le
    ∙ ap (entry_at (decimal p ++ (32 ∷ text)))
    (cut_again 32 (decimal p) text (digits_lack (decimal p) (digits_decimal own p (omega (arith, is.1)))))
    ∙ rw (pid_again p is, e) refl

spoiled_line : (e : Entry) (texts : List (List ℕ)) (f : FirstFault) → IsProper e → length (joined e texts) ≤ 1024
    → SpoilsOne texts (args_of e.item) f → line_of (joined e texts) ≡ Err f
spoiled_line e texts f h le s =
    let by = h.1.1 in
    entry_fails e.pid (name_of (head_of e.item) ++ (40 ∷ (join_with_byte 44 texts ++ (41 ∷ tail_text e.item)))) f by.pid
    (item_from (head_of e.item) (join_with_byte 44 texts ++ (41 ∷ tail_text e.item)) by.head
    ∙ spoiled_after_bracket e.item texts (tail_text e.item) f s by.whole) le

pub spoiled_argument : SpoiledArgument
spoiled_argument = λ e texts f h le s. err_fault (joined e texts) f (spoiled_line e texts f h le s)

-- ---- a spoiled answer

-- digits don't begin as an errno does
fd_no_errno : (n : ℕ) → IsFd n → after_prefix (codes "-1 errno ") (decimal n) ≡ None
fd_no_errno n is = decimal_no_errno n (omega (arith, is))

result_fault : (k : ResultKind) (t : List ℕ) (o : Option (List ℕ)) (d : FirstFault) → is_same k ≡ false
    → result_at k t o ≡ Err d → d ≡ faults.Answer
result_fault k t None d s e = made_fails k t d s e
result_fault k t (Some n) d s e = errno_err k t n d e

same_fault : (g : ℕ) (t : List ℕ) (o : Option (List ℕ)) (d : FirstFault) → after_prefix (codes "-1 errno ") t ≡ o
    → result_at (Same g) t o ≡ Err d → FaultOfAnswer (Same g) t d
unfolding made_at
same_fault g t None d at e =
    elim (same_err g (num_at 1048575 t) d e) as (λ _. FaultOfAnswer (Same g) t d) [
      | inl h ↦ inr (
        λ n is same. absurd
            (let none = h.0 in let some = ap (num_at 1048575) same ∙ num_again 1048575 n is (omega (arith, is)) in cc),
        h.1,
      )
      | inr h ↦ (let p = num_takes 1048575 t h.0 h.1.0 in inl ((h.0, (p.1, p.0)), h.1.1))
    ]
same_fault g t (Some n) d at e =
    inr (
      λ m is same.
          absurd (let none = ap (after_prefix (codes "-1 errno ")) same ∙ fd_no_errno m is in let some = at in cc),
      errno_err (Same g) t n d e,
    )

kind_fault : (k : ResultKind) (t : List ℕ) (o : Option (List ℕ)) (d : FirstFault) → after_prefix (codes "-1 errno ") t
    ≡ o
    → result_at k t o ≡ Err d → FaultOfAnswer k t d
unfolding is_same
kind_fault (Same g) t o d at e = same_fault g t o d at e
kind_fault k t o d at e = result_fault k t o d refl e

one_fault : (k : ResultKind) (t : List ℕ) (d f : FirstFault) → FaultOfAnswer k t d → FaultOfAnswer k t f → d ≡ f
one_fault (Same g) t d f (inl h) (inl i) = h.1 ∙ sym i.1
one_fault (Same g) t d f (inl h) (inr i) = absurd (i.0 h.0.0 h.0.1.0 h.0.1.1)
one_fault (Same g) t d f (inr h) (inl i) = absurd (h.0 i.0.0 i.0.1.0 i.0.1.1)
one_fault (Same g) t d f (inr h) (inr i) = h.1 ∙ sym i.1
one_fault k t d f h i = h ∙ sym i

answer_spoiled : (k : ResultKind) (t : List ℕ) (f : FirstFault) (r : Result Answer FirstFault)
    → answer_at k (codes " RET " ++ t) ≡ r → SpellsNoAnswer k t → FaultOfAnswer k t f → r ≡ Err f
answer_spoiled k t f (Ok a) e none h =
    let p = answer_takes k (codes " RET " ++ t) a e in
    let same : t ≡ answer_text a = (let whole = p.0 in cc) in
    absurd (none a p.1 same)
answer_spoiled k t f (Err d) e none h = ap Err (one_fault k t d f (kind_fault k t
    (after_prefix (codes "-1 errno ") t) d refl (sym (answer_is k t (after_prefix (codes "-1 errno ") t) refl) ∙ e)) h)

answer_after : (c : Call) (good : Answer) (texts : List (List ℕ)) (t : List ℕ) (f : FirstFault)
    → SpellsArgs texts (args_of_call c) → SpellsNoAnswer (kind_of c) t → FaultOfAnswer (kind_of c) t f
    → after_bracket (head_of_call c) (join_with_byte 44 texts ++ (41 ∷ (codes " RET " ++ t))) ≡ Err f
unfolding Cuts ended
answer_after c good texts t f h none fo =
    rw (
      between_again (items.Call c good) texts h (codes " RET " ++ t),
      call_again c texts h,
      answer_spoiled (kind_of c) t f (answer_at (kind_of c) (codes " RET " ++ t)) refl none fo,
    ) refl

pub spoiled_answer : SpoiledAnswer
spoiled_answer = λ pid call good texts t f h args le none fo.
    let by = h.1.1 in
    err_fault (answered pid call texts t) f
    (entry_fails pid
    (name_of (head_of_call call) ++ (40 ∷ (join_with_byte 44 texts ++ (41 ∷ (codes " RET " ++ t))))) f by.pid
    (item_from (head_of_call call) (join_with_byte 44 texts ++ (41 ∷ (codes " RET " ++ t))) by.head
    ∙ answer_after call good texts t f args none fo) le)
