-- The faults that reading a part of a line can have.
use Rattle.std.proofs.Common.{◌≡◌, ℕ, ◌+◌, ◌&&◌, Bool, true, false, cond, eqb, ltb, List, [], ◌∷◌, length, Option, Some}
use Rattle.std.proofs.Common.{None, Result, Ok, Err, refl, sym, ap, ◌∙◌, ◌⊎◌, inl, inr, arith}
use Rattle.std.specs.Prelude.{codes}
use Rattle.std.specs.List.{list_all}
use Rattle.std.specs.Str.{bytes_eq}
use Rattle.std.proofs.lemmas.Bool.{and_parts}
use Rattle.cap_rights.specs.Text.{names}
use Rattle.cap_trace.specs.declared.fault.FirstFault.{FirstFault}
use Rattle.cap_trace.specs.declared.fault.FirstFault.TheVariants as faults
use Rattle.cap_trace.specs.Item as items
use Rattle.cap_trace.specs.declared.line.Answer.{Answer}
use Rattle.cap_trace.specs.declared.line.Answer.TheVariants as answers
use Rattle.cap_trace.specs.declared.line.Dir.TheVariants as dirs
use Rattle.cap_trace.specs.declared.calls.ResultKind.{ResultKind}
use Rattle.cap_trace.specs.declared.calls.ResultKind.TheVariants.{Count, Zero, Fd, Same, FdPair, Child, ChildAndFd, Any}
use Rattle.cap_trace.specs.declared.calls.Form.TheVariants as forms
use Rattle.cap_trace.specs.Names.{Head, listed, unlisted}
use Rattle.cap_trace.specs.Number.{num_at}
use Rattle.cap_trace.specs.Quotes.{cut_at_byte}
use Rattle.cap_trace.specs.Fields.{is_flags, are_items, is_free}
use Rattle.cap_trace.specs.Entry.{Arg, an_fd, a_dir, some_flags, some_rights, a_path, a_command, a_word, free_text}
use Rattle.cap_trace.specs.Spelling.{word_text, is_command}
use Rattle.cap_trace.specs.Forms.{Slot, fd, dir, flags, rights, path, command, word, free, Shape, these, rising_fds}
use Rattle.cap_trace.specs.Forms.{shape_of, a_marker, built}
use Rattle.cap_trace.specs.Reading.{◌>>=◌, need, positive, kept, after_prefix, before_suffix, pid_at, fd_at, rights_at}
use Rattle.cap_trace.specs.Reading.{dir_at, flags_at, command_at, path_at, free_at, arg_at, args_at, fds_from, shaped}
use Rattle.cap_trace.specs.Reading.{event_at, number_at, same_at, pair_at, any_at, made_at, result_at}
use Rattle.cap_trace.proofs.Built.{slots_in}

-- ---- steps

pub err_is : {A : Type 0} (x y : FirstFault) → ◌≡◌ {A = Result A FirstFault} (Err x) (Err y) → x ≡ y
err_is x y e = cc

pub bind_err : {A B : Type 0} (r : Result A FirstFault) (f : A → Result B FirstFault) (d : FirstFault)
    → (r >>= f) ≡ Err d
    → (r ≡ Err d) ⊎ ((x : A) × (r ≡ Ok x) × (f x ≡ Err d))
bind_err (Ok x) f d e = inr (x, refl, e)
bind_err {A} {B} (Err c) f d e = inl (ap Err (err_is {A = B} c d e))

pub made_err : {A B : Type 0} (r : Result A FirstFault) (make : A → B) (d : FirstFault)
    → (r >>= λ x. Ok (make x)) ≡ Err d → r ≡ Err d
made_err (Ok x) make d e = absurd cc
made_err {A} {B} (Err c) make d e = ap Err (err_is {A = B} c d e)

pub need_err : {A : Type 0} (c : FirstFault) (o : Option A) (d : FirstFault) → need c o ≡ Err d → d ≡ c
need_err {A} c None d e = sym (err_is {A = A} c d e)
need_err c (Some x) d e = absurd cc

cond_err : {A : Type 0} (c : FirstFault) (x : A) (b : Bool) (d : FirstFault)
    → ◌≡◌ {A = Result A FirstFault} (cond b (Ok x) (Err c)) (Err d) → d ≡ c
cond_err c x true d e = absurd cc
cond_err {A} c x false d e = sym (err_is {A = A} c d e)

cond_ok : {A : Type 0} (c : FirstFault) (x : A) (b : Bool) (d : FirstFault)
    → ◌≡◌ {A = Result A FirstFault} (cond b (Err c) (Ok x)) (Err d) → d ≡ c
cond_ok {A} c x true d e = sym (err_is {A = A} c d e)
cond_ok c x false d e = absurd cc

kept_err : (test : List ℕ → Bool) (c : FirstFault) (t : List ℕ) (d : FirstFault) → kept test c t ≡ Err d → d ≡ c
kept_err test c t d e = cond_err c t (test t) d e

positive_err : (c : FirstFault) (o : Option ℕ) (d : FirstFault) → positive c o ≡ Err d → d ≡ c
positive_err c None d e = sym (err_is {A = ℕ} c d e)
positive_err c (Some n) d e = cond_ok c n (eqb n 0) d e

-- ---- fields

pub pid_err : (t : List ℕ) (d : FirstFault) → pid_at t ≡ Err d → d ≡ faults.Pid
unfolding pid_at
pid_err t d e = positive_err faults.Pid (num_at 99999 t) d e

pub fd_err : (t : List ℕ) (d : FirstFault) → fd_at t ≡ Err d → d ≡ faults.Argument
unfolding fd_at
fd_err t d e = need_err faults.Argument (num_at 1048575 t) d e

dir_cond : (t : List ℕ) (b : Bool) (d : FirstFault) → cond b (Ok dirs.Cwd) (fd_at t >>= λ f. Ok (dirs.Fd f)) ≡ Err d
    → d ≡ faults.Argument
dir_cond t true d e = absurd cc
dir_cond t false d e = fd_err t d (made_err (fd_at t) (λ f. dirs.Fd f) d e)

dir_err : (t : List ℕ) (d : FirstFault) → dir_at t ≡ Err d → d ≡ faults.Argument
unfolding dir_at
dir_err t d e = dir_cond t (bytes_eq t (codes "AT_FDCWD")) d e

inside_err : (o : Option (List ℕ)) (d : FirstFault)
    → (need faults.Argument o >>= λ i. kept are_items faults.Argument i) ≡ Err d → d ≡ faults.Argument
inside_err None d e = sym (err_is {A = List ℕ} faults.Argument d e)
inside_err (Some i) d e = kept_err are_items faults.Argument i d e

path_parts : (o : Option (List ℕ)) (d : FirstFault) → (need faults.Argument o
    >>= λ p. need faults.Argument (before_suffix (34 ∷ []) p) >>= λ i. kept are_items faults.Argument i) ≡ Err d
    → d ≡ faults.Argument
path_parts None d e = sym (err_is {A = List ℕ} faults.Argument d e)
path_parts (Some p) d e = inside_err (before_suffix (34 ∷ []) p) d e

path_err : (t : List ℕ) (d : FirstFault) → path_at t ≡ Err d → d ≡ faults.Argument
unfolding path_at
path_err t d e = path_parts (after_prefix (34 ∷ []) t) d e

-- the fault of an argument of each kind
abbrev pub slot_fault : Slot → FirstFault
slot_fault rights = faults.Right
slot_fault free = faults.Shape
slot_fault s = faults.Argument

pub arg_err : (s : Slot) (t : List ℕ) (d : FirstFault) → arg_at s t ≡ Err d → d ≡ slot_fault s
unfolding arg_at flags_at command_at free_at rights_at
arg_err fd t d e = fd_err t d (made_err (fd_at t) (λ x. an_fd x) d e)
arg_err dir t d e = dir_err t d (made_err (dir_at t) (λ x. a_dir x) d e)
arg_err flags t d e = kept_err is_flags faults.Argument t d (made_err (flags_at t) (λ x. some_flags x) d e)
arg_err rights t d e = need_err faults.Right (names t) d (made_err (rights_at t) (λ x. some_rights x) d e)
arg_err path t d e = path_err t d (made_err (path_at t) (λ x. a_path x) d e)
arg_err command t d e = kept_err is_command faults.Argument t d (made_err (command_at t) (λ x. a_command x) d e)
arg_err (word w) t d e = cond_err faults.Argument (a_word w) (bytes_eq t (word_text w)) d e
arg_err free t d e = kept_err (λ a. list_all is_free a) faults.Shape t d (made_err (free_at t) (λ x. free_text x) d e)

-- ---- arguments

-- a test of faults that passes those of each of these kinds
abbrev pub passes_slots : (FirstFault → Bool) → List Slot → Bool
passes_slots q [] = true
passes_slots q (s ∷ ss) = q (slot_fault s) && passes_slots q ss

args_err : (q : FirstFault → Bool) → q faults.Argument ≡ true → (ss : List Slot) (ts : List (List ℕ)) (d : FirstFault)
    → passes_slots q ss ≡ true → args_at ss ts ≡ Err d → q d ≡ true
unfolding args_at
args_err q a [] [] d p e = absurd cc
args_err q a [] (t ∷ ts) d p e = ap q (sym (err_is {A = List Arg} faults.Argument d e)) ∙ a
args_err q a (s ∷ ss) [] d p e = ap q (sym (err_is {A = List Arg} faults.Argument d e)) ∙ a
args_err q a (s ∷ ss) (t ∷ ts) d p e =
    let k = and_parts (q (slot_fault s)) (passes_slots q ss) p in
    elim (bind_err (arg_at s t) (λ x. args_at ss ts >>= λ others. Ok (x ∷ others)) d e) as (λ _. q d ≡ true) [
      | inl h ↦ ap q (arg_err s t d h) ∙ k.0
      | inr h ↦ args_err q a ss ts d k.1 (made_err (args_at ss ts) (λ others. h.0 ∷ others) d h.2)
    ]

low_err : {A : Type 0} (b : Bool) (r : Result A FirstFault) (d : FirstFault) → cond b (Err faults.Argument) r ≡ Err d
    → (d ≡ faults.Argument) ⊎ (r ≡ Err d)
low_err {A} true r d e = inl (sym (err_is {A = A} faults.Argument d e))
low_err false r d e = inr e

fds_err : (low : ℕ) (ts : List (List ℕ)) (d : FirstFault) → fds_from low ts ≡ Err d → d ≡ faults.Argument
unfolding fds_from
fds_err low [] d e = absurd cc
fds_err low (t ∷ ts) d e =
    elim (bind_err (fd_at t) (λ f. cond (ltb f low) (Err faults.Argument) (fds_from (f + 1) ts) >>= λ fs. Ok (f ∷ fs)) d
    e) as (λ _. d ≡ faults.Argument) [
      | inl h ↦ fd_err t d h
      | inr h ↦ elim (low_err (ltb h.0 low) (fds_from (h.0 + 1) ts) d
          (made_err (cond (ltb h.0 low) (Err faults.Argument) (fds_from (h.0 + 1) ts)) (λ fs. h.0 ∷ fs) d h.2)) as (λ _.
          d ≡ faults.Argument) [
            | inl g ↦ g
            | inr g ↦ fds_err (h.0 + 1) ts d g
          ]
    ]

pub built_err : (h : Head) (given : List Arg) (d : FirstFault) → built h given ≡ Err d → d ≡ faults.Argument
built_err (listed (forms.OnFd c)) given d e = grind arith
built_err (listed f) given d e = grind arith
built_err (unlisted n) given d e = grind arith

counted_err : {A : Type 0} (b : Bool) (r : Result A FirstFault) (d : FirstFault)
    → cond b r (Err faults.Argument) ≡ Err d
    → (d ≡ faults.Argument) ⊎ (r ≡ Err d)
counted_err true r d e = inr e
counted_err {A} false r d e = inl (sym (err_is {A = A} faults.Argument d e))

shaped_err : (q : FirstFault → Bool) → q faults.Argument ≡ true
    → (h : Head) (shape : Shape) (ts : List (List ℕ)) (d : FirstFault)
    → passes_slots q (slots_in shape) ≡ true → shaped h shape ts ≡ Err d → q d ≡ true
shaped_err q a h rising_fds ts d p e =
    ap q (fds_err 0 ts d (made_err (fds_from 0 ts) (λ fs. a_marker (items.Start fs)) d e)) ∙ a
shaped_err q a h (these ss) ts d p e =
    elim (counted_err (eqb (length ts) (length ss))
    (args_at ss ts >>= λ given. built h given) d e) as (λ _. q d ≡ true) [
      | inl g ↦ ap q g ∙ a
      | inr g ↦ elim (bind_err (args_at ss ts) (λ given. built h given) d g) as (λ _. q d ≡ true) [
        | inl k ↦ args_err q a ss ts d p k
        | inr k ↦ ap q (built_err h k.0 d k.2) ∙ a
      ]
    ]

pub event_err : (q : FirstFault → Bool) → q faults.Argument ≡ true → (h : Head) (ts : List (List ℕ)) (d : FirstFault)
    → passes_slots q (slots_in (shape_of h ts)) ≡ true → event_at h ts ≡ Err d → q d ≡ true
unfolding event_at
event_err q a h ts d p e = shaped_err q a h (shape_of h ts) ts d p e

-- ---- the answer

number_err : (o : Option ℕ) (d : FirstFault) → number_at o ≡ Err d → d ≡ faults.Answer
number_err None d e = sym (err_is {A = Answer} faults.Answer d e)
number_err (Some n) d e = absurd cc

second_err : (n : ℕ) (o : Option ℕ) (d : FirstFault) → (need faults.Answer o >>= λ m. Ok (answers.Pair n m)) ≡ Err d
    → d ≡ faults.Answer
second_err n o d e = need_err faults.Answer o d (made_err (need faults.Answer o) (λ m. answers.Pair n m) d e)

pair_err : (n m : ℕ) (c : Option (List ℕ × List ℕ)) (d : FirstFault) → pair_at n m c ≡ Err d → d ≡ faults.Answer
pair_err n m None d e = sym (err_is {A = Answer} faults.Answer d e)
pair_err n m (Some c) d e =
    elim (bind_err (need faults.Answer (num_at n c.0))
    (λ x. need faults.Answer (num_at m c.1) >>= λ y. Ok (answers.Pair x y)) d e) as (λ _. d ≡ faults.Answer) [
      | inl h ↦ need_err faults.Answer (num_at n c.0) d h
      | inr h ↦ second_err h.0 (num_at m c.1) d h.2
    ]

any_err : (t : List ℕ) (c : Option (List ℕ × List ℕ)) (d : FirstFault) → any_at t c ≡ Err d → d ≡ faults.Answer
any_err t None d e = number_err (num_at 18446744073709551615 t) d e
any_err t (Some c) d e = pair_err 18446744073709551615 18446744073709551615 (Some c) d e

-- another descriptor than the one that was given, or no descriptor
pub same_err : (g : ℕ) (o : Option ℕ) (d : FirstFault) → same_at g o ≡ Err d
    → ((o ≡ None) × (d ≡ faults.Answer)) ⊎ ((n : ℕ) × ((o ≡ Some n) × (d ≡ faults.Argument)))
same_err g None d e = inl (refl, sym (err_is {A = Answer} faults.Answer d e))
same_err g (Some n) d e = inr (n, (refl, cond_err faults.Argument (answers.Made n) (eqb n g) d e))

unfoldable pub is_same : ResultKind → Bool
is_same (Same g) = true
is_same k = false

pub made_fails : (k : ResultKind) (t : List ℕ) (d : FirstFault) → is_same k ≡ false → made_at k t ≡ Err d → d
    ≡ faults.Answer
unfolding made_at is_same
made_fails Count t d s e = number_err (num_at 18446744073709551615 t) d e
made_fails Zero t d s e = number_err (num_at 0 t) d e
made_fails Fd t d s e = number_err (num_at 1048575 t) d e
made_fails (Same g) t d s e = absurd cc
made_fails FdPair t d s e = pair_err 1048575 1048575 (cut_at_byte 44 t) d e
made_fails Child t d s e = number_err (num_at 99999 t) d e
made_fails ChildAndFd t d s e = pair_err 99999 1048575 (cut_at_byte 44 t) d e
made_fails Any t d s e = any_err t (cut_at_byte 44 t) d e

pub errno_err : (k : ResultKind) (t n : List ℕ) (d : FirstFault) → result_at k t (Some n) ≡ Err d → d ≡ faults.Answer
errno_err k t n d e = positive_err faults.Answer (num_at 65535 n) d
    (made_err (positive faults.Answer (num_at 65535 n)) (λ x. answers.Fault x) d e)
