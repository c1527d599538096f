-- An argument that is read is spelled so, and what spells it is read; by the kinds of argument.
use Rattle.std.proofs.Common.{◌≡◌, ℕ, ◌+◌, ◌^◌, ◌<◌, ◌&&◌, Bool, true, false, cond, List, [], ◌∷◌, ◌++◌, length, Option}
use Rattle.std.proofs.Common.{Result, Ok, Err, refl, sym, ap, subst, ◌∙◌, arith}
use Rattle.std.specs.Prelude.{codes}
use Rattle.std.specs.List.{list_all}
use Rattle.std.specs.Str.{all_ascii_digits, bytes_eq}
use Rattle.std.specs.Char.{is_ascii_digit}
use Rattle.std.specs.Fmt.{decimal}
use Rattle.std.proofs.lemmas.Fmt.{digits_decimal, decimal_nonempty}
use Rattle.std.proofs.lemmas.Slice.Eq.{bytes_eq-Decides}
use Rattle.cap_rights.specs.Text.{names}
use Rattle.cap_rights.proofs.Plain.{names_some, names_plain, plain as right_byte}
use Rattle.cap_trace.specs.declared.fault.FirstFault.{FirstFault}
use Rattle.cap_trace.specs.declared.fault.FirstFault.TheVariants as faults
use Rattle.cap_trace.specs.declared.line.Dir.{Dir}
use Rattle.cap_trace.specs.declared.line.Dir.TheVariants as dirs
use Rattle.cap_trace.specs.declared.calls.DupCommand.TheVariants as dup_commands
use Rattle.cap_trace.specs.Number.{num_at}
use Rattle.cap_trace.specs.Fields.{is_flags, is_word, are_items, is_free}
use Rattle.cap_trace.specs.Entry.{Arg, an_fd, a_dir, some_flags, some_rights, a_path, a_command, a_word, free_text}
use Rattle.cap_trace.specs.Entry.{Word, dest, set_fd, dup_to, fds, IsPid, RisesFrom}
use Rattle.cap_trace.specs.Spelling.{SpellsArg, SpellsArgs, word_text, is_command}
use Rattle.cap_trace.specs.Forms.{Slot, fd, dir, flags, rights, path, command, word, free}
use Rattle.cap_trace.specs.Reading.{◌>>=◌, need, kept, after_prefix, before_suffix, pid_at, fd_at, rights_at, dir_at}
use Rattle.cap_trace.specs.Reading.{flags_at, command_at, path_at, free_at, arg_at, args_at, fds_from}
use Rattle.cap_trace.proofs.Cuts.{IsPart, AreParts, after_prefix_takes, before_suffix_takes, before_suffix_again}
use Rattle.cap_trace.proofs.Numerals.{own, bind_ok, need_ok, positive_ok, positive_again, num_takes, num_again}
use Rattle.cap_trace.proofs.Quiet.{is_quiet, quiet_part, weaken, digit_quiet, right_quiet, flags_part, word_part}
use Rattle.cap_trace.proofs.Quiet.{path_part}
use Rattle.cap_trace.proofs.Numerals.{unless_ok}
use Rattle.std.proofs.lemmas.Bool.{le-ltb, ltb-false, and_parts}
use Rattle.std.proofs.Common.{ltb}

-- ---- steps

pub ok_is : {A : Type 0} (x y : A) → ◌≡◌ {A = Result A FirstFault} (Ok x) (Ok y) → x ≡ y
ok_is x y e = cc

pub bind_made : {A B : Type 0} (r : Result A FirstFault) (make : A → B) (y : B) → (r >>= λ x. Ok (make x)) ≡ Ok y
    → (x : A) × (r ≡ Ok x) × (make x ≡ y)
bind_made (Ok x) make y e = (x, refl, ok_is (make x) y e)
bind_made (Err d) make y e = absurd cc

kept_ok : (test : List ℕ → Bool) (d : FirstFault) (t x : List ℕ) (b : Bool) → test t ≡ b
    → ◌≡◌ {A = Result (List ℕ) FirstFault} (cond b (Ok t) (Err d)) (Ok x) → (t ≡ x) × (test x ≡ true)
kept_ok test d t x true h e = let same = ok_is t x e in (same, ap test (sym same) ∙ h)
kept_ok test d t x false h e = absurd cc

kept_takes : (test : List ℕ → Bool) (d : FirstFault) (t x : List ℕ) → kept test d t ≡ Ok x → (t ≡ x) × (test x ≡ true)
kept_takes test d t x e = kept_ok test d t x (test t) refl e

kept_again : (test : List ℕ → Bool) (d : FirstFault) (t x : List ℕ) → t ≡ x → test x ≡ true → kept test d t ≡ Ok x
kept_again test d t x e h = let here : test t ≡ true = ap test e ∙ h in rw here (ap Ok e)

-- ---- fields

pub pid_takes : (t : List ℕ) (p : ℕ) → pid_at t ≡ Ok p → (t ≡ decimal p) × IsPid p
unfolding pid_at
pid_takes t p e =
    let k = positive_ok faults.Pid (num_at 99999 t) p e in
    let n = num_takes 99999 t p k.0 in
    (n.0, (k.1, n.1))

pub pid_again : (p : ℕ) → IsPid p → pid_at (decimal p) ≡ Ok p
unfolding pid_at
pid_again p h = rw (num_again 99999 p h.1 (omega (arith, h.1))) (positive_again faults.Pid p h.0)

pub fd_takes : (t : List ℕ) (f : ℕ) → fd_at t ≡ Ok f → SpellsArg t (an_fd f)
unfolding fd_at
fd_takes t f e = num_takes 1048575 t f (need_ok faults.Argument (num_at 1048575 t) f e)

pub fd_again : (t : List ℕ) (f : ℕ) → SpellsArg t (an_fd f) → fd_at t ≡ Ok f
unfolding fd_at
fd_again t f h = rw (h.0, num_again 1048575 f h.1 (omega (arith, h.1))) refl

dir_ok : (t : List ℕ) (d : Dir) (b : Bool) → bytes_eq t (codes "AT_FDCWD") ≡ b
    → cond b (Ok dirs.Cwd) (fd_at t >>= λ f. Ok (dirs.Fd f)) ≡ Ok d → SpellsArg t (a_dir d)
dir_ok t d true h e =
    subst (λ (x : Dir). SpellsArg t (a_dir x)) (ok_is dirs.Cwd d e) ((bytes_eq-Decides t (codes "AT_FDCWD")).0 h)
dir_ok t d false h e = let f = bind_made (fd_at t) (λ f. dirs.Fd f) d e in
    subst (λ (x : Dir). SpellsArg t (a_dir x)) f.2 (fd_takes t f.0 f.1)

dir_takes : (t : List ℕ) (d : Dir) → dir_at t ≡ Ok d → SpellsArg t (a_dir d)
unfolding dir_at
dir_takes t d e = dir_ok t d (bytes_eq t (codes "AT_FDCWD")) refl e

digits_no_dir : (t : List ℕ) (b : Bool) → all_ascii_digits t ≡ true → bytes_eq t (codes "AT_FDCWD") ≡ b → b ≡ false
digits_no_dir t true h e = absurd (let same = (bytes_eq-Decides t (codes "AT_FDCWD")).0 e in
    let odd : all_ascii_digits (codes "AT_FDCWD") ≡ true = ap all_ascii_digits (sym same) ∙ h in cc)
digits_no_dir t false h e = refl

dir_again : (t : List ℕ) (d : Dir) → SpellsArg t (a_dir d) → dir_at t ≡ Ok d
unfolding dir_at
dir_again t (dirs.Fd f) h =
    let digits : all_ascii_digits t ≡ true = ap all_ascii_digits h.0 ∙ digits_decimal own f (omega (arith, h.1)) in
    rw (digits_no_dir t (bytes_eq t (codes "AT_FDCWD")) digits refl, fd_again t f h) refl
dir_again t dirs.Cwd h = rw ((bytes_eq-Decides t (codes "AT_FDCWD")).1 h) refl

path_takes : (t p : List ℕ) → path_at t ≡ Ok p → SpellsArg t (a_path p)
unfolding path_at
path_takes t p e =
    let o = bind_ok (need faults.Argument (after_prefix (34 ∷ []) t))
    (λ o. need faults.Argument (before_suffix (34 ∷ []) o) >>= λ i. kept are_items faults.Argument i) p e in
    let i =
    bind_ok (need faults.Argument (before_suffix (34 ∷ []) o.0)) (λ i. kept are_items faults.Argument i) p o.2 in
    let k = kept_takes are_items faults.Argument i.0 p i.2 in (
      after_prefix_takes (34 ∷ []) t o.0 (need_ok faults.Argument (after_prefix (34 ∷ []) t) o.0 o.1)
          ∙ ap (λ (r : List ℕ). 34 ∷ r)
          (before_suffix_takes (34 ∷ []) o.0 i.0 (need_ok faults.Argument (before_suffix (34 ∷ []) o.0) i.0 i.1))
          ∙ ap (λ (r : List ℕ). 34 ∷ (r ++ 34 ∷ [])) k.0,
      k.1,
    )

path_again : (t p : List ℕ) → SpellsArg t (a_path p) → path_at t ≡ Ok p
unfolding path_at
path_again t p h =
    ap path_at h.0 ∙ ap (λ (o : Option (List ℕ)). need faults.Argument o >>= λ i. kept are_items faults.Argument i)
    (before_suffix_again (34 ∷ []) p) ∙ kept_again are_items faults.Argument p p refl h.1

-- ---- an argument

word_ok : (t : List ℕ) (w : Word) (a : Arg) (b : Bool) → bytes_eq t (word_text w) ≡ b
    → ◌≡◌ {A = Result Arg FirstFault} (cond b (Ok (a_word w)) (Err faults.Argument)) (Ok a) → SpellsArg t a
word_ok t w a true h e =
    subst (λ (x : Arg). SpellsArg t x) (ok_is (a_word w) a e) ((bytes_eq-Decides t (word_text w)).0 h)
word_ok t w a false h e = absurd cc

made_arg : {A : Type 0} (t : List ℕ) (make : A → Arg) (r : Result A FirstFault) (a : Arg)
    → ((x : A) → r ≡ Ok x → SpellsArg t (make x)) → (r >>= λ x. Ok (make x)) ≡ Ok a → SpellsArg t a
made_arg t make r a spells e = let x = bind_made r make a e in subst (λ (y : Arg). SpellsArg t y) x.2 (spells x.0 x.1)

pub arg_takes : (s : Slot) (t : List ℕ) (a : Arg) → arg_at s t ≡ Ok a → SpellsArg t a
unfolding arg_at flags_at command_at free_at rights_at
arg_takes fd t a e = made_arg t (λ x. an_fd x) (fd_at t) a (fd_takes t) e
arg_takes dir t a e = made_arg t (λ x. a_dir x) (dir_at t) a (dir_takes t) e
arg_takes flags t a e = made_arg t (λ x. some_flags x) (flags_at t) a (λ x. kept_takes is_flags faults.Argument t x) e
arg_takes rights t a e = made_arg t (λ x. some_rights x) (rights_at t) a (λ x. need_ok faults.Right (names t) x) e
arg_takes path t a e = made_arg t (λ x. a_path x) (path_at t) a (path_takes t) e
arg_takes command t a e =
    made_arg t (λ x. a_command x) (command_at t) a (λ x. kept_takes is_command faults.Argument t x) e
arg_takes (word w) t a e = word_ok t w a (bytes_eq t (word_text w)) refl e
arg_takes free t a e =
    made_arg t (λ x. free_text x) (free_at t) a (λ x. kept_takes (λ y. list_all is_free y) faults.Shape t x) e

-- the kind of an argument
unfoldable pub slot_of : Arg → Slot
slot_of (an_fd f) = fd
slot_of (a_dir d) = dir
slot_of (some_flags w) = flags
slot_of (some_rights r) = rights
slot_of (a_path p) = path
slot_of (a_command w) = command
slot_of (a_word w) = word w
slot_of (free_text a) = free

pub arg_again : (t : List ℕ) (a : Arg) → SpellsArg t a → arg_at (slot_of a) t ≡ Ok a
unfolding arg_at slot_of flags_at command_at free_at rights_at
arg_again t (an_fd f) h = rw (fd_again t f h) refl
arg_again t (a_dir d) h = rw (dir_again t d h) refl
arg_again t (some_flags w) h = rw (kept_again is_flags faults.Argument t w h.0 h.1) refl
arg_again t (some_rights r) h = rw h refl
arg_again t (a_path p) h = rw (path_again t p h) refl
arg_again t (a_command w) h = rw (kept_again is_command faults.Argument t w h.0 h.1) refl
arg_again t (a_word w) h = rw ((bytes_eq-Decides t (word_text w)).1 h) refl
arg_again t (free_text a) h = rw (kept_again (λ y. list_all is_free y) faults.Shape t a h.0 h.1) refl

-- ---- arguments

abbrev pub slots_of : List Arg → List Slot
slots_of [] = []
slots_of (a ∷ others) = slot_of a ∷ slots_of others

pub args_take : (ss : List Slot) (ts : List (List ℕ)) (given : List Arg) → args_at ss ts ≡ Ok given
    → SpellsArgs ts given
unfolding args_at
args_take [] [] given e = subst (λ (x : List Arg). SpellsArgs [] x) (ok_is [] given e) tt
args_take [] (t ∷ ts) given e = absurd cc
args_take (s ∷ ss) [] given e = absurd cc
args_take (s ∷ ss) (t ∷ ts) given e =
    let a = bind_ok (arg_at s t) (λ a. args_at ss ts >>= λ others. Ok (a ∷ others)) given e in
    let others = bind_made (args_at ss ts) (λ others. a.0 ∷ others) given a.2 in
    subst (λ (x : List Arg). SpellsArgs (t ∷ ts) x) others.2 (arg_takes s t a.0 a.1, args_take ss ts others.0 others.1)

pub args_again : (ts : List (List ℕ)) (given : List Arg) → SpellsArgs ts given → args_at (slots_of given) ts ≡ Ok given
unfolding args_at
args_again [] [] h = refl
args_again [] (a ∷ others) h = absurd h
args_again (t ∷ ts) [] h = absurd h
args_again (t ∷ ts) (a ∷ others) h = rw (arg_again t a h.0, args_again ts others h.1) refl

pub as_many : (ts : List (List ℕ)) (given : List Arg) → SpellsArgs ts given → length ts ≡ length (slots_of given)
as_many [] [] h = refl
as_many [] (a ∷ others) h = absurd h
as_many (t ∷ ts) [] h = absurd h
as_many (t ∷ ts) (a ∷ others) h = omega (arith, as_many ts others h.1)

-- ---- descriptors that rise

pub fds_take : (low : ℕ) (ts : List (List ℕ)) (fs : List ℕ) → fds_from low ts ≡ Ok fs
    → SpellsArgs ts (fds fs) × RisesFrom low fs
unfolding fds_from
fds_take low [] fs e = subst (λ (x : List ℕ). SpellsArgs [] (fds x) × RisesFrom low x) (ok_is [] fs e) (tt, tt)
fds_take low (t ∷ ts) fs e =
    let f = bind_ok (fd_at t)
    (λ f. cond (ltb f low) (Err faults.Argument) (fds_from (f + 1) ts) >>= λ fs. Ok (f ∷ fs)) fs e in
    let g = bind_made (cond (ltb f.0 low) (Err faults.Argument) (fds_from (f.0 + 1) ts)) (λ fs. f.0 ∷ fs) fs f.2 in
    let l = unless_ok (ltb f.0 low) faults.Argument (fds_from (f.0 + 1) ts) g.0 g.1 in
    let p = fds_take (f.0 + 1) ts g.0 l.1 in
    subst (λ (x : List ℕ). SpellsArgs (t ∷ ts) (fds x) × RisesFrom low x) g.2
    ((fd_takes t f.0 f.1, p.0), (ltb-false _ _ l.0, p.1))

pub fds_again : (low : ℕ) (ts : List (List ℕ)) (fs : List ℕ) → SpellsArgs ts (fds fs) → RisesFrom low fs
    → fds_from low ts ≡ Ok fs
unfolding fds_from
fds_again low [] [] h r = refl
fds_again low [] (f ∷ fs) h r = absurd h
fds_again low (t ∷ ts) [] h r = absurd h
fds_again low (t ∷ ts) (f ∷ fs) h r = rw (fd_again t f h.0, le-ltb f low r.0, fds_again (f + 1) ts fs h.1 r.1) refl

-- ---- parts

decimal_part : (n : ℕ) → n < 2 ^ 64 → IsPart (decimal n)
decimal_part n lt = quiet_part (decimal n) (decimal_nonempty n lt) (digits_quiet (decimal n) (digits_decimal own n lt))
  where
    digits_quiet : (t : List ℕ) → all_ascii_digits t ≡ true → list_all is_quiet t ≡ true
    digits_quiet t h = weaken is_ascii_digit is_quiet digit_quiet t h

unfoldable pub is_closed : Arg → Bool
is_closed (free_text a) = false
is_closed a = true

pub arg_part : (t : List ℕ) (a : Arg) → is_closed a ≡ true → SpellsArg t a → IsPart t
unfolding is_closed
arg_part t (an_fd f) c h = subst IsPart (sym h.0) (decimal_part f (omega (arith, h.1)))
arg_part t (a_dir (dirs.Fd f)) c h = subst IsPart (sym h.0) (decimal_part f (omega (arith, h.1)))
arg_part t (a_dir dirs.Cwd) c h = subst IsPart (sym h) (quiet_part (codes "AT_FDCWD") (omega arith) refl)
arg_part t (some_flags w) c h = subst IsPart (sym h.0) (flags_part w h.1)
arg_part t (some_rights r) c h =
    quiet_part t (names_some t r h) (weaken right_byte is_quiet right_quiet t (names_plain t r h))
arg_part t (a_path p) c h = subst IsPart (sym h.0) (path_part p h.1)
arg_part t (a_command w) c h = subst IsPart (sym h.0) (word_part w (and_parts (is_word w) _ h.1).0)
arg_part t (a_word dest) c h = subst IsPart (sym h) (quiet_part (codes "DEST") (omega arith) refl)
arg_part t (a_word set_fd) c h = subst IsPart (sym h) (quiet_part (codes "F_SETFD") (omega arith) refl)
arg_part t (a_word (dup_to dup_commands.FDup2fd)) c h =
    subst IsPart (sym h) (quiet_part (codes "F_DUP2FD") (omega arith) refl)
arg_part t (a_word (dup_to dup_commands.FDup2fdCloexec)) c h =
    subst IsPart (sym h) (quiet_part (codes "F_DUP2FD_CLOEXEC") (omega arith) refl)
arg_part t (free_text a) c h = absurd cc

abbrev pub are_closed : List Arg → Bool
are_closed [] = true
are_closed (a ∷ others) = is_closed a && are_closed others

pub args_parts : (ts : List (List ℕ)) (given : List Arg) → are_closed given ≡ true → SpellsArgs ts given → AreParts ts
args_parts [] [] c h = tt
args_parts [] (a ∷ others) c h = absurd h
args_parts (t ∷ ts) [] c h = absurd h
args_parts (t ∷ ts) (a ∷ others) c h = let k = and_parts (is_closed a) (are_closed others) c in
    (arg_part t a k.0 h.0, args_parts ts others k.1 h.1)

pub fds_closed : (fs : List ℕ) → are_closed (fds fs) ≡ true
unfolding is_closed
fds_closed [] = refl
fds_closed (f ∷ fs) = fds_closed fs
