-- Which faults a whole line can have, and those of its length, its pid and its rights.
use Rattle.std.proofs.Common.{◌≡◌, ℕ, ◌<◌, ◌≤◌, Bool, true, false, cond, eqb, ltb, List, [], ◌∷◌, ◌++◌, length, Option}
use Rattle.std.proofs.Common.{Some, None, Result, Ok, Err, refl, sym, ap, subst, ◌∙◌, ◌⊎◌, inl, inr, arith}
use Rattle.std.proofs.Common.{append_assoc}
use Rattle.std.specs.Prelude.{codes}
use Rattle.std.specs.List.{join_with_byte, before_first, position_or_len}
use Rattle.std.specs.Str.{bytes_eq}
use Rattle.std.specs.Fmt.{decimal}
use Rattle.std.proofs.lemmas.Bool.{eqb-true, ltb-false, le-ltb, lt-ltb}
use Rattle.std.proofs.lemmas.List.{take_all}
use borrow.Author.Tests.{ltb-true}
use Rattle.cap_rights.specs.Text.{names}
use Rattle.cap_trace.specs.declared.fault.FirstFault.{FirstFault}
use Rattle.cap_trace.specs.declared.fault.FirstFault.TheVariants as faults
use Rattle.cap_trace.specs.Item.{Item}
use Rattle.cap_trace.specs.Item as items
use Rattle.cap_trace.specs.declared.calls.ResultKind.{ResultKind}
use Rattle.cap_trace.specs.declared.calls.ResultKind.TheVariants.{Same}
use Rattle.cap_trace.specs.declared.calls.Form.{Form}
use Rattle.cap_trace.specs.declared.calls.Form.TheVariants as forms
use Rattle.cap_trace.specs.Names.{Head, listed, name_of, head_named}
use Rattle.cap_trace.specs.Number.{num_at}
use Rattle.cap_trace.specs.Quotes.{cut_at_byte, around}
use Rattle.cap_trace.specs.Entry.{Entry, an_fd, some_rights, IsPid, IsFd, kind_of}
use Rattle.cap_trace.specs.Forms.{Slot, these, fd, rights, free, shape_of, send_shape}
use Rattle.cap_trace.specs.Forms.{fcntl_shape, Event, a_call, a_marker, built}
use Rattle.cap_trace.specs.Reading.{◌>>=◌, need, after_prefix, pid_at, fd_at, rights_at, arg_at, args_at, shaped, event_at}
use Rattle.cap_trace.specs.Reading.{same_at, result_at, made_at, answer_at, ended, args_and_tail, after_bracket}
use Rattle.cap_trace.specs.Reading.{item_at, entry_at, line_of, fault}
use Rattle.cap_trace.specs.Spoiled.{LongLineExactly, PidExactly, SpellsNoPid, RightOnlyOfRights, HasNoRights, has_rights}
use Rattle.cap_trace.proofs.Built.{slots_in}
use Rattle.cap_trace.proofs.Cuts.{cut_takes}
use Rattle.cap_trace.proofs.Numerals.{need_ok}
use Rattle.cap_trace.proofs.Heads.{head_takes}
use Rattle.cap_trace.proofs.Spelled.{bind_made, pid_takes, pid_again, fd_takes}
use Rattle.cap_trace.proofs.WholeLines.{args_and_tail_takes}
use Rattle.cap_trace.proofs.Faults.{err_is, bind_err, made_err, need_err, pid_err, arg_err, passes_slots, built_err}
use Rattle.cap_trace.proofs.Faults.{event_err, same_err, is_same, made_fails, errno_err}

pub fault_err : (r : Result Entry FirstFault) (f : FirstFault)
    → (elim r as (λ _. Option FirstFault) [ Ok e ↦ None | Err d ↦ Some d ]) ≡ Some f → r ≡ Err f
fault_err (Ok e) f h = absurd cc
fault_err (Err d) f h = ap Err (let h2 = h in cc)

pub err_fault : (bytes : List ℕ) (f : FirstFault) → line_of bytes ≡ Err f → fault bytes ≡ Some f
err_fault bytes f h =
    ap (λ (r : Result Entry FirstFault). elim r as (λ _. Option FirstFault) [ Ok e ↦ None | Err d ↦ Some d ]) h

-- ---- a test that passes every fault but those of the length and the pid

pub record Passes (q : FirstFault → Bool) : Type 0 where
  pub shape : q faults.Shape ≡ true
  pub argument : q faults.Argument ≡ true
  pub answer : q faults.Answer ≡ true

same_result : (q : FirstFault → Bool) → Passes q → (g : ℕ) (o : Option ℕ) (d : FirstFault) → same_at g o ≡ Err d
    → q d ≡ true
same_result q p g o d e = elim (same_err g o d e) as (λ _. q d ≡ true) [
  | inl h ↦ ap q h.1 ∙ p.answer
  | inr h ↦ ap q h.1.1 ∙ p.argument
]

made_result : (q : FirstFault → Bool) → Passes q → (k : ResultKind) (t : List ℕ) (d : FirstFault) → made_at k t ≡ Err d
    → q d ≡ true
unfolding made_at is_same
made_result q p (Same g) t d e = same_result q p g (num_at 1048575 t) d e
made_result q p k t d e = ap q (made_fails k t d refl e) ∙ p.answer

result_passes : (q : FirstFault → Bool) → Passes q
    → (k : ResultKind) (t : List ℕ) (o : Option (List ℕ)) (d : FirstFault)
    → result_at k t o ≡ Err d → q d ≡ true
result_passes q p k t None d e = made_result q p k t d e
result_passes q p k t (Some n) d e = ap q (errno_err k t n d e) ∙ p.answer

answer_passes : (q : FirstFault → Bool) → Passes q → (k : ResultKind) (tail : List ℕ) (d : FirstFault)
    → answer_at k tail ≡ Err d → q d ≡ true
unfolding answer_at
answer_passes q p k tail d e =
    elim (bind_err (need faults.Shape (after_prefix (codes " RET ") tail))
    (λ t. result_at k t (after_prefix (codes "-1 errno ") t)) d e) as (λ _. q d ≡ true) [
      | inl h ↦ ap q (need_err faults.Shape (after_prefix (codes " RET ") tail) d h) ∙ p.shape
      | inr h ↦ result_passes q p k h.0 (after_prefix (codes "-1 errno ") h.0) d h.2
    ]

end_err : (b : Bool) (i : Item) (d : FirstFault)
    → ◌≡◌ {A = Result Item FirstFault} (cond b (Ok i) (Err faults.Shape)) (Err d) → d ≡ faults.Shape
end_err true i d e = absurd cc
end_err false i d e = sym (err_is {A = Item} faults.Shape d e)

ended_passes : (q : FirstFault → Bool) → Passes q → (s : Event) (tail : List ℕ) (d : FirstFault) → ended s tail ≡ Err d
    → q d ≡ true
unfolding ended
ended_passes q p (a_call c) tail d e =
    answer_passes q p (kind_of c) tail d (made_err (answer_at (kind_of c) tail) (λ a. items.Call c a) d e)
ended_passes q p (a_marker i) tail d e = ap q (end_err (eqb (length tail) 0) i d e) ∙ p.shape

-- a fault of an item that doesn't pass is one of the arguments of its head
pub record OfArguments (text : List ℕ) (d : FirstFault) : Type 0 where
  pub head : Head
  pub texts : List (List ℕ)
  pub tail : List ℕ
  pub parts : text ≡ name_of head ++ (40 ∷ (join_with_byte 44 texts ++ (41 ∷ tail)))
  pub said : event_at head texts ≡ Err d

abbrev PassesOr : (FirstFault → Bool) → List ℕ → FirstFault → Type 0
PassesOr q text d = (q d ≡ true) ⊎ OfArguments text d

after_bracket_err : (q : FirstFault → Bool) → Passes q → (text name rest : List ℕ) (h : Head) (d : FirstFault)
    → text ≡ name ++ (40 ∷ rest) → name_of h ≡ name → after_bracket h rest ≡ Err d → PassesOr q text d
after_bracket_err q p text name rest h d at is e =
    elim (bind_err (need faults.Shape (args_and_tail h rest))
    (λ args. event_at h args.0 >>= λ s. ended s args.1) d e) as (λ _. PassesOr q text d) [
      | inl g ↦ inl (ap q (need_err faults.Shape (args_and_tail h rest) d g) ∙ p.shape)
      | inr g ↦ elim (bind_err (event_at h g.0.0) (λ s. ended s g.0.1) d g.2) as (λ _. PassesOr q text d) [
        | inl k ↦ inr (record {
          head = h;
          texts = g.0.0;
          tail = g.0.1;
          parts = at ∙ ap (λ (n : List ℕ). n ++ (40 ∷ rest)) (sym is) ∙ ap (λ (r : List ℕ). name_of h ++ (40 ∷ r))
              (args_and_tail_takes h rest g.0 (need_ok faults.Shape (args_and_tail h rest) g.0 g.1));
          said = k;
        })
        | inr k ↦ inl (ended_passes q p k.0 g.0.1 d k.2)
      ]
    ]

item_err : (q : FirstFault → Bool) → Passes q → (text : List ℕ) (d : FirstFault) → item_at text ≡ Err d
    → PassesOr q text d
unfolding item_at
item_err q p text d e =
    elim (bind_err (need faults.Shape (cut_at_byte 40 text))
    (λ cut. need faults.Shape (head_named cut.0) >>= λ h. after_bracket h cut.1) d e) as (λ _. PassesOr q text d) [
      | inl g ↦ inl (ap q (need_err faults.Shape (cut_at_byte 40 text) d g) ∙ p.shape)
      | inr g ↦ elim (bind_err (need faults.Shape (head_named g.0.0))
          (λ h. after_bracket h g.0.1) d g.2) as (λ _. PassesOr q text d) [
            | inl k ↦ inl (ap q (need_err faults.Shape (head_named g.0.0) d k) ∙ p.shape)
            | inr k ↦ after_bracket_err q p text g.0.0 g.0.1 k.0 d
                (cut_takes 40 text g.0 (need_ok faults.Shape (cut_at_byte 40 text) g.0 g.1))
                (head_takes g.0.0 k.0 (need_ok faults.Shape (head_named g.0.0) k.0 k.1)).0 k.2
          ]
    ]

every_slot : (q : FirstFault → Bool) → Passes q → q faults.Right ≡ true → (ss : List Slot) → passes_slots q ss ≡ true
every_slot q p r [] = refl
every_slot q p r (rights ∷ ss) = rw (r, every_slot q p r ss) refl
every_slot q p r (free ∷ ss) = rw (p.shape, every_slot q p r ss) refl
every_slot q p r (s ∷ ss) = rw (p.argument, every_slot q p r ss) refl

item_passes : (q : FirstFault → Bool) → Passes q → q faults.Right ≡ true → (text : List ℕ) (d : FirstFault)
    → item_at text ≡ Err d → q d ≡ true
item_passes q p r text d e =
    elim (item_err q p text d e) as (λ _. q d ≡ true) [
      | inl h ↦ h
      | inr h ↦ event_err q p.argument h.head h.texts d (every_slot q p r (slots_in (shape_of h.head h.texts))) h.said
    ]

-- ---- the length

in_length : FirstFault → Bool
in_length faults.LongLine = false
in_length f = true

in_passes : Passes in_length
unfolding in_length
in_passes = record { shape = refl; argument = refl; answer = refl }

entry_in : (bytes : List ℕ) (o : Option (List ℕ × List ℕ)) (d : FirstFault) → entry_at bytes o ≡ Err d
    → in_length d ≡ true
unfolding entry_at in_length
entry_in bytes None d e =
    elim (bind_err (pid_at bytes) (λ _. Err faults.Shape) d e) as (λ _. in_length d ≡ true) [
      | inl h ↦ ap in_length (pid_err bytes d h)
      | inr h ↦ ap in_length (sym (err_is {A = Entry} faults.Shape d h.2))
    ]
entry_in bytes (Some cut) d e =
    elim (bind_err (pid_at cut.0)
    (λ pid. item_at cut.1 >>= λ item. Ok (record { pid = pid; item = item })) d e) as (λ _. in_length d ≡ true) [
      | inl h ↦ ap in_length (pid_err cut.0 d h)
      | inr h ↦ (let make : Item → Entry = λ item. record { pid = h.0; item = item } in
          item_passes in_length in_passes refl cut.1 d (made_err (item_at cut.1) make d h.2))
    ]

long_step : (bytes : List ℕ) (b : Bool) → ltb 1024 (length bytes) ≡ b
    → cond b (Err faults.LongLine) (entry_at bytes (cut_at_byte 32 bytes)) ≡ Err faults.LongLine → 1024 < length bytes
unfolding in_length
long_step bytes true at e = ltb-true _ _ at
long_step bytes false at e = absurd (let no = entry_in bytes (cut_at_byte 32 bytes) faults.LongLine e in cc)

long_err : (bytes : List ℕ) → line_of bytes ≡ Err faults.LongLine → 1024 < length bytes
unfolding line_of
long_err bytes e = long_step bytes (ltb 1024 (length bytes)) refl e

long_line : (bytes : List ℕ) → 1024 < length bytes → line_of bytes ≡ Err faults.LongLine
unfolding line_of
long_line bytes lt = rw (lt-ltb _ _ lt) refl

pub too_long : LongLineExactly
too_long = λ bytes. (
  λ h. long_err bytes (fault_err (line_of bytes) faults.LongLine h),
  λ lt. err_fault bytes faults.LongLine (long_line bytes lt),
)

-- ---- the pid

pub short_line : (bytes : List ℕ) → length bytes ≤ 1024 → line_of bytes ≡ entry_at bytes (cut_at_byte 32 bytes)
unfolding line_of
short_line bytes le = rw (le-ltb _ _ le) refl

after_pid : FirstFault → Bool
after_pid faults.LongLine = false
after_pid faults.Pid = false
after_pid f = true

after_passes : Passes after_pid
unfolding after_pid
after_passes = record { shape = refl; argument = refl; answer = refl }

no_pid : (t : List ℕ) → pid_at t ≡ Err faults.Pid → SpellsNoPid t
no_pid t e = λ p is at. absurd (let none = e in let some = ap pid_at at ∙ pid_again p is in cc)

pid_fails : (t : List ℕ) (r : Result ℕ FirstFault) → pid_at t ≡ r → SpellsNoPid t → r ≡ Err faults.Pid
pid_fails t (Ok p) e none = let k = pid_takes t p e in absurd (none p k.1 k.0)
pid_fails t (Err d) e none = ap Err (pid_err t d e)

-- what is before the first space
abbrev Before : List ℕ → List ℕ → Type 0
Before bytes t = before_first (λ c. eqb c 32) bytes ≡ t

cut_first : (bytes : List ℕ) (b : Bool) (o : Option (List ℕ × List ℕ))
    → ltb (position_or_len (λ c. eqb c 32) bytes) (length bytes) ≡ b
    → around bytes (cond b (Some (position_or_len (λ c. eqb c 32) bytes)) None) ≡ o
    → elim o as (λ _. Type 0) [ None ↦ Before bytes bytes | Some cut ↦ Before bytes cut.0 ]
cut_first bytes true None at e = absurd cc
cut_first bytes true (Some cut) at e = (let e2 = e in cc)
cut_first bytes false (Some cut) at e = absurd cc
cut_first bytes false None at e = take_all (position_or_len (λ c. eqb c 32) bytes) bytes (ltb-false _ _ at)

first_none : (bytes : List ℕ) → cut_at_byte 32 bytes ≡ None → Before bytes bytes
first_none bytes e = cut_first bytes (ltb (position_or_len (λ c. eqb c 32) bytes) (length bytes)) None refl e

first_some : (bytes : List ℕ) (cut : List ℕ × List ℕ) → cut_at_byte 32 bytes ≡ Some cut → Before bytes cut.0
first_some bytes cut e = cut_first bytes (ltb (position_or_len (λ c. eqb c 32) bytes) (length bytes)) (Some cut) refl e

pid_found : (bytes : List ℕ) (o : Option (List ℕ × List ℕ)) → cut_at_byte 32 bytes ≡ o
    → entry_at bytes o ≡ Err faults.Pid → SpellsNoPid (before_first (λ c. eqb c 32) bytes)
unfolding entry_at after_pid
pid_found bytes None at e =
    elim (bind_err (pid_at bytes) (λ _. Err faults.Shape) faults.Pid e) as (λ _. SpellsNoPid
    (before_first (λ c. eqb c 32) bytes)) [
      | inl h ↦ subst SpellsNoPid (sym (first_none bytes at)) (no_pid bytes h)
      | inr h ↦ absurd (let no = h.2 in cc)
    ]
pid_found bytes (Some cut) at e =
    elim (bind_err (pid_at cut.0) (λ pid. item_at cut.1 >>= λ item. Ok (record { pid = pid; item = item })) faults.Pid
    e) as (λ _. SpellsNoPid (before_first (λ c. eqb c 32) bytes)) [
      | inl h ↦ subst SpellsNoPid (sym (first_some bytes cut at)) (no_pid cut.0 h)
      | inr h ↦ (let make : Item → Entry = λ item. record { pid = h.0; item = item } in absurd (let no = item_passes
          after_pid after_passes refl cut.1 faults.Pid (made_err (item_at cut.1) make faults.Pid h.2) in cc))
    ]

pid_missing : (bytes : List ℕ) (o : Option (List ℕ × List ℕ)) → cut_at_byte 32 bytes ≡ o
    → SpellsNoPid (before_first (λ c. eqb c 32) bytes) → entry_at bytes o ≡ Err faults.Pid
unfolding entry_at
pid_missing bytes None at none =
    rw (pid_fails bytes (pid_at bytes) refl (subst SpellsNoPid (first_none bytes at) none)) refl
pid_missing bytes (Some cut) at none =
    rw (pid_fails cut.0 (pid_at cut.0) refl (subst SpellsNoPid (first_some bytes cut at) none)) refl

short_step : (bytes : List ℕ) (b : Bool) (d : FirstFault) → ltb 1024 (length bytes) ≡ b → in_length d ≡ true
    → cond b (Err faults.LongLine) (entry_at bytes (cut_at_byte 32 bytes)) ≡ Err d
    → (length bytes ≤ 1024) × (entry_at bytes (cut_at_byte 32 bytes) ≡ Err d)
unfolding in_length
short_step bytes true d at ok e =
    absurd (let same = err_is {A = Entry} faults.LongLine d e in let no = ap in_length same ∙ ok in cc)
short_step bytes false d at ok e = (ltb-false _ _ at, e)

short_err : (bytes : List ℕ) (d : FirstFault) → in_length d ≡ true → line_of bytes ≡ Err d
    → (length bytes ≤ 1024) × (entry_at bytes (cut_at_byte 32 bytes) ≡ Err d)
unfolding line_of
short_err bytes d ok e = short_step bytes (ltb 1024 (length bytes)) d refl ok e

pid_exact : (bytes : List ℕ) → line_of bytes ≡ Err faults.Pid
    → (length bytes ≤ 1024) × SpellsNoPid (before_first (λ c. eqb c 32) bytes)
unfolding in_length
pid_exact bytes e = let k = short_err bytes faults.Pid refl e in (k.0, pid_found bytes (cut_at_byte 32 bytes) refl k.1)

pub pid_exactly : PidExactly
pid_exactly = λ bytes. (
  λ h. pid_exact bytes (fault_err (line_of bytes) faults.Pid h),
  λ h. err_fault bytes faults.Pid (short_line bytes h.0 ∙ pid_missing bytes (cut_at_byte 32 bytes) refl h.1),
)

-- ---- rights

no_right : FirstFault → Bool
no_right faults.Right = false
no_right f = true

right_passes : Passes no_right
unfolding no_right
right_passes = record { shape = refl; argument = refl; answer = refl }

command_passes : (a b c : Bool) (x y z w : List Slot) → passes_slots no_right x ≡ true → passes_slots no_right y ≡ true
    → passes_slots no_right z ≡ true → passes_slots no_right w ≡ true
    → passes_slots no_right (cond a x (cond b y (cond c z w))) ≡ true
command_passes true b c x y z w h i j k = h
command_passes false true c x y z w h i j k = i
command_passes false false true x y z w h i j k = j
command_passes false false false x y z w h i j k = k

fcntl_passes : (ts : List (List ℕ)) → passes_slots no_right (fcntl_shape ts) ≡ true
unfolding no_right
fcntl_passes [] = refl
fcntl_passes (a ∷ []) = refl
fcntl_passes (a ∷ w ∷ []) = refl
fcntl_passes (a ∷ w ∷ b ∷ more) = command_passes (bytes_eq w (codes "F_SETFD")) (bytes_eq w (codes "F_DUP2FD"))
    (bytes_eq w (codes "F_DUP2FD_CLOEXEC")) _ _ _ _ refl refl refl refl

send_passes : (ts : List (List ℕ)) → passes_slots no_right (send_shape ts) ≡ true
unfolding no_right
send_passes [] = refl
send_passes (a ∷ []) = refl
send_passes (a ∷ b ∷ more) = refl

RightsOr : Head → Type 0
RightsOr h = ((f : Form) × (h ≡ listed f) × (has_rights f ≡ true))
    ⊎ ((ts : List (List ℕ)) → passes_slots no_right (slots_in (shape_of h ts)) ≡ true)

rights_or : (h : Head) → RightsOr h
unfolding RightsOr no_right
rights_or (listed forms.RightsLimit) = inl (forms.RightsLimit, refl, refl)
rights_or (listed (forms.Needs m)) = inl (forms.Needs m, refl, refl)
rights_or (listed (forms.Send c)) = inr send_passes
rights_or (listed forms.Fcntl) = inr fcntl_passes
rights_or h = inr (λ ts. refl)

-- a descriptor and rights that are wrong
pub record NoRights (texts : List (List ℕ)) : Type 0 where
  pub fd : ℕ
  pub rights : List ℕ
  pub is_fd : IsFd fd
  pub unnamed : names rights ≡ None
  pub parts : texts ≡ decimal fd ∷ rights ∷ []

need_none : {A : Type 0} (c d : FirstFault) (o : Option A) → need c o ≡ Err d → o ≡ None
need_none c d None e = refl
need_none c d (Some x) e = absurd cc

counted_two : (b : Bool) (r : Result Event FirstFault) → cond b r (Err faults.Argument) ≡ Err faults.Right
    → (b ≡ true) × (r ≡ Err faults.Right)
counted_two true r e = (refl, e)
counted_two false r e = absurd cc

no_rights_here : (t u : List ℕ)
    → (arg_at fd t >>= λ a. (arg_at rights u >>= λ b. (Ok [] >>= λ more. Ok (b ∷ more))) >>= λ others. Ok (a ∷ others))
    ≡ Err faults.Right → NoRights (t ∷ u ∷ [])
unfolding arg_at rights_at
no_rights_here t u e =
    elim (bind_err (arg_at fd t) (λ a. (arg_at rights u >>= λ b. (Ok [] >>= λ more. Ok (b ∷ more)))
    >>= λ others. Ok (a ∷ others)) faults.Right e) as (λ _. NoRights (t ∷ u ∷ [])) [
      | inl h ↦ absurd (let no = arg_err fd t faults.Right h in cc)
      | inr h ↦ elim (bind_err (arg_at rights u) (λ b. (Ok [] >>= λ more. Ok (b ∷ more))) faults.Right
          (made_err (arg_at rights u >>= λ b. (Ok [] >>= λ more. Ok (b ∷ more)))
          (λ others. h.0 ∷ others) faults.Right h.2)) as (λ _. NoRights (t ∷ u ∷ [])) [
            | inl g ↦ let f = bind_made (fd_at t) (λ x. an_fd x) h.0 h.1 in
                let k = fd_takes t f.0 f.1 in
                record {
                  fd = f.0;
                  rights = u;
                  is_fd = k.1;
                  unnamed = need_none faults.Right faults.Right (names u)
                      (made_err (rights_at u) (λ x. some_rights x) faults.Right g);
                  parts = ap (λ (x : List ℕ). x ∷ u ∷ []) k.0;
                }
            | inr g ↦ absurd (let no = g.2 in cc)
          ]
    ]

rights_args : (ts : List (List ℕ)) → length ts ≡ 2 → args_at (fd ∷ rights ∷ []) ts ≡ Err faults.Right → NoRights ts
unfolding args_at
rights_args [] n e = absurd (omega arith)
rights_args (t ∷ []) n e = absurd (omega arith)
rights_args (t ∷ u ∷ []) n e = no_rights_here t u e
rights_args (t ∷ u ∷ v ∷ more) n e = absurd (omega arith)

rights_shaped : (h : Head) (ts : List (List ℕ)) → shaped h (these (fd ∷ rights ∷ [])) ts ≡ Err faults.Right → NoRights ts
rights_shaped h ts e =
    let k = counted_two (eqb (length ts) 2) (args_at (fd ∷ rights ∷ []) ts >>= λ given. built h given) e in
    elim (bind_err (args_at (fd ∷ rights ∷ []) ts) (λ given. built h given) faults.Right k.1) as (λ _. NoRights ts) [
      | inl h ↦ rights_args ts (eqb-true _ _ k.0) h
      | inr g ↦ absurd (let no = built_err h g.0 faults.Right g.2 in cc)
    ]

rights_event : (f : Form) (ts : List (List ℕ)) → has_rights f ≡ true → event_at (listed f) ts ≡ Err faults.Right
    → NoRights ts
unfolding event_at
rights_event forms.RightsLimit ts h e = rights_shaped (listed forms.RightsLimit) ts e
rights_event (forms.Needs m) ts h e = rights_shaped (listed (forms.Needs m)) ts e
rights_event f ts h e = absurd (let no = h in cc)

rights_parts : (bytes text : List ℕ) (p : ℕ) → IsPid p → bytes ≡ decimal p ++ (32 ∷ text)
    → (a : OfArguments text faults.Right) (f : Form)
    → a.head ≡ listed f → has_rights f ≡ true → NoRights a.texts → HasNoRights bytes
rights_parts bytes text p is at a f head asks n =
    record {
      pid = p;
      form = f;
      fd = n.fd;
      rights = n.rights;
      rest = a.tail;
      is_pid = is;
      asks = asks;
      is_fd = n.is_fd;
      unnamed = n.unnamed;
      parts = at ∙ ap (λ (s : List ℕ). decimal p ++ (32 ∷ s)) (a.parts
          ∙ ap (λ (h : Head). name_of h ++ (40 ∷ (join_with_byte 44 a.texts ++ (41 ∷ a.tail)))) head
          ∙ ap (λ (ts : List (List ℕ)). name_of (listed f) ++ (40 ∷ (join_with_byte 44 ts ++ (41 ∷ a.tail))))
          n.parts
          ∙ ap (λ (s : List ℕ). name_of (listed f) ++ (40 ∷ s))
          (append_assoc (decimal n.fd) (44 ∷ n.rights) (41 ∷ a.tail)));
    }

right_item : (bytes text : List ℕ) (p : ℕ) → IsPid p → bytes ≡ decimal p ++ (32 ∷ text)
    → item_at text ≡ Err faults.Right → HasNoRights bytes
unfolding RightsOr no_right
right_item bytes text p is at e =
    elim (item_err no_right right_passes text faults.Right e) as (λ _. HasNoRights bytes) [
      | inl h ↦ absurd (let no = h in cc)
      | inr a ↦ elim (rights_or a.head) as (λ _. HasNoRights bytes) [
        | inl h ↦ rights_parts bytes text p is at a h.0 h.1 h.2
            (rights_event h.0 a.texts h.2 (ap (λ (g : Head). event_at g a.texts) (sym h.1) ∙ a.said))
        | inr h ↦ absurd (let no = event_err no_right refl a.head a.texts faults.Right (h a.texts) a.said in cc)
      ]
    ]

right_entry : (bytes : List ℕ) (o : Option (List ℕ × List ℕ)) → cut_at_byte 32 bytes ≡ o
    → entry_at bytes o ≡ Err faults.Right → HasNoRights bytes
unfolding entry_at
right_entry bytes None at e =
    elim (bind_err (pid_at bytes) (λ _. Err faults.Shape) faults.Right e) as (λ _. HasNoRights bytes) [
      | inl h ↦ absurd (let no = pid_err bytes faults.Right h in cc)
      | inr h ↦ absurd (let no = h.2 in cc)
    ]
right_entry bytes (Some cut) at e =
    elim (bind_err (pid_at cut.0) (λ pid. item_at cut.1 >>= λ item. Ok (record { pid = pid; item = item })) faults.Right
    e) as (λ _. HasNoRights bytes) [
      | inl h ↦ absurd (let no = pid_err cut.0 faults.Right h in cc)
      | inr h ↦ (let make : Item → Entry = λ item. record { pid = h.0; item = item } in
          let p = pid_takes cut.0 h.0 h.1 in
          right_item bytes cut.1 h.0 p.1 (cut_takes 32 bytes cut at ∙ ap (λ (d : List ℕ). d ++ (32 ∷ cut.1)) p.0)
          (made_err (item_at cut.1) make faults.Right h.2))
    ]

right_line : (bytes : List ℕ) → line_of bytes ≡ Err faults.Right → HasNoRights bytes
unfolding in_length
right_line bytes e = right_entry bytes (cut_at_byte 32 bytes) refl (short_err bytes faults.Right refl e).1

pub right_only : RightOnlyOfRights
right_only = λ bytes h. right_line bytes (fault_err (line_of bytes) faults.Right h)
