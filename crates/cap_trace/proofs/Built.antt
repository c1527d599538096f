-- What a name says of its arguments has that name and these arguments, and is said of them again.
use Rattle.std.proofs.Common.{◌≡◌, ℕ, Bool, true, false, cond, eqb, List, [], ◌∷◌, length, Result, Ok, Err, refl, sym}
use Rattle.std.proofs.Common.{ap, subst, ◌∙◌, arith}
use Rattle.cap_trace.specs.declared.fault.FirstFault.{FirstFault}
use Rattle.cap_trace.specs.declared.fault.FirstFault.TheVariants as faults
use Rattle.cap_trace.specs.Item as items
use Rattle.cap_trace.specs.Call.{Call}
use Rattle.cap_trace.specs.Call as calls
use Rattle.cap_trace.specs.declared.calls.DupCommand.TheVariants as dup_commands
use Rattle.cap_trace.specs.declared.calls.Form.TheVariants as forms
use Rattle.cap_trace.specs.Names.{Head, listed, unlisted}
use Rattle.cap_trace.specs.declared.calls.NeedsMarker.{NeedsMarker}
use Rattle.cap_trace.specs.Entry.{Arg, an_fd, some_flags, some_rights, a_command, a_word, Word, dest, set_fd, dup_to}
use Rattle.cap_trace.specs.Entry.{fds}
use Rattle.cap_trace.specs.Entry.{args_of_call, args_of, head_of_call, head_of, RisesFrom}
use Rattle.cap_trace.specs.Spelling.{SpellsArgs, word_text}
use Rattle.cap_trace.specs.Forms.{Slot, Shape, these, rising_fds, Event, a_call, a_marker, built, shape_of}
use Rattle.cap_trace.specs.Reading.{◌>>=◌, args_at, fds_from, shaped, event_at}
use Rattle.cap_trace.proofs.Cuts.{eqb_same}
use Rattle.cap_trace.proofs.Numerals.{bind_ok}
use Rattle.cap_trace.proofs.Spelled.{bind_made, slot_of, slots_of, args_take, args_again, as_many, fds_take}
use Rattle.cap_trace.proofs.Spelled.{fds_again}

abbrev pub event_args : Event → List Arg
event_args (a_call c) = args_of_call c
event_args (a_marker i) = args_of i

abbrev pub event_head : Event → Head
event_head (a_call c) = head_of_call c
event_head (a_marker i) = head_of i

-- what a start says beyond its arguments
abbrev pub IsWholeEvent : Event → Type 0
IsWholeEvent (a_call c) = Unit {0}
IsWholeEvent (a_marker (items.Start fs)) = RisesFrom 0 fs
IsWholeEvent (a_marker (items.Call c a)) = ⊥
IsWholeEvent (a_marker items.Exit) = Unit {0}
IsWholeEvent (a_marker (items.Foreign f)) = Unit {0}
IsWholeEvent (a_marker (items.Needs m f r)) = Unit {0}
IsWholeEvent (a_marker items.Global) = Unit {0}

pub record Says (h : Head) (given : List Arg) (s : Event) : Type 0 where
  pub args : event_args s ≡ given
  pub head : event_head s ≡ h
  pub whole : IsWholeEvent s

args_or : List Arg → Result Event FirstFault → List Arg
args_or given (Ok s) = event_args s
args_or given (Err d) = given

head_or : Head → Result Event FirstFault → Head
head_or h (Ok s) = event_head s
head_or h (Err d) = h

-- only a start says more than its arguments
says_more : Result Event FirstFault → Bool
says_more (Ok (a_call c)) = false
says_more (Ok (a_marker (items.Start fs))) = true
says_more (Ok (a_marker (items.Call c a))) = true
says_more (Ok (a_marker items.Exit)) = false
says_more (Ok (a_marker (items.Foreign f))) = false
says_more (Ok (a_marker (items.Needs m f r))) = false
says_more (Ok (a_marker items.Global)) = false
says_more (Err d) = false

built_args : (h : Head) (given : List Arg) → args_or given (built h given) ≡ given
unfolding args_or
built_args (listed (forms.OnFd c)) given = grind arith
built_args (listed f) given = grind arith
built_args (unlisted n) given = grind arith

built_head : (h : Head) (given : List Arg) → head_or h (built h given) ≡ h
unfolding head_or
built_head (listed (forms.OnFd c)) given = grind arith
built_head (listed f) given = grind arith
built_head (unlisted n) given = grind arith

built_less : (h : Head) (given : List Arg) → says_more (built h given) ≡ false
unfolding says_more
built_less (listed (forms.OnFd c)) given = grind arith
built_less (listed f) given = grind arith
built_less (unlisted n) given = grind arith

whole_of : (s : Event) → says_more (Ok s) ≡ false → IsWholeEvent s
unfolding says_more
whole_of (a_call c) e = tt
whole_of (a_marker (items.Start fs)) e = absurd cc
whole_of (a_marker (items.Call c a)) e = absurd cc
whole_of (a_marker items.Exit) e = tt
whole_of (a_marker (items.Foreign f)) e = tt
whole_of (a_marker (items.Needs m f r)) e = tt
whole_of (a_marker items.Global) e = tt

built_takes : (h : Head) (given : List Arg) (s : Event) → built h given ≡ Ok s → Says h given s
unfolding args_or head_or
built_takes h given s e = record {
  args = sym (ap (args_or given) e) ∙ built_args h given;
  head = sym (ap (head_or h) e) ∙ built_head h given;
  whole = whole_of s (sym (ap says_more e) ∙ built_less h given);
}

-- ---- step 5

pub record Spelled (h : Head) (ts : List (List ℕ)) (s : Event) : Type 0 where
  pub args : SpellsArgs ts (event_args s)
  pub head : event_head s ≡ h
  pub whole : IsWholeEvent s

counted_ok : {A : Type 0} (b : Bool) (r : Result A FirstFault) (x : A) → cond b r (Err faults.Argument) ≡ Ok x
    → r ≡ Ok x
counted_ok true r x e = e
counted_ok false r x e = absurd cc

these_take : (h : Head) (ss : List Slot) (ts : List (List ℕ)) (s : Event) → shaped h (these ss) ts ≡ Ok s
    → Spelled h ts s
these_take h ss ts s e =
    let read = counted_ok (eqb (length ts) (length ss)) (args_at ss ts >>= λ given. built h given) s e in
    let given = bind_ok (args_at ss ts) (λ given. built h given) s read in
    let says = built_takes h given.0 s given.2 in
    record {
      args = subst (λ (x : List Arg). SpellsArgs ts x) (sym says.args) (args_take ss ts given.0 given.1);
      head = says.head;
      whole = says.whole;
    }

start_takes : (ts : List (List ℕ)) (s : Event) → shaped (listed forms.Start) rising_fds ts ≡ Ok s
    → Spelled (listed forms.Start) ts s
start_takes ts s e =
    let fs = bind_made (fds_from 0 ts) (λ fs. a_marker (items.Start fs)) s e in
    let p = fds_take 0 ts fs.0 fs.1 in
    subst (λ (x : Event). Spelled (listed forms.Start) ts x) fs.2 (record { args = p.0; head = refl; whole = p.1 })

abbrev pub slots_in : Shape → List Slot
slots_in (these ss) = ss
slots_in rising_fds = []

pub event_takes : (h : Head) (ts : List (List ℕ)) (s : Event) → event_at h ts ≡ Ok s → Spelled h ts s
unfolding event_at
event_takes (listed forms.Start) ts s e = start_takes ts s e
event_takes h ts s e = these_take h (slots_in (shape_of h ts)) ts s e

-- ---- the other way

these_again : (h : Head) (ts : List (List ℕ)) (given : List Arg) (s : Event) (ss : List Slot) → ss ≡ slots_of given
    → built h given ≡ Ok s → SpellsArgs ts given → shaped h (these ss) ts ≡ Ok s
these_again h ts given s ss same e h2 =
    let many : eqb (length ts) (length (slots_of given)) ≡ true =
    rw (as_many ts given h2) (eqb_same (length (slots_of given))) in
    ap (λ (x : List Slot). shaped h (these x) ts) same ∙ rw (many, args_again ts given h2) e

-- a command that asks for a third argument
command_again : (w : Word) (x : ℕ) (b : Arg) (s : Event)
    → built (listed forms.Fcntl) (an_fd x ∷ a_word w ∷ b ∷ []) ≡ Ok s
    → ((t v : List ℕ) → event_at (listed forms.Fcntl) (t ∷ word_text w ∷ v ∷ [])
    ≡ shaped (listed forms.Fcntl) (these (slots_of (an_fd x ∷ a_word w ∷ b ∷ []))) (t ∷ word_text w ∷ v ∷ []))
    → (ts : List (List ℕ)) → SpellsArgs ts (an_fd x ∷ a_word w ∷ b ∷ []) → event_at (listed forms.Fcntl) ts ≡ Ok s
command_again w x b s e same [] h = absurd h
command_again w x b s e same (t ∷ []) h = absurd h.1
command_again w x b s e same (t ∷ u ∷ []) h = absurd h.1.1
command_again w x b s e same (t ∷ u ∷ v ∷ []) h =
    ap (λ (y : List ℕ). event_at (listed forms.Fcntl) (t ∷ y ∷ v ∷ [])) h.1.0 ∙ same t v
    ∙ these_again (listed forms.Fcntl) (t ∷ word_text w ∷ v ∷ []) (an_fd x ∷ a_word w ∷ b ∷ []) s _ refl e
    (h.0, (refl, h.1.1))
command_again w x b s e same (t ∷ u ∷ v ∷ z ∷ ts) h = absurd h.1.1.1

pub call_again : (c : Call) (ts : List (List ℕ)) → SpellsArgs ts (args_of_call c)
    → event_at (head_of_call c) ts ≡ Ok (a_call c)
unfolding event_at slot_of
call_again (calls.Send c x) [] h = absurd h
call_again (calls.Send c x) (t ∷ []) h =
    these_again (listed (forms.Send c)) (t ∷ []) (an_fd x ∷ []) (a_call (calls.Send c x)) _ refl refl h
call_again (calls.Send c x) (t ∷ u ∷ ts) h = absurd h.1
call_again (calls.SendTo c x) [] h = absurd h
call_again (calls.SendTo c x) (t ∷ []) h = absurd h.1
call_again (calls.SendTo c x) (t ∷ u ∷ ts) h = these_again (listed (forms.Send c)) (t ∷ u ∷ ts)
    (an_fd x ∷ a_word dest ∷ []) (a_call (calls.SendTo c x)) _ refl refl h
call_again (calls.Fcntl x y) [] h = absurd h
call_again (calls.Fcntl x y) (t ∷ []) h = absurd h.1
call_again (calls.Fcntl x y) (t ∷ u ∷ []) h =
    these_again (listed forms.Fcntl) (t ∷ u ∷ []) (an_fd x ∷ a_command y ∷ []) (a_call (calls.Fcntl x y)) _ refl refl h
call_again (calls.Fcntl x y) (t ∷ u ∷ v ∷ ts) h = absurd h.1.1
call_again (calls.FcntlSetFd x y) ts h = command_again set_fd x (some_flags y) _ refl (λ t v. refl) ts h
call_again (calls.FcntlDup dup_commands.FDup2fd x y) ts h =
    command_again (dup_to dup_commands.FDup2fd) x (an_fd y) _ refl (λ t v. refl) ts h
call_again (calls.FcntlDup dup_commands.FDup2fdCloexec x y) ts h =
    command_again (dup_to dup_commands.FDup2fdCloexec) x (an_fd y) _ refl (λ t v. refl) ts h
call_again c ts h = these_again (head_of_call c) ts (args_of_call c) (a_call c) _ refl refl h

pub start_again : (fs : List ℕ) (ts : List (List ℕ)) → SpellsArgs ts (fds fs) → RisesFrom 0 fs
    → event_at (listed forms.Start) ts ≡ Ok (a_marker (items.Start fs))
unfolding event_at
start_again fs ts h r = rw (fds_again 0 ts fs h r) refl

pub exit_again : (ts : List (List ℕ)) → SpellsArgs ts [] → event_at (listed forms.Exit) ts ≡ Ok (a_marker items.Exit)
unfolding event_at
exit_again ts h = these_again (listed forms.Exit) ts [] (a_marker items.Exit) _ refl refl h

pub foreign_again : (f : ℕ) (ts : List (List ℕ)) → SpellsArgs ts (an_fd f ∷ [])
    → event_at (listed forms.Foreign) ts ≡ Ok (a_marker (items.Foreign f))
unfolding event_at slot_of
foreign_again f ts h = these_again (listed forms.Foreign) ts (an_fd f ∷ []) (a_marker (items.Foreign f)) _ refl refl h

pub needs_again : (m : NeedsMarker) (f r : ℕ) (ts : List (List ℕ)) → SpellsArgs ts (an_fd f ∷ some_rights r ∷ [])
    → event_at (listed (forms.Needs m)) ts ≡ Ok (a_marker (items.Needs m f r))
unfolding event_at slot_of
needs_again m f r ts h =
    these_again (listed (forms.Needs m)) ts (an_fd f ∷ some_rights r ∷ []) (a_marker (items.Needs m f r)) _ refl refl h

pub global_again : (ts : List (List ℕ)) → SpellsArgs ts []
    → event_at (listed forms.Global) ts ≡ Ok (a_marker items.Global)
unfolding event_at
global_again ts h = these_again (listed forms.Global) ts [] (a_marker items.Global) _ refl refl h
