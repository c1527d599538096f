-- The descriptors that a line takes from, that an effect has one by one, and that are checked, stand in the line.
use Rattle.std.proofs.Common.{◌≡◌, ℕ, ◌+◌, ◌<◌, ◌==◌, ◌&&◌, ◌||◌, nat_le, Bool, true, false, if◌then◌else◌}
use Rattle.std.proofs.Common.{List, [], ◌∷◌, Option, Some, None, refl, ap, sym, ◌∙◌, subst, arith, suc}
use Rattle.std.specs.List.{list_any, All}
use Rattle.std.proofs.lemmas.Bool.{ne_eqb, eqb-true, or_left, or_right, or_from, or_cases, and_from, and_right}
use Rattle.std.proofs.lemmas.Bool.{cases_Bool, true_from_ne_false}
use Rattle.std.proofs.lemmas.Bool.Decides.{nat_tests}
use Rattle.std.proofs.lemmas.List.Elements.{All-cons, All-nil}
use Rattle.std.proofs.Math.Logic.{⊎_elim}
use Rattle.cap_trace.specs.Views.{fds_spelled}
use Rattle.cap_trace.specs.Item.{Item}
use Rattle.cap_trace.specs.Item as items
use Rattle.cap_trace.specs.Call.{Call}
use Rattle.cap_trace.specs.Call as calls
use Rattle.cap_trace.specs.declared.line.Dir.{Dir}
use Rattle.cap_trace.specs.declared.line.Dir.TheVariants as dirs
use Rattle.cap_trace.specs.declared.line.Answer.{Answer}
use Rattle.cap_trace.specs.declared.calls.FdCall.{FdCall}
use Rattle.cap_trace.specs.declared.calls.FdCall.TheVariants.{Closefrom}
use Rattle.cap_trace.specs.Entry.{args_of, args_of_call, fds}
use Rattle.cap_machine.specs.declared.cell.Profile.{Profile}
use Rattle.cap_machine.specs.declared.cell.OnExec.TheVariants as flags
use Rattle.cap_machine.specs.declared.cell.Cell.{Cell}
use Rattle.cap_machine.specs.declared.cell.Cell.TheVariants.{Unknown, Closed, Held}
use Rattle.cap_machine.specs.declared.cell.Op.{Op}
use Rattle.cap_machine.specs.declared.step.Step.{Step}
use Rattle.cap_machine.specs.declared.rule.Check.{Check}
use Rattle.cap_machine.specs.declared.rule.Effect.{Effect}
use Rattle.cap_machine.specs.declared.rule.Effect.TheVariants as effects
use Rattle.cap_rights.specs.Rights.{all}
use Rattle.cap_machine.specs.Op.{same, exec}
use Rattle.cap_machine.specs.Places.{place, is_empty, is_absolute, dir_fd}
use Rattle.cap_machine.specs.Needs.{at_needs, at_flags_needs, symlink_needs, fcntl_needs}
use Rattle.cap_machine.specs.Needs.{rename_from_needs, rename_to_needs, link_from_needs, link_to_needs}
use Rattle.cap_machine.specs.Touch.{Touch, kept, given, taken, touch, item_touch, started}
use Rattle.cap_machine.specs.Effect.{effect_touch}
use Rattle.cap_machine.specs.Rule.{call_requirement, item_requirement, fd_requirement, fcntl_requirement, place_check}
use Rattle.cap_machine.specs.Rule.{both, check_of}
use Rattle.cap_machine.specs.Judge.{listed}
use Rattle.cap_machine.specs.Named.{dir_names, arg_names, item_answer_names, names_fd, NamedSources, NamedEffects}
use Rattle.cap_machine.specs.Named.{NamedChecks}
use Rattle.cap_machine.proofs.LineEffects.{itself, leading, FdsNamed, item_done}
use Rattle.cap_machine.proofs.Naming.{apart, single_unnamed}

latter : (a b : Bool) → (a && b) ≡ true → b ≡ true
latter true b is = is
latter false b is = absurd (cc)

-- ---- what an effect says of one descriptor

-- what a touch of descriptor f by a line of process me says, where the line names descriptors so
abbrev Names : (ℕ → Bool) → ℕ → ℕ → Touch → Type 0
Names named me f kept = Unit {0}
Names named me f (given Unknown) = Unit {0}
Names named me f (given Closed) = Unit {0}
Names named me f (given (Held rights flag)) = named f ≡ true
Names named me f (taken op q g) = (q ≡ me) × ((f == g) ≡ false → (named f ≡ true) × (named g ≡ true))

module _ (named : ℕ → Bool) (me p f : ℕ) where
  if_names : (b : Bool) (t u : Touch) → (b ≡ true → Names named me f t) → Names named me f u
      → Names named me f (if b then t else u)
  if_names true t u holds other = holds refl
  if_names false t u holds other = other

  -- from its own cell
  own_names : (op : Op) → Names named me f (taken op me f)
  own_names op = (refl, λ other. absurd (let same = itself f in cc))

  given_names : (c : Cell) → named f ≡ true → Names named me f (given c)
  given_names (Held rights flag) is = is
  given_names _ is = tt

  is_named : (g : ℕ) → named g ≡ true → (f == g) ≡ true → named f ≡ true
  is_named g is same = ap named (eqb-true f g same) ∙ is

  start_names : (b : Bool) → (b ≡ true → named f ≡ true)
      → Names named me f (given (if b then Held all flags.Unsure else Closed))
  start_names true holds = holds refl
  start_names false holds = tt

  effect_names : (effect : Effect) → FdsNamed named effect → Names named me f (effect_touch effect me p f)
  effect_names effects.Keep are = tt
  effect_names effects.Enter are = tt
  effect_names (effects.Start fs) are = absurd are
  effect_names effects.Exit are = if_names (p == me) (given Unknown) kept (λ _. tt) tt
  effect_names effects.Forget are = if_names (p == me) (given Unknown) kept (λ _. tt) tt
  effect_names effects.Exec are = if_names (p == me) (taken exec me f) kept (λ _. own_names exec) tt
  effect_names (effects.CloseFrom n) are = if_names (p == me && nat_le n f) (given Closed) kept (λ _. tt) tt
  effect_names (effects.Give g c) are =
      if_names (p == me && f == g) (given c) kept (λ is. given_names c (is_named g are (latter (p == me) _ is))) tt
  effect_names (effects.GiveTwo g h c) are =
      if_names (p == me && (f == g || f == h)) (given c) kept
      (λ is. given_names c (⊎_elim (is_named g are.0) (is_named h are.1) (or_cases _ _ (latter (p == me) _ is)))) tt
  effect_names (effects.Change g op h) are =
      if_names (p == me && f == g) (taken op me h) kept
      (λ is. (refl, λ other. (is_named g are.0 (latter (p == me) _ is), are.1))) tt
  effect_names (effects.Fork child) are = if_names (p == child) (taken same me f) kept (λ _. own_names same) tt
  effect_names (effects.ForkAs child g) are =
      if_names ((p == me || p == child) && f == g) (given Unknown) _ (λ _. tt)
      (if_names (p == child) (taken same me f) kept (λ _. own_names same) tt)

all_named : (fs : List ℕ) (f : ℕ) → list_any (λ g. f == g) fs ≡ true → list_any (arg_names f) (fds fs) ≡ true
all_named [] f is = is
all_named (g ∷ fs) f is = either (f == g) (list_any (λ g. f == g) fs) _ is (all_named fs f)
  where
    either : (a b c : Bool) → (a || b) ≡ true → (b ≡ true → c ≡ true) → (a || c) ≡ true
    either true b c is later = refl
    either false b c is later = later is

-- the descriptors that a line of this item names
abbrev named_by : Item → ℕ → Bool
named_by item f = list_any (arg_names f) (args_of item) || item_answer_names f item

item_named : (profile : Profile) (item : Item) (me p f : ℕ) → Names (named_by item) me f (item_touch profile item me p f)
item_named profile (items.Start fs) me p f =
    if_names (named_by (items.Start fs)) me p f (p == me) (given (started fs f)) kept
    (λ _. start_names (named_by (items.Start fs)) me p f (list_any (λ g. f == g) fs)
    (λ is. or_left _ false (all_named fs f is))) tt
item_named profile item me p f =
    let line = item_done profile item me tt in
    subst (Names (named_by item) me f) (line.does p f) (effect_names (named_by item) me p f line.effect line.fds)

touch_named : (step : Step) (p f : ℕ) → Names (λ g. names_fd g step.line) step.line.pid f (touch step p f)
touch_named step p f = item_named step.profile step.line.item step.line.pid p f

pub named_sources : NamedSources
named_sources step op p f q g is = subst (Names (λ g. names_fd g step.line) step.line.pid f) is (touch_named step p f)

-- ---- one by one

-- a test that both or neither of two descriptors pass
dropped : (b : Bool) (t u : Touch) → (t ≡ kept → ⊥) → (if b then t else kept) ≡ kept → (if b then u else kept) ≡ kept
dropped true t u never is = absurd (never is)
dropped false t u never is = refl

closed_dropped : (a c d : Bool) → (d ≡ true → c ≡ true) → (if a && c then given Closed else kept) ≡ kept
    → (if a && d then given Closed else kept) ≡ kept
closed_dropped false c d under is = refl
closed_dropped true c false under is = refl
closed_dropped true false true under is = absurd (let later = under refl in cc)
closed_dropped true true true under is = is

further : (g f h : ℕ) → f < h → nat_le g f ≡ true → nat_le g h ≡ true
further g f h lt is = grind (arith, nat_tests, lt, is)

child_dropped : (m b e : Bool) (t u : Touch) → (t ≡ kept → ⊥)
    → (if (m || b) && e then given Unknown else (if b then t else kept)) ≡ kept → (if b then u else kept) ≡ kept
child_dropped m false e t u never is = refl
child_dropped true true true t u never is = absurd (cc)
child_dropped false true true t u never is = absurd (cc)
child_dropped true true false t u never is = absurd (never is)
child_dropped false true false t u never is = absurd (never is)

-- an effect that leaves a descriptor touches one below it only where it is named
module _ (named : ℕ → Bool) (me p f h : ℕ) (lt : f < h) (none : named f ≡ false) where
  effect_dropped : (effect : Effect) → FdsNamed named effect → effect_touch effect me p h ≡ kept
      → effect_touch effect me p f ≡ kept
  effect_dropped effects.Keep are is = refl
  effect_dropped effects.Enter are is = refl
  effect_dropped (effects.Start fs) are is = absurd are
  effect_dropped effects.Exit are is = is
  effect_dropped effects.Forget are is = is
  effect_dropped effects.Exec are is = dropped (p == me) (taken exec me h) (taken exec me f) (λ e. cc) is
  effect_dropped (effects.CloseFrom n) are is = closed_dropped (p == me) (nat_le n h) (nat_le n f) (further n f h lt) is
  effect_dropped (effects.Fork child) are is = dropped (p == child) (taken same me h) (taken same me f) (λ e. cc) is
  effect_dropped (effects.ForkAs child g) are is =
      rw (and_right (p == me || p == child) (f == g) (apart named f g none are))
      (child_dropped (p == me) (p == child) (h == g) (taken same me h) (taken same me f) (λ e. cc) is)
  effect_dropped effect are is = single_unnamed named effect me p f tt are none

-- given, beside another descriptor that is taken: of a pdfork alone
abbrev is_given : Touch → Bool
is_given (given c) = true
is_given _ = false

abbrev is_taken : Touch → Bool
is_taken (taken op q g) = true
is_taken _ = false

never_given : (b : Bool) (op : Op) (q g : ℕ) → is_given (if b then taken op q g else kept) ≡ true → ⊥
never_given true op q g is = cc
never_given false op q g is = cc

never_taken : (b : Bool) (c : Cell) → is_taken (if b then given c else kept) ≡ true → ⊥
never_taken true c is = cc
never_taken false c is = cc

child_given : (m d b : Bool) (op : Op) (q g : ℕ)
    → is_given (if m && d then given Unknown else (if b then taken op q g else kept)) ≡ true → d ≡ true
child_given m true b op q g is = refl
child_given true false b op q g is = absurd (never_given b op q g is)
child_given false false b op q g is = absurd (never_given b op q g is)

module _ (named : ℕ → Bool) (me p f h : ℕ) where
  effect_beside : (effect : Effect) → FdsNamed named effect → is_given (effect_touch effect me p f) ≡ true
      → is_taken (effect_touch effect me p h) ≡ true → named f ≡ true
  effect_beside effects.Keep are is beside = absurd (cc)
  effect_beside effects.Enter are is beside = absurd (cc)
  effect_beside (effects.Start fs) are is beside = absurd are
  effect_beside effects.Exit are is beside = absurd (never_taken (p == me) Unknown beside)
  effect_beside effects.Forget are is beside = absurd (never_taken (p == me) Unknown beside)
  effect_beside effects.Exec are is beside = absurd (never_given (p == me) exec me f is)
  effect_beside (effects.CloseFrom n) are is beside = absurd (never_taken (p == me && nat_le n h) Closed beside)
  effect_beside (effects.Give g c) are is beside = absurd (never_taken (p == me && h == g) c beside)
  effect_beside (effects.GiveTwo g i c) are is beside = absurd (never_taken (p == me && (h == g || h == i)) c beside)
  effect_beside (effects.Change g op i) are is beside = absurd (never_given (p == me && f == g) op me i is)
  effect_beside (effects.Fork child) are is beside = absurd (never_given (p == child) same me f is)
  effect_beside (effects.ForkAs child g) are is beside =
      is_named named me p f g are (child_given (p == me || p == child) (f == g) (p == child) same me f is)

item_dropped : (profile : Profile) (item : Item) (me p f h : ℕ) → f < h → named_by item f ≡ false
    → item_touch profile item me p h ≡ kept → item_touch profile item me p f ≡ kept
item_dropped profile (items.Start fs) me p f h lt none is = dropped (p == me) (given (started fs h)) _ (λ e. cc) is
item_dropped profile item me p f h lt none is =
    let line = item_done profile item me tt in
    sym (line.does p f)
    ∙ effect_dropped (named_by item) me p f h lt none line.effect line.fds (line.does p h ∙ is)

item_beside : (profile : Profile) (item : Item) (me p f h : ℕ) → is_given (item_touch profile item me p f) ≡ true
    → is_taken (item_touch profile item me p h) ≡ true → named_by item f ≡ true
item_beside profile (items.Start fs) me p f h is beside = absurd (never_taken (p == me) (started fs h) beside)
item_beside profile item me p f h is beside =
    let line = item_done profile item me tt in
    effect_beside (named_by item) me p f h line.effect line.fds (ap is_given (line.does p f) ∙ is)
    (ap is_taken (line.does p h) ∙ beside)

-- a step that leaves a descriptor touches one below it only where the line names that
named_alone : (step : Step) (p f h : ℕ) (t : Touch) → (t ≡ kept → ⊥) → f < h → touch step p h ≡ kept
    → touch step p f ≡ t → names_fd f step.line ≡ true
named_alone step p f h t never lt is touches =
    true_from_ne_false (names_fd f step.line)
    (λ none. never (sym touches ∙ item_dropped step.profile step.line.item step.line.pid p f h lt none is))

-- ---- effects

picked : (b : Bool) (t u : Touch) → b ≡ true → (if b then t else u) ≡ t
picked b t u is = ap (λ (r : Bool). if r then t else u) is

passed : (b : Bool) (t u : Touch) → b ≡ false → (if b then t else u) ≡ u
passed b t u is = ap (λ (r : Bool). if r then t else u) is

all_in : (P : ℕ → Type 0) (fs : List ℕ) → ((f : ℕ) → list_any (λ g. f == g) fs ≡ true → P f) → All P fs
all_in P [] each = All-nil P
all_in P (g ∷ fs) each =
    All-cons P g fs (each g (leading g _)) (all_in P fs (λ f is. each f (or_right (f == g) _ is)))

module _ (step : Step) where
  abbrev IsNamed : ℕ → Type 0
  IsNamed f = names_fd f step.line ≡ true

  abbrev Does : Effect → Type 0
  Does effect = (p f : ℕ) → effect_touch effect step.line.pid p f ≡ touch step p f

  one_named : (f : ℕ) → IsNamed f → All IsNamed (f ∷ [])
  one_named f is = All-cons IsNamed f [] is (All-nil IsNamed)

  two_are_named : (f g : ℕ) → IsNamed f → IsNamed g → All IsNamed (f ∷ g ∷ [])
  two_are_named f g is also = All-cons IsNamed f (g ∷ []) is (one_named g also)

  start_effect : (fs : List ℕ) → ((f : ℕ) → given (started fs f) ≡ touch step step.line.pid f) → All IsNamed fs
  start_effect fs does = all_in IsNamed fs (λ f is.
      let named : ℕ → Bool = λ g. names_fd g step.line in
      let held : started fs f ≡ Held all flags.Unsure =
      ap (λ (r : Bool). if r then Held all flags.Unsure else Closed) is in
      let from : touch step step.line.pid f ≡ given (Held all flags.Unsure) = sym (does f) ∙ ap given held in
      subst (Names named step.line.pid f) from (touch_named step step.line.pid f))

  give_effect : (g : ℕ) (t : Touch) → (t ≡ kept → ⊥)
      → ((f : ℕ) → (if step.line.pid == step.line.pid && f == g then t else kept) ≡ touch step step.line.pid f)
      → IsNamed g
  give_effect g t never does =
      let me : ℕ = step.line.pid in
      named_alone step me g (suc g) t never (omega arith)
      (sym (does (suc g))
      ∙ passed (me == me && suc g == g) t kept (and_right (me == me) (suc g == g) (ne_eqb (suc g) g (λ e. omega arith))))
      (sym (does g) ∙ picked (me == me && g == g) t kept (and_from (me == me) (g == g) (itself me) (itself g)))

  two_effect : (g h k : ℕ) (c : Cell) → (k == g || k == h) ≡ true → ((f : ℕ)
      → (if step.line.pid == step.line.pid && (f == g || f == h) then given c else kept) ≡ touch step step.line.pid f)
      → k < suc (g + h) → IsNamed k
  two_effect g h k c is does lt =
      let me : ℕ = step.line.pid in
      let n : ℕ = suc (g + h) in
      named_alone step me k n (given c) (λ e. cc) lt
      (sym (does n) ∙ passed (me == me && (n == g || n == h)) (given c) kept (and_right (me == me) (n == g || n == h)
      (or_from (n == g) (n == h) (ne_eqb n g (λ e. omega arith)) (ne_eqb n h (λ e. omega arith)))))
      (sym (does k) ∙ picked (me == me && (k == g || k == h)) (given c) kept
      (and_from (me == me) (k == g || k == h) (itself me) is))

  source_effect : (g h : ℕ) (op : Op) → IsNamed g → touch step step.line.pid g ≡ taken op step.line.pid h → IsNamed h
  source_effect g h op named is =
      ⊎_elim (λ same. subst IsNamed (eqb-true g h same) named)
      (λ other. ((named_sources step op step.line.pid g step.line.pid h is).1 other).1) (cases_Bool (g == h))

  child_effect : (child g : ℕ) → Does (effects.ForkAs child g) → IsNamed g
  child_effect child g does =
      let me : ℕ = step.line.pid in
      let mine : Bool = child == me || child == child in
      item_beside step.profile step.line.item me child g (suc g)
      (ap is_given (sym (does child g) ∙ picked (mine && g == g) (given Unknown) _
      (and_from mine (g == g) (or_right (child == me) (child == child) (itself child)) (itself g))))
      (ap is_taken (sym (does child (suc g)) ∙ passed (mine && suc g == g) (given Unknown) _
      (and_right mine (suc g == g) (ne_eqb (suc g) g (λ e. omega arith)))
      ∙ picked (child == child) (taken same me (suc g)) kept (itself child)))

pub named_effects : NamedEffects
named_effects step (effects.Start fs) does =
    start_effect step (fds_spelled fs.now)
    (λ f. sym (picked (step.line.pid == step.line.pid) (given (started (fds_spelled fs.now) f)) kept (itself step.line.pid))
    ∙ does step.line.pid f)
named_effects step (effects.Give g c) does =
    one_named step g (give_effect step g (given c) (λ e. cc) (does step.line.pid))
named_effects step (effects.GiveTwo g h c) does =
    two_are_named step g h
    (two_effect step g h g c (leading g _) (does step.line.pid) (omega arith))
    (two_effect step g h h c (or_right (h == g) (h == h) (itself h)) (does step.line.pid) (omega arith))
named_effects step (effects.Change g op h) does =
    let me : ℕ = step.line.pid in
    let named : names_fd g step.line ≡ true = give_effect step g (taken op me h) (λ e. cc) (does me) in
    two_are_named step g h named (source_effect step g h op named (sym (does me g)
    ∙ picked (me == me && g == g) (taken op me h) kept (and_from (me == me) (g == g) (itself me) (itself g))))
named_effects step (effects.ForkAs child g) does = one_named step g (child_effect step child g does)
named_effects step effect does = All-nil (λ f. names_fd f step.line ≡ true)

-- ---- checks

module _ (named : ℕ → Bool) where
  abbrev IsIn : Check → Type 0
  IsIn check = named check.fd ≡ true

  one_check : (check : Check) → IsIn check → All IsIn (check ∷ [])
  one_check check is = All-cons IsIn check [] is (All-nil IsIn)

  fd_checks : (call : FdCall) (f : ℕ) (answer : Answer) → named f ≡ true
      → All IsIn (listed (fd_requirement call f answer).checks)
  fd_checks Closefrom f answer is = All-nil IsIn
  fd_checks _ f answer is = one_check _ is

  fcntl_checks : (needs : Option ℕ) (f : ℕ) (answer : Answer) → named f ≡ true
      → All IsIn (listed (fcntl_requirement needs f answer).checks)
  fcntl_checks None f answer is = All-nil IsIn
  fcntl_checks (Some needs) f answer is = one_check _ is

  abbrev MayBeIn : Option Check → Type 0
  MayBeIn None = Unit {0}
  MayBeIn (Some check) = IsIn check

  both_checks : (a b : Option Check) → MayBeIn a → MayBeIn b → All IsIn (listed (both a b))
  both_checks None None is also = All-nil IsIn
  both_checks (Some a) None is also = one_check a is
  both_checks None (Some b) is also = one_check b also
  both_checks (Some a) (Some b) is also = All-cons IsIn a (b ∷ []) is (one_check b also)

  from_dir : (b : Bool) (dir : Dir) (needs : ℕ) (excuse : Option ℕ)
      → ((g : ℕ) → dir_names g dir ≡ true → named g ≡ true)
      → MayBeIn (elim (if b then None else dir_fd dir) [ None ↦ None | Some f ↦ Some (check_of f needs excuse) ])
  from_dir false (dirs.Fd g) needs excuse is = is g (itself g)
  from_dir _ _ needs excuse is = tt

  at_place : (excuse : Option ℕ) (dir : Dir) (path : List ℕ) (needs : ℕ) → ((g : ℕ) → dir_names g dir ≡ true
      → named g ≡ true) → MayBeIn (place_check excuse (place dir path needs))
  at_place excuse dir path needs is = from_dir (is_empty path || is_absolute path) dir needs excuse is

module _ (named : ℕ → Bool) (answer : Answer) where
  call_checks : (call : Call) → ((g : ℕ) → list_any (arg_names g) (args_of_call call) ≡ true → named g ≡ true)
      → All (λ (check : Check). named check.fd ≡ true) (listed (call_requirement call answer).checks)
  call_checks (calls.OnFd call f) is = fd_checks named call f answer (is f (leading f _))
  call_checks (calls.Send call f) is = one_check named _ (is f (leading f _))
  call_checks (calls.SendTo call f) is = one_check named _ (is f (leading f _))
  call_checks (calls.Accept4 f names) is = one_check named _ (is f (leading f _))
  call_checks (calls.Dup2 f g) is = one_check named _ (is f (leading f _))
  call_checks (calls.Fcntl f command) is = fcntl_checks named (fcntl_needs command) f answer (is f (leading f _))
  call_checks (calls.FcntlDup command f g) is = one_check named _ (is f (leading f _))
  call_checks (calls.FcntlSetFd f names) is = one_check named _ (is f (leading f _))
  call_checks (calls.Mmap f protection kind) is = one_check named _ (is f (leading f _))
  call_checks (calls.RightsLimit f asked) is = one_check named _ (is f (leading f _))
  call_checks (calls.At call dir path) is =
      both_checks named _ None
      (at_place named _ dir path (at_needs call) (λ g here. is g (or_left (dir_names g dir) _ here))) tt
  call_checks (calls.AtFlags call dir path names) is =
      both_checks named _ None
      (at_place named _ dir path (at_flags_needs call names) (λ g here. is g (or_left (dir_names g dir) _ here))) tt
  call_checks (calls.SymlinkAt target dir path) is =
      both_checks named _ None
      (at_place named _ dir path symlink_needs (λ g here. is g (or_left (dir_names g dir) _ here))) tt
  call_checks (calls.RenameAt dir path to_dir to_path) is =
      both_checks named _ _
      (at_place named _ dir path rename_from_needs (λ g here. is g (or_left (dir_names g dir) _ here)))
      (at_place named _ to_dir to_path rename_to_needs
      (λ g here. is g (or_right (dir_names g dir) _ (or_left (dir_names g to_dir) _ here))))
  call_checks (calls.LinkAt dir path to_dir to_path names) is =
      both_checks named _ _
      (at_place named _ dir path link_from_needs (λ g here. is g (or_left (dir_names g dir) _ here)))
      (at_place named _ to_dir to_path link_to_needs
      (λ g here. is g (or_right (dir_names g dir) _ (or_left (dir_names g to_dir) _ here))))
  call_checks _ is = All-nil (λ (check : Check). named check.fd ≡ true)

item_checks : (item : Item) → All (λ (check : Check). list_any (arg_names check.fd) (args_of item) ≡ true)
    (listed (item_requirement item).checks)
item_checks (items.Call call answer) =
    call_checks (λ g. list_any (arg_names g) (args_of_call call)) answer call (λ g is. is)
item_checks (items.Needs marker f rights) =
    one_check (λ g. list_any (arg_names g) (args_of (items.Needs marker f rights))) _ (leading f _)
item_checks item = All-nil (λ (check : Check). list_any (arg_names check.fd) (args_of item) ≡ true)

pub named_checks : NamedChecks
named_checks line = item_checks line.item
