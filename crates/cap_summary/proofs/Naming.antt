-- What is named by some lines is named by more.
use Rattle.std.proofs.{lemmas.Bool.true_from_ne_false}
use Rattle.std.specs.Prelude.{Bool, IfSome, List, None, Option, Some, bytes_eq, codes, cond, false, refl, true, ℕ, ◌&&◌}
use Rattle.std.specs.Prelude.{All, [], not, suc, ◌++◌, ◌+◌, ◌==◌, ◌||◌, ◌∷◌, ◌≡◌}
use Rattle.cap_machine.proofs.{NamedFds.named_checks, NamedFds.named_effects, Naming.own_processes}
use Rattle.cap_machine.specs.{declared.cell.Profile.TheVariants.One, declared.cell.Profile.TheVariants.Two}
use Rattle.cap_machine.specs.{Named.answer_names, Touch.bare_touch, Touch.pdfork_touch, declared.cell.Profile.Profile}
use Rattle.cap_machine.specs.{Named.arg_names, Named.is_fork, Touch.call_touch, Touch.fd_touch, Touch.path_touch}
use Rattle.cap_summary.proofs.{All-cons, Bools.and_right, list_any-append, or_left as or_first, or_right as or_second}
use Rattle.cap_summary.proofs.{All-nil, Bools.and_left, and_from, common_steps, or-false, or-true, or_left, or_right}
use Rattle.cap_summary.proofs.{ap, arith, eq-eqb, ne_eqb, sym, ◌∙◌}
use Rattle.cap_summary.specs.{declared.base.DefaultCells.DefaultCells, declared.precondition.Precondition.Precondition}
use Rattle.cap_summary.specs.{Touch, declared.effect.Effect.Effect, declared.effect.Row.Row, declared.value.Value.Value}
use Rattle.cap_summary.specs.{Names.IsListedWithin, Names.item_answers_fd, Preconditions.AllSaid, Preconditions.Within}
use Rattle.cap_summary.specs.{Names.RequirementWithin, Names.line_names_fd, Names.others_within, declared.key.Key.Key, given}
use Rattle.cap_summary.specs.{Keys.reads_within, Names.EffectWithin, Names.IsRowWithin, Names.mode_within, Sorted.found}
use Rattle.cap_summary.specs.{Names.AreAmong, Names.LineWithin, Names.RowWithin, Names.answers_fd, Names.has_cell}
use Rattle.cap_summary.specs.{Names.Names, Names.has_key, Names.names_in, Op, effect_touch, fds_spelled, slice_index_or}
use Rattle.cap_summary.specs.{LineEffect, ResultKind, Unknown, args_name, is_child, list_any, names_pid, requirement}
use Rattle.cap_summary.specs.{Answer, Cell, Item, Step, fds_of, kept, kind_of, same, started, taken, touch}
use Rattle.cap_trace.specs.{declared.calls.AtFlagsCall.TheVariants.Openat, declared.calls.FdCall.TheVariants.Closefrom}
use Rattle.cap_trace.specs.{declared.calls.FdCall.TheVariants.Accept, declared.calls.PathCall.TheVariants.Execve}
use Rattle.cap_trace.specs.{Entry.args_of_call, declared.calls.BareCall.BareCall, declared.calls.FdCall.TheVariants.Dup}
use Rattle.cap_trace.specs.{Call.Call, declared.calls.FdCall.FdCall, declared.calls.PathCall.PathCall}
use Rattle.cap_trace.specs.declared.calls.BareCall.TheVariants.{CapEnter, Fork, Pdfork, Pipe, Vfork}
use Rattle.cap_trace.specs.declared.calls.FlagsCall.TheVariants.{Pipe2, Socket, Socketpair}

by_cases : {X : Type 0} (b : Bool) → (b ≡ true → X) → (b ≡ false → X) → X
by_cases true one other = one refl
by_cases false one other = other refl

-- ---- calls that answer no descriptor do the same whatever number they answer

-- the numbers of an answer are descriptors
abbrev is_told : ResultKind → Answer → Bool
is_told ResultKind.Fd (Answer.Made n) = true
is_told (ResultKind.Same g) (Answer.Made n) = true
is_told ResultKind.FdPair (Answer.Pair n m) = true
is_told kind answer = false

told_named : (f : ℕ) (kind : ResultKind) (answer : Answer) → is_told kind answer ≡ true → answer_names f answer ≡ true
    → answers_fd f kind answer ≡ true
told_named f ResultKind.Fd (Answer.Made n) told named = named
told_named f (ResultKind.Same g) (Answer.Made n) told named = named
told_named f ResultKind.FdPair (Answer.Pair n m) told named = named
told_named f kind answer told named = absurd cc

-- another number
abbrev other : ℕ → Answer → Answer
other n (Answer.Made m) = Answer.Made n
other n (Answer.Pair m k) = Answer.Pair n n
other n (Answer.Fault e) = Answer.Fault e

either_alike : (a b : Bool) (m : ℕ) (t u t' u' : Touch)
    → is_told (cond (a || b) ResultKind.Fd ResultKind.Count) (Answer.Made m) ≡ false
    → cond a t (cond b u kept) ≡ cond a t' (cond b u' kept)
either_alike true b m t u t' u' none = absurd cc
either_alike false true m t u t' u' none = absurd cc
either_alike false false m t u t' u' none = refl

module _ (n me p f : ℕ) where
  fd_alike : (profile : Profile) (call : FdCall) (g : ℕ) (answer : Answer)
      → is_told (kind_of (Call.OnFd call g)) answer ≡ false
      → fd_touch profile call g (other n answer) me p f ≡ fd_touch profile call g answer me p f
  fd_alike profile call g (Answer.Fault e) none = refl
  fd_alike profile Dup g (Answer.Made m) none = absurd cc
  fd_alike profile Accept g (Answer.Made m) none = absurd cc
  fd_alike One Closefrom g (Answer.Made m) none = refl
  fd_alike Two Closefrom g (Answer.Made m) none = refl
  fd_alike One Closefrom g (Answer.Pair m k) none = refl
  fd_alike Two Closefrom g (Answer.Pair m k) none = refl
  fd_alike profile _ g (Answer.Made m) none = refl
  fd_alike profile _ g (Answer.Pair m k) none = refl

  path_alike : (profile : Profile) (call : PathCall) (answer : Answer)
      → path_touch profile call (other n answer) me p f ≡ path_touch profile call answer me p f
  path_alike profile call (Answer.Fault e) = refl
  path_alike profile Execve (Answer.Made m) = refl
  path_alike profile Execve (Answer.Pair m k) = refl
  path_alike profile _ answer = refl

  bare_alike : (call : BareCall) (answer : Answer) → is_fork (Call.Bare call) ≡ false
      → is_told (kind_of (Call.Bare call)) answer ≡ false
      → bare_touch call (other n answer) me p f ≡ bare_touch call answer me p f
  bare_alike call (Answer.Fault e) apart none = refl
  bare_alike Pipe (Answer.Made m) apart none = refl
  bare_alike Pipe (Answer.Pair m k) apart none = absurd cc
  bare_alike CapEnter answer apart none = refl
  bare_alike Fork answer apart none = absurd cc
  bare_alike Vfork answer apart none = absurd cc
  bare_alike Pdfork answer apart none = absurd cc
  bare_alike _ (Answer.Made m) apart none = absurd cc
  bare_alike _ (Answer.Pair m k) apart none = refl

  call_alike : (profile : Profile) (call : Call) (answer : Answer) → is_fork call ≡ false
      → is_told (kind_of call) answer ≡ false
      → call_touch profile call (other n answer) me p f ≡ call_touch profile call answer me p f
  call_alike profile call (Answer.Fault e) apart none = refl
  call_alike profile (Call.OnFd call g) answer apart none = fd_alike profile call g answer none
  call_alike profile (Call.OnPath call path) answer apart none = path_alike profile call answer
  call_alike profile (Call.Bare call) answer apart none = bare_alike call answer apart none
  call_alike profile (Call.Fcntl g command) (Answer.Made m) apart none =
      either_alike (bytes_eq command (codes "F_DUPFD")) (bytes_eq command (codes "F_DUPFD_CLOEXEC")) m _ _ _ _ none
  call_alike profile (Call.OnFlags Socketpair names) (Answer.Made m) apart none = refl
  call_alike profile (Call.OnFlags Pipe2 names) (Answer.Made m) apart none = refl
  call_alike profile (Call.OnFlags Socket names) (Answer.Made m) apart none = absurd cc
  call_alike profile (Call.OnFlags Socket names) (Answer.Pair m k) apart none = refl
  call_alike profile (Call.OnFlags _ names) (Answer.Pair m k) apart none = absurd cc
  call_alike profile (Call.AtFlags Openat dir path names) (Answer.Made m) apart none = absurd cc
  call_alike profile (Call.AtFlags Openat dir path names) (Answer.Pair m k) apart none = refl
  call_alike profile (Call.AtFlags _ dir path names) answer apart none = refl
  call_alike profile (Call.Accept4 g names) (Answer.Made m) apart none = absurd cc
  call_alike profile (Call.Dup2 g h) (Answer.Made m) apart none = absurd cc
  call_alike profile (Call.FcntlDup command g h) (Answer.Made m) apart none = absurd cc
  call_alike profile (Call.Open path names) (Answer.Made m) apart none = absurd cc
  call_alike profile _ (Answer.Made m) apart none = refl
  call_alike profile _ (Answer.Pair m k) apart none = refl

unnamed : (f : ℕ) (answer : Answer) → answer_names f (other (suc f) answer) ≡ false
unnamed f (Answer.Made m) = ne_eqb f (suc f) (λ e. omega arith)
unnamed f (Answer.Pair m k) = rw (ne_eqb f (suc f) (λ e. omega arith)) refl
unnamed f (Answer.Fault e) = refl

abbrev Does : LineEffect → Step → Type 0
Does line step = (p f : ℕ) → effect_touch line step.line.pid p f ≡ touch step p f

abbrev Named : Step → ℕ → Type 0
Named step f = line_names_fd f step.line ≡ true

abbrev step_of : Profile → ℕ → Item → Step
step_of profile me item = record { profile = profile; line = record { pid = me; item = item } }

module _ (profile : Profile) (me : ℕ) (call : Call) (answer : Answer) (line : LineEffect) where
  abbrev of_answer : Answer → Step
  of_answer answer = step_of profile me (Item.Call call answer)

  plain_named : is_fork call ≡ false → Does line (of_answer answer) → All (Named (of_answer answer)) (fds_of line)
  plain_named apart does k d lt =
      let g : ℕ = slice_index_or (fds_of line) k d in
      let args : Bool = list_any (arg_names g) (args_of_call call) in
      by_cases (is_told (kind_of call) answer)
      (λ told. by_cases args (λ is. or_left args (answers_fd g (kind_of call) answer) is)
      (λ none. or_right args (answers_fd g (kind_of call) answer) (told_named g (kind_of call) answer told
      (rw none at (named_effects (of_answer answer) line does k d lt)))))
      (λ untold. or_left args (answers_fd g (kind_of call) answer)
      (sym (or-false args) ∙ rw (unnamed g answer) at (named_effects (of_answer (other (suc g) answer)) line
      (λ p f. does p f ∙ sym (call_alike (suc g) me p f profile call answer apart untold)) k d lt)))

-- ---- a fork has no descriptor one by one but the one that pdfork(2) answers

never_given : (b : Bool) (op : Op) (q g : ℕ) (c : Cell) → given c ≡ cond b (taken op q g) kept → ⊥
never_given true op q g c is = cc
never_given false op q g c is = cc

module _ (me : ℕ) (touches : ℕ → ℕ → Touch) (told b : ℕ → Bool)
    (free : (p f : ℕ) → told f ≡ false → touches p f ≡ cond (b p) (taken same me f) kept)
    (bound : (p f : ℕ) (op : Op) (q g : ℕ) → told f ≡ true → touches p f ≡ taken op q g → ⊥)
    (fresh : (g : ℕ) → (n : ℕ) × (told n ≡ false) × ((n == g) ≡ false)) where
  abbrev Told : ℕ → Type 0
  Told f = told f ≡ true

  itself : (f : ℕ) → (f == f) ≡ true
  itself f = eq-eqb f f refl

  given_told : (p f : ℕ) (c : Cell) → touches p f ≡ given c → Told f
  given_told p f c is = by_cases (told f) (λ here. here)
      (λ untold. absurd (never_given (b p) same me f c (sym is ∙ free p f untold)))

  taken_never : (f g n : ℕ) (op : Op) → touches me f ≡ taken op me g → told f ≡ false → touches me n ≡ kept
      → told n ≡ false → ⊥
  taken_never f g n op is untold none free_n = by (b me) refl
    where
      by : (mine : Bool) → b me ≡ mine → ⊥
      by true e = let at : touches me n ≡ taken same me n = free me n free_n ∙ ap (λ r. cond r (taken same me n)
          kept) e in
          let wrong : kept ≡ taken same me n = sym none ∙ at in cc
      by false e = let at : touches me f ≡ kept = free me f untold ∙ ap (λ r. cond r (taken same me f) kept) e in
          let wrong : kept ≡ taken op me g = sym at ∙ is in cc

  forked_told : (line : LineEffect) → ((p f : ℕ) → effect_touch line me p f ≡ touches p f) → All Told (fds_of line)
  forked_told (LineEffect.Give g c) does =
      All-cons Told g [] (given_told me g c (sym (does me g) ∙ rw (itself me, itself g) refl)) (All-nil Told)
  forked_told (LineEffect.GiveTwo g h c) does =
      All-cons Told g (h ∷ []) (given_told me g c (sym (does me g) ∙ rw (itself me, itself g) refl))
      (All-cons Told h [] (given_told me h c (sym (does me h) ∙ rw (
        itself me,
        itself h,
        or_right (h == g) true refl,
      ) refl)) (All-nil Told))
  forked_told (LineEffect.Change g op h) does =
      let here : touches me g ≡ taken op me h = sym (does me g) ∙ rw (itself me, itself g) refl in
      by_cases (told g) (λ is_told. absurd (bound me g op me h is_told here)) (λ untold. let n = fresh g in
      absurd (taken_never g h n.0 op here untold (sym (does me n.0) ∙ rw (itself me, n.2) refl) n.1))
  forked_told (LineEffect.ForkAs child g) does =
      All-cons Told g [] (given_told child g Unknown (sym (does child g)
      ∙ rw (itself child, itself g, or_right (child == me) true refl) refl)) (All-nil Told)
  forked_told (LineEffect.Start fs) does = λ k d lt.
      let f : ℕ = slice_index_or (fds_spelled fs.now) k d in
      given_told me f (started (fds_spelled fs.now) f) (sym (does me f) ∙ rw (itself me) refl)
  forked_told _ does = All-nil Told

module _ (profile : Profile) (me : ℕ) (line : LineEffect) where
  -- fork(2), and each that failed
  no_fds : (call : BareCall) (answer : Answer) (b : ℕ → Bool)
      → ((p f : ℕ) → bare_touch call answer me p f ≡ cond (b p) (taken same me f) kept)
      → Does line (step_of profile me (Item.Call (Call.Bare call) answer))
      → All (Named (step_of profile me (Item.Call (Call.Bare call) answer))) (fds_of line)
  no_fds call answer b is does k d lt =
      let none = forked_told me (λ p f. bare_touch call answer me p f) (λ f. false) b (λ p f untold. is p f)
      (λ p f op q g here e. absurd cc) (λ g. (suc g, refl, ne_eqb (suc g) g (λ e. omega arith))) line does k d lt in
      absurd cc

  fork_named : (call : BareCall) (answer : Answer) → is_fork (Call.Bare call) ≡ true
      → Does line (step_of profile me (Item.Call (Call.Bare call) answer))
      → All (Named (step_of profile me (Item.Call (Call.Bare call) answer))) (fds_of line)
  fork_named Fork (Answer.Made c) is does = no_fds Fork (Answer.Made c) (λ p. not (c == 0) && p == c) (λ p f. refl) does
  fork_named Vfork (Answer.Made c) is does = no_fds Vfork (Answer.Made c) (λ p. not (c == 0) && p == c) (λ p f.
      refl) does
  fork_named Pdfork (Answer.Pair c e) is does =
      forked_told me (λ p f. pdfork_touch (Answer.Pair c e) me p f) (λ f. f == e) (λ p. not (c == 0) && p == c)
      (λ p f untold. rw untold (free (c == 0) (p == c) (p == me) f)) (λ p f op q g here. rw here (bound (c == 0) (p
      == c) (p == me) f op q g))
      (λ g. (suc (g + e), ne_eqb (suc (g + e)) e (λ h. omega arith), ne_eqb (suc (g + e)) g (λ h. omega arith)))
      line does
    where
      free : (none child mine : Bool) (f : ℕ)
          → cond none kept (cond ((mine || child) && false) (given Unknown) (cond child (taken same me f) kept))
          ≡ cond (not none && child) (taken same me f) kept
      free none child mine f = grind (arith, common_steps)

      bound : (none child mine : Bool) (f : ℕ) (op : Op) (q g : ℕ)
          → cond none kept (cond ((mine || child) && true) (given Unknown) (cond child (taken same me f) kept))
          ≡ taken op q g → ⊥
      bound none child mine f op q g is = grind (arith, common_steps)
  fork_named Fork (Answer.Pair c e) is does = no_fds Fork (Answer.Pair c e) (λ p. false) (λ p f. refl) does
  fork_named Vfork (Answer.Pair c e) is does = no_fds Vfork (Answer.Pair c e) (λ p. false) (λ p f. refl) does
  fork_named Pdfork (Answer.Made c) is does = no_fds Pdfork (Answer.Made c) (λ p. false) (λ p f. refl) does
  fork_named Fork (Answer.Fault c) is does = no_fds Fork (Answer.Fault c) (λ p. false) (λ p f. refl) does
  fork_named Vfork (Answer.Fault c) is does = no_fds Vfork (Answer.Fault c) (λ p. false) (λ p f. refl) does
  fork_named Pdfork (Answer.Fault c) is does = no_fds Pdfork (Answer.Fault c) (λ p. false) (λ p f. refl) does
  fork_named _ answer is does = absurd cc

  call_named : (call : Call) (answer : Answer) → Does line (step_of profile me (Item.Call call answer))
      → All (Named (step_of profile me (Item.Call call answer))) (fds_of line)
  call_named (Call.Bare call) answer does = by_cases (is_fork (Call.Bare call))
      (λ is. fork_named call answer is does) (λ apart. plain_named profile me (Call.Bare call) answer line apart does)
  call_named call answer does = plain_named profile me call answer line refl does

  item_named : (item : Item) → Does line (step_of profile me item) → All (Named (step_of profile me item)) (fds_of line)
  item_named (Item.Call call answer) does = call_named call answer does
  item_named (Item.Start fs) does = named_effects (step_of profile me (Item.Start fs)) line does
  item_named Item.Exit does = named_effects (step_of profile me Item.Exit) line does
  item_named (Item.Foreign g) does = named_effects (step_of profile me (Item.Foreign g)) line does
  item_named (Item.Needs marker g rights) does = named_effects (step_of profile me (Item.Needs marker g rights)) line does
  item_named Item.Global does = named_effects (step_of profile me Item.Global) line does

pub named_one_by_one : (step : Step) (line : LineEffect)
    → ((p f : ℕ) → effect_touch line step.line.pid p f ≡ touch step p f)
    → All (λ f. line_names_fd f step.line ≡ true) (fds_of line)
named_one_by_one step line does = item_named step.profile step.line.pid line step.line.item does

module _ (a b : Names) (among : AreAmong a b) where
  key_among : (k : Key) → has_key a k ≡ true → has_key b k ≡ true
  key_among Key.Mode is = refl
  key_among (Key.Fd f) is = among.fds f is

  cell_among : (p : ℕ) (k : Key) → has_cell a p k ≡ true → has_cell b p k ≡ true
  cell_among p k is = and_from (b.pids p) (has_key b k) (among.pids p (and_left (a.pids p) (has_key a k) is))
      (key_among k (and_right (a.pids p) (has_key a k) is))

  value_among : (v : Value) → reads_within (has_cell a) v ≡ true → reads_within (has_cell b) v ≡ true
  value_among Value.Unknown is = refl
  value_among Value.Closed is = refl
  value_among (Value.Held rights flag) is = refl
  value_among (Value.Same p k) is = cell_among p k is
  value_among (Value.Of p k op) is = cell_among p k is

  listed_among : (f : ℕ) (v : Option Value) → IfSome v (IsListedWithin a f) → IfSome v (IsListedWithin b f)
  listed_among f None is = is
  listed_among f (Some v) is = record { key = among.fds f is.key; source = value_among v is.source }

  others_among : (o : DefaultCells) → others_within a o ≡ true → others_within b o ≡ true
  others_among (DefaultCells.Of q passing) is = among.pids q is
  others_among _ is = refl

  mode_among : (mode : Option Value) → mode_within a mode ≡ true → mode_within b mode ≡ true
  mode_among None is = refl
  mode_among (Some v) is = value_among v is

  row_among : (row : Row) → RowWithin a row → RowWithin b row
  row_among row is = record {
    cells = λ f. listed_among f (found row.cells f) (is.cells f);
    others = others_among row.base.others is.others;
    mode = mode_among row.mode is.mode;
  }

  row_at_among : (p : ℕ) (row : Option Row) → IfSome row (IsRowWithin a p) → IfSome row (IsRowWithin b p)
  row_at_among p None is = is
  row_at_among p (Some row) is = record { pid = among.pids p is.pid; row = row_among row is.row }

  pub effect_among : (effect : Effect) → EffectWithin a effect → EffectWithin b effect
  effect_among effect is p = row_at_among p (found effect.rows p) (is p)

  pub asks_among : (pre : Precondition) → AllSaid (Within a) pre → AllSaid (Within b) pre
  asks_among pre is = record {
    asks = λ k d lt. cell_among _ _ (is.asks k d lt);
    refusals = λ k d lt j e more. cell_among _ _ (is.refusals k d lt j e more);
  }

-- ---- the lines of two parts
module _ (t u : List Step) where
  in_first : (named : Step → Bool) → list_any named t ≡ true → list_any named (t ++ u) ≡ true
  in_first named is = list_any-append named t u ∙ or_first (list_any named t) (list_any named u) is

  in_second : (named : Step → Bool) → list_any named u ≡ true → list_any named (t ++ u) ≡ true
  in_second named is = list_any-append named t u ∙ or_second (list_any named t) (list_any named u) is

  pub first_among : AreAmong (names_in t) (names_in (t ++ u))
  first_among = record {
    pids = λ p. in_first (λ step. names_pid p step.line);
    fds = λ f. in_first (λ step. line_names_fd f step.line);
  }

  pub second_among : AreAmong (names_in u) (names_in (t ++ u))
  second_among = record {
    pids = λ p. in_second (λ step. names_pid p step.line);
    fds = λ f. in_second (λ step. line_names_fd f step.line);
  }

-- ---- a line, and what it asks
never_kept : (b : Bool) (p f : ℕ) → cond b (given Unknown) (taken same p f) ≡ kept → ⊥
never_kept true p f is = cc
never_kept false p f is = cc

module _ (step : Step) (t : List Step) where
  abbrev named : Names
  named = names_in (t ++ step ∷ [])

  pid_in : (p : ℕ) → names_pid p step.line ≡ true → named.pids p ≡ true
  pid_in p is = (second_among t (step ∷ [])).pids p (or_first (names_pid p step.line) false is)

  fd_in : (f : ℕ) → line_names_fd f step.line ≡ true → named.fds f ≡ true
  fd_in f is = (second_among t (step ∷ [])).fds f (or_first (line_names_fd f step.line) false is)

  own_in : named.pids step.line.pid ≡ true
  own_in = pid_in step.line.pid (or_first (step.line.pid == step.line.pid) _ (eq-eqb step.line.pid step.line.pid refl))

  -- a process that is touched is named
  touched_in : (p : ℕ) → (touch step p 0 ≡ kept → ⊥) → named.pids p ≡ true
  touched_in p touches =
      pid_in p (true_from_ne_false (names_pid p step.line) (λ other. touches (own_processes step p 0 other)))

  child_in : (line : LineEffect) → ((p f : ℕ) → effect_touch line step.line.pid p f ≡ touch step p f)
      → (p : ℕ) → is_child line p ≡ true → named.pids p ≡ true
  child_in (LineEffect.Fork child) does p is = touched_in p (λ stays.
      never_kept false step.line.pid 0 (rw is at (does p 0 ∙ stays)))
  child_in (LineEffect.ForkAs child g) does p is = touched_in p (λ stays.
      never_kept (0 == g) step.line.pid 0 (rw (is, or-true (p == step.line.pid)) at (does p 0 ∙ stays)))
  child_in _ does p is = absurd cc

  pub line_in : (line : LineEffect) → ((p f : ℕ) → effect_touch line step.line.pid p f ≡ touch step p f)
      → LineWithin named step.line.pid line
  line_in line does = record {
    own = own_in;
    child = child_in line does;
    fds = λ k d lt. fd_in _ (named_one_by_one step line does k d lt);
  }

  pub requirement_in : RequirementWithin named step.line.pid (requirement step.line)
  requirement_in = record {
    own = own_in;
    checks = λ k d lt. fd_in _ (or_first (args_name _ step.line) (item_answers_fd _ step.line.item)
        (named_checks step.line k d lt));
  }
