-- Going back over the lines of a trace: which descriptors stand in what is known.
use Rattle.std.proofs.Common.{◌≡◌, ◌⊎◌, ◌↔◌, ℕ, suc, ◌==◌, nat_le, ◌&&◌, ◌||◌, if◌then◌else◌, List, [], ◌∷◌, Bool, true, false}
use Rattle.std.proofs.Common.{refl, sym, ap, ◌∙◌, subst, inl, inr, arith}
use Rattle.std.specs.List.{list_any}
use Rattle.std.proofs.Math.Bool.{or-false}
use Rattle.std.proofs.lemmas.Bool.{cases_Bool, cond-true, cond-false, eqb-true}
use Rattle.std.proofs.lemmas.Bool.Decides.{nat_tests}
use Rattle.std.proofs.Math.Logic.{⊎_elim}
use Rattle.cap_trace.specs.Views.{fds_spelled}
use Rattle.cap_rights.specs.Rights.{all}
use Rattle.cap_machine.specs.declared.cell.OnExec.TheVariants as flags
use Rattle.cap_machine.specs.declared.cell.Cell.{Cell}
use Rattle.cap_machine.specs.declared.cell.Cell.TheVariants.{Unknown, Closed, Held}
use Rattle.cap_machine.specs.declared.cell.Op.{Op}
use Rattle.cap_machine.specs.declared.rule.Effect.{Effect}
use Rattle.cap_machine.specs.declared.rule.Effect.TheVariants.{Keep, Start, Exit, Forget, Exec, CloseFrom, Enter, Give}
use Rattle.cap_machine.specs.declared.rule.Effect.TheVariants.{GiveTwo, Change, Fork, ForkAs}
use Rattle.cap_machine.specs.declared.step.Step.{Step}
use Rattle.cap_machine.specs.Op.{applied, same, exec}
use Rattle.cap_machine.specs.Touch.{Touch, kept, given, taken, touch, started}
use Rattle.cap_machine.specs.Effect.{effect_touch}
use Rattle.cap_machine.specs.State.{State, Added}
use Rattle.cap_machine.specs.History.{touched, cell_after}
use Rattle.cap_limits.specs.Standing.{StandsBy, Stands, IsHeld, start_lists}
use Rattle.cap_limits.specs.Code.Singles.{is_single, source_of}

-- ---- one line

-- Of a descriptor that a line touched so, with the cells before and what stood: it stands and is among those that are
-- added; or it isn't held; or it isn't added, and it is held and stands only as that of the source did.
abbrev pub Outcome : (ℕ → Touch) → (ℕ → ℕ → Cell) → (ℕ → ℕ → Type 0) → ℕ → ℕ → ℕ → Bool → Type 0
Outcome ts cells before p f from single =
    ((single ≡ true) × StandsBy (ts f) ts before p f)
    ⊎ ((IsHeld (touched (ts f) cells p f) → ⊥)
    ⊎ ((single ≡ false) × (IsHeld (touched (ts f) cells p f) → IsHeld (cells from f))
    × (StandsBy (ts f) ts before p f ↔ before from f)))

out_given : (ts : ℕ → Touch) (cells : ℕ → ℕ → Cell) (before : ℕ → ℕ → Type 0) (p f from : ℕ) (single : Bool) (c : Cell)
    → ts f ≡ given c → single ≡ true → Outcome ts cells before p f from single
out_given ts cells before p f from single c e is =
    inl (is, subst (λ (t : Touch). StandsBy t ts before p f) (sym e) tt)

out_lost : (ts : ℕ → Touch) (cells : ℕ → ℕ → Cell) (before : ℕ → ℕ → Type 0) (p f from : ℕ) (single : Bool) (c : Cell)
    → ts f ≡ given c → (IsHeld c → ⊥) → Outcome ts cells before p f from single
out_lost ts cells before p f from single c e not_held =
    inr (inl (subst (λ (t : Touch). IsHeld (touched t cells p f) → ⊥) (sym e) not_held))

out_changed : (ts : ℕ → Touch) (cells : ℕ → ℕ → Cell) (before : ℕ → ℕ → Type 0) (p f from : ℕ) (single : Bool)
    (op : Op) (q g n : ℕ) → ts f ≡ taken op q g → ts n ≡ kept → single ≡ true → Outcome ts cells before p f from single
out_changed ts cells before p f from single op q g n e other is =
    inl (is, subst (λ (t : Touch). StandsBy t ts before p f) (sym e) (inl (n, other)))

out_kept : (ts : ℕ → Touch) (cells : ℕ → ℕ → Cell) (before : ℕ → ℕ → Type 0) (p f from : ℕ) (single : Bool)
    → ts f ≡ kept → from ≡ p → single ≡ false → Outcome ts cells before p f from single
out_kept ts cells before p f from single e same_process isnt =
    inr (inr (
      isnt,
      λ h. subst (λ (q : ℕ). IsHeld (cells q f)) (sym same_process)
          (subst (λ (t : Touch). IsHeld (touched t cells p f)) e h),
      (
        λ h. subst (λ (q : ℕ). before q f) (sym same_process) (subst (λ (t : Touch). StandsBy t ts before p f) e h),
        λ h. subst (λ (t : Touch). StandsBy t ts before p f) (sym e) (subst (λ (q : ℕ). before q f) same_process h),
      ),
    ))

out_passed : (ts : ℕ → Touch) (cells : ℕ → ℕ → Cell) (before : ℕ → ℕ → Type 0) (p f from : ℕ) (single : Bool) (op : Op)
    → ts f ≡ taken op from f → ((n : ℕ) → ts n ≡ kept → ⊥) → ((c : Cell) → IsHeld (applied op c) → IsHeld c)
    → single ≡ false → Outcome ts cells before p f from single
out_passed ts cells before p f from single op e none_kept holds_on isnt =
    inr (inr (
      isnt,
      λ h. holds_on (cells from f) (subst (λ (t : Touch). IsHeld (touched t cells p f)) e h),
      (
        λ h. ⊎_elim (λ other. absurd (none_kept other.0 other.1)) (λ b. b)
            (subst (λ (t : Touch). StandsBy t ts before p f) e h),
        λ h. subst (λ (t : Touch). StandsBy t ts before p f) (sym e) (inr h),
      ),
    ))

-- ---- each effect

taken_not_kept : (op : Op) (q g : ℕ) → taken op q g ≡ kept → ⊥
taken_not_kept op q g e = cc

same_held : (c : Cell) → IsHeld (applied same c) → IsHeld c
same_held (Held rights flag) h = tt
same_held _ h = h

exec_held : (c : Cell) → IsHeld (applied exec c) → IsHeld c
exec_held (Held rights flag) h = tt
exec_held _ h = h

and_no : (a : Bool) → (a && false) ≡ false
and_no true = refl
and_no false = refl

next_differs : (g : ℕ) → (suc g == g) ≡ false
next_differs g = grind (arith, nat_tests)

-- a test gives the cell, or all is kept
given_if : (cells : ℕ → ℕ → Cell) (before : ℕ → ℕ → Type 0) (p f : ℕ) (b : ℕ → Bool) (c : ℕ → Cell)
    → Outcome (λ n. if b n then given (c n) else kept) cells before p f p (b f)
given_if cells before p f b c =
    ⊎_elim
    (λ yes. out_given (λ n. if b n then given (c n) else kept) cells before p f p (b f) (c f)
    (cond-true (b f) (given (c f)) kept yes) yes)
    (λ no. out_kept (λ n. if b n then given (c n) else kept) cells before p f p (b f)
    (cond-false (b f) (given (c f)) kept no) refl no)
    (cases_Bool (b f))

lost_if : (cells : ℕ → ℕ → Cell) (before : ℕ → ℕ → Type 0) (p f : ℕ) (b : ℕ → Bool) (c : Cell) → (IsHeld c → ⊥)
    → Outcome (λ n. if b n then given c else kept) cells before p f p false
lost_if cells before p f b c not_held =
    ⊎_elim
    (λ yes. out_lost (λ n. if b n then given c else kept) cells before p f p false c
    (cond-true (b f) (given c) kept yes) not_held)
    (λ no. out_kept (λ n. if b n then given c else kept) cells before p f p false
    (cond-false (b f) (given c) kept no) refl refl)
    (cases_Bool (b f))

start_out : (cells : ℕ → ℕ → Cell) (before : ℕ → ℕ → Type 0) (p f : ℕ) (own : Bool) (fds : List ℕ)
    → Outcome (λ n. if own then given (started fds n) else kept) cells before p f p (own && list_any (λ g. f == g) fds)
start_out cells before p f false fds =
    out_kept (λ n. kept) cells before p f p false refl refl refl
start_out cells before p f true fds =
    ⊎_elim
    (λ yes. out_given (λ n. given (started fds n)) cells before p f p (list_any (λ g. f == g) fds) (started fds f) refl yes)
    (λ no. out_lost (λ n. given (started fds n)) cells before p f p (list_any (λ g. f == g) fds) Closed
    (ap given (cond-false (list_any (λ g. f == g) fds) (Held all flags.Unsure) Closed no)) (λ h. h))
    (cases_Bool (list_any (λ g. f == g) fds))

-- process q hands on all that it has to process p
passed_out : (cells : ℕ → ℕ → Cell) (before : ℕ → ℕ → Type 0) (p f q : ℕ) (op : Op)
    → ((c : Cell) → IsHeld (applied op c) → IsHeld c)
    → Outcome (λ n. taken op q n) cells before p f q false
passed_out cells before p f q op holds_on =
    out_passed (λ n. taken op q n) cells before p f q false op refl (λ n e. taken_not_kept op q n e) holds_on refl

exec_out : (cells : ℕ → ℕ → Cell) (before : ℕ → ℕ → Type 0) (p f me : ℕ) (own : Bool) → (own ≡ true → p ≡ me)
    → Outcome (λ n. if own then taken exec me n else kept) cells before p f p false
exec_out cells before p f me false is = out_kept (λ n. kept) cells before p f p false refl refl refl
exec_out cells before p f me true is =
    subst (λ (q : ℕ). Outcome (λ n. taken exec me n) cells before p f q false) (sym (is refl))
    (passed_out cells before p f me exec exec_held)

fork_out : (cells : ℕ → ℕ → Cell) (before : ℕ → ℕ → Type 0) (p f me : ℕ) (is_child : Bool)
    → Outcome (λ n. if is_child then taken same me n else kept) cells before p f (if is_child then me else p) false
fork_out cells before p f me true = passed_out cells before p f me same same_held
fork_out cells before p f me false = out_kept (λ n. kept) cells before p f p false refl refl refl

as_never_kept : (me n : ℕ) (b : Bool) → (if b then given Unknown else taken same me n) ≡ kept → ⊥
as_never_kept me n true e = cc
as_never_kept me n false e = cc

fork_as_out : (cells : ℕ → ℕ → Cell) (before : ℕ → ℕ → Type 0) (p f me g : ℕ) (own is_child : Bool)
    → Outcome (λ n. if (own || is_child) && n == g then given Unknown else (if is_child then taken same me n else kept))
    cells before p f (if is_child then me else p) false
fork_as_out cells before p f me g own true =
    let ts : ℕ → Touch = λ n. if (own || true) && n == g then given Unknown else taken same me n in
    ⊎_elim
    (λ yes. out_lost ts cells before p f me false Unknown
    (cond-true ((own || true) && f == g) (given Unknown) (taken same me f) yes) (λ h. h))
    (λ no. out_passed ts cells before p f me false same
    (cond-false ((own || true) && f == g) (given Unknown) (taken same me f) no)
    (λ n e. as_never_kept me n ((own || true) && n == g) e) same_held refl)
    (cases_Bool ((own || true) && f == g))
fork_as_out cells before p f me g own false =
    lost_if cells before p f (λ n. (own || false) && n == g) Unknown (λ h. h)

change_out : (cells : ℕ → ℕ → Cell) (before : ℕ → ℕ → Type 0) (p f me g h : ℕ) (op : Op) (own : Bool)
    → Outcome (λ n. if own && n == g then taken op me h else kept) cells before p f p (own && f == g)
change_out cells before p f me g h op own =
    let ts : ℕ → Touch = λ n. if own && n == g then taken op me h else kept in
    ⊎_elim
    (λ yes. out_changed ts cells before p f p (own && f == g) op me h (suc g)
    (cond-true (own && f == g) (taken op me h) kept yes)
    (cond-false (own && suc g == g) (taken op me h) kept (ap (λ (b : Bool). own && b) (next_differs g) ∙ and_no own))
    yes)
    (λ no. out_kept ts cells before p f p (own && f == g) (cond-false (own && f == g) (taken op me h) kept no) refl no)
    (cases_Bool (own && f == g))

outcome : (effect : Effect) (me p f : ℕ) (cells : ℕ → ℕ → Cell) (before : ℕ → ℕ → Type 0)
    → Outcome (effect_touch effect me p) cells before p f (source_of effect me p) (is_single effect me p f)
outcome Keep me p f cells before = out_kept (λ n. kept) cells before p f p false refl refl refl
outcome Enter me p f cells before = out_kept (λ n. kept) cells before p f p false refl refl refl
outcome (Start fds) me p f cells before = start_out cells before p f (p == me) (fds_spelled fds.now)
outcome Exit me p f cells before = lost_if cells before p f (λ n. p == me) Unknown (λ h. h)
outcome Forget me p f cells before = lost_if cells before p f (λ n. p == me) Unknown (λ h. h)
outcome Exec me p f cells before = exec_out cells before p f me (p == me) (λ is. eqb-true p me is)
outcome (CloseFrom n) me p f cells before = lost_if cells before p f (λ m. p == me && nat_le n m) Closed (λ h. h)
outcome (Give g c) me p f cells before = given_if cells before p f (λ n. p == me && n == g) (λ n. c)
outcome (GiveTwo g h c) me p f cells before =
    given_if cells before p f (λ n. p == me && (n == g || n == h)) (λ n. c)
outcome (Change g op h) me p f cells before = change_out cells before p f me g h op (p == me)
outcome (Fork child) me p f cells before = fork_out cells before p f me (p == child)
outcome (ForkAs child g) me p f cells before = fork_as_out cells before p f me g (p == me) (p == child)

-- ---- the lines so far

-- On the way back from process p after a history to process q after an older part of it, with these descriptors added:
-- a descriptor isn't held; or it stands and is added; or it isn't added, and it is held and stands only as that of q does.
abbrev pub SoFar : State → List Added → List Step → ℕ → List Step → ℕ → (ℕ → Bool) → ℕ → Type 0
SoFar s start history p older q added f =
    (IsHeld (cell_after s history p f) → ⊥)
    ⊎ (((added f ≡ true) × Stands start history p f)
    ⊎ ((added f ≡ false) × (IsHeld (cell_after s history p f) → IsHeld (cell_after s older q f))
    × (Stands start history p f ↔ Stands start older q f)))

or_true : (a b : Bool) → b ≡ true → (a || b) ≡ true
or_true true b e = refl
or_true false b e = e

or_first : (a b : Bool) → a ≡ true → (a || b) ≡ true
or_first a b e = ap (λ (x : Bool). x || b) e

or_neither : (a b : Bool) → a ≡ false → b ≡ false → (a || b) ≡ false
or_neither a b e h = ap (λ (x : Bool). x || b) e ∙ h

so_far_over : (s : State) (start : List Added) (history : List Step) (p : ℕ) (older : List Step) (step : Step) (q from : ℕ)
    (old new : ℕ → Bool) (single : Bool) (f : ℕ)
    → Outcome (touch step q) (cell_after s older) (Stands start older) q f from single
    → new f ≡ (single || old f)
    → SoFar s start history p (step ∷ older) q old f
    → SoFar s start history p older from new f
so_far_over s start history p older step q from old new single f out is so_far =
    ⊎_elim
    (λ lost. inl lost)
    (λ rest. ⊎_elim
    (λ found. inr (inl (is ∙ or_true single (old f) found.0, found.1)))
    (λ on. ⊎_elim
    (λ here. inr (inl (is ∙ or_first single (old f) here.0, on.2.1 here.1)))
    (λ more. ⊎_elim
    (λ lost. inl (λ h. lost (on.1 h)))
    (λ passed. inr (inr (
      is ∙ or_neither single (old f) passed.0 on.0,
      λ h. passed.1 (on.1 h),
      (λ h. passed.2.0 (on.2.0 h), λ h. on.2.1 (passed.2.1 h)),
    )))
    more)
    out)
    rest)
    so_far

-- from an effect that does what the step does
pub over_line : (s : State) (start : List Added) (history : List Step) (p : ℕ) (older : List Step) (step : Step) (q : ℕ)
    (effect : Effect) (me : ℕ) (old new : ℕ → Bool) → effect_touch effect me ≡ touch step
    → ((f : ℕ) → new f ≡ (is_single effect me q f || old f))
    → ((f : ℕ) → SoFar s start history p (step ∷ older) q old f)
    → (f : ℕ) → SoFar s start history p older (source_of effect me q) new f
over_line s start history p older step q effect me old new same_touch is so_far f =
    so_far_over s start history p older step q (source_of effect me q) old new (is_single effect me q f) f
    (subst (λ (t : ℕ → ℕ → Touch).
    Outcome (t q) (cell_after s older) (Stands start older) q f (source_of effect me q) (is_single effect me q f))
    same_touch (outcome effect me q f (cell_after s older) (Stands start older)))
    (is f) (so_far f)

-- where no step is left: what the start lists stands
pub at_start : (s : State) (start : List Added) (history : List Step) (p q : ℕ) (old new : ℕ → Bool) (f : ℕ)
    → new f ≡ (start_lists start q f || old f) → SoFar s start history p [] q old f
    → IsHeld (cell_after s history p f) → (new f ≡ true) ↔ Stands start history p f
at_start s start history p q old new f is so_far held =
    let lists : Bool = start_lists start q f in
    ⊎_elim
    (λ lost. absurd (lost held))
    (λ rest. ⊎_elim
    (λ found. (λ h. found.1, λ h. is ∙ or_true lists (old f) found.0))
    (λ passed. let first : new f ≡ lists = is ∙ ap (λ (b : Bool). lists || b) passed.0 ∙ or-false lists in
    (λ h. passed.2.1 (sym first ∙ h), λ h. first ∙ passed.2.0 h))
    rest)
    so_far

-- ---- lists of descriptors

-- one more of a list is added
pub one_added : (is_it some more first last old : Bool) → last ≡ (is_it || old) → old ≡ (some || first)
    → more ≡ (some || is_it) → last ≡ (more || first)
one_added is_it some more first last old is before e =
    is ∙ ap (λ (b : Bool). is_it || b) before ∙ turned is_it some first ∙ ap (λ (b : Bool). b || first) (sym e)
  where
    turned : (a b n : Bool) → (a || (b || n)) ≡ ((b || a) || n)
    turned true true n = refl
    turned true false n = refl
    turned false true n = refl
    turned false false n = refl
