-- Limits at many places of a trace.
use Rattle.std.proofs.Common.{◌≡◌, ℕ, ◌<◌, ◌==◌, Bool, true, false, ◌&&◌, ◌||◌, if◌then◌else◌, List, [], ◌∷◌, ◌++◌}
use Rattle.std.proofs.Common.{map, refl, sym, ap, ◌∙◌, subst, inl, inr, arith}
use Rattle.std.specs.List.{All}
use Rattle.std.proofs.lemmas.Nat.{and_le_l}
use Rattle.std.proofs.lemmas.Bool.{and_from, and_parts, and_right, or_left, eqb-true, eq-eqb}
use Rattle.std.proofs.lemmas.List.Elements.{All-head, All-tail}
use Rattle.cap_rights.specs.Rights.{holds, meet, without_full}
use Rattle.cap_machine.specs.declared.cell.Profile.{Profile}
use Rattle.cap_machine.specs.declared.cell.OnExec.{OnExec}
use Rattle.cap_machine.specs.declared.cell.Cell.TheVariants.{Held}
use Rattle.cap_machine.specs.declared.step.Step.{Step}
use Rattle.cap_machine.specs.State.{State}
use Rattle.cap_machine.specs.Op.{applied, limit, masked}
use Rattle.cap_machine.specs.Touch.{kept, taken, touch}
use Rattle.cap_machine.specs.History.{ended, touched, step_after}
use Rattle.cap_machine.specs.Check.{check, said}
use Rattle.cap_limits.specs.Live.{Live, Passes, step_needs}
use Rattle.cap_limits.specs.LimitLaws.{limit_step, HoldsSets, Limited, limits_after}
use Rattle.cap_limits.specs.Limits.{Row, IsLimit}
use Rattle.cap_limits.specs.LimitLaws.{without_limits, with_limits, AreLimits, NoneNew, AllLimitsAreEnough}
use Rattle.cap_limits.specs.LimitLaws.{AllLimitsAreLeast}
use Rattle.cap_limits.proofs.LimitBits.{meet_holds, without_full_holds, masked_from, rights_of_cell}
use Rattle.cap_limits.proofs.LimitFindings.{within_all, NewIn, newly_in, new_later}
use Rattle.cap_limits.proofs.LimitLeast.{handed, Differ, least}
use Rattle.cap_limits.proofs.LimitBeside.{Enough, enough_itself, said_within, enough_after}
use Rattle.cap_limits.proofs.LimitEnough.{as_limit, same_flag, limit_held, ended_first, enough_limited}
use Rattle.cap_limits.proofs.LimitEnough.{rows_are_enough}
use Rattle.cap_limits.proofs.LimitSets.{holds_sets_after}

-- ---- enough

module _ (profile : Profile) (place : Limited) (places : List Limited) (old new : State)
    (enough : Enough (without_limits (place ∷ places)) old new) (sets : HoldsSets old)
    (are : AreLimits old (place ∷ places)) where
  next_enough : Enough (without_limits places) (step_after place.0 old) (step_after place.0 new)
  next_enough = enough_after place.0 (without_limits places) old new enough

  next_rows : check (step_after place.0 new) (limits_after profile place) ≡ []
  next_rows = (rows_are_enough profile (without_limits places) (step_after place.0 old) place.0.line.pid place.1
      (step_after place.0 new) next_enough (holds_sets_after place.0 old sets) are.0).silent

  limited_enough : Enough (without_limits places) (step_after place.0 old)
      (ended (step_after place.0 new) (limits_after profile place))
  limited_enough = (rows_are_enough profile (without_limits places) (step_after place.0 old) place.0.line.pid place.1
      (step_after place.0 new) next_enough (holds_sets_after place.0 old sets) are.0).enough

none_new : (profile : Profile) (places : List Limited) (old new : State) → Enough (without_limits places) old new
    → HoldsSets old → AreLimits old places → NoneNew profile old new places
none_new profile [] old new enough sets are = tt
none_new profile (place ∷ places) old new enough sets are = (
  within_all (said place.0 new) (said place.0 old) (said_within place.0 (without_limits places) old new enough),
  next_rows profile place places old new enough sets are,
  subst (λ (r : State). NoneNew profile (step_after place.0 old) r places)
      (sym (ended_first new place.0 (limits_after profile place)))
      (none_new profile places (step_after place.0 old) (ended (step_after place.0 new) (limits_after profile place))
      (limited_enough profile place places old new enough sets are) (holds_sets_after place.0 old sets) are.1),
)

pub all_limits_are_enough : AllLimitsAreEnough
all_limits_are_enough profile s places sets are =
    none_new profile places s s (enough_itself (without_limits places) s) sets are

-- ---- what is live without limits is live with them

-- the limit asks for the right itself
limit_asks : (profile : Profile) (later : List Step) (s : State) (me : ℕ) (row : Row) (p f rights k : ℕ) (x : OnExec)
    → k < 63 → s.cell p f ≡ Held rights x → holds rights k ≡ true → Live later p f x k → IsLimit s later me row
    → p ≡ me → f ≡ row.0 → step_needs (limit_step profile me row) p f k ≡ true
limit_asks profile later s me row p f rights k x lt is has alive limits process descriptor =
    let same : Held rights x ≡ Held limits.0 limits.1 =
    sym is ∙ ap (λ (q : ℕ). s.cell q f) process ∙ ap (s.cell me) descriptor ∙ limits.2 in
    let flag : x ≡ limits.1 = same_flag rights limits.0 x limits.1 same in
    let has_too : holds limits.0 k ≡ true = sym (ap (λ (r : ℕ). holds r k) (ap rights_of_cell same)) ∙ has in
    let alive_too : Live later me row.0 limits.1 k =
    subst (λ (y : OnExec). Live later me row.0 y k) flag
    (subst (λ (g : ℕ). Live later me g x k) descriptor (subst (λ (q : ℕ). Live later q f x k) process alive)) in
    let asked : holds row.1 k ≡ true = (limits.3.1 k lt).1 (has_too, alive_too) in
    and_from (p == me) ((row.0 == f && holds (without_full row.1) k) || false) (eq-eqb p me process)
    (or_left (row.0 == f && holds (without_full row.1) k) false
    (and_from (row.0 == f) (holds (without_full row.1) k) (eq-eqb row.0 f (sym descriptor))
    (without_full_holds row.1 k lt ∙ asked)))

live_past_rows : (profile : Profile) (later tail : List Step) (s : State) (me : ℕ) (rows : List Row)
    (p f rights k : ℕ) (x : OnExec) → k < 63 → s.cell p f ≡ Held rights x → holds rights k ≡ true → Live later p f x k
    → All (IsLimit s later me) rows → Live tail p f x k → Live (map (limit_step profile me) rows ++ tail) p f x k
live_past_rows profile later tail s me [] p f rights k x lt is has alive are live_tail = live_tail
live_past_rows profile later tail s me (row ∷ rows) p f rights k x lt is has alive are live_tail =
    by (p == me && f == row.0) refl (live_past_rows profile later tail s me rows p f rights k x lt is has alive
    (All-tail (IsLimit s later me) row rows are) live_tail)
  where
    by : (b : Bool) → (p == me && f == row.0) ≡ b → Live (map (limit_step profile me) rows ++ tail) p f x k
        → Live (map (limit_step profile me) (row ∷ rows) ++ tail) p f x k
    by true there rest =
        let parts = and_parts (p == me) (f == row.0) there in
        inl (limit_asks profile later s me row p f rights k x lt is has alive
        (All-head (IsLimit s later me) row rows are)
        (eqb-true p me parts.0) (eqb-true f row.0 parts.1))
    by false there rest = inr (
      p,
      f,
      x,
      subst (λ (b : Bool). Passes (if b then taken (limit row.1) me row.0 else kept) p f x p f x k) (sym there)
          (refl, refl, refl),
      rest,
    )

live_with_limits : (profile : Profile) (places : List Limited) (s : State) (p f rights k : ℕ) (x : OnExec) → k < 63
    → s.cell p f ≡ Held rights x → holds rights k ≡ true → AreLimits s places → Live (without_limits places) p f x k
    → Live (with_limits profile places) p f x k
live_with_limits profile [] s p f rights k x lt is has are alive = absurd alive
live_with_limits profile (place ∷ places) s p f rights k x lt is has are (inl needs) = inl needs
live_with_limits profile (place ∷ places) s p f rights k x lt is has are (inr rest) =
    let h = handed (touch place.0 rest.0 rest.1) p f x rest.0 rest.1 rest.2 k lt rest.3 in
    let next = step_after place.0 s in
    let left = masked h.mask rights in
    let is_next : next.cell rest.0 rest.1 ≡ Held left rest.2 = h.becomes s.cell rights is in
    let has_next : holds left k ≡ true = masked_from h.mask rights k lt h.leaves has in
    inr (
      rest.0,
      rest.1,
      rest.2,
      rest.3,
      live_past_rows profile (without_limits places) (with_limits profile places) next place.0.line.pid place.1
          rest.0 rest.1 left k rest.2 lt is_next has_next rest.4 are.0
          (live_with_limits profile places next rest.0 rest.1 left k rest.2 lt is_next has_next are.1 rest.4),
    )

-- ---- least

pub limited_cell : (profile : Profile) (s : State) (p f asked rights : ℕ) (x : OnExec) → s.cell p f ≡ Held rights x
    → (step_after (limit_step profile p (f, asked)) s).cell p f ≡ Held (meet rights asked) x
limited_cell profile s p f asked rights x is =
    subst (λ (b : Bool). touched (if b then taken (limit asked) p f else kept) s.cell p f ≡ Held (meet rights asked) x)
    (sym (and_from (p == p) (f == f) (eq-eqb p p refl) (eq-eqb f f refl)))
    (ap (applied (limit asked)) is ∙ limit_held asked rights x)

-- a finding after more steps
new_beyond : (k : ℕ) (first : List Step) (s : State) (after before : List Step)
    → NewIn (check (ended s first) after) (check (ended s first) before) k
    → NewIn (check s (first ++ after)) (check s (first ++ before)) k
new_beyond k [] s after before h = h
new_beyond k (step ∷ first) s after before h =
    new_later s s step step (first ++ before) (first ++ after) k
    (new_beyond k first (step_after step s) after before
    (subst (λ (r : State). NewIn (check r after) (check r before) k) (ended_first s step first) h))

-- a row with one right less, among all others
module _ (profile : Profile) (after : List Limited) (more : List Row) (f rights fewer k : ℕ) (lt : k < 63)
    (has : holds rights k ≡ true) (lacks : holds fewer k ≡ false) where
  abbrev later : List Step
  later = without_limits after

  abbrev beyond : ℕ → List Row → List Step
  beyond p rows = map (limit_step profile p) rows ++ with_limits profile after

  row_lacks : (p : ℕ) (old new : State) → Enough later old new → HoldsSets old
      → All (IsLimit old later p) ((f, rights) ∷ more) → AreLimits old after
      → NewIn (check new (beyond p ((f, fewer) ∷ more))) (check new (beyond p ((f, rights) ∷ more))) k
  row_lacks p old new enough sets rows are =
      let is = All-head (IsLimit old later p) (f, rights) more rows in
      let just = as_limit (Live later p f) (old.cell p f) (new.cell p f) is.0 is.1 is.2 (sets p f is.0 is.1 is.2) rights
      is.3.1 (enough.cells p f) in
      let less = just.less in
      let parts = (is.3.1 k lt).0 has in
      let flag : is.1 ≡ less.flag = same_flag is.0 less.rights is.1 less.flag (sym is.2 ∙ less.is) in
      let good = limit_step profile p (f, rights) in
      let bad = limit_step profile p (f, fewer) in
      let tail = beyond p more in
      let alive : Live tail p f is.1 k =
      live_past_rows profile later (with_limits profile after) old p more p f is.0 k is.1 lt is.2 parts.0 parts.1
      (All-tail (IsLimit old later p) (f, rights) more rows)
      (live_with_limits profile after old p f is.0 k is.1 lt is.2 parts.0 are parts.1) in
      let differ : Differ (step_after good new) (step_after bad new) p f k less.flag = record {
        rights = meet less.fewer rights;
        fewer = meet less.fewer fewer;
        is = limited_cell profile new p f rights less.fewer less.flag less.is_less;
        is_less = limited_cell profile new p f fewer less.fewer less.flag less.is_less;
        set = omega (arith, and_le_l less.fewer rights, less.set_less);
        set_less = omega (arith, and_le_l less.fewer fewer, less.set_less);
        has = meet_holds less.fewer rights k
            ∙ and_from (holds less.fewer k) (holds rights k) (just.only k lt has) has;
        lacks = meet_holds less.fewer fewer k ∙ and_right (holds less.fewer k) (holds fewer k) lacks;
      } in
      new_later new new bad good tail tail k
      (least tail (step_after good new) (step_after bad new) p f k less.flag lt differ
      (subst (λ (y : OnExec). Live tail p f y k) flag alive))

  some_lack : (some : List Row) (p : ℕ) (old new : State) → Enough later old new → HoldsSets old
      → All (IsLimit old later p) (some ++ (f, rights) ∷ more) → AreLimits old after
      → NewIn (check new (beyond p (some ++ (f, fewer) ∷ more))) (check new (beyond p (some ++ (f, rights) ∷ more))) k
  some_lack [] p old new enough sets rows are = row_lacks p old new enough sets rows are
  some_lack (row ∷ some) p old new enough sets rows are =
      let first = limit_step profile p row in
      new_later new new first first (beyond p (some ++ (f, rights) ∷ more)) (beyond p (some ++ (f, fewer) ∷ more)) k
      (some_lack some p old (step_after first new)
      (enough_limited profile later old new p row enough sets
      (All-head (IsLimit old later p) row (some ++ (f, rights) ∷ more) rows)) sets
      (All-tail (IsLimit old later p) row (some ++ (f, rights) ∷ more) rows) are)

  place_lacks : (some : List Row) (step : Step) (before : List Limited) (old new : State)
      → Enough (without_limits (before ++ (step, some ++ (f, rights) ∷ more) ∷ after)) old new → HoldsSets old
      → AreLimits old (before ++ (step, some ++ (f, rights) ∷ more) ∷ after)
      → NewIn (check new (with_limits profile (before ++ (step, some ++ (f, fewer) ∷ more) ∷ after)))
      (check new (with_limits profile (before ++ (step, some ++ (f, rights) ∷ more) ∷ after))) k
  place_lacks some step [] old new enough sets are =
      let p = step.line.pid in
      new_later new new step step (beyond p (some ++ (f, rights) ∷ more)) (beyond p (some ++ (f, fewer) ∷ more)) k
      (some_lack some p (step_after step old) (step_after step new) (enough_after step later old new enough)
      (holds_sets_after step old sets) are.0 are.1)
  place_lacks some step (place ∷ before) old new enough sets are =
      let good : List Limited = before ++ (step, some ++ (f, rights) ∷ more) ∷ after in
      let bad : List Limited = before ++ (step, some ++ (f, fewer) ∷ more) ∷ after in
      let limits = limits_after profile place in
      new_later new new place.0 place.0 (limits ++ with_limits profile good) (limits ++ with_limits profile bad) k
      (new_beyond k limits (step_after place.0 new) (with_limits profile bad) (with_limits profile good)
      (place_lacks some step before (step_after place.0 old) (ended (step_after place.0 new) limits)
      (limited_enough profile place good old new enough sets are) (holds_sets_after place.0 old sets) are.1))

pub all_limits_are_least : AllLimitsAreLeast
all_limits_are_least profile s before after step some more f rights fewer k sets lt are has lacks =
    let good : List Limited = before ++ (step, some ++ (f, rights) ∷ more) ∷ after in
    let bad : List Limited = before ++ (step, some ++ (f, fewer) ∷ more) ∷ after in
    newly_in (check s (with_limits profile bad)) (check s (with_limits profile good)) k
    (place_lacks profile after more f rights fewer k lt has lacks some step before s s
    (enough_itself (without_limits good) s) sets are)
