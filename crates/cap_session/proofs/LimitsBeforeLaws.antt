-- What the lines of the script of a process do to a check of the trace.
use Rattle.std.proofs.Common.{◌≡◌, ℕ, suc, ◌+◌, ◌-◌, ◌<◌, Bool, true, false, List, [], ◌∷◌, ◌++◌, length, map, refl}
use Rattle.std.proofs.Common.{sym, ap, ◌∙◌, subst, inl, inr, arith, length-append, if◌then◌else◌}
use Rattle.std.specs.Prelude.{insert}
use Rattle.std.specs.List.{All, IsAmong}
use Rattle.std.proofs.lemmas.List.{length-map, map-append}
use Rattle.cap_rights.specs.Rights.{holds}
use Rattle.cap_trace.specs.Entry.{Entry}
use Rattle.cap_machine.specs.declared.cell.Profile.{Profile}
use Rattle.cap_limits.specs.declared.limits.Limits.{Limits}
use Rattle.cap_limits.specs.declared.limits.LimitsBefore.TheVariants as there
use Rattle.cap_limits.specs.declared.limits.Entering.{Entering}
use Rattle.cap_limits.specs.declared.limits.Entering.TheVariants.{Inside, Blocked, May}
use Rattle.cap_machine.specs.declared.step.Step.{Step}
use Rattle.cap_machine.specs.declared.verdict.Found.{Found}
use Rattle.cap_machine.specs.declared.verdict.Finding.TheVariants.{Forbidden}
use Rattle.cap_machine.specs.Check.{check, found_at}
use Rattle.cap_machine.specs.History.{ended}
use Rattle.cap_limits.specs.LimitLaws.{script, limit_step, enter_step, MayEnter, HoldsSets, NewlyLacks}
use Rattle.cap_limits.specs.Limits.{Row, IsLimit, row_of, IsEntering}
use Rattle.cap_limits.specs.LimitsBefore.{AreLimitsBefore}
use Rattle.cap_machine.specs.State.{State, Added, start_state}
use Rattle.cap_machine.specs.Steps.{step, steps}
use Rattle.cap_limits.proofs.LimitEnough.{limits_are_enough}
use Rattle.cap_limits.proofs.LimitFindings.{In, in_among, among_in}
use Rattle.cap_limits.proofs.LimitScripts.{scripts_are_least, entering_is_forbidden}
use Rattle.cap_session.specs.LimitScripts.{insertion, enter_line, process_script}
use Rattle.cap_session.specs.LimitScriptLaws.{with_script}
use Rattle.cap_session.specs.LimitStreams.{limits_script}
use Rattle.cap_session.specs.LimitTextLaws.{IsSpelledStart, moved, checked, lines_put, lines_before}
use Rattle.cap_session.specs.LimitTextLaws.{LimitsBeforeAreEnough, LimitsBeforeAreLeast, EnteringBeforeIsForbidden}
use Rattle.cap_session.proofs.LimitCells.{start_holds_sets, holds_sets_along}
use Rattle.cap_session.proofs.LimitStands.{enters, script_stands, script_length}
use Rattle.cap_session.proofs.MovedFindings.{found_within, found_where, found_far, put_is_enough, put_newly_lacks}

abbrev rows : Limits → List Row
rows limits = map row_of limits.held.items

-- the trace in two, at line k, with what is known there of the process
record Place (profile : Profile) (start : List Added) (t : List Entry) (k : ℕ) (limits : Limits) : Type 0 where
  before : List Entry
  after : List Entry
  cut : t ≡ before ++ after
  position : k ≡ length before + 1
  least : All (IsLimit (ended (start_state start) (steps profile before)) (steps profile after) limits.pid)
      (rows limits)
  entering : IsEntering (ended (start_state start) (steps profile before)) k (steps profile after) limits.pid
      limits.entering

place : (profile : Profile) (start : List Added) (t : List Entry) (k : ℕ) (limits : Limits)
    → AreLimitsBefore profile start t k (there.Limits limits) → Place profile start t k limits
place profile start t k limits (before, line, others, cut, position, are, no_start) =
    let s = ended (start_state start) (steps profile before) in
    let after : List Entry = line ∷ others in
    record {
      before = before;
      after = after;
      cut = cut;
      position = position;
      least = subst (λ (p : ℕ). All (IsLimit s (steps profile after) p) (rows limits)) (sym are.pid) are.least;
      entering = subst (λ (p : ℕ). IsEntering s k (steps profile after) p limits.entering) (sym are.pid) are.entering;
    }

may_enter : (e : Entering) (s : State) (k : ℕ) (after : List Step) (p : ℕ) → IsEntering s k after p e
    → enters e ≡ true → MayEnter s after p
may_enter May s k after p is h = is.1
may_enter Inside s k after p is h = absurd cc
may_enter (Blocked n) s k after p is h = absurd cc

script_long : (profile : Profile) (p : ℕ) (held : List Row) (b : Bool)
    → length (script profile p held b) ≡ length held + length (script profile p [] b)
script_long profile p held b =
    let end : List Step = if b then enter_step profile p ∷ [] else [] in
    omega (
      arith,
      length-append (map (limit_step profile p) held) end,
      length-map held (limit_step profile p),
    )

module _ (profile : Profile) (start : List Added) (t : List Entry) (k : ℕ) (limits : Limits)
    (spelled : IsSpelledStart start) (here : Place profile start t k limits) where
  abbrev first : List Step
  first = steps profile here.before

  abbrev more : List Step
  more = steps profile here.after

  abbrev known : State
  known = ended (start_state start) first

  -- the steps that are put in with these rows
  abbrev put : List Row → List Step
  put held = script profile limits.pid held (enters limits.entering)

  abbrev count : ℕ
  count = lines_put (limits_script t k limits)

  position : k ≡ length first + 1
  position = omega (arith, here.position, length-map here.before (step profile))

  counted : count ≡ length (put (rows limits))
  counted = script_length profile t limits.pid k (rows limits) (map row_of limits.unknown.items) limits.entering

  sets : HoldsSets known
  sets = holds_sets_along (start_state start) first (start_holds_sets start spelled)

  checked_without : checked profile start t ≡ check (start_state start) (first ++ more)
  checked_without = ap (λ (u : List Entry). checked profile start u) here.cut
      ∙ ap (check (start_state start)) (map-append (step profile) here.before here.after)

  checked_with : (held unknown : List Row) (e : Entering)
      → checked profile start (with_script t (process_script t limits.pid k held unknown e))
      ≡ check (start_state start) (first ++ (script profile limits.pid held (enters e) ++ more))
  checked_with held unknown e = ap (check (start_state start))
      (script_stands profile t here.before here.after limits.pid k held unknown e here.cut here.position)

  enough : All (IsAmong (map (moved k count) (checked profile start t)))
      (checked profile start (with_script t (limits_script t k limits)))
  enough =
      let is = limits_are_enough profile known more limits.pid (rows limits) (enters limits.entering) sets here.least
      (may_enter limits.entering known k more limits.pid here.entering) in
      subst (λ (new : List Found). All (IsAmong (map (moved k count) (checked profile start t))) new)
      (sym (checked_with (rows limits) (map row_of limits.unknown.items) limits.entering))
      (subst (λ (old : List Found).
      All (IsAmong (map (moved k count) old)) (check (start_state start) (first ++ (put (rows limits) ++ more))))
      (sym checked_without)
      (put_is_enough (start_state start) first (put (rows limits)) more k count position counted is.0 is.1))

  least : (some others : List Row) (f rights fewer right : ℕ) → rows limits ≡ some ++ (f, rights) ∷ others
      → right < 63 → holds rights right ≡ true → holds fewer right ≡ false →
      NewlyLacks (checked profile start (with_script t (lines_before t k limits (some ++ (f, fewer) ∷ others))))
      (map (moved k count) (checked profile start t)) right
  least some others f rights fewer right is lt has lacks =
      let held : List Row = some ++ (f, rights) ∷ others in
      let less : List Row = some ++ (f, fewer) ∷ others in
      let new = scripts_are_least profile known more limits.pid some others (enters limits.entering) f rights fewer
      right sets lt (subst (λ (l : List Row). All (IsLimit known more limits.pid) l) is here.least) has lacks in
      let as_long : length (rows limits) ≡ length less =
      ap (λ (l : List Row). length l) is
      ∙ (omega (arith, length-append some ((f, rights) ∷ others), length-append some ((f, fewer) ∷ others))) in
      let counted_less : count ≡ length (put less) =
      omega (
        arith,
        counted,
        script_long profile limits.pid (rows limits) (enters limits.entering),
        script_long profile limits.pid less (enters limits.entering),
        as_long,
      ) in
      subst (λ (l : List Found). NewlyLacks l (map (moved k count) (checked profile start t)) right)
      (sym (checked_with less [] limits.entering))
      (subst (λ (old : List Found).
      NewlyLacks (check (start_state start) (first ++ (put less ++ more))) (map (moved k count) old) right)
      (sym checked_without)
      (put_newly_lacks (start_state start) first (put less) more k count position counted_less right new))

  -- the trace with the entering alone
  checked_entered : checked profile start (with_script t (insertion k (enter_line limits.pid) ∷ []))
      ≡ check (start_state start) (first ++ (script profile limits.pid [] true ++ more))
  checked_entered =
      let same : k - 1 ≡ k + 0 - 1 = omega arith in
      ap (λ (i : ℕ). checked profile start (insert t i (enter_line limits.pid))) same ∙ checked_with [] [] May

  -- the line in the way, counted from line k, is forbidden then
  forbidden : (n m : ℕ) → n ≡ k + m
      → IsAmong (check (ended known (script profile limits.pid [] true)) more) (found_at (suc m) Forbidden)
      → IsAmong (checked profile start (with_script t (insertion k (enter_line limits.pid) ∷ [])))
      (found_at (n + 1) Forbidden)
  forbidden n m at is =
      let entered : List Step = script profile limits.pid [] true in
      let trace : List Step = first ++ (entered ++ more) in
      let new = found_far (start_state start) first entered more k 1 position refl (found_at (suc m) Forbidden)
      (in_among (check (ended known entered) more) (found_at (suc m) Forbidden) is) in
      let there : length first + (1 + suc m) ≡ n + 1 = omega (arith, position, at) in
      subst (λ (l : List Found). IsAmong l (found_at (n + 1) Forbidden)) (sym checked_entered)
      (among_in (check (start_state start) trace) (found_at (n + 1) Forbidden)
      (subst (λ (i : ℕ). In (check (start_state start) trace) (found_at i Forbidden)) there new))

  -- where it wasn't from there, it wasn't in the whole trace
  not_forbidden : (n m : ℕ) → n ≡ k + m → (IsAmong (check known more) (found_at (suc m) Forbidden) → ⊥)
      → IsAmong (checked profile start t) (found_at n Forbidden) → ⊥
  not_forbidden n m at none is =
      let old = in_among (check (start_state start) (first ++ more)) (found_at n Forbidden)
      (subst (λ (l : List Found). IsAmong l (found_at n Forbidden)) checked_without is) in
      elim (found_where (start_state start) first more (found_at n Forbidden) old) [
        | inl now ↦
            let near = found_within (start_state start) first (found_at n Forbidden) now in
            omega (arith, near, position, at)
        | inr beyond ↦
            let there : n ≡ length first + beyond.0.at = ap (λ (r : Found). r.at) beyond.2 in
            let place : beyond.0.at ≡ suc m = omega (arith, there, position, at) in
            let same : beyond.0 ≡ found_at (suc m) Forbidden = ap (λ (i : ℕ). found_at i beyond.0.finding) place
            ∙ ap (λ (r : Found). found_at (suc m) r.finding) (sym beyond.2) in
            none (subst (IsAmong (check known more)) same (among_in (check known more) beyond.0 beyond.1))
      ]

  entering : (n : ℕ) → IsEntering known k more limits.pid (Blocked n)
      → IsAmong (checked profile start (with_script t (insertion k (enter_line limits.pid) ∷ [])))
      (found_at (n + 1) Forbidden)
      × (IsAmong (checked profile start t) (found_at n Forbidden) → ⊥)
  entering n (outside, (m, at, blocks, earlier)) =
      let is = entering_is_forbidden profile known more limits.pid [] m blocks outside in
      (forbidden n m at is.0, not_forbidden n m at is.1)

pub limits_before_are_enough : LimitsBeforeAreEnough
limits_before_are_enough profile start t k limits spelled proper are =
    enough profile start t k limits spelled (place profile start t k limits are)

pub limits_before_are_least : LimitsBeforeAreLeast
limits_before_are_least profile start t k limits some others f rights fewer right spelled proper are =
    least profile start t k limits spelled (place profile start t k limits are) some others f rights fewer right

pub entering_before_is_forbidden : EnteringBeforeIsForbidden
entering_before_is_forbidden profile start t k n limits spelled proper are blocked =
    let here = place profile start t k limits are in
    entering profile start t k limits spelled here n
    (subst (IsEntering (ended (start_state start) (steps profile here.before)) k (steps profile here.after) limits.pid)
    blocked here.entering)
