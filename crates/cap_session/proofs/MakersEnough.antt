-- With the limits of makers in it, a trace has only the findings that it had, at the lines where they were.
use Rattle.std.proofs.Common.{◌≡◌, ℕ, ◌+◌, ◌<◌, ◌≤◌, true, false, List, [], ◌∷◌, ◌++◌, length, map, refl, sym, ap, ◌∙◌}
use Rattle.std.proofs.Common.{subst, inl, inr, arith}
use Rattle.std.specs.Prelude.{nat_lt}
use Rattle.std.specs.List.{All, IsAmong}
use Rattle.std.proofs.lemmas.Bool.{lt-ltb, le-ltb}
use Rattle.std.proofs.lemmas.List.{length-append, length-map}
use Rattle.cap_machine.specs.declared.cell.Profile.{Profile}
use Rattle.cap_limits.specs.declared.makers.MakerRow.{MakerRow}
use Rattle.cap_limits.specs.declared.makers.MakerRow.TheVariants as made
use Rattle.cap_machine.specs.declared.step.Step.{Step}
use Rattle.cap_machine.specs.declared.verdict.Finding.{Finding}
use Rattle.cap_machine.specs.declared.verdict.Found.{Found}
use Rattle.cap_machine.specs.Check.{check, said, found_at}
use Rattle.cap_machine.specs.History.{ended, step_after}
use Rattle.cap_machine.specs.Laws.{later}
use Rattle.cap_limits.specs.LimitLaws.{NoneNew, limit_step, limits_after, with_limits}
use Rattle.cap_limits.specs.Makers.{row_place}
use Rattle.cap_machine.specs.State.{State}
use Rattle.cap_machine.specs.Steps.{step, steps}
use Rattle.cap_limits.proofs.LimitEnough.{ended_first}
use Rattle.cap_limits.proofs.LimitFindings.{In, in_map, within_all, found_after, found_now, found_later, found_when}
use Rattle.cap_session.specs.LimitTextLaws.{lines_above, moved_down}
use Rattle.cap_session.proofs.MakerPlaces.{AreAt}
use Rattle.cap_session.proofs.MakerSpots.{Spot, lines_of, made_in, AreAligned, maker_row, rows_of}
use Rattle.cap_session.proofs.MakerSpots.{limited, all_limited}
use Rattle.cap_session.proofs.MovedFindings.{all_in, found_where}

-- ---- how many lines stand above a position

above_both : (xs ys : List MakerRow) (n : ℕ) → lines_above (xs ++ ys) n ≡ lines_above xs n + lines_above ys n
above_both [] ys n = omega arith
above_both (made.Held limit ∷ xs) ys n = omega (arith, above_both xs ys n)
above_both (made.Unknown limit ∷ xs) ys n = above_both xs ys n

own_none : (own : List MakerRow) (at p n : ℕ) → AreAt at p (map row_place own) → n ≤ at → lines_above own n ≡ 0
own_none [] at p n are le = refl
own_none (made.Held limit ∷ more) at p n are le =
    let no : nat_lt limit.at n ≡ false = le-ltb limit.at n (omega (arith, are.0.0, le)) in
    rw no (omega (arith, own_none more at p n are.1 le))
own_none (made.Unknown limit ∷ more) at p n are le = own_none more at p n are.1 le

own_all : (own : List MakerRow) (at p n : ℕ) → AreAt at p (map row_place own) → at < n
    → lines_above own n ≡ length (rows_of own)
own_all [] at p n are lt = refl
own_all (made.Held limit ∷ more) at p n are lt =
    let yes : nat_lt limit.at n ≡ true = lt-ltb limit.at n (omega (arith, are.0.0, lt)) in
    rw yes (omega (
      arith,
      length-append (rows_of more) (maker_row limit ∷ []),
      own_all more at p n are.1 lt,
    ))
own_all (made.Unknown limit ∷ more) at p n are lt = own_all more at p n are.1 lt

none_above : (spots : List Spot) (at n : ℕ) → AreAligned at spots → n ≤ at → lines_above (made_in spots) n ≡ 0
none_above [] at n are le = refl
none_above (spot ∷ more) at n are le =
    omega (
      arith,
      above_both (made_in more) spot.1 n,
      none_above more (at + 1) n are.1 (omega (arith, le)),
      own_none spot.1 at spot.0.pid n are.0 le,
    )

-- ---- side by side

-- a finding is one of these, moved down by the lines above it; so many lines stand before the first
record Was (limits : List MakerRow) (d : ℕ) (old : List Found) (x : Found) : Type 0 where
  found : Found
  is_old : In old found
  place : x.at ≡ found.at + lines_above limits (d + found.at)
  same : x.finding ≡ found.finding

module _ (profile : Profile) (spot : Spot) (spots : List Spot) (d : ℕ) (old new : State)
    (aligned : AreAligned (d + 1) (spot ∷ spots)) where
  abbrev first : Step
  first = step profile spot.0

  abbrev limits : List MakerRow
  limits = made_in spots ++ spot.1

  abbrev trace : List Step
  trace = steps profile (lines_of (spot ∷ spots))

  was_now : (y : Finding) → In (said first old) y → Was limits d (check old trace) (found_at 1 y)
  was_now y is = record {
    found = found_at 1 y;
    is_old = found_now old first (steps profile (lines_of spots)) y is;
    place = omega (arith, none_above (spot ∷ spots) (d + 1) (d + 1) aligned (omega arith));
    same = refl;
  }

  was_later : (x : Found)
      → Was (made_in spots) (d + 1) (check (step_after first old) (steps profile (lines_of spots))) x
      → Was limits d (check old trace) (later 1 (later (length (limits_after profile (limited profile spot))) x))
  was_later x was =
      let more : List Step = steps profile (lines_of spots) in
      let o = was.found in
      let low = found_after (step_after first old) more o was.is_old in
      let n : ℕ = d + (1 + o.at) in
      let there : lines_above (made_in spots) (d + 1 + o.at) ≡ lines_above (made_in spots) n =
      ap (lines_above (made_in spots)) (omega arith) in
      record {
        found = later 1 o;
        is_old = found_later old first more o was.is_old;
        place = omega (
          arith,
          was.place,
          there,
          above_both (made_in spots) spot.1 n,
          own_all spot.1 (d + 1) spot.0.pid n aligned.0 (omega (arith, low)),
          length-map (rows_of spot.1) (limit_step profile spot.0.pid),
        );
        same = was.same;
      }

was : (profile : Profile) (spots : List Spot) (d : ℕ) (old new : State) (x : Found) → AreAligned (d + 1) spots
    → NoneNew profile old new (all_limited profile spots)
    → In (check new (with_limits profile (all_limited profile spots))) x
    → Was (made_in spots) d (check old (steps profile (lines_of spots))) x
was profile [] d old new x aligned none is = absurd is
was profile (spot ∷ spots) d old new x aligned none is =
    let first = step profile spot.0 in
    let rows = limits_after profile (limited profile spot) in
    let places = all_limited profile spots in
    let next = step_after first new in
    let trace : List Step = steps profile (lines_of (spot ∷ spots)) in
    let W : Found → Type 0 = Was (made_in (spot ∷ spots)) d (check old trace) in
    elim (found_when new first (rows ++ with_limits profile places) x is) [
      | inl now ↦ subst W (sym now.2) (was_now profile spot spots d old new aligned now.0
          ((all_in (said first new) (said first old) none.0).within now.0 now.1))
      | inr beyond ↦ elim (found_where next rows (with_limits profile places) beyond.0 beyond.1) [
        | inl silent ↦ absurd (subst (λ (l : List Found). In l beyond.0) none.1 silent)
        | inr far ↦
            let rest : NoneNew profile (step_after first old) (ended next rows) places =
            subst (λ (r : State). NoneNew profile (step_after first old) r places) (ended_first new first rows)
            none.2 in
            let inner = was profile spots (d + 1) (step_after first old) (ended next rows) far.0 aligned.1 rest far.1 in
            subst W (sym (beyond.2 ∙ ap (later 1) far.2))
            (was_later profile spot spots d old new aligned far.0 inner)
      ]
    ]

pub within_spots : (profile : Profile) (spots : List Spot) (s : State) → AreAligned 1 spots
    → NoneNew profile s s (all_limited profile spots)
    → All (IsAmong (map (moved_down (made_in spots)) (check s (steps profile (lines_of spots)))))
    (check s (with_limits profile (all_limited profile spots)))
within_spots profile spots s aligned none =
    let limits : List MakerRow = made_in spots in
    let old : List Found = check s (steps profile (lines_of spots)) in
    let new : List Found = check s (with_limits profile (all_limited profile spots)) in
    within_all new (map (moved_down limits) old) (record {
      within = λ x is. (let h = was profile spots 0 s s x aligned none is in
          let above : lines_above limits (0 + h.found.at) ≡ lines_above limits h.found.at =
          ap (lines_above limits) (omega arith) in
          let place : h.found.at + lines_above limits h.found.at ≡ x.at = omega (arith, above, h.place) in
          let same : moved_down limits h.found ≡ x =
          ap (λ (i : ℕ). found_at i h.found.finding) place ∙ ap (found_at x.at) (sym h.same) in
          subst (In (map (moved_down limits) old)) same (in_map (moved_down limits) old h.found h.is_old));
    })
