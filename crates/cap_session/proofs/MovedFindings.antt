-- The findings of a trace into which steps were put: those of the later lines move down.
use Rattle.std.proofs.Common.{◌≡◌, ℕ, ◌+◌, ◌<◌, ◌≤◌, List, [], ◌++◌, length, map, refl, sym, ap}
use Rattle.std.proofs.Common.{◌∙◌, subst, inl, inr, arith}
use Rattle.std.specs.Prelude.{◌⊎◌, slice_index_or}
use Rattle.std.specs.List.{All, IsAmong}
use Rattle.std.proofs.lemmas.Bool.{lt-ltb, le-ltb}
use Rattle.cap_machine.specs.declared.step.Step.{Step}
use Rattle.cap_machine.specs.declared.verdict.Found.{Found}
use Rattle.cap_machine.specs.State.{State}
use Rattle.cap_machine.specs.History.{ended}
use Rattle.cap_machine.specs.Check.{check, found_at}
use Rattle.cap_machine.specs.Laws.{later}
use Rattle.cap_limits.specs.LimitLaws.{Lacks, NewlyLacks}
use Rattle.cap_limits.proofs.LimitFindings.{In, in_among, among_in, in_left, in_right, in_either, in_map, from_map}
use Rattle.cap_limits.proofs.LimitFindings.{Within, within_all, found_after}
use Rattle.cap_machine.proofs.Positions.{positions_within}
use Rattle.cap_machine.proofs.Turns.{checks_in_turn}
use Rattle.cap_session.specs.LimitTextLaws.{moved}

-- ---- members

pub all_in : {X : Type 0} (new old : List X) → All (IsAmong old) new → Within new old
all_in new old all = record {
  within = λ x is. (let among = among_in new x is in
      subst (In old) (sym among.1.1)
      (in_among old (slice_index_or new among.0 x) (all among.0 x among.1.0)));
}

-- no finding is after the last step
pub found_within : (s : State) (trace : List Step) (x : Found) → In (check s trace) x → x.at ≤ length trace
found_within s trace x is =
    let among = among_in (check s trace) x is in
    let place = positions_within s trace among.0 x among.1.0 in
    subst (λ (r : Found). r.at ≤ length trace) (sym among.1.1) place.1

-- ---- a trace in two parts

pub found_first : (s : State) (first more : List Step) (x : Found) → In (check s first) x
    → In (check s (first ++ more)) x
found_first s first more x is =
    subst (λ (l : List Found). In l x) (sym (checks_in_turn s first more))
    (in_left (check s first) (map (later (length first)) (check (ended s first) more)) x is)

pub found_beyond : (s : State) (first more : List Step) (x : Found) → In (check (ended s first) more) x
    → In (check s (first ++ more)) (later (length first) x)
found_beyond s first more x is =
    subst (λ (l : List Found). In l (later (length first) x)) (sym (checks_in_turn s first more))
    (in_right (check s first) (map (later (length first)) (check (ended s first) more)) (later (length first) x)
    (in_map (later (length first)) (check (ended s first) more) x is))

pub found_where : (s : State) (first more : List Step) (x : Found) → In (check s (first ++ more)) x
    → In (check s first) x ⊎ ((y : Found) × In (check (ended s first) more) y × (x ≡ later (length first) y))
found_where s first more x is =
    elim (in_either (check s first) (map (later (length first)) (check (ended s first) more)) x
    (subst (λ (l : List Found). In l x) (checks_in_turn s first more) is)) [
      | inl here ↦ inl here
      | inr there ↦ inr (from_map (later (length first)) (check (ended s first) more) x there)
    ]

-- ---- where a finding is when lines were put in before line k

pub moved_before : (k n : ℕ) (x : Found) → x.at < k → moved k n x ≡ x
moved_before k n x lt = rw (lt-ltb x.at k lt) refl

pub moved_beyond : (k n m : ℕ) (x : Found) → k ≤ m + x.at → moved k n (later m x) ≡ later m (later n x)
moved_beyond k n m x le =
    let at : m + x.at + n ≡ m + (n + x.at) = omega arith in
    rw (le-ltb (m + x.at) k le) (ap (λ (i : ℕ). found_at i x.finding) at)

module _ (s : State) (before put after : List Step) (k n : ℕ) (place : k ≡ length before + 1)
    (count : n ≡ length put) where
  abbrev there : State
  there = ended s before

  -- a finding of the later steps, when the others were put in
  far : Found → Found
  far x = later (length before) (later (length put) x)

  far_moved : (x : Found) → 1 ≤ x.at
      → moved k n (later (length before) x) ≡ later (length before) (later (length put) x)
  far_moved x low = moved_beyond k n (length before) x (omega (arith, place, low))
      ∙ ap (λ (m : ℕ). later (length before) (later m x)) count

  pub found_far : (x : Found) → In (check (ended there put) after) x
      → In (check s (before ++ (put ++ after))) (later (length before) (later (length put) x))
  found_far x is = found_beyond s before (put ++ after) (later (length put) x) (found_beyond there put after x is)

  -- enough
  enough_by_then : check there put ≡ [] → Within (check (ended there put) after) (check there after) → (x : Found)
      → In (check there (put ++ after)) x
      → In (map (moved k n) (check s (before ++ after))) (later (length before) x)
  enough_by_then silent enough x is = elim (found_where there put after x is) [
    | inl now ↦ absurd (subst (λ (l : List Found). In l x) silent now)
    | inr then ↦
        let old = enough.within then.0 then.1 in
        subst (In (map (moved k n) (check s (before ++ after))))
        (far_moved then.0 (found_after there after then.0 old)
        ∙ ap (later (length before)) (sym then.2))
        (in_map (moved k n) (check s (before ++ after)) (later (length before) then.0)
        (found_beyond s before after then.0 old))
  ]

  pub put_is_enough : check there put ≡ [] → All (IsAmong (check there after)) (check (ended there put) after)
      → All (IsAmong (map (moved k n) (check s (before ++ after)))) (check s (before ++ (put ++ after)))
  put_is_enough silent all =
      let enough = all_in (check (ended there put) after) (check there after) all in
      within_all (check s (before ++ (put ++ after))) (map (moved k n) (check s (before ++ after))) (record {
        within = λ x is. elim (found_where s before (put ++ after) x is) [
          | inl now ↦ subst (In (map (moved k n) (check s (before ++ after))))
              (moved_before k n x (omega (arith, place, found_within s before x now)))
              (in_map (moved k n) (check s (before ++ after)) x (found_first s before after x now))
          | inr then ↦ subst (In (map (moved k n) (check s (before ++ after)))) (sym then.2)
              (enough_by_then silent enough then.0 then.1)
        ];
      })

  -- least
  not_before : (right fd : ℕ) (found other : Found) → 1 ≤ found.at
      → ((x : Found) → IsAmong (check there after) x → x.at ≡ found.at → Lacks x.finding fd right → ⊥)
      → In (check s (before ++ after)) other
      → (moved k n other).at ≡ length before + (length put + found.at) → Lacks other.finding fd right → ⊥
  not_before right fd found other low none is at lacks = elim (found_where s before after other is) [
    | inl now ↦
        let near = found_within s before other now in
        let stays : (moved k n other).at ≡ other.at =
        ap (λ (r : Found). r.at) (moved_before k n other (omega (arith, place, near))) in
        omega (arith, near, stays, at, low)
    | inr then ↦
        let same : other ≡ later (length before) then.0 = then.2 in
        let moves : (moved k n other).at ≡ length before + (length put + then.0.at) =
        ap (λ (r : Found). (moved k n r).at) same
        ∙ ap (λ (r : Found). r.at) (far_moved then.0 (found_after there after then.0 then.1)) in
        none then.0 (among_in (check there after) then.0 then.1) (omega (arith, moves, at))
        (subst (λ (r : Found). Lacks r.finding fd right) same lacks)
  ]

  pub put_newly_lacks : (right : ℕ) → NewlyLacks (check (ended there put) after) (check there after) right
      → NewlyLacks (check s (before ++ (put ++ after))) (map (moved k n) (check s (before ++ after))) right
  put_newly_lacks right (found, fd, is, lacks, none) =
      let new = in_among (check (ended there put) after) found is in
      let low = found_after (ended there put) after found new in (
        later (length before) (later (length put) found),
        fd,
        among_in (check s (before ++ (put ++ after))) (later (length before) (later (length put) found))
            (found_far found new),
        lacks,
        λ other among at lack. (
            let old = from_map (moved k n) (check s (before ++ after)) other
            (in_among (map (moved k n) (check s (before ++ after))) other among) in
            not_before right fd found old.0 low none old.1 (sym (ap (λ (r : Found). r.at) old.2) ∙ at)
            (subst (λ (r : Found). Lacks r.finding fd right) old.2 lack)),
      )
