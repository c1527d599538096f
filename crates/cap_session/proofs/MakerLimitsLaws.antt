-- What the lines of the script of makers do to a check of the trace.
use Rattle.std.proofs.Common.{◌≡◌, ℕ, suc, ◌+◌, ◌<◌, true, false, List, [], ◌∷◌, ◌++◌, length, map, refl, sym, ap, ◌∙◌}
use Rattle.std.proofs.Common.{subst, inl, inr, arith, append_assoc, drop, get_or}
use Rattle.std.specs.Prelude.{◌⊎◌}
use Rattle.std.specs.List.{All, IsAmong}
use Rattle.std.proofs.lemmas.List.{map-append, append-nil}
use Rattle.cap_rights.specs.Rights.{holds}
use Rattle.cap_trace.specs.Entry.{Entry}
use Rattle.cap_machine.specs.declared.cell.Profile.{Profile}
use Rattle.cap_limits.specs.declared.makers.MakerLimit.{MakerLimit}
use Rattle.cap_limits.specs.declared.makers.MakerRow.{MakerRow}
use Rattle.cap_limits.specs.declared.makers.MakerRow.TheVariants as made
use Rattle.cap_machine.specs.declared.verdict.Found.{Found}
use Rattle.cap_machine.specs.Check.{check}
use Rattle.cap_limits.specs.LimitLaws.{Limited, HoldsSets, AreLimits, NewlyLacks, with_limits}
use Rattle.cap_limits.specs.Limits.{Row}
use Rattle.cap_limits.specs.Makers.{Place, place_of, row_place}
use Rattle.cap_machine.specs.State.{Added, start_state}
use Rattle.cap_machine.specs.Steps.{step}
use Rattle.cap_limits.proofs.LimitPlaces.{all_limits_are_enough, all_limits_are_least}
use Rattle.cap_session.specs.LimitScripts.{makers_script}
use Rattle.cap_session.specs.LimitScriptLaws.{with_script}
use Rattle.cap_session.specs.LimitTextLaws.{checked, moved_down, MakerLimitsAreEnough, MakerLimitsAreLeast}
use Rattle.cap_session.proofs.LimitCells.{start_holds_sets}
use Rattle.cap_session.proofs.MakersEnough.{within_spots}
use Rattle.cap_session.proofs.MakerPlaces.{AreAt}
use Rattle.cap_session.proofs.MakerSpots.{Spot, lines_of, made_in, AreAligned, maker_row, rows_of, rows_among}
use Rattle.cap_session.proofs.MakerSpots.{limited, all_limited, makers_steps, spots_of}

-- ---- enough

pub maker_limits_are_enough : MakerLimitsAreEnough
maker_limits_are_enough profile start t limits spelled proper are =
    let s = start_state start in
    let its = spots_of profile s 1 t limits are in
    let none = all_limits_are_enough profile s (all_limited profile its.spots) (start_holds_sets start spelled)
    its.are in
    let script = makers_script (made_in its.spots) in
    let Enough : List MakerRow → List Entry → List Found → Type 0 =
    λ l u new. All (IsAmong (map (moved_down l) (checked profile start u))) new in
    let enough : Enough (made_in its.spots) (lines_of its.spots)
    (checked profile start (with_script (lines_of its.spots) script)) =
    subst (Enough (made_in its.spots) (lines_of its.spots))
    (sym (ap (check s) (makers_steps profile its.spots its.aligned)))
    (within_spots profile its.spots s its.aligned none) in
    subst (λ (l : List MakerRow). Enough l t (checked profile start (with_script t (makers_script l)))) its.all
    (subst (λ (u : List Entry). Enough (made_in its.spots) u (checked profile start (with_script u script)))
    its.lines enough)

-- ---- one limit among all others

-- an element of two lists, one after the other, is in one of them
split : {X : Type 0} (xs ys some more : List X) (x : X) → xs ++ ys ≡ some ++ x ∷ more
    → ((u : List X) × (xs ≡ some ++ x ∷ u) × (more ≡ u ++ ys))
    ⊎ ((u : List X) × (some ≡ xs ++ u) × (ys ≡ u ++ x ∷ more))
split [] ys some more x e = inr (some, refl, e)
split (y ∷ xs) ys [] more x e =
    let head : y ≡ x = ap (λ l. get_or l 0 y) e in
    let tail : xs ++ ys ≡ more = ap (drop 1) e in
    inl (xs, ap (λ z. z ∷ xs) head, sym tail)
split (y ∷ xs) ys (z ∷ some) more x e =
    let head : y ≡ z = ap (λ l. get_or l 0 y) e in
    let tail : xs ++ ys ≡ some ++ x ∷ more = ap (drop 1) e in
    elim (split xs ys some more x tail) [
      | inl first ↦ inl (first.0, ap (λ w. w ∷ xs) head ∙ ap (λ l. z ∷ l) first.1, first.2)
      | inr second ↦ inr (second.0, ap (λ l. z ∷ l) second.1 ∙ ap (λ w. w ∷ (xs ++ second.0)) (sym head), second.2)
    ]

made_among : (before : List Spot) (line : Entry) (own : List MakerRow) (after : List Spot)
    → made_in (before ++ (line, own) ∷ after) ≡ (made_in after ++ own) ++ made_in before
made_among [] line own after = sym (append-nil (made_in after ++ own))
made_among (spot ∷ before) line own after =
    ap (λ (l : List MakerRow). l ++ spot.1) (made_among before line own after)
    ∙ append_assoc (made_in after ++ own) (made_in before) spot.1

-- where a row is among those of all lines
record Cut (spots : List Spot) (some more : List MakerRow) (row : MakerRow) : Type 0 where
  before : List Spot
  line : Entry
  own_before : List MakerRow
  own_after : List MakerRow
  after : List Spot
  is : spots ≡ before ++ (line, own_before ++ row ∷ own_after) ∷ after
  start : some ≡ made_in after ++ own_before
  end : more ≡ own_after ++ made_in before

cut : (spots : List Spot) (some more : List MakerRow) (row : MakerRow) → made_in spots ≡ some ++ row ∷ more
    → Cut spots some more row
cut [] [] more row e = absurd (let none : 0 ≡ suc (length more) = ap (λ l. length l) e in omega (arith, none))
cut [] (x ∷ some) more row e =
    absurd (let none : 0 ≡ suc (length (some ++ row ∷ more)) = ap (λ l. length l) e in omega (arith, none))
cut (spot ∷ spots) some more row e = elim (split (made_in spots) spot.1 some more row e) [
  | inl later ↦
      let rest = cut spots some later.0 row later.1 in
      record {
        before = spot ∷ rest.before;
        line = rest.line;
        own_before = rest.own_before;
        own_after = rest.own_after;
        after = rest.after;
        is = ap (λ (l : List Spot). spot ∷ l) rest.is;
        start = rest.start;
        end = later.2 ∙ ap (λ (l : List MakerRow). l ++ spot.1) rest.end
            ∙ append_assoc rest.own_after (made_in rest.before) spot.1;
      }
  | inr own ↦ record {
    before = [];
    line = spot.0;
    own_before = own.0;
    own_after = more;
    after = spots;
    is = ap (λ (l : List MakerRow). (spot.0, l) ∷ spots) own.2;
    start = own.1;
    end = sym (append-nil more);
  }
]

-- ---- least

aligned_again : (before : List Spot) (at : ℕ) (line : Entry) (own other : List MakerRow) (after : List Spot)
    → map row_place own ≡ map row_place other → AreAligned at (before ++ (line, own) ∷ after)
    → AreAligned at (before ++ (line, other) ∷ after)
aligned_again [] at line own other after same are = (subst (AreAt at line.pid) same are.0, are.1)
aligned_again (spot ∷ before) at line own other after same are =
    (are.0, aligned_again before (at + 1) line own other after same are.1)

-- the lines with their limits, and one may be another
module _ (profile : Profile) (before : List Spot) (line : Entry) (own_before own_after : List MakerRow)
    (after : List Spot) where
  abbrev own : MakerLimit → List MakerRow
  own limit = own_before ++ made.Held limit ∷ own_after

  abbrev with_one : MakerLimit → List Spot
  with_one limit = before ++ (line, own limit) ∷ after

  abbrev places : ℕ → ℕ → List Limited
  places f rights = all_limited profile before
      ++ (step profile line, rows_of own_after ++ (f, rights) ∷ rows_of own_before) ∷ all_limited profile after

  aligned_one : (limit other : MakerLimit) → place_of other ≡ place_of limit → AreAligned 1 (with_one limit)
      → AreAligned 1 (with_one other)
  aligned_one limit other same = aligned_again before 1 line (own limit) (own other) after
      (map-append row_place own_before (made.Held limit ∷ own_after)
      ∙ ap (λ (place : Place). map row_place own_before ++ place ∷ map row_place own_after) (sym same)
      ∙ sym (map-append row_place own_before (made.Held other ∷ own_after)))

  lines_one : (limit : MakerLimit) → lines_of (with_one limit) ≡ lines_of before ++ line ∷ lines_of after
  lines_one limit = map-append (λ (spot : Spot). spot.0) before ((line, own limit) ∷ after)

  limits_one : (limit : MakerLimit)
      → made_in (with_one limit) ≡ (made_in after ++ own_before) ++ made.Held limit ∷ (own_after ++ made_in before)
  limits_one limit = made_among before line (own limit) after
      ∙ ap (λ (l : List MakerRow). l ++ made_in before)
      (sym (append_assoc (made_in after) own_before (made.Held limit ∷ own_after)))
      ∙ append_assoc (made_in after ++ own_before) (made.Held limit ∷ own_after) (made_in before)

  places_one : (limit : MakerLimit) → all_limited profile (with_one limit) ≡ places limit.fd limit.rights
  places_one limit = map-append (limited profile) before ((line, own limit) ∷ after)
      ∙ ap (λ (rows : List Row). all_limited profile before ++ (step profile line, rows) ∷ all_limited profile after)
      (rows_among own_before (made.Held limit ∷ own_after)
      ∙ append_assoc (rows_of own_after) (maker_row limit ∷ []) (rows_of own_before))

  module _ (start : List Added) (t : List Entry) (some more : List MakerRow)
      (lines : lines_of before ++ line ∷ lines_of after ≡ t) (some_are : some ≡ made_in after ++ own_before)
      (more_are : more ≡ own_after ++ made_in before) where
    -- a check of the trace with them
    check_one : (limit : MakerLimit) → AreAligned 1 (with_one limit)
        → checked profile start (with_script t (makers_script (some ++ made.Held limit ∷ more)))
        ≡ check (start_state start) (with_limits profile (places limit.fd limit.rights))
    check_one limit aligned =
        let limits : some ++ made.Held limit ∷ more ≡ made_in (with_one limit) =
        ap (λ (l : List MakerRow). l ++ made.Held limit ∷ more) some_are
        ∙ ap (λ (l : List MakerRow). (made_in after ++ own_before) ++ made.Held limit ∷ l) more_are
        ∙ sym (limits_one limit) in
        ap (λ (l : List MakerRow). checked profile start (with_script t (makers_script l))) limits
        ∙ ap (λ (u : List Entry). checked profile start (with_script u (makers_script (made_in (with_one limit)))))
        (sym (lines_one limit ∙ lines))
        ∙ ap (check (start_state start)) (makers_steps profile (with_one limit) aligned)
        ∙ ap (λ (l : List Limited). check (start_state start) (with_limits profile l)) (places_one limit)

    least_one : (limit less : MakerLimit) (right : ℕ) → HoldsSets (start_state start)
        → AreLimits (start_state start) (all_limited profile (with_one limit)) → AreAligned 1 (with_one limit)
        → place_of less ≡ place_of limit → right < 63 → holds limit.rights right ≡ true
        → holds less.rights right ≡ false
        → NewlyLacks (checked profile start (with_script t (makers_script (some ++ made.Held less ∷ more))))
        (checked profile start (with_script t (makers_script (some ++ made.Held limit ∷ more)))) right
    least_one limit less right sets limits aligned place lt has lacks =
        let of : ℕ → ℕ → List Found = λ f rights. check (start_state start) (with_limits profile (places f rights)) in
        let old = check_one limit aligned in
        let new = check_one less (aligned_one limit less place aligned)
        ∙ ap (λ (f : ℕ). of f less.rights) (ap (λ (p : Place). p.2) place) in
        let both = all_limits_are_least profile (start_state start) (all_limited profile before)
        (all_limited profile after) (step profile line) (rows_of own_after) (rows_of own_before) limit.fd limit.rights
        less.rights right sets lt (subst (AreLimits (start_state start)) (places_one limit) limits) has lacks in
        subst (λ (l : List Found). NewlyLacks l
        (checked profile start (with_script t (makers_script (some ++ made.Held limit ∷ more)))) right) (sym new)
        (subst (λ (l : List Found). NewlyLacks (of limit.fd less.rights) l right) (sym old) both)

pub maker_limits_are_least : MakerLimitsAreLeast
maker_limits_are_least profile start t some more limit less right spelled proper are place lt has lacks =
    let its = spots_of profile (start_state start) 1 t (some ++ made.Held limit ∷ more) are in
    let c = cut its.spots some more (made.Held limit) its.all in
    let lines : lines_of c.before ++ c.line ∷ lines_of c.after ≡ t =
    sym (lines_one profile c.before c.line c.own_before c.own_after c.after limit)
    ∙ ap lines_of (sym c.is) ∙ its.lines in
    least_one profile c.before c.line c.own_before c.own_after c.after start t some more lines c.start c.end limit less
    right (start_holds_sets start spelled)
    (subst (λ (l : List Spot). AreLimits (start_state start) (all_limited profile l)) c.is its.are)
    (subst (AreAligned 1) c.is its.aligned) place lt has lacks
