-- A script that leaves out a right that is live, and one that enters where a later line is in the way.
use Rattle.std.proofs.Common.{◌≡◌, ℕ, ◌≤◌, ◌==◌, Bool, true, false, ◌&&◌, if◌then◌else◌, List, [], ◌∷◌, ◌++◌}
use Rattle.std.proofs.Common.{map, refl, sym, ap, ◌∙◌, subst, arith}
use Rattle.std.specs.List.{All}
use Rattle.std.proofs.lemmas.Nat.{and_le_l}
use Rattle.std.proofs.lemmas.Bool.{and_left, and_right, and_parts, eqb-true, eq-eqb}
use Rattle.std.proofs.lemmas.List.Elements.{All-head, All-tail}
use Rattle.cap_rights.specs.Rights.{all, holds, meet}
use Rattle.cap_machine.specs.declared.cell.Profile.{Profile}
use Rattle.cap_machine.specs.declared.cell.OnExec.{OnExec}
use Rattle.cap_machine.specs.declared.cell.Cell.{Cell}
use Rattle.cap_machine.specs.declared.cell.Cell.TheVariants.{Held}
use Rattle.cap_machine.specs.declared.cell.Mode.TheVariants.{Inside}
use Rattle.cap_machine.specs.State.{State}
use Rattle.cap_machine.specs.Op.{applied, limit}
use Rattle.cap_machine.specs.Touch.{kept, taken, stays, turns}
use Rattle.cap_machine.specs.History.{ended, touched, turned, step_after}
use Rattle.cap_machine.specs.Check.{check}
use Rattle.cap_limits.specs.LimitLaws.{limit_step, enter_step, script}
use Rattle.cap_limits.specs.Limits.{Row, IsLimit}
use Rattle.cap_limits.specs.LimitLaws.{ScriptsAreLeast, EnteringIsForbidden}
use Rattle.cap_machine.proofs.Turns.{ends_in_turn}
use Rattle.cap_limits.proofs.LimitBits.{meet_holds}
use Rattle.cap_limits.proofs.LimitFindings.{newly_in}
use Rattle.cap_limits.proofs.LimitEnter.{blocked_is_forbidden}
use Rattle.cap_limits.proofs.LimitLeast.{least}
use Rattle.cap_limits.proofs.LimitEnough.{limit_held, ended_first}
use Rattle.cap_limits.proofs.LimitPlaces.{limited_cell}

-- the cell is held with this flag, and of its rights this is so
record HeldAs (is_so : ℕ → Type 0) (flag : OnExec) (c : Cell) : Type 0 where
  rights : ℕ
  is : c ≡ Held rights flag
  so : is_so rights

-- limits of the process keep what is so of every part of a set
module _ (profile : Profile) (p f : ℕ) (flag : OnExec) (is_so : ℕ → Type 0)
    (parts : (rights mask : ℕ) → is_so rights → is_so (meet rights mask)) where
  row_keeps : (row : Row) (s : State) → HeldAs is_so flag (s.cell p f)
      → HeldAs is_so flag ((step_after (limit_step profile p row) s).cell p f)
  row_keeps row s h = by (p == p && f == row.0) refl
    where
      by : (b : Bool) → (p == p && f == row.0) ≡ b
          → HeldAs is_so flag (touched (if b then taken (limit row.1) p row.0 else kept) s.cell p f)
      by false there = h
      by true there =
          let same : f ≡ row.0 = eqb-true f row.0 (and_parts (p == p) (f == row.0) there).1 in
          record {
            rights = meet h.rights row.1;
            is = ap (applied (limit row.1)) (ap (s.cell p) (sym same) ∙ h.is) ∙ limit_held row.1 h.rights flag;
            so = parts h.rights row.1 h.so;
          }

  rows_keep : (rows : List Row) (s : State) → HeldAs is_so flag (s.cell p f)
      → HeldAs is_so flag ((ended s (map (limit_step profile p) rows)).cell p f)
  rows_keep [] s h = h
  rows_keep (row ∷ rows) s h =
      subst (λ (r : State). HeldAs is_so flag (r.cell p f))
      (sym (ended_first s (limit_step profile p row) (map (limit_step profile p) rows)))
      (rows_keep rows (step_after (limit_step profile p row) s) (row_keeps row s h))

-- ---- least

module _ (profile : Profile) (p f fewer k : ℕ) (flag : OnExec) (lacks : holds fewer k ≡ false) where
  abbrev IsSet : ℕ → Type 0
  IsSet rights = rights ≤ all

  abbrev IsLacking : ℕ → Type 0
  IsLacking rights = (rights ≤ all) × (holds rights k ≡ false)

  set_part : (rights mask : ℕ) → IsSet rights → IsSet (meet rights mask)
  set_part rights mask le = omega (arith, and_le_l rights mask)

  lacking_part : (rights mask : ℕ) → IsLacking rights → IsLacking (meet rights mask)
  lacking_part rights mask h = (
    set_part rights mask h.0,
    meet_holds rights mask k ∙ and_left (holds rights k) (holds mask k) h.1,
  )

  rows_lack : (some more : List Row) (s : State) → HeldAs IsSet flag (s.cell p f)
      → HeldAs IsLacking flag ((ended s (map (limit_step profile p) (some ++ (f, fewer) ∷ more))).cell p f)
  rows_lack [] more s h =
      let bad = limit_step profile p (f, fewer) in
      subst (λ (r : State). HeldAs IsLacking flag (r.cell p f))
      (sym (ended_first s bad (map (limit_step profile p) more)))
      (rows_keep profile p f flag IsLacking lacking_part more (step_after bad s) (record {
        rights = meet h.rights fewer;
        is = limited_cell profile s p f fewer h.rights flag h.is;
        so = (
          set_part h.rights fewer h.so,
          meet_holds h.rights fewer k ∙ and_right (holds h.rights k) (holds fewer k) lacks,
        );
      }))
  rows_lack (row ∷ some) more s h =
      let first = limit_step profile p row in
      subst (λ (r : State). HeldAs IsLacking flag (r.cell p f))
      (sym (ended_first s first (map (limit_step profile p) (some ++ (f, fewer) ∷ more))))
      (rows_lack some more (step_after first s) (row_keeps profile p f flag IsSet set_part row s h))

  script_lacks : (some more : List Row) (enters : Bool) (s : State) → HeldAs IsSet flag (s.cell p f)
      → HeldAs IsLacking flag ((ended s (script profile p (some ++ (f, fewer) ∷ more) enters)).cell p f)
  script_lacks some more enters s h =
      let limits = map (limit_step profile p) (some ++ (f, fewer) ∷ more) in
      subst (λ (r : State). HeldAs IsLacking flag (r.cell p f))
      (sym (ends_in_turn s limits (if enters then enter_step profile p ∷ [] else []))) (by enters)
    where
      by : (b : Bool) → HeldAs IsLacking flag ((ended
          (ended s (map (limit_step profile p) (some ++ (f, fewer) ∷ more)))
          (if b then enter_step profile p ∷ [] else [])).cell p f)
      by true = rows_lack some more s h
      by false = rows_lack some more s h

-- of a row among others
all_middle : (P : Row → Type 0) (some more : List Row) (row : Row) → All P (some ++ row ∷ more) → P row
all_middle P [] more row are = All-head P row more are
all_middle P (first ∷ some) more row are =
    all_middle P some more row (All-tail P first (some ++ row ∷ more) are)

pub scripts_are_least : ScriptsAreLeast
scripts_are_least profile s later p some more enters f rights fewer k sets lt are has lacks =
    let is = all_middle (IsLimit s later p) some more (f, rights) are in
    let parts = (is.3.1 k lt).0 has in
    let set = sets p f is.0 is.1 is.2 in
    let less = ended s (script profile p (some ++ (f, fewer) ∷ more) enters) in
    let left = script_lacks profile p f fewer k is.1 lacks some more enters s
    (record { rights = is.0; is = is.2; so = set }) in
    newly_in (check less later) (check s later) k
    (least later s less p f k is.1 lt (record {
      rights = is.0;
      fewer = left.rights;
      is = is.2;
      is_less = left.is;
      set = set;
      set_less = left.so.0;
      has = parts.0;
      lacks = left.so.1;
    }) parts.1)

-- ---- entering

entered : (profile : Profile) (s : State) (p : ℕ) (rows : List Row)
    → (ended s (script profile p rows true)).mode p ≡ Inside
entered profile s p rows =
    let limits = map (limit_step profile p) rows in
    ap (λ (r : State). r.mode p) (ends_in_turn s limits (enter_step profile p ∷ []))
    ∙ ap (λ (b : Bool). turned (if b then turns Inside else stays) (ended s limits).mode p) (eq-eqb p p refl)

pub entering_is_forbidden : EnteringIsForbidden
entering_is_forbidden profile s later p rows n blocks out =
    blocked_is_forbidden s (ended s (script profile p rows true)) later p n blocks out (entered profile s p rows)
