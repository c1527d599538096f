-- The rows of unknown descriptors.
use Rattle.std.proofs.Common.{◌≡◌, ◌<◌, ◌↔◌, ℕ, ◌==◌, ◌||◌, nat_cmp, Bool, true, false, List, [], ◌∷◌, map}
use Rattle.std.proofs.Common.{Option, Some, inl, inr, get_or, if◌then◌else◌, refl, sym, ap, ◌∙◌, subst, arith}
use Rattle.std.specs.List.{All}
use Rattle.std.specs.List.Sorted.{IsStrictlySortedBy}
use Rattle.std.specs.Option.{option_map_or}
use Rattle.std.specs.Map.{keys_of, lookup}
use Rattle.std.specs.BTreeMap.{IsOrdered, get, is_at}
use Rattle.std.proofs.lemmas.List.Elements.{All-nil, All-cons, All-head, All-tail, All-append, All-weaker}
use Rattle.std.proofs.lemmas.List.Folds.{list_any-append}
use Rattle.std.proofs.lemmas.Bool.{both_ways, lt-ltb, cases_Bool, cond-true, cond-false, eqb-true, or_left, or_right}
use Rattle.std.proofs.lemmas.Bool.Decides.{nat_tests}
use Rattle.std.proofs.lemmas.Map.Entries.{lookup_head, lookup_tail}
use Rattle.std.proofs.lemmas.Map.Views.{All-found}
use Rattle.std.proofs.lemmas.Cmp.{nat_cmp_total}
use Rattle.std.proofs.Math.Logic.{⊎_elim}
use Rattle.cap_rights.specs.Rights.{all, holds}
use Rattle.cap_rights.proofs.Members.{all_holds, none_holds}
use Rattle.cap_machine.specs.declared.cell.OnExec.{OnExec}
use Rattle.cap_machine.specs.declared.cell.OnExec.TheVariants.{Unsure}
use Rattle.cap_machine.specs.declared.cell.Cell.{Cell}
use Rattle.cap_machine.specs.declared.cell.Cell.TheVariants.{Unknown, Closed, Held}
use Rattle.cap_machine.specs.declared.step.Step.{Step}
use Rattle.cap_limits.specs.declared.live.fd_rights.ByFlag.{ByFlag}
use Rattle.cap_limits.specs.declared.live.fd_rights.FdRights.{FdRights}
use Rattle.cap_machine.specs.State.{State}
use Rattle.cap_limits.specs.Live.{Live}
use Rattle.cap_limits.specs.Limits.{Row, IsLeast}
use Rattle.cap_limits.specs.Limits.{least_of}
use Rattle.cap_limits.specs.LimitsBefore.{rows_name, IsUnknownLimit}
use Rattle.cap_limits.specs.Code.Unknown.{unknown_row, unknown_rows, IsUnknownRow, AreUnknownRows}
use Rattle.cap_limits.specs.Code.Wanted.{flag_rights, rights_of}
use Rattle.cap_limits.proofs.MakerLimits.{least_is}
use Rattle.cap_limits.proofs.RowOrder.{fd_of, HasOne, rows_sorted}
use Rattle.cap_limits.proofs.StandingRows.{at_is}

row_ok : (cells : ℕ → Cell) (wanted : ℕ → ℕ) (g : ℕ) (c : Cell) → cells g ≡ c
    → All (IsUnknownRow cells wanted) (unknown_row c g (wanted g))
row_ok cells wanted g Unknown is =
    ⊎_elim
    (λ none. subst (All (IsUnknownRow cells wanted))
    (sym (cond-true (least_of all (wanted g) == 0) [] ((g, least_of all (wanted g)) ∷ []) none))
    (All-nil (IsUnknownRow cells wanted)))
    (λ some. subst (All (IsUnknownRow cells wanted))
    (sym (cond-false (least_of all (wanted g) == 0) [] ((g, least_of all (wanted g)) ∷ []) some))
    (All-cons (IsUnknownRow cells wanted) (g, least_of all (wanted g)) []
    (is, refl, λ e. differs (least_of all (wanted g)) some e) (All-nil (IsUnknownRow cells wanted))))
    (cases_Bool (least_of all (wanted g) == 0))
  where
    differs : (n : ℕ) → (n == 0) ≡ false → n ≡ 0 → ⊥
    differs n ne e = grind (arith, nat_tests, ne, e)
row_ok cells wanted g Closed is = All-nil (IsUnknownRow cells wanted)
row_ok cells wanted g (Held rights flag) is = All-nil (IsUnknownRow cells wanted)

-- the row of one that is wanted names it
row_names : (g w : ℕ) → (least_of all w ≡ 0 → ⊥) → rows_name (unknown_row Unknown g w) g ≡ true
row_names g w some =
    ⊎_elim
    (λ none. absurd (some (eqb-true (least_of all w) 0 none)))
    (λ is. ap (λ (rows : List Row). rows_name rows g)
    (cond-false (least_of all w == 0) [] ((g, least_of all w) ∷ []) is) ∙ leading g)
    (cases_Bool (least_of all w == 0))
  where
    leading : (n : ℕ) → (n == n || false) ≡ true
    leading n = grind (arith, nat_tests)

rows_ok : (cells : ℕ → Cell) (wanted : ℕ → ℕ) (entries : List (ℕ × ByFlag))
    → All (λ (entry : ℕ × ByFlag). wanted entry.0 ≡ entry.1.unsure) entries
    → All (IsUnknownRow cells wanted) (unknown_rows cells entries)
rows_ok cells wanted [] are = All-nil (IsUnknownRow cells wanted)
rows_ok cells wanted (entry ∷ entries) are =
    All-append (IsUnknownRow cells wanted) (unknown_row (cells entry.0) entry.0 entry.1.unsure)
    (unknown_rows cells entries)
    (subst (λ (n : ℕ). All (IsUnknownRow cells wanted) (unknown_row (cells entry.0) entry.0 n))
    (All-head (λ (e : ℕ × ByFlag). wanted e.0 ≡ e.1.unsure) entry entries are)
    (row_ok cells wanted entry.0 (cells entry.0) refl))
    (rows_ok cells wanted entries (All-tail (λ (e : ℕ × ByFlag). wanted e.0 ≡ e.1.unsure) entry entries are))

abbrev unsure_of : Option ByFlag → ℕ
unsure_of rights = option_map_or (λ (own : ByFlag). flag_rights own Unsure) rights 0

all_named : (cells : ℕ → Cell) (entries : List (ℕ × ByFlag)) (f : ℕ) → cells f ≡ Unknown
    → (least_of all (unsure_of (lookup (is_at (nat_cmp f)) entries)) ≡ 0 → ⊥)
    → rows_name (unknown_rows cells entries) f ≡ true
all_named cells [] f unknown some = absurd (some refl)
all_named cells (entry ∷ entries) f unknown some =
    let own : List Row = unknown_row (cells entry.0) entry.0 entry.1.unsure in
    list_any-append (λ (row : Row). f == row.0) own (unknown_rows cells entries) ∙ ⊎_elim
    (λ here. let same : f ≡ entry.0 = eqb-true f entry.0 (sym (at_is f entry.0) ∙ here) in
    or_left (rows_name own f) (rows_name (unknown_rows cells entries) f)
    (ap (λ (c : Cell). rows_name (unknown_row c entry.0 entry.1.unsure) f) (ap cells (sym same) ∙ unknown)
    ∙ ap (rows_name (unknown_row Unknown entry.0 entry.1.unsure)) same
    ∙ row_names entry.0 entry.1.unsure
    (λ none. some (ap (λ (o : Option ByFlag). least_of all (unsure_of o))
    (lookup_head (is_at (nat_cmp f)) entry entries here) ∙ none))))
    (λ there. or_right (rows_name own f) (rows_name (unknown_rows cells entries) f)
    (all_named cells entries f unknown
    (λ none. some (ap (λ (o : Option ByFlag). least_of all (unsure_of o))
    (lookup_tail (is_at (nat_cmp f)) entry entries there) ∙ none))))
    (cases_Bool (is_at (nat_cmp f) entry.0))

-- the rows of a table that is in order
pub rows_are : (cells : ℕ → Cell) (rights : FdRights) → IsOrdered nat_cmp rights.map
    → AreUnknownRows cells (λ f. rights_of rights f Unsure) (unknown_rows cells rights.map.entries)
rows_are cells rights sorted = (
  rows_ok cells (λ f. rights_of rights f Unsure) rights.map.entries
      (All-weaker (λ (e : ℕ × ByFlag). get nat_cmp rights.map e.0 ≡ Some e.1)
      (λ (e : ℕ × ByFlag). rights_of rights e.0 Unsure ≡ e.1.unsure)
      (λ e is. ap unsure_of is) rights.map.entries
      (All-found nat_cmp_total rights.map sorted)),
  λ f. all_named cells rights.map.entries f,
)

has_one : (c : Cell) (f wanted : ℕ) → HasOne f (unknown_row c f wanted)
has_one Unknown f wanted = pick (least_of all wanted == 0)
  where
    pick : (b : Bool) → HasOne f (if b then [] else (f, least_of all wanted) ∷ [])
    pick true = inl refl
    pick false = inr (least_of all wanted, refl)
has_one Closed f wanted = inl refl
has_one (Held rights flag) f wanted = inl refl

pub rows_in_order : (cells : ℕ → Cell) (entries : List (ℕ × ByFlag)) → IsStrictlySortedBy nat_cmp (keys_of entries)
    → IsStrictlySortedBy nat_cmp (map fd_of (unknown_rows cells entries))
rows_in_order cells entries sorted =
    rows_sorted (λ (e : ℕ × ByFlag). e.0) (λ (e : ℕ × ByFlag). unknown_row (cells e.0) e.0 e.1.unsure)
    (λ e. has_one (cells e.0) e.0 e.1.unsure) entries sorted

-- ---- what is live

pub unknown_are : (s : State) (later : List Step) (p : ℕ) (w : ℕ → OnExec → ℕ) (wanted : ℕ → ℕ) (rows : List Row)
    → ((f : ℕ) → wanted f ≡ w f Unsure)
    → ((f : ℕ) (x : OnExec) (k : ℕ) → k < 63 → (holds (w f x) k ≡ true) ↔ Live later p f x k)
    → AreUnknownRows (s.cell p) wanted rows
    → All (IsUnknownLimit s later p) rows
    × ((f k : ℕ) → k < 63 → s.cell p f ≡ Unknown → Live later p f Unsure k → rows_name rows f ≡ true)
unknown_are s later p w wanted rows is live are =
    let live_there : (f k : ℕ) → k < 63 → (holds (wanted f) k ≡ true) ↔ Live later p f Unsure k =
    λ f k lt. subst (λ (n : ℕ). (holds n k ≡ true) ↔ Live later p f Unsure k) (sym (is f)) (live f Unsure k lt) in
    let least : (f : ℕ) → IsLeast later p f all Unsure (least_of all (wanted f)) =
    λ f. least_is later p f all (wanted f) Unsure (live_there f) in (
      λ k d lt. let row = are.0 k d lt in (
        row.0,
        subst (λ (n : ℕ). IsLeast later p (get_or rows k d).0 all Unsure n) (sym row.1) (least (get_or rows k d).0),
        row.2,
      ),
      λ f k lt none is_live. are.1 f none (λ nothing. both_ways _
          (ap (λ (n : ℕ). holds n k) nothing ∙ none_holds k)
          (((least f).1 k lt).1 (all_holds k ∙ lt-ltb k 64 (omega arith), is_live))),
    )
