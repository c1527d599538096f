-- Look-ups in parts of the same width.
use Rattle.std.proofs.Common.{◌≡◌, ℕ, suc, ◌+◌, ◌*◌, ◌/◌, ◌%◌, ◌<◌, ◌≤◌, ◌==◌, nat_le, nat_lt, ◌&&◌, if◌then◌else◌}
use Rattle.std.proofs.Common.{Bool, true, false, List, [], ◌∷◌, length, get_or, set, zero, refl, ap, sym, ◌∙◌, arith}
use Rattle.std.specs.List.{AllZip}
use Rattle.std.specs.Prelude.{slice_get, slice_set, slice_index_or}
use Rattle.std.specs.Option.{option_map_or}
use Rattle.std.specs.Prelude.{Result, Ok, Err}
use Rattle.std.specs.Result.{OnOk}
use Rattle.std.proofs.lemmas.Option.{slice_get-get_or}
use Rattle.std.proofs.lemmas.Bool.{cases_eq, cases_order}
use Rattle.std.proofs.lemmas.Bool.Decides.{nat_tests}
use Rattle.std.proofs.lemmas.Grind.{get_or-set_at}
use Rattle.std.proofs.lemmas.List.{get_or-set_other, length-set}
use Rattle.std.proofs.Math.Nat.{div-add-mod}
use Rattle.std.proofs.Math.Nat.{mul-le-mul_left, mul-suc, mod-lt}
use Rattle.std.proofs.Math.Logic.{⊎_elim}
use Rattle.cap_machine.specs.Code.Cells.Deferred.{with_deferred}
use Rattle.cap_machine.specs.Code.Cells.Parts.{look}
use Rattle.cap_machine.specs.declared.cells.deferred.Deferred.{Deferred}
use Rattle.cap_machine.specs.declared.cells.deferred.Deferred.TheVariants.{Nothing, Close}
use Rattle.cap_machine.specs.declared.cell.Cell.{Cell}
use Rattle.cap_machine.specs.declared.cell.Cell.TheVariants.{Unknown, Closed}

-- two places that stand in one part
pub same_part : (f g w : ℕ) → f / w ≡ g / w → (f == g) ≡ (f % w == g % w)
same_part f g w e =
    let p : w * (f / w) + f % w ≡ f = div-add-mod f w in
    let q : w * (g / w) + g % w ≡ g = div-add-mod g w in
    let r : w * (f / w) ≡ w * (g / w) = ap (λ n. w * n) e in
    grind (arith, nat_tests, p, q, r)

pub other_part : (f g w : ℕ) → (f / w ≡ g / w → ⊥) → (f == g) ≡ false
other_part f g w ne = let e : f ≡ g → ⊥ = λ e. ne (ap (λ n. n / w) e) in grind (arith, nat_tests, e)

pub same_part_from : (f g w : ℕ) → f / w ≡ g / w → nat_le g f ≡ nat_le (g % w) (f % w)
same_part_from f g w e =
    let p : w * (f / w) + f % w ≡ f = div-add-mod f w in
    let q : w * (g / w) + g % w ≡ g = div-add-mod g w in
    let r : w * (f / w) ≡ w * (g / w) = ap (λ n. w * n) e in
    grind (arith, nat_tests, p, q, r)

-- a place in an earlier part comes before
earlier_part : (f g w : ℕ) → 0 < w → f / w < g / w → f < g
earlier_part f g w pos lt =
    let p : w * (f / w) + f % w ≡ f = div-add-mod f w in
    let q : w * (g / w) + g % w ≡ g = div-add-mod g w in
    let r : f % w < w = mod-lt f pos in
    let s : w * suc (f / w) ≤ w * (g / w) = mul-le-mul_left w (omega arith) in
    let t : w * suc (f / w) ≡ w * (f / w) + w = mul-suc w (f / w) in
    omega arith

pub other_part_from : (f g w : ℕ) → 0 < w → (f / w ≡ g / w → ⊥) → nat_le g f ≡ nat_le (g / w + 1) (f / w)
other_part_from f g w pos ne =
    ⊎_elim (λ e. absurd (ne e))
    (λ o. ⊎_elim (λ lt. let k : f < g = earlier_part f g w pos lt in grind (arith, nat_tests, k, lt))
    (λ gt. let k : g < f = earlier_part g f w pos gt in grind (arith, nat_tests, k, gt)) o)
    (cases_order (f / w) (g / w))

-- what is asked of an element
asked : {X : Type 0} (ask : X → Cell) (xs : List X) (i : ℕ) (d : X) → i < length xs
    → option_map_or ask (slice_get xs i) Unknown ≡ ask (get_or xs i d)
asked ask xs i d lt = ap (λ o. option_map_or ask o Unknown) (slice_get-get_or xs i d lt)

-- what is asked of an element is the same in another list of such elements
pub asked_alike : {X : Type 0} (R : X → X → Type 0) (ask : X → Cell) → ((x y : X) → R x y → ask y ≡ ask x)
    → (xs ys : List X) (i : ℕ) → AllZip R xs ys
    → option_map_or ask (slice_get ys i) Unknown ≡ option_map_or ask (slice_get xs i) Unknown
asked_alike R ask same [] [] i zip = refl
asked_alike R ask same [] (y ∷ ys) i zip = absurd zip
asked_alike R ask same (x ∷ xs) [] i zip = absurd zip
asked_alike R ask same (x ∷ xs) (y ∷ ys) zero zip = same x y zip.0
asked_alike R ask same (x ∷ xs) (y ∷ ys) (suc i) zip = asked_alike R ask same xs ys i zip.1

pub view : {X : Type 0} (ask : X → ℕ → Cell) (w : ℕ) (marks : List Deferred) (parts : List X) (f : ℕ) (d : X)
    → f / w < length parts
    → look ask w marks parts f ≡ with_deferred (get_or marks (f / w) Nothing) (ask (get_or parts (f / w) d) (f % w))
view ask w marks parts f d lt =
    ap (with_deferred (get_or marks (f / w) Nothing)) (asked (λ part. ask part (f % w)) parts (f / w) d lt)

-- in the part of another descriptor
seen_at : {X : Type 0} (ask : X → ℕ → Cell) (w : ℕ) (marks : List Deferred) (parts : List X) (f i : ℕ) (d : X)
    → f / w < length parts
    → f / w ≡ i → look ask w marks parts f ≡ with_deferred (get_or marks i Nothing) (ask (get_or parts i d) (f % w))
seen_at ask w marks parts f i d lt e =
    view ask w marks parts f d lt
    ∙ ap (λ k. with_deferred (get_or marks k Nothing) (ask (get_or parts k d) (f % w))) e

-- where one part is another now
seen_new : {X : Type 0} (ask : X → ℕ → Cell) (w : ℕ) (marks : List Deferred) (parts : List X) (f i : ℕ) (new : X)
    → f / w < length parts
    → f / w ≡ i → look ask w marks (set parts i new) f ≡ with_deferred (get_or marks (f / w) Nothing) (ask new (f % w))
seen_new ask w marks parts f i new lt e =
    let within : f / w < length (set parts i new) = omega (arith, length-set parts i new) in
    let at : i < length parts = omega arith in
    view ask w marks (set parts i new) f new within
    ∙ ap (λ x. with_deferred (get_or marks (f / w) Nothing) (ask x (f % w)))
    (get_or-set_at parts i (f / w) new new e at)

-- and in the other parts
seen_other : {X : Type 0} (ask : X → ℕ → Cell) (w : ℕ) (marks : List Deferred) (parts : List X) (f i : ℕ) (new : X)
    → f / w < length parts → (f / w ≡ i → ⊥) → look ask w marks (set parts i new) f ≡ look ask w marks parts f
seen_other ask w marks parts f i new lt ne =
    let within : f / w < length (set parts i new) = omega (arith, length-set parts i new) in
    view ask w marks (set parts i new) f new within
    ∙ ap (λ x. with_deferred (get_or marks (f / w) Nothing) (ask x (f % w)))
    (get_or-set_other parts i (f / w) new new ne)
    ∙ sym (view ask w marks parts f new lt)

-- one part is written, and nothing is deferred there
pub part_written : {X : Type 0} (ask : X → ℕ → Cell) (w : ℕ) (marks : List Deferred) (parts : List X) (fd : ℕ)
    (cell : Cell) (old new : X) (f : ℕ)
    → length marks ≡ 8 → length parts ≡ 8 → fd / w < 8 → f / w < 8 → ask new (f % w) ≡ (if f % w == fd % w
    then cell else with_deferred (slice_index_or marks (fd / w) Nothing)
    (ask (slice_index_or parts (fd / w) old) (f % w)))
    → look ask w (slice_set marks (fd / w) Nothing) (slice_set parts (fd / w) new) f
    ≡ (if f == fd then cell else look ask w marks parts f)
part_written ask w marks parts fd cell old new f m p lt lf wrote =
    let within : f / w < length parts = omega arith in
    let marked : fd / w < length marks = omega arith in
    ⊎_elim
    (λ e.
    seen_new ask w (set marks (fd / w) Nothing) parts f (fd / w) new within e
    ∙ ap (λ k. with_deferred k (ask new (f % w))) (get_or-set_at marks (fd / w) (f / w) Nothing Nothing e marked)
    ∙ wrote
    ∙ ap (λ c. if f % w == fd % w then cell else c) (sym (seen_at ask w marks parts f (fd / w) old within e))
    ∙ ap (λ b. if b then cell else look ask w marks parts f) (sym (same_part f fd w e)))
    (λ ne.
    seen_other ask w (set marks (fd / w) Nothing) parts f (fd / w) new within ne
    ∙ ap (λ k. with_deferred k (option_map_or (λ part. ask part (f % w)) (slice_get parts (f / w)) Unknown))
    (get_or-set_other marks (fd / w) (f / w) Nothing Nothing ne)
    ∙ ap (λ b. if b then cell else look ask w marks parts f) (sym (other_part f fd w ne)))
    (cases_eq (f / w) (fd / w))

-- one part is closed from a descriptor on and nothing is deferred there, and those after it are closed
pub part_closed : {X : Type 0} (ask : X → ℕ → Cell) (w : ℕ) (marks later : List Deferred) (parts : List X) (fd : ℕ)
    (d new : X) (f : ℕ) → 0 < w
    → length marks ≡ 8 → length parts ≡ 8 → fd / w < 8 → f / w < 8 → ask new (f % w) ≡ (if nat_le (fd % w) (f % w)
    then Closed else with_deferred (slice_index_or marks (fd / w) Nothing)
    (ask (slice_index_or parts (fd / w) d) (f % w)))
    → ((i : ℕ) (c : Cell) → i < 8 → with_deferred (slice_index_or later i Nothing) c ≡ (if nat_le (fd / w + 1) i
    then Closed else with_deferred (slice_index_or (slice_set marks (fd / w) Nothing) i Nothing) c))
    → look ask w later (slice_set parts (fd / w) new) f ≡ (if nat_le fd f then Closed else look ask w marks parts f)
part_closed ask w marks later parts fd d new f pos m p lt lf wrote closed =
    let within : f / w < length parts = omega arith in
    let marked : fd / w < length marks = omega arith in
    ⊎_elim
    (λ e.
    let before : nat_le (fd / w + 1) (f / w) ≡ false = grind (arith, nat_tests, e) in
    seen_new ask w later parts f (fd / w) new within e
    ∙ closed (f / w) (ask new (f % w)) lf
    ∙ ap (λ b. if b then Closed else with_deferred (get_or (set marks (fd / w) Nothing) (f / w) Nothing)
    (ask new (f % w)))
    before
    ∙ ap (λ k. with_deferred k (ask new (f % w))) (get_or-set_at marks (fd / w) (f / w) Nothing Nothing e marked)
    ∙ wrote
    ∙ ap (λ c. if nat_le (fd % w) (f % w) then Closed else c) (sym (seen_at ask w marks parts f (fd / w) d within e))
    ∙ ap (λ b. if b then Closed else look ask w marks parts f) (sym (same_part_from f fd w e)))
    (λ ne.
    let there : Cell = option_map_or (λ part. ask part (f % w)) (slice_get parts (f / w)) Unknown in
    seen_other ask w later parts f (fd / w) new within ne
    ∙ closed (f / w) there lf
    ∙ ap (λ k. if nat_le (fd / w + 1) (f / w) then Closed else with_deferred k there)
    (get_or-set_other marks (fd / w) (f / w) Nothing Nothing ne)
    ∙ ap (λ b. if b then Closed else look ask w marks parts f) (sym (other_part_from f fd w pos ne)))
    (cases_eq (f / w) (fd / w))

-- a number other than k is below k just where it is below k + 1
more : (i k : ℕ) → (i ≡ k → ⊥) → nat_lt i k ≡ nat_lt i (k + 1)
more i k ne = grind (arith, nat_tests, ne)

-- one more place is closed
pub closed_more : (now old : List Deferred) (from k i : ℕ) (c : Cell) → length now ≡ 8 → from ≤ k → k < 8
    → with_deferred (slice_index_or now i Nothing) c
    ≡ (if nat_le from i && nat_lt i k then Closed else with_deferred (slice_index_or old i Nothing) c)
    → with_deferred (slice_index_or (slice_set now k Close) i Nothing) c
    ≡ (if nat_le from i && nat_lt i (k + 1) then Closed else with_deferred (slice_index_or old i Nothing) c)
closed_more now old from k i c n le lt before =
    let at : k < length now = omega arith in
    ⊎_elim
    (λ e.
    let yes : (nat_le from i && nat_lt i (k + 1)) ≡ true = grind (arith, nat_tests, e) in
    ap (λ m. with_deferred m c) (get_or-set_at now k i Close Nothing e at)
    ∙ ap (λ b. if b then Closed else with_deferred (get_or old i Nothing) c) (sym yes))
    (λ ne.
    let same : (nat_le from i && nat_lt i k) ≡ (nat_le from i && nat_lt i (k + 1)) =
    ap (λ b. nat_le from i && b) (more i k ne) in
    ap (λ m. with_deferred m c) (get_or-set_other now k i Close Nothing ne)
    ∙ before
    ∙ ap (λ b. if b then Closed else with_deferred (get_or old i Nothing) c) same)
    (cases_eq i k)

-- one more place is settled
pub with_deferred_more : (now old : List Deferred) (next m : Deferred) (k i : ℕ) → length now ≡ 8 → k < 8
    → ((c : Cell) → with_deferred m c ≡ with_deferred next (with_deferred (slice_index_or now k Nothing) c))
    → ((i : ℕ) (c : Cell) → i < 8 → with_deferred (slice_index_or now i Nothing) c ≡ (if nat_lt i k
    then with_deferred next (with_deferred (slice_index_or old i Nothing) c)
    else with_deferred (slice_index_or old i Nothing) c))
    → (c : Cell) → i < 8 → with_deferred (slice_index_or (slice_set now k m) i Nothing) c ≡ (if nat_lt i (k + 1)
    then with_deferred next (with_deferred (slice_index_or old i Nothing) c)
    else with_deferred (slice_index_or old i Nothing) c)
with_deferred_more now old next m k i n lt gives before c within =
    let at : k < length now = omega arith in
    let done : Cell → Bool → Cell = λ d b. if b then with_deferred next (with_deferred (get_or old i Nothing) d)
    else with_deferred (get_or old i Nothing) d in
    ⊎_elim
    (λ e.
    let yes : nat_lt i (k + 1) ≡ true = grind (arith, nat_tests, e) in
    let no : nat_lt i k ≡ false = grind (arith, nat_tests, e) in
    ap (λ o. with_deferred o c) (get_or-set_at now k i m Nothing e at)
    ∙ gives c
    ∙ ap (λ j. with_deferred next (with_deferred (get_or now j Nothing) c)) (sym e)
    ∙ ap (with_deferred next) (before i c within ∙ ap (done c) no)
    ∙ ap (done c) (sym yes))
    (λ ne.
    ap (λ o. with_deferred o c) (get_or-set_other now k i m Nothing ne)
    ∙ before i c within
    ∙ ap (done c) (more i k ne))
    (cases_eq i k)

-- what holds once a step went well, by what that step says
pub still_ok : {T E P Q : Type 0} (r : Result T E) → (P → Q) → OnOk r P → OnOk r Q
still_ok (Ok x) next holds = next holds
still_ok (Err e) next holds = tt
