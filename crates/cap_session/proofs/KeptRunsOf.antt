-- The runs of lines that stood one after another are kept between the two traces.
use Rattle.std.proofs.Common.{◌≡◌, ℕ, ◌+◌, ◌-◌, ◌<◌, ◌≤◌, List, [], ◌∷◌, ◌++◌, length, map, take, drop, refl, sym, ap, ◌∙◌}
use Rattle.std.proofs.Common.{arith, suc, zero, subst}
use Rattle.std.specs.Prelude.{All, Option, None, Some, replicate, slice_get}
use Rattle.std.specs.List.{AllZip, range_with_len}
use Rattle.std.proofs.lemmas.List.{length-replicate}
use Rattle.cap_machine.specs.declared.step.Step.{Step}
use Rattle.cap_summary.specs.KeptRuns.{AreKeptRuns, FollowFrom, IsKeptRun}
use Rattle.cap_summary.specs.declared.kept_run.KeptRun.{KeptRun}
use Rattle.cap_session.specs.Code.RunTable.{InOrder, at_end, behind, spread, stood}
use Rattle.cap_session.specs.Session.{StoodThere}
use Rattle.cap_session.proofs.RunOrder.{ends_behind}
use Rattle.cap_session.proofs.RunSpread.{length-stood}

-- ---- lists that go in step, in two parts

zip_front : {X Y : Type 0} (R : X → Y → Type 0) (xs more : List X) (ys : List Y) → AllZip R (xs ++ more) ys
    → AllZip R xs (take (length xs) ys)
zip_front R [] more ys all = tt
zip_front R (x ∷ xs) more [] all = absurd all
zip_front R (x ∷ xs) more (y ∷ ys) all = (all.0, zip_front R xs more ys all.1)

zip_back : {X Y : Type 0} (R : X → Y → Type 0) (xs more : List X) (ys : List Y) → AllZip R (xs ++ more) ys
    → AllZip R more (drop (length xs) ys)
zip_back R [] more ys all = all
zip_back R (x ∷ xs) more [] all = absurd all
zip_back R (x ∷ xs) more (y ∷ ys) all = zip_back R xs more ys all.1

drop_empty : {X : Type 0} (i : ℕ) → drop {A = X} i [] ≡ []
drop_empty zero = refl
drop_empty (suc i) = refl

drop_on : {X : Type 0} (i j : ℕ) (xs : List X) → drop j (drop i xs) ≡ drop (i + j) xs
drop_on zero j xs = ap (λ k. drop k xs) (omega arith)
drop_on (suc i) j [] = drop_empty j ∙ sym (drop_empty (suc i + j))
drop_on (suc i) j (x ∷ xs) =
    let more : suc i + j ≡ suc (i + j) = omega arith in
    drop_on i j xs ∙ sym (ap (λ k. drop k (x ∷ xs)) more)

-- ---- the steps of a run

from_place : {X : Type 0} (i : ℕ) (xs : List X) (x : X) → slice_get xs i ≡ Some x
    → (drop i xs ≡ x ∷ drop (suc i) xs) × (i < length xs)
from_place i [] x is = absurd (cc)
from_place zero (y ∷ xs) x is =
    let same : y ≡ x = cc in
    (ap (λ z. z ∷ xs) same, omega arith)
from_place (suc i) (y ∷ xs) x is =
    let more = from_place i xs x is in
    (more.0, omega (arith, more.1))

steps_stood : (before : List Step) (was n : ℕ) (ys : List Step)
    → AllZip (StoodThere before) (map Some (range_with_len (was + 1) n)) ys → 0 < n
    → (ys ≡ take n (drop was before)) × (was + n ≤ length before)
steps_stood before was zero ys all some = absurd (omega arith)
steps_stood before was (suc n) [] all some = absurd all
steps_stood before was (suc zero) (y ∷ []) all some =
    let here : was + 1 - 1 ≡ was = omega arith in
    let place = from_place was before y (rw here at all.0) in
    (rw place.0 refl, omega (arith, place.1))
steps_stood before was (suc zero) (y ∷ z ∷ ys) all some = absurd all.1
steps_stood before was (suc (suc n)) (y ∷ ys) all some =
    let here : was + 1 - 1 ≡ was = omega arith in
    let place = from_place was before y (rw here at all.0) in
    let more = steps_stood before (was + 1) (suc n) ys all.1 (omega arith) in
    let next : was + 1 ≡ suc was = omega arith in (
      rw place.0 (ap (λ l. y ∷ l) (more.0 ∙ ap (λ k. take (suc n) (drop k before)) next)),
      omega (arith, more.1),
    )

-- ---- all runs

all_of : {X : Type 0} (P : X → Type 0) (x : X) (xs : List X) → P x → All P xs → All P (x ∷ xs)
all_of P x xs first rest zero d lt = first
all_of P x xs first rest (suc i) d lt = rest i d (omega arith)

-- The runs behind so many lines of both.
record Kept (before now : List Step) (was at : ℕ) (runs : List KeptRun) : Type 0 where
  each : All (IsKeptRun before now) runs
  follow : FollowFrom was at runs

kept_from : (before now : List Step) (was a apart end : ℕ) (runs : List KeptRun) → InOrder was a apart runs
    → at_end a runs ≤ end → end ≤ length now → AllZip (StoodThere before) (spread a runs end) (drop a now)
    → Kept before now was a runs
unfolding InOrder at_end spread
kept_from before now was a apart end [] order le few all =
    record { each = λ i d lt. absurd (omega arith); follow = tt }
kept_from before now was a apart end (run ∷ runs) order le few all =
    let none : Option ℕ = None in
    let rest : List (Option ℕ) = spread (run.at + run.len) runs end in
    let gap = length-replicate (run.at - a) none in
    let there : a + length (replicate (run.at - a) none) ≡ run.at = omega (arith, gap, order.1) in
    let lines = subst (λ l. AllZip (StoodThere before) (stood run ++ rest) l)
    (drop_on a (length (replicate (run.at - a) none)) now ∙ ap (λ k. drop k now) there)
    (zip_back (StoodThere before) (replicate (run.at - a) none) (stood run ++ rest) (drop a now) all) in
    let here = subst (λ k. AllZip (StoodThere before) (stood run) (take k (drop run.at now))) (length-stood run)
    (zip_front (StoodThere before) (stood run) rest (drop run.at now) lines) in
    let same = steps_stood before run.was run.len (take run.len (drop run.at now)) here order.3 in
    let beyond = ends_behind (run.was + run.len) (run.at + run.len) (behind run) runs order.4 in
    let behind_it = subst (λ l. AllZip (StoodThere before) rest l)
    (drop_on run.at (length (stood run)) now ∙ ap (λ k. drop (run.at + k) now) (length-stood run))
    (zip_back (StoodThere before) (stood run) rest (drop run.at now) lines) in
    let others = kept_from before now (run.was + run.len) (run.at + run.len) (behind run) end runs order.4 le few
    behind_it in
    record {
      each = all_of (IsKeptRun before now) run runs (record {
        some = order.3;
        within_old = same.1;
        within_new = omega (arith, beyond.1, le, few);
        same = same.0;
      }) others.each;
      follow = (order.0, order.1, others.follow);
    }

pub runs_are_kept : (before now : List Step) (count : ℕ) (runs : List KeptRun) → InOrder 0 0 0 runs → at_end 0 runs ≤ count
    → count ≤ length now → AllZip (StoodThere before) (spread 0 runs count) now → AreKeptRuns before now runs
runs_are_kept before now count runs order le few all =
    let kept = kept_from before now 0 0 0 count runs order le few all in
    record { each = kept.each; follow = kept.follow }
