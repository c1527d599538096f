-- Findings in order.
use Rattle.std.proofs.Common.{◌≡◌, ℕ, ◌+◌, ◌<◌, ◌≤◌, List, [], ◌∷◌, length, take, drop, get_or, ap, arith, suc}
use Rattle.std.proofs.Common.{zero}
use Rattle.cap_machine.specs.declared.verdict.Found.{Found}
use Rattle.std.specs.Prelude.{Some, slice_get}
use Rattle.cap_session.specs.Code.Walked.{Rise, RiseWithin, BeginAt}

pub no_findings : (low last : ℕ) → RiseWithin low last []
unfolding RiseWithin
no_findings low last = tt

-- one more, from a list in order
pub front_more : (low last i : ℕ) (found : List Found) (d : Found) → Rise low found → i < length found
    → RiseWithin low last (take i found) → (get_or found i d).at ≤ last → RiseWithin low last (take (suc i) found)
unfolding Rise RiseWithin
front_more low last i [] d rise lt front le = absurd (omega arith)
front_more low last zero (one ∷ found) d rise lt front le = (rise.0, le, tt)
front_more low last (suc i) (one ∷ found) d rise lt front le =
    (rise.0, front.1, front_more one.at last i found d rise.1 (omega arith) front.2 le)

drop_none : (i last : ℕ) → Rise (last + 1) (drop i [])
unfolding Rise
drop_none zero last = tt
drop_none (suc i) last = tt

-- those from one behind the last on
pub back_beyond : (low last i : ℕ) (found : List Found) → Rise low found
    → ((d : Found) → i < length found → last < (get_or found i d).at) → Rise (last + 1) (drop i found)
unfolding Rise
back_beyond low last i [] rise beyond = drop_none i last
back_beyond low last zero (one ∷ found) rise beyond =
    (omega (arith, beyond one (omega arith)), rise.1)
back_beyond low last (suc i) (one ∷ found) rise beyond =
    back_beyond one.at last i found rise.1 (λ d lt. beyond d (omega arith))

-- ---- where findings begin

pub rise_lower : (low lower : ℕ) (found : List Found) → lower ≤ low → Rise low found → Rise lower found
unfolding Rise
rise_lower low lower [] le rise = tt
rise_lower low lower (one ∷ found) le rise = (omega (arith, le, rise.0), rise.1)

pub rise_nothing : (low : ℕ) (found : List Found) → found ≡ [] → Rise low found
unfolding Rise
rise_nothing low found none = rw none tt

pub rise_first : (low p : ℕ) (found : List Found) → Rise low found → BeginAt p found → Rise p found
unfolding Rise BeginAt
rise_first low p [] rise begin = tt
rise_first low p (one ∷ found) rise begin = (omega (arith, begin), rise.1)

pub first_low : (low : ℕ) (found : List Found) (one : Found) → Rise low found → slice_get found 0 ≡ Some one → low ≤ one.at
unfolding Rise
first_low low [] one rise is = absurd (cc)
first_low low (x ∷ found) one rise is =
    let same : x ≡ one = cc in
    omega (arith, rise.0, ap (λ (r : Found). r.at) same)

pub first_begins : (p : ℕ) (found : List Found) (one : Found) → slice_get found 0 ≡ Some one → one.at ≡ p → BeginAt p found
unfolding BeginAt
first_begins p [] one is at = absurd (cc)
first_begins p (x ∷ found) one is at =
    let same : x ≡ one = cc in
    omega (arith, at, ap (λ (r : Found). r.at) same)
