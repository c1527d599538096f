use Rattle.std.specs.Prelude.{drop, length, take, ◌++◌, ◌+◌, ◌-◌, ◌<◌, ◌≡◌, ◌≤◌}
use Rattle.cap_summary.specs.{Again.begins, Again.old_steps, Found, List, found_at, map}
use Rattle.cap_summary.proofs.Searching.{FoundAfter, FoundBefore, FoundThere, after_above, before_below, in_three}
use Rattle.cap_summary.proofs.Searching.{moved_here, slice_between, there_above, there_below}
use Rattle.cap_summary.proofs.{All-append, length-append, length-take-le, subst, ap, append_assoc, arith, map-append, sym, take_all, take_more, ◌∙◌}
use Rattle.std.proofs.Common.{length-drop}
use Rattle.std.specs.Prelude.{[], get_or, ℕ, ◌∷◌}
use Rattle.cap_summary.specs.{KeptRuns.steps_of, check, ended}
use Rattle.cap_summary.proofs.again.Again.copy.Goals.{After-count_to-to}
use Rattle.cap_summary.proofs.again.Again.copy.Goals as goal

abbrev first : After-count_to-to → List Found
first c = FoundBefore (begins c.args.self.now) (old_steps c.args.self.now) c.args.was c.args.len c.requires.within

abbrev middle : After-count_to-to → List Found
middle c = FoundThere (begins c.args.self.now) (old_steps c.args.self.now) c.args.was c.args.len c.requires.within

abbrev last : After-count_to-to → List Found
last c = FoundAfter (begins c.args.self.now) (old_steps c.args.self.now) c.args.was c.args.len c.requires.within

all : (c : After-count_to-to) → c.args.self.now.found.now ≡ (first c ++ middle c) ++ last c
all c = c.requires.again.found ∙ in_three (begins c.args.self.now) (old_steps c.args.self.now) c.args.was c.args.len
    c.requires.within

from_is : (c : After-count_to-to) → c.count_to-from.result ≡ length (first c)
from_is c =
    let s = begins c.args.self.now in
    let old = old_steps c.args.self.now in
    let was = c.args.was in
    let len = c.args.len in
    c.count_to-from.ensures.split (first c) (middle c ++ last c) (all c ∙ append_assoc (first c) (middle c) (last c))
    (before_below s old was len c.requires.within) (All-append (λ (x : Found). was < x.at) (middle c) (last c)
    (there_above s old was len c.requires.within) (after_above s old was len c.requires.within was (omega arith)))

to_is : (c : After-count_to-to) → c.count_to-to.result ≡ length (first c ++ middle c)
to_is c =
    let s = begins c.args.self.now in
    let old = old_steps c.args.self.now in
    let was = c.args.was in
    let len = c.args.len in
    c.count_to-to.ensures.split (first c ++ middle c) (last c) (all c) (All-append (λ (x : Found). x.at ≤ was + len)
    (first c) (middle c) (λ k d lt. omega (arith, before_below s old was len c.requires.within k d lt))
    (there_below s old was len c.requires.within))
    (after_above s old was len c.requires.within (was + len) (omega arith))

rest : (l : List Found) (i : ℕ) → take (length l - i) (drop i l) ≡ drop i l
rest l i = take_all (length l - i) (drop i l) (omega (arith, length-drop i l))

abbrev slice : After-count_to-to → List Found
slice c = take (length (take c.count_to-to.result c.args.self.now.found.now) - c.count_to-from.result)
    (drop c.count_to-from.result (take c.count_to-to.result c.args.self.now.found.now))

items : (c : After-count_to-to) → slice c ≡ middle c
items c = rest (take c.count_to-to.result c.args.self.now.found.now) c.count_to-from.result
    ∙ rw (from_is c, to_is c, all c) (slice_between (first c) (middle c) (last c))

-- where a finding that is copied was
place : (c : After-count_to-to) (i : ℕ) (one : Found) (found : List Found) → found ≡ middle c → i < length found
    → one ≡ get_or found i one → (c.args.was < one.at) × (one.at ≤ c.args.was + c.args.len)
place c i one found same within is =
    let s = begins c.args.self.now in
    let old = old_steps c.args.self.now in
    let lt : i < length (middle c) = rw same at within in
    let here : one ≡ get_or (middle c) i one = rw same at is in (
      subst (λ (x : Found). c.args.was < x.at) (sym here)
          (there_above s old c.args.was c.args.len c.requires.within i one lt),
      subst (λ (x : Found). x.at ≤ c.args.was + c.args.len) (sym here)
          (there_below s old c.args.was c.args.len c.requires.within i one lt),
    )

pub overflow_sub-one : goal.overflow_sub-one
overflow_sub-one c =
    let at = (goal.at.overflow_sub-one c).After-count_to-to in
    omega (arith, (place at c.loop-one.one-index c.one-item.result _ (items at) c.loop-one-test.true c.one-item.is).0)

pub overflow_add-one : goal.overflow_add-one
overflow_add-one c =
    let at = (goal.at.overflow_add-one c).After-count_to-to in
    let is = place at c.loop-one.one-index c.one-item.result _ (items at) c.loop-one-test.true c.one-item.is in
    omega (arith, is.1, c.requires.few, c.requires.within, c.requires.again.few_old)

pub slice_bounds-one-items-count : goal.slice_bounds-one-items-count
slice_bounds-one-items-count c =
    let at = (goal.at.slice_bounds-one-items-count c).After-count_to-to in
    let upto = length-take-le c.count_to-to.result c.args.self.now.found.now c.count_to-to.ensures.within in
    omega (arith, from_is at, to_is at, length-append (first at) (middle at), upto)

pub loop-one-preserved : goal.loop-one-preserved
loop-one-preserved c =
    let move : Found → Found = λ x. found_at (x.at - c.args.was + c.args.at) x.finding in
    let i = c.loop-one.one-index in
    let one = c.one-item.result in
    let old : List Found = c.args.found.now.items in
    let l : List Found = slice (goal.at.loop-one-preserved c).After-count_to-to in
    record {
      copied = c.in_ok-push.ensures.items ∙ ap (λ (xs : List Found). xs ++ move one ∷ []) c.loop-one.invariant.copied
          ∙ append_assoc old (map move (take i l)) (move one ∷ []) ∙ ap (λ (xs : List Found). old ++ xs)
          (sym (ap (map move) (take_more l i one c.loop-one-test.true) ∙ map-append move (take i l) (get_or l i one ∷ [])
          ∙ ap (λ (x : Found). map move (take i l) ++ move x ∷ []) (sym c.one-item.is)));
    }

pub returns : goal.returns
returns c =
    let at = (goal.at.returns c).After-count_to-to in
    let move : Found → Found = λ x. found_at (x.at - c.args.was + c.args.at) x.finding in
    c.loop-one.invariant.copied ∙ ap (λ (l : List Found). c.args.found.now.items ++ l)
    (ap (map move) (take_all c.loop-one.one-index _ c.loop-one-test.false ∙ items at)
    ∙ moved_here c.args.was c.args.at
    (check (ended (begins c.args.self.now) (take c.args.was (old_steps c.args.self.now)))
    (steps_of (old_steps c.args.self.now) c.args.was c.args.len)))

pub slice_bounds-one-items-start : goal.slice_bounds-one-items-start
slice_bounds-one-items-start c =
    let at = (goal.at.slice_bounds-one-items-start c).After-count_to-to in
    let upto = length-take-le c.count_to-to.result c.args.self.now.found.now c.count_to-to.ensures.within in
    omega (arith, from_is at, to_is at, length-append (first at) (middle at), upto)
