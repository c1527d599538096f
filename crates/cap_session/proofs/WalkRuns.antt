-- A walk over the findings then and now, run by run.
use Rattle.std.proofs.Common.{◌≡◌, ℕ, ◌+◌, ◌-◌, ◌<◌, ◌≤◌, List, [], ◌∷◌, ◌++◌, length, take, drop, refl, sym, ap, ◌∙◌}
use Rattle.std.proofs.Common.{arith, suc, zero, true, Bool, subst, append_assoc, get_or, drop-cons}
use Rattle.std.specs.Prelude.{◌||◌, not, filter}
use Rattle.std.proofs.lemmas.List.{take-append-drop, append-nil, length-take-le, take_all}
use Rattle.std.proofs.Math.Bool.{or-false}
use Rattle.std.proofs.lemmas.List.Elements.{filter-append}
use Rattle.std.proofs.lemmas.Grind.{flat_map-append}
use Rattle.cap_machine.specs.declared.verdict.Found.{Found}
use Rattle.cap_summary.specs.declared.kept_run.KeptRun.{KeptRun}
use Rattle.cap_session.specs.Changes.{Line, of_line, has_same, went_from, came_to}
use Rattle.cap_session.specs.Code.RunTable.{InOrder, was_end, at_end, apart_end, behind}
use Rattle.cap_session.specs.Code.Walked.{Rise, RiseWithin, differs_then, differs_now, lines_in, lines_of}
use Rattle.cap_session.proofs.RunOrder.{was_end-append, at_end-append, order_back, order_front}
use Rattle.cap_session.proofs.InRun.{within_wider, within_both, rise_front, of_line-append, of_line-before}
use Rattle.cap_session.proofs.InRun.{of_line-beyond}
use Rattle.cap_session.proofs.KeptHits.{hit, hit-append, run_was_before, run_was_here, run_at_before, run_at_here}
use Rattle.cap_session.proofs.KeptHits.{none_was_before, none_was_behind, none_at_before, none_at_behind}

-- ---- what is kept of findings in order

filter_within : (keep other : Found → Bool) (low last : ℕ) (xs : List Found) → RiseWithin low last xs
    → ((one : Found) → low ≤ one.at → one.at ≤ last → keep one ≡ other one) → filter keep xs ≡ filter other xs
unfolding RiseWithin
filter_within keep other low last [] within each = refl
filter_within keep other low last (one ∷ xs) within each =
    let more = filter_within keep other one.at last xs within.2
    (λ x above below. each x (omega (arith, above, within.0)) below) in
    rw (each one within.0 within.1, more) refl

-- findings that are all kept come after those that are
added : (keep : Found → Bool) (list more done xs : List Found) → list ≡ filter keep done → more ≡ list ++ xs
    → filter keep xs ≡ xs → more ≡ filter keep (done ++ xs)
added keep list more done xs is more_is all =
    more_is ∙ ap (λ l. l ++ xs) is ∙ ap (λ l. filter keep done ++ l) (sym all) ∙ sym (filter-append keep done xs)

filter_all_within : (keep : Found → Bool) (low last : ℕ) (xs : List Found) → RiseWithin low last xs
    → ((one : Found) → low ≤ one.at → one.at ≤ last → keep one ≡ true) → filter keep xs ≡ xs
unfolding RiseWithin
filter_all_within keep low last [] within each = refl
filter_all_within keep low last (one ∷ xs) within each =
    let more = filter_all_within keep one.at last xs within.2
    (λ x above below. each x (omega (arith, above, within.0)) below) in
    rw (each one within.0 within.1) (ap (λ l. one ∷ l) more)

filter_all : (keep : Found → Bool) (low : ℕ) (xs : List Found) → Rise low xs
    → ((one : Found) → low ≤ one.at → keep one ≡ true) → filter keep xs ≡ xs
unfolding Rise
filter_all keep low [] rise each = refl
filter_all keep low (one ∷ xs) rise each =
    let more = filter_all keep one.at xs rise.1 (λ x above. each x (omega (arith, above, rise.0))) in
    rw (each one rise.0) (ap (λ l. one ∷ l) more)

take_two : {A : Type 0} (i : ℕ) (xs : List A) (y : A) (ys : List A) → length xs ≡ i
    → take (suc i) (xs ++ (y ∷ ys)) ≡ xs ++ (y ∷ [])
take_two zero [] y ys long = refl
take_two (suc i) [] y ys long = absurd (omega arith)
take_two zero (x ∷ xs) y ys long = absurd (omega arith)
take_two (suc i) (x ∷ xs) y ys long = ap (λ l. x ∷ l) (take_two i xs y ys (omega arith))

-- ---- the findings of a line among others

-- of findings in three parts, those of a line are in the second
line_between : (p before after : ℕ) (xs ys zs : List Found) → RiseWithin 0 before xs → before < p → Rise after zs
    → p < after → of_line p (xs ++ (ys ++ zs)) ≡ of_line p ys
line_between p before after xs ys zs first lt last gt =
    of_line-append p xs (ys ++ zs)
    ∙ ap (λ l. l ++ of_line p (ys ++ zs)) (of_line-before p 0 before xs first lt)
    ∙ of_line-append p ys zs
    ∙ ap (λ l. of_line p ys ++ l) (of_line-beyond p after zs last gt)
    ∙ append-nil (of_line p ys)

module _ (all : List KeptRun) (then_found found : List Found) where
  abbrev good : Line → Bool
  good = has_same then_found found

  abbrev keep_then : Found → Bool
  keep_then one = not (hit good (λ l. l.was) one.at (lines_of all))

  abbrev keep_now : Found → Bool
  keep_now one = not (hit good (λ l. l.at) one.at (lines_of all))

  -- The walk passed so many runs: these findings are behind them, and this went and came.
  pub record Walked (i : ℕ) (then_rest rest went1 came1 : List Found) : Type 0 where
    pub then_done : List Found
    pub done : List Found
    pub then_cut : then_found ≡ then_done ++ then_rest
    pub cut : found ≡ done ++ rest
    pub then_before : RiseWithin 0 (was_end 0 (take i all)) then_done
    pub before : RiseWithin 0 (at_end 0 (take i all)) done
    pub then_behind : Rise (was_end 0 (take i all) + 1) then_rest
    pub behind : Rise (at_end 0 (take i all) + 1) rest
    pub went : went1 ≡ filter keep_then then_done
    pub came : came1 ≡ filter keep_now done

  pub walked_none : Rise 1 then_found → Rise 1 found → Walked 0 then_found found [] []
  unfolding RiseWithin was_end at_end
  walked_none then_rise rise = record {
    then_done = [];
    done = [];
    then_cut = refl;
    cut = refl;
    then_before = tt;
    before = tt;
    then_behind = then_rise;
    behind = rise;
    went = refl;
    came = refl;
  }

  module _ (order : InOrder 0 0 0 all) where
    -- ---- one run

    module _ (i : ℕ) (run : KeptRun) (lt : i < length all) (is : run ≡ get_or all i run) where
      abbrev front : List KeptRun
      front = take i all

      abbrev back : List KeptRun
      back = drop (suc i) all

      whole : all ≡ front ++ (run ∷ back)
      whole = sym (take-append-drop i all)
          ∙ ap (λ l. front ++ l) (drop-cons all i run lt ∙ ap (λ r. r ∷ back) (sym is))

      front_order : InOrder 0 0 0 front
      front_order = order_front 0 0 0 front (run ∷ back) (subst (InOrder 0 0 0) whole order)

      here : InOrder (was_end 0 front) (at_end 0 front) (apart_end 0 front) (run ∷ back)
      here = order_back 0 0 0 front (run ∷ back) (subst (InOrder 0 0 0) whole order)

      pub begins : (was_end 0 front ≤ run.was) × (at_end 0 front ≤ run.at)
      unfolding InOrder
      begins = (here.0, here.1)

      back_order : InOrder (run.was + run.len) (run.at + run.len) (behind run) back
      unfolding InOrder
      back_order = here.4

      in_parts : (key : Line → ℕ) (p : ℕ) → hit good key p (lines_of all)
          ≡ (hit good key p (lines_of front) || (hit good key p (lines_in run) || hit good key p (lines_of back)))
      in_parts key p = ap (λ l. hit good key p (lines_of l)) whole
          ∙ ap (hit good key p) (flat_map-append lines_in front (run ∷ back))
          ∙ hit-append good key p (lines_of front) (lines_in run ++ lines_of back)
          ∙ ap (λ b. hit good key p (lines_of front) || b) (hit-append good key p (lines_in run) (lines_of back))

      gone : (one : Found) → was_end 0 front + 1 ≤ one.at → one.at ≤ run.was → keep_then one ≡ true
      gone one low high = rw (
        in_parts (λ l. l.was) one.at,
        none_was_behind good 0 0 0 one.at front front_order (omega arith),
        run_was_before good run one.at high,
        none_was_before good (run.was + run.len) (run.at + run.len) (behind run) one.at back back_order (omega (arith, high)),
      )
          refl

      new : (one : Found) → at_end 0 front + 1 ≤ one.at → one.at ≤ run.at → keep_now one ≡ true
      new one low high = rw (
        in_parts (λ l. l.at) one.at,
        none_at_behind good 0 0 0 one.at front front_order (omega arith),
        run_at_before good run one.at high,
        none_at_before good (run.was + run.len) (run.at + run.len) (behind run) one.at back back_order (omega (arith, high)),
      )
          refl

      take_next : take (suc i) all ≡ front ++ (run ∷ [])
      take_next = ap (take (suc i)) whole ∙ take_two i front run back (length-take-le i all (omega (arith, lt)))

      was_end_one : (n : ℕ) → was_end n (run ∷ []) ≡ run.was + run.len
      unfolding was_end
      was_end_one n = refl

      at_end_one : (n : ℕ) → at_end n (run ∷ []) ≡ run.at + run.len
      unfolding at_end
      at_end_one n = refl

      -- where the runs end with this one
      was_next : was_end 0 (take (suc i) all) ≡ run.was + run.len
      was_next = ap (was_end 0) take_next ∙ was_end-append 0 front (run ∷ [])
          ∙ was_end_one (was_end 0 front)

      at_next : at_end 0 (take (suc i) all) ≡ run.at + run.len
      at_next = ap (at_end 0) take_next ∙ at_end-append 0 front (run ∷ []) ∙ at_end_one (at_end 0 front)

      module _ (then_rest rest went1 came1 : List Found) (walked : Walked i then_rest rest went1 came1)
          (gone_xs then_later old_xs then_last new_xs later here_xs last : List Found)
          (then_first : then_rest ≡ gone_xs ++ then_later) (then_second : then_later ≡ old_xs ++ then_last)
          (first : rest ≡ new_xs ++ later) (second : later ≡ here_xs ++ last)
          (gone_in : RiseWithin 0 run.was gone_xs) (new_in : RiseWithin 0 run.at new_xs)
          (then_mid : Rise (run.was + 1) then_later) (mid : Rise (run.at + 1) later)
          (old_in : RiseWithin 0 (run.was + run.len) old_xs) (here_in : RiseWithin 0 (run.at + run.len) here_xs)
          (then_end : Rise (run.was + run.len + 1) then_last) (end : Rise (run.at + run.len + 1) last) where
        pub old_run : RiseWithin (run.was + 1) (run.was + run.len) old_xs
        old_run = rise_front (run.was + 1) (run.was + run.len) old_xs then_last
            (subst (Rise (run.was + 1)) then_second then_mid) old_in

        pub here_run : RiseWithin (run.at + 1) (run.at + run.len) here_xs
        here_run = rise_front (run.at + 1) (run.at + run.len) here_xs last (subst (Rise (run.at + 1)) second mid) here_in

        gone_run : RiseWithin (was_end 0 front + 1) run.was gone_xs
        gone_run = rise_front (was_end 0 front + 1) run.was gone_xs then_later
            (subst (Rise (was_end 0 front + 1)) then_first walked.then_behind) gone_in

        new_run : RiseWithin (at_end 0 front + 1) run.at new_xs
        new_run = rise_front (at_end 0 front + 1) run.at new_xs later
            (subst (Rise (at_end 0 front + 1)) first walked.behind) new_in

        then_before2 : RiseWithin 0 run.was (walked.then_done ++ gone_xs)
        then_before2 = within_both 0 (was_end 0 front) run.was walked.then_done gone_xs (omega arith) walked.then_before
            (omega (arith, begins.0))
            (within_wider (was_end 0 front + 1) run.was (was_end 0 front) run.was gone_xs (omega arith) (omega arith) gone_run)

        before2 : RiseWithin 0 run.at (walked.done ++ new_xs)
        before2 = within_both 0 (at_end 0 front) run.at walked.done new_xs (omega arith) walked.before
            (omega (arith, begins.1))
            (within_wider (at_end 0 front + 1) run.at (at_end 0 front) run.at new_xs (omega arith) (omega arith) new_run)

        then_cut2 : then_found ≡ (walked.then_done ++ gone_xs) ++ (old_xs ++ then_last)
        then_cut2 = walked.then_cut ∙ ap (λ l. walked.then_done ++ l)
            (then_first ∙ ap (λ l. gone_xs ++ l) then_second)
            ∙ sym (append_assoc walked.then_done gone_xs (old_xs ++ then_last))

        cut2 : found ≡ (walked.done ++ new_xs) ++ (here_xs ++ last)
        cut2 = walked.cut ∙ ap (λ l. walked.done ++ l) (first ∙ ap (λ l. new_xs ++ l) second)
            ∙ sym (append_assoc walked.done new_xs (here_xs ++ last))

        then_line : (p : ℕ) → run.was + 1 ≤ p → p ≤ run.was + run.len → of_line p then_found ≡ of_line p old_xs
        then_line p low high = ap (of_line p) then_cut2
            ∙ line_between p run.was (run.was + run.len + 1) (walked.then_done ++ gone_xs) old_xs then_last then_before2
            (omega arith) then_end (omega (arith, high))

        now_line : (p : ℕ) → run.at + 1 ≤ p → p ≤ run.at + run.len → of_line p found ≡ of_line p here_xs
        now_line p low high = ap (of_line p) cut2
            ∙ line_between p run.at (run.at + run.len + 1) (walked.done ++ new_xs) here_xs last before2 (omega arith) end
            (omega (arith, high))

        old_is : (one : Found) → run.was + 1 ≤ one.at → one.at ≤ run.was + run.len
            → keep_then one ≡ differs_then run old_xs here_xs one
        old_is one low high =
            rw (
              in_parts (λ l. l.was) one.at,
              none_was_behind good 0 0 0 one.at front front_order (omega (arith, begins.0, low)),
              run_was_here good run one.at (omega (arith, low)) high,
              none_was_before good (run.was + run.len) (run.at + run.len) (behind run) one.at back back_order high,
              or-false (good (record { was = one.at; at = run.at + (one.at - run.was) })),
              then_line one.at low high,
              now_line (run.at + (one.at - run.was)) (omega (arith, low)) (omega (arith, high, low)),
            )
            refl

        here_is : (one : Found) → run.at + 1 ≤ one.at → one.at ≤ run.at + run.len
            → keep_now one ≡ differs_now run old_xs here_xs one
        here_is one low high =
            rw (
              in_parts (λ l. l.at) one.at,
              none_at_behind good 0 0 0 one.at front front_order (omega (arith, begins.1, low)),
              run_at_here good run one.at (omega (arith, low)) high,
              none_at_before good (run.was + run.len) (run.at + run.len) (behind run) one.at back back_order high,
              or-false (good (record { was = run.was + (one.at - run.at); at = one.at })),
              now_line one.at low high,
              then_line (run.was + (one.at - run.at)) (omega (arith, low)) (omega (arith, high, low)),
            )
            refl

        pub walked_next : (went2 went3 came2 came3 : List Found) → went2 ≡ went1 ++ gone_xs
            → went3 ≡ went2 ++ filter (differs_then run old_xs here_xs) old_xs → came2 ≡ came1 ++ new_xs
            → came3 ≡ came2 ++ filter (differs_now run old_xs here_xs) here_xs → Walked (suc i) then_last last went3 came3
        walked_next went2 went3 came2 came3 went_gone went_old came_new came_here = record {
          then_done = (walked.then_done ++ gone_xs) ++ old_xs;
          done = (walked.done ++ new_xs) ++ here_xs;
          then_cut = then_cut2 ∙ sym (append_assoc (walked.then_done ++ gone_xs) old_xs then_last);
          cut = cut2 ∙ sym (append_assoc (walked.done ++ new_xs) here_xs last);
          then_before = rw was_next (within_both 0 run.was (run.was + run.len) (walked.then_done ++ gone_xs) old_xs
              (omega arith) then_before2 (omega arith)
              (within_wider (run.was + 1) (run.was + run.len) run.was (run.was + run.len) old_xs (omega arith) (omega arith)
              old_run));
          before = rw at_next (within_both 0 run.at (run.at + run.len) (walked.done ++ new_xs) here_xs (omega arith) before2
              (omega arith)
              (within_wider (run.at + 1) (run.at + run.len) run.at (run.at + run.len) here_xs (omega arith) (omega arith)
              here_run));
          then_behind = rw was_next then_end;
          behind = rw at_next end;
          went = went_old
              ∙ ap (λ l. l ++ filter (differs_then run old_xs here_xs) old_xs)
              (added keep_then went1 went2 walked.then_done gone_xs walked.went went_gone
              (filter_all_within keep_then (was_end 0 front + 1) run.was gone_xs gone_run gone))
              ∙ ap (λ l. filter keep_then (walked.then_done ++ gone_xs) ++ l)
              (sym (filter_within keep_then (differs_then run old_xs here_xs) (run.was + 1) (run.was + run.len) old_xs
              old_run old_is))
              ∙ sym (filter-append keep_then (walked.then_done ++ gone_xs) old_xs);
          came = came_here
              ∙ ap (λ l. l ++ filter (differs_now run old_xs here_xs) here_xs)
              (added keep_now came1 came2 walked.done new_xs walked.came came_new
              (filter_all_within keep_now (at_end 0 front + 1) run.at new_xs new_run new))
              ∙ ap (λ l. filter keep_now (walked.done ++ new_xs) ++ l)
              (sym (filter_within keep_now (differs_now run old_xs here_xs) (run.at + 1) (run.at + run.len) here_xs
              here_run here_is))
              ∙ sym (filter-append keep_now (walked.done ++ new_xs) here_xs);
        }

    -- behind all runs, each finding went or came
    pub walked_all : (then_rest rest went1 went2 came1 came2 : List Found)
        → Walked (length all) then_rest rest went1 came1 → went2 ≡ went1 ++ then_rest → came2 ≡ came1 ++ rest → record {
          went : went2 ≡ went_from (lines_of all) then_found found;
          came : came2 ≡ came_to (lines_of all) then_found found;
        }
    walked_all then_rest rest went1 went2 came1 came2 walked went_is came_is =
        let everything : take (length all) all ≡ all = take_all (length all) all (omega arith) in
        let then_behind : Rise (was_end 0 all + 1) then_rest =
        subst (λ l. Rise (was_end 0 l + 1) then_rest) everything walked.then_behind in
        let behind : Rise (at_end 0 all + 1) rest =
        subst (λ l. Rise (at_end 0 l + 1) rest) everything walked.behind in
        record {
          went = added keep_then went1 went2 walked.then_done then_rest walked.went went_is
              (filter_all keep_then (was_end 0 all + 1) then_rest then_behind
              (λ one low. rw (none_was_behind good 0 0 0 one.at all order (omega arith)) refl))
              ∙ ap (filter keep_then) (sym walked.then_cut);
          came = added keep_now came1 came2 walked.done rest walked.came came_is
              (filter_all keep_now (at_end 0 all + 1) rest behind
              (λ one low. rw (none_at_behind good 0 0 0 one.at all order (omega arith)) refl))
              ∙ ap (filter keep_now) (sym walked.cut);
        }
