-- The findings of the lines of a run, line by line.
use Rattle.std.proofs.Common.{◌≡◌, ℕ, ◌+◌, ◌-◌, ◌<◌, ◌≤◌, List, [], ◌∷◌, ◌++◌, length, map, refl, sym, ap, ◌∙◌, arith}
use Rattle.std.proofs.Common.{subst, true, false, Bool, append_assoc, inl, inr, length-append}
use Rattle.std.specs.Prelude.{◌==◌, ◌⊎◌, not, if◌then◌else◌, filter}
use Rattle.std.proofs.lemmas.List.Elements.{filter-append}
use Rattle.std.proofs.lemmas.Bool.{ne_eqb, eq-eqb}
use Rattle.std.proofs.lemmas.List.{append-nil, map-append}
use Rattle.cap_machine.specs.declared.verdict.Found.{Found}
use Rattle.cap_summary.specs.declared.kept_run.KeptRun.{KeptRun}
use Rattle.cap_session.specs.Changes.{of_line, same_findings}
use Rattle.cap_session.specs.Code.Walked.{Rise, RiseWithin, BeginAt, differs_then, differs_now}

-- ---- findings in order

pub within_rise : (low last : ℕ) (found : List Found) → RiseWithin low last found → Rise low found
unfolding Rise RiseWithin
within_rise low last [] within = tt
within_rise low last (one ∷ found) within = (within.0, within_rise one.at last found within.2)

pub within_wider : (low last lower later : ℕ) (found : List Found) → lower ≤ low → last ≤ later
    → RiseWithin low last found → RiseWithin lower later found
unfolding RiseWithin
within_wider low last lower later [] l h within = tt
within_wider low last lower later (one ∷ found) l h within =
    (omega (arith, within.0), omega (arith, within.1), within_wider one.at last one.at later found (omega arith) h within.2)

pub within_both : (low mid last : ℕ) (xs ys : List Found) → low ≤ mid → RiseWithin low mid xs → mid ≤ last
    → RiseWithin mid last ys → RiseWithin low last (xs ++ ys)
unfolding RiseWithin
within_both low mid last [] ys low_le xs_rise le ys_rise =
    within_wider mid last low last ys low_le (omega arith) ys_rise
within_both low mid last (one ∷ xs) ys low_le xs_rise le ys_rise =
    (xs_rise.0, omega (arith, xs_rise.1), within_both one.at mid last xs ys xs_rise.1 xs_rise.2 le ys_rise)

-- the first part of findings in order is in order from where they begin, and the second is
pub rise_front : (low last : ℕ) (xs ys : List Found) → Rise low (xs ++ ys) → RiseWithin 0 last xs → RiseWithin low last xs
unfolding Rise RiseWithin
rise_front low last [] ys rise within = tt
rise_front low last (one ∷ xs) ys rise within = (
  rise.0,
  within.1,
  rise_front one.at last xs ys rise.1
      (within_wider one.at last 0 last xs (omega arith) (omega arith) within.2),
)

pub within_back : (low last low' : ℕ) (xs ys : List Found) → RiseWithin low last (xs ++ ys) → Rise low' ys
    → RiseWithin low' last ys
unfolding Rise RiseWithin
within_back low last low' [] [] within rise = tt
within_back low last low' [] (y ∷ ys) within rise = (rise.0, within.1, within.2)
within_back low last low' (one ∷ xs) ys within rise = within_back one.at last low' xs ys within.2 rise

-- ---- the findings of a line

pub of_line-append : (p : ℕ) (xs ys : List Found) → of_line p (xs ++ ys) ≡ of_line p xs ++ of_line p ys
of_line-append p xs ys =
    ap (map (λ (one : Found). one.finding)) (filter-append (λ one. one.at == p) xs ys)
    ∙ map-append (λ (one : Found). one.finding) (filter (λ one. one.at == p) xs) (filter (λ one. one.at == p) ys)

pub of_line-before : (p low last : ℕ) (xs : List Found) → RiseWithin low last xs → last < p → of_line p xs ≡ []
unfolding RiseWithin
of_line-before p low last [] within lt = refl
of_line-before p low last (one ∷ xs) within lt =
    rw (ne_eqb one.at p (λ same. omega (arith, same, within.1))) (of_line-before p one.at last xs within.2 lt)

pub of_line-beyond : (p low : ℕ) (xs : List Found) → Rise low xs → p < low → of_line p xs ≡ []
unfolding Rise
of_line-beyond p low [] rise lt = refl
of_line-beyond p low (one ∷ xs) rise lt =
    rw (ne_eqb one.at p (λ same. omega (arith, same, rise.0)))
    (of_line-beyond p one.at xs rise.1 (omega (arith, rise.0)))

pub of_line-all : (p : ℕ) (xs : List Found) → RiseWithin p p xs → of_line p xs ≡ map (λ one. one.finding) xs
unfolding RiseWithin
of_line-all p [] within = refl
of_line-all p (one ∷ xs) within =
    let here : one.at ≡ p = omega (arith, within.0, within.1) in
    rw (eq-eqb one.at p here) (ap (λ l. one.finding ∷ l)
    (of_line-all p xs (within_wider one.at p p p xs (omega (arith, here)) (omega arith) within.2)))

-- ---- what is kept of the findings of a line

pub filter_line : (keep : Found → Bool) (b : Bool) (p : ℕ) (xs : List Found) → RiseWithin p p xs
    → ((one : Found) → one.at ≡ p → keep one ≡ b) → filter keep xs ≡ (if b then xs else [])
unfolding RiseWithin
filter_line keep true p [] within each = refl
filter_line keep false p [] within each = refl
filter_line keep true p (one ∷ xs) within each =
    let here : one.at ≡ p = omega (arith, within.0, within.1) in
    rw (each one here) (ap (λ l. one ∷ l)
    (filter_line keep true p xs (within_wider one.at p p p xs (omega (arith, here)) (omega arith) within.2) each))
filter_line keep false p (one ∷ xs) within each =
    let here : one.at ≡ p = omega (arith, within.0, within.1) in
    rw (each one here)
    (filter_line keep false p xs (within_wider one.at p p p xs (omega (arith, here)) (omega arith) within.2) each)

-- ---- one line more

-- So many lines of a run are compared: these findings of then and now are behind them, and this went and came.
pub record Compared (run : KeptRun) (then_found found : List Found) (went0 came0 : List Found) (line : ℕ)
    (then_rest rest went1 came1 : List Found) : Type 0 where
  pub then_done : List Found
  pub done : List Found
  pub then_cut : then_found ≡ then_done ++ then_rest
  pub cut : found ≡ done ++ rest
  pub then_before : RiseWithin 0 (run.was + line) then_done
  pub before : RiseWithin 0 (run.at + line) done
  pub then_behind : RiseWithin (run.was + line + 1) (run.was + run.len) then_rest
  pub behind : RiseWithin (run.at + line + 1) (run.at + run.len) rest
  pub went : went1 ≡ went0 ++ filter (differs_then run then_found found) then_done
  pub came : came1 ≡ came0 ++ filter (differs_now run then_found found) done

-- the findings of a line that others come before and behind
line_alone : (p n m : ℕ) (before here behind : List Found) → RiseWithin 0 n before → n < p → RiseWithin p p here
    → Rise m behind → p < m → of_line p (before ++ (here ++ behind)) ≡ map (λ one. one.finding) here
line_alone p n m before here behind first lt all last gt =
    of_line-append p before (here ++ behind)
    ∙ ap (λ l. l ++ of_line p (here ++ behind)) (of_line-before p 0 n before first lt)
    ∙ of_line-append p here behind
    ∙ ap (λ l. of_line p here ++ l) (of_line-beyond p m behind last gt)
    ∙ append-nil (of_line p here)
    ∙ of_line-all p here all

-- what the code adds of the line
abbrev added : Bool → List Found → List Found → List Found
added same list here = if same then list else list ++ here

added_is : (same : Bool) (start list done here : List Found) (keep : Found → Bool) (p : ℕ)
    → list ≡ start ++ filter keep done → RiseWithin p p here → ((one : Found) → one.at ≡ p → keep one ≡ not same)
    → added same list here ≡ start ++ filter keep (done ++ here)
added_is true start list done here keep p is all each =
    is ∙ ap (λ l. start ++ l) (sym (filter-append keep done here
    ∙ ap (λ l. filter keep done ++ l) (filter_line keep false p here all each) ∙ append-nil (filter keep done)))
added_is false start list done here keep p is all each =
    ap (λ l. l ++ here) is ∙ append_assoc start (filter keep done) here
    ∙ ap (λ l. start ++ l) (sym (filter-append keep done here
    ∙ ap (λ l. filter keep done ++ l) (filter_line keep true p here all each)))

begins_within : (p low last : ℕ) (xs : List Found) → RiseWithin low last xs → BeginAt p xs → (low ≤ p) × (p ≤ last)
unfolding RiseWithin BeginAt
begins_within p low last [] within begins = absurd begins
begins_within p low last (one ∷ xs) within begins =
    (omega (arith, within.0, begins), omega (arith, within.1, begins))

-- the next line with findings is behind those that were compared, and in the run
pub next_in : (run : KeptRun) (then_found found went0 came0 : List Found) (line next : ℕ)
    (then_rest rest went1 came1 : List Found)
    → Compared run then_found found went0 came0 line then_rest rest went1 came1
    → BeginAt (run.was + next) then_rest ⊎ BeginAt (run.at + next) rest → (line < next) × (next ≤ run.len)
next_in run then_found found went0 came0 line next then_rest rest went1 came1 is (inl begins) =
    let range = begins_within _ _ _ then_rest is.then_behind begins in
    (omega (arith, range.0), omega (arith, range.1))
next_in run then_found found went0 came0 line next then_rest rest went1 came1 is (inr begins) =
    let range = begins_within _ _ _ rest is.behind begins in
    (omega (arith, range.0), omega (arith, range.1))

-- nothing is compared yet
pub compared_none : (run : KeptRun) (then_found found went0 came0 : List Found)
    → RiseWithin (run.was + 1) (run.was + run.len) then_found → RiseWithin (run.at + 1) (run.at + run.len) found
    → Compared run then_found found went0 came0 0 then_found found went0 came0
unfolding RiseWithin
compared_none run then_found found went0 came0 then_within within = record {
  then_done = [];
  done = [];
  then_cut = refl;
  cut = refl;
  then_before = tt;
  before = tt;
  then_behind = within_wider (run.was + 1) (run.was + run.len) (run.was + 0 + 1) (run.was + run.len) then_found
      (omega arith) (omega arith) then_within;
  behind = within_wider (run.at + 1) (run.at + run.len) (run.at + 0 + 1) (run.at + run.len) found (omega arith)
      (omega arith) within;
  went = sym (append-nil went0);
  came = sym (append-nil came0);
}

-- where nothing is left, this went and came of the run
pub compared_all : (run : KeptRun) (then_found found went0 came0 : List Found) (line : ℕ)
    (then_rest rest went1 came1 : List Found)
    → Compared run then_found found went0 came0 line then_rest rest went1 came1 → then_rest ≡ [] → rest ≡ [] → record {
      went : went1 ≡ went0 ++ filter (differs_then run then_found found) then_found;
      came : came1 ≡ came0 ++ filter (differs_now run then_found found) found;
    }
compared_all run then_found found went0 came0 line then_rest rest went1 came1 is then_none none =
    let all_then = is.then_cut ∙ ap (λ l. is.then_done ++ l) then_none ∙ append-nil is.then_done in
    let all = is.cut ∙ ap (λ l. is.done ++ l) none ∙ append-nil is.done in
    record {
      went = is.went ∙ ap (λ l. went0 ++ filter (differs_then run then_found found) l) (sym all_then);
      came = is.came ∙ ap (λ l. came0 ++ filter (differs_now run then_found found) l) (sym all);
    }

module _ (run : KeptRun) (then_found found went0 came0 : List Found) (line next : ℕ)
    (then_rest rest went1 came1 : List Found)
    (is : Compared run then_found found went0 came0 line then_rest rest went1 came1)
    (then_low : Rise (run.was + next) then_rest) (low : Rise (run.at + next) rest)
    (begin : BeginAt (run.was + next) then_rest ⊎ BeginAt (run.at + next) rest)
    (old later_then new later : List Found) (then_cut : then_rest ≡ old ++ later_then) (cut : rest ≡ new ++ later)
    (old_within : RiseWithin 0 (run.was + next) old) (new_within : RiseWithin 0 (run.at + next) new)
    (then_more : Rise (run.was + next + 1) later_then) (more : Rise (run.at + next + 1) later) where
  further : (line < next) × (next ≤ run.len)
  further = next_in run then_found found went0 came0 line next then_rest rest went1 came1 is begin

  old_all : RiseWithin (run.was + next) (run.was + next) old
  old_all = rise_front (run.was + next) (run.was + next) old later_then (subst (Rise (run.was + next)) then_cut then_low)
      old_within

  new_all : RiseWithin (run.at + next) (run.at + next) new
  new_all = rise_front (run.at + next) (run.at + next) new later (subst (Rise (run.at + next)) cut low) new_within

  then_line : of_line (run.was + next) then_found ≡ map (λ one. one.finding) old
  then_line = ap (of_line (run.was + next)) (is.then_cut ∙ ap (λ l. is.then_done ++ l) then_cut)
      ∙ line_alone (run.was + next) (run.was + line) (run.was + next + 1) is.then_done old later_then is.then_before
      (omega (arith, further.0)) old_all then_more (omega arith)

  now_line : of_line (run.at + next) found ≡ map (λ one. one.finding) new
  now_line = ap (of_line (run.at + next)) (is.cut ∙ ap (λ l. is.done ++ l) cut)
      ∙ line_alone (run.at + next) (run.at + line) (run.at + next + 1) is.done new later is.before
      (omega (arith, further.0)) new_all more (omega arith)

  abbrev same : Bool
  same = same_findings (map (λ one. one.finding) old) (map (λ one. one.finding) new)

  then_differs : (one : Found) → one.at ≡ run.was + next → differs_then run then_found found one ≡ not same
  then_differs one at =
      let there : run.at + (one.at - run.was) ≡ run.at + next = omega (arith, at) in
      rw (there, at, then_line, now_line) refl

  now_differs : (one : Found) → one.at ≡ run.at + next → differs_now run then_found found one ≡ not same
  now_differs one at =
      let there : run.was + (one.at - run.at) ≡ run.was + next = omega (arith, at) in
      rw (there, at, then_line, now_line) refl

  pub compared_next : Compared run then_found found went0 came0 next later_then later (added same went1 old)
      (added same came1 new)
  compared_next = record {
    then_done = is.then_done ++ old;
    done = is.done ++ new;
    then_cut = is.then_cut ∙ ap (λ l. is.then_done ++ l) then_cut ∙ sym (append_assoc is.then_done old later_then);
    cut = is.cut ∙ ap (λ l. is.done ++ l) cut ∙ sym (append_assoc is.done new later);
    then_before = within_both 0 (run.was + line) (run.was + next) is.then_done old (omega arith) is.then_before
        (omega (arith, further.0))
        (within_wider (run.was + next) (run.was + next) (run.was + line) (run.was + next) old (omega (arith, further.0))
        (omega arith) old_all);
    before = within_both 0 (run.at + line) (run.at + next) is.done new (omega arith) is.before
        (omega (arith, further.0))
        (within_wider (run.at + next) (run.at + next) (run.at + line) (run.at + next) new (omega (arith, further.0))
        (omega arith) new_all);
    then_behind = within_back (run.was + line + 1) (run.was + run.len) (run.was + next + 1) old later_then
        (subst (RiseWithin (run.was + line + 1) (run.was + run.len)) then_cut is.then_behind) then_more;
    behind = within_back (run.at + line + 1) (run.at + run.len) (run.at + next + 1) new later
        (subst (RiseWithin (run.at + line + 1) (run.at + run.len)) cut is.behind) more;
    went = added_is same went0 went1 is.then_done old (differs_then run then_found found) (run.was + next) is.went
        old_all then_differs;
    came = added_is same came0 came1 is.done new (differs_now run then_found found) (run.at + next) is.came new_all
        now_differs;
  }

  pub compared_same : same ≡ true → Compared run then_found found went0 came0 next later_then later went1 came1
  compared_same alike = subst (λ (b : Bool). Compared run then_found found went0 came0 next later_then later
      (added b went1 old) (added b came1 new)) alike compared_next

  pub compared_other : same ≡ false → (went2 came2 : List Found) → went2 ≡ went1 ++ old → came2 ≡ came1 ++ new
      → Compared run then_found found went0 came0 next later_then later went2 came2
  compared_other other went2 came2 went_is came_is = rw (went_is, came_is)
      (subst (λ (b : Bool). Compared run then_found found went0 came0 next later_then later (added b went1 old)
      (added b came1 new)) other compared_next)

  -- fewer findings are left
  fewer_behind : (p : ℕ) (here behind : List Found) → BeginAt p (here ++ behind) → Rise (p + 1) behind
      → length behind < length (here ++ behind)
  unfolding BeginAt Rise
  fewer_behind p [] [] begins rise = absurd begins
  fewer_behind p [] (one ∷ behind) begins rise = absurd (omega (arith, begins, rise.0))
  fewer_behind p (one ∷ here) behind begins rise = omega (arith, length-append here behind)

  pub fewer_left : length later_then + length later < length then_rest + length rest
  fewer_left = elim begin [
    | inl begins ↦
        let less = fewer_behind (run.was + next) old later_then (subst (BeginAt (run.was + next)) then_cut begins)
        then_more in
        omega (arith, less, ap length then_cut, ap length cut, length-append new later)
    | inr begins ↦
        let less = fewer_behind (run.at + next) new later (subst (BeginAt (run.at + next)) cut begins) more in
        omega (arith, less, ap length then_cut, ap length cut, length-append old later_then)
  ]
