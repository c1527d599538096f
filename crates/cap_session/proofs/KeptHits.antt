-- Which positions the unchanged lines have, of those that stood.
use Rattle.std.proofs.Common.{◌≡◌, ℕ, ◌+◌, ◌-◌, ◌<◌, ◌≤◌, List, [], ◌∷◌, ◌++◌, map, refl, sym, ap, ◌∙◌, arith, suc}
use Rattle.std.proofs.Common.{zero, true, false, Bool, inl, inr, subst}
use Rattle.std.specs.Prelude.{◌==◌, ◌&&◌, ◌||◌, filter, if◌then◌else◌, Option, None, Some, replicate}
use Rattle.std.specs.List.{list_any, range_with_len}
use Rattle.std.proofs.lemmas.Bool.{ne_eqb, eq-eqb}
use Rattle.std.proofs.lemmas.Bool.Decides.{eqb_tells}
use Rattle.std.proofs.lemmas.List.{append-nil}
use Rattle.std.proofs.lemmas.List.Elements.{filter-append}
use Rattle.std.proofs.lemmas.List.Folds.{list_any-append}
use Rattle.std.proofs.Math.Bool.{or-false}
use Rattle.cap_summary.specs.declared.kept_run.KeptRun.{KeptRun}
use Rattle.cap_session.specs.Changes.{Line, kept_lines}
use Rattle.cap_session.specs.Code.RunTable.{InOrder, was_end, at_end, behind, spread, stood}
use Rattle.cap_session.specs.Code.Walked.{lines_in, lines_of}
use Rattle.cap_session.proofs.RunOrder.{ends_behind}

module _ (good : Line → Bool) where
  -- whether a good line is at a position
  abbrev pub hit : (Line → ℕ) → ℕ → List Line → Bool
  hit key p lines = list_any (λ line. key line == p) (filter good lines)

  hit_if : (key : Line → ℕ) (p : ℕ) (b : Bool) (line : Line) (lines : List Line)
      → list_any (λ l. key l == p) (if b then line ∷ lines else lines)
      ≡ ((b && (key line == p)) || list_any (λ l. key l == p) lines)
  hit_if key p true line lines = refl
  hit_if key p false line lines = refl

  hit_cons : (key : Line → ℕ) (p : ℕ) (line : Line) (lines : List Line)
      → hit key p (line ∷ lines) ≡ ((good line && (key line == p)) || hit key p lines)
  hit_cons key p line lines = hit_if key p (good line) line (filter good lines)

  and_false : (b : Bool) → (b && false) ≡ false
  and_false true = refl
  and_false false = refl

  and_true : (b : Bool) → (b && true) ≡ b
  and_true true = refl
  and_true false = refl

  hit_other : (key : Line → ℕ) (p : ℕ) (line : Line) (lines : List Line) → (key line ≡ p → ⊥)
      → hit key p (line ∷ lines) ≡ hit key p lines
  hit_other key p line lines other = hit_cons key p line lines
      ∙ ap (λ b. (good line && b) || hit key p lines) (ne_eqb (key line) p other)
      ∙ ap (λ b. b || hit key p lines) (and_false (good line))

  hit_here : (key : Line → ℕ) (p : ℕ) (line : Line) (lines : List Line) → key line ≡ p → hit key p lines ≡ false
      → hit key p (line ∷ lines) ≡ good line
  hit_here key p line lines here none = hit_cons key p line lines
      ∙ ap (λ b. (good line && b) || hit key p lines) (eq-eqb (key line) p here)
      ∙ ap (λ b. b || hit key p lines) (and_true (good line))
      ∙ ap (λ b. good line || b) none ∙ or-false (good line)

  pub hit-append : (key : Line → ℕ) (p : ℕ) (xs ys : List Line)
      → hit key p (xs ++ ys) ≡ (hit key p xs || hit key p ys)
  hit-append key p xs ys = ap (list_any (λ l. key l == p)) (filter-append good xs ys)
      ∙ list_any-append (λ l. key l == p) (filter good xs) (filter good ys)

  -- ---- lines in a row

  module _ (key : Line → ℕ) (line : ℕ → Line) (base : ℕ) (each : (k : ℕ) → key (line k) ≡ base + k) where
    row_below : (p i n : ℕ) → p < base + i → hit key p (map line (range_with_len i n)) ≡ false
    row_below p i zero lt = refl
    row_below p i (suc n) lt =
        hit_other key p (line i) (map line (range_with_len (i + 1) n)) (λ same. omega (arith, each i, same))
        ∙ row_below p (i + 1) n (omega arith)

    row_beyond : (p i n : ℕ) → base + i + n ≤ p → hit key p (map line (range_with_len i n)) ≡ false
    row_beyond p i zero le = refl
    row_beyond p i (suc n) le =
        hit_other key p (line i) (map line (range_with_len (i + 1) n)) (λ same. omega (arith, each i, same))
        ∙ row_beyond p (i + 1) n (omega arith)

    row_here : (j i n : ℕ) → i ≤ j → j < i + n → hit key (base + j) (map line (range_with_len i n)) ≡ good (line j)
    row_here j i zero le lt = absurd (omega arith)
    row_here j i (suc n) le lt = elim (eqb_tells i j) [
      | inl same ↦
          let here : key (line i) ≡ base + j = omega (arith, each i, same.1) in
          hit_here key (base + j) (line i) (map line (range_with_len (i + 1) n)) here
          (row_below (base + j) (i + 1) n (omega (arith, same.1)))
          ∙ ap (λ k. good (line k)) same.1
      | inr other ↦
          hit_other key (base + j) (line i) (map line (range_with_len (i + 1) n))
          (λ same. other.1 (omega (arith, each i, same)))
          ∙ row_here j (i + 1) n (omega (arith, other.1)) (omega arith)
    ]

  -- ---- the lines of a run

  was_of : Line → ℕ
  was_of line = line.was

  at_of : Line → ℕ
  at_of line = line.at

  module _ (run : KeptRun) where
    abbrev nth : ℕ → Line
    nth k = record { was = run.was + k; at = run.at + k }

    pub run_was_before : (p : ℕ) → p ≤ run.was → hit (λ l. l.was) p (lines_in run) ≡ false
    run_was_before p le = row_below (λ l. l.was) nth run.was (λ k. refl) p 1 run.len (omega arith)

    pub run_was_behind : (p : ℕ) → run.was + run.len < p → hit (λ l. l.was) p (lines_in run) ≡ false
    run_was_behind p lt = row_beyond (λ l. l.was) nth run.was (λ k. refl) p 1 run.len (omega arith)

    pub run_was_here : (p : ℕ) → run.was < p → p ≤ run.was + run.len
        → hit (λ l. l.was) p (lines_in run) ≡ good (record { was = p; at = run.at + (p - run.was) })
    run_was_here p lt le =
        let is : run.was + (p - run.was) ≡ p = omega (arith, lt) in
        subst (λ q. hit (λ l. l.was) q (lines_in run) ≡ good (record { was = q; at = run.at + (p - run.was) })) is
        (row_here (λ l. l.was) nth run.was (λ k. refl) (p - run.was) 1 run.len (omega arith) (omega arith))

    pub run_at_before : (p : ℕ) → p ≤ run.at → hit (λ l. l.at) p (lines_in run) ≡ false
    run_at_before p le = row_below (λ l. l.at) nth run.at (λ k. refl) p 1 run.len (omega arith)

    pub run_at_behind : (p : ℕ) → run.at + run.len < p → hit (λ l. l.at) p (lines_in run) ≡ false
    run_at_behind p lt = row_beyond (λ l. l.at) nth run.at (λ k. refl) p 1 run.len (omega arith)

    pub run_at_here : (p : ℕ) → run.at < p → p ≤ run.at + run.len
        → hit (λ l. l.at) p (lines_in run) ≡ good (record { was = run.was + (p - run.at); at = p })
    run_at_here p lt le =
        let is : run.at + (p - run.at) ≡ p = omega (arith, lt) in
        subst (λ q. hit (λ l. l.at) q (lines_in run) ≡ good (record { was = run.was + (p - run.at); at = q })) is
        (row_here (λ l. l.at) nth run.at (λ k. refl) (p - run.at) 1 run.len (omega arith) (omega arith))

  -- ---- the lines of runs

  pub none_was_before : (was at apart p : ℕ) (runs : List KeptRun) → InOrder was at apart runs → p ≤ was
      → hit (λ l. l.was) p (lines_of runs) ≡ false
  unfolding InOrder
  none_was_before was at apart p [] order le = refl
  none_was_before was at apart p (run ∷ runs) order le =
      hit-append (λ l. l.was) p (lines_in run) (lines_of runs)
      ∙ rw (
        run_was_before run p (omega (arith, order.0)),
        none_was_before (run.was + run.len) (run.at + run.len) (behind run) p runs order.4 (omega (arith, order.0)),
      ) refl

  pub none_was_behind : (was at apart p : ℕ) (runs : List KeptRun) → InOrder was at apart runs → was_end was runs < p
      → hit (λ l. l.was) p (lines_of runs) ≡ false
  unfolding InOrder was_end
  none_was_behind was at apart p [] order lt = refl
  none_was_behind was at apart p (run ∷ runs) order lt =
      let beyond = ends_behind (run.was + run.len) (run.at + run.len) (behind run) runs order.4 in
      hit-append (λ l. l.was) p (lines_in run) (lines_of runs)
      ∙ rw (
        run_was_behind run p (omega (arith, beyond.0)),
        none_was_behind (run.was + run.len) (run.at + run.len) (behind run) p runs order.4 lt,
      ) refl

  pub none_at_before : (was at apart p : ℕ) (runs : List KeptRun) → InOrder was at apart runs → p ≤ at
      → hit (λ l. l.at) p (lines_of runs) ≡ false
  unfolding InOrder
  none_at_before was at apart p [] order le = refl
  none_at_before was at apart p (run ∷ runs) order le =
      hit-append (λ l. l.at) p (lines_in run) (lines_of runs)
      ∙ rw (
        run_at_before run p (omega (arith, order.1)),
        none_at_before (run.was + run.len) (run.at + run.len) (behind run) p runs order.4 (omega (arith, order.1)),
      ) refl

  pub none_at_behind : (was at apart p : ℕ) (runs : List KeptRun) → InOrder was at apart runs → at_end at runs < p
      → hit (λ l. l.at) p (lines_of runs) ≡ false
  unfolding InOrder at_end
  none_at_behind was at apart p [] order lt = refl
  none_at_behind was at apart p (run ∷ runs) order lt =
      let beyond = ends_behind (run.was + run.len) (run.at + run.len) (behind run) runs order.4 in
      hit-append (λ l. l.at) p (lines_in run) (lines_of runs)
      ∙ rw (
        run_at_behind run p (omega (arith, beyond.1)),
        none_at_behind (run.was + run.len) (run.at + run.len) (behind run) p runs order.4 lt,
      ) refl

kept_lines-new : (at n : ℕ) (rest : List (Option ℕ)) → kept_lines at (replicate n None ++ rest) ≡ kept_lines (at + n) rest
unfolding kept_lines
kept_lines-new at zero rest = ap (λ i. kept_lines i rest) (omega arith)
kept_lines-new at (suc n) rest =
    let same : at + 1 + n ≡ at + suc n = omega arith in
    kept_lines-new (at + 1) n rest ∙ ap (λ i. kept_lines i rest) same

kept_lines-stood : (was at i n : ℕ) (rest : List (Option ℕ))
    → kept_lines (at + i) (map Some (range_with_len (was + i) n) ++ rest)
    ≡ map (λ k. record { was = was + k; at = at + k }) (range_with_len i n) ++ kept_lines (at + i + n) rest
unfolding kept_lines
kept_lines-stood was at i zero rest = ap (λ m. kept_lines m rest) (omega arith)
kept_lines-stood was at i (suc n) rest =
    let was_next : was + i + 1 ≡ was + (i + 1) = omega arith in
    let at_next : at + i + 1 ≡ at + (i + 1) = omega arith in
    let end_is : at + (i + 1) + n ≡ at + i + suc n = omega arith in
    ap (λ l. record { was = was + i; at = at + i } ∷ l)
    (ap (λ m. kept_lines (at + i + 1) (map Some (range_with_len m n) ++ rest)) was_next
    ∙ ap (λ m. kept_lines m (map Some (range_with_len (was + (i + 1)) n) ++ rest)) at_next
    ∙ kept_lines-stood was at (i + 1) n rest
    ∙ ap (λ m. map (λ k. record { was = was + k; at = at + k }) (range_with_len (i + 1) n) ++ kept_lines m rest) end_is)

-- the lines that stood, of those that runs tell of
pub kept_lines_of : (was a apart end : ℕ) (runs : List KeptRun) → InOrder was a apart runs
    → kept_lines (a + 1) (spread a runs end) ≡ lines_of runs
unfolding spread kept_lines InOrder
kept_lines_of was a apart end [] order =
    ap (kept_lines (a + 1)) (sym (append-nil (replicate (end - a) None))) ∙ kept_lines-new (a + 1) (end - a) []
kept_lines_of was a apart end (run ∷ runs) order =
    let begin_is : a + 1 + (run.at - a) ≡ run.at + 1 = omega (arith, order.1) in
    let next_is : run.at + 1 + run.len ≡ run.at + run.len + 1 = omega arith in
    kept_lines-new (a + 1) (run.at - a) (stood run ++ spread (run.at + run.len) runs end)
    ∙ ap (λ n. kept_lines n (stood run ++ spread (run.at + run.len) runs end)) begin_is
    ∙ kept_lines-stood run.was run.at 1 run.len (spread (run.at + run.len) runs end)
    ∙ ap (λ n. lines_in run ++ kept_lines n (spread (run.at + run.len) runs end)) next_is
    ∙ ap (λ l. lines_in run ++ l)
    (kept_lines_of (run.was + run.len) (run.at + run.len) (behind run) end runs order.4)
