-- What was judged of a run so far, and how many steps are judged at least for what is found.
use Rattle.std.specs.Prelude.{if◌then◌else◌, true, false, ◌==◌, ◌<◌, Bool, List, [], cond, length, map, nat_le, refl, ℕ, ◌&&◌, ◌++◌, ◌+◌, ◌∷◌, ◌≡◌, ◌≤◌}
use Rattle.cap_summary.proofs.{All-head, All-tail, checks_in_turn, eqb-true, ne_eqb, ap, append-nil, arith, eq-eqb, length-map, sym, ◌∙◌}
use Rattle.cap_summary.proofs.Resolving.{found_all, found_parts, one_found, said_at}
use Rattle.cap_machine.proofs.Turns.{same_state}
use Rattle.cap_machine.proofs.Positions.{positions_within}
use Rattle.std.proofs.lemmas.List.Elements.{All-map}
use Rattle.cap_summary.specs.{All, Asks.has_any, check, later}
use Rattle.cap_summary.specs.{Effects.changed, Keys.Cells, Keys.cell_mode, Keys.cells_of, Keys.mode_cell, Keys.state_of}
use Rattle.cap_summary.specs.{Finding, Found, Knows.Knows, Mode, Rc, State, Step, ended, found_at, said, values}
use Rattle.cap_summary.specs.Positions.{WereJudged, found_in, positions, said_in, starts}
use Rattle.cap_summary.specs.declared.{effect.Effect.Effect, judging.Asked.Asked, judging.Report.Report, key.Key.Key}
use Rattle.cap_summary.specs.declared.{known.Known.Known}

pub mode_back : (m : Mode) → cell_mode (mode_cell m) ≡ m
mode_back m = grind arith

pub ends_so : (effect : Effect) (t : List Step) (s : State)
    → ((p : ℕ) (k : Key) → changed effect (cells_of s) p k ≡ cells_of (ended s t) p k)
    → state_of (changed effect (cells_of s)) ≡ ended s t
ends_so effect t s after = same_state (state_of (changed effect (cells_of s))) (ended s t) (λ p f. after p (Key.Fd f))
    (λ p. ap cell_mode (after p Key.Mode) ∙ mode_back ((ended s t).mode p))

pub known_ends : (known : Known) (t : List Step) → Knows known t → (s : State)
    → state_of (changed known.effect.value (cells_of s)) ≡ ended s t
known_ends known t knows s = ends_so known.effect.value t s (knows.after s)

-- the findings, and the effect of the steps that were judged
pub record IsJudged (asked : Asked) (at : ℕ) (s : State) (t : List Step) (old found : List Found) (effect : Effect)
    : Type 0 where
  pub findings : found ≡ old ++ found_in asked at s t
  pub after : (p : ℕ) (k : Key) → changed effect (cells_of s) p k ≡ cells_of (ended s t) p k

pub none_judged : (asked : Asked) (at : ℕ) (s : State) (old : List Found) (effect : Effect)
    → ((cells : Cells) (p : ℕ) (k : Key) → changed effect cells p k ≡ cells p k) → IsJudged asked at s [] old old effect
none_judged asked at s old effect same = record { findings = sym (append-nil old); after = same (cells_of s) }

-- one more step
pub more_judged : (asked : Asked) (at n : ℕ) (s : State) (t : List Step) (old first all : List Found)
    (effect new : Effect) (step : Step) → IsJudged asked at s t old first effect → n ≡ length t
    → all ≡ first ++ said_in asked (at + n + 1) (said step (state_of (changed effect (cells_of s))))
    → ((p : ℕ) (k : Key) → changed new (cells_of s) p k ≡ cells_of (ended s (t ++ step ∷ [])) p k)
    → IsJudged asked at s (t ++ step ∷ []) old all new
more_judged asked at n s t old first all effect new step judged len one after = record {
  findings = found_parts asked at n s t (step ∷ []) old first all len judged.findings
      (one ∙ ap (λ state. first ++ said_in asked (at + n + 1) (said step state)) (ends_so effect t s judged.after)
      ∙ ap (λ r. first ++ r) (one_found asked (at + n) (ended s t) step));
  after = after;
}

starts-append : (x : Found) (xs ys : List Found) → starts x (xs ++ ys) ≤ starts x xs
starts-append x [] ys = grind arith
starts-append x (y ∷ xs) ys = omega arith

positions-append : (xs ys : List Found) → positions (xs ++ ys) ≤ positions xs + positions ys
positions-append [] ys = omega arith
positions-append (x ∷ xs) ys = omega (arith, starts-append x xs ys, positions-append xs ys)

one_position : (at : ℕ) (xs : List Finding) → positions (map (found_at at) xs) ≤ 1
one_position at [] = omega arith
one_position at (x ∷ []) = omega arith
one_position at (x ∷ y ∷ rest) = rw (eq-eqb at at refl) (omega (arith, one_position at (y ∷ rest)))

-- what is said of one step is said at one position
pub one_more : (asked : Asked) (at : ℕ) (old new : List Found) (xs : List Finding) → new ≡ old ++ said_in asked at xs
    → positions new ≤ positions old + 1
one_more asked at old new xs is = rw (is, said_at asked.from asked.to at xs here refl) (by here)
  where
    here : Bool
    here = nat_le asked.from at && nat_le at asked.to

    by : (b : Bool) → positions (old ++ cond b (map (found_at at) xs) []) ≤ positions old + 1
    by b = grind (arith, positions-append old (map (found_at at) xs), one_position at xs, positions-append old [])

steps_judged : (asked : Asked) (at : ℕ) (s : State) (t : List Step) → positions (found_in asked at s t) ≤ length t
steps_judged asked at s [] = omega arith
steps_judged asked at s (step ∷ u) =
    let here : List Found = found_in asked at s (step ∷ []) in
    let rest : List Found = found_in asked (at + 1) (ended s (step ∷ [])) u in
    rw (found_all asked at 1 s (step ∷ []) u [] refl) (omega (
      arith,
      positions-append here rest,
      one_more asked (at + 1) [] here (said step s) (sym (one_found asked at s step)),
      steps_judged asked (at + 1) (ended s (step ∷ [])) u,
    ))

-- a run is judged whole
pub run_judged : {Z : Type 0} (old new : Report) (asked : Asked) (at : ℕ) (s : State) (run : List (Rc Step Z))
    → new.found.items ≡ old.found.items ++ found_in asked at s (values run) → new.judged ≡ old.judged + length run
    → WereJudged old new
run_judged old new asked at s run found judged = rw found (omega (
  arith,
  positions-append old.found.items (found_in asked at s (values run)),
  steps_judged asked at s (values run),
  length-map run (λ item. item.value),
  judged,
))

-- ---- at how many positions something is found, in two parts

starts-apart : (n : ℕ) (x : Found) (xs ys : List Found) → x.at ≤ n → All (λ (y : Found). n < y.at) ys
    → starts x (xs ++ ys) ≡ starts x xs
starts-apart n x [] [] low high = refl
starts-apart n x [] (y ∷ ys) low high =
    let above : n < y.at = All-head (λ (y : Found). n < y.at) y ys high in
    rw (ne_eqb x.at y.at (λ is. omega (arith, low, above, is))) refl
starts-apart n x (z ∷ xs) ys low high = refl

positions-apart : (n : ℕ) (xs ys : List Found) → All (λ (x : Found). x.at ≤ n) xs → All (λ (y : Found). n < y.at) ys
    → positions (xs ++ ys) ≡ positions xs + positions ys
positions-apart n [] ys low high = omega arith
positions-apart n (x ∷ xs) ys low high =
    let here : x.at ≤ n = All-head (λ (x : Found). x.at ≤ n) x xs low in
    let rest = positions-apart n xs ys (All-tail (λ (x : Found). x.at ≤ n) x xs low) high in
    omega (arith, starts-apart n x xs ys here high, rest)

same_distance : (n a b : ℕ) → (n + a == n + b) ≡ (a == b)
same_distance n a b = by (a == b) refl
  where
    by : (r : Bool) → (a == b) ≡ r → (n + a == n + b) ≡ r
    by true is = eq-eqb (n + a) (n + b) (ap (λ (m : ℕ). n + m) (eqb-true a b is))
    by false is = ne_eqb (n + a) (n + b) (λ same. absurd (let wrong : true ≡ false =
        sym (eq-eqb a b (omega (arith, same))) ∙ is in cc))

starts-later : (n : ℕ) (x : Found) (xs : List Found) → starts (later n x) (map (later n) xs) ≡ starts x xs
starts-later n x [] = refl
starts-later n x (y ∷ xs) = ap (λ (b : Bool). if b then 0 else 1) (same_distance n x.at y.at)

positions-later : (n : ℕ) (xs : List Found) → positions (map (later n) xs) ≡ positions xs
positions-later n [] = refl
positions-later n (x ∷ xs) = omega (arith, starts-later n x xs, positions-later n xs)

pub positions_parts : (s : State) (t u : List Step)
    → positions (check s (t ++ u)) ≡ positions (check s t) + positions (check (ended s t) u)
positions_parts s t u =
    let second : List Found = check (ended s t) u in
    ap positions (checks_in_turn s t u)
    ∙ positions-apart (length t) (check s t) (map (later (length t)) second)
    (λ k d lt. (positions_within s t k d lt).1)
    (All-map (λ (y : Found). length t < y.at) (later (length t)) second
    (λ k d lt. let is = positions_within (ended s t) u k d lt in omega (arith, is.0)))
    ∙ ap (λ (n : ℕ). positions (check s t) + n) (positions-later (length t) second)

pub some_positions : (xs : List Found) → has_any xs ≡ true → 0 < positions xs
some_positions [] some = absurd (let wrong : false ≡ true = some in cc)
some_positions (x ∷ []) some = omega arith
some_positions (x ∷ y ∷ xs) some = omega (arith, some_positions (y ∷ xs) refl)
