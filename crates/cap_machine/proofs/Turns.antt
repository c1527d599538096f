-- A history on top of another.
use Rattle.std.proofs.Common.{◌≡◌, ℕ, ◌+◌, List, [], ◌∷◌, ◌++◌, length, map, refl, sym, ap, ◌∙◌, reverse, arith}
use Rattle.std.proofs.Common.{append_assoc, length-append}
use Rattle.std.proofs.Math.Path.{fun_ext}
use Rattle.cap_machine.specs.declared.cell.Cell.{Cell}
use Rattle.cap_machine.specs.declared.cell.Mode.{Mode}
use Rattle.std.proofs.lemmas.List.{reverse-append, length-reverse, append-nil, map-append}
use Rattle.cap_machine.specs.declared.step.Step.{Step}
use Rattle.cap_machine.specs.declared.verdict.Found.{Found}
use Rattle.cap_machine.specs.declared.verdict.Finding.{Finding}
use Rattle.cap_machine.specs.declared.denial.Denial.{Denial}
use Rattle.cap_machine.specs.declared.denial.Denied.{Denied}
use Rattle.cap_machine.specs.State.{State}
use Rattle.cap_machine.specs.History.{after, ended, told, step_after}
use Rattle.cap_machine.specs.Check.{said, found_at}
use Rattle.cap_machine.specs.Denials.{denied, denied_at}
use Rattle.cap_machine.specs.Laws.{later, EndsInTurn, ChecksInTurn, ChecksOneMore}
use Rattle.cap_machine.specs.DenialLaws.{denied_later, DenialsInTurn, DenialsOneMore}

pub after-append : (s : State) (u t : List Step) → after s (u ++ t) ≡ after (after s t) u
after-append s [] t = refl
after-append s (l ∷ u) t = ap (step_after l) (after-append s u t)

pub ends_in_turn : EndsInTurn
ends_in_turn s t u = ap (after s) (reverse-append t u) ∙ after-append s (reverse u) (reverse t)

-- ---- what is told of each step, where each is told at a position that moves with it

module _ (A X : Type 0) (at : ℕ → A → X) (says : Step → State → List A) (later : ℕ → X → X)
    (moves : (n i : ℕ) (a : A) → later n (at i a) ≡ at (n + i) a) where
  later-at : (n i : ℕ) (xs : List A) → map (later n) (map (at i) xs) ≡ map (at (n + i)) xs
  later-at n i [] = refl
  later-at n i (x ∷ xs) =
      ap (λ r. r ∷ map (later n) (map (at i) xs)) (moves n i x) ∙ ap (λ r. at (n + i) x ∷ r) (later-at n i xs)

  told-append : (s : State) (u t : List Step) → told at says s (u ++ t)
      ≡ told at says s t ++ map (later (length t)) (told at says (after s t) u)
  told-append s [] t = sym (append-nil (told at says s t))
  told-append s (l ∷ u) t =
      let here : ℕ → State → List X = λ i state. map (at i) (says l state) in
      let old : List X = told at says s t in
      let more : List X = map (later (length t)) (told at says (after s t) u) in
      let place : length (u ++ t) + 1 ≡ length t + (length u + 1) = omega (arith, length-append u t) in
      let moved : here (length (u ++ t) + 1) (after s (u ++ t))
      ≡ map (later (length t)) (here (length u + 1) (after (after s t) u)) =
      ap (λ i. here i (after s (u ++ t))) place ∙ ap (here (length t + (length u + 1))) (after-append s u t)
      ∙ sym (later-at (length t) (length u + 1) (says l (after (after s t) u))) in
      ap (λ r. r ++ here (length (u ++ t) + 1) (after s (u ++ t))) (told-append s u t) ∙ ap (λ r. (old ++ more) ++ r) moved
      ∙ append_assoc old more (map (later (length t)) (here (length u + 1) (after (after s t) u)))
      ∙ ap (λ r. old ++ r)
      (sym (map-append (later (length t)) (told at says (after s t) u) (here (length u + 1) (after (after s t) u))))

  told_in_turn : (s : State) (t u : List Step) → told at says s (reverse (t ++ u))
      ≡ told at says s (reverse t) ++ map (later (length t)) (told at says (ended s t) (reverse u))
  told_in_turn s t u =
      ap (told at says s) (reverse-append t u) ∙ told-append s (reverse u) (reverse t)
      ∙ ap (λ n. told at says s (reverse t) ++ map (later n) (told at says (ended s t) (reverse u))) (length-reverse t)

  pub told_more : (s : State) (t : List Step) (l : Step) → told at says s (reverse (t ++ l ∷ []))
      ≡ told at says s (reverse t) ++ map (at (length t + 1)) (says l (ended s t))
  told_more s t l = ap (told at says s) (reverse-append t (l ∷ []))
      ∙ ap (λ n. told at says s (reverse t) ++ map (at (n + 1)) (says l (ended s t))) (length-reverse t)

pub checks_in_turn : ChecksInTurn
checks_in_turn = told_in_turn Finding Found found_at said later (λ n i x. refl)

pub denials_in_turn : DenialsInTurn
denials_in_turn = told_in_turn Denial Denied denied_at denied denied_later (λ n i x. refl)

-- one more step
pub ends_more : (s : State) (t : List Step) (l : Step) → ended s (t ++ l ∷ []) ≡ step_after l (ended s t)
ends_more s t l = ends_in_turn s t (l ∷ [])

pub checks_more : ChecksOneMore
checks_more = told_more Finding Found found_at said later (λ n i x. refl)

pub denials_more : DenialsOneMore
denials_more = told_more Denial Denied denied_at denied denied_later (λ n i x. refl)

-- two states with the same cells and modes
pub same_state : (s u : State) → ((p f : ℕ) → s.cell p f ≡ u.cell p f) → ((p : ℕ) → s.mode p ≡ u.mode p) → s ≡ u
same_state s u cells modes =
    let one : State = record { cell = u.cell; mode = s.mode } in
    let first : s ≡ one =
    ap (λ (r : ℕ → ℕ → Cell). record { cell = r; mode = s.mode }) (fun_ext (λ p. fun_ext (λ f. cells p f))) in
    let second : one ≡ u = ap (λ (r : ℕ → Mode). record { cell = u.cell; mode = r }) (fun_ext (λ p. modes p)) in
    first ∙ second
