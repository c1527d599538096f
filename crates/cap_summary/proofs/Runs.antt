-- Runs of shared steps.
use Rattle.std.specs.Prelude.{List, [], get_or, length, slice_range, take, ℕ, ◌++◌, ◌<◌, ◌∷◌, ◌≡◌}
use Rattle.cap_summary.proofs.{ap, append-nil, arith, sym, ◌∙◌}
use Rattle.std.proofs.{lemmas.List.take-map, lemmas.Slice.between_to_end}
use Rattle.cap_summary.specs.{Composing.NodeView, Rc, values}

-- a list without items, before and after another
pub none_before : {X : Type 0} (a b n : List X) → n ≡ b → length a ≡ 0 → n ≡ a ++ b
none_before [] b n is none = is
none_before (x ∷ xs) b n is none = absurd (omega arith)

pub none_beyond : {X : Type 0} (a b n : List X) → n ≡ a → length b ≡ 0 → n ≡ a ++ b
none_beyond a [] n is none = is ∙ sym (append-nil a)
none_beyond a (x ∷ xs) n is none = absurd (omega arith)

-- the first of a run
pub values-take : {X Z : Type 0} (n : ℕ) (run : List (Rc X Z)) → take n (values run) ≡ values (take n run)
values-take n run = take-map (λ item. item.value) n run

-- the first of a run, and the rest
pub head_tail : {X Z : Type 0} (run : List (Rc X Z)) (x : Rc X Z) → 0 < length run → x ≡ get_or run 0 x
    → values run ≡ x.value ∷ values (slice_range run 1 (length run))
head_tail [] x some at = absurd (omega arith)
head_tail (y ∷ ys) x some at = ap (λ r. r.value ∷ values ys) (sym at)
    ∙ ap (λ r. x.value ∷ values r) (sym (between_to_end (y ∷ ys) 1 (length (y ∷ ys)) (omega arith)))

-- one node is seen as the steps that are seen of it
pub same_steps : {a b : NodeView} → a ≡ b → a.steps ≡ b.steps
same_steps is = ap (λ (n : NodeView). n.steps) is
