use Rattle.cap_summary.specs.{Effects.line_after, Effects.turned_cell, LineEffect, Set, Sorted.found, Unknown, is_child}
use Rattle.cap_summary.specs.Effects.{LineLeaves, cell_in, changed, is_touched, leaves, leaves_in, row_cell, row_leaves}
use Rattle.cap_summary.proofs.{Bools.or_right, ap, eq-eqb, eqb-true, inl, inr, on_ok_weaker, or-false, subst, sym, ◌∙◌}
use Rattle.cap_summary.specs.{Keys.Cells, declared.effect.Effect.Effect, declared.effect.Row.Row, declared.key.Key.Key}
use Rattle.cap_summary.specs.{Cell, Clear, Closed, Held, Unsure, applied, cond, follows, given, stays, taken, touched}
use Rattle.cap_summary.specs.{kept, same, Bool, List, false, refl, true, ℕ, ◌==◌, ◌||◌, ◌≡◌, ◌⊎◌}
use Rattle.cap_summary.proofs.effect.Effect.push_row.Goals as goal

-- ---- a process that isn't touched keeps its cells
untouched_left : (line : LineEffect) (me p : ℕ) → is_touched line me p ≡ false → (k : Key) → LineLeaves line me p k
untouched_left LineEffect.Keep me p is (Key.Fd f) = refl
untouched_left (LineEffect.Fork child) me p is Key.Mode = rw is refl
untouched_left (LineEffect.Fork child) me p is (Key.Fd f) = rw is refl
untouched_left (LineEffect.ForkAs child g) me p is Key.Mode = rw (or_right (p == me) (p == child) is) refl
untouched_left (LineEffect.ForkAs child g) me p is (Key.Fd f) = rw (is, or_right (p == me) (p == child) is) refl
untouched_left (LineEffect.Start fds) me p is Key.Mode = rw is refl
untouched_left LineEffect.Exit me p is Key.Mode = rw is refl
untouched_left LineEffect.Enter me p is Key.Mode = rw is refl
untouched_left LineEffect.Enter me p is (Key.Fd f) = refl
untouched_left _ me p is Key.Mode = refl
untouched_left _ me p is (Key.Fd f) = rw is refl

left_so : (line : LineEffect) (me p : ℕ) (cells : Cells) (k : Key) → LineLeaves line me p k
    → line_after line me cells p k ≡ cells p k
left_so line me p cells Key.Mode is = ap (λ t. turned_cell t cells p) is
left_so line me p cells (Key.Fd f) is = ap (λ t. touched t (λ q g. cells q (Key.Fd g)) p f) is

-- ---- those that are touched have the cells of the line's own
same_is : (c : Cell) → applied same c ≡ c
same_is Unknown = refl
same_is Closed = refl
same_is (Held r Set) = refl
same_is (Held r Clear) = refl
same_is (Held r Unsure) = refl

module _ (me : ℕ) (cells : Cells) where
  -- what a fork makes of its parent and of the child, with a descriptor of the child's or without
  as_mode : (p : ℕ) (b : Bool) → (p == me || b) ≡ true
      → turned_cell (cond b (follows me) stays) cells p ≡ cells me Key.Mode
  as_mode p true touched = refl
  as_mode p false touched = ap (λ q. cells q Key.Mode) (eqb-true p me (sym (or-false (p == me)) ∙ touched))

  as_cell : (p f : ℕ) (given_here b : Bool) → (p == me || b) ≡ true
      → touched (cond given_here (given Unknown) (cond b (taken same me f) kept)) (λ q g. cells q (Key.Fd g)) p f
      ≡ cond given_here Unknown (cells me (Key.Fd f))
  as_cell p f true b is = refl
  as_cell p f false true is = same_is (cells me (Key.Fd f))
  as_cell p f false false is = ap (λ q. cells q (Key.Fd f)) (eqb-true p me (sym (or-false (p == me)) ∙ is))

  own_too : (b : Bool) → (me == me || b) ≡ true
  own_too b = rw (eq-eqb me me refl) refl

touched_so : (line : LineEffect) (me p : ℕ) (cells : Cells) (k : Key) → is_touched line me p ≡ true
    → line_after line me cells p k ≡ line_after line me cells me k
touched_so (LineEffect.Fork child) me p cells Key.Mode is =
    rw is (sym (as_mode me cells me (me == child) (own_too me cells (me == child))))
touched_so (LineEffect.Fork child) me p cells (Key.Fd f) is = rw is (same_is (cells me (Key.Fd f))
    ∙ sym (as_cell me cells me f false (me == child) (own_too me cells (me == child))))
touched_so (LineEffect.ForkAs child g) me p cells Key.Mode is =
    as_mode me cells p (p == child) is ∙ sym (as_mode me cells me (me == child) (own_too me cells (me == child)))
touched_so (LineEffect.ForkAs child g) me p cells (Key.Fd f) is =
    rw (is, own_too me cells (me == child)) (as_cell me cells p f (f == g) (p == child) is
    ∙ sym (as_cell me cells me f (f == g) (me == child) (own_too me cells (me == child))))
touched_so line me p cells k is = ap (λ q. line_after line me cells q k) (eqb-true p me is)

module _ (first : Effect) (new : List (ℕ × Row)) (line : LineEffect) (me : ℕ) (own row : Row) where
  then_line : ((cells : Cells) (k : Key) → row_cell cells me own k ≡ line_after line me cells me k)
      → ((cells : Cells) (k : Key) → row_cell cells me row k ≡ row_cell (changed first cells) me own k)
      → ((cells : Cells) (p : ℕ) (k : Key) → cell_in cells (found new p) p k
      ≡ cond (is_touched line me p) (row_cell cells me row k) (changed first cells p k))
      → (cells : Cells) (p : ℕ) (k : Key)
      → cell_in cells (found new p) p k ≡ line_after line me (changed first cells) p k
  then_line of_line after put cells p k = put cells p k ∙ by (is_touched line me p) refl
    where
      by : (b : Bool) → is_touched line me p ≡ b
          → cond b (row_cell cells me row k) (changed first cells p k) ≡ line_after line me (changed first cells) p k
      by true is = after cells k ∙ of_line (changed first cells) k
          ∙ sym (touched_so line me p (changed first cells) k is)
      by false is = sym (left_so line me p (changed first cells) k (untouched_left line me p is k))

  then_leaves : (is_child line me ≡ false → (k : Key) → row_leaves own k ≡ true → LineLeaves line me me k)
      → ((k : Key) → row_leaves row k ≡ true → (leaves first me k ≡ true) × (row_leaves own k ≡ true))
      → ((p : ℕ) (k : Key) → leaves_in (found new p) k ≡ true
      → ((is_touched line me p ≡ false) × (leaves first p k ≡ true))
      ⊎ ((p ≡ me) × (is_child line me ≡ false) × (row_leaves row k ≡ true)))
      → (p : ℕ) (k : Key) → leaves_in (found new p) k ≡ true → (leaves first p k ≡ true) × LineLeaves line me p k
  then_leaves own_left after put p k left = elim (put p k left) [
    | inl other ↦ (other.1, untouched_left line me p other.0 k)
    | inr here ↦
        let both : (leaves first me k ≡ true) × (row_leaves own k ≡ true) = after k here.2 in
        subst (λ (q : ℕ). (leaves first q k ≡ true) × LineLeaves line me q k) (sym here.0)
        (both.0, own_left here.1 k both.1)
  ]

pub returns-clause-cells : goal.returns-clause-cells
returns-clause-cells c = on_ok_weaker c.put_rows.result (then_line c.args.self.now c.put_rows.new.self.rows
    c.args.line.now c.args.me c.in_ok-own.own c.in_ok-row.row c.in_ok-own.ensures.cells c.in_ok-row.ensures.cells)
    c.put_rows.ensures.cells

pub returns-clause-leaves : goal.returns-clause-leaves
returns-clause-leaves c = on_ok_weaker c.put_rows.result (then_leaves c.args.self.now c.put_rows.new.self.rows
    c.args.line.now c.args.me c.in_ok-own.own c.in_ok-row.row c.in_ok-own.ensures.leaves c.in_ok-row.ensures.leaves)
    c.put_rows.ensures.leaves
