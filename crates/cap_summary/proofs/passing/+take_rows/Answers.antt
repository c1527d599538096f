use Rattle.std.specs.Prelude.{length, ◌<◌, ◌∷◌, ◌≡◌}
use Rattle.cap_summary.specs.{List, Listing.AreRowsOf, Sorted.Rises, State, get_or, slice_range, start_state, ℕ}
use Rattle.cap_summary.specs.declared.effect.Row.{Row}
use Rattle.cap_summary.proofs.{Taking.IsStep, Taking.first_of, Taking.forgotten_step, Taking.rest_of, Taking.rises_rest}
use Rattle.cap_summary.proofs.{Taking.taken_next, Taking.taken_step, ap, arith, on_ok_weaker, rules, sym, ◌∙◌}
use Rattle.std.proofs.lemmas.Slice.{first_rest}
use Rattle.cap_summary.proofs.passing.+take_rows.Goals as goal

split : (rows : List (ℕ × Row)) (first : ℕ × Row) → 0 < length rows → first ≡ get_or rows 0 first
    → rows ≡ first ∷ slice_range rows 1 (length rows)
split rows first some is =
    first_rest rows first some ∙ ap (λ (e : ℕ × Row). e ∷ slice_range rows 1 (length rows)) (sym is)

same : (rows rest : List (ℕ × Row)) (first d : ℕ × Row) → rows ≡ first ∷ rest → get_or rows 0 d ≡ first
same rows rest first d is = ap (λ (l : List (ℕ × Row)). get_or l 0 d) is

pub take_row-requires-clause-row : goal.take_row-requires-clause-row
take_row-requires-clause-row t c =
    let rows : List (ℕ × Row) = c.args.rows.now in
    let first : ℕ × Row = c.index-rows-0.result in
    let rest : List (ℕ × Row) = slice_range rows 1 (length rows) in
    let parts : rows ≡ first ∷ rest = split rows first (omega arith) c.index-rows-0.is in
    let are : AreRowsOf c.args.effect.now (first ∷ rest) = rw parts at c.requires.rows in
    rw (same rows rest first first parts, c.get.ensures, same rows rest first c.index-rows-0-else-of-at.result parts)
    ((first_of c.args.effect.now first.0 first.1 rest are).is)

pub take_row-requires-clause-lists : goal.take_row-requires-clause-lists
take_row-requires-clause-lists t c =
    let rows : List (ℕ × Row) = c.args.rows.now in
    let first : ℕ × Row = c.index-rows-0.result in
    let rest : List (ℕ × Row) = slice_range rows 1 (length rows) in
    let parts : rows ≡ first ∷ rest = split rows first (omega arith) c.index-rows-0.is in
    let are : AreRowsOf c.args.effect.now (first ∷ rest) = rw parts at c.requires.rows in
    rw (same rows rest first first parts, c.get.ensures, same rows rest first c.index-rows-0-else-of-at.result parts)
    ((first_of c.args.effect.now first.0 first.1 rest are).lists)

pub take_rows-requires : goal.take_rows-requires
take_rows-requires t c =
    let rows : List (ℕ × Row) = c.args.rows.now in
    let first : ℕ × Row = c.index-rows-0.result in
    let rest : List (ℕ × Row) = slice_range rows 1 (length rows) in
    let parts : rows ≡ first ∷ rest = split rows first (omega arith) c.index-rows-0.is in
    let are : AreRowsOf c.args.effect.now (first ∷ rest) = rw parts at c.requires.rows in
    let rises : Rises (first ∷ rest) = rw parts at c.requires.rising in
    (search rules, (rises_rest first.0 first.1 rest rises, rest_of c.args.effect.now first.0 first.1 rest rises are))

pub returns : goal.returns
returns t c =
    let rows : List (ℕ × Row) = c.args.rows.now in
    let first : ℕ × Row = c.index-rows-0.result in
    let rest : List (ℕ × Row) = slice_range rows 1 (length rows) in
    let parts : rows ≡ first ∷ rest = split rows first (omega arith) c.index-rows-0.is in
    let are : AreRowsOf c.args.effect.now (first ∷ rest) = rw parts at c.requires.rows in
    let rises : Rises (first ∷ rest) = rw parts at c.requires.rising in
    let s : State = start_state c.args.machine.now in
    let mid : State = start_state c.if-of-at.machine in
    let here : get_or rows 0 first ≡ first = same rows rest first first parts in
    let step : IsStep c.args.last.now c.args.at first.0 first.1 s mid = elim c.if-of-at.branch [
      | goal.then-of-at+in_ok-forget w ↦ forgotten_step c.args.last.now c.args.at first.0 first.1 s mid
          (omega (arith, rw here at c.of.ensures, w.if-of-at.true))
          (ap start_state w.machine-is ∙ rw here at w.in_ok-forget.ensures)
      | goal.else-of-at+in_ok-take_row w ↦ taken_step c.args.last.now c.args.at first.0 first.1 s mid
          (rw w.machine-is (rw (here, w.get.ensures, same rows rest first w.index-rows-0-else-of-at.result parts)
          at w.in_ok-take_row.ensures))
    ] in
    on_ok_weaker c.take_rows.result (λ later. rw parts (taken_next c.args.last.now c.args.at c.args.effect.now first.0
    first.1 rest s mid (start_state c.take_rows.new.machine) rises are step later)) c.take_rows.ensures
