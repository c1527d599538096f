-- Where the rows of makers belong: to a line of the trace.
use Rattle.std.proofs.Common.{◌≡◌, ℕ, zero, suc, ◌+◌, ◌<◌, ◌≤◌, List, [], ◌∷◌, ◌++◌, length, map, refl, sym, ap, subst}
use Rattle.std.proofs.Common.{arith, inl, inr}
use Rattle.std.specs.List.{All}
use Rattle.cap_limits.specs.declared.makers.MakerRow.{MakerRow}
use Rattle.cap_machine.specs.declared.step.Step.{Step}
use Rattle.cap_machine.specs.History.{ended}
use Rattle.cap_limits.specs.Makers.{Place, row_place, made_fds, AreRowsOf, AreMakerRows}
use Rattle.cap_machine.specs.State.{State}
use Rattle.cap_session.specs.LimitScripts.{script_text, makers_script, maker_lines, maker_line, bytes_of}

-- each has this position and process
abbrev pub AreAt : ℕ → ℕ → List Place → Type 0
AreAt at p [] = Unit {0}
AreAt at p (place ∷ places) = ((place.0 ≡ at) × (place.1 ≡ p)) × AreAt at p places

-- the rows of a line are its own
pub rows_at : (s : State) (later : List Step) (at p : ℕ) (fds : List ℕ) (own : List MakerRow)
    → AreRowsOf s later at p fds own → AreAt at p (map row_place own)
rows_at s later at p [] own are = subst (λ (l : List MakerRow). AreAt at p (map row_place l)) (sym are) tt
rows_at s later at p (f ∷ fds) own (inl unsaid) = rows_at s later at p fds own unsaid.1
rows_at s later at p (f ∷ fds) own (inr (row, others, is, place, right, rest)) =
    subst (λ (l : List MakerRow). AreAt at p (map row_place l)) (sym is) (
      (ap (λ (x : Place). x.0) place, ap (λ (x : Place). x.1) place),
      rows_at s later at p fds others rest,
    )

abbrev Below : ℕ → List MakerRow → Type 0
Below n [] = Unit {0}
Below n (row ∷ rows) = ((row_place row).0 < n) × Below n rows

below_both : (n : ℕ) (xs ys : List MakerRow) → Below n xs → Below n ys → Below n (xs ++ ys)
below_both n [] ys h k = k
below_both n (x ∷ xs) ys h k = (h.0, below_both n xs ys h.1 k)

own_below : (n at p : ℕ) (own : List MakerRow) → AreAt at p (map row_place own) → at < n → Below n own
own_below n at p [] h lt = tt
own_below n at p (row ∷ own) h lt = (subst (λ (x : ℕ). x < n) (sym h.0.0) lt, own_below n at p own h.1 lt)

rows_below : (s : State) (at : ℕ) (trace : List Step) (rows : List MakerRow) → AreMakerRows s at trace rows
    → Below (at + length trace) rows
rows_below s at [] rows are = subst (Below (at + 0)) (sym are) tt
rows_below s at (step ∷ later) rows are =
    let (beyond, own, cut, before, said) = are in
    let n = at + suc (length later) in
    let next = ended s (step ∷ []) in
    let same : at + 1 + length later ≡ at + suc (length later) = omega arith in
    let others : Below (at + suc (length later)) beyond =
    subst (λ (m : ℕ). Below m beyond) same (rows_below next (at + 1) later beyond before) in
    let p = step.line.pid in
    let mine : Below (at + suc (length later)) own = own_below (at + suc (length later)) at p own
    (rows_at next later at p (made_fds step.line.item) own said) (omega arith) in
    subst (Below (at + suc (length later))) (sym cut) (below_both (at + suc (length later)) beyond own others mine)

all_below : (m n : ℕ) (rows : List MakerRow) → Below m rows → m ≤ n
    → All (λ (row : MakerRow). (row_place row).0 < n) rows
all_below m n [] h le k d lt = absurd (omega (arith, lt))
all_below m n (row ∷ rows) h le zero d lt = let one = h.0 in omega (arith, one, le)
all_below m n (row ∷ rows) h le (suc k) d lt = all_below m n rows h.1 le k d (omega (arith, lt))

-- each row is of one of the lines, so its own position is no larger than their number and one
pub places_below : (s : State) (trace : List Step) (rows : List MakerRow) (n : ℕ) → AreMakerRows s 1 trace rows
    → length trace < n → All (λ (row : MakerRow). (row_place row).0 < n) rows
places_below s trace rows n are few =
    all_below (1 + length trace) n rows (rows_below s 1 trace rows are) (omega (arith, few))

-- their lines are the text of their script
pub makers_text_is : (rows : List MakerRow) → maker_lines rows ≡ script_text (makers_script rows)
makers_text_is [] = refl
makers_text_is (row ∷ rows) =
    ap (λ (text : List ℕ). (bytes_of (maker_line row) ++ 10 ∷ []) ++ text) (makers_text_is rows)
