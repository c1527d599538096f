use Rattle.std.proofs.Common.{◌++◌, ◌∷◌, [], sym, ◌∙◌}
use Rattle.std.proofs.lemmas.Result.{err_from_is_err_and}
use Rattle.cap_session.proofs.Listing.{cells_more, cells_stop, cells_end, left_good, left_bad}
use Rattle.cap_session.proofs.start_fields.cells_of.Goals as goal

pub returns-in_err-fd-clause-bad : goal.returns-in_err-fd-clause-bad
returns-in_err-fd-clause-bad c =
    let p = err_from_is_err_and c.from_residual.result c.from_residual.ensures.1 in
    let here = c.loop-word in
    rw (p.1, p.2) (cells_stop here.low c.in-Some.word.now here.words c.next.new.self here.cells.items _ _
    c.in-Some.ensures (sym c.listed_of.ensures.value ∙ c.in_err-fd.was) here.invariant)

pub returns-in_err-check_cells-clause-bad : goal.returns-in_err-check_cells-clause-bad
returns-in_err-check_cells-clause-bad c =
    let p =
    err_from_is_err_and c.from_residual-in_err-check_cells.result c.from_residual-in_err-check_cells.ensures.1 in
    let here = c.loop-word in
    rw (p.1, p.2) (left_bad (here.cells.items ++ (c.in_ok-fd.fd, c.in_ok-fd.cell) ∷ []) _ _ _
    (cells_more here.low c.in-Some.word.now here.words c.next.new.self here.cells.items
    (c.in_ok-fd.fd, c.in_ok-fd.cell) _ c.in-Some.ensures
    (sym c.listed_of.ensures.value ∙ c.in_ok-fd.was) here.invariant) c.in_err-check_cells.ensures.bad)

pub returns-in_default-push-clause-good : goal.returns-in_default-push-clause-good
returns-in_default-push-clause-good c =
    let here = c.loop-word in
    left_good (here.cells.items ++ (c.in_ok-fd.fd, c.in_ok-fd.cell) ∷ []) _ _ (cells_more here.low c.in-Some.word.now
    here.words c.next.new.self here.cells.items (c.in_ok-fd.fd, c.in_ok-fd.cell) _ c.in-Some.ensures
    (sym c.listed_of.ensures.value ∙ c.in_ok-fd.was) here.invariant) c.in_ok-check_cells.ensures.good

pub loop-word-preserved : goal.loop-word-preserved
loop-word-preserved c =
    let here = c.loop-word in
    rw c.in-Ok.ensures.items (cells_more here.low c.in-Some.word.now here.words c.next.new.self here.cells.items
    (c.in_ok-fd.fd, c.in_ok-fd.cell) _ c.in-Some.ensures
    (sym c.listed_of.ensures.value ∙ c.in_ok-fd.was) here.invariant)

pub returns-clause-good : goal.returns-clause-good
returns-clause-good c =
    cells_end c.loop-word.low c.loop-word.words c.loop-word.cells.items _ c.in_default.ensures.0 c.loop-word.invariant
