use Rattle.std.proofs.Common.{◌++◌, ◌∷◌, [], sym, ◌∙◌}
use Rattle.std.proofs.lemmas.Result.{err_from_is_err_and}
use Rattle.cap_session.proofs.Listing.{cells_first, cells_more, cells_stop, cells_end, known_ok}
use Rattle.cap_session.proofs.start_fields.check_cells.Goals as goal

pub loop-word-init : goal.loop-word-init
loop-word-init c = ([], cells_first c.args.low c.args.words)

pub returns-in_err-fd-clause-bad : goal.returns-in_err-fd-clause-bad
returns-in_err-fd-clause-bad c =
    let p = err_from_is_err_and c.from_residual.result c.from_residual.ensures.1 in
    let here = c.loop-word in
    rw (p.1, p.2) (cells_stop here.least c.in-Some.word.now here.words c.next.new.self here.invariant.0 _ _
    c.in-Some.ensures (sym c.listed_of.ensures.value ∙ c.in_err-fd.was) here.invariant.1)

pub loop-word-preserved : goal.loop-word-preserved
loop-word-preserved c =
    let here = c.loop-word in (
      here.invariant.0 ++ (c.in_ok-fd.fd, c.in_ok-fd._cell) ∷ [],
      cells_more here.least c.in-Some.word.now here.words c.next.new.self here.invariant.0
          (c.in_ok-fd.fd, c.in_ok-fd._cell) _ c.in-Some.ensures
          (sym c.listed_of.ensures.value ∙ c.in_ok-fd.was) here.invariant.1,
    )

pub returns-clause-good : goal.returns-clause-good
returns-clause-good c = known_ok _ _ (cells_end c.loop-word.least c.loop-word.words c.loop-word.invariant.0 _
    c.in_default.ensures.0 c.loop-word.invariant.1)
