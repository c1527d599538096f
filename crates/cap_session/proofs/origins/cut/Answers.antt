use Rattle.std.proofs.Common.{◌<◌, ◌≤◌, ◌+◌, ◌∙◌, subst, sym, arith, length}
use Rattle.std.proofs.lemmas.List.{get_or_default}
use Rattle.cap_summary.specs.declared.kept_run.KeptRun.{KeptRun}
use Rattle.cap_session.specs.Limits.{most_lines}
use Rattle.cap_session.specs.Code.RunTable.{IsTable}
use Rattle.cap_session.proofs.RunCuts.{within, Within, cut_here, Splits, splits}
use Rattle.cap_session.proofs.origins.cut.Goals as goal

pub first_beyond-index-requires : goal.first_beyond-index-requires
first_beyond-index-requires c = subst (IsTable most_lines) (sym c.as_slice.ensures.value) c.requires

pub returns-then-index-len-clause-cut : goal.returns-then-index-len-clause-cut
returns-then-index-len-clause-cut c =
    let same = c.as_slice.ensures.value in
    cut_here c.args.at _ c.args.runs.now.items c.requires.order (omega arith)
    (rw same at c.first_beyond-index.ensures.before) (λ d lt. absurd (omega arith))

pub returns-then-run-at-clause-cut : goal.returns-then-run-at-clause-cut
returns-then-run-at-clause-cut c =
    let same = c.as_slice.ensures.value in
    let run = c.index-run.result.now in
    let low : c.args.at ≤ run.at = c.if-run-at.true in
    cut_here c.args.at _ c.args.runs.now.items c.requires.order (omega arith)
    (rw same at c.first_beyond-index.ensures.before)
    (λ d lt. subst (λ (r : KeptRun). c.args.at ≤ r.at)
    (c.index-run.ensures ∙ get_or_default c.args.runs.now.items c.first_beyond-index.result run d lt) low)

pub overflow_add-back : goal.overflow_add-back
overflow_add-back c =
    let run = c.index-run.result.now in
    let lt : c.first_beyond-index.result < length c.args.runs.now.items = omega arith in
    let bounds = subst (Within most_lines most_lines) (sym c.index-run.ensures)
    (within 0 0 0 most_lines most_lines c.args.runs.now.items c.requires.order c.requires.within_then
    c.requires.within_now c.first_beyond-index.result run lt) in
    let same = c.as_slice.ensures.value in
    let beyond : c.args.at < run.at + run.len = subst (λ (r : KeptRun). c.args.at < r.at + r.len)
    (sym c.index-run.ensures) ((rw same at c.first_beyond-index.ensures.behind) c.first_beyond-index.result run (omega arith) lt) in
    omega (arith, bounds.was, beyond)

cut_splits : (c : goal.In_ok-insert) → Splits c.args.at c.first_beyond-index.result c.args.runs.now.items
    c.insert.new.self.items
cut_splits c =
    let run = c.index-run.result.now in
    let index = c.first_beyond-index.result in
    let runs = c.args.runs.now.items in
    let lt : index < length runs = omega arith in
    let same = c.as_slice.ensures.value in
    let beyond : c.args.at < run.at + run.len = subst (λ (r : KeptRun). c.args.at < r.at + r.len)
    (sym c.index-run.ensures) ((rw same at c.first_beyond-index.ensures.behind) index run (omega arith) lt) in
    splits c.args.at index runs c.insert.new.self.items run c.requires.order lt c.index-run.ensures c.if-run-at.false
    beyond c.in_ok-insert.ensures.items

pub returns-clause-cut : goal.returns-clause-cut
returns-clause-cut c = (cut_splits c).parts

pub returns-clause-stood : goal.returns-clause-stood
returns-clause-stood c = (cut_splits c).stood

pub returns-clause-was : goal.returns-clause-was
returns-clause-was c = (cut_splits c).was

pub returns-clause-at : goal.returns-clause-at
returns-clause-at c = (cut_splits c).at
