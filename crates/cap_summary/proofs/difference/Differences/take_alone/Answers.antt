use Rattle.cap_summary.specs.{Differing.of_taker, Effects.line_after, Effects.state_before, Keys.cells_of}
use Rattle.cap_summary.proofs.{Apart.change_sets, Apart.enter_sets, Apart.give_sets, Apart.taken_alone}
use Rattle.cap_summary.proofs.difference.Differences.take_alone.Goals as goal

pub returns-in_ok-set-in-Enter : goal.returns-in_ok-set-in-Enter
returns-in_ok-set-in-Enter c = λ old differ tried.
    let new = cells_of (state_before c.args.before.now) in
    let taker = of_taker c.args.alone old new in
    let me = c.args.me in
    taken_alone c.args.alone (line_after c.args.line.now me) old new _ (c.in_ok-set-in-Enter.ensures old
    (line_after c.args.line.now me taker) differ (rw (c.in-Enter.is, c.cell_of_mode-inside.ensures.cell)
    (enter_sets me taker)))

pub returns-in_ok-set-in-Give : goal.returns-in_ok-set-in-Give
returns-in_ok-set-in-Give c = λ old differ tried.
    let new = cells_of (state_before c.args.before.now) in
    let taker = of_taker c.args.alone old new in
    let me = c.args.me in
    taken_alone c.args.alone (line_after c.args.line.now me) old new _ (c.in_ok-set-in-Give.ensures old
    (line_after c.args.line.now me taker) differ (rw c.in-Give.is (give_sets c.in-Give.fd c.in-Give.cell me taker)))

pub returns-in_ok-set-in-Change : goal.returns-in_ok-set-in-Change
returns-in_ok-set-in-Change c = λ old differ tried.
    let new = cells_of (state_before c.args.before.now) in
    let taker = of_taker c.args.alone old new in
    let me = c.args.me in
    taken_alone c.args.alone (line_after c.args.line.now me) old new _ (c.in_ok-set-in-Change.ensures old
    (line_after c.args.line.now me taker) differ (rw (c.in-Change.is, c.on-cell.ensures, ← c.taken.ensures old differ)
    (change_sets c.in-Change.fd c.in-Change.op c.in-Change.from me taker)))
