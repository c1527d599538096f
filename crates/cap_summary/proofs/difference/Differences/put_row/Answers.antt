use Rattle.cap_summary.proofs.{Apart.listed_row, on_ok_weaker}
use Rattle.cap_summary.proofs.difference.Differences.put_row.Goals as goal

pub returns : goal.returns
returns c = λ old new now_old now_new differ was now. on_ok_weaker c.put_handed.result
    (listed_row old new now_old now_new c.args.pid c.args.row.now c.args.self.now.cells.items _ _ _ _ differ was now
    (c.in_ok-put_key.ensures old new now_old now_new differ was now)
    (c.in_ok-put_listed.ensures old new now_old now_new differ was now))
    (c.put_handed.ensures old new now_old now_new differ was now)
