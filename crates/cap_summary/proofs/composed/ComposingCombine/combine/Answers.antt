use Rattle.cap_summary.proofs.composed.ComposingCombine.combine.Goals as goal

pub returns : goal.returns
returns c is old = rw (c.in-Some.is, c.in_ok-new.ensures) (record {
  cells = λ cells k. rw c.get-second.ensures at (c.in_ok-row.ensures.cells cells k);
  leaves = λ k left. rw c.get-second.ensures at (c.in_ok-row.ensures.leaves k left);
  names = λ names of read was later own. record {
    pid = own.pid;
    row = rw c.get-second.ensures at (c.in_ok-row.ensures.names names of read) later own.row;
  };
})

pub returns-in-Some-row : goal.returns-in-Some-row
returns-in-Some-row c is old = rw (c.in-Some.is, c.in_ok-kept.ensures.cases)
    (c.in-Some-row.ensures c.args.self.now.first.now is (rw (c.in-Some-old.is, c.in-Some.is) at old))
