use Rattle.cap_summary.specs.{Names.has_cell}
use Rattle.cap_summary.proofs.{on_ok_weaker, and_from, LineListed.two_named}
use Rattle.cap_summary.proofs.effect.Effect.push.Goals as goal

pub returns-in_ok-set-in-GiveTwo-clause-names : goal.returns-in_ok-set-in-GiveTwo-clause-names
returns-in_ok-set-in-GiveTwo-clause-names c = on_ok_weaker c.set-in-GiveTwo-2.result (λ second names line effect.
    let two = two_named names c.in-GiveTwo.fd c.in-GiveTwo.other (rw c.in-GiveTwo.is at line.fds) in
    second names line.own (record { key = two.1; source = c.of-in-GiveTwo-2.ensures.names (has_cell names) })
    (c.in_ok-set-in-GiveTwo.ensures.names names line.own
    (record { key = two.0; source = c.of-in-GiveTwo.ensures.names (has_cell names) }) effect))
    c.set-in-GiveTwo-2.ensures.names

pub returns-in_ok-value-in-Change-clause-names : goal.returns-in_ok-value-in-Change-clause-names
returns-in_ok-value-in-Change-clause-names c = on_ok_weaker c.set-in-Change.result (λ set names line effect.
    let two = two_named names c.in-Change.fd c.in-Change.from (rw c.in-Change.is at line.fds) in
    set names line.own (record {
      key = two.0;
      source = c.in_ok-value-in-Change.ensures.names (has_cell names) (c.view.ensures.names names (effect c.args.me)
          (and_from (names.pids c.args.me) (names.fds c.in-Change.from) line.own two.1));
    }) effect) c.set-in-Change.ensures.names
