use Rattle.cap_machine.specs.State.{start_state}
use Rattle.cap_machine.proofs.Walking.{modes_given, mode_given, modes_of_start, mode_of_start}
use Rattle.cap_machine.proofs.walks.ModeWalk.finish.Goals as goal

pub returns-in-Some-clause-chain : goal.returns-in-Some-clause-chain
returns-in-Some-clause-chain c = modes_given c.args.self (start_state c.args.start.now) c.in-Some.mode c.in-Some.is

pub returns-in-Some-clause-mode : goal.returns-in-Some-clause-mode
returns-in-Some-clause-mode c = mode_given c.args.self (start_state c.args.start.now) c.in-Some.mode c.in-Some.is

pub returns-in-None-clause-chain : goal.returns-in-None-clause-chain
returns-in-None-clause-chain c =
    modes_of_start c.args.self (start_state c.args.start.now) c.mode-mode.result c.in-None.is c.mode-mode.ensures

pub returns-in-None-clause-mode : goal.returns-in-None-clause-mode
returns-in-None-clause-mode c =
    mode_of_start c.args.self (start_state c.args.start.now) c.mode-mode.result c.in-None.is c.mode-mode.ensures
