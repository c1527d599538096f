use Rattle.std.proofs.Common.{◌≡◌, ◌++◌, List}
use Rattle.cap_machine.specs.Code.Checked.{HasDenied}
use Rattle.cap_machine.specs.declared.step.Step.{Step}
use Rattle.cap_session.specs.Session.{lines_of}
use Rattle.cap_session.specs.Settings.{state_before}
use Rattle.cap_session.proofs.report.denials_of.Given as goal

abbrev pub invariant-loop-step : goal.invariant-loop-step
invariant-loop-step l = (done : List Step) × (l.tree ≡ done ++ l.step-iterator)
    × HasDenied l.checker l.setting.profile (state_before l.setting) (lines_of done)
