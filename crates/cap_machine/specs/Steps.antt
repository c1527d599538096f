-- A trace in a profile: its lines, each with that profile.
use Rattle.std.specs.Prelude.{List, map}
use Rattle.cap_trace.specs.Entry.{Entry}
use Rattle.cap_machine.specs.declared.cell.Profile.{Profile}
use Rattle.cap_machine.specs.declared.step.Step.{Step}

abbrev pub step : Profile → Entry → Step
step profile line = record { profile = profile; line = line }

abbrev pub steps : Profile → List Entry → List Step
steps profile lines = map (step profile) lines
