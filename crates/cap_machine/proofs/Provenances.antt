-- The lines of a trace as a history.
use Rattle.std.proofs.Common.{◌≡◌, List, ◌++◌, length, reverse, ap, ◌∙◌}
use Rattle.std.proofs.lemmas.List.{length-map, length-reverse, reverse-append, map-append}
use Rattle.cap_trace.specs.Entry.{Entry}
use Rattle.cap_machine.specs.declared.cell.Profile.{Profile}
use Rattle.cap_machine.specs.declared.step.Step.{Step}
use Rattle.cap_machine.specs.Steps.{step, steps}

-- the lines of a trace in a profile, as a history
abbrev pub back : Profile → List Entry → List Step
back profile lines = reverse (steps profile lines)

pub back-append : (profile : Profile) (lines more : List Entry)
    → back profile (lines ++ more) ≡ back profile more ++ back profile lines
back-append profile lines more =
    ap reverse (map-append (step profile) lines more) ∙ reverse-append (steps profile lines) (steps profile more)

pub length-back : (profile : Profile) (lines : List Entry) → length (back profile lines) ≡ length lines
length-back profile lines = length-reverse (steps profile lines) ∙ length-map lines (step profile)
