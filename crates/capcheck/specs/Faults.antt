-- The code that standard error has for an outcome that is no answer to the trace: memory ran out, a device failed, or
-- an input has no end.
use Rattle.std.specs.Prelude.{ℕ, List, codes, Option, None, Some}
use Rattle.cap_session.specs.declared.outcome.Outcome.{Outcome}
use Rattle.cap_session.specs.declared.outcome.Outcome.TheVariants.{Clean, Findings, Refused, StartRefused, Memory}
use Rattle.cap_session.specs.declared.outcome.Outcome.TheVariants.{ReadFault, WriteFault, TooLong}

-- memory ran out; a reader failed; the writer failed; an input had no end
abbrev pub fault_code : Outcome → Option (List ℕ)
fault_code Memory = Some (codes "E9")
fault_code ReadFault = Some (codes "E11")
fault_code WriteFault = Some (codes "E12")
fault_code TooLong = Some (codes "E13")
fault_code Clean = None
fault_code Findings = None
fault_code (Refused code line) = None
fault_code (StartRefused code line) = None
