-- The exit status of an outcome, and the faults that it answers.
use Rattle.std.specs.Prelude.{ℕ, Bool, true, false, Option, None, Some}
use Rattle.cap_session.specs.Refused.{code_of}
use Rattle.cap_session.specs.declared.refused.Input.{Input}
use Rattle.cap_session.specs.declared.refused.Input.TheVariants as inputs
use Rattle.cap_session.specs.declared.refused.Refusal.{Refusal}
use Rattle.cap_session.specs.declared.lines.StopReason.{StopReason}
use Rattle.cap_session.specs.declared.lines.StopReason.TheVariants as stops
use Rattle.cap_session.specs.declared.outcome.Outcome.{Outcome}
use Rattle.cap_session.specs.declared.outcome.Outcome.TheVariants.{Clean, Findings, Refused, StartRefused, Memory}
use Rattle.cap_session.specs.declared.outcome.Outcome.TheVariants.{ReadFault, WriteFault, TooLong}
use Rattle.cap_session.specs.declared.outcome.ExplainOutcome.{ExplainOutcome}
use Rattle.cap_session.specs.declared.start_text.StartFault.{StartFault}
use Rattle.cap_session.specs.declared.start_text.StartFault.TheVariants as faults
use Rattle.cap_session.specs.declared.start_text.StartFault.TheVariants.{Bad}
use Rattle.cap_session.specs.declared.outcome.ExplainOutcome.TheVariants.{Ended, OutOfRange}

abbrev pub status_of : Outcome → ℕ
status_of Clean = 0
status_of Findings = 1
status_of (Refused code line) = 2
status_of (StartRefused code line) = 2
status_of Memory = 3
status_of ReadFault = 3
status_of WriteFault = 3
status_of TooLong = 3

-- the code that an outcome has
abbrev pub code_in : Outcome → Option ℕ
code_in (Refused code line) = Some code
code_in (StartRefused code line) = Some code
code_in Clean = None
code_in Findings = None
code_in Memory = None
code_in ReadFault = None
code_in WriteFault = None
code_in TooLong = None

-- the code that the fault of a start text has
abbrev pub fault_code : StartFault → Option ℕ
fault_code (Bad code line) = Some code
fault_code faults.Memory = None

-- how a call ends that refused a line
abbrev pub refused_as : Input → Refusal → Outcome
refused_as inputs.Start e = StartRefused (code_of e.reason) e.line
refused_as inputs.Trace e = Refused (code_of e.reason) e.line

-- how a call ends that stopped so
abbrev pub outcome_of : StopReason → Outcome
outcome_of (stops.Refused e) = refused_as inputs.Trace e
outcome_of stops.Memory = Memory
outcome_of stops.ReadFault = ReadFault
outcome_of stops.WriteFault = WriteFault
outcome_of stops.TooLong = TooLong

-- how a call ends that found nothing, or something
abbrev pub found : Bool → Outcome
found true = Clean
found false = Findings

-- one, where the outcome is a fault of the reader
abbrev pub read_faults : Outcome → ℕ
read_faults ReadFault = 1
read_faults _ = 0

-- one, where it is a fault of the writer
abbrev pub write_faults : Outcome → ℕ
write_faults WriteFault = 1
write_faults _ = 0

-- ---- of a call that explains a line

abbrev pub explain_status_of : ExplainOutcome → ℕ
explain_status_of (Ended outcome) = status_of outcome
explain_status_of OutOfRange = 2

abbrev pub explain_read_faults : ExplainOutcome → ℕ
explain_read_faults (Ended outcome) = read_faults outcome
explain_read_faults OutOfRange = 0

abbrev pub explain_write_faults : ExplainOutcome → ℕ
explain_write_faults (Ended outcome) = write_faults outcome
explain_write_faults OutOfRange = 0
