-- What reading a start text from its bytes answers.
use Rattle.std.specs.Prelude.{◌≡◌, List, Result, Ok, Err, IsOk}
use Rattle.cap_machine.specs.State.{Added}
use Rattle.cap_machine.specs.declared.start.Start.{Start}
use Rattle.cap_session.specs.Refused.{code_of}
use Rattle.cap_session.specs.declared.refused.Refusal.{Refusal}
use Rattle.cap_session.specs.declared.start_text.StartFault.{StartFault}
use Rattle.cap_session.specs.declared.start_text.StartFault.TheVariants.{Bad, Memory}

-- a refused line, as a caller sees it
abbrev pub fault_of : Refusal → StartFault
fault_of e = Bad (code_of e.reason) e.line

-- The start of a good text, or its refused line. Memory runs out only where no line is refused.
abbrev pub Parses : Result (List Added) Refusal → Result Start StartFault → Type 0
Parses said (Ok start) = said ≡ Ok start
Parses said (Err (Bad code line)) = (e : Refusal) × (said ≡ Err e) × (Bad code line ≡ fault_of e)
Parses said (Err Memory) = IsOk said
