-- Why a session refuses what is asked of it.
use Rattle.std.specs.Prelude.{ℕ}
use Rattle.cap_trace.specs.declared.fault.LineFault.{LineFault}
use Rattle.cap_trace.specs.declared.fault.LineFault.TheVariants as line
use Rattle.cap_session.specs.declared.refused.Refused.{Refused}
use Rattle.cap_session.specs.declared.refused.Refused.TheVariants.{LongLine, Shape, Pid, Argument, Right, Answer}
use Rattle.cap_session.specs.declared.refused.Refused.TheVariants.{Position, Full, Memory}

-- its number in replies
abbrev pub code_of : Refused → ℕ
code_of LongLine = 1
code_of Shape = 2
code_of Pid = 3
code_of Argument = 4
code_of Right = 5
code_of Answer = 6
code_of Position = 7
code_of Full = 8
code_of Memory = 9

-- the fault of a line, as a session answers it
abbrev pub refused_line : LineFault → Refused
refused_line line.LongLine = LongLine
refused_line line.Shape = Shape
refused_line line.Pid = Pid
refused_line line.Argument = Argument
refused_line line.Right = Right
refused_line line.Answer = Answer
refused_line line.Memory = Memory
