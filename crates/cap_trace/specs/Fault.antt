-- The faults of a line, as reading finds them and as a caller sees them.
use Rattle.std.specs.Prelude.{ℕ}
use Rattle.cap_trace.specs.declared.fault.FirstFault.{FirstFault}
use Rattle.cap_trace.specs.declared.fault.FirstFault.TheVariants as faults
use Rattle.cap_trace.specs.declared.fault.LineFault.{LineFault}
use Rattle.cap_trace.specs.declared.fault.LineFault.TheVariants as line_faults

-- the fault of a line, as a caller sees it
abbrev pub line_fault : FirstFault → LineFault
line_fault faults.LongLine = line_faults.LongLine
line_fault faults.Shape = line_faults.Shape
line_fault faults.Pid = line_faults.Pid
line_fault faults.Argument = line_faults.Argument
line_fault faults.Right = line_faults.Right
line_fault faults.Answer = line_faults.Answer

-- its number in reports
abbrev pub code_of : LineFault → ℕ
code_of line_faults.LongLine = 1
code_of line_faults.Shape = 2
code_of line_faults.Pid = 3
code_of line_faults.Argument = 4
code_of line_faults.Right = 5
code_of line_faults.Answer = 6
code_of line_faults.Memory = 9
