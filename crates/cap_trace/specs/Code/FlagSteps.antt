-- Flags as a loop over their bytes sees them. Only the code's contracts use this; Fields says what flags are.
use Rattle.std.specs.Prelude.{ℕ, ◌==◌, Bool, true, false, Option, Some, None, if◌then◌else◌}
use Rattle.std.specs.Char.{is_ascii_uppercase}
use Rattle.cap_trace.specs.Fields.{is_flag_byte}

-- after this byte a name goes on, or (true) has to begin
abbrev pub flag_step : Bool → ℕ → Option Bool
flag_step true c = if is_ascii_uppercase c then Some false else None
flag_step false c = if c == 124 then Some true else if is_flag_byte c then Some false else None
