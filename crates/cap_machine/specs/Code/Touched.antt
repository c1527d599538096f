-- What a line does to one cell and to one mode, as the code has it; me is the process of the line.
use Rattle.std.specs.Prelude.{ℕ}
use Rattle.cap_machine.specs.Touch.{Touch, kept, given, taken, Turn, stays, turns, follows}
use Rattle.cap_machine.specs.declared.touched.Touched.{Touched}
use Rattle.cap_machine.specs.declared.touched.Touched.TheVariants as touched
use Rattle.cap_machine.specs.declared.touched.Turned.{Turned}
use Rattle.cap_machine.specs.declared.touched.Turned.TheVariants as turned

abbrev pub touch_view : ℕ → Touched → Touch
touch_view me touched.Kept = kept
touch_view me (touched.Given c) = given c
touch_view me (touched.Taken op g) = taken op me g

abbrev pub turn_view : ℕ → Turned → Turn
turn_view me turned.Stays = stays
turn_view me (turned.Turns m) = turns m
turn_view me turned.Follows = follows me
