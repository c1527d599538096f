use Rattle.std.proofs.Common.{◌≡◌}
use Rattle.std.specs.Fmt.{HasWritten, IsPlainFormatter}
use Rattle.std.specs.List.{join_with_byte}
use denote.Text.{Utf8}
use denote.Shadow.{shadow}
use Rattle.cap_rights.proofs.Held.{held_of, separator}
use Rattle.cap_rights.proofs.display.NamesDisplay.fmt.Given as goal

abbrev pub invariant-rights : goal.invariant-rights
invariant-rights g l = record {
  text : shadow (Utf8 l.separator);
  written : IsPlainFormatter l.fn.f
      → HasWritten g.W.Write.write_str_gives l.fn.f (join_with_byte 124 (held_of l.right l.self.0)) l.f;
  next : l.separator ≡ separator (held_of l.right l.self.0);
}
