use Rattle.cap_tree.proofs.Digits.{bits_enough, bits_needed}
use Rattle.cap_tree.proofs.laws.bits_are_digits.Goals as goal

pub returns : goal.returns
returns c = record { enough = bits_enough; needed = bits_needed }
