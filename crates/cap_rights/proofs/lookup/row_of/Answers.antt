use Rattle.std.proofs.Common.{Some, ap, ◌∙◌, arith}
use Rattle.cap_rights.proofs.Slots.{long_enough, stands_at, slot_small}
use Rattle.cap_rights.proofs.lookup.row_of.Goals as goal

pub returns-then-length-lt8-clause-only : goal.returns-then-length-lt8-clause-only
returns-then-length-lt8-clause-only c =
    λ row lt e. (let long = long_enough row c.args.word.now lt e in absurd (omega arith))

pub returns-clause-in_range : goal.returns-clause-in_range
returns-clause-in_range c = omega (arith, c.from.ensures, slot_small)

pub returns-clause-only : goal.returns-clause-only
returns-clause-only c = λ row lt e. ap Some (c.from.ensures
    ∙ rw (
      c.from-fifth.ensures,
      c.from-middle.ensures,
      c.from-last.ensures,
      c.from-last_but_one.ensures,
      c.from-last_but_two.ensures,
    ) (stands_at row c.args.word.now lt e))
