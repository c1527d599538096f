-- What a walk back keeps of the steps that touched a cell, and what they make of it on the way forth.
use Rattle.std.specs.Prelude.{if◌then◌else◌, List, [], ◌∷◌, ◌++◌}
use Rattle.cap_machine.specs.declared.cell.Cell.{Cell}
use Rattle.cap_machine.specs.declared.cell.HeldOp.TheVariants.{Becomes}
use Rattle.cap_machine.specs.declared.cell.Op.{Op}
use Rattle.cap_machine.specs.declared.provenance.CellLink.{CellLink}
use Rattle.cap_machine.specs.declared.walks.Passage.{Passage}
use Rattle.cap_machine.specs.Op.{applied}
use Rattle.cap_machine.specs.Provenance.{CellChain, is_idle}

-- the op that makes this cell of each
abbrev pub constant : Cell → Op
constant c = record { unknown = c; closed = c; set = Becomes c; clear = Becomes c; unsure = Becomes c }

-- the cell after these passages, newest first, from one before the oldest
abbrev pub cell_along : List Passage → Cell → Cell
cell_along [] c = c
cell_along (passage ∷ passages) c = applied passage.op (cell_along passages c)

-- the links of those that didn't leave the cell as it was
abbrev pub links_along : List Passage → Cell → List CellLink
links_along [] c = []
links_along (passage ∷ passages) c =
    if is_idle passage.op passage.from_itself (cell_along passages c) then links_along passages c
    else passage.link ∷ links_along passages c

-- the chain of the cell after them, from that of the cell before the oldest
abbrev pub chain_along : List Passage → Cell → CellChain → CellChain
chain_along passages c before = record { links = links_along passages c ++ before.links; end = before.end }
