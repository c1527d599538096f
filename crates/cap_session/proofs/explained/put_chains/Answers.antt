use Rattle.cap_session.proofs.Explains.{all_stand}
use Rattle.cap_session.proofs.explained.put_chains.Goals as goal

pub put_cells-requires-clause-stand : goal.put_cells-requires-clause-stand
put_cells-requires-clause-stand g c = rw c.as_slice.ensures.value (all_stand _ _ c.requires.cells)
