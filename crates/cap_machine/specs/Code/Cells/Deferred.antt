-- What is still to be done to each cell of a part.
use Rattle.cap_machine.specs.declared.cell.Cell.{Cell}
use Rattle.cap_machine.specs.declared.cell.Cell.TheVariants.{Unknown, Closed}
use Rattle.cap_machine.specs.declared.cells.deferred.Deferred.{Deferred}
use Rattle.cap_machine.specs.declared.cells.deferred.Deferred.TheVariants.{Nothing, Exec, Close, Forget}
use Rattle.cap_machine.specs.Op.{applied, exec}

abbrev pub with_deferred : Deferred → Cell → Cell
with_deferred Nothing c = c
with_deferred Exec c = applied exec c
with_deferred Close c = Closed
with_deferred Forget c = Unknown
