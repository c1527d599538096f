-- A directory with a path, as the code has it.
use Rattle.cap_machine.specs.declared.places.Place.{Place as PlaceOfCode}
use Rattle.cap_machine.specs.Places.{Place, place}

abbrev pub place_view : PlaceOfCode → Place
place_view x = place x.dir x.path.now x.needs
