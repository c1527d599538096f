-- What the laws of the script of limits take of limits: their numbers and sets of rights can be spelled.
use Rattle.std.specs.Prelude.{◌≡◌, ◌-◌, ◌≤◌, ◌^◌, true, List, length, map, Some}
use Rattle.std.specs.List.{All, slice_get}
use Rattle.cap_rights.specs.Rights.{IsRightSet}
use Rattle.cap_trace.specs.Entry.{Entry, IsPid, IsFd}
use Rattle.cap_machine.specs.Judge.{is_forbidden}
use Rattle.cap_limits.specs.Limits.{Row, row_of}
use Rattle.cap_machine.specs.Rule.{requirement}
use Rattle.cap_limits.specs.declared.limits.Entering.{Entering}
use Rattle.cap_limits.specs.declared.limits.Entering.TheVariants.{Inside, Blocked, May}
use Rattle.cap_limits.specs.declared.limits.Limits.{Limits}
use Rattle.cap_limits.specs.declared.makers.MakerLimit.{MakerLimit}
use Rattle.cap_limits.specs.declared.makers.MakerRow.{MakerRow}
use Rattle.cap_limits.specs.declared.makers.MakerRow.TheVariants as made
use Rattle.cap_session.specs.LimitScriptLaws.{IsNamed}

-- a descriptor and a set of rights
abbrev pub IsRow : Row → Type 0
IsRow row = IsFd row.0 × IsRightSet row.1

-- a call at the line that is in the way is one that capability mode forbids
abbrev pub StandsInTheWay : List Entry → Entering → Type 0
StandsInTheWay t May = Unit {0}
StandsInTheWay t Inside = Unit {0}
StandsInTheWay t (Blocked n) = (line : Entry) × (slice_get t (n - 1) ≡ Some line) × (1 ≤ n) × (n ≤ length t)
    × IsPid line.pid × (is_forbidden (requirement line).class ≡ true)

abbrev pub IsMakerLimit : List Entry → MakerLimit → Type 0
IsMakerLimit t limit = (limit.at ≤ length t) × IsPid limit.pid × IsRow (limit.fd, limit.rights)

abbrev pub IsSpelledRow : List Entry → MakerRow → Type 0
IsSpelledRow t (made.Held limit) = IsMakerLimit t limit × IsNamed limit.rights
IsSpelledRow t (made.Unknown limit) = IsMakerLimit t limit

pub record ProcessFacts (t : List Entry) (limits : Limits) : Type 0 where
  pub pid : IsPid limits.pid
  pub rows : All IsRow (map row_of limits.held.items)
  pub named : All (λ (row : Row). IsNamed row.1) (map row_of limits.held.items)
  pub few : length (map row_of limits.held.items) ≤ 2 ^ 32
  pub unknown : All IsRow (map row_of limits.unknown.items)
  pub stands : StandsInTheWay t limits.entering
