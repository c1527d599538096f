-- Under which cells before a segment something is found in it.
use Rattle.std.specs.Prelude.{All, Bool, List, false, length, not, true, ℕ, ◌+◌, ◌||◌, ◌≡◌, ◌≤◌}
use Rattle.cap_summary.specs.Asks.{AgreeOn, AreWithin, AskWithin, CanFail, CanHold, IsOpen, Rises, any_holds, asks_of}
use Rattle.cap_summary.specs.{Effects.changed, Keys.Cells, Keys.cells_of, Keys.rows_size, Names.EffectWithin}
use Rattle.cap_summary.specs.{Names.Names, State, declared.ask.Ask.Ask, declared.effect.Effect.Effect}
use Rattle.cap_summary.specs.{declared.known.Known.Known, declared.precondition.Precondition.Precondition}
use Rattle.cap_summary.specs.{declared.up_to_three.UpToThree.UpToThree, list_any}

-- how many asks and refusals there are
abbrev pub asks_size : Precondition → ℕ
asks_size pre = length pre.asks.items + length pre.refusals.items

abbrev pub size : Known → ℕ
size known = rows_size known.effect.value.rows + asks_size known.precondition.value

-- a refusal is wrongful: none of its asks holds
abbrev pub is_wrongful : Cells → UpToThree → Bool
is_wrongful cells refusal = not (any_holds cells (asks_of refusal))

-- something is found
abbrev pub is_met : Cells → Precondition → Bool
is_met cells pre =
    pre.certain || (any_holds cells pre.asks.items || list_any (is_wrongful cells) pre.refusals.items)

-- whether a refusal is wrongful depends on the state, and so does whether each of its asks holds
pub record RefusalIsOpen (refusal : UpToThree) : Type 0 where
  pub asks : All IsOpen (asks_of refusal)
  pub right : (s : State) × (is_wrongful (cells_of s) refusal ≡ false)
  pub wrongful : (s : State) × (is_wrongful (cells_of s) refusal ≡ true)

-- ---- what may be said of asks and refusals: that their cells are among those of some names, or that an ask holds in some
-- state and a refusal is open
pub data Saying : Type 0 where
  Within : Names → Saying
  Possible : Saying

abbrev pub IsSaid : Saying → Ask → Type 0
IsSaid (Within names) ask = AskWithin names ask
IsSaid Possible ask = CanHold ask

abbrev pub IsRefusalSaid : Saying → UpToThree → Type 0
IsRefusalSaid (Within names) refusal = AreWithin names (asks_of refusal)
IsRefusalSaid Possible refusal = RefusalIsOpen refusal

-- it is said of all that a precondition has
pub record AllSaid (said : Saying) (pre : Precondition) : Type 0 where
  pub asks : All (IsSaid said) pre.asks.items
  pub refusals : All (IsRefusalSaid said) pre.refusals.items

-- this holds of the names, where such are said
abbrev pub IfNamed : (Names → Type 0) → Saying → Type 0
IfNamed P (Within names) = P names
IfNamed P Possible = Unit {0}

-- the asks stand in order, and each fails in some state, unless it is said that something is found in every one
pub record IsSettled (pre : Precondition) : Type 0 where
  pub rises : Rises pre.asks.items
  pub fails : pre.certain ≡ false → All CanFail pre.asks.items

-- ---- two states agree in all that is asked: on each ask, and each refusal is wrongful in both or in neither
pub record AgreeIn (s r : Cells) (pre : Precondition) : Type 0 where
  pub asks : All (AgreeOn s r) pre.asks.items
  pub refusals : All (λ refusal. is_wrongful s refusal ≡ is_wrongful r refusal) pre.refusals.items

-- ---- a list of asks that holds where one of two others does
pub record IsUnionOf (lefts rights asks : List Ask) : Type 0 where
  pub rises : Rises asks
  pub holds : (cells : Cells) → any_holds cells asks ≡ (any_holds cells lefts || any_holds cells rights)
  pub agree : (s r : Cells) → All (AgreeOn s r) asks → All (AgreeOn s r) lefts × All (AgreeOn s r) rights
  pub few : length asks ≤ length lefts + length rights
  pub each : (said : Saying) → All (IsSaid said) lefts → All (IsSaid said) rights → All (IsSaid said) asks

-- ---- a first segment, and a later one whose asks are pulled back through the effect of the first

-- with more reasons by the cells after the first segment, that two states agree on them, and what may be said of them: at
-- most so many asks and refusals more, and so many refusals
pub record IsWithMore (first : Effect) (more : Cells → Bool) (agree_on : Cells → Cells → Type 0)
    (about : Saying → Type 0) (size most : ℕ) (old new : Precondition) : Type 0 where
  pub met : (s : State) → is_met (cells_of s) new ≡ (is_met (cells_of s) old || more (changed first (cells_of s)))
  pub agree : (s r : State) → AgreeIn (cells_of s) (cells_of r) new
      → AgreeIn (cells_of s) (cells_of r) old × agree_on (changed first (cells_of s)) (changed first (cells_of r))
  pub each : (said : Saying) → IfNamed (λ names. EffectWithin names first) said → about said → AllSaid said old
      → AllSaid said new
  pub few : asks_size new ≤ asks_size old + size
  pub refusals : length new.refusals.items ≤ length old.refusals.items + most

-- where one of those asks of the later segment holds after the first that are left out, or these asks do before it
pub record IsPulledBack (first : Effect) (later back : List Ask) (certain : Bool) : Type 0 where
  pub holds : (s : State) → (certain || any_holds (cells_of s) back) ≡ any_holds (changed first (cells_of s)) later
  pub agree : (s r : State) → All (AgreeOn (cells_of s) (cells_of r)) back
      → All (AgreeOn (changed first (cells_of s)) (changed first (cells_of r))) later
  pub each : (said : Saying) → IfNamed (λ names. EffectWithin names first) said → All (IsSaid said) later
      → All (IsSaid said) back
  pub few : length back ≤ length later

-- something is found where it is in the first segment, or in the later one
pub record IsAskedByBoth (first : Effect) (own later both : Precondition) : Type 0 where
  pub with : IsWithMore first (λ cells. is_met cells later) (λ s r. AgreeIn s r later) (λ said. AllSaid said later)
      (asks_size later) (length later.refusals.items) own both
  pub settled : IsSettled both

-- the same asks and refusals
pub record IsSamePrecondition (a b : Precondition) : Type 0 where
  pub certain : a.certain ≡ b.certain
  pub asks : a.asks.items ≡ b.asks.items
  pub refusals : a.refusals.items ≡ b.refusals.items
