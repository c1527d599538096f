-- What is asked of the cells before a segment, or before one line: tests of single cells.
use Rattle.std.specs.Prelude.{if◌then◌else◌, ◌%◌, ◌&&◌, ◌*◌, ◌+◌, ◌==◌, ◌^◌, ◌||◌, ◌∷◌, ◌≡◌, ◌≤◌, ◌⊎◌}
use Rattle.cap_summary.specs.{Check, LimitWord, Names.Names, Names.has_cell, NotCapable, Unknown, list_any, requirement}
use Rattle.cap_summary.specs.{Bool, Cell, Clear, Closed, Held, List, State, Step, Unsure, bit_at, false, fault, has_all}
use Rattle.cap_summary.specs.{All, Set, [], min, none, not, take, true, ℕ}
use Rattle.cap_summary.specs.declared.{ask.Pulled.Pulled, line_asks.LineAsks.LineAsks, up_to_three.UpToThree.UpToThree}
use Rattle.cap_summary.specs.declared.{ask.Ask.Ask, key.Key.Key, kinds.Kinds.Kinds}
use Rattle.cap_summary.specs.Keys.{Cells, cell_mode, cells_of, mode_cell}
use Rattle.cap_machine.specs.{Judge.is_excused, declared.rule.Reply.Reply}

-- ---- tests of one cell: which kinds of cell pass, and of held cells those that lack rights

-- the number of a cell's kind
abbrev pub kind_of : Cell → ℕ
kind_of (Held rights Set) = 0
kind_of (Held rights Clear) = 1
kind_of (Held rights Unsure) = 2
kind_of Unknown = 3
kind_of Closed = 4

-- a cell of each kind
abbrev pub each_kind : List Cell
each_kind = Held none Set ∷ Held none Clear ∷ Held none Unsure ∷ Unknown ∷ Closed ∷ []

-- a kind is among these
abbrev pub has : Kinds → ℕ → Bool
has kinds kind = bit_at kinds.bits kind == 1

-- a cell has one of these kinds
abbrev pub has_kind : Kinds → Cell → Bool
has_kind kinds cell = has kinds (kind_of cell)

-- a cell is held, and lacks some of these rights
abbrev pub lacks : ℕ → Cell → Bool
lacks rights (Held held flag) = not (has_all held rights)
lacks rights Unknown = false
lacks rights Closed = false

-- a cell passes the test of an ask
abbrev pub passes : Ask → Cell → Bool
passes ask cell = has_kind ask.kinds cell || (has_kind ask.lacking cell && lacks ask.rights cell)

-- the cell, with these rights if it is held
abbrev pub holding : ℕ → Cell → Cell
holding rights (Held held flag) = Held rights flag
holding rights Unknown = Unknown
holding rights Closed = Closed

-- the cell at a key for another cell: that of a mode, or the cell with these rights if it is held
abbrev pub standing : ℕ → Key → Cell → Cell
standing rights Key.Mode cell = mode_cell (cell_mode cell)
standing rights (Key.Fd f) cell = holding rights cell

-- it passes there, also where it lacks none of the rights
abbrev pub is_sure : Ask → Key → Cell → Bool
is_sure ask key cell = passes ask (standing ask.rights key cell)

-- an ask holds of the cells before the segment
abbrev pub holds : Cells → Ask → Bool
holds cells ask = passes ask (cells ask.pid ask.key)

-- one of them does
abbrev pub any_holds : Cells → List Ask → Bool
any_holds cells asks = list_any (holds cells) asks

-- those of a list of at most three
abbrev pub asks_of : UpToThree → List Ask
asks_of three = take (min three.count 3) three.asks

-- an ask holds in some state, or fails in some
abbrev pub CanHold : Ask → Type 0
CanHold ask = (s : State) × (holds (cells_of s) ask ≡ true)

abbrev pub CanFail : Ask → Type 0
CanFail ask = (s : State) × (holds (cells_of s) ask ≡ false)

-- whether an ask holds depends on the state
pub record IsOpen (ask : Ask) : Type 0 where
  pub fails : CanFail ask
  pub holds : CanHold ask

-- two cells are one to an ask that tests them: they are the same, or it passes neither
abbrev pub AreOneTo : Ask → Cell → Cell → Type 0
AreOneTo ask a b = (a ≡ b) ⊎ ((passes ask a ≡ false) × (passes ask b ≡ false))

-- two states agree on an ask: its cell is the same in both, or it holds in neither
abbrev pub AgreeOn : Cells → Cells → Ask → Type 0
AgreeOn s r ask = AreOneTo ask (s ask.pid ask.key) (r ask.pid ask.key)

-- an ask that was pulled back holds
abbrev pub pulled_holds : Cells → Pulled → Bool
pulled_holds cells Pulled.Always = true
pulled_holds cells Pulled.Never = false
pulled_holds cells (Pulled.Where ask) = holds cells ask

-- this holds of an ask that was pulled back, if it asks
abbrev pub IfAsked : (Ask → Type 0) → Pulled → Type 0
IfAsked P Pulled.Always = Unit {0}
IfAsked P Pulled.Never = Unit {0}
IfAsked P (Pulled.Where ask) = P ask

-- the cell that an ask is about is named
abbrev pub AskWithin : Names → Ask → Type 0
AskWithin names ask = has_cell names ask.pid ask.key ≡ true

abbrev pub AreWithin : Names → List Ask → Type 0
AreWithin names asks = All (AskWithin names) asks

-- ---- order: by process, then by key, then by the kinds of held cells at which rights are asked about
abbrev pub key_number : Key → ℕ
key_number Key.Mode = 0
key_number (Key.Fd f) = f + 1

abbrev pub place : Ask → ℕ
place ask = ask.pid * 2 ^ 36 + (8 * key_number ask.key + ask.lacking.bits % 8)

-- two asks stand at one place
pub record IsAtPlace (ask other : Ask) : Type 0 where
  pub pid : ask.pid ≡ other.pid
  pub key : ask.key ≡ other.key
  pub lacking : ask.lacking.bits % 8 ≡ other.lacking.bits % 8

-- the places strictly rise, and none is below the bound
abbrev pub RisesFrom : ℕ → List Ask → Type 0
RisesFrom bound [] = Unit {0}
RisesFrom bound (ask ∷ asks) = (bound ≤ place ask) × RisesFrom (place ask + 1) asks

-- the places strictly rise, so no two asks stand at one place
abbrev pub Rises : List Ask → Type 0
Rises asks = RisesFrom 0 asks

-- one of these asks is about a cell and passes it, also where it lacks none of the rights
abbrev pub are_sure_at : List Ask → ℕ → Key → Cell → Bool
are_sure_at asks p k cell = list_any
    (λ (ask : Ask). ((ask.pid == p) && (key_number ask.key == key_number k)) && is_sure ask ask.key cell) asks

-- ---- what one line asks holds
abbrev pub asked_holds : Cells → LineAsks → Bool
asked_holds cells LineAsks.Always = true
asked_holds cells (LineAsks.Where asks) = any_holds cells (asks_of asks)
asked_holds cells (LineAsks.Unless asks) = not (any_holds cells (asks_of asks))

-- two states agree on what it asks: on each ask of it, or a refusal is wrongful in both or in neither
abbrev pub AgreeOnLine : Cells → Cells → LineAsks → Type 0
AgreeOnLine s r LineAsks.Always = Unit {0}
AgreeOnLine s r (LineAsks.Where asks) = All (AgreeOn s r) (asks_of asks)
AgreeOnLine s r (LineAsks.Unless asks) = not (any_holds s (asks_of asks)) ≡ not (any_holds r (asks_of asks))

-- its asks
abbrev pub asks_in : LineAsks → List Ask
asks_in LineAsks.Always = []
asks_in (LineAsks.Where asks) = asks_of asks
asks_in (LineAsks.Unless asks) = asks_of asks

-- how many refusals there are
abbrev pub refusals_in : LineAsks → ℕ
refusals_in (LineAsks.Unless asks) = 1
refusals_in asks = 0

-- there is something
abbrev pub has_any : {X : Type 0} → List X → Bool
has_any [] = false
has_any (x ∷ xs) = true

-- a call that succeeded lacks the rights that a check needs; a refused one lacks those with which that is wrongful
abbrev pub is_lacked : Bool → LimitWord → Check → Cell → Bool
is_lacked false word check cell = has_any (fault word check cell)
is_lacked true word check cell = not (is_excused check.excuse cell)

-- a call was refused for lack of a right (errno 93)
abbrev pub is_refusal : Reply → Bool
is_refusal NotCapable = true
is_refusal reply = false

-- how many of them were
abbrev pub refused : List Step → ℕ
refused [] = 0
refused (step ∷ rest) = (if is_refusal (requirement step.line).reply then 1 else 0) + refused rest
