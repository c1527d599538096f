-- What is kept of steps, where it is little or they don't name much and few were refused; and what holds of each node.
use Rattle.std.specs.Prelude.{IfSome, List, Option, is_some, length, ◌*◌, ◌++◌, ◌+◌, ◌<◌, ◌==◌, ◌^◌, ◌≡◌, ◌≤◌, ◌⊎◌}
use Rattle.cap_summary.specs.{Asks.refused, Composing.NodeView, Keys.rows_size, Lasts.pids_of, Names.AreAmong, Names.names_in, min}
use Rattle.cap_summary.specs.{Bool, IfNone, Keys.AllRise, Knows.Knows, Names.Names, Step, list_any, true, values, ℕ}
use Rattle.cap_summary.specs.declared.{known.Known.Known, node.Content.Content}
use Rattle.cap_summary.specs.Preconditions.{IsSettled, size}

-- what is known of so many steps is within the limits: that of rows and cells, of rows, and of all with asks and refusals
pub record IsWithin (known : Known) (n : ℕ) : Type 0 where
  pub cells : rows_size known.effect.value.rows ≤ min 131072 (1024 + n)
  pub processes : length known.effect.value.rows ≤ 8192
  pub all : size known ≤ 262144

-- it isn't
pub record IsLarge (known : Known) (n : ℕ) : Type 0 where
  pub rising : AllRise known.effect.value.rows
  pub large : (min 131072 (1024 + n) < rows_size known.effect.value.rows)
      ⊎ (8192 < length known.effect.value.rows) ⊎ (262144 < size known)

-- two segments have more than 8,192 rows together
pub record HaveManyRows (first second : Known) : Type 0 where
  pub rising : AllRise first.effect.value.rows
  pub rising_too : AllRise second.effect.value.rows
  pub many : 8192 < length first.effect.value.rows + length second.effect.value.rows

-- what is kept of steps
pub record IsKept (known : Known) (steps : List Step) : Type 0 where
  pub knows : Knows known steps
  pub settled : IsSettled known.precondition.value
  pub within : IsWithin known (length steps)

-- a number is one of these
abbrev pub is_one : List ℕ → ℕ → Bool
is_one all n = list_any (λ m. m == n) all

-- just these processes and these descriptors
abbrev pub these : List ℕ → List ℕ → Names
these pids fds = record { pids = is_one pids; fds = is_one fds }

-- the cells of these descriptors, and the mode, of each of these processes
abbrev pub room : List ℕ → List ℕ → ℕ
room pids fds = length pids * (length fds + 1)

-- All lists of processes and descriptors that have those which the steps name have more than 1,024 cells and modes, or
-- more than 30,000 calls were refused.
abbrev pub NameOrRefuseMany : List Step → Type 0
NameOrRefuseMany t =
    ((pids fds : List ℕ) → AreAmong (names_in t) (these pids fds) → 1024 < room pids fds) ⊎ (30000 < refused t)

-- the steps of a node, from the first
abbrev pub content_steps : Content → List Step
content_steps (Content.Run run pids) = values run.items
content_steps (Content.Both a b) = a.value.steps ++ b.value.steps

-- a run is short, and a node of two parts has steps in both
abbrev pub HasParts : Content → Type 0
HasParts (Content.Run run pids) = length run.items ≤ 48
HasParts (Content.Both a b) = (0 < length a.value.steps) × (0 < length b.value.steps)

-- a run lists the process of each of its steps
abbrev pub ListsProcesses : Content → Type 0
ListsProcesses (Content.Run run pids) = pids.items ≡ pids_of (values run.items)
ListsProcesses (Content.Both a b) = Unit {0}

-- where what is known of a node is kept, it is kept of both parts
abbrev pub AreKept : NodeView → NodeView → Type 0
AreKept a b = (is_some a.known ≡ true) × (is_some b.known ≡ true)

abbrev pub KeepsParts : Option Known → Content → Type 0
KeepsParts kept (Content.Run run pids) = Unit {0}
KeepsParts kept (Content.Both a b) = IfSome kept (λ known. AreKept a.value b.value)

-- A node stands for a list of steps: it has just these; what it keeps says of them the state after, and whether something
-- is found, from every state before; and it keeps that wherever they name little and few calls were refused.
pub record StandsFor (n : NodeView) (t : List Step) : Type 0 where
  pub steps : n.steps ≡ t
  pub known : IfSome n.known (λ known. Knows known t)
  pub many : IfNone n.known (NameOrRefuseMany t)

-- what always holds of a node; where nothing is kept of it, it names or refuses many
pub record IsGood (size : ℕ) (kept : Option Known) (content : Content) : Type 0 where
  pub len : size ≡ length (content_steps content)
  pub parts : HasParts content
  pub processes : ListsProcesses content
  pub below : KeepsParts kept content
  pub few : size ≤ 2 ^ 30
  pub known : IfSome kept (λ known. IsKept known (content_steps content))
  pub many : IfNone kept (NameOrRefuseMany (content_steps content))
