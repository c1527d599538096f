-- What is known of two segments together. Their effect names what the second one names, and what rows that it reads do.
use Rattle.std.specs.Prelude.{IfSome, Option, if◌then◌else◌, is_none, length, true, ℕ, ◌&&◌, ◌<◌, ◌||◌, ◌≡◌}
use Rattle.cap_summary.specs.{Preconditions.IsAskedByBoth, Preconditions.IsSamePrecondition, declared.known.Known.Known}
use Rattle.cap_summary.specs.{Cell, Keys.Cells, Keys.read, List, Similarity, Sorted.found, Step, option_map_or, part_at}
use Rattle.cap_summary.specs.declared.{base.Passing.Passing, composed.Replaced.Replaced, key.Key.Key, value.Value.Value}
use Rattle.cap_summary.specs.Effects.{cell_in, changed, is_from, leaves, leaves_in, passed}
use Rattle.cap_summary.specs.Names.{IsListedWithin, IsRowWithin, Names, ReadWithin}
use Rattle.cap_summary.specs.declared.effect.{Effect.Effect, Row.Row}

-- what is listed for a descriptor: what the second lists, by the cells before the first, or what the first one hands on
pub record IsHandedSo (first : Effect) (passing : Passing) (closed_from : Option ℕ) (f : ℕ)
    (listed handed new : Option Value) : Type 0 where
  pub cells : (cells : Cells) (rest : Cell) → option_map_or (read cells) new rest
      ≡ option_map_or (read (changed first cells)) listed
      (option_map_or (λ v. if is_from closed_from f then rest else passed passing (read cells v)) handed rest)
  pub unlisted : is_none new ≡ (is_none listed && (is_none handed || is_from closed_from f))
  pub names : (names of : Names) → ReadWithin names of first → IfSome listed (IsListedWithin of f)
      → IfSome listed (IsListedWithin names f) → IfSome handed (IsListedWithin names f)
      → IfSome new (IsListedWithin names f)

-- the row of a process: its cells, what it leaves, and what it names
pub record IsComposedSo (first : Effect) (p : ℕ) (later new : Option Row) : Type 0 where
  pub cells : (cells : Cells) (k : Key) → cell_in cells new p k ≡ cell_in (changed first cells) later p k
  pub leaves : (k : Key) → leaves_in new k ≡ true → (leaves first p k ≡ true) × (leaves_in later k ≡ true)
  pub names : (names of : Names) → ReadWithin names of first → IfSome (found first.rows p) (IsRowWithin names p)
      → IfSome later (IsRowWithin of p) → IfSome later (IsRowWithin names p) → IfSome new (IsRowWithin names p)

-- the effect of a segment and then a later one
pub record IsJoinedEffect (first later both : Effect) : Type 0 where
  pub rows : (p : ℕ) → IsComposedSo first p (found later.rows p) (found both.rows p)

-- the row of a process in an old whole, when one part was replaced; the later segment gives the process this row
abbrev pub IsOldAt : Replaced → Effect → ℕ → Option Row → Type 0
IsOldAt old first p later = IsComposedSo (part_at old.side old.was.now first) p
    (part_at old.side later (found old.was.now.rows p)) (found old.whole.now.rows p)

-- what is known of a segment, of a later one, and of both
pub record IsJoined (first later both : Known) : Type 0 where
  pub effect : IsJoinedEffect first.effect.value later.effect.value both.effect.value
  pub precondition : IsAskedByBoth first.effect.value first.precondition.value later.precondition.value
      both.precondition.value

-- what the similarity says is so
pub record AreAlike (similarity : Similarity) (old new : Known) : Type 0 where
  pub effect : similarity.effect ≡ true → old.effect.value.rows ≡ new.effect.value.rows
  pub precondition : similarity.precondition ≡ true → IsSamePrecondition old.precondition.value new.precondition.value

-- ---- a node of a summary, as a contract sees it: its steps, and what is known of them where that is kept
pub record NodeView : Type 0 where
  pub steps : List Step
  pub known : Option Known

-- of two nodes that have steps and a third one, which is theirs in order: what is known of the three, where it is kept
abbrev pub NodesCompose : NodeView → NodeView → NodeView → Type 0
NodesCompose a b whole = 0 < length a.steps → 0 < length b.steps
    → IfSome whole.known (λ both. IfSome a.known (λ first. IfSome b.known (λ later. IsJoined first later both)))

-- something holds of what is known of two nodes, where it is kept of both
abbrev pub IfKept : (Known → Known → Type 0) → NodeView → NodeView → Type 0
IfKept R a b = IfSome a.known (λ old. IfSome b.known (λ new. R old new))
