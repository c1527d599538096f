-- What is known is kept where few processes and descriptors are named, unless many calls were refused.
use Rattle.std.specs.Prelude.{All, Bool, List, None, Some, [], cond, eqb, ℕ, ◌*◌, ◌++◌, ◌+◌, ◌<◌, ◌∷◌, ◌≡◌, ◌≤◌, ◌⊎◌}
use Rattle.cap_summary.specs.{Preconditions.IsSettled, declared.known.Known.Known, declared.node.Content.Content, false}
use Rattle.cap_summary.specs.{Asks.refused, Composing.NodeView, Kept.KeepsParts, Kept.StandsFor, Keys.AllRise}
use Rattle.cap_summary.specs.{Keys.CellsRise, Keys.rows_size}
use Rattle.cap_summary.specs.{Sorted.KeysRise, Sorted.Rises, Sorted.RisesFrom, Step, declared.effect.Row.Row, min, refl}
use Rattle.cap_summary.specs.{IfNone, IfSome, Knows.Knows, Option, Sorted.found, is_some, length, nat_le, true}
use Rattle.cap_summary.specs.Kept.{HaveManyRows, IsKept, IsLarge, IsWithin, NameOrRefuseMany, is_one, room, these}
use Rattle.cap_summary.specs.declared.node.Content.TheVariants.{Both, Run}
use Rattle.cap_summary.specs.Names.{AreAmong, IsListedWithin, IsRowWithin, ListWithin, Names, names_in}
use Rattle.cap_summary.proofs.{Knowing.refused_parts, SortedFound.found_below, SortedFound.rises_again, inl, nat_tests}
use Rattle.cap_summary.proofs.{All-head, All-tail, FewAsks.few_asks, FewAsks.few_keys, arith, cases_lt, eq-eqb, eqb-true, inr}
use Rattle.cap_summary.proofs.Naming.{asks_among, effect_among, first_among, second_among}
use Rattle.std.proofs.Math.Nat.{mul-le-mul_right}

-- ---- rows among these processes, which list these descriptors

-- what holds of the value that is there
of_some : {V : Type 0} (o : Option V) (P : V → Type 0) (b : Bool) → ((v : V) → P v → b ≡ true) → IfSome o P
    → is_some o ≡ true → b ≡ true
of_some o P b so all is = grind (arith, so, all, is)

abbrev RowsWithin : Names → List (ℕ × Row) → Type 0
RowsWithin names rows = (p : ℕ) → IfSome (found rows p) (IsRowWithin names p)

rises : {V : Type 0} (entries : List (ℕ × V)) → KeysRise entries → Rises entries
rises entries rise = rises_again 0 entries (λ i d lt. omega arith) rise

module _ (pids fds : List ℕ) where
  few_cells : (row : Row) → KeysRise row.cells → ListWithin (these pids fds) row.cells → length row.cells ≤ length fds
  few_cells row rise within = few_keys row.cells fds (rises row.cells rise) (λ f is.
      of_some (found row.cells f) (IsListedWithin (these pids fds) f) (is_one fds f) (λ v at. at.key) (within f) is)

  first_within : (p : ℕ) (row : Row) (rest : List (ℕ × Row)) → RowsWithin (these pids fds) ((p, row) ∷ rest)
      → IsRowWithin (these pids fds) p row
  first_within p row rest within = rw (eq-eqb p p refl) at (within p)

  rest_within : (p : ℕ) (row : Row) (rest : List (ℕ × Row)) → RisesFrom (p + 1) rest
      → RowsWithin (these pids fds) ((p, row) ∷ rest) → RowsWithin (these pids fds) rest
  rest_within p row rest rise within q = by (eqb p q) refl (within q)
    where
      by : (same : Bool) → eqb p q ≡ same
          → IfSome (cond same (Some row) (found rest q)) (IsRowWithin (these pids fds) q)
          → IfSome (found rest q) (IsRowWithin (these pids fds) q)
      by true e is = let above : q < p + 1 = omega (arith, eqb-true p q e) in
          rw (found_below (p + 1) rest q rise above) tt
      by false e is = is

  rows_listed : (b : ℕ) (rows : List (ℕ × Row)) → RisesFrom b rows → All CellsRise rows
      → RowsWithin (these pids fds) rows → rows_size rows ≤ length rows * (length fds + 1)
  rows_listed b [] rise cells within = omega arith
  rows_listed b ((p, row) ∷ rest) rise cells within =
      let own = few_cells row (All-head CellsRise (p, row) rest cells) (first_within p row rest within).row.cells in
      let later = rows_listed (p + 1) rest rise.1 (All-tail CellsRise (p, row) rest cells)
      (rest_within p row rest rise.1 within) in
      omega (arith, own, later)

  pub few_rows : (rows : List (ℕ × Row)) → AllRise rows → RowsWithin (these pids fds) rows
      → rows_size rows ≤ room pids fds
  few_rows rows rising within =
      let few : length rows ≤ length pids = few_keys rows pids (rises rows rising.pids) (λ p is.
      of_some (found rows p) (IsRowWithin (these pids fds) p) (is_one pids p) (λ row at. at.pid) (within p) is) in
      let all : length rows * (length fds + 1) ≤ length pids * (length fds + 1) =
      mul-le-mul_right (length fds + 1) few in
      let each = rows_listed 0 rows (rises rows rising.pids) rising.cells within in
      omega (arith, each, all)

-- ---- what isn't kept

-- each row counts
pub few_processes : (rows : List (ℕ × Row)) → length rows ≤ rows_size rows
few_processes [] = omega arith
few_processes ((p, row) ∷ rows) = let more = few_processes rows in omega (arith, more)

-- more than is kept, with few refusals, is more than 1,024 cells and modes give
many_cells : (n rows count asks refusals refused room : ℕ)
    → (min 131072 (1024 + n) < rows) ⊎ (8192 < count) ⊎ (262144 < rows + (asks + refusals)) → count ≤ rows
    → rows ≤ room → asks ≤ 8 * room → refusals ≤ refused → refused ≤ 30000 → 1024 < room
many_cells n rows count asks refusals refused room large each few_rows few_asks some few =
    grind (arith, large, each, few_rows, few_asks, some, few)

-- what is known of the steps is above the limit
many_whole : (t : List Step) (known : Known) → Knows known t → IsSettled known.precondition.value
    → IsLarge known (length t) → NameOrRefuseMany t
many_whole t known knows settled is = by (nat_le (refused t) 30000) refl
  where
    by : (few : Bool) → nat_le (refused t) 30000 ≡ few → NameOrRefuseMany t
    by true e =
        let few : refused t ≤ 30000 = grind (arith, nat_tests, e) in
        inl (λ pids fds among.
        let named = these pids fds in
        let rows = few_rows pids fds known.effect.value.rows is.rising
        (effect_among (names_in t) named among known.effect.value knows.effect_named) in
        let asks = few_asks pids fds known.precondition.value.asks.items settled.rises
        (asks_among (names_in t) named among known.precondition.value knows.asks_named).asks in
        many_cells (length t) (rows_size known.effect.value.rows) (length known.effect.value.rows)
        (length known.precondition.value.asks.items) (length known.precondition.value.refusals.items) (refused t)
        (room pids fds) is.large (few_processes known.effect.value.rows) rows asks knows.refusals few)
    by false e = inr (grind (arith, nat_tests, e))

-- what a node keeps of what is known, and why where it keeps nothing
pub node_keeps : (known kept : Option Known) (t : List Step) → IfSome known (λ known. Knows known t)
    → IfSome known (λ known. IsSettled known.precondition.value)
    → IfSome kept (λ kept. (known ≡ Some kept) × IsWithin kept (length t)) → IfSome kept (λ kept. IsKept kept t)
node_keeps known None t knows settled is = tt
node_keeps known (Some kept) t knows settled is = record {
  knows = rw is.0 at knows;
  settled = rw is.0 at settled;
  within = is.1;
}

pub keeps_parts : (known kept : Option Known) (content : Content) (n : ℕ) → KeepsParts known content
    → IfSome kept (λ kept. (known ≡ Some kept) × IsWithin kept n) → KeepsParts kept content
keeps_parts known None (Run run pids) n keeps is = tt
keeps_parts known None (Both a b) n keeps is = tt
keeps_parts known (Some kept) content n keeps is = rw is.0 at keeps

pub node_names : (known kept : Option Known) (t : List Step) → IfSome known (λ known. Knows known t)
    → IfSome known (λ known. IsSettled known.precondition.value) → IfNone known (NameOrRefuseMany t)
    → IfNone kept (IfSome known (λ known. IsLarge known (length t))) → IfNone kept (NameOrRefuseMany t)
node_names known (Some kept) t knows settled many is = tt
node_names None None t knows settled many is = many
node_names (Some known) None t knows settled many is = many_whole t known knows settled is

-- a node with these steps that keeps so much
pub stands_for : (n : NodeView) (kept : Option Known) (t : List Step) → n.steps ≡ t → n.known ≡ kept
    → IfSome kept (λ known. IsKept known t) → IfNone kept (NameOrRefuseMany t) → StandsFor n t
stands_for n None t steps known is many = record { steps = steps; known = rw known tt; many = rw known many }
stands_for n (Some k) t steps known is many = record { steps = steps; known = rw known is.knows; many = rw known tt }

-- more than 1,024 rows are there
many_listed : (t : List Step) (known : Known) → Knows known t → AllRise known.effect.value.rows
    → 1024 < length known.effect.value.rows → NameOrRefuseMany t
many_listed t known knows rising many = inl (λ pids fds among.
    let rows = few_rows pids fds known.effect.value.rows rising
    (effect_among (names_in t) (these pids fds) among known.effect.value knows.effect_named) in
    omega (arith, rows, few_processes known.effect.value.rows, many))

-- more names and refusals are many too
many_more : (t v : List Step) → AreAmong (names_in t) (names_in v) → refused t ≤ refused v → NameOrRefuseMany t
    → NameOrRefuseMany v
many_more t v some less (inl names) = inl (λ pids fds among. names pids fds (record {
  pids = λ p is. among.pids p (some.pids p is);
  fds = λ f is. among.fds f (some.fds f is);
}))
many_more t v some less (inr refuses) = inr (omega (arith, refuses, less))

-- one of two parts names or refuses many
pub many_first : (t u : List Step) → NameOrRefuseMany t → NameOrRefuseMany (t ++ u)
many_first t u = many_more t (t ++ u) (first_among t u) (omega (arith, refused_parts t u))

pub many_second : (t u : List Step) → NameOrRefuseMany u → NameOrRefuseMany (t ++ u)
many_second t u = many_more u (t ++ u) (second_among t u) (omega (arith, refused_parts t u))

pub many_both : (t u : List Step) (first second : Known) → Knows first t → Knows second u
    → HaveManyRows first second → NameOrRefuseMany (t ++ u)
many_both t u first second one other have =
    elim (cases_lt 1024 (length first.effect.value.rows)) [
      | inl many ↦ many_first t u (many_listed t first one have.rising many)
      | inr few ↦ many_second t u (many_listed u second other have.rising_too (omega (arith, have.many, few)))
    ]

-- why nothing is kept of two parts
pub ruleset many = (many_first, many_second, many_both)

-- what holds where something is known
pub where_known : (known : Option Known) (P : Type 0) → is_some known ≡ true → IfSome known (λ k. P) → P
where_known None P is holds = absurd (let wrong : false ≡ true = is in cc)
where_known (Some known) P is holds = holds
