-- What two states have differently.
use Rattle.std.specs.Prelude.{Bool, List, [], false, is_some, length, refl, take, true, ℕ, ◌++◌, ◌+◌, ◌<◌, ◌==◌}
use Rattle.std.specs.Prelude.{get_or, ◌||◌, ◌∷◌, ◌≡◌, ◌⊎◌}
use Rattle.cap_summary.specs.{Preconditions.AgreeIn, declared.precondition.Precondition.Precondition}
use Rattle.cap_summary.proofs.{fun_ext}
use Rattle.cap_summary.proofs.{All-push, Bools.and_left, Bools.and_right, Together.same_key, ap, arith, eq-eqb, eqb-true}
use Rattle.cap_summary.proofs.{list_any-append, list_any_more, or_parts, sym, ◌∙◌}
use Rattle.cap_summary.specs.{Asks.key_number, Keys.Cells, declared.difference.Difference.Difference, declared.key.Key.Key}
use Rattle.cap_summary.specs.Differing.{AreListed, DifferAt, IsDifference, IsKeyOf, IsListedKey, are_at, is_key}
use Rattle.cap_summary.specs.{Cell, Closed, Held, Option, Some, Sorted.RisesFrom, Sorted.found, Unknown, applied, same}
use Rattle.cap_summary.specs.{declared.value.Value.Value, list_any, None, option_map_or}
use Rattle.cap_summary.specs.{declared.base.Base.Base, declared.base.DefaultCells.DefaultCells, declared.effect.Row.Row}
use Rattle.cap_summary.specs.{Inside, LineEffect, Op, Effects.line_after, Keys.mode_cell, declared.difference.Alone.Alone}
use Rattle.cap_summary.specs.Differing.{earlier_if, of_taker, present_if}
use Rattle.cap_summary.specs.{Differing.IsRowOf, Differing.IsSetAt, Keys.read, declared.effect.Effect.Effect}
use Rattle.cap_summary.specs.Effects.{base_cell, changed, is_from, others_cell, passed}
use Rattle.std.proofs.{lemmas.List.get_or_default}
use Rattle.std.specs.Prelude.{cond, eqb}
use Rattle.cap_summary.proofs.{All-nil, SortedFound.found_at, and-false, inl, inr, nat_tests, or_cases, take_all, take_more}

pub key_is : (p : ℕ) (k : Key) (q : ℕ) (j : Key) → is_key p k q j ≡ true → (p ≡ q) × (k ≡ j)
key_is p k q j is = (
  eqb-true p q (and_left (p == q) (key_number k == key_number j) is),
  same_key k j (eqb-true _ _ (and_right (p == q) (key_number k == key_number j) is)),
)

pub own_key : (p : ℕ) (k : Key) → is_key p k p k ≡ true
own_key p k = rw (eq-eqb p p refl, eq-eqb (key_number k) (key_number k) refl) refl

-- ---- what is listed of one key: nothing, where both have the same, or where it is listed already
pub listed_same : (old new : Cells) (pid : ℕ) (key : Key) (list : List Difference) → old pid key ≡ new pid key
    → AreListed old new (λ p k. is_key pid key p k ≡ true) list list
listed_same old new pid key list same = record {
  each = λ all. all;
  grows = λ p k none. none;
  all = λ p k at none. let is = key_is pid key p k at in rw (is.0, is.1) at same;
}

pub listed_there : (old new : Cells) (pid : ℕ) (key : Key) (list : List Difference)
    → are_at list pid key ≡ true → AreListed old new (λ p k. is_key pid key p k ≡ true) list list
listed_there old new pid key list there = record {
  each = λ all. all;
  grows = λ p k none. none;
  all = λ p k at none. let is = key_is pid key p k at in
      absurd (let wrong : true ≡ false = sym (rw (is.0, is.1) at there) ∙ none in cc);
}

pub listed_one : (old new : Cells) (d : Difference) (list : List Difference) → IsDifference old new d
    → AreListed old new (λ p k. is_key d.pid d.key p k ≡ true) list (list ++ d ∷ [])
listed_one old new d list is = record {
  each = λ all. All-push (IsDifference old new) list d all is;
  grows = λ p k none. (parts p k none).0;
  all = λ p k at none.
      absurd (let wrong : true ≡ false = sym at ∙ (or_parts _ false (parts p k none).1).0 in cc);
}
  where
    parts : (p : ℕ) (k : Key) → are_at (list ++ d ∷ []) p k ≡ false
        → (are_at list p k ≡ false) × (are_at (d ∷ []) p k ≡ false)
    parts p k none = or_parts (are_at list p k) (are_at (d ∷ []) p k)
        (sym (list_any-append (λ (x : Difference). is_key x.pid x.key p k) list (d ∷ [])) ∙ none)

pub applied_same : (c : Cell) → applied same c ≡ c
applied_same (Held r f) = grind arith
applied_same Unknown = refl
applied_same Closed = refl

-- ---- more and more is listed
pub listed_none : (old new : Cells) (of : ℕ → Key → Type 0) (list : List Difference) → ((p : ℕ) (k : Key) → of p k → ⊥)
    → AreListed old new of list list
listed_none old new of list none = record {
  each = λ all. all;
  grows = λ p k there. there;
  all = λ p k is there. absurd (none p k is);
}

pub listed_then : (old new : Cells) (of next all : ℕ → Key → Type 0) (a b c : List Difference)
    → AreListed old new of a b → AreListed old new next b c → ((p : ℕ) (k : Key) → all p k → of p k ⊎ next p k)
    → AreListed old new all a c
listed_then old new of next all a b c first second either = record {
  each = λ is. second.each (first.each is);
  grows = λ p k none. first.grows p k (second.grows p k none);
  all = λ p k is none. elim (either p k is) [
    | inl one ↦ first.all p k one (second.grows p k none)
    | inr other ↦ second.all p k other none
  ];
}

-- an entry of a table is found under its key
pub entry_found : {V : Type 0} (b : ℕ) (l : List (ℕ × V)) (i : ℕ) (x : ℕ × V) → RisesFrom b l → i < length l
    → x ≡ get_or l i x → found l x.0 ≡ Some x.1
entry_found {V} b l i x rises within is = found_at b l x.0 i x rises (record {
  in_range = within;
  has_key = λ d. ap (λ (e : ℕ × V). e.0) (get_or_default l i d x within ∙ sym is);
}) ∙ ap (λ (e : ℕ × V). Some e.1) (sym is)

found_push : {V : Type 0} (l : List (ℕ × V)) (x : ℕ × V) (key : ℕ) → is_some (found (l ++ x ∷ []) key) ≡ true
    → (is_some (found l key) ≡ true) ⊎ (key ≡ x.0)
found_push [] x key is = inr (grind (arith, nat_tests, is))
found_push {V} (y ∷ l) x key is = by (eqb y.0 key) refl is (λ later. found_push l x key later)
  where
    by : (b : Bool) → eqb y.0 key ≡ b → is_some (cond b (Some y.1) (found (l ++ x ∷ []) key)) ≡ true
        → (is_some (found (l ++ x ∷ []) key) ≡ true → (is_some (found l key) ≡ true) ⊎ (key ≡ x.0))
        → (is_some (cond b (Some y.1) (found l key)) ≡ true) ⊎ (key ≡ x.0)
    by true e is more = inl refl
    by false e is more = more is

-- one more key of a table, and of what is listed
pub key_more : (cells : List (ℕ × Value)) (i : ℕ) (x : ℕ × Value) (p q : ℕ) (k : Key) → i < length cells
    → x ≡ get_or cells i x → (p ≡ q) × IsListedKey (take (i + 1) cells) k
    → ((p ≡ q) × IsListedKey (take i cells) k) ⊎ (is_key q (Key.Fd x.0) p k ≡ true)
key_more cells i x p q Key.Mode within is at = absurd at.1
key_more cells i x p q (Key.Fd f) within is at =
    elim (found_push (take i cells) x f (rw (take_more cells i x within, ← is) at at.1)) [
      | inl some ↦ inl (at.0, some)
      | inr same ↦ inr (rw (at.0, same) (own_key q (Key.Fd x.0)))
    ]

pub about_more : (list : List Difference) (i : ℕ) (d : Difference) (p q : ℕ) (k : Key) → i < length list
    → d ≡ get_or list i d → (p ≡ q) × IsKeyOf (take (i + 1) list) k
    → ((p ≡ q) × IsKeyOf (take i list) k) ⊎ (is_key q d.key p k ≡ true)
about_more list i d p q k within is at =
    let test : Difference → Bool = λ x. key_number x.key == key_number k in
    elim (or_cases (list_any test (take i list)) (test d)
    (sym (list_any_more test list i d within ∙ ap (λ x. list_any test (take i list) || test x) (sym is)) ∙ at.1)) [
      | inl some ↦ inl (at.0, some)
      | inr here ↦ inr (rw (at.0, eq-eqb q q refl) here)
    ]

-- nothing is listed at first
pub no_key : (p q : ℕ) (k : Key) → (p ≡ q) × IsListedKey [] k → ⊥
no_key p q Key.Mode is = is.1
no_key p q (Key.Fd f) is = absurd (let wrong : false ≡ true = is.1 in cc)

pub none_about : (p q : ℕ) (k : Key) → (p ≡ q) × IsKeyOf [] k → ⊥
none_about p q k is = absurd (let wrong : false ≡ true = is.1 in cc)

-- ---- all of a process with a row
others_same : (old new : Cells) (p f : ℕ) (others : DefaultCells) → ((q : ℕ) → old q (Key.Fd f) ≡ new q (Key.Fd f))
    → others_cell old p others f ≡ others_cell new p others f
others_same old new p f DefaultCells.Own same = same p
others_same old new p f DefaultCells.Unknown same = refl
others_same old new p f DefaultCells.Closed same = refl
others_same old new p f (DefaultCells.Of q passing) same = ap (passed passing) (same q)

base_same : (old new : Cells) (p f : ℕ) (base : Base) → ((q : ℕ) → old q (Key.Fd f) ≡ new q (Key.Fd f))
    → base_cell old p base f ≡ base_cell new p base f
base_same old new p f base same =
    ap (λ c. cond (is_from base.closed_from f) Closed c) (others_same old new p f base.others same)

not_listed : {X Y : Type 0} (o : Option X) (g : X → Y) (y : Y) → is_some o ≡ false → option_map_or g o y ≡ y
not_listed None g y is = refl
not_listed (Some x) g y is = absurd (let wrong : true ≡ false = is in cc)

-- no process has a difference at a key that none has
none_at : (list : List Difference) (p : ℕ) (k : Key)
    → list_any (λ (d : Difference). key_number d.key == key_number k) list ≡ false → are_at list p k ≡ false
none_at [] p k is = refl
none_at (d ∷ list) p k is =
    let both = or_parts (key_number d.key == key_number k) _ is in
    rw (both.0, none_at list p k both.1, and-false (d.pid == p)) refl

pub listed_row : (old new o n : Cells) (pid : ℕ) (row : Row) (list a b c d : List Difference) → DifferAt list old new
    → IsRowOf pid row old o → IsRowOf pid row new n → AreListed o n (λ p k. is_key pid Key.Mode p k ≡ true) a b
    → AreListed o n (λ p k. (p ≡ pid) × IsListedKey row.cells k) b c
    → AreListed o n (λ p k. (p ≡ pid) × IsKeyOf list k) c d → AreListed o n (λ p k. p ≡ pid) a d
listed_row old new o n pid row list a b c d differ was now mode listed handed = record {
  each = λ all. handed.each (listed.each (mode.each all));
  grows = λ p k none. mode.grows p k (listed.grows p k (handed.grows p k none));
  all = cover;
}
  where
    unlisted : (f : ℕ) → is_some (found row.cells f) ≡ false
        → list_any (λ (x : Difference). key_number x.key == key_number (Key.Fd f)) list ≡ false
        → o pid (Key.Fd f) ≡ n pid (Key.Fd f)
    unlisted f none nowhere =
        was (Key.Fd f) ∙ not_listed (found row.cells f) (read old) (base_cell old pid row.base f) none
        ∙ base_same old new pid f row.base (λ q. differ.others q (Key.Fd f) (none_at list q (Key.Fd f) nowhere))
        ∙ sym (not_listed (found row.cells f) (read new) (base_cell new pid row.base f) none) ∙ sym (now (Key.Fd f))

    at : (f : ℕ) (some there : Bool) → is_some (found row.cells f) ≡ some
        → list_any (λ (x : Difference). key_number x.key == key_number (Key.Fd f)) list ≡ there
        → are_at d pid (Key.Fd f) ≡ false → o pid (Key.Fd f) ≡ n pid (Key.Fd f)
    at f true there is about none = listed.all pid (Key.Fd f) (refl, is) (handed.grows pid (Key.Fd f) none)
    at f false true is about none = handed.all pid (Key.Fd f) (refl, about) none
    at f false false is about none = unlisted f is about

    own : (k : Key) → are_at d pid k ≡ false → o pid k ≡ n pid k
    own Key.Mode none =
        mode.all pid Key.Mode (own_key pid Key.Mode) (listed.grows pid Key.Mode (handed.grows pid Key.Mode none))
    own (Key.Fd f) none = at f _ _ refl refl none

    cover : (p : ℕ) (k : Key) → p ≡ pid → are_at d p k ≡ false → o p k ≡ n p k
    cover p k is none = rw is (own k (rw is at none))

-- one more process without a row, or with one
pub left_more : (effect : Effect) (list : List Difference) (i : ℕ) (d : Difference) (p : ℕ) (k : Key) → i < length list
    → d ≡ get_or list i d → (found effect.rows p ≡ None) × (are_at (take (i + 1) list) p k ≡ true)
    → ((found effect.rows p ≡ None) × (are_at (take i list) p k ≡ true)) ⊎ (is_key d.pid d.key p k ≡ true)
left_more effect list i d p k within is at =
    let test : Difference → Bool = λ x. is_key x.pid x.key p k in
    elim (or_cases (list_any test (take i list)) (test d)
    (sym (list_any_more test list i d within ∙ ap (λ x. list_any test (take i list) || test x) (sym is)) ∙ at.1)) [
      | inl some ↦ inl (at.0, some)
      | inr here ↦ inr here
    ]

pub left_same : (effect : Effect) (list : List Difference) (i : ℕ) (d : Difference) (p : ℕ) (k : Key) → i < length list
    → d ≡ get_or list i d → is_some (found effect.rows d.pid) ≡ true
    → (found effect.rows p ≡ None) × (are_at (take (i + 1) list) p k ≡ true)
    → (found effect.rows p ≡ None) × (are_at (take i list) p k ≡ true)
left_same effect list i d p k within is row at = elim (left_more effect list i d p k within is at) [
  | inl before ↦ before
  | inr here ↦ absurd (let wrong : true ≡ false = sym row
      ∙ ap is_some (ap (found effect.rows) (key_is d.pid d.key p k here).0 ∙ at.0) in cc)
]

pub listed_less : (old new : Cells) (of all : ℕ → Key → Type 0) (a b : List Difference) → AreListed old new of a b
    → ((p : ℕ) (k : Key) → all p k → of p k) → AreListed old new all a b
listed_less old new of all a b listed less = record {
  each = listed.each;
  grows = listed.grows;
  all = λ p k is none. listed.all p k (less p k is) none;
}

-- what a process without a row has, and one with this row
pub left_cells : (effect : Effect) (cells : Cells) (p : ℕ) (k : Key) → found effect.rows p ≡ None
    → changed effect cells p k ≡ cells p k
left_cells effect cells p k is = rw is refl

pub row_cells : (effect : Effect) (cells : Cells) (p : ℕ) (row : Row) → found effect.rows p ≡ Some row
    → IsRowOf p row cells (changed effect cells)
row_cells effect cells p row is k = rw is refl

-- the cells that are listed so far: of processes without a row, and of the first rows
abbrev pub IsListedSo : Effect → List Difference → ℕ → ℕ → Key → Type 0
IsListedSo effect list i p k = ((found effect.rows p ≡ None) × (are_at list p k ≡ true))
    ⊎ (is_some (found (take i effect.rows) p) ≡ true)

pub row_more : (effect : Effect) (list : List Difference) (i : ℕ) (x : ℕ × Row) (p : ℕ) (k : Key)
    → i < length effect.rows → x ≡ get_or effect.rows i x → IsListedSo effect list (i + 1) p k
    → IsListedSo effect list i p k ⊎ (p ≡ x.0)
row_more effect list i x p k within is (inl none) = inl (inl none)
row_more effect list i x p k within is (inr some) =
    elim (found_push (take i effect.rows) x p (rw (take_more effect.rows i x within, ← is) at some)) [
      | inl before ↦ inl (inr before)
      | inr here ↦ inr here
    ]

pub first_listed : (effect : Effect) (list : List Difference) (p : ℕ) (k : Key) → IsListedSo effect list 0 p k
    → (found effect.rows p ≡ None) × (are_at list p k ≡ true)
first_listed effect list p k (inl none) = none
first_listed effect list p k (inr some) = absurd (let wrong : false ≡ true = some in cc)

-- all is listed
pub all_listed : (effect : Effect) (list put : List Difference) (old new : Cells) → DifferAt list old new
    → AreListed (changed effect old) (changed effect new) (IsListedSo effect list (length effect.rows)) [] put
    → DifferAt put (changed effect old) (changed effect new)
all_listed effect list put old new differ listed = record {
  each = listed.each (All-nil (IsDifference (changed effect old) (changed effect new)));
  others = λ p k none. by p k (found effect.rows p) refl none;
}
  where
    left : (p : ℕ) (k : Key) (there : Bool) → are_at list p k ≡ there → found effect.rows p ≡ None
        → are_at put p k ≡ false → changed effect old p k ≡ changed effect new p k
    left p k true is no_row none = listed.all p k (inl (no_row, is)) none
    left p k false is no_row none = left_cells effect old p k no_row ∙ differ.others p k is
        ∙ sym (left_cells effect new p k no_row)

    by : (p : ℕ) (k : Key) (row : Option Row) → found effect.rows p ≡ row → are_at put p k ≡ false
        → changed effect old p k ≡ changed effect new p k
    by p k None is none = left p k _ refl is none
    by p k (Some row) is none = listed.all p k (inr (rw (take_all (length effect.rows) effect.rows (omega arith), is)
        refl)) none

pub none_left : (effect : Effect) (p : ℕ) (k : Key) → (found effect.rows p ≡ None) × (are_at [] p k ≡ true) → ⊥
none_left effect p k is = absurd (let wrong : false ≡ true = is.1 in cc)

-- ---- all but one key
pub none_but : (pid : ℕ) (key : Key) (p : ℕ) (k : Key) → (is_key pid key p k ≡ false) × (are_at [] p k ≡ true) → ⊥
none_but pid key p k is = absurd (let wrong : false ≡ true = is.1 in cc)

-- one more at another key, or at this one
pub other_more : (list : List Difference) (i : ℕ) (d : Difference) (pid : ℕ) (key : Key) (p : ℕ) (k : Key)
    → i < length list → d ≡ get_or list i d → (is_key pid key p k ≡ false) × (are_at (take (i + 1) list) p k ≡ true)
    → ((is_key pid key p k ≡ false) × (are_at (take i list) p k ≡ true)) ⊎ (is_key d.pid d.key p k ≡ true)
other_more list i d pid key p k within is at =
    let test : Difference → Bool = λ x. is_key x.pid x.key p k in
    elim (or_cases (list_any test (take i list)) (test d)
    (sym (list_any_more test list i d within ∙ ap (λ x. list_any test (take i list) || test x) (sym is)) ∙ at.1)) [
      | inl some ↦ inl (at.0, some)
      | inr here ↦ inr here
    ]

pub same_more : (list : List Difference) (i : ℕ) (d : Difference) (pid : ℕ) (key : Key) (p : ℕ) (k : Key)
    → i < length list → d ≡ get_or list i d → is_key d.pid d.key pid key ≡ true
    → (is_key pid key p k ≡ false) × (are_at (take (i + 1) list) p k ≡ true)
    → (is_key pid key p k ≡ false) × (are_at (take i list) p k ≡ true)
same_more list i d pid key p k within is same at = elim (other_more list i d pid key p k within is at) [
  | inl before ↦ before
  | inr here ↦
      let here_is = key_is d.pid d.key p k here in
      let same_is = key_is d.pid d.key pid key same in
      absurd (let wrong : true ≡ false = sym (own_key pid key)
      ∙ (rw (sym here_is.0 ∙ same_is.0, sym here_is.1 ∙ same_is.1) at at.0) in cc)
]

-- two states after one key was set in each
pub all_put : (list first put : List Difference) (d : Difference) (old new now_old now_new : Cells) → DifferAt list old new
    → IsSetAt d.pid d.key d.was old now_old → IsSetAt d.pid d.key d.now new now_new
    → AreListed now_old now_new (λ p k. is_key d.pid d.key p k ≡ true) [] first
    → AreListed now_old now_new (λ p k. (is_key d.pid d.key p k ≡ false) × (are_at list p k ≡ true)) first put
    → DifferAt put now_old now_new
all_put list first put d old new now_old now_new differ was now here others = record {
  each = others.each (here.each (All-nil (IsDifference now_old now_new)));
  others = λ p k none. by p k (is_key d.pid d.key p k) (are_at list p k) refl refl none;
}
  where
    by : (p : ℕ) (k : Key) (at there : Bool) → is_key d.pid d.key p k ≡ at → are_at list p k ≡ there
        → are_at put p k ≡ false → now_old p k ≡ now_new p k
    by p k true there is about none = here.all p k is (others.grows p k none)
    by p k false true is about none = others.all p k (is, about) none
    by p k false false is about none = was.others p k is ∙ differ.others p k about ∙ sym (now.others p k is)

key_turned : (p : ℕ) (k : Key) (q : ℕ) (j : Key) → is_key p k q j ≡ is_key q j p k
key_turned p k q j = rw (eqb_turned p q, eqb_turned (key_number k) (key_number j)) refl
  where
    eqb_turned : (n m : ℕ) → (n == m) ≡ (m == n)
    eqb_turned n m = grind (arith, nat_tests)

pub other_key : (p : ℕ) (k : Key) (q : ℕ) (j : Key) → is_key p k q j ≡ false → is_key q j p k ≡ false
other_key p k q j is = sym (key_turned p k q j) ∙ is

-- ---- what a line sets, where it sets one cell
pub enter_sets : (me : ℕ) (cells : Cells)
    → IsSetAt me Key.Mode (mode_cell Inside) cells (line_after LineEffect.Enter me cells)
enter_sets me cells = record { here = rw (eq-eqb me me refl) refl; others = others }
  where
    others : (p : ℕ) (k : Key) → is_key me Key.Mode p k ≡ false → line_after LineEffect.Enter me cells p k ≡ cells p k
    others p Key.Mode is = grind (arith, nat_tests, is)
    others p (Key.Fd f) is = refl

pub give_sets : (g : ℕ) (c : Cell) (me : ℕ) (cells : Cells)
    → IsSetAt me (Key.Fd g) c cells (line_after (LineEffect.Give g c) me cells)
give_sets g c me cells = record { here = rw (eq-eqb me me refl, eq-eqb g g refl) refl; others = others }
  where
    others : (p : ℕ) (k : Key) → is_key me (Key.Fd g) p k ≡ false
        → line_after (LineEffect.Give g c) me cells p k ≡ cells p k
    others p Key.Mode is = refl
    others p (Key.Fd f) is = grind (arith, nat_tests, is)

pub change_sets : (g : ℕ) (op : Op) (h me : ℕ) (cells : Cells)
    → IsSetAt me (Key.Fd g) (applied op (cells me (Key.Fd h))) cells (line_after (LineEffect.Change g op h) me cells)
change_sets g op h me cells = record { here = rw (eq-eqb me me refl, eq-eqb g g refl) refl; others = others }
  where
    others : (p : ℕ) (k : Key) → is_key me (Key.Fd g) p k ≡ false
        → line_after (LineEffect.Change g op h) me cells p k ≡ cells p k
    others p Key.Mode is = refl
    others p (Key.Fd f) is = grind (arith, nat_tests, is)

-- the state that takes a step is the one of the two
pub taken_alone : (alone : Alone) (f : Cells → Cells) (old new : Cells) (list : List Difference)
    → DifferAt list (earlier_if alone (f (of_taker alone old new)) old)
    (present_if alone (f (of_taker alone old new)) new)
    → DifferAt list (earlier_if alone (f old) old) (present_if alone (f new) new)
taken_alone Alone.Earlier f old new list is = is
taken_alone Alone.Present f old new list is = is

-- ---- nothing is listed
pub none_differ : (list : List Difference) (old new : Cells) → list ≡ [] → DifferAt list old new → old ≡ new
none_differ list old new none differ =
    fun_ext (λ p. fun_ext (λ k. differ.others p k (ap (λ (l : List Difference). are_at l p k) none)))

pub agree_self : (cells : Cells) (pre : Precondition) → AgreeIn cells cells pre
agree_self cells pre = record { asks = λ k d lt. inl refl; refusals = λ k d lt. refl }
