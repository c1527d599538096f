-- What a table knows, as a list, stands for the same state.
use Rattle.std.proofs.Common.{◌≡◌, ℕ, ◌-◌, ◌<◌, ◌≤◌, ◌==◌, nat_lt, nat_le, if◌then◌else◌}
use Rattle.std.proofs.Common.{Bool, true, false, List, [], ◌∷◌}
use Rattle.std.proofs.Common.{Option, Some, None, refl, ap, sym, ◌∙◌, arith, eq-eqb, zero, suc}
use Rattle.std.specs.Prelude.{slice_get}
use Rattle.std.specs.Option.{option_map_or}
use Rattle.std.proofs.lemmas.Bool.{cases_eq, cases_lt, cases_order, ne_eqb}
use Rattle.std.proofs.lemmas.Bool.Decides.{nat_tests}
use Rattle.std.proofs.Math.Logic.{⊎_elim}
use Rattle.cap_trace.specs.Limits.{largest_fd}
use Rattle.cap_machine.specs.declared.cell.Cell.{Cell}
use Rattle.cap_machine.specs.declared.cell.Cell.TheVariants.{Unknown}
use Rattle.cap_machine.specs.declared.cell.Mode.TheVariants.{Unsure}
use Rattle.cap_machine.specs.declared.cells.Cells.{Cells}
use Rattle.cap_machine.specs.declared.table.Process.{Process}
use Rattle.cap_machine.specs.declared.table.Table.{Table}
use Rattle.cap_machine.specs.Code.Cells.{cell_in_cells}
use Rattle.cap_machine.specs.State.{State, Added, listed_cell, with_all, with_listed, usual}
use Rattle.cap_machine.specs.Code.Table.{own, own_at, cell_in, place_in, state_of}
use Rattle.cap_machine.specs.State.{start_state}
use Rattle.cap_machine.specs.Code.Known.{top, cells_below, known_of, known_from, known}
use Rattle.cap_machine.proofs.Turns.{same_state}
use Rattle.cap_machine.proofs.Owners.{either_way}

not_below : (a b : ℕ) → b ≤ a → nat_lt a b ≡ false
not_below a b ge = grind (arith, nat_tests, ge)

is_below : (a b : ℕ) → a < b → nat_lt a b ≡ true
is_below a b lt = grind (arith, nat_tests, lt)

neither : {X : Type 0} (a b : Bool) (x y z : X) → a ≡ false → b ≡ false
    → (if a then x else (if b then y else z)) ≡ z
neither a b x y z e g =
    ap (λ (r : Bool). if r then x else (if b then y else z)) e ∙ ap (λ (r : Bool). if r then y else z) g

is_above : (f : ℕ) → top ≤ f → nat_le f largest_fd ≡ false
unfolding top
is_above f above = grind (arith, nat_tests, above)

cells_above : (cells : Cells) (f : ℕ) → top ≤ f → cell_in_cells cells f ≡ cells.above
unfolding cell_in_cells top
cells_above cells f above =
    neither (nat_lt f 64) (nat_le f largest_fd) _ _ _ (not_below f 64 (omega arith)) (is_above f above)

one_below : (cell : ℕ → Cell) (rest : Cell) (n f : ℕ)
    → (if nat_lt f n then cell f else (if f == n then cell n else rest)) ≡ (if nat_lt f (suc n) then cell f else rest)
one_below cell rest n f =
    ⊎_elim
    (λ e.
    ap (λ (b : Bool). if b then cell f else (if f == n then cell n else rest)) (not_below f n (omega arith))
    ∙ ap (λ (b : Bool). if b then cell n else rest) (eq-eqb f n e) ∙ ap cell (sym e)
    ∙ sym (ap (λ (b : Bool). if b then cell f else rest) (is_below f (suc n) (omega arith))))
    (λ o. ⊎_elim
    (λ lt.
    ap (λ (b : Bool). if b then cell f else (if f == n then cell n else rest)) (is_below f n lt)
    ∙ sym (ap (λ (b : Bool). if b then cell f else rest) (is_below f (suc n) (omega arith))))
    (λ gt.
    neither (nat_lt f n) (f == n) (cell f) (cell n) rest (not_below f n (omega arith))
    (ne_eqb f n (λ e. omega arith))
    ∙ sym (ap (λ (b : Bool). if b then cell f else rest) (not_below f (suc n) (omega arith))))
    o)
    (cases_order f n)

below_read : (cell : ℕ → Cell) (rest : Cell) (n f : ℕ)
    → listed_cell rest (cells_below cell n) f ≡ (if nat_lt f n then cell f else rest)
below_read cell rest zero f = sym (ap (λ (b : Bool). if b then cell f else rest) (not_below f 0 (omega arith)))
below_read cell rest (suc n) f =
    below_read cell (if f == n then cell n else rest) n f ∙ one_below cell rest n f

known_cell : (q : Process) (f : ℕ) → listed_cell (known_of q).rest (known_of q).cells f ≡ cell_in q f
known_cell q f =
    let cell : ℕ → Cell = cell_in_cells q.cells in
    below_read cell q.cells.above top f
    ∙ ⊎_elim
    (λ lt. ap (λ (b : Bool). if b then cell f else q.cells.above) (is_below f top lt))
    (λ ge. ap (λ (b : Bool). if b then cell f else q.cells.above) (not_below f top ge) ∙ sym (cells_above q.cells f ge))
    (cases_lt f top)

-- the process with a pid, among those that stand at their place, the first of these at place i
abbrev owner_from : (ℕ → ℕ) → ℕ → List Process → ℕ → Option Process
owner_from place i [] p = None
owner_from place i (q ∷ qs) p =
    if place q.pid == i then (if q.pid == p then Some q else owner_from place (suc i) qs p)
    else owner_from place (suc i) qs p

-- the first isn't the one
skipped : (place : ℕ → ℕ) (i : ℕ) (q : Process) (qs : List Process) (p : ℕ) → (q.pid ≡ p → place p ≡ i → ⊥)
    → owner_from place i (q ∷ qs) p ≡ owner_from place (suc i) qs p
skipped place i q qs p other =
    let more : Option Process = owner_from place (suc i) qs p in
    ⊎_elim
    (λ e. ap (λ (b : Bool). if b then (if q.pid == p then Some q else more) else more)
    (ne_eqb (place q.pid) i (λ at. other e (sym (ap place e) ∙ at))))
    (λ ne. ap (λ (b : Bool). if place q.pid == i then (if b then Some q else more) else more) (ne_eqb q.pid p ne)
    ∙ either_way (place q.pid == i) more)
    (cases_eq q.pid p)

-- no place after that of a pid has its process
passed : (place : ℕ → ℕ) (i : ℕ) (qs : List Process) (p : ℕ) → place p < i → owner_from place i qs p ≡ None
passed place i [] p beyond = refl
passed place i (q ∷ qs) p beyond =
    skipped place i q qs p (λ e at. omega arith) ∙ passed place (suc i) qs p (omega arith)

own_first : (q : Process) (p : ℕ) (b : Bool) (o : Option Process) → (q.pid == p) ≡ b → o ≡ None
    → (if b then Some q else o) ≡ own p (Some q)
own_first q p true o is none = sym (ap (λ (b : Bool). if b then Some q else None) is)
own_first q p false o is none = none ∙ sym (ap (λ (b : Bool). if b then Some q else None) is)

-- the one at its place
found_from : (place : ℕ → ℕ) (i : ℕ) (qs : List Process) (p : ℕ) → i ≤ place p
    → owner_from place i qs p ≡ own p (slice_get qs (place p - i))
found_from place i [] p from = refl
found_from place i (q ∷ qs) p from =
    let more : Option Process = owner_from place (suc i) qs p in
    ⊎_elim
    (λ here.
    let at : place p - i ≡ 0 = omega arith in
    let none : more ≡ None = passed place (suc i) qs p (omega arith) in
    ⊎_elim
    (λ e. ap (λ (b : Bool). if b then (if q.pid == p then Some q else more) else more)
    (eq-eqb (place q.pid) i (ap place e ∙ here))
    ∙ own_first q p (q.pid == p) more refl none)
    (λ ne. skipped place i q qs p (λ e _. ne e) ∙ none
    ∙ sym (ap (λ (b : Bool). if b then Some q else None) (ne_eqb q.pid p ne)))
    (cases_eq q.pid p)
    ∙ ap (λ (n : ℕ). own p (slice_get (q ∷ qs) n)) (sym at))
    (λ o.
    let later : i < place p = ⊎_elim (λ lt. absurd (omega arith)) (λ gt. gt) o in
    let at : place p - i ≡ suc (place p - suc i) = omega arith in
    skipped place i q qs p (λ _ here. omega arith)
    ∙ found_from place (suc i) qs p (omega arith)
    ∙ ap (λ (n : ℕ). own p (slice_get (q ∷ qs) n)) (sym at))
    (cases_order (place p) i)

-- what is read of one process after all were added, where each that is added says what is asked of its process
all_read : {R : Type 0} (read : State → R) (ask : Process → R) (p : ℕ)
    → ((s : State) (q : Process) → read (with_listed s q.pid (known_of q).mode (known_of q).rest (known_of q).cells)
    ≡ (if p == q.pid then ask q else read s)) → (place : ℕ → ℕ) (i : ℕ) (qs : List Process) (s : State)
    → read (with_all s (known_from place i qs)) ≡ option_map_or ask (owner_from place i qs p) (read s)
all_read read ask p one place i [] s = refl
all_read {R} read ask p one place i (q ∷ qs) s =
    let more : Option Process = owner_from place (suc i) qs p in
    let rest : List Added = known_from place (suc i) qs in
    let next : State = with_listed s q.pid (known_of q).mode (known_of q).rest (known_of q).cells in
    ⊎_elim
    (λ here.
    let yes : (place q.pid == i) ≡ true = eq-eqb (place q.pid) i here in
    ap (λ (b : Bool). read (with_all s (if b then known_of q ∷ rest else rest))) yes
    ∙ all_read read ask p one place (suc i) qs next
    ∙ ap (λ (r : R). option_map_or ask more r) (one s q)
    ∙ ⊎_elim
    (λ e.
    let none : more ≡ None = passed place (suc i) qs p (omega (arith, ap place e)) in
    ap (λ (o : Option Process). option_map_or ask o (if p == q.pid then ask q else read s)) none
    ∙ ap (λ (b : Bool). if b then ask q else read s) (eq-eqb p q.pid (sym e))
    ∙ ap (λ (b : Bool). option_map_or ask (if b then Some q else more) (read s)) (sym (eq-eqb q.pid p e)))
    (λ ne.
    ap (λ (b : Bool). option_map_or ask more (if b then ask q else read s)) (ne_eqb p q.pid (λ e. ne (sym e)))
    ∙ ap (λ (b : Bool). option_map_or ask (if b then Some q else more) (read s)) (sym (ne_eqb q.pid p ne)))
    (cases_eq q.pid p)
    ∙ ap (λ (b : Bool). option_map_or ask (if b then (if q.pid == p then Some q else more) else more) (read s))
    (sym yes))
    (λ other.
    let no : (place q.pid == i) ≡ false = ne_eqb (place q.pid) i other in
    ap (λ (b : Bool). read (with_all s (if b then known_of q ∷ rest else rest))) no
    ∙ all_read read ask p one place (suc i) qs s
    ∙ ap (λ (b : Bool). option_map_or ask (if b then (if q.pid == p then Some q else more) else more) (read s))
    (sym no))
    (cases_eq (place q.pid) i)

found_is : (place : ℕ → ℕ) (qs : List Process) (p : ℕ) → owner_from place 0 qs p ≡ own_at qs (place p) p
found_is place qs p =
    let at : place p - 0 ≡ place p = omega arith in
    found_from place 0 qs p (omega arith) ∙ ap (λ (n : ℕ). own p (slice_get qs n)) at

cells_known : (place : ℕ → ℕ) (qs : List Process) (p f : ℕ) → (with_all usual (known_from place 0 qs)).cell p f
    ≡ option_map_or (λ q. cell_in q f) (own_at qs (place p) p) Unknown
cells_known place qs p f =
    all_read (λ s. s.cell p f) (λ q. cell_in q f) p
    (λ s q. ap (λ (r : Cell). if p == q.pid then r else s.cell p f) (known_cell q f)) place 0 qs usual
    ∙ ap (λ (o : Option Process). option_map_or (λ q. cell_in q f) o Unknown) (found_is place qs p)

modes_known : (place : ℕ → ℕ) (qs : List Process) (p : ℕ) → (with_all usual (known_from place 0 qs)).mode p
    ≡ option_map_or (λ (q : Process). q.mode) (own_at qs (place p) p) Unsure
modes_known place qs p =
    all_read (λ s. s.mode p) (λ (q : Process). q.mode) p (λ s q. refl) place 0 qs usual
    ∙ ap (λ (o : Option Process). option_map_or (λ (q : Process). q.mode) o Unsure) (found_is place qs p)

-- what a table knows is a list that stands for the state that it keeps
pub state_known : (table : Table) → start_state (known table) ≡ state_of table
unfolding start_state known
state_known table =
    same_state (with_all usual (known table)) (state_of table)
    (cells_known (place_in table.places.items) table.processes.items)
    (modes_known (place_in table.places.items) table.processes.items)
