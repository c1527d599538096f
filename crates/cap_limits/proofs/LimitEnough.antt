-- Limits to the live rights say nothing, and leave a state in which nothing is missed.
use Rattle.std.proofs.Common.{◌≡◌, ℕ, ◌<◌, ◌≤◌, ◌==◌, Bool, true, false, ◌&&◌, if◌then◌else◌, List, [], ◌∷◌, ◌++◌}
use Rattle.std.proofs.Common.{length}
use Rattle.std.proofs.Common.{map, refl, sym, ap, ◌∙◌, subst, inl, inr, arith}
use Rattle.std.specs.Prelude.{Some}
use Rattle.std.specs.List.{All}
use Rattle.std.proofs.lemmas.Nat.{and_le_l}
use Rattle.std.proofs.lemmas.Bool.{and_from, and_parts, eqb-true}
use Rattle.std.proofs.lemmas.List.Elements.{All-head, All-tail}
use Rattle.cap_rights.specs.Rights.{all, holds, has_all, meet, without_full}
use Rattle.cap_machine.specs.declared.cell.Profile.{Profile}
use Rattle.cap_machine.specs.declared.cell.OnExec.{OnExec}
use Rattle.cap_machine.specs.declared.cell.OnExec.TheVariants as flags
use Rattle.cap_machine.specs.declared.cell.Cell.{Cell}
use Rattle.cap_machine.specs.declared.cell.Cell.TheVariants.{Unknown, Closed, Held}
use Rattle.cap_machine.specs.declared.cell.Mode.TheVariants.{Inside}
use Rattle.cap_machine.specs.declared.step.Step.{Step}
use Rattle.cap_machine.specs.declared.rule.LimitWord.TheVariants.{Expanded}
use Rattle.cap_machine.specs.declared.verdict.Finding.{Finding}
use Rattle.cap_machine.specs.declared.verdict.Found.{Found}
use Rattle.cap_machine.specs.State.{State}
use Rattle.cap_machine.specs.Op.{applied, limit}
use Rattle.cap_machine.specs.Touch.{kept, taken, stays, turns}
use Rattle.cap_machine.specs.History.{ended, touched, turned, step_after}
use Rattle.cap_machine.specs.Judge.{fault}
use Rattle.cap_machine.specs.Rule.{check_of}
use Rattle.cap_machine.specs.Check.{check, said}
use Rattle.cap_machine.specs.Laws.{later as moved}
use Rattle.cap_limits.specs.Live.{Live, Blocks}
use Rattle.cap_limits.specs.LimitLaws.{limit_step, enter_step, script, MayEnter, HoldsSets}
use Rattle.cap_limits.specs.Limits.{Row, IsLimit}
use Rattle.cap_limits.specs.LimitLaws.{LimitsAreEnough}
use Rattle.cap_machine.proofs.Turns.{ends_in_turn, checks_in_turn}
use Rattle.cap_limits.proofs.LimitBits.{part_itself, part_of_meet, meet_holds, has_all_from, rights_of_cell}
use Rattle.cap_limits.proofs.LimitBits.{without_full_holds, without_full_named}
use Rattle.cap_limits.proofs.LimitFindings.{silent_check, within_all}
use Rattle.cap_limits.proofs.LimitBeside.{Less, Beside, ModeBeside, Enough, enough_itself, enough_check}

-- ---- one limit

flag_of_cell : OnExec → Cell → OnExec
flag_of_cell else_flag Unknown = else_flag
flag_of_cell else_flag Closed = else_flag
flag_of_cell else_flag (Held rights flag) = flag

pub same_flag : (rights other : ℕ) (flag y : OnExec) → Held rights flag ≡ Held other y → flag ≡ y
unfolding flag_of_cell
same_flag rights other flag y e = ap (flag_of_cell flag) e

-- a cell that may hold fewer rights, and the least of them
pub record Limit (live : OnExec → ℕ → Type 0) (c e : Cell) (least : ℕ) : Type 0 where
  pub less : Less live c e
  pub held : (k : ℕ) → k < 63 → holds less.rights k ≡ true → live less.flag k → holds least k ≡ true
  pub only : (k : ℕ) → k < 63 → holds least k ≡ true → holds less.fewer k ≡ true

module _ (live : OnExec → ℕ → Type 0) (c e : Cell) (rights : ℕ) (flag : OnExec) (is : c ≡ Held rights flag)
    (set : rights ≤ all) where
  as_less : Beside live c e → Less live c e
  as_less (inl same) = record {
    rights = rights;
    fewer = rights;
    flag = flag;
    is = is;
    is_less = same ∙ is;
    set = set;
    set_less = set;
    is_part = part_itself rights;
    enough = λ k lt has alive. has;
  }
  as_less (inr less) = less

  pub as_limit : (least : ℕ)
      → ((k : ℕ) → k < 63 → (holds least k ≡ true → (holds rights k ≡ true) × live flag k)
      × ((holds rights k ≡ true) × live flag k → holds least k ≡ true))
      → Beside live c e → Limit live c e least
  as_limit least just beside =
      let less = as_less beside in
      let same : Held less.rights less.flag ≡ Held rights flag = sym less.is ∙ is in
      let rights_same : less.rights ≡ rights = ap rights_of_cell same in
      let flag_same : less.flag ≡ flag = same_flag less.rights rights less.flag flag same in
      record {
        less = less;
        held = λ k lt has alive. (just k lt).1
            (sym (ap (λ (r : ℕ). holds r k) rights_same) ∙ has, subst (λ (y : OnExec). live y k) flag_same alive);
        only = λ k lt has. (let parts = (just k lt).0 has in
            less.enough k lt (ap (λ (r : ℕ). holds r k) rights_same ∙ parts.0)
            (subst (λ (y : OnExec). live y k) (sym flag_same) parts.1));
      }

pub limit_held : (asked rights : ℕ) (flag : OnExec)
    → applied (limit asked) (Held rights flag) ≡ Held (meet rights asked) flag
limit_held asked rights flags.Set = refl
limit_held asked rights _ = refl

limited : (live : OnExec → ℕ → Type 0) (c e : Cell) (least : ℕ) → Limit live c e least
    → Less live c (applied (limit least) e)
limited live c e least h =
    let less = h.less in
    record {
      rights = less.rights;
      fewer = meet less.fewer least;
      flag = less.flag;
      is = less.is;
      is_less = ap (applied (limit least)) less.is_less ∙ limit_held least less.fewer less.flag;
      set = less.set;
      set_less = omega (arith, and_le_l less.fewer least, less.set_less);
      is_part = part_of_meet less.fewer less.rights least less.is_part;
      enough = λ k lt has alive. meet_holds less.fewer least k
          ∙ and_from (holds less.fewer k) (holds least k) (less.enough k lt has alive) (h.held k lt has alive);
    }

fault_none : (b : Bool) (x : Finding) → b ≡ true → (if b then [] else x ∷ []) ++ [] ≡ []
fault_none true x is = refl
fault_none false x is = absurd (cc)

limit_quiet : (live : OnExec → ℕ → Type 0) (c e : Cell) (f least : ℕ) → Limit live c e least
    → fault Expanded (check_of f (without_full least) (Some least)) e ++ [] ≡ []
limit_quiet live c e f least h =
    ap (λ (r : Cell). fault Expanded (check_of f (without_full least) (Some least)) r ++ []) h.less.is_less
    ∙ fault_none (has_all h.less.fewer (without_full least)) _
    (has_all_from h.less.fewer (without_full least) (without_full_named least)
    (λ k lt is. h.only k lt (sym (without_full_holds least k lt) ∙ is)))

-- ---- a limit put in

module _ (profile : Profile) (later : List Step) (s less : State) (p : ℕ) (row : Row)
    (enough : Enough later s less) (sets : HoldsSets s) (is : IsLimit s later p row) where
  pub row_limit : Limit (Live later p row.0) (s.cell p row.0) (less.cell p row.0) row.1
  row_limit = as_limit (Live later p row.0) (s.cell p row.0) (less.cell p row.0) is.0 is.1 is.2
      (sets p row.0 is.0 is.1 is.2) row.1 is.3.1 (enough.cells p row.0)

  pub limit_says_nothing : said (limit_step profile p row) less ≡ []
  limit_says_nothing =
      limit_quiet (Live later p row.0) (s.cell p row.0) (less.cell p row.0) row.0 row.1 row_limit

  pub enough_limited : Enough later s (step_after (limit_step profile p row) less)
  enough_limited = record { cells = λ q g. by q g (q == p && g == row.0) refl; modes = enough.modes }
    where
      by : (q g : ℕ) (b : Bool) → (q == p && g == row.0) ≡ b
          → Beside (Live later q g) (s.cell q g)
          (touched (if b then taken (limit row.1) p row.0 else kept) less.cell q g)
      by q g false there = enough.cells q g
      by q g true there =
          let parts = and_parts (q == p) (g == row.0) there in
          let process : p ≡ q = sym (eqb-true q p parts.0) in
          let descriptor : row.0 ≡ g = sym (eqb-true g row.0 parts.1) in
          let new = applied (limit row.1) (less.cell p row.0) in
          subst (λ (r : ℕ). Beside (Live later r g) (s.cell r g) new) process
          (subst (λ (h : ℕ). Beside (Live later p h) (s.cell p h) new) descriptor
          (inr (limited (Live later p row.0) (s.cell p row.0) (less.cell p row.0) row.1 row_limit)))

-- ---- all the limits of one place

pub ended_first : (s : State) (step : Step) (more : List Step) → ended s (step ∷ more) ≡ ended (step_after step s) more
ended_first s step more = ends_in_turn s (step ∷ []) more

-- they say nothing, and are enough
pub record AreEnough (later : List Step) (s less : State) (limits : List Step) : Type 0 where
  pub silent : check less limits ≡ []
  pub enough : Enough later s (ended less limits)

pub rows_are_enough : (profile : Profile) (later : List Step) (s : State) (p : ℕ) (rows : List Row) (less : State)
    → Enough later s less → HoldsSets s → All (IsLimit s later p) rows
    → AreEnough later s less (map (limit_step profile p) rows)
rows_are_enough profile later s p [] less enough sets are = record { silent = refl; enough = enough }
rows_are_enough profile later s p (row ∷ rows) less enough sets are =
    let is = All-head (IsLimit s later p) row rows are in
    let first = limit_step profile p row in
    let more = map (limit_step profile p) rows in
    let rest = rows_are_enough profile later s p rows (step_after first less)
    (enough_limited profile later s less p row enough sets is) sets (All-tail (IsLimit s later p) row rows are) in
    record {
      silent = silent_check less first more (limit_says_nothing profile later s less p row enough sets is) rest.silent;
      enough = subst (Enough later s) (sym (ended_first less first more)) rest.enough;
    }

-- ---- entering

enter_enough : (profile : Profile) (later : List Step) (s less : State) (p : ℕ) → Enough later s less
    → MayEnter s later p → Enough later s (step_after (enter_step profile p) less)
enter_enough profile later s less p enough may = record { cells = enough.cells; modes = λ q. by q (q == p) refl }
  where
    by : (q : ℕ) (b : Bool) → (q == p) ≡ b
        → ModeBeside (Blocks later q) (s.mode q) (turned (if b then turns Inside else stays) less.mode q)
    by q false there = enough.modes q
    by q true there =
        inr (refl, subst (λ (r : ℕ). (n : ℕ) → Blocks later r n → ⊥) (sym (eqb-true q p there)) may)

enters_enough : (profile : Profile) (later : List Step) (s less : State) (p : ℕ) (enters : Bool) → Enough later s less
    → (enters ≡ true → MayEnter s later p)
    → AreEnough later s less (if enters then enter_step profile p ∷ [] else [])
enters_enough profile later s less p false enough may = record { silent = refl; enough = enough }
enters_enough profile later s less p true enough may = record {
  silent = silent_check less (enter_step profile p) [] refl refl;
  enough = enter_enough profile later s less p enough (may refl);
}

in_turn : (later : List Step) (s less : State) (t u : List Step) → AreEnough later s less t
    → AreEnough later s (ended less t) u → AreEnough later s less (t ++ u)
in_turn later s less t u first second = record {
  silent = checks_in_turn less t u
      ∙ ap (λ (r : List Found). r ++ map (moved (length t)) (check (ended less t) u)) first.silent
      ∙ ap (map (moved (length t))) second.silent;
  enough = subst (Enough later s) (sym (ends_in_turn less t u)) second.enough;
}

pub limits_are_enough : LimitsAreEnough
limits_are_enough profile s later p rows enters sets are may =
    let limits = map (limit_step profile p) rows in
    let first = rows_are_enough profile later s p rows s (enough_itself later s) sets are in
    let second = enters_enough profile later s (ended s limits) p enters first.enough may in
    let both = in_turn later s s limits (if enters then enter_step profile p ∷ [] else []) first second in (
      both.silent,
      within_all (check (ended s (script profile p rows enters)) later) (check s later)
          (enough_check later s (ended s (script profile p rows enters)) both.enough),
    )
