-- What is said of what a trace makes, from the last step back.
use Rattle.std.proofs.Common.{◌≡◌, ◌↔◌, ℕ, ◌+◌, ◌-◌, ◌<◌, ◌≤◌, ◌^◌, ◌==◌, ◌&&◌, Bool, true, false, if◌then◌else◌}
use Rattle.std.proofs.Common.{List, [], ◌∷◌, ◌++◌, inl, inr}
use Rattle.std.proofs.Common.{append_assoc, append-nil, refl, sym, ap, ◌∙◌, subst, arith}
use Rattle.std.proofs.lemmas.List.{reverse-append}
use Rattle.std.proofs.lemmas.Bool.{and_parts, and_from, lt-ltb, both_ways, eqb-true}
use Rattle.std.proofs.lemmas.Bool.Decides.{nat_tests}
use Rattle.std.proofs.lemmas.Nat.{and_le_r}
use Rattle.cap_rights.specs.Rights.{all, holds, meet, named as all_named}
use Rattle.cap_rights.proofs.Members.{meet_holds, all_holds, none_holds, all_named_hold}
use Rattle.cap_machine.specs.declared.cell.OnExec.{OnExec}
use Rattle.cap_machine.specs.declared.cell.OnExec.TheVariants.{Unsure}
use Rattle.cap_machine.specs.declared.cell.Cell.{Cell}
use Rattle.cap_machine.specs.declared.cell.Cell.TheVariants.{Unknown, Closed, Held}
use Rattle.cap_machine.specs.declared.step.Step.{Step}
use Rattle.cap_limits.specs.declared.makers.MakerLimit.{MakerLimit}
use Rattle.cap_limits.specs.declared.makers.MakerRow.{MakerRow}
use Rattle.cap_limits.specs.declared.makers.MakerRow.TheVariants as rows
use Rattle.cap_machine.specs.State.{State}
use Rattle.cap_machine.specs.History.{after, ended}
use Rattle.cap_limits.specs.Live.{Live}
use Rattle.cap_limits.specs.Limits.{IsLeast, least_of}
use Rattle.cap_limits.specs.Makers.{AreRowsOf, AreMakerRows, made_fds}
use Rattle.cap_limits.specs.Code.Made.{cells_made, needed_row, maker_row, maker_rows}
use Rattle.cap_limits.specs.Code.Made.{cells_along, cells_back}
use Rattle.cap_machine.proofs.Turns.{ends_more}

-- ---- the rights of one limit

pub least_is : (later : List Step) (p f rights wanted : ℕ) (flag : OnExec)
    → ((k : ℕ) → k < 63 → (holds wanted k ≡ true) ↔ Live later p f flag k)
    → IsLeast later p f rights flag (least_of rights wanted)
least_is later p f rights wanted flag live =
    let below : least_of rights wanted ≤ 2 ^ 63 - 1 = and_le_r (meet rights wanted) all_named in
    let parts : (k : ℕ) → holds (least_of rights wanted) k ≡ ((holds rights k && holds wanted k) && holds all_named k) =
    λ k. meet_holds (meet rights wanted) all_named k
    ∙ ap (λ (b : Bool). b && holds all_named k) (meet_holds rights wanted k) in (
      omega (arith, below),
      λ k lt. (
        λ h. let both = and_parts (holds rights k && holds wanted k) (holds all_named k) (sym (parts k) ∙ h) in
            let two = and_parts (holds rights k) (holds wanted k) both.0 in
            (two.0, (live k lt).0 two.1),
        λ h. parts k ∙ and_from (holds rights k && holds wanted k) (holds all_named k)
            (and_from (holds rights k) (holds wanted k) h.0 ((live k lt).1 h.1)) (all_named_hold k ∙ lt-ltb k 63 lt),
      ),
    )

-- ---- the rows of one step

-- what is wanted of an unknown descriptor is said of it, where it is something
needed_said : (next : State) (later : List Step) (at p f : ℕ) (fds : List ℕ) (wanted : ℕ) (others : List MakerRow)
    → next.cell p f ≡ Unknown
    → ((k : ℕ) → k < 63 → (holds wanted k ≡ true) ↔ Live later p f Unsure k)
    → AreRowsOf next later at p fds others
    → AreRowsOf next later at p (f ∷ fds) (needed_row at p f wanted ++ others)
needed_said next later at p f fds wanted others is live rest = by (least_of all wanted == 0) refl
  where
    limit : MakerLimit
    limit = record { at = at; pid = p; fd = f; rights = least_of all wanted }

    least : IsLeast later p f all Unsure (least_of all wanted)
    least = least_is later p f all wanted Unsure live

    differs : (n : ℕ) → (n == 0) ≡ false → n ≡ 0 → ⊥
    differs n ne e = grind (arith, nat_tests, ne, e)

    by : (b : Bool) → (least_of all wanted == 0) ≡ b
        → AreRowsOf next later at p (f ∷ fds) ((if b then [] else rows.Unknown limit ∷ []) ++ others)
    by true none = inl (
      inr (
        is,
        λ k lt alive. both_ways _
            (ap (λ (n : ℕ). holds n k) (eqb-true (least_of all wanted) 0 none) ∙ none_holds k)
            ((least.1 k lt).1 (all_holds k ∙ lt-ltb k 64 (omega (arith, lt)), alive)),
      ),
      rest,
    )
    by false some =
        inr (rows.Unknown limit, others, refl, refl, (is, least, differs (least_of all wanted) some), rest)

row_said : (next : State) (later : List Step) (at p f : ℕ) (fds : List ℕ) (cell : Cell) (w : OnExec → ℕ)
    (others : List MakerRow)
    → next.cell p f ≡ cell
    → ((x : OnExec) (k : ℕ) → k < 63 → (holds (w x) k ≡ true) ↔ Live later p f x k)
    → AreRowsOf next later at p fds others
    → AreRowsOf next later at p (f ∷ fds) (maker_row at p f cell w ++ others)
row_said next later at p f fds Unknown w others is live rest =
    needed_said next later at p f fds (w Unsure) others is (live Unsure) rest
row_said next later at p f fds Closed w others is live rest = inl (inl is, rest)
row_said next later at p f fds (Held rights flag) w others is live rest = inr (
  rows.Held (record { at = at; pid = p; fd = f; rights = least_of rights (w flag) }),
  others,
  refl,
  refl,
  (rights, flag, is, least_is later p f rights (w flag) flag (live flag)),
  rest,
)

rows_said : (next : State) (later : List Step) (at p : ℕ) (fds : List ℕ) (w : ℕ → OnExec → ℕ)
    → ((f : ℕ) (x : OnExec) (k : ℕ) → k < 63 → (holds (w f x) k ≡ true) ↔ Live later p f x k)
    → AreRowsOf next later at p fds (maker_rows next at p fds w)
rows_said next later at p [] w live = refl
rows_said next later at p (f ∷ fds) w live =
    row_said next later at p f fds (next.cell p f) (w f) (maker_rows next at p fds w) refl (live f)
    (rows_said next later at p fds w live)

-- the rows of two descriptors after others
pub both_rows : (s : State) (at p f g : ℕ) (w : ℕ → OnExec → ℕ) (made : List MakerRow)
    → (made ++ maker_row at p f (s.cell p f) (w f)) ++ maker_row at p g (s.cell p g) (w g)
    ≡ made ++ maker_rows s at p (f ∷ g ∷ []) w
both_rows s at p f g w made =
    append_assoc made (maker_row at p f (s.cell p f) (w f)) (maker_row at p g (s.cell p g) (w g))
    ∙ ap (λ (r : List MakerRow). made ++ (maker_row at p f (s.cell p f) (w f) ++ r))
    (sym (append-nil (maker_row at p g (s.cell p g) (w g))))

-- ---- all steps

pub maker_step : (s : State) (t : List Step) (l : Step) (later : List Step) (at : ℕ) (w : ℕ → OnExec → ℕ)
    (made : List MakerRow)
    → ((f : ℕ) (x : OnExec) (k : ℕ) → k < 63 → (holds (w f x) k ≡ true) ↔ Live later l.line.pid f x k)
    → AreMakerRows (ended s (t ++ l ∷ [])) (at + 1) later made
    → AreMakerRows (ended s t) at (l ∷ later)
    (made ++ maker_rows (ended s (t ++ l ∷ [])) at l.line.pid (made_fds l.line.item) w)
maker_step s t l later at w made live before =
    let p : ℕ = l.line.pid in
    let fds : List ℕ = made_fds l.line.item in
    let there : State = ended s (t ++ l ∷ []) in
    let next : State = ended (ended s t) (l ∷ []) in
    let e : there ≡ next = ends_more s t l in
    let own : List MakerRow = maker_rows there at p fds w in
    let said : AreRowsOf next later at p fds own =
    subst (λ (u : State). AreRowsOf u later at p fds own) e (rows_said there later at p fds w live) in
    (made, own, refl, subst (λ (u : State). AreMakerRows u (at + 1) later made) e before, said)

pub cells_more : (s : State) (t : List Step) (l : Step) → cells_along s (t ++ l ∷ [])
    ≡ cells_along s t ++ cells_made (ended s (t ++ l ∷ [])) l.line.pid (made_fds l.line.item)
cells_more s t l =
    ap (cells_back s) (reverse-append t (l ∷ []))
    ∙ ap (λ (h : List Step). cells_along s t ++ cells_made (after s h) l.line.pid (made_fds l.line.item))
    (sym (reverse-append t (l ∷ [])))
