-- What is left of a list when descriptors are struck off it.
use Rattle.std.proofs.Common.{◌≡◌, ℕ, ◌==◌, nat_le, nat_lt, ◌||◌, not, if◌then◌else◌, Bool, true, false, List, [], ◌∷◌}
use Rattle.std.proofs.Common.{◌+◌, ◌<◌, ◌≤◌, length, take, get_or, refl, ap, sym, ◌∙◌, arith}
use Rattle.std.specs.List.{All, list_any, filter, items_where_true}
use Rattle.std.specs.List.Retain.{ReturnsInTurn}
use Rattle.std.proofs.lemmas.Fn.{filter_same}
use Rattle.std.proofs.lemmas.Bool.{cases_eq, cases_lt, ne_eqb}
use Rattle.std.proofs.lemmas.Bool.Decides.{nat_tests}
use Rattle.std.proofs.lemmas.Map.Views.{any-filter_same}
use Rattle.std.proofs.lemmas.List.Elements.{All-head, All-tail}
use Rattle.std.proofs.lemmas.List.Folds.{list_any_more}
use Rattle.std.proofs.Math.Logic.{⊎_elim}
use Rattle.cap_rights.specs.Rights.{all}
use Rattle.cap_trace.specs.Entry.{IsFd}
use Rattle.cap_trace.specs.Limits.{largest_fd}
use Rattle.cap_machine.specs.declared.cell.OnExec.TheVariants.{Unsure}
use Rattle.cap_machine.specs.declared.cell.Cell.TheVariants.{Held, Closed}
use Rattle.cap_machine.specs.Touch.{started}

-- what a test kept, part by part, so that a search can give each
pub kept : (test : ℕ → Bool) (fds few : List ℕ) {F : Type 0} (R : F → ℕ → Bool → F → Type 0) (f g : F) (bs : List Bool)
    → ReturnsInTurn R f bs fds g → length bs ≡ length fds → few ≡ items_where_true bs fds
    → ((n : ℕ) (b : Bool) (h : F) → R f n b h → (b ≡ test n) × (h ≡ f)) → few ≡ filter test fds
kept test fds few R f g bs turns long is says = filter_same R test f says fds few (bs, g, long, turns, is)

-- without one descriptor
pub any_without : (fds : List ℕ) (fd f : ℕ)
    → list_any (λ g. f == g) (filter (λ g. not (g == fd)) fds) ≡ (if f == fd then false else list_any (λ g. f == g) fds)
any_without fds fd f =
    ⊎_elim
    (λ e.
    let yes : (f == fd) ≡ true = grind (arith, nat_tests, e) in
    any-filter_same (λ g. f == g) (λ g. not (g == fd)) false (λ g same. grind (arith, nat_tests, same, e)) fds
    ∙ ap (λ b. if b then false else list_any (λ g. f == g) fds) (sym yes))
    (λ ne.
    let no : (f == fd) ≡ false = grind (arith, nat_tests, ne) in
    any-filter_same (λ g. f == g) (λ g. not (g == fd)) true (λ g same. grind (arith, nat_tests, same, ne)) fds
    ∙ ap (λ b. if b then false else list_any (λ g. f == g) fds) (sym no))
    (cases_eq f fd)

-- without those from one on
pub any_below : (fds : List ℕ) (fd f : ℕ) → list_any (λ g. f == g) (filter (λ g. nat_lt g fd) fds)
    ≡ (if nat_le fd f then false else list_any (λ g. f == g) fds)
any_below fds fd f =
    ⊎_elim
    (λ lt.
    let no : nat_le fd f ≡ false = grind (arith, nat_tests, lt) in
    any-filter_same (λ g. f == g) (λ g. nat_lt g fd) true (λ g same. grind (arith, nat_tests, same, lt)) fds
    ∙ ap (λ b. if b then false else list_any (λ g. f == g) fds) (sym no))
    (λ ge.
    let yes : nat_le fd f ≡ true = grind (arith, nat_tests, ge) in
    any-filter_same (λ g. f == g) (λ g. nat_lt g fd) false (λ g same. grind (arith, nat_tests, same, ge)) fds
    ∙ ap (λ b. if b then false else list_any (λ g. f == g) fds) (sym yes))
    (cases_lt f fd)

-- two lists, without the same descriptors
neither : (b s l : Bool) → ((if b then false else s) || (if b then false else l)) ≡ (if b then false else (s || l))
neither true s l = refl
neither false s l = refl

chosen : {X : Type 0} (b t : Bool) (x c : X)
    → (if (if b then false else t) then x else c) ≡ (if b then c else (if t then x else c))
chosen true t x c = refl
chosen false t x c = refl

-- what is asked of two lists before and after
pub without : {X : Type 0} (small large few more : List ℕ) (fd f : ℕ) (x c : X)
    → few ≡ filter (λ g. not (g == fd)) small → more ≡ filter (λ g. not (g == fd)) large
    → (if list_any (λ g. f == g) few || list_any (λ g. f == g) more then x else c)
    ≡ (if f == fd then c else (if list_any (λ g. f == g) small || list_any (λ g. f == g) large then x else c))
without small large few more fd f x c e h =
    ap (λ (gs : List ℕ). if list_any (λ g. f == g) gs || list_any (λ g. f == g) more then x else c) e
    ∙ ap (λ (gs : List ℕ). if list_any (λ g. f == g) (filter (λ g. not (g == fd)) small) || list_any (λ g. f == g) gs
    then x else c) h
    ∙ ap (λ (b : Bool). if b || list_any (λ g. f == g) (filter (λ g. not (g == fd)) large) then x else c)
    (any_without small fd f)
    ∙ ap (λ (b : Bool). if (if f == fd then false else list_any (λ g. f == g) small) || b then x else c)
    (any_without large fd f)
    ∙ ap (λ (b : Bool). if b then x else c)
    (neither (f == fd) (list_any (λ g. f == g) small) (list_any (λ g. f == g) large))
    ∙ chosen (f == fd) (list_any (λ g. f == g) small || list_any (λ g. f == g) large) x c

pub below : {X : Type 0} (small large few more : List ℕ) (fd f : ℕ) (x c : X) → few ≡ filter (λ g. nat_lt g fd) small
    → more ≡ filter (λ g. nat_lt g fd) large
    → (if list_any (λ g. f == g) few || list_any (λ g. f == g) more then x else c)
    ≡ (if nat_le fd f then c else (if list_any (λ g. f == g) small || list_any (λ g. f == g) large then x else c))
below small large few more fd f x c e h =
    ap (λ (gs : List ℕ). if list_any (λ g. f == g) gs || list_any (λ g. f == g) more then x else c) e
    ∙ ap (λ (gs : List ℕ). if list_any (λ g. f == g) (filter (λ g. nat_lt g fd) small) || list_any (λ g. f == g) gs
    then x else c) h
    ∙ ap (λ (b : Bool). if b || list_any (λ g. f == g) (filter (λ g. nat_lt g fd) large) then x else c)
    (any_below small fd f)
    ∙ ap (λ (b : Bool). if (if nat_le fd f then false else list_any (λ g. f == g) small) || b then x else c)
    (any_below large fd f)
    ∙ ap (λ (b : Bool). if b then x else c)
    (neither (nat_le fd f) (list_any (λ g. f == g) small) (list_any (λ g. f == g) large))
    ∙ chosen (nat_le fd f) (list_any (λ g. f == g) small || list_any (λ g. f == g) large) x c

-- one more is held
either : {X : Type 0} (a b : Bool) (x y : X)
    → (if b then x else if a then x else y) ≡ (if a || b then x else y)
either true true x y = refl
either true false x y = refl
either false true x y = refl
either false false x y = refl

pub started_more : (fds : List ℕ) (i f : ℕ) → i < length fds
    → (if f == get_or fds i 0 then Held all Unsure else started (take i fds) f) ≡ started (take (i + 1) fds) f
started_more fds i f within =
    either (list_any (λ g. f == g) (take i fds)) (f == get_or fds i 0) (Held all Unsure) Closed
    ∙ ap (λ (b : Bool). if b then Held all Unsure else Closed) (sym (list_any_more (λ g. f == g) fds i 0 within))

-- none is above the largest descriptor
none_listed : (fds : List ℕ) (f : ℕ) → All IsFd fds → largest_fd < f → list_any (λ g. f == g) fds ≡ false
none_listed [] f are above = refl
none_listed (n ∷ fds) f are above =
    let first : n ≤ largest_fd = All-head IsFd n fds are in
    ap (λ (b : Bool). b || list_any (λ g. f == g) fds) (ne_eqb f n (λ e. omega (arith, first)))
    ∙ none_listed fds f (All-tail IsFd n fds are) above

pub none_beyond : (fds : List ℕ) (f : ℕ) → All IsFd fds → nat_le f largest_fd ≡ false → started fds f ≡ Closed
none_beyond fds f are above =
    ap (λ (b : Bool). if b then Held all Unsure else Closed) (none_listed fds f are (grind (arith, nat_tests, above)))
