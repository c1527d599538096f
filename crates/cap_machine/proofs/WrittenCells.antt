-- Listed cells: one more, and what is left when some are struck off.
use Rattle.std.proofs.Common.{◌≡◌, ℕ, ◌+◌, ◌<◌, ◌==◌, nat_le, nat_lt, not, if◌then◌else◌, Bool, true, false}
use Rattle.std.proofs.Common.{List, [], ◌∷◌, ◌++◌, length, take, get_or, refl, ap, sym, ◌∙◌, arith}
use Rattle.std.specs.List.{filter}
use Rattle.std.proofs.lemmas.List.{take_more}
use Rattle.std.proofs.lemmas.Bool.{cases_eq, cases_lt}
use Rattle.std.proofs.lemmas.Bool.Decides.{nat_tests}
use Rattle.std.proofs.Math.Logic.{⊎_elim}
use Rattle.cap_machine.specs.declared.cell.Cell.{Cell}
use Rattle.cap_machine.specs.declared.cells.written_cells.WrittenCell.{WrittenCell}
use Rattle.cap_machine.specs.Code.Cells.WrittenCells.{written, after_writes}
use Rattle.cap_machine.specs.Code.Cells.Kind.{cell_of_kind}

pub after_more : (below : Cell) (cells : List WrittenCell) (one : WrittenCell) (f : ℕ)
    → after_writes below (cells ++ one ∷ []) f ≡ written one (after_writes below cells f) f
after_more below [] one f = refl
after_more below (first ∷ cells) one f = after_more (written first below f) cells one f

pub after_next : (below : Cell) (cells : List WrittenCell) (i f : ℕ) (d : WrittenCell) → i < length cells
    → after_writes below (take (i + 1) cells) f ≡ written (get_or cells i d) (after_writes below (take i cells) f) f
after_next below cells i f d within =
    ap (λ (r : List WrittenCell). after_writes below r f) (take_more cells i d within)
    ∙ after_more below (take i cells) (get_or cells i d) f

-- nothing of a descriptor that none has
pub not_there : (below : Cell) (cells : List WrittenCell) (i f : ℕ) (d : WrittenCell) → i < length cells
    → (f == (get_or cells i d).fd) ≡ false → after_writes below (take i cells) f ≡ below
    → after_writes below (take (i + 1) cells) f ≡ below
not_there below cells i f d within other rest =
    let one : WrittenCell = get_or cells i d in
    after_next below cells i f d within
    ∙ ap (λ (b : Bool). if b then cell_of_kind one.kind one.rights else after_writes below (take i cells) f) other
    ∙ rest

-- what is left by a test: none of this descriptor, or all of it
module _ (p : WrittenCell → Bool) (f : ℕ) where
  none_at : ((one : WrittenCell) → p one ≡ true → (f == one.fd) ≡ false) → (one : WrittenCell) (left : List WrittenCell)
      (below : Cell) (b : Bool) → p one ≡ b → ((c : Cell) → after_writes c left f ≡ c)
      → after_writes below (if b then one ∷ left else left) f ≡ below
  none_at other one left below true e rest =
      rest (written one below f)
      ∙ ap (λ (b : Bool). if b then cell_of_kind one.kind one.rights else below) (other one e)
  none_at other one left below false e rest = rest below

  none_left : ((one : WrittenCell) → p one ≡ true → (f == one.fd) ≡ false) → (cells : List WrittenCell) (below : Cell)
      → after_writes below (filter p cells) f ≡ below
  none_left other [] below = refl
  none_left other (one ∷ cells) below =
      none_at other one (filter p cells) below (p one) refl (λ c. none_left other cells c)

  all_at : ((one : WrittenCell) → p one ≡ false → (f == one.fd) ≡ false)
      → (one : WrittenCell) (left cells : List WrittenCell)
      (below : Cell) (b : Bool) → p one ≡ b → ((c : Cell) → after_writes c left f ≡ after_writes c cells f)
      → after_writes below (if b then one ∷ left else left) f ≡ after_writes (written one below f) cells f
  all_at other one left cells below true e rest = rest (written one below f)
  all_at other one left cells below false e rest =
      rest below ∙ ap (λ (c : Cell). after_writes c cells f)
      (sym (ap (λ (b : Bool). if b then cell_of_kind one.kind one.rights else below) (other one e)))

  all_left : ((one : WrittenCell) → p one ≡ false → (f == one.fd) ≡ false) → (cells : List WrittenCell) (below : Cell)
      → after_writes below (filter p cells) f ≡ after_writes below cells f
  all_left other [] below = refl
  all_left other (one ∷ cells) below =
      all_at other one (filter p cells) cells below (p one) refl (λ c. all_left other cells c)

-- without one descriptor
pub without : (cells left : List WrittenCell) (fd f : ℕ) (below : Cell)
    → left ≡ filter (λ one. not (one.fd == fd)) cells
    → after_writes below left f ≡ (if f == fd then below else after_writes below cells f)
without cells left fd f below e =
    ap (λ (l : List WrittenCell). after_writes below l f) e
    ∙ ⊎_elim
    (λ eq.
    let yes : (f == fd) ≡ true = grind (arith, nat_tests, eq) in
    none_left (λ one. not (one.fd == fd)) f (λ one t. grind (arith, nat_tests, t, eq)) cells below
    ∙ ap (λ (b : Bool). if b then below else after_writes below cells f) (sym yes))
    (λ ne.
    let no : (f == fd) ≡ false = grind (arith, nat_tests, ne) in
    all_left (λ one. not (one.fd == fd)) f (λ one t. grind (arith, nat_tests, t, ne)) cells below
    ∙ ap (λ (b : Bool). if b then below else after_writes below cells f) (sym no))
    (cases_eq f fd)

-- without those from one on
pub only_below : (cells left : List WrittenCell) (fd f : ℕ) (below : Cell)
    → left ≡ filter (λ one. nat_lt one.fd fd) cells
    → after_writes below left f ≡ (if nat_le fd f then below else after_writes below cells f)
only_below cells left fd f below e =
    ap (λ (l : List WrittenCell). after_writes below l f) e
    ∙ ⊎_elim
    (λ lt.
    let no : nat_le fd f ≡ false = grind (arith, nat_tests, lt) in
    all_left (λ one. nat_lt one.fd fd) f (λ one t. grind (arith, nat_tests, t, lt)) cells below
    ∙ ap (λ (b : Bool). if b then below else after_writes below cells f) (sym no))
    (λ ge.
    let yes : nat_le fd f ≡ true = grind (arith, nat_tests, ge) in
    none_left (λ one. nat_lt one.fd fd) f (λ one t. grind (arith, nat_tests, t, ge)) cells below
    ∙ ap (λ (b : Bool). if b then below else after_writes below cells f) (sym yes))
    (cases_lt f fd)

-- what was done to one more is done to it where it is over the others
chosen : (act : Cell → Cell) (b : Bool) (cell below : Cell)
    → (if b then act cell else act below) ≡ act (if b then cell else below)
chosen act true cell below = refl
chosen act false cell below = refl

pub done_next : (act : Cell → Cell) (below was : Cell) (cells : List WrittenCell) (i f : ℕ) (d : WrittenCell)
    → i < length cells
    → was ≡ act (after_writes below (take i cells) f)
    → (if f == (get_or cells i d).fd then act (cell_of_kind (get_or cells i d).kind (get_or cells i d).rights) else was)
    ≡ act (after_writes below (take (i + 1) cells) f)
done_next act below was cells i f d within e =
    let one : WrittenCell = get_or cells i d in
    ap (λ (c : Cell). if f == one.fd then act (cell_of_kind one.kind one.rights) else c) e
    ∙ chosen act (f == one.fd) (cell_of_kind one.kind one.rights) (after_writes below (take i cells) f)
    ∙ ap act (sym (after_next below cells i f d within))
