-- Looking in its slot finds what a name has in the whole table.
use Rattle.std.proofs.Common.{◌≡◌, ℕ, ◌<◌, ◌⊎◌, Bool, true, false, cond, List, length, Option, Some, None}
use Rattle.std.proofs.Common.{refl, sym, ap, ◌∙◌, arith, ◌&&◌}
use Rattle.std.specs.Prelude.{nat_lt, slice_index}
use Rattle.std.specs.List.{list_all, slice_get}
use Rattle.std.specs.Str.{bytes_eq}
use Rattle.std.proofs.lemmas.Slice.Eq.{bytes_eq-Decides}
use Rattle.std.proofs.lemmas.Bool.{and_parts}
use borrow.Author.Tests.{ltb-true}
use Rattle.cap_trace.specs.declared.calls.Form.{Form}
use Rattle.cap_trace.specs.Names.{row_of, form_named, all_forms}
use Rattle.cap_trace.specs.Code.Slots.{slots, slot_at, form_at, if_named}
use Rattle.cap_trace.proofs.Heads.{form_again, form_takes, find_takes}

has_name : List ℕ → Option Form → Bool
has_name name None = false
has_name name (Some f) = bytes_eq (row_of f).name name

-- each name of the table is in its slot
all_in_slots : list_all (λ f. has_name (row_of f).name (form_at (row_of f).name)) all_forms ≡ true
unfolding all_forms slots has_name
all_in_slots = refl

in_slot : (name : List ℕ) (f : Form) → form_named name ≡ Some f → has_name name (form_at name) ≡ true
in_slot name f e =
    let same = (form_takes name f e).0 in
    let k = find_takes (λ g. bytes_eq (row_of g).name name) (λ g. has_name (row_of g).name (form_at (row_of g).name))
    all_forms f all_in_slots e in
    sym (ap (λ (n : List ℕ). has_name n (form_at n)) same) ∙ k.1

if_is : (name : List ℕ) (f g : Form) (b : Bool) → bytes_eq (row_of f).name name ≡ b → cond b (Some f) None ≡ Some g
    → form_named name ≡ Some g
if_is name f g true h e = sym (ap form_named ((bytes_eq-Decides (row_of f).name name).0 h)) ∙ form_again f ∙ e
if_is name f g false h e = absurd cc

if_takes : (name : List ℕ) (o : Option Form) (g : Form) → if_named name o ≡ Some g → form_named name ≡ Some g
if_takes name None g e = absurd cc
if_takes name (Some f) g e = if_is name f g (bytes_eq (row_of f).name name) refl e

none_named : (name : List ℕ) (o : Option Form) → if_named name o ≡ None → has_name name o ≡ true → ⊥
unfolding has_name
none_named name None e h = cc
none_named name (Some f) e h = let x : cond true (Some f) None ≡ None = rw h at e in cc

no_form : (name : List ℕ) (o : Option Form) → if_named name (form_at name) ≡ None → form_named name ≡ o → None ≡ o
no_form name None e h = refl
no_form name (Some f) e h = absurd (none_named name (form_at name) e (in_slot name f h))

finds : (name : List ℕ) (o : Option Form) → if_named name (form_at name) ≡ o → o ≡ form_named name
finds name None e = no_form name (form_named name) e refl
finds name (Some g) e = sym (if_takes name (form_at name) g e)

slot_finds : (name : List ℕ) → if_named name (form_at name) ≡ form_named name
slot_finds name = finds name (if_named name (form_at name)) refl

pub named_is : (name : List ℕ) (slot : ℕ) (o : Option Form) → slot ≡ slot_at name
    → o ≡ slice_get all_forms (slice_index slots slot) → if_named name o ≡ form_named name
named_is name slot o e f =
    ap (if_named name) (f ∙ ap (λ (k : ℕ). slice_get all_forms (slice_index slots k)) e) ∙ slot_finds name

pub this_named : (name : List ℕ) (slot : ℕ) (f : Form) (b : Bool) → slot ≡ slot_at name
    → Some f ≡ slice_get all_forms (slice_index slots slot) → bytes_eq (row_of f).name name ≡ b
    → cond b (Some f) None ≡ form_named name
this_named name slot f b e h at = ap (λ (x : Bool). cond x (Some f) None) (sym at) ∙ named_is name slot (Some f) e h

-- each name of the table has 3 to 16 bytes
sizes : list_all (λ f. nat_lt 2 (length (row_of f).name) && nat_lt (length (row_of f).name) 17) all_forms ≡ true
unfolding all_forms
sizes = refl

odd_size : (name : List ℕ) (o : Option Form) → (length name < 3) ⊎ (16 < length name) → form_named name ≡ o → None ≡ o
odd_size name None odd e = refl
odd_size name (Some f) odd e =
    let k = find_takes (λ g. bytes_eq (row_of g).name name)
    (λ g. nat_lt 2 (length (row_of g).name) && nat_lt (length (row_of g).name) 17) all_forms f sizes e in
    let same = ap length (form_takes name f e).0 in
    let s = and_parts (nat_lt 2 (length (row_of f).name)) (nat_lt (length (row_of f).name) 17) k.1 in
    absurd (omega (arith, ltb-true _ _ s.0, ltb-true _ _ s.1, same, odd))

pub odd_size_none : (name : List ℕ) → (length name < 3) ⊎ (16 < length name) → None ≡ form_named name
odd_size_none name odd = odd_size name (form_named name) odd refl
