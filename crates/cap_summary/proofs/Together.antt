-- Of some asks one holds in every state, or none holds in some.
use Rattle.std.specs.Prelude.{Bool, List, [], false, refl, true, ℕ, ◌&&◌, ◌==◌, ◌∷◌, ◌≡◌}
use Rattle.cap_summary.proofs.{Bools.and_left, Bools.and_right, TestPassing.has_both, TestPassing.own_rights, eqb-true}
use Rattle.cap_summary.proofs.{ap, arith, eq-eqb, fun_ext, inl, inr, or-true, or_cases, or_parts, sym, ◌∙◌}
use Rattle.cap_summary.proofs.Asking.{alike_sure, chosen, each_passes, failing, failing_fails, fails_with, sure_passes}
use Rattle.cap_summary.proofs.Asking.{stands}
use Rattle.cap_summary.specs.{Keys.Cells, Keys.cells_of, declared.ask.Ask.Ask, declared.key.Key.Key, list_all, list_any}
use Rattle.cap_summary.specs.{Cell, Held, OnExec, State, has_all, join, none}
use Rattle.cap_summary.specs.Asks.{any_holds, are_sure_at, each_kind, holds, is_sure, key_number, passes}

pub same_key : (j k : Key) → key_number j ≡ key_number k → j ≡ k
same_key j k is = grind (arith, is)

-- an ask that surely passes the cell of a state holds there
sure_holds : (a : Ask) (s : State) (p : ℕ) (k : Key)
    → (((a.pid == p) && (key_number a.key == key_number k)) && is_sure a a.key (cells_of s p k)) ≡ true
    → holds (cells_of s) a ≡ true
sure_holds a s p k is =
    let about = and_left ((a.pid == p) && (key_number a.key == key_number k)) _ is in
    let pid : a.pid ≡ p = eqb-true _ _ (and_left (a.pid == p) _ about) in
    let at : a.key ≡ k = same_key a.key k (eqb-true _ _ (and_right (a.pid == p) _ about)) in
    rw (pid, at) (sure_passes a s p k (rw at at (and_right ((a.pid == p) && (key_number a.key == key_number k)) _ is)))

any_sure : (asks : List Ask) (s : State) (p : ℕ) (k : Key) → are_sure_at asks p k (cells_of s p k) ≡ true
    → any_holds (cells_of s) asks ≡ true
any_sure [] s p k is = is
any_sure (a ∷ asks) s p k is = elim (or_cases _ _ is) [
  | inl h ↦ rw (sure_holds a s p k h) refl
  | inr h ↦ rw (any_sure asks s p k h) (or-true (holds (cells_of s) a))
]

alike : (asks : List Ask) (p : ℕ) (k : Key) (r : ℕ) (flag : OnExec)
    → are_sure_at asks p k (Held r flag) ≡ are_sure_at asks p k (Held none flag)
alike asks p k r flag = ap (λ (sure : Ask → Bool). list_any sure asks)
    (fun_ext (λ a. ap (λ x. ((a.pid == p) && (key_number a.key == key_number k)) && x) (alike_sure a a.key r flag)))

-- one of some asks is about the cell of an ask and passes it, whatever it is
abbrev pub is_certain_in : List Ask → Ask → Bool
is_certain_in asks ask = list_all (are_sure_at asks ask.pid ask.key) each_kind

module _ (all : List Ask) where
  pub one_certain : (asks : List Ask) → list_any (is_certain_in all) asks ≡ true → (s : State)
      → any_holds (cells_of s) all ≡ true
  one_certain [] is s = absurd cc
  one_certain (a ∷ asks) is s = elim (or_cases _ _ is) [
    | inl h ↦ any_sure all s a.pid a.key
        (each_passes (are_sure_at all a.pid a.key) (alike all a.pid a.key) h (cells_of s a.pid a.key))
    | inr h ↦ one_certain asks h s
  ]

-- the rights of all
abbrev rights_of : List Ask → ℕ
rights_of [] = none
rights_of (a ∷ asks) = join a.rights (rights_of asks)

-- at each place a cell that fails all asks about it, if there is one
abbrev cells_chosen : List Ask → Cells
cells_chosen all p k = failing (are_sure_at all p k) each_kind

module _ (all : List Ask) (r : ℕ) where
  one_fails : (a : Ask) → ((p : ℕ) (k : Key) (c : Cell) → are_sure_at all p k c ≡ false
      → (((a.pid == p) && (key_number a.key == key_number k)) && is_sure a a.key c) ≡ false)
      → has_all r a.rights ≡ true → is_certain_in all a ≡ false → holds (cells_of (chosen r (cells_chosen all))) a ≡ false
  one_fails a one has is =
      let p = a.pid in
      let k = a.key in
      let c = cells_chosen all p k in
      let open_ : is_sure a k c ≡ false = rw (eq-eqb p p refl, eq-eqb (key_number k) (key_number k) refl) at
      (one p k c (failing_fails (are_sure_at all p k) each_kind is)) in
      ap (passes a) (stands r (cells_chosen all) p k) ∙ fails_with a r k c has open_

  none_of : (asks : List Ask)
      → ((p : ℕ) (k : Key) (c : Cell) → are_sure_at all p k c ≡ false → are_sure_at asks p k c ≡ false)
      → has_all r (rights_of asks) ≡ true → list_any (is_certain_in all) asks ≡ false
      → any_holds (cells_of (chosen r (cells_chosen all))) asks ≡ false
  none_of [] one has is = refl
  none_of (a ∷ asks) one has is =
      let both = sym (has_both r a.rights (rights_of asks)) ∙ has in
      let certain = or_parts _ _ is in
      rw (
        one_fails a (λ p k c no. (or_parts _ _ (one p k c no)).0) (and_left (has_all r a.rights) _ both) certain.0,
        none_of asks (λ p k c no. (or_parts _ _ (one p k c no)).1) (and_right (has_all r a.rights) _ both) certain.1,
      ) refl

pub none_holds : (asks : List Ask) → list_any (is_certain_in asks) asks ≡ false
    → (s : State) × (any_holds (cells_of s) asks ≡ false)
none_holds asks is =
    let r = rights_of asks in
    (chosen r (cells_chosen asks), none_of asks r asks (λ p k c no. no) (own_rights r) is)
