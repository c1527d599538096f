-- What one call of a device adds to the calls before it.
use Rattle.std.proofs.Common.{◌≡◌, ℕ, ◌+◌, List, [], ◌++◌, take, drop, refl, sym, ◌∙◌, ap, append_assoc, arith}
use Rattle.std.specs.Prelude.{Option, None, Some, Ok, zero, suc}
use Rattle.std.specs.Io.KnownBytes.{Consumes, Keeps, Appends}
use Rattle.std.proofs.lemmas.List.{append-nil, take-append-drop}
use Rattle.cap_session.specs.Devices.{SinkState, ended}

pub consumes_more : (a b c : Option (List ℕ)) (g p : List ℕ) → Consumes a b g → Consumes b c p → Consumes a c (g ++ p)
consumes_more None b c g p first second = tt
consumes_more (Some xs) None c g p first second = absurd first
consumes_more (Some xs) (Some ys) None g p first second = absurd second
consumes_more (Some xs) (Some ys) (Some zs) g p first second = first ∙ ap (λ l. g ++ l) second
    ∙ sym (append_assoc g p zs)

pub consumes_kept : (a b c : Option (List ℕ)) (g : List ℕ) → Consumes a b g → Keeps b c → Consumes a c g
consumes_kept None b c g first kept = tt
consumes_kept (Some xs) None c g first kept = absurd first
consumes_kept (Some xs) (Some ys) None g first kept = absurd kept
consumes_kept (Some xs) (Some ys) (Some zs) g first kept = first ∙ ap (λ l. g ++ l) (sym kept)

pub consumes_none : (a : Option (List ℕ)) → Consumes a a []
consumes_none None = tt
consumes_none (Some xs) = refl

pub appends_more : (a b c : Option (List ℕ)) (g p : List ℕ) → Appends a b g → Appends b c p → Appends a c (g ++ p)
appends_more None b c g p first second = tt
appends_more (Some xs) None c g p first second = absurd first
appends_more (Some xs) (Some ys) None g p first second = absurd second
appends_more (Some xs) (Some ys) (Some zs) g p first second = second ∙ ap (λ l. l ++ p) first ∙ append_assoc xs g p

pub appends_none : (a : Option (List ℕ)) → Appends a a []
appends_none None = tt
appends_none (Some xs) = sym (append-nil xs)

-- a front of the text was taken, and the rest is left
pub record Writing (old now : SinkState) (text rest : List ℕ) : Type 0 where
  pub front : List ℕ
  pub cut : text ≡ front ++ rest
  pub taken : Appends old.taken now.taken front
  pub failures : now.failures ≡ old.failures
  pub room : now.room ≡ old.room

pub writing_on : (old now next : SinkState) (text rest : List ℕ) (n : ℕ) → Writing old now text rest →
    Appends now.taken next.taken (take n rest) → next.failures ≡ now.failures + 0 → now.room ≡ next.room + 0
    → Writing old next text (drop n rest)
writing_on old now next text rest n w taken failures room = record {
  front = w.front ++ take n rest;
  cut = w.cut ∙ ap (λ l. w.front ++ l) (sym (take-append-drop n rest))
      ∙ sym (append_assoc w.front (take n rest) (drop n rest));
  taken = appends_more old.taken now.taken next.taken w.front (take n rest) w.taken taken;
  failures = let same = w.failures in omega arith;
  room = let same = w.room in omega arith;
}

-- a read of some bytes is no end
pub ended_more : (E : Type 0) (n : ℕ) → (n ≡ 0 → ⊥) → ended {E = E} (Ok n) ≡ 0
ended_more E zero more = absurd (more refl)
ended_more E (suc n) more = refl
