-- A refused line of a beginning is that of the whole.
use Rattle.std.proofs.Common.{◌≡◌, ℕ, ◌+◌, ◌<◌, ◌≤◌, List, [], ◌∷◌, ◌++◌, length, refl, sym, ◌∙◌, ap, append_assoc}
use Rattle.std.proofs.Common.{arith, true, false, cond, inl, inr}
use Rattle.std.specs.Prelude.{Result, Ok, Err, Option, Some, None, nat_lt, ◌==◌, ◌⊎◌}
use Rattle.std.proofs.lemmas.List.{length-append, append-nil}
use Rattle.std.proofs.lemmas.Bool.{cases_lt}
use Rattle.cap_session.specs.Lines.{whole_lines, last_piece, line_if_any, line_if_long}
use Rattle.cap_session.specs.Texts.{with_lines, whole_text, refusal_of, refused_so_far}
use Rattle.cap_session.specs.declared.refused.Refusal.{Refusal}
use Rattle.cap_session.specs.declared.refused.Refused.{Refused}
use Rattle.cap_session.specs.declared.refused.Refused.TheVariants.{LongLine}
use Rattle.cap_session.proofs.Cuts.{whole_lines-append, last_piece-append}
use Rattle.cap_session.proofs.Lined.{long_refused, after_good, after_refused, line_bad, no_line}

-- the next line is longer than 1,024 bytes
pub record LongFirst (lines : List (List ℕ)) : Type 0 where
  pub line : List ℕ
  pub more : List (List ℕ)
  pub are : lines ≡ line ∷ more
  pub long : 1024 < length line

pub is_long : (piece : List ℕ) → 1024 < length piece → line_if_long piece ≡ piece ∷ []
is_long piece long =
    let is : nat_lt 1024 (length piece) ≡ true = grind arith in
    rw is refl

is_short : (piece : List ℕ) → length piece ≤ 1024 → line_if_long piece ≡ []
is_short piece short =
    let is : nat_lt 1024 (length piece) ≡ false = grind arith in
    rw is refl

pub any_long : (piece : List ℕ) → 1024 < length piece → line_if_any piece ≡ piece ∷ []
any_long [] long = absurd (omega arith)
any_long (b ∷ piece) long = refl

-- whatever follows a beginning that is too long, where a last piece that is too long is a line
long_first : (last : List ℕ → List (List ℕ)) → ((piece : List ℕ) → 1024 < length piece → last piece ≡ piece ∷ [])
    → (held rest : List ℕ) → 1024 < length held →
    LongFirst (whole_lines held rest ++ last (last_piece held rest))
unfolding whole_lines last_piece
long_first last is held [] long = record { line = held; more = []; are = is held long; long = long }
long_first last is held (b ∷ rest) long =
    let over : 1024 < length (held ++ b ∷ []) = simp length-append (omega arith) in
    let after = long_first last is (held ++ b ∷ []) rest over in
    elim (b == 10) as (λ v. LongFirst (cond v (held ∷ whole_lines [] rest) (whole_lines (held ++ b ∷ []) rest)
    ++ last (cond v (last_piece [] rest) (last_piece (held ++ b ∷ []) rest)))) [
      | true ↦ record { line = held; more = whole_lines [] rest ++ last (last_piece [] rest); are = refl; long = long }
      | false ↦ after
    ]

-- why a beginning is refused: one of its lines with LF is, or what follows them is too long
pub record LongAfter {A : Type 0} (next : A → List ℕ → Result A Refused) (start : A) (begin : List ℕ)
    (e : Refusal) : Type 0 where
  pub known : A
  pub good : with_lines next start 0 (whole_lines [] begin) ≡ Ok known
  pub long : 1024 < length (last_piece [] begin)
  pub says : e ≡ (record { reason = LongLine; line = 0 + length (whole_lines [] begin) + 1 })

same_refusal : {A : Type 0} (r : Result A Refusal) (e' e : Refusal) → r ≡ Err e' → refusal_of r ≡ Some e → e' ≡ e
same_refusal r e' e is says =
    let both = sym (ap refusal_of is) ∙ says in
    cc

no_refusal : {A : Type 0} (r : Result A Refusal) (known : A) (e : Refusal) → r ≡ Ok known → refusal_of r ≡ Some e → ⊥
no_refusal r known e is says =
    let both = sym (ap refusal_of is) ∙ says in
    cc

why_at : {A : Type 0} (next : A → List ℕ → Result A Refused) (start : A) (begin : List ℕ) (e : Refusal)
    (r : Result A Refusal) → with_lines next start 0 (whole_lines [] begin) ≡ r →
    refused_so_far next start begin ≡ Some e
    → (with_lines next start 0 (whole_lines [] begin) ≡ Err e) ⊎ LongAfter next start begin e
why_at next start begin e (Err e') is says =
    let all = after_refused next start e' 0 (whole_lines [] begin) (line_if_long (last_piece [] begin)) is in
    inl (is ∙ ap (λ x. Err x) (same_refusal _ e' e all says))
why_at next start begin e (Ok known) is says =
    let all = after_good next start known 0 (whole_lines [] begin) (line_if_long (last_piece [] begin)) is in
    elim (cases_lt 1024 (length (last_piece [] begin))) [
      | inl long ↦
          let bad =
          all ∙ ap (with_lines next known (0 + length (whole_lines [] begin))) (is_long (last_piece [] begin) long)
          ∙ line_bad next known _ LongLine
          (last_piece [] begin) [] (long_refused next known (last_piece [] begin) long) in
          inr (record { known = known; good = is; long = long; says = sym (same_refusal _ _ e bad says) })
      | inr short ↦
          let good = all ∙ ap (with_lines next known (0 + length (whole_lines [] begin)))
          (is_short (last_piece [] begin) short) ∙ no_line next known _ in
          absurd (no_refusal _ known e good says)
    ]

-- whatever follows, and whether or not the end was seen
refused_after : {A : Type 0} (next : A → List ℕ → Result A Refused) (start : A) (last : List ℕ → List (List ℕ))
    → ((piece : List ℕ) → 1024 < length piece → last piece ≡ piece ∷ []) →
    (begin rest : List ℕ) (e : Refusal) → refused_so_far next start begin ≡ Some e
    → with_lines next start 0 (whole_lines [] (begin ++ rest) ++ last (last_piece [] (begin ++ rest))) ≡ Err e
refused_after next start last is begin rest e says =
    let front : List (List ℕ) = whole_lines [] begin in
    let held : List ℕ = last_piece [] begin in
    let all : whole_lines [] (begin ++ rest) ++ last (last_piece [] (begin ++ rest))
    ≡ front ++ (whole_lines held rest ++ last (last_piece held rest)) =
    rw (whole_lines-append [] begin rest, last_piece-append [] begin rest)
    (append_assoc front (whole_lines held rest) (last (last_piece held rest))) in
    elim (why_at next start begin e (with_lines next start 0 front) refl says) [
      | inl bad ↦ ap (with_lines next start 0) all ∙ after_refused next start e 0 front
          (whole_lines held rest ++ last (last_piece held rest)) bad
      | inr long ↦
          let first = long_first last is held rest long.long in
          ap (with_lines next start 0) all ∙ after_good next start long.known 0 front
          (whole_lines held rest ++ last (last_piece held rest)) long.good
          ∙ ap (with_lines next long.known (0 + length front)) first.are
          ∙ line_bad next long.known _ LongLine first.line first.more
          (long_refused next long.known first.line first.long) ∙ ap (λ x. Err x) (sym long.says)
    ]

pub so_far_after : {A : Type 0} (next : A → List ℕ → Result A Refused) (start : A) (begin rest : List ℕ) (e : Refusal)
    → refused_so_far next start begin ≡ Some e → refused_so_far next start (begin ++ rest) ≡ Some e
so_far_after next start begin rest e says =
    ap refusal_of (refused_after next start line_if_long is_long begin rest e says)

pub whole_after : {A : Type 0} (next : A → List ℕ → Result A Refused) (start : A) (begin rest : List ℕ) (e : Refusal)
    → refused_so_far next start begin ≡ Some e → whole_text next start (begin ++ rest) ≡ Err e
whole_after next start begin rest e says = refused_after next start line_if_any any_long begin rest e says

pub whole_too : {A : Type 0} (next : A → List ℕ → Result A Refused) (start : A) (text : List ℕ) (e : Refusal)
    → refused_so_far next start text ≡ Some e → whole_text next start text ≡ Err e
whole_too next start text e says = rw append-nil at (whole_after next start text [] e says)

-- a good text has no refused line before its end
pub good_so_far : {A : Type 0} (next : A → List ℕ → Result A Refused) (start known : A) (text : List ℕ)
    → whole_text next start text ≡ Ok known → refused_so_far next start text ≡ None
good_so_far {A = A} next start known text good = go (refused_so_far next start text) refl
  where
    go : (r : Option Refusal) → refused_so_far next start text ≡ r → refused_so_far next start text ≡ None
    go None is = is
    go (Some e) is =
        let bad : Result A Refusal = Err e in
        let no : bad ≡ Ok known = sym (whole_too next start text e is) ∙ good in
        cc
