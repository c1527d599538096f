-- What the loop over a piece keeps.
use Rattle.std.proofs.Common.{◌≡◌, ℕ, ◌+◌, ◌<◌, ◌≤◌, List, [], ◌++◌, length, take, drop, sym, ◌∙◌, ap, subst}
use Rattle.std.proofs.Common.{append_assoc, arith}
use Rattle.std.specs.Prelude.{Result, Ok, Err, Some, None}
use Rattle.std.proofs.lemmas.List.{take-append-drop, length-drop}
use Rattle.memchr.specs.Find.{IsFirstByte, is_byte}
use Rattle.cap_session.specs.Texts.{with_line, refused_so_far}
use Rattle.cap_session.specs.Code.Feeds.{Completes, Reached, Feeds}
use Rattle.cap_session.specs.Code.LineEnds.{IsCut}
use Rattle.cap_session.specs.declared.refused.Refused.{Refused}
use Rattle.cap_session.specs.declared.refused.Refused.TheVariants.{LongLine}
use Rattle.cap_session.specs.declared.lines.StopReason.{StopReason}
use Rattle.cap_session.specs.declared.lines.StopReason.TheVariants as stops
use Rattle.cap_session.proofs.Reach.{reached_line, refused_line, reached_piece, long_piece}

-- a front of the piece was worked through, and the rest is left
pub record Fed {A : Type 0} (next : A → List ℕ → Result A Refused) (before now : A → Type 0) (number0 : ℕ)
    (held0 piece : List ℕ) (number : ℕ) (held rest : List ℕ) : Type 0 where
  pub front : List ℕ
  pub cut : piece ≡ front ++ rest
  pub count : number + length rest ≤ number0 + length piece
  pub reached : (start : A) (given : List ℕ) → Reached next start before given number0 held0
      → Reached next start now (given ++ front) number held

-- a line was taken
fed_line : {A : Type 0} (next : A → List ℕ → Result A Refused) (before now after : A → Type 0) (number0 : ℕ)
    (held0 piece : List ℕ) (number : ℕ) (held rest : List ℕ) (at : ℕ) →
    Fed next before now number0 held0 piece number held rest → IsFirstByte (is_byte 10) rest (Some at) →
    ((known : A) → now known → (k : A) × (with_line next known (held ++ take at rest) ≡ Ok k) × after k) →
    Fed next before after number0 held0 piece (number + 1) [] (drop (at + 1) rest)
fed_line next before now after number0 held0 piece number held rest at fed found does =
    let count = fed.count in
    let within = found.0.high in
    record {
      front = fed.front ++ take (at + 1) rest;
      cut = fed.cut ∙ ap (λ l. fed.front ++ l) (sym (take-append-drop (at + 1) rest))
          ∙ sym (append_assoc fed.front (take (at + 1) rest) (drop (at + 1) rest));
      count = simp length-drop (omega arith);
      reached = λ start given r0.
          let r = fed.reached start given r0 in
          let k = does r.known r.does in
          subst (λ (g : List ℕ). Reached next start after g (number + 1) [])
          (append_assoc given fed.front (take (at + 1) rest))
          (reached_line next start now after (given ++ fed.front) held rest number at r found k.0 k.1 k.2);
    }

-- the same of a line that was cut off
pub fed_cut : {A : Type 0} (next : A → List ℕ → Result A Refused) (before now after : A → Type 0) (number0 : ℕ)
    (held0 piece : List ℕ) (number : ℕ) (held rest line left : List ℕ) →
    Fed next before now number0 held0 piece number held rest → IsCut rest line left →
    ((known : A) → now known → (k : A) × (with_line next known (held ++ line) ≡ Ok k) × after k) →
    Fed next before after number0 held0 piece (number + 1) [] left
fed_cut {A = A} next before now after number0 held0 piece number held rest line left fed cut does =
    subst (λ (r : List ℕ). Fed next before after number0 held0 piece (number + 1) [] r) (sym cut.leaves)
    (fed_line next before now after number0 held0 piece number held rest (length line) fed cut.first
    (subst (λ (l : List ℕ). (known : A) → now known → (k : A) × (with_line next known (held ++ l) ≡ Ok k) × after k)
    cut.begins does))

-- the text so far, of the part that was worked through and the rest
joins : (given front rest piece : List ℕ) → piece ≡ front ++ rest → given ++ front ++ rest ≡ given ++ piece
joins given front rest piece cut = append_assoc given front rest ∙ ap (λ l. given ++ l) (sym cut)

-- a line stopped it
fed_stopped : {A : Type 0} (T : Type 0) (next : A → List ℕ → Result A Refused) (before now after : A → Type 0)
    (number0 : ℕ)
    (held0 piece : List ℕ) (number : ℕ) (held rest : List ℕ) (at : ℕ) (stop : StopReason) (later : ℕ) (last : List ℕ) →
    Fed next before now number0 held0 piece number held rest → IsFirstByte (is_byte 10) rest (Some at) →
    ((known : A) → now known → Completes {T = T} (with_line next known (held ++ take at rest)) after number (Err stop))
    →
    (start : A) (given : List ℕ) → Reached next start before given number0 held0
    → Feeds {T = T} next start after (given ++ piece) later last (Err stop)
fed_stopped T next before now after number0 held0 piece number held rest at (stops.Refused e) later last fed found does
    start given r0 =
    let r = fed.reached start given r0 in
    let why = does r.known r.does in
    let is = refused_line next start now (given ++ fed.front) held rest number at e.reason r found why.0 in
    subst (λ (g : List ℕ). refused_so_far next start g ≡ Some e) (joins given fed.front rest piece fed.cut)
    (is ∙ ap (λ n. Some (record { reason = e.reason; line = n })) (sym why.1))
fed_stopped T next before now after number0 held0 piece number held rest at stops.Memory later last fed found does start
    given r0 = let r = fed.reached start given r0 in absurd (does r.known r.does)
fed_stopped T next before now after number0 held0 piece number held rest at stops.ReadFault later last fed found does
    start given r0 = let r = fed.reached start given r0 in absurd (does r.known r.does)
fed_stopped T next before now after number0 held0 piece number held rest at stops.WriteFault later last fed found does
    start given r0 = let r = fed.reached start given r0 in absurd (does r.known r.does)
fed_stopped T next before now after number0 held0 piece number held rest at stops.TooLong later last fed found does
    start given r0 = let r = fed.reached start given r0 in absurd (does r.known r.does)

-- the same of a line that was cut off
pub cut_stopped : {A : Type 0} (T : Type 0) (next : A → List ℕ → Result A Refused) (before now after : A → Type 0)
    (number0 : ℕ)
    (held0 piece : List ℕ) (number : ℕ) (held rest line left : List ℕ) (stop : StopReason) (later : ℕ) (last : List ℕ) →
    Fed next before now number0 held0 piece number held rest → IsCut rest line left →
    ((known : A) → now known → Completes {T = T} (with_line next known (held ++ line)) after number (Err stop))
    →
    (start : A) (given : List ℕ) → Reached next start before given number0 held0
    → Feeds {T = T} next start after (given ++ piece) later last (Err stop)
cut_stopped {A = A} T next before now after number0 held0 piece number held rest line left stop later last fed cut
    does =
    fed_stopped T next before now after number0 held0 piece number held rest (length line) stop later last fed cut.first
    (subst (λ (l : List ℕ). (known : A) → now known
    → Completes {T = T} (with_line next known (held ++ l)) after number (Err stop)) cut.begins does)

-- the last piece
pub fed_piece : {A : Type 0} (next : A → List ℕ → Result A Refused) (before now : A → Type 0) (number0 : ℕ)
    (held0 piece : List ℕ) (number : ℕ) (held rest later : List ℕ) →
    Fed next before now number0 held0 piece number held rest → IsFirstByte (is_byte 10) rest None → later ≡ held ++ rest
    → length held + length rest ≤ 1024 →
    (start : A) (given : List ℕ) → Reached next start before given number0 held0
    → Reached next start now (given ++ piece) number later
fed_piece next before now number0 held0 piece number held rest later fed found is fits start given r0 =
    let all =
    reached_piece next start now (given ++ fed.front) held rest number (fed.reached start given r0) found fits in
    rw is (subst (λ (g : List ℕ). Reached next start now g number (held ++ rest))
    (joins given fed.front rest piece fed.cut) all)

-- the last piece, where it is too long
pub fed_long : {A : Type 0} (next : A → List ℕ → Result A Refused) (before now : A → Type 0) (number0 : ℕ)
    (held0 piece : List ℕ) (number : ℕ) (held rest : List ℕ) →
    Fed next before now number0 held0 piece number held rest → IsFirstByte (is_byte 10) rest None
    → 1024 < length held + length rest →
    (start : A) (given : List ℕ) → Reached next start before given number0 held0
    → refused_so_far next start (given ++ piece) ≡ Some (record { reason = LongLine; line = number + 1 })
fed_long next before now number0 held0 piece number held rest fed found long start given r0 =
    subst (λ (g : List ℕ). refused_so_far next start g ≡ Some (record { reason = LongLine; line = number + 1 }))
    (joins given fed.front rest piece fed.cut)
    (long_piece next start now (given ++ fed.front) held rest number (fed.reached start given r0) found long)
