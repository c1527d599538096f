-- How far a text was worked through.
use Rattle.std.proofs.Common.{◌≡◌, ℕ, ◌+◌, ◌<◌, ◌≤◌, List, [], ◌∷◌, ◌++◌, length, take, drop, refl, sym, ◌∙◌, ap}
use Rattle.std.proofs.Common.{append_assoc, arith, true, false}
use Rattle.std.specs.Prelude.{Result, Ok, Err, Some, None, nat_lt}
use Rattle.std.proofs.lemmas.List.{length-append, append-nil}
use Rattle.memchr.specs.Find.{IsFirstByte, is_byte}
use Rattle.cap_session.specs.Lines.{whole_lines, last_piece, line_if_long, lines, lines_so_far}
use Rattle.cap_session.specs.Texts.{with_line, with_lines, whole_text, refusal_of, refused_so_far}
use Rattle.cap_session.specs.Code.Feeds.{Completes, Reached, Finishes, Ends}
use Rattle.cap_session.specs.declared.lines.StopReason.{StopReason}
use Rattle.cap_session.specs.declared.lines.StopReason.TheVariants as stops
use Rattle.cap_session.specs.declared.refused.Refused.{Refused}
use Rattle.cap_session.specs.declared.refused.Refused.TheVariants.{LongLine}
use Rattle.cap_session.proofs.Cuts.{whole_lines-append, last_piece-append, front_at, cut_at, no_cut}
use Rattle.cap_session.proofs.Lined.{long_refused, after_good, line_good, line_bad, no_line}

whole_none : whole_lines [] [] ≡ []
unfolding whole_lines
whole_none = refl

last_none : last_piece [] [] ≡ []
unfolding last_piece
last_none = refl

pub reached_first : {A : Type 0} (next : A → List ℕ → Result A Refused) (start : A) (holds : A → Type 0) → holds start
    → Reached next start holds [] 0 []
reached_first next start holds is = record {
  known = start;
  does = is;
  lines = rw whole_none (no_line next start 0);
  count = rw whole_none refl;
  begun = sym last_none;
  short = omega arith;
}

-- the lines of what was given, and what follows it
pub lines_after : (given rest held : List ℕ) → held ≡ last_piece [] given
    → whole_lines [] (given ++ rest) ≡ whole_lines [] given ++ whole_lines held rest
lines_after given rest held is = whole_lines-append [] given rest ∙ rw is refl

pub last_after : (given rest held : List ℕ) → held ≡ last_piece [] given
    → last_piece [] (given ++ rest) ≡ last_piece held rest
last_after given rest held is = last_piece-append [] given rest ∙ rw is refl

-- the line that was begun is whole, and good
pub reached_line : {A : Type 0} (next : A → List ℕ → Result A Refused) (start : A) (holds after : A → Type 0)
    (given held rest : List ℕ) (number at : ℕ) →
    (r : Reached next start holds given number held) → IsFirstByte (is_byte 10) rest (Some at) →
    (now : A) → with_line next r.known (held ++ take at rest) ≡ Ok now → after now
    → Reached next start after (given ++ take (at + 1) rest) (number + 1) []
reached_line next start holds after given held rest number at r found now is does =
    let front = front_at held rest at found in
    let all : whole_lines [] (given ++ take (at + 1) rest) ≡ whole_lines [] given ++ ((held ++ take at rest) ∷ []) =
    lines_after given (take (at + 1) rest) held r.begun ∙ ap (λ l. whole_lines [] given ++ l) front.whole in
    let before = r.count in
    record {
      known = now;
      does = does;
      lines = ap (with_lines next start 0) all ∙ after_good next start r.known 0 (whole_lines [] given)
          ((held ++ take at rest) ∷ []) r.lines
          ∙ line_good next r.known now _ (held ++ take at rest) [] is ∙ no_line next now _;
      count = rw (all, length-append) (omega arith);
      begun = sym (last_after given (take (at + 1) rest) held r.begun ∙ front.last);
      short = omega arith;
    }

-- the line that was begun is whole, and refused
pub refused_line : {A : Type 0} (next : A → List ℕ → Result A Refused) (start : A) (holds : A → Type 0)
    (given held rest : List ℕ) (number at : ℕ) (reason : Refused) →
    (r : Reached next start holds given number held) → IsFirstByte (is_byte 10) rest (Some at) →
    with_line next r.known (held ++ take at rest) ≡ Err reason
    → refused_so_far next start (given ++ rest) ≡ Some (record { reason = reason; line = number + 1 })
refused_line next start holds given held rest number at reason r found is =
    let cut = cut_at held rest at found in
    let line : List ℕ = held ++ take at rest in
    let more : List (List ℕ) = whole_lines [] (drop (at + 1) rest) in
    let long : List (List ℕ) = line_if_long (last_piece [] (given ++ rest)) in
    let all : lines_so_far (given ++ rest) ≡ whole_lines [] given ++ (line ∷ (more ++ long)) =
    ap (λ l. l ++ long) (lines_after given rest held r.begun ∙ ap (λ l. whole_lines [] given ++ l) cut.whole)
    ∙ append_assoc (whole_lines [] given) (line ∷ more) long in
    let count : 0 + length (whole_lines [] given) ≡ number = let c = r.count in omega arith in
    let bad : with_lines next start 0 (lines_so_far (given ++ rest))
    ≡ Err (record { reason = reason; line = number + 1 }) =
    ap (with_lines next start 0) all ∙ after_good next start r.known 0 (whole_lines [] given)
    (line ∷ (more ++ long)) r.lines ∙ rw count (line_bad next r.known number reason line (more ++ long) is) in
    ap refusal_of bad

-- the last piece is too long
pub long_piece : {A : Type 0} (next : A → List ℕ → Result A Refused) (start : A) (holds : A → Type 0)
    (given held rest : List ℕ) (number : ℕ) →
    (r : Reached next start holds given number held) → IsFirstByte (is_byte 10) rest None
    → 1024 < length held + length rest →
    refused_so_far next start (given ++ rest) ≡ Some (record { reason = LongLine; line = number + 1 })
long_piece next start holds given held rest number r found long =
    let cut = no_cut held rest found in
    let over : 1024 < length (held ++ rest) = simp length-append long in
    let is : nat_lt 1024 (length (held ++ rest)) ≡ true = grind arith in
    let last : last_piece [] (given ++ rest) ≡ held ++ rest = last_after given rest held r.begun ∙ cut.last in
    let piece : line_if_long (last_piece [] (given ++ rest)) ≡ (held ++ rest) ∷ [] = rw (last, is) refl in
    let all : lines_so_far (given ++ rest) ≡ whole_lines [] given ++ ((held ++ rest) ∷ []) =
    ap (λ l. l ++ line_if_long (last_piece [] (given ++ rest))) (lines_after given rest held r.begun
    ∙ ap (λ l. whole_lines [] given ++ l) cut.whole ∙ append-nil (whole_lines [] given))
    ∙ ap (λ l. whole_lines [] given ++ l) piece in
    let count : 0 + length (whole_lines [] given) ≡ number = let c = r.count in omega arith in
    let bad : with_lines next start 0 (lines_so_far (given ++ rest))
    ≡ Err (record { reason = LongLine; line = number + 1 }) =
    ap (with_lines next start 0) all ∙ after_good next start r.known 0 (whole_lines [] given)
    ((held ++ rest) ∷ []) r.lines ∙ rw count
    (line_bad next r.known number LongLine (held ++ rest) [] (long_refused next r.known (held ++ rest) over)) in
    ap refusal_of bad

-- the last piece is short enough
pub reached_piece : {A : Type 0} (next : A → List ℕ → Result A Refused) (start : A) (holds : A → Type 0)
    (given held rest : List ℕ) (number : ℕ) →
    Reached next start holds given number held → IsFirstByte (is_byte 10) rest None → length held + length rest ≤ 1024 →
    Reached next start holds (given ++ rest) number (held ++ rest)
reached_piece next start holds given held rest number r found fits =
    let cut = no_cut held rest found in
    let all : whole_lines [] (given ++ rest) ≡ whole_lines [] given = lines_after given rest held r.begun
    ∙ ap (λ l. whole_lines [] given ++ l) cut.whole ∙ append-nil (whole_lines [] given) in
    record {
      known = r.known;
      does = r.does;
      lines = rw all r.lines;
      count = rw all r.count;
      begun = sym (last_after given rest held r.begun ∙ cut.last);
      short = simp length-append fits;
    }

-- no line is refused so far
pub reached_good : {A : Type 0} (next : A → List ℕ → Result A Refused) (start : A) (holds : A → Type 0)
    (given held : List ℕ) (number : ℕ) →
    Reached next start holds given number held → refused_so_far next start given ≡ None
reached_good next start holds given held number r =
    let fits = r.short in
    let within : length (last_piece [] given) ≤ 1024 = rw (← r.begun) fits in
    let is : nat_lt 1024 (length (last_piece [] given)) ≡ false = grind arith in
    let all : lines_so_far given ≡ whole_lines [] given = rw is (append-nil (whole_lines [] given)) in
    ap refusal_of (ap (with_lines next start 0) all ∙ r.lines)

-- ---- the end

-- the end came with no line begun
pub ends_whole : {A : Type 0} (next : A → List ℕ → Result A Refused) (start : A) (holds : A → Type 0)
    (given held : List ℕ) (number : ℕ) →
    (r : Reached next start holds given number held) → held ≡ [] → whole_text next start given ≡ Ok r.known
ends_whole next start holds given held number r none =
    let last : last_piece [] given ≡ [] = sym r.begun ∙ none in
    let all : lines given ≡ whole_lines [] given = rw last (append-nil (whole_lines [] given)) in
    ap (with_lines next start 0) all ∙ r.lines

-- the line that is begun is the last
pub last_line : (given : List ℕ) (b : ℕ) (held : List ℕ) → b ∷ held ≡ last_piece [] given
    → lines given ≡ whole_lines [] given ++ ((b ∷ held) ∷ [])
last_line given b held is = rw (← is) refl

pub ends_with : {A T : Type 0} (next : A → List ℕ → Result A Refused) (start : A) (holds after : A → Type 0)
    (given held : List ℕ) (number : ℕ) (result : Result T StopReason) →
    (r : Reached next start holds given number held) → (held ≡ [] → ⊥)
    → Completes (with_line next r.known (held ++ [])) after number result → Finishes next start after given result
ends_with next start holds after given [] number result r some does = absurd (some refl)
ends_with next start holds after given (b ∷ held) number (Ok x) r some does =
    let is = append-nil (b ∷ held) in (
      does.0,
      ap (with_lines next start 0) (last_line given b held r.begun)
          ∙ after_good next start r.known 0 (whole_lines [] given) ((b ∷ held) ∷ []) r.lines
          ∙ line_good next r.known does.0 _ (b ∷ held) [] (ap (with_line next r.known) (sym is) ∙ does.1)
          ∙ no_line next does.0 _,
      does.2,
    )
ends_with next start holds after given (b ∷ held) number (Err (stops.Refused e)) r some does =
    let is = append-nil (b ∷ held) in
    let count : 0 + length (whole_lines [] given) ≡ number = let c = r.count in omega arith in
    ap (with_lines next start 0) (last_line given b held r.begun)
    ∙ after_good next start r.known 0 (whole_lines [] given) ((b ∷ held) ∷ []) r.lines
    ∙ rw count (line_bad next r.known number e.reason (b ∷ held) [] (ap (with_line next r.known) (sym is) ∙ does.0))
    ∙ ap (λ n. Err (record { reason = e.reason; line = n })) (sym does.1)
ends_with next start holds after given (b ∷ held) number (Err stops.Memory) r some does = absurd does
ends_with next start holds after given (b ∷ held) number (Err stops.ReadFault) r some does = absurd does
ends_with next start holds after given (b ∷ held) number (Err stops.WriteFault) r some does = absurd does
ends_with next start holds after given (b ∷ held) number (Err stops.TooLong) r some does = absurd does

-- a line that was refused at the end
pub finishes_badly : {A : Type 0} (T U : Type 0) (next : A → List ℕ → Result A Refused) (start : A)
    (follows holds : A → Type 0) (given : List ℕ) (stop : StopReason)
    → Finishes {T = T} next start follows given (Err stop) → Ends {T = U} next start holds given (Err stop)
finishes_badly T U next start follows holds given (stops.Refused e) is = is
finishes_badly T U next start follows holds given stops.Memory is = absurd is
finishes_badly T U next start follows holds given stops.ReadFault is = absurd is
finishes_badly T U next start follows holds given stops.WriteFault is = absurd is
finishes_badly T U next start follows holds given stops.TooLong is = absurd is
