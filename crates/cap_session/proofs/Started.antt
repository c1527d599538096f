-- What a line of a start text does, and how far a text was taken.
use Rattle.std.proofs.Common.{◌≡◌, ℕ, ◌+◌, ◌≤◌, List, [], ◌∷◌, ◌++◌, length, take, drop, refl, sym, ◌∙◌, ap}
use Rattle.std.proofs.Common.{arith, append_assoc, true, false, subst}
use Rattle.std.specs.Prelude.{Result, Ok, Err, Some, None, OnOk, IfErr}
use Rattle.std.proofs.lemmas.List.{take-append-drop, length-drop, append-nil}
use Rattle.memchr.specs.Find.{IsFirstByte, is_byte}
use Rattle.cap_machine.specs.declared.cell.Cell.{Cell}
use Rattle.cap_session.specs.Lines.{whole_lines, last_piece, line_if_any, lines}
use Rattle.cap_session.specs.Texts.{with_line, with_lines, whole_text, refused_so_far}
use Rattle.cap_session.specs.Trace.{is_skipped}
use Rattle.cap_session.specs.Code.Feeds.{Reached}
use Rattle.cap_session.specs.Code.LineEnds.{IsCut}
use Rattle.cap_session.specs.StartWords.{words}
use Rattle.cap_session.specs.StartTexts.{Listed, none_listed, described, with_described, next_process, cells_from}
use Rattle.cap_session.specs.StartTexts.{good_as, described_by}
use Rattle.cap_session.specs.Code.StartLines.{completed, process_of, TakesNumbered}
use Rattle.cap_session.specs.declared.refused.Refusal.{Refusal}
use Rattle.cap_session.specs.declared.refused.Refused.{Refused}
use Rattle.cap_session.specs.declared.start_fields.Head.{Head}
use Rattle.cap_session.proofs.Cuts.{no_cut}
use Rattle.cap_session.proofs.Lined.{line_good, line_bad, after_good, no_line}
use Rattle.cap_session.proofs.Reach.{reached_first, reached_line, refused_line, lines_after, last_after}
use Rattle.cap_session.proofs.SoFar.{whole_too}

-- ---- a line

pub skipped_line : (listed : Listed) (line : List ℕ) → is_skipped line ≡ true → next_process listed line ≡ Ok listed
unfolding next_process
skipped_line listed line skipped = rw skipped refl

line_says : (listed : Listed) (line : List ℕ) → is_skipped line ≡ false
    → next_process listed line ≡ with_described listed (described listed.low (words line))
unfolding next_process
line_says listed line counts = rw counts refl

pub head_bad : (listed : Listed) (line : List ℕ) (low : ℕ) (field : Refused) → low ≡ listed.low
    → is_skipped line ≡ false → described low (words line) ≡ Err field →
    next_process listed line ≡ Err field
head_bad listed line low field same counts is =
    line_says listed line counts ∙ ap (λ (n : ℕ). with_described listed (described n (words line))) (sym same)
    ∙ ap (with_described listed) is

pub cells_bad : (listed : Listed) (line : List ℕ) (low : ℕ) (head : Head) (field : Refused) → low ≡ listed.low
    → is_skipped line ≡ false →
    described low (words line) ≡ completed head (cells_from 0 head.listed) → cells_from 0 head.listed ≡ Err field
    → next_process listed line ≡ Err field
cells_bad listed line low head field same counts says is =
    head_bad listed line low field same counts (says ∙ ap (completed head) is)

-- what is known after a line
abbrev pub now_listed : Listed → Head → List (ℕ × Cell) → Listed
now_listed listed head cells = record { added = listed.added ++ process_of head cells ∷ []; low = head.pid + 1 }

pub process_added : (listed : Listed) (line : List ℕ) (low : ℕ) (head : Head) (cells : List (ℕ × Cell))
    → low ≡ listed.low → is_skipped line ≡ false →
    described low (words line) ≡ completed head (cells_from 0 head.listed) → cells_from 0 head.listed ≡ Ok cells
    → next_process listed line ≡ Ok (now_listed listed head cells)
process_added listed line low head cells same counts says is =
    line_says listed line counts ∙ ap (λ (n : ℕ). with_described listed (described n (words line))) (sym same)
    ∙ ap (with_described listed) (says ∙ ap (completed head) is)

-- ---- the text, taken line by line

-- the bytes before the rest were taken: none of their lines is refused
pub record Through (holds : Listed → Type 0) (bytes : List ℕ) (number : ℕ) (rest : List ℕ) : Type 0 where
  pub front : List ℕ
  pub cut : bytes ≡ front ++ rest
  pub count : number + length rest ≤ length bytes
  pub reached : Reached next_process none_listed holds front number []

pub through_first : (holds : Listed → Type 0) (bytes : List ℕ) → holds none_listed → Through holds bytes 0 bytes
through_first holds bytes is = record {
  front = [];
  cut = refl;
  count = omega arith;
  reached = reached_first next_process none_listed holds is;
}

through_at : {T : Type 0} (holds after : Listed → Type 0) (bytes rest : List ℕ) (number at : ℕ) (done : T)
    → Through holds bytes number rest → IsFirstByte (is_byte 10) rest (Some at) →
    ((known : Listed) → holds known
    → TakesNumbered (with_line next_process known (take at rest)) after (number + 1) (Ok done))
    → Through after bytes (number + 1) (drop (at + 1) rest)
through_at holds after bytes rest number at done t found takes =
    let count = t.count in
    let within = found.0.high in
    let r = t.reached in
    let k = takes r.known r.does in
    record {
      front = t.front ++ take (at + 1) rest;
      cut = t.cut ∙ ap (λ l. t.front ++ l) (sym (take-append-drop (at + 1) rest))
          ∙ sym (append_assoc t.front (take (at + 1) rest) (drop (at + 1) rest));
      count = simp length-drop (omega arith);
      reached = reached_line next_process none_listed holds after t.front [] rest number at r found k.0 k.1 k.2;
    }

pub through_line : {T : Type 0} (holds after : Listed → Type 0) (bytes rest line left : List ℕ) (number : ℕ) (done : T)
    → Through holds bytes number rest → IsCut rest line left →
    ((known : Listed) → holds known → TakesNumbered (with_line next_process known line) after (number + 1) (Ok done))
    → Through after bytes (number + 1) left
through_line {T = T} holds after bytes rest line left number done t cut takes =
    subst (λ (l : List ℕ). Through after bytes (number + 1) l) (sym cut.leaves)
    (through_at holds after bytes rest number (length line) done t cut.first
    (subst (λ (l : List ℕ). (known : Listed) → holds known
    → TakesNumbered (with_line next_process known l) after (number + 1) (Ok done)) cut.begins takes))

pub through_bad : (T : Type 0) (holds after : Listed → Type 0) (bytes rest line left : List ℕ) (number : ℕ) (e : Refusal)
    → Through holds bytes number rest → IsCut rest line left →
    ((known : Listed) → holds known → TakesNumbered {T = T} (with_line next_process known line) after (number + 1) (Err e))
    → described_by bytes ≡ Err e
through_bad T holds after bytes rest line left number e t cut takes =
    let r = t.reached in
    let at = length line in
    let found = cut.first in
    let bad = subst (λ (l : List ℕ). (known : Listed) → holds known
    → TakesNumbered {T = T} (with_line next_process known l) after (number + 1) (Err e)) cut.begins takes r.known r.does in
    let one : record { reason = e.reason; line = number + 1 } ≡ e =
    ap (λ (n : ℕ). record { reason = e.reason; line = n }) (sym bad.1) in
    let so_far : refused_so_far next_process none_listed (t.front ++ rest) ≡ Some e =
    refused_line next_process none_listed holds t.front [] rest number at e.reason r found bad.0
    ∙ ap (λ (x : Refusal). Some x) one in
    ap described_by t.cut
    ∙ ap (good_as (λ (listed : Listed). listed.added)) (whole_too next_process none_listed (t.front ++ rest) e so_far)

-- the last piece is a line, unless it is empty
whole_end : (holds : Listed → Type 0) (bytes rest : List ℕ) (number : ℕ) → (t : Through holds bytes number rest)
    → IsFirstByte (is_byte 10) rest None →
    whole_text next_process none_listed bytes ≡ with_lines next_process t.reached.known number (line_if_any rest)
whole_end holds bytes rest number t found =
    let r = t.reached in
    let none = no_cut [] rest found in
    let whole : whole_lines [] (t.front ++ rest) ≡ whole_lines [] t.front = lines_after t.front rest [] r.begun
    ∙ ap (λ l. whole_lines [] t.front ++ l) none.whole ∙ append-nil (whole_lines [] t.front) in
    let last : last_piece [] (t.front ++ rest) ≡ rest = last_after t.front rest [] r.begun ∙ none.last in
    let all : lines (t.front ++ rest) ≡ whole_lines [] t.front ++ line_if_any rest = rw (whole, last) refl in
    let count : 0 + length (whole_lines [] t.front) ≡ number = let c = r.count in omega arith in
    ap (whole_text next_process none_listed) t.cut ∙ ap (with_lines next_process none_listed 0) all ∙ after_good
    next_process none_listed r.known 0 (whole_lines [] t.front) (line_if_any rest) r.lines
    ∙ ap (λ (n : ℕ). with_lines next_process r.known n (line_if_any rest)) count

empty_good : (listed : Listed) → with_line next_process listed [] ≡ Ok listed
empty_good listed = skipped_line listed [] refl

-- what taking the last piece answers
pub last_good : {T : Type 0} (holds after : Listed → Type 0) (bytes rest : List ℕ) (number : ℕ)
    (result : Result T Refusal) → Through holds bytes number rest → IsFirstByte (is_byte 10) rest None →
    ((known : Listed) → holds known → TakesNumbered (with_line next_process known rest) after (number + 1) result)
    → OnOk result ((known : Listed) × (whole_text next_process none_listed bytes ≡ Ok known) × after known)
last_good holds after bytes [] number (Ok x) t found takes =
    let k = takes t.reached.known t.reached.does in
    let same : ◌≡◌ {A = Result Listed Refused} (Ok t.reached.known) (Ok k.0) = sym (empty_good t.reached.known) ∙ k.1 in
    (k.0, whole_end holds bytes [] number t found ∙ no_line next_process t.reached.known number ∙ cc, k.2)
last_good holds after bytes (b ∷ rest) number (Ok x) t found takes =
    let k = takes t.reached.known t.reached.does in (
      k.0,
      whole_end holds bytes (b ∷ rest) number t found
          ∙ line_good next_process t.reached.known k.0 number (b ∷ rest) [] k.1 ∙ no_line next_process k.0 (number + 1),
      k.2,
    )
last_good holds after bytes rest number (Err e) t found takes = tt

pub last_bad : {T : Type 0} (holds after : Listed → Type 0) (bytes rest : List ℕ) (number : ℕ)
    (result : Result T Refusal) → Through holds bytes number rest → IsFirstByte (is_byte 10) rest None →
    ((known : Listed) → holds known → TakesNumbered (with_line next_process known rest) after (number + 1) result)
    → IfErr result (λ e. described_by bytes ≡ Err e)
last_bad holds after bytes rest number (Ok x) t found takes = tt
last_bad holds after bytes [] number (Err e) t found takes =
    let bad = takes t.reached.known t.reached.does in
    let no : ◌≡◌ {A = Result Listed Refused} (Ok t.reached.known) (Err e.reason) =
    sym (empty_good t.reached.known) ∙ bad.0 in
    absurd cc
last_bad holds after bytes (b ∷ rest) number (Err e) t found takes =
    let bad = takes t.reached.known t.reached.does in
    let one : record { reason = e.reason; line = number + 1 } ≡ e =
    ap (λ (n : ℕ). record { reason = e.reason; line = n }) (sym bad.1) in
    ap (good_as (λ (listed : Listed). listed.added)) (whole_end holds bytes (b ∷ rest) number t found
    ∙ line_bad next_process t.reached.known number e.reason (b ∷ rest) [] bad.0 ∙ ap (λ (x : Refusal). Err x) one)
