-- How many lines of a text are neither empty nor comments.
use Rattle.std.proofs.Common.{◌≡◌, ℕ, suc, ◌+◌, ◌≤◌, List, [], ◌∷◌, length, drop, refl, sym, ap, ◌∙◌, true, false, arith}
use Rattle.std.specs.Prelude.{None, filter, not}
use Rattle.std.proofs.lemmas.List.{length-drop}
use Rattle.memchr.specs.Find.{IsFirstByte, is_byte}
use Rattle.cap_session.specs.Lines.{whole_lines}
use Rattle.cap_session.specs.Trace.{counted_lines, is_skipped}
use Rattle.cap_session.specs.Code.LineEnds.{IsCut}
use Rattle.cap_session.proofs.Cuts.{cut_at, no_cut}

counted : List (List ℕ) → ℕ
counted lines = length (filter (λ (line : List ℕ). not (is_skipped line)) lines)

cut_lines : (text line rest : List ℕ) → IsCut text line rest → whole_lines [] text ≡ line ∷ whole_lines [] rest
cut_lines text line rest cut = (cut_at [] text (length line) cut.first).whole
    ∙ ap (λ (l : List ℕ). l ∷ whole_lines [] (drop (length line + 1) text)) (sym cut.begins)
    ∙ ap (λ (l : List ℕ). line ∷ whole_lines [] l) (sym cut.leaves)

-- a line that counts, and one that doesn't
pub one_more : (text line rest : List ℕ) → IsCut text line rest → is_skipped line ≡ false
    → counted_lines text ≡ suc (counted_lines rest)
unfolding counted
one_more text line rest cut counts = ap counted (cut_lines text line rest cut) ∙ rw counts refl

pub no_more : (text line rest : List ℕ) → IsCut text line rest → is_skipped line ≡ true
    → counted_lines text ≡ counted_lines rest
unfolding counted
no_more text line rest cut skipped = ap counted (cut_lines text line rest cut) ∙ rw skipped refl

-- where no line is left
pub none_left : (text : List ℕ) → IsFirstByte (is_byte 10) text None → counted_lines text ≡ 0
unfolding counted
none_left text none = ap counted (no_cut [] text none).whole

-- what is left is shorter
pub is_shorter : (text line rest : List ℕ) → IsCut text line rest → length rest + 1 ≤ length text
is_shorter text line rest cut =
    let high = cut.first.0.high in
    let left : length rest ≡ length (drop (length line + 1) text) = ap length cut.leaves in
    let long = length-drop (length line + 1) text in
    omega (arith, high, left, long)
