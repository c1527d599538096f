-- A script in pieces is replied to as a whole.
use Rattle.std.proofs.Common.{◌≡◌, ℕ, zero, suc, ◌<◌, List, [], ◌∷◌, ◌++◌, length, take, drop, map, refl, sym, ◌∙◌, ap}
use Rattle.std.proofs.Common.{append_assoc, arith, true, false, cond, inl, inr, subst}
use Rattle.std.specs.Prelude.{◌==◌}
use Rattle.std.proofs.lemmas.List.{length-append, length-take, take_all, take-append-le, take-take, map-append}
use Rattle.std.proofs.lemmas.List.{take-map, take_at, take-append-drop}
use Rattle.std.proofs.lemmas.Bool.{cases_lt}
use Rattle.cap_session.specs.Devices.{SinkState}
use Rattle.cap_session.specs.Lines.{whole_lines, last_piece}
use Rattle.cap_session.specs.Scripts.{Answers, Run, Replied, Broken, long_piece, script_lines, tail, due}
use Rattle.cap_session.specs.Replies.{ScriptState}
use Rattle.cap_session.specs.declared.session.Setting.{Setting}
use Rattle.cap_session.proofs.Cuts.{whole_lines-append, last_piece-append}
use Rattle.cap_session.proofs.Runs.{is_long, is_short, answers_cut}

-- a line as far as its reply looks
abbrev pub cut : List ℕ → List ℕ
cut line = take 1057 line

pub answers_uncut : (setting : Setting) (t : ScriptState) (line text : List ℕ) (u : ScriptState)
    → Answers setting t line text u → Answers setting t (take 1057 line) text u
answers_uncut setting t line text u is =
    elim (cases_lt 1056 (length line)) [
      | inl long ↦
          let past : 1056 < length (take 1057 line) = simp length-take (omega arith) in
          rw (is_long (take 1057 line) past) (rw (is_long line long) at is)
      | inr short ↦ rw (take_all 1057 line (omega arith)) is
    ]

pub run_same : (setting : Setting) (t : ScriptState) (xs ys : List (List ℕ)) (text : List ℕ) (u : ScriptState)
    → map cut xs ≡ map cut ys → Run setting t xs text u → Run setting t ys text u
run_same setting t [] [] text u same run = run
run_same setting t [] (y ∷ ys) text u same run = cc
run_same setting t (x ∷ xs) [] text u same run = cc
run_same setting t (x ∷ xs) (y ∷ ys) text u same run =
    let first : take 1057 x ≡ take 1057 y = cc in
    let others : map cut xs ≡ map cut ys = cc in
    let is = answers_cut setting t y run.0 run.1
    (subst (λ (l : List ℕ). Answers setting t l run.0 run.1) first (answers_uncut setting t x run.0 run.1 run.3)) in
    (run.0, run.1, run.2, is, run_same setting run.1 xs ys run.2 u others run.4, run.5)

take_again : (n : ℕ) (h x : List ℕ) → take n (take n h ++ x) ≡ take n (h ++ x)
take_again zero h x = refl
take_again (suc n) [] x = refl
take_again (suc n) (b ∷ h) x = ap (λ l. b ∷ l) (take_again n h x)

same_on : (h k x : List ℕ) → take 1057 h ≡ take 1057 k → take 1057 (h ++ x) ≡ take 1057 (k ++ x)
same_on h k x same = sym (take_again 1057 h x) ∙ ap (λ l. take 1057 (l ++ x)) same ∙ take_again 1057 k x

whole_same : (h k p : List ℕ) → take 1057 h ≡ take 1057 k → map cut (whole_lines h p) ≡ map cut (whole_lines k p)
unfolding whole_lines
whole_same h k [] same = refl
whole_same h k (b ∷ p) same =
    elim (b == 10) as (λ v. map cut (cond v (h ∷ whole_lines [] p) (whole_lines (h ++ b ∷ []) p))
    ≡ map cut (cond v (k ∷ whole_lines [] p) (whole_lines (k ++ b ∷ []) p))) [
      | true ↦ ap (λ l. l ∷ map cut (whole_lines [] p)) same
      | false ↦ whole_same (h ++ b ∷ []) (k ++ b ∷ []) p (same_on h k (b ∷ []) same)
    ]

pub last_same : (h k p : List ℕ) → take 1057 h ≡ take 1057 k → take 1057 (last_piece h p) ≡ take 1057 (last_piece k p)
unfolding last_piece
last_same h k [] same = same
last_same h k (b ∷ p) same =
    elim (b == 10) as (λ v. take 1057 (cond v (last_piece [] p) (last_piece (h ++ b ∷ []) p))
    ≡ take 1057 (cond v (last_piece [] p) (last_piece (k ++ b ∷ []) p))) [
      | true ↦ refl
      | false ↦ last_same (h ++ b ∷ []) (k ++ b ∷ []) p (same_on h k (b ∷ []) same)
    ]

long_same : (h k : List ℕ) → take 1057 h ≡ take 1057 k → map cut (long_piece h) ≡ map cut (long_piece k)
long_same h k same =
    let lengths = simp length-take at (ap length same) in
    elim (cases_lt 1056 (length h)) [
      | inl long ↦ rw (is_long h long, is_long k (omega arith)) (ap (λ l. l ∷ []) same)
      | inr short ↦ rw (is_short h short, is_short k (omega arith)) refl
    ]

script_same : (h k p : List ℕ) → take 1057 h ≡ take 1057 k → map cut (script_lines h p) ≡ map cut (script_lines k p)
script_same h k p same =
    map-append cut (whole_lines h p) (long_piece (last_piece h p))
    ∙ ap (λ ls. ls ++ map cut (long_piece (last_piece h p))) (whole_same h k p same)
    ∙ ap (λ ls. map cut (whole_lines k p) ++ ls) (long_same (last_piece h p) (last_piece k p) (last_same h k p same))
    ∙ sym (map-append cut (whole_lines k p) (long_piece (last_piece k p)))

-- the first line of what follows a beginning that is too long is that one
first_long : (h p : List ℕ) → 1056 < length h
    → map cut (script_lines h p) ≡ take 1057 h ∷ map cut (tail (script_lines h p))
unfolding whole_lines last_piece
first_long h [] long = rw (is_long h long) refl
first_long h (b ∷ p) long =
    let more : 1056 < length (h ++ b ∷ []) = simp length-append (omega arith) in
    elim (b == 10) as (λ v. map cut (cond v (h ∷ whole_lines [] p) (whole_lines (h ++ b ∷ []) p)
    ++ long_piece (cond v (last_piece [] p) (last_piece (h ++ b ∷ []) p)))
    ≡ take 1057 h ∷ map cut (tail (cond v (h ∷ whole_lines [] p) (whole_lines (h ++ b ∷ []) p)
    ++ long_piece (cond v (last_piece [] p) (last_piece (h ++ b ∷ []) p))))) [
      | true ↦ refl
      | false ↦ first_long (h ++ b ∷ []) p more
          ∙ ap (λ l. l ∷ map cut (tail (script_lines (h ++ b ∷ []) p))) (take-append-le 1057 h (b ∷ []) (omega arith))
    ]

due_same : (l p : List ℕ) → map cut (long_piece l ++ due (take 1057 l) p) ≡ map cut (script_lines l p)
due_same l p =
    elim (cases_lt 1056 (length l)) [
      | inl long ↦
          let past : 1056 < length (take 1057 l) = simp length-take (omega arith) in
          let again : take 1057 (take 1057 l) ≡ take 1057 l = take-take 1057 1057 l (omega arith) in
          rw (is_long l long, is_long (take 1057 l) past)
          (ap (λ x. x ∷ map cut (tail (script_lines (take 1057 l) p))) (sym again)
          ∙ sym (first_long (take 1057 l) p past) ∙ script_same (take 1057 l) l p again)
      | inr short ↦ rw (is_short l short, take_all 1057 l (omega arith), is_short l short) refl
    ]

-- the next piece goes on where the bytes before it end
pub pieces_same : (g p : List ℕ)
    → map cut (script_lines [] g ++ due (take 1057 (last_piece [] g)) p) ≡ map cut (script_lines [] (g ++ p))
pieces_same g p =
    let before : List (List ℕ) = whole_lines [] g in
    let last : List ℕ = last_piece [] g in
    ap (map cut) (append_assoc before (long_piece last) (due (take 1057 last) p))
    ∙ map-append cut before (long_piece last ++ due (take 1057 last) p)
    ∙ ap (λ ls. map cut before ++ ls) (due_same last p)
    ∙ sym (map-append cut before (script_lines last p))
    ∙ ap (map cut) (sym (append_assoc before (whole_lines last p) (long_piece (last_piece last p))))
    ∙ rw (whole_lines-append [] g p, last_piece-append [] g p) refl

pub replied_same : (setting : Setting) (t : ScriptState) (w0 w1 : SinkState) (xs ys : List (List ℕ)) (u : ScriptState)
    → map cut xs ≡ map cut ys → Replied setting t w0 w1 xs u → Replied setting t w0 w1 ys u
replied_same setting t w0 w1 xs ys u same r = record {
  text = r.text;
  run = run_same setting t xs ys r.text u same r.run;
  wrote = r.wrote;
}

pub broken_same : (setting : Setting) (t : ScriptState) (w0 w1 : SinkState) (xs ys : List (List ℕ))
    → map cut xs ≡ map cut ys → Broken setting t w0 w1 xs → Broken setting t w0 w1 ys
broken_same setting t w0 w1 xs ys same b =
    let n : ℕ = length b.first in
    let front : take n xs ≡ b.first = ap (take n) b.cut ∙ take_at b.first b.others n refl in
    let cuts : map cut b.first ≡ map cut (take n ys) = ap (map cut) (sym front) ∙ sym (take-map cut n xs)
    ∙ ap (take n) same ∙ take-map cut n ys in
    record {
      first = take n ys;
      others = drop n ys;
      cut = sym (take-append-drop n ys);
      text = b.text;
      left = b.left;
      run = run_same setting t b.first (take n ys) b.text b.left cuts b.run;
      wrote = b.wrote;
    }
