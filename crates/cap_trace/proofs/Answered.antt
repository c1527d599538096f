-- An answer that is read is spelled so, and what spells it is read.
use Rattle.std.proofs.Common.{◌≡◌, ℕ, ◌-◌, ◌^◌, ◌<◌, ◌≤◌, Bool, true, false, cond, not, eqb, List, [], ◌∷◌, ◌++◌}
use Rattle.std.proofs.Common.{length, Option, Some, None, Result, Ok, Err, refl, sym, ap, subst, ◌∙◌, arith, tests}
use Rattle.std.specs.Prelude.{codes}
use Rattle.std.specs.Str.{all_ascii_digits}
use Rattle.std.specs.Char.{is_ascii_digit}
use Rattle.std.specs.Fmt.{decimal}
use Rattle.std.proofs.lemmas.Fmt.{digits_decimal, decimal_nonempty}
use Rattle.std.proofs.lemmas.Bool.{eqb-true, and_parts}
use Rattle.std.proofs.lemmas.List.{append-nil}
use Rattle.cap_trace.specs.declared.fault.FirstFault.{FirstFault}
use Rattle.cap_trace.specs.declared.fault.FirstFault.TheVariants as faults
use Rattle.cap_trace.specs.declared.line.Answer.{Answer}
use Rattle.cap_trace.specs.declared.line.Answer.TheVariants as answers
use Rattle.cap_trace.specs.declared.calls.ResultKind.{ResultKind}
use Rattle.cap_trace.specs.declared.calls.ResultKind.TheVariants.{Count, Zero, Fd, Same, FdPair, Child, ChildAndFd, Any}
use Rattle.cap_trace.specs.Number.{num_at}
use Rattle.cap_trace.specs.Quotes.{cut_at_byte}
use Rattle.cap_trace.specs.Entry.{IsAnswer}
use Rattle.cap_trace.specs.Spelling.{answer_text}
use Rattle.cap_trace.specs.Reading.{◌>>=◌, need, positive, after_prefix, number_at, same_at, pair_at, any_at, made_at}
use Rattle.cap_trace.specs.Reading.{result_at, answer_at}
use Rattle.cap_trace.proofs.Cuts.{eqb_same, lacks, after_prefix_takes, after_prefix_again, cut_takes, cut_again}
use Rattle.cap_trace.proofs.Cuts.{cut_none}
use Rattle.cap_trace.proofs.Numerals.{own, bind_ok, need_ok, positive_ok, positive_again, num_takes, num_again}
use Rattle.cap_trace.proofs.Spelled.{ok_is, bind_made}
use Rattle.cap_trace.proofs.Quiet.{weaken}

-- an answer of this kind, so spelled
abbrev SpellsAnswer : ResultKind → List ℕ → Answer → Type 0
SpellsAnswer k t a = (t ≡ answer_text a) × IsAnswer k a

number_ok : (o : Option ℕ) (a : Answer) → number_at o ≡ Ok a → (n : ℕ) × (o ≡ Some n) × (answers.Made n ≡ a)
number_ok None a e = absurd cc
number_ok (Some n) a e = (n, refl, ok_is (answers.Made n) a e)

number_takes : (k : ResultKind) (most : ℕ) (t : List ℕ) (a : Answer)
    → ((n : ℕ) → n ≤ most → IsAnswer k (answers.Made n))
    → number_at (num_at most t) ≡ Ok a → SpellsAnswer k t a
number_takes k most t a fits e =
    let n = number_ok (num_at most t) a e in
    let p = num_takes most t n.0 n.1 in
    subst (λ (x : Answer). SpellsAnswer k t x) n.2 (p.0, fits n.0 p.1)

same_test : (g n : ℕ) (a : Answer) (b : Bool) → eqb n g ≡ b
    → ◌≡◌ {A = Result Answer FirstFault} (cond b (Ok (answers.Made n)) (Err faults.Argument)) (Ok a)
    → (n ≡ g) × (answers.Made n ≡ a)
same_test g n a true h e = (eqb-true n g h, ok_is (answers.Made n) a e)
same_test g n a false h e = absurd cc

same_ok : (g : ℕ) (o : Option ℕ) (a : Answer) → same_at g o ≡ Ok a
    → (n : ℕ) × (o ≡ Some n) × (n ≡ g) × (answers.Made n ≡ a)
same_ok g None a e = absurd cc
same_ok g (Some n) a e = let k = same_test g n a (eqb n g) refl e in (n, refl, k.0, k.1)

pair_takes : (k : ResultKind) (m o : ℕ) (t : List ℕ) (c : Option (List ℕ × List ℕ)) (a : Answer) → cut_at_byte 44 t ≡ c
    → ((x y : ℕ) → x ≤ m → y ≤ o → IsAnswer k (answers.Pair x y)) → pair_at m o c ≡ Ok a → SpellsAnswer k t a
pair_takes k m o t None a at fits e = absurd cc
pair_takes k m o t (Some c) a at fits e =
    let x = bind_ok (need faults.Answer (num_at m c.0))
    (λ x. need faults.Answer (num_at o c.1) >>= λ y. Ok (answers.Pair x y)) a e in
    let y = bind_made (need faults.Answer (num_at o c.1)) (λ y. answers.Pair x.0 y) a x.2 in
    let p = num_takes m c.0 x.0 (need_ok faults.Answer (num_at m c.0) x.0 x.1) in
    let q = num_takes o c.1 y.0 (need_ok faults.Answer (num_at o c.1) y.0 y.1) in
    subst (λ (z : Answer). SpellsAnswer k t z) y.2 (
      cut_takes 44 t c at ∙ ap (λ (d : List ℕ). d ++ (44 ∷ c.1)) p.0 ∙ ap (λ (d : List ℕ). decimal x.0 ++ (44 ∷ d)) q.0,
      fits x.0 y.0 p.1 q.1,
    )

any_takes : (t : List ℕ) (c : Option (List ℕ × List ℕ)) (a : Answer) → cut_at_byte 44 t ≡ c → any_at t c ≡ Ok a
    → SpellsAnswer Any t a
any_takes t None a at e = number_takes Any (2 ^ 64 - 1) t a (λ n h. omega (arith, h)) e
any_takes t (Some c) a at e =
    pair_takes Any (2 ^ 64 - 1) (2 ^ 64 - 1) t (Some c) a at (λ x y h g. (omega (arith, h), omega (arith, g))) e

made_takes : (k : ResultKind) (t : List ℕ) (a : Answer) → made_at k t ≡ Ok a → SpellsAnswer k t a
unfolding made_at
made_takes Count t a e = number_takes Count (2 ^ 64 - 1) t a (λ n h. omega (arith, h)) e
made_takes Zero t a e = number_takes Zero 0 t a (λ n h. omega (arith, h)) e
made_takes Fd t a e = number_takes Fd 1048575 t a (λ n h. h) e
made_takes (Same g) t a e =
    let n = same_ok g (num_at 1048575 t) a e in
    let p = num_takes 1048575 t n.0 n.1 in
    subst (λ (x : Answer). SpellsAnswer (Same g) t x) n.3 (p.0, (n.2, p.1))
made_takes FdPair t a e = pair_takes FdPair 1048575 1048575 t (cut_at_byte 44 t) a refl (λ x y h g. (h, g)) e
made_takes Child t a e = number_takes Child 99999 t a (λ n h. h) e
made_takes ChildAndFd t a e = pair_takes ChildAndFd 99999 1048575 t (cut_at_byte 44 t) a refl (λ x y h g. (h, g)) e
made_takes Any t a e = any_takes t (cut_at_byte 44 t) a refl e

result_takes : (k : ResultKind) (t : List ℕ) (o : Option (List ℕ)) (a : Answer) → after_prefix (codes "-1 errno ") t ≡ o
    → result_at k t o ≡ Ok a → SpellsAnswer k t a
result_takes k t None a at e = made_takes k t a e
result_takes k t (Some n) a at e =
    let x = bind_made (positive faults.Answer (num_at 65535 n)) (λ e. answers.Fault e) a e in
    let q = positive_ok faults.Answer (num_at 65535 n) x.0 x.1 in
    let p = num_takes 65535 n x.0 q.0 in
    subst (λ (y : Answer). SpellsAnswer k t y) x.2
    (after_prefix_takes (codes "-1 errno ") t n at ∙ ap (λ (d : List ℕ). codes "-1 errno " ++ d) p.0, (q.1, p.1))

pub answer_takes : (k : ResultKind) (tail : List ℕ) (a : Answer) → answer_at k tail ≡ Ok a
    → (tail ≡ codes " RET " ++ answer_text a) × IsAnswer k a
unfolding answer_at
answer_takes k tail a e =
    let t = bind_ok (need faults.Shape (after_prefix (codes " RET ") tail))
    (λ t. result_at k t (after_prefix (codes "-1 errno ") t)) a e in
    let r = result_takes k t.0 (after_prefix (codes "-1 errno ") t.0) a refl t.2 in (
      after_prefix_takes (codes " RET ") tail t.0 (need_ok faults.Shape (after_prefix (codes " RET ") tail) t.0 t.1)
          ∙ ap (λ (x : List ℕ). codes " RET " ++ x) r.0,
      r.1,
    )

-- ---- the other way

-- digits don't begin as an errno does, and digits with a comma and more after them don't either
no_errno : (t r : List ℕ) → 0 < length t → all_ascii_digits t ≡ true → after_prefix (codes "-1 errno ") (t ++ r) ≡ None
no_errno [] r lt h = absurd (omega arith)
no_errno (c ∷ cs) r lt h =
    let digit = (and_parts (is_ascii_digit c) (all_ascii_digits cs) h).0 in
    let apart : eqb 45 c ≡ false = grind (arith, tests) in
    rw apart refl

digit_no_comma : (c : ℕ) → is_ascii_digit c ≡ true → not (eqb c 44) ≡ true
digit_no_comma c h = grind (arith, tests)

digits_lack : (t : List ℕ) → all_ascii_digits t ≡ true → lacks 44 t ≡ true
digits_lack t h = weaken is_ascii_digit (λ c. not (eqb c 44)) digit_no_comma t h

pub answer_is : (k : ResultKind) (t : List ℕ) (o : Option (List ℕ)) → after_prefix (codes "-1 errno ") t ≡ o
    → answer_at k (codes " RET " ++ t) ≡ result_at k t o
unfolding answer_at
answer_is k t o e =
    ap (λ (x : Option (List ℕ)). need faults.Shape x >>= λ t. result_at k t (after_prefix (codes "-1 errno ") t))
    (after_prefix_again (codes " RET ") t)
    ∙ ap (λ (x : Option (List ℕ)). result_at k t x) e

fault_again : (k : ResultKind) (e : ℕ) → 0 < e → e ≤ 65535
    → answer_at k (codes " RET " ++ (codes "-1 errno " ++ decimal e)) ≡ Ok (answers.Fault e)
fault_again k e lt le =
    answer_is k (codes "-1 errno " ++ decimal e) (Some (decimal e)) (after_prefix_again (codes "-1 errno ") (decimal e))
    ∙ rw (num_again 65535 e le (omega (arith, le)), positive_again faults.Answer e lt) refl

pub decimal_no_errno : (n : ℕ) → n < 2 ^ 64 → after_prefix (codes "-1 errno ") (decimal n) ≡ None
decimal_no_errno n lt = ap (after_prefix (codes "-1 errno ")) (sym (append-nil (decimal n)))
    ∙ no_errno (decimal n) [] (decimal_nonempty n lt) (digits_decimal own n lt)

number_result : (k : ResultKind) (n : ℕ) → n < 2 ^ 64 → answer_at k (codes " RET " ++ decimal n) ≡ made_at k (decimal n)
number_result k n lt = answer_is k (decimal n) None (decimal_no_errno n lt)

pair_result : (k : ResultKind) (n m : ℕ) → n < 2 ^ 64
    → answer_at k (codes " RET " ++ (decimal n ++ (44 ∷ decimal m))) ≡ made_at k (decimal n ++ (44 ∷ decimal m))
pair_result k n m lt = answer_is k (decimal n ++ (44 ∷ decimal m)) None
    (no_errno (decimal n) (44 ∷ decimal m) (decimal_nonempty n lt) (digits_decimal own n lt))

pair_cut : (n m : ℕ) → n < 2 ^ 64 → cut_at_byte 44 (decimal n ++ (44 ∷ decimal m)) ≡ Some (decimal n, decimal m)
pair_cut n m lt = cut_again 44 (decimal n) (decimal m) (digits_lack (decimal n) (digits_decimal own n lt))

pair_again : (most other n m : ℕ) → n ≤ most → m ≤ other → n < 2 ^ 64 → m < 2 ^ 64
    → pair_at most other (cut_at_byte 44 (decimal n ++ (44 ∷ decimal m))) ≡ Ok (answers.Pair n m)
pair_again most other n m le le2 lt lt2 = rw (pair_cut n m lt, num_again most n le lt, num_again other m le2 lt2) refl

-- a number or two
pub any_number : {t : List ℕ} {n : ℕ} → t ≡ decimal n → n < 2 ^ 64 → any_at t (cut_at_byte 44 t) ≡ Ok (answers.Made n)
any_number {n = n} is lt = rw (
  is,
  cut_none 44 (decimal n) (digits_lack (decimal n) (digits_decimal own n lt)),
  num_again (2 ^ 64 - 1) n (omega (arith, lt)) lt,
) refl

pub any_pair : (t : List ℕ) (c : Option (List ℕ × List ℕ)) → None ≡ num_at (2 ^ 64 - 1) t
    → pair_at (2 ^ 64 - 1) (2 ^ 64 - 1) c ≡ any_at t c
any_pair t None e = rw (← e) refl
any_pair t (Some c) e = refl

pub answer_again : (k : ResultKind) (a : Answer) → IsAnswer k a → answer_at k (codes " RET " ++ answer_text a) ≡ Ok a
unfolding made_at
answer_again Count (answers.Made n) h = number_result Count n h
    ∙ rw (num_again (2 ^ 64 - 1) n (omega (arith, h)) h) refl
answer_again Zero (answers.Made n) h = number_result Zero n (omega (arith, h))
    ∙ rw (num_again 0 n (omega (arith, h)) (omega (arith, h))) refl
answer_again Fd (answers.Made n) h = number_result Fd n (omega (arith, h))
    ∙ rw (num_again 1048575 n h (omega (arith, h))) refl
answer_again (Same g) (answers.Made n) h =
    let same : eqb n g ≡ true = rw h.0 (eqb_same g) in
    number_result (Same g) n (omega (arith, h.1)) ∙ rw (num_again 1048575 n h.1 (omega (arith, h.1)), same) refl
answer_again Child (answers.Made n) h = number_result Child n (omega (arith, h))
    ∙ rw (num_again 99999 n h (omega (arith, h))) refl
answer_again Any (answers.Made n) h = number_result Any n h ∙ any_number refl h
answer_again FdPair (answers.Pair n m) h =
    pair_result FdPair n m (omega (arith, h.0))
    ∙ pair_again 1048575 1048575 n m h.0 h.1 (omega (arith, h.0)) (omega (arith, h.1))
answer_again ChildAndFd (answers.Pair n m) h =
    pair_result ChildAndFd n m (omega (arith, h.0))
    ∙ pair_again 99999 1048575 n m h.0 h.1 (omega (arith, h.0)) (omega (arith, h.1))
answer_again Any (answers.Pair n m) h =
    pair_result Any n m h.0 ∙ ap (any_at (decimal n ++ (44 ∷ decimal m))) (pair_cut n m h.0)
    ∙ ap (pair_at (2 ^ 64 - 1) (2 ^ 64 - 1)) (sym (pair_cut n m h.0))
    ∙ pair_again (2 ^ 64 - 1) (2 ^ 64 - 1) n m (omega (arith, h.0)) (omega (arith, h.1)) h.0 h.1
answer_again k (answers.Fault e) h = fault_again k e h.0 h.1
answer_again k a h = absurd h

-- an answer that is this number
pub made_again : (k j : ResultKind) (tail : List ℕ) (n : ℕ) → k ≡ j → tail ≡ codes " RET " ++ decimal n
    → IsAnswer j (answers.Made n) → answer_at k tail ≡ Ok (answers.Made n)
made_again k j tail n is at h = ap (λ (x : ResultKind). answer_at x tail) is ∙ ap (answer_at j) at
    ∙ answer_again j (answers.Made n) h
