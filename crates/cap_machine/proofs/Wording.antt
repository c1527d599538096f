-- A line of the report, written word by word.
use Rattle.std.proofs.Common.{◌≡◌, ℕ, List, [], ◌∷◌, ◌++◌, length, take, drop, Result, Ok, Err, OnErr, refl, sym, ap}
use Rattle.std.proofs.Common.{◌∙◌, append_assoc}
use Rattle.std.proofs.lemmas.List.{take_at, take-append-drop}
use Rattle.std.specs.List.{join_with_byte}
use Rattle.cap_machine.specs.declared.verdict.Finding.{Finding}
use Rattle.cap_machine.specs.declared.verdict.Finding.TheVariants.{Forbidden}
use Rattle.cap_machine.specs.declared.denial.Denial.{Denial}
use Rattle.cap_machine.specs.declared.denial.Denial.TheVariants.{Lacks}
use Rattle.cap_machine.specs.Report.{finding_words, line_of_words}
use Rattle.cap_machine.specs.DenialReport.{denial_words, front_of}

-- three words before those of a finding
pub join_words : (a b d : List ℕ) (f : Finding) → join_with_byte 32 (a ∷ b ∷ d ∷ finding_words f)
    ≡ a ++ 32 ∷ (b ++ 32 ∷ (d ++ 32 ∷ join_with_byte 32 (finding_words f)))
join_words a b d Forbidden = refl
join_words a b d _ = refl

pub join_denied : (a b d : List ℕ) (denial : Denial) → join_with_byte 32 (a ∷ b ∷ d ∷ denial_words denial)
    ≡ a ++ 32 ∷ (b ++ 32 ∷ (d ++ 32 ∷ join_with_byte 32 (denial_words denial)))
join_denied a b d (Lacks f r) = refl
join_denied a b d _ = refl

over : (old a b d : List ℕ) → (((((old ++ a) ++ 32 ∷ []) ++ b) ++ 32 ∷ []) ++ d) ++ 32 ∷ [] ≡ old ++ front_of a b d
over old a b d = simp append_assoc

-- the front of a line, with what stood there after each word
pub fronted : (old o1 o2 o3 o4 o5 new : List ℕ) (a b d : List ℕ) → o1 ≡ old ++ a → o2 ≡ o1 ++ 32 ∷ [] → o3 ≡ o2 ++ b
    → o4 ≡ o3 ++ 32 ∷ [] → o5 ≡ o4 ++ d → new ≡ o5 ++ 32 ∷ [] → new ≡ old ++ front_of a b d
fronted old o1 o2 o3 o4 o5 new a b d e1 e2 e3 e4 e5 e6 =
    let space : List ℕ → List ℕ = λ r. r ++ 32 ∷ [] in
    e6 ∙ ap space (e5 ∙ ap (λ (r : List ℕ). r ++ d) (e4 ∙ ap space (e3 ∙ ap (λ (r : List ℕ). r ++ b)
    (e2 ∙ ap space e1)))) ∙ over old a b d

around : (old a b d w : List ℕ) → ((old ++ front_of a b d) ++ w) ++ 10 ∷ []
    ≡ old ++ ((a ++ 32 ∷ (b ++ 32 ∷ (d ++ 32 ∷ w))) ++ 10 ∷ [])
around old a b d w = simp append_assoc

-- a line, with what stood there after its front and after its other words
pub written : (old o1 o2 new : List ℕ) (a b d w : List ℕ) (words : List (List ℕ)) → o1 ≡ old ++ front_of a b d
    → o2 ≡ o1 ++ w → new ≡ o2 ++ 10 ∷ []
    → join_with_byte 32 (a ∷ b ∷ d ∷ words) ≡ a ++ 32 ∷ (b ++ 32 ∷ (d ++ 32 ∷ w))
    → new ≡ old ++ line_of_words (a ∷ b ∷ d ∷ words)
written old o1 o2 new a b d w words e1 e2 e3 joined =
    e3 ∙ ap (λ (r : List ℕ). r ++ 10 ∷ []) (e2 ∙ ap (λ (r : List ℕ). r ++ w) e1) ∙ around old a b d w
    ∙ ap (λ (r : List ℕ). old ++ (r ++ 10 ∷ [])) (sym joined)

-- what stood in front is kept, a step back
pub front_kept : (old mid new x : List ℕ) → mid ≡ old ++ x → take (length mid) new ≡ mid → take (length old) new ≡ old
front_kept old mid new x h g =
    let whole : new ≡ old ++ (x ++ drop (length mid) new) = sym (take-append-drop (length mid) new)
    ∙ ap (λ (s : List ℕ). s ++ drop (length mid) new) (g ∙ h) ∙ append_assoc old x (drop (length mid) new) in
    ap (take (length old)) whole ∙ take_at old (x ++ drop (length mid) new) (length old) refl

-- a fact holds whatever an error is
pub on_err : {A E : Type 0} (r : Result A E) (P : Type 0) → P → OnErr r P
on_err (Ok x) P p = tt
on_err (Err e) P p = p
