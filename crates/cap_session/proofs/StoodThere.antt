-- Steps of today that stood at a position then: behind an edit, and where all of them did.
use Rattle.std.proofs.Common.{◌≡◌, ℕ, ◌+◌, ◌-◌, List, [], ◌∷◌, ◌++◌, length, map, refl, sym, ap, ◌∙◌, arith, suc, zero}
use Rattle.std.proofs.Common.{insert, remove, slice_set, append_assoc, length-append, subst}
use Rattle.std.specs.Prelude.{Some, slice_get}
use Rattle.std.specs.List.{AllZip, range_with_len}
use Rattle.cap_machine.specs.declared.step.Step.{Step}
use Rattle.cap_session.specs.Origins.{unmoved}
use Rattle.cap_session.specs.Session.{StoodThere}

-- ---- lists that go in step

pub zip_insert : {X Y : Type 0} (R : X → Y → Type 0) (xs : List X) (ys : List Y) (i : ℕ) (x : X) (y : Y) → AllZip R xs ys
    → R x y → AllZip R (insert xs i x) (insert ys i y)
zip_insert R xs ys zero x y all new = (new, all)
zip_insert R [] [] (suc i) x y all new = (new, tt)
zip_insert R [] (b ∷ ys) (suc i) x y all new = absurd all
zip_insert R (a ∷ xs) [] (suc i) x y all new = absurd all
zip_insert R (a ∷ xs) (b ∷ ys) (suc i) x y all new = (all.0, zip_insert R xs ys i x y all.1 new)

pub zip_remove : {X Y : Type 0} (R : X → Y → Type 0) (xs : List X) (ys : List Y) (i : ℕ) → AllZip R xs ys
    → AllZip R (remove xs i) (remove ys i)
zip_remove R [] [] zero all = tt
zip_remove R [] [] (suc i) all = tt
zip_remove R [] (b ∷ ys) i all = absurd all
zip_remove R (a ∷ xs) [] i all = absurd all
zip_remove R (a ∷ xs) (b ∷ ys) zero all = all.1
zip_remove R (a ∷ xs) (b ∷ ys) (suc i) all = (all.0, zip_remove R xs ys i all.1)

pub zip_set : {X Y : Type 0} (R : X → Y → Type 0) (xs : List X) (ys : List Y) (i : ℕ) (x : X) (y : Y) → AllZip R xs ys
    → R x y → AllZip R (slice_set xs i x) (slice_set ys i y)
zip_set R [] [] i x y all new = tt
zip_set R [] (b ∷ ys) i x y all new = absurd all
zip_set R (a ∷ xs) [] i x y all new = absurd all
zip_set R (a ∷ xs) (b ∷ ys) zero x y all new = (new, all.1)
zip_set R (a ∷ xs) (b ∷ ys) (suc i) x y all new = (all.0, zip_set R xs ys i x y all.1 new)

pub zip_long : {X Y : Type 0} (R : X → Y → Type 0) (xs : List X) (ys : List Y) → AllZip R xs ys → length xs ≡ length ys
zip_long R [] [] all = refl
zip_long R [] (b ∷ ys) all = absurd all
zip_long R (a ∷ xs) [] all = absurd all
zip_long R (a ∷ xs) (b ∷ ys) all = ap suc (zip_long R xs ys all.1)

-- ---- steps that stand where they stood

got : {X : Type 0} (done rest : List X) (x : X) → slice_get (done ++ (x ∷ rest)) (length done) ≡ Some x
got [] rest x = refl
got (y ∷ done) rest x = got done rest x

one_more : {X : Type 0} (done rest : List X) (x : X) → (done ++ x ∷ []) ++ rest ≡ done ++ (x ∷ rest)
one_more done rest x = append_assoc done (x ∷ []) rest

stand_on : (done rest : List Step)
    → AllZip (StoodThere (done ++ rest)) (map Some (range_with_len (length done + 1) (length rest))) rest
stand_on done [] = tt
stand_on done (x ∷ rest) =
    let here : length done + 1 - 1 ≡ length done = omega arith in
    let long : length (done ++ x ∷ []) ≡ length done + 1 = length-append done (x ∷ []) ∙ omega arith in (
      rw here (got done rest x),
      subst (λ l. AllZip (StoodThere l) (map Some (range_with_len (length done + 1 + 1) (length rest))) rest)
          (one_more done rest x)
          (subst (λ n. AllZip (StoodThere ((done ++ x ∷ []) ++ rest)) (map Some (range_with_len (n + 1) (length rest))) rest)
          long (stand_on (done ++ x ∷ []) rest)),
    )

pub all_stand : (shared : List Step) → AllZip (StoodThere shared) (unmoved (length shared)) shared
all_stand shared = stand_on [] shared

stood_on : (done rest now : List Step)
    → AllZip (StoodThere (done ++ rest)) (map Some (range_with_len (length done + 1) (length rest))) now → now ≡ rest
stood_on done [] [] all = refl
stood_on done [] (y ∷ now) all = absurd all
stood_on done (x ∷ rest) [] all = absurd all
stood_on done (x ∷ rest) (y ∷ now) all =
    let here : length done + 1 - 1 ≡ length done = omega arith in
    let long : length done + 1 ≡ length (done ++ x ∷ []) = sym (length-append done (x ∷ []) ∙ omega arith) in
    let first : Some y ≡ Some x = sym (rw here at all.0) ∙ got done rest x in
    let same : y ≡ x = cc in
    let more = stood_on (done ++ x ∷ []) rest now
    (subst (λ l. AllZip (StoodThere l) (map Some (range_with_len (length (done ++ x ∷ []) + 1) (length rest))) now)
    (sym (one_more done rest x))
    (subst (λ n. AllZip (StoodThere (done ++ (x ∷ rest))) (map Some (range_with_len (n + 1) (length rest))) now) long all.1))
    in
    rw (same, more) refl

-- where all of them stand where they stood, they are the same
pub all_stood : (before now : List Step) → AllZip (StoodThere before) (unmoved (length before)) now → now ≡ before
all_stood before now all = stood_on [] before now all
