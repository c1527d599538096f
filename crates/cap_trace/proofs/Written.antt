-- Texts that are written one after the other.
use Rattle.std.proofs.Common.{◌≡◌, ℕ, ◌+◌, ◌-◌, ◌<◌, List, [], ◌∷◌, ◌++◌, length, get_or, take, drop, map, Result, Ok}
use Rattle.std.proofs.Common.{Err, OnOk, OnErr, refl, sym, ap, ◌∙◌, append_assoc, arith}
use Rattle.std.specs.List.{join_with_byte}
use Rattle.std.proofs.lemmas.List.{take_at, take_more, drop_more, take-append-drop, take_all, length-drop, append-nil}
use Rattle.std.specs.Fmt.{decimal}
use Rattle.cap_trace.specs.Entry.{fds}
use Rattle.cap_trace.specs.Spelling.{arg_text}
use Rattle.cap_trace.specs.Code.Writing.{with_commas}

pub on_err : {A E : Type 0} (r : Result A E) (P : Type 0) → P → OnErr r P
on_err (Ok x) P p = tt
on_err (Err e) P p = p

-- what stood in front is kept, step by step
pub front_kept : (old mid new x : List ℕ) → mid ≡ old ++ x → take (length mid) new ≡ mid → take (length old) new ≡ old
front_kept old mid new x h g =
    let whole : new ≡ old ++ (x ++ drop (length mid) new) = sym (take-append-drop (length mid) new)
    ∙ ap (λ (s : List ℕ). s ++ drop (length mid) new) (g ∙ h) ∙ append_assoc old x (drop (length mid) new) in
    ap (take (length old)) whole ∙ take_at old (x ++ drop (length mid) new) (length old) refl

commas_more : (ts : List (List ℕ)) (t : List ℕ) → with_commas (ts ++ t ∷ []) ≡ with_commas ts ++ (44 ∷ t)
unfolding with_commas
commas_more [] t = ap (λ (s : List ℕ). 44 ∷ s) (append-nil t)
commas_more (u ∷ us) t = ap (λ (s : List ℕ). (44 ∷ u) ++ s) (commas_more us t)
    ∙ sym (append_assoc (44 ∷ u) (with_commas us) (44 ∷ t))

map_more : {X : Type 0} (f : X → List ℕ) (xs : List X) (x : X) → map f (xs ++ x ∷ []) ≡ map f xs ++ f x ∷ []
map_more f [] x = refl
map_more f (y ∷ ys) x = ap (λ (s : List (List ℕ)). f y ∷ s) (map_more f ys x)

pub put_more : {X : Type 0} (f : X → List ℕ) (xs : List X) (i : ℕ) (x : X) (old out mid new : List ℕ) → i < length xs
    → x ≡ get_or xs i x
    → out ≡ old ++ with_commas (map f (take i xs)) → mid ≡ out ++ 44 ∷ [] → new ≡ mid ++ f x
    → new ≡ old ++ with_commas (map f (take (i + 1) xs))
put_more {X} f xs i x old out mid new lt at h g k =
    let one : take (i + 1) xs ≡ take i xs ++ x ∷ [] = take_more xs i x lt
    ∙ ap (λ (y : X). take i xs ++ y ∷ []) (sym at) in
    let more : with_commas (map f (take (i + 1) xs)) ≡ with_commas (map f (take i xs)) ++ (44 ∷ f x) =
    ap (λ (s : List X). with_commas (map f s)) one
    ∙ ap with_commas (map_more f (take i xs) x) ∙ commas_more (map f (take i xs)) (f x) in
    k ∙ ap (λ (s : List ℕ). s ++ f x) (g ∙ ap (λ (s : List ℕ). s ++ 44 ∷ []) h)
    ∙ append_assoc (old ++ with_commas (map f (take i xs))) (44 ∷ []) (f x)
    ∙ append_assoc old (with_commas (map f (take i xs))) (44 ∷ f x)
    ∙ ap (λ (s : List ℕ). old ++ s) (sym more)

pub put_none : (old : List ℕ) → old ≡ old ++ with_commas []
unfolding with_commas
put_none old = sym (append-nil old)

join_commas : (t : List ℕ) (ts : List (List ℕ)) → join_with_byte 44 (t ∷ ts) ≡ t ++ with_commas ts
unfolding with_commas
join_commas t [] = sym (append-nil t)
join_commas t (u ∷ us) = ap (λ (s : List ℕ). t ++ (44 ∷ s)) (join_commas u us)

pub put_first : {X : Type 0} (f : X → List ℕ) (xs : List X) (x : X) (old mid new : List ℕ) → 0 < length xs
    → x ≡ get_or xs 0 x
    → mid ≡ old ++ f x → new ≡ mid ++ with_commas (map f (drop 1 xs)) → new ≡ old ++ join_with_byte 44 (map f xs)
put_first {X} f xs x old mid new lt at h g =
    let split : xs ≡ x ∷ drop 1 xs = drop_more xs 0 x lt ∙ ap (λ (y : X). y ∷ drop 1 xs) (sym at) in
    g ∙ ap (λ (s : List ℕ). s ++ with_commas (map f (drop 1 xs))) h
    ∙ append_assoc old (f x) (with_commas (map f (drop 1 xs)))
    ∙ ap (λ (s : List ℕ). old ++ s)
    (sym (join_commas (f x) (map f (drop 1 xs))) ∙ ap (λ (s : List X). join_with_byte 44 (map f s)) (sym split))

pub on_ok : {A E : Type 0} (r : Result A E) (P Q : Type 0) → (P → Q) → OnOk r P → OnOk r Q
on_ok (Ok x) P Q f p = f p
on_ok (Err e) P Q f p = tt

-- the rest of a list, as a pattern takes it
pub rest_is : {X : Type 0} (xs : List X) → take (length xs - 1) (drop 1 xs) ≡ drop 1 xs
rest_is xs = take_all (length xs - 1) (drop 1 xs) (simp length-drop (omega arith))

pub err_kept : {A E : Type 0} (r : Result A E) (old mid new x : List ℕ) → mid ≡ old ++ x
    → OnErr r (take (length mid) new ≡ mid) → OnErr r (take (length old) new ≡ old)
err_kept (Ok v) old mid new x h g = tt
err_kept (Err e) old mid new x h g = front_kept old mid new x h g

-- descriptors as arguments
pub fds_text : (fs : List ℕ) → map decimal fs ≡ map arg_text (fds fs)
fds_text [] = refl
fds_text (f ∷ fs) = ap (λ (s : List (List ℕ)). decimal f ∷ s) (fds_text fs)

pub three_more : (old m1 m2 m3 h a x : List ℕ) → m1 ≡ old ++ h → m2 ≡ m1 ++ a → m3 ≡ m2 ++ x
    → m3 ≡ old ++ ((h ++ a) ++ x)
three_more old m1 m2 m3 h a x e f g = g
    ∙ ap (λ (s : List ℕ). s ++ x) (f ∙ ap (λ (s : List ℕ). s ++ a) e ∙ append_assoc old h a)
    ∙ append_assoc old (h ++ a) x
