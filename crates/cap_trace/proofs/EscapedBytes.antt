-- A path is escaped byte by byte.
use Rattle.std.proofs.Common.{◌≡◌, ℕ, ◌+◌, ◌<◌, List, [], ◌∷◌, ◌++◌, length, get_or, drop, refl, sym, ap, ◌∙◌}
use Rattle.std.proofs.Common.{append_assoc}
use Rattle.std.proofs.lemmas.List.{drop_more, append-nil}
use Rattle.cap_trace.specs.Code.Escaping.{escape_of, escaped}

pub escaped_step : (b : ℕ) (bs : List ℕ) → escaped (b ∷ bs) ≡ escape_of b ++ escaped bs
unfolding escaped
escaped_step b bs = refl

pub escaped_more : (bs : List ℕ) (i b : ℕ) (mid new all : List ℕ) → i < length bs → b ≡ get_or bs i b
    → mid ++ escaped (drop i bs) ≡ all → new ≡ mid ++ escape_of b → new ++ escaped (drop (i + 1) bs) ≡ all
escaped_more bs i b mid new all lt at h g =
    let split : drop i bs ≡ b ∷ drop (i + 1) bs = drop_more bs i b lt ∙ ap (λ (x : ℕ). x ∷ drop (i + 1) bs) (sym at) in
    ap (λ (s : List ℕ). s ++ escaped (drop (i + 1) bs)) g
    ∙ append_assoc mid (escape_of b) (escaped (drop (i + 1) bs))
    ∙ ap (λ (s : List ℕ). mid ++ s) (sym (ap escaped split ∙ escaped_step b (drop (i + 1) bs)))
    ∙ h

pub escaped_end : (items all : List ℕ) → items ++ escaped [] ≡ all → items ≡ all
unfolding escaped
escaped_end items all h = sym (append-nil items) ∙ h
