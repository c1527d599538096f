-- Two texts of one length are the same where their first bytes are, and their last, and these are all of them.
use Rattle.std.proofs.Common.{◌≡◌, ℕ, ◌+◌, ◌<◌, ◌≤◌, ◌-◌, List, length, get_or, take, drop, refl, sym, ap, ◌∙◌, arith}
use Rattle.std.proofs.Common.{⊎_elim, nat_eq, leb, true, false, length-drop}
use Rattle.std.proofs.lemmas.List.{get_or-take, get_or-drop, get_or_past, length-take-le, ext_get_or}
use Rattle.std.proofs.lemmas.Nat.{le_bytes_2, le_bytes_4, le_bytes_8}
use Rattle.std.proofs.lemmas.Bool.{cases_lt, le-leb, lt-leb}
use Rattle.std.proofs.lemmas.Bool.Decides.{Decides-eqb, same_from_decides}
use Rattle.std.proofs.lemmas.Slice.Eq.{bytes_eq-Decides}
use Rattle.std.specs.Str.{bytes_eq}
use Rattle.std.specs.Int.{w16, w32, w64, from_le_bytes}
use Rattle.cap_trace.specs.Code.Slots.{first_word, last_word}

taken : (k : ℕ) (a b : List ℕ) (i : ℕ) → take k a ≡ take k b → i < k → get_or a i 0 ≡ get_or b i 0
taken k a b i e h = sym (get_or-take k a i 0 h) ∙ ap (λ (l : List ℕ). get_or l i 0) e ∙ get_or-take k b i 0 h

late : (from i j : ℕ) (a b : List ℕ) → i ≡ from + j → get_or (drop from a) j 0 ≡ get_or (drop from b) j 0
    → get_or a i 0 ≡ get_or b i 0
late from i j a b e h = rw e (sym (get_or-drop from a j 0) ∙ h ∙ get_or-drop from b j 0)

pub ends_agree : (k from : ℕ) (a b : List ℕ) → length a ≡ length b → length a ≤ from + k → from ≤ k
    → take k a ≡ take k b → take k (drop from a) ≡ take k (drop from b) → a ≡ b
ends_agree k from a b s most over first last = ext_get_or 0 a b s (λ i h. ⊎_elim
    (λ early. taken k a b i first early)
    (λ past. late from i (i - from) a b (omega (arith, past, over))
    (taken k (drop from a) (drop from b) (i - from) last (omega (arith, h, most, past, over))))
    (cases_lt i k))

at_end : (l : List ℕ) (i : ℕ) → length l ≤ i → get_or l i 0 < 256
at_end l i h = let e = get_or_past l i 0 h in rw e (omega arith)

early_byte : (k : ℕ) (l : List ℕ) (i : ℕ) → i < k → get_or l i 0 < 256 → get_or (take k l) i 0 < 256
early_byte k l i h b = let e = get_or-take k l i 0 h in rw e b

late_byte : (k : ℕ) (l : List ℕ) (i : ℕ) → get_or l (k + i) 0 < 256 → get_or (drop k l) i 0 < 256
late_byte k l i b = let e = get_or-drop k l i 0 in rw e b

pub in_bytes : (k : ℕ) (l : List ℕ) → k ≤ length l → ((i : ℕ) → get_or l i 0 < 256) → (i : ℕ) → get_or (take k l) i 0 < 256
in_bytes k l h b i = ⊎_elim (λ early. early_byte k l i early (b i))
    (λ past. at_end (take k l) i (omega (arith, length-take-le k l h, past))) (cases_lt i k)

two_bytes : (a b : List ℕ) → length a ≡ 2 → length b ≡ 2 → ((i : ℕ) → get_or a i 0 < 256)
    → ((i : ℕ) → get_or b i 0 < 256) → from_le_bytes w16 a ≡ from_le_bytes w16 b → a ≡ b
two_bytes a b m n x y e = sym (le_bytes_2 a (from_le_bytes w16 a) m x refl) ∙ le_bytes_2 b (from_le_bytes w16 a) n y e

pub four_bytes : (a b : List ℕ) → length a ≡ 4 → length b ≡ 4 → ((i : ℕ) → get_or a i 0 < 256)
    → ((i : ℕ) → get_or b i 0 < 256) → from_le_bytes w32 a ≡ from_le_bytes w32 b → a ≡ b
four_bytes a b m n x y e = sym (le_bytes_4 a (from_le_bytes w32 a) m x refl) ∙ le_bytes_4 b (from_le_bytes w32 a) n y e

pub eight_bytes : (a b : List ℕ) → length a ≡ 8 → length b ≡ 8 → ((i : ℕ) → get_or a i 0 < 256)
    → ((i : ℕ) → get_or b i 0 < 256) → from_le_bytes w64 a ≡ from_le_bytes w64 b → a ≡ b
eight_bytes a b m n x y e = sym (le_bytes_8 a (from_le_bytes w64 a) m x refl) ∙ le_bytes_8 b (from_le_bytes w64 a) n y e

-- the bytes of a text
abbrev pub Bytes : List ℕ → Type 0
Bytes l = (i : ℕ) → get_or l i 0 < 256

-- the whole texts are the same where k bytes at the beginning and at the end are read as the same numbers
ends_same : (k : ℕ) (read : List ℕ → ℕ) (a b : List ℕ)
    → ((s t : List ℕ) → length s ≡ k → length t ≡ k → Bytes s → Bytes t → read s ≡ read t → s ≡ t)
    → length a ≡ length b → k ≤ length a → length a ≤ k + k → Bytes a → Bytes b
    → read (take k a) ≡ read (take k b)
    → read (take k (drop (length a - k) a)) ≡ read (take k (drop (length b - k) b)) → a ≡ b
ends_same k read a b same sizes least most u v first last =
    let from = length a - k in
    let from_b : length b - k ≡ from = omega (arith, sizes) in
    let last' : read (take k (drop from a)) ≡ read (take k (drop from b)) = rw from_b at last in
    let size_a : length (drop from a) ≡ k = omega (arith, least, length-drop from a) in
    let size_b : length (drop from b) ≡ k = omega (arith, least, sizes, length-drop from b) in
    ends_agree k from a b sizes (omega (arith, least)) (omega (arith, least, most))
    (same (take k a) (take k b) (length-take-le k a least) (length-take-le k b (omega (arith, least, sizes)))
    (in_bytes k a least u) (in_bytes k b (omega (arith, least, sizes)) v) first)
    (same (take k (drop from a)) (take k (drop from b)) (length-take-le k (drop from a) (omega (arith, size_a)))
    (length-take-le k (drop from b) (omega (arith, size_b)))
    (in_bytes k (drop from a) (omega (arith, size_a)) (λ i. late_byte from a i (u (from + i))))
    (in_bytes k (drop from b) (omega (arith, size_b)) (λ i. late_byte from b i (v (from + i)))) last')

-- the words of a text by its size
words_8 : (t : List ℕ) → 8 ≤ length t → (first_word t ≡ from_le_bytes w64 (take 8 t))
    × (last_word t ≡ from_le_bytes w64 (take 8 (drop (length t - 8) t)))
words_8 t h = let e : leb 8 (length t) ≡ true = le-leb 8 (length t) h in (rw e refl, rw e refl)

words_4 : (t : List ℕ) → length t < 8 → 4 ≤ length t → (first_word t ≡ from_le_bytes w32 (take 4 t))
    × (last_word t ≡ from_le_bytes w32 (take 4 (drop (length t - 4) t)))
words_4 t l h =
    let e : leb 8 (length t) ≡ false = lt-leb 8 (length t) l in
    let f : leb 4 (length t) ≡ true = le-leb 4 (length t) h in (rw (e, f) refl, rw (e, f) refl)

words_2 : (t : List ℕ) → length t < 4 → (first_word t ≡ from_le_bytes w16 (take 2 t))
    × (last_word t ≡ from_le_bytes w16 (take 2 (drop (length t - 2) t)))
words_2 t l =
    let e : leb 8 (length t) ≡ false = lt-leb 8 (length t) (omega (arith, l)) in
    let f : leb 4 (length t) ≡ false = lt-leb 4 (length t) l in (rw (e, f) refl, rw (e, f) refl)

-- texts of 2 to 16 bytes are the same where their words are
pub words_same : (a b : List ℕ) → length a ≡ length b → 2 ≤ length a → length a ≤ 16 → Bytes a → Bytes b
    → first_word a ≡ first_word b → last_word a ≡ last_word b → a ≡ b
words_same a b sizes least most u v first last = ⊎_elim
    (λ under8. ⊎_elim
    (λ under4.
    let x = words_2 a under4 in let y = words_2 b (omega (arith, under4, sizes)) in
    ends_same 2 (from_le_bytes w16) a b two_bytes sizes least (omega (arith, under4)) u v
    (sym x.0 ∙ first ∙ y.0) (sym x.1 ∙ last ∙ y.1))
    (λ over4.
    let x = words_4 a under8 over4 in
    let y = words_4 b (omega (arith, under8, sizes)) (omega (arith, over4, sizes)) in
    ends_same 4 (from_le_bytes w32) a b four_bytes sizes over4 (omega (arith, under8)) u v
    (sym x.0 ∙ first ∙ y.0) (sym x.1 ∙ last ∙ y.1))
    (cases_lt (length a) 4))
    (λ over8.
    let x = words_8 a over8 in let y = words_8 b (omega (arith, over8, sizes)) in
    ends_same 8 (from_le_bytes w64) a b eight_bytes sizes over8 most u v
    (sym x.0 ∙ first ∙ y.0) (sym x.1 ∙ last ∙ y.1))
    (cases_lt (length a) 8)

-- the same of texts whose first words are equal: whether the last ones are
pub words_decide : (a b : List ℕ) (p q x y : ℕ) → length a ≡ length b → 2 ≤ length a → length a ≤ 16 → Bytes a
    → Bytes b → p ≡ first_word a → q ≡ first_word b → p ≡ q → x ≡ last_word a → y ≡ last_word b
    → nat_eq x y ≡ bytes_eq a b
words_decide a b p q x y sizes least most u v first second equal third fourth =
    same_from_decides (nat_eq x y) (bytes_eq a b) (
      (λ h. words_same a b sizes least most u v (sym first ∙ equal ∙ second)
          (sym third ∙ (Decides-eqb x y).0 h ∙ fourth)),
      (λ e. (Decides-eqb x y).1 (third ∙ ap last_word e ∙ sym fourth)),
    )
    (bytes_eq-Decides a b)
