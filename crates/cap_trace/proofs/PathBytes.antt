-- What the text of a path spells.
use Rattle.std.proofs.Common.{◌≡◌, ℕ, suc, ◌+◌, ◌-◌, ◌*◌, ◌/◌, ◌%◌, ◌<◌, ◌≤◌, ◌&&◌, ◌||◌, Bool, true, false, cond, not}
use Rattle.std.proofs.Common.{eqb, ltb, leb, List, [], ◌∷◌, ◌++◌, length, get_or, Option, Some, None, refl, sym, ap}
use Rattle.std.proofs.Common.{subst, ◌∙◌, append_assoc, length-append, arith, tests}
use Rattle.std.specs.Prelude.{option_map}
use Rattle.std.specs.Char.{is_ascii_digit}
use Rattle.std.proofs.lemmas.List.{append-nil}
use Rattle.std.proofs.lemmas.Bool.{eqb-true, and_parts, and_from}
use borrow.Author.Tests.{ltb-true, leb-true}
use Rattle.cap_trace.specs.declared.fields.Place.{Place}
use Rattle.cap_trace.specs.declared.fields.Place.TheVariants.{Between, Slash, Digits, OneDigit}
use Rattle.cap_trace.specs.Steps.{takes_all}
use Rattle.cap_trace.specs.Fields.{is_plain, hex_digit, is_escaped, second_digit, item_step, is_between, are_items}
use Rattle.cap_trace.specs.Code.Escaping.{hex_of, escape_of, escaped, lacks_zero, hex_byte, slash_byte, first_byte}
use Rattle.cap_trace.proofs.EscapedBytes.{escaped_step}

-- ---- digits

hex_by : (d : ℕ) (b : Bool) → ltb d 10 ≡ b → d < 16 → hex_digit (cond b (48 + d) (97 + (d - 10))) ≡ Some d
hex_by d true e lt =
    let small : d < 10 = ltb-true _ _ e in
    let digit : is_ascii_digit (48 + d) ≡ true = grind (arith, tests) in
    let value : 48 + d - 48 ≡ d = omega arith in
    rw (digit, value) refl
hex_by d false e lt =
    let large : 10 ≤ d = grind (arith, tests) in
    let none : is_ascii_digit (97 + (d - 10)) ≡ false = grind (arith, tests) in
    let letter : (leb 97 (97 + (d - 10)) && leb (97 + (d - 10)) 102) ≡ true = grind (arith, tests) in
    let value : 97 + (d - 10) - 87 ≡ d = omega arith in
    rw (none, letter, value) refl

-- a digit that is written is read
hex_again : (d : ℕ) → d < 16 → hex_digit (hex_of d) ≡ Some d
hex_again d lt = hex_by d (ltb d 10) refl lt

some_same : (a b : ℕ) → ◌≡◌ {A = Option ℕ} (Some a) (Some b) → a ≡ b
some_same a b e = (let g = e in cc)

digit_by : (c d : ℕ) (a b : Bool) → is_ascii_digit c ≡ a → (leb 97 c && leb c 102) ≡ b
    → ◌≡◌ {A = Option ℕ} (cond a (Some (c - 48)) (cond b (Some (c - 87)) None)) (Some d) → (d < 16) × (hex_of d ≡ c)
digit_by c d true b digit letter e =
    let value : c - 48 ≡ d = some_same _ _ e in
    let k = and_parts (leb 48 c) (leb c 57) digit in
    let low : 48 ≤ c = leb-true 48 c k.0 in
    let high : c ≤ 57 = leb-true c 57 k.1 in
    let small : ltb d 10 ≡ true = grind (arith, tests) in
    (omega arith, rw small (omega arith))
digit_by c d false true digit letter e =
    let value : c - 87 ≡ d = some_same _ _ e in
    let k = and_parts (leb 97 c) (leb c 102) letter in
    let low : 97 ≤ c = leb-true 97 c k.0 in
    let high : c ≤ 102 = leb-true c 102 k.1 in
    let large : ltb d 10 ≡ false = grind (arith, tests) in
    (omega arith, rw large (omega arith))
digit_by c d false false digit letter e = absurd cc

-- a digit that is read is written so
pub digit_takes : (c d : ℕ) → hex_digit c ≡ Some d → (d < 16) × (hex_of d ≡ c)
digit_takes c d e = digit_by c d (is_ascii_digit c) (leb 97 c && leb c 102) refl refl e

-- ---- what is left to take

takes_from : List ℕ → Option Place → Bool
takes_from rest None = false
takes_from rest (Some p) = takes_all item_step is_between p rest

takes_step : (p : Place) (c : ℕ) (cs : List ℕ) (o : Option Place) → item_step p c ≡ o
    → takes_all item_step is_between p (c ∷ cs) ≡ takes_from cs o
unfolding takes_all takes_from
takes_step p c cs o e = ap (takes_from cs) e

takes_some : (p q : Place) (c : ℕ) (cs : List ℕ) → item_step p c ≡ Some q
    → takes_all item_step is_between p (c ∷ cs) ≡ takes_all item_step is_between q cs
unfolding takes_from
takes_some p q c cs e = takes_step p c cs (Some q) e

-- ---- what is escaped is items

whole : (b : ℕ) → 16 * (b / 16) + b % 16 ≡ b
whole b = omega arith

escaped_by : (b : ℕ) (rest : List ℕ) (p q : Bool) → is_plain b ≡ p → (eqb b 34 || eqb b 92) ≡ q → 0 < b → b < 256
    → are_items ((cond p (b ∷ []) (cond q (92 ∷ b ∷ []) (92 ∷ 120 ∷ hex_of (b / 16) ∷ hex_of (b % 16) ∷ []))) ++ rest)
    ≡ are_items rest
escaped_by b rest true q plain quoted some lt =
    let slash : eqb b 92 ≡ false = grind (arith, tests) in
    takes_some Between Between b rest (rw (plain, slash) refl)
escaped_by b rest false true plain quoted some lt =
    takes_some Between Slash 92 (b ∷ rest) refl ∙ takes_some Slash Between b rest (rw quoted refl)
escaped_by b rest false false plain quoted some lt =
    let first = hex_again (b / 16) (omega arith) in
    let second = hex_again (b % 16) (omega arith) in
    let number : is_escaped b ≡ true = grind (arith, tests) in
    takes_some Between Slash 92 _ refl
    ∙ takes_some Slash Digits 120 _ refl
    ∙ takes_some Digits (OneDigit (b / 16)) (hex_of (b / 16)) _ (ap (option_map OneDigit) first)
    ∙ takes_some (OneDigit (b / 16)) Between (hex_of (b % 16)) rest
    (ap (second_digit (b / 16)) second ∙ rw (whole b, number) refl)

-- a list of bytes
pub record AreBytes (bs : List ℕ) : Type 0 where
  pub each : (k : ℕ) → get_or bs k 0 < 256

tail_bytes : (b : ℕ) (bs : List ℕ) → AreBytes (b ∷ bs) → AreBytes bs
tail_bytes b bs h = record { each = λ k. h.each (suc k) }

not_zero : (b : ℕ) (rest : Bool) → (not (eqb b 0) && rest) ≡ true → (0 < b) × (rest ≡ true)
not_zero b rest h =
    let k = and_parts (not (eqb b 0)) rest h in
    let some : not (eqb b 0) ≡ true = k.0 in
    (grind (arith, tests), k.1)

-- what is escaped is the text of a path
pub escaped_items : (bs : List ℕ) → AreBytes bs → lacks_zero bs ≡ true → are_items (escaped bs) ≡ true
unfolding escaped takes_all
escaped_items [] h z = refl
escaped_items (b ∷ bs) h z =
    let k = not_zero b (lacks_zero bs) z in
    escaped_by b (escaped bs) (is_plain b) (eqb b 34 || eqb b 92) refl refl k.0 (h.each 0)
    ∙ escaped_items bs (tail_bytes b bs h) k.1

-- ---- the first byte that a text spells

-- the text begins with an item; what is found is its byte and what follows it
record Item (text : List ℕ) (found : Option (ℕ × List ℕ)) : Type 0 where
  pub byte : ℕ
  pub rest : List ℕ
  pub is : found ≡ Some (byte, rest)
  pub parts : text ≡ escape_of byte ++ rest
  pub some : 0 < byte
  pub items : are_items rest ≡ true

plain_item : (c : ℕ) (cs : List ℕ) (p : Bool) → eqb c 92 ≡ false → is_plain c ≡ p → are_items (c ∷ cs) ≡ true
    → Item (c ∷ cs) (first_byte (c ∷ cs))
unfolding takes_from
plain_item c cs true slash plain h =
    record {
      byte = c;
      rest = cs;
      is = rw slash refl;
      parts = rw plain refl;
      some = grind (arith, tests);
      items = sym (takes_some Between Between c cs (rw (plain, slash) refl)) ∙ h;
    }
plain_item c cs false slash plain h =
    absurd (let none = sym (takes_step Between c cs None (rw (plain, slash) refl)) ∙ h in cc)

quoted_item : (c : ℕ) (cs : List ℕ) (q : Bool) → eqb c 120 ≡ false → (eqb c 34 || eqb c 92) ≡ q
    → takes_all item_step is_between Slash (c ∷ cs) ≡ true → Item (92 ∷ c ∷ cs) (slash_byte (c ∷ cs))
unfolding takes_from
quoted_item c cs true hex quoted h =
    let plain : is_plain c ≡ false = grind (arith, tests) in
    record {
      byte = c;
      rest = cs;
      is = rw hex refl;
      parts = rw (plain, quoted) refl;
      some = grind (arith, tests);
      items = sym (takes_some Slash Between c cs (rw quoted refl)) ∙ h;
    }
quoted_item c cs false hex quoted h =
    absurd (let none = sym (takes_step Slash c cs None (rw (quoted, hex) refl)) ∙ h in cc)

escaped_item : (high low : ℕ) (rest : List ℕ) (h l b : ℕ) (e : Bool) → hex_digit high ≡ Some h → hex_digit low ≡ Some l
    → 16 * h + l ≡ b → is_escaped b ≡ e
    → takes_all item_step is_between (OneDigit h) (low ∷ rest) ≡ true
    → Item (92 ∷ 120 ∷ high ∷ low ∷ rest) (hex_byte (high ∷ low ∷ rest))
unfolding takes_from
escaped_item high low rest h l b true first second number e t =
    let plain : is_plain b ≡ false = grind (arith, tests) in
    let quoted : (eqb b 34 || eqb b 92) ≡ false = grind (arith, tests) in
    let f = digit_takes high h first in
    let s = digit_takes low l second in
    let left : b / 16 ≡ h = omega (arith, number, s.0) in
    let right : b % 16 ≡ l = omega (arith, number, s.0) in
    record {
      byte = b;
      rest = rest;
      is = rw (first, second, number) refl;
      parts = rw (plain, quoted, left, right, f.1, s.1) refl;
      some = grind (arith, tests);
      items = sym (takes_some (OneDigit h) Between low rest (ap (second_digit h) second ∙ rw (number, e) refl)) ∙ t;
    }
escaped_item high low rest h l b false first second number e t =
    absurd (let none =
    sym (takes_step (OneDigit h) low rest None (ap (second_digit h) second ∙ rw (number, e) refl)) ∙ t in cc)

hex_item : (high low : ℕ) (rest : List ℕ) (a b : Option ℕ) → hex_digit high ≡ a → hex_digit low ≡ b
    → takes_all item_step is_between Digits (high ∷ low ∷ rest) ≡ true
    → Item (92 ∷ 120 ∷ high ∷ low ∷ rest) (hex_byte (high ∷ low ∷ rest))
unfolding takes_from
hex_item high low rest None b first second t =
    absurd (let none = sym (takes_step Digits high (low ∷ rest) None (ap (option_map OneDigit) first)) ∙ t in cc)
hex_item high low rest (Some h) None first second t =
    let one = sym (takes_some Digits (OneDigit h) high (low ∷ rest) (ap (option_map OneDigit) first)) ∙ t in
    absurd (let none = sym (takes_step (OneDigit h) low rest None (ap (second_digit h) second)) ∙ one in cc)
hex_item high low rest (Some h) (Some l) first second t =
    escaped_item high low rest h l (16 * h + l) (is_escaped (16 * h + l)) first second refl refl
    (sym (takes_some Digits (OneDigit h) high (low ∷ rest) (ap (option_map OneDigit) first)) ∙ t)

digits_item : (t : List ℕ) → takes_all item_step is_between Digits t ≡ true → Item (92 ∷ 120 ∷ t) (hex_byte t)
unfolding takes_all takes_from
digits_item [] h = absurd cc
digits_item (high ∷ []) h = absurd (one_digit high (hex_digit high) refl h) where
  one_digit : (c : ℕ) (o : Option ℕ) → hex_digit c ≡ o → takes_all item_step is_between Digits (c ∷ []) ≡ true → ⊥
  one_digit c None e t = (let none = sym (takes_step Digits c [] None (ap (option_map OneDigit) e)) ∙ t in cc)
  one_digit c (Some h) e t =
      (let none = sym (takes_step Digits c [] (Some (OneDigit h)) (ap (option_map OneDigit) e)) ∙ t in cc)
digits_item (high ∷ low ∷ rest) h = hex_item high low rest (hex_digit high) (hex_digit low) refl refl h

slash_by : (c : ℕ) (cs : List ℕ) (x : Bool) → eqb c 120 ≡ x → takes_all item_step is_between Slash (c ∷ cs) ≡ true
    → Item (92 ∷ c ∷ cs) (slash_byte (c ∷ cs))
slash_by c cs false hex h = quoted_item c cs (eqb c 34 || eqb c 92) hex refl h
slash_by c cs true hex h =
    let is : 120 ≡ c = sym (eqb-true c 120 hex) in
    let step : item_step Slash c ≡ Some Digits = subst (λ (x : ℕ). item_step Slash x ≡ Some Digits) is refl in
    subst (λ (x : ℕ). Item (92 ∷ x ∷ cs) (slash_byte (x ∷ cs))) is
    (digits_item cs (sym (takes_some Slash Digits c cs step) ∙ h))

slash_item : (t : List ℕ) → takes_all item_step is_between Slash t ≡ true → Item (92 ∷ t) (slash_byte t)
unfolding takes_all
slash_item [] h = absurd cc
slash_item (c ∷ cs) h = slash_by c cs (eqb c 120) refl h

item_by : (c : ℕ) (cs : List ℕ) (s : Bool) → eqb c 92 ≡ s → are_items (c ∷ cs) ≡ true
    → Item (c ∷ cs) (first_byte (c ∷ cs))
item_by c cs false slash h = plain_item c cs (is_plain c) slash refl h
item_by c cs true slash h =
    let is : 92 ≡ c = sym (eqb-true c 92 slash) in
    subst (λ (x : ℕ). Item (x ∷ cs) (first_byte (x ∷ cs))) is
    (slash_item cs (sym (takes_some Between Slash c cs (rw slash refl)) ∙ h))

-- the text of a path without a first byte is empty
pub first_none : (t : List ℕ) → are_items t ≡ true → None ≡ first_byte t → t ≡ []
first_none [] h e = refl
first_none (c ∷ cs) h e = absurd (let i = item_by c cs (eqb c 92) refl h in let none = e ∙ i.is in cc)

byte_in : Option (ℕ × List ℕ) → ℕ
byte_in None = 0
byte_in (Some p) = p.0

rest_in : Option (ℕ × List ℕ) → List ℕ
rest_in None = []
rest_in (Some p) = p.1

-- what an unescaping loop keeps: the text that is left is a path's, and the bytes so far and it make the whole
pub record Unescaped (bytes text all : List ℕ) : Type 0 where
  pub items : are_items text ≡ true
  pub whole : escaped bytes ++ text ≡ all
  pub some : lacks_zero bytes ≡ true

escaped_push : (bs : List ℕ) (b : ℕ) → escaped (bs ++ b ∷ []) ≡ escaped bs ++ escape_of b
unfolding escaped
escaped_push [] b = append-nil (escape_of b)
escaped_push (c ∷ bs) b = ap (λ (s : List ℕ). escape_of c ++ s) (escaped_push bs b)
    ∙ sym (append_assoc (escape_of c) (escaped bs) (escape_of b))

zero_push : (bs : List ℕ) (b : ℕ) → lacks_zero bs ≡ true → 0 < b → lacks_zero (bs ++ b ∷ []) ≡ true
zero_push [] b z some = (let e : eqb b 0 ≡ false = grind (arith, tests) in rw e refl)
zero_push (c ∷ bs) b z some =
    let k = and_parts (not (eqb c 0)) (lacks_zero bs) z in
    and_from (not (eqb c 0)) (lacks_zero (bs ++ b ∷ [])) k.0 (zero_push bs b k.1 some)

length_by : (b : ℕ) (p q : Bool)
    → 0 < length (cond p (b ∷ []) (cond q (92 ∷ b ∷ []) (92 ∷ 120 ∷ hex_of (b / 16) ∷ hex_of (b % 16) ∷ [])))
length_by b true q = omega arith
length_by b false true = omega arith
length_by b false false = omega arith

item_length : (b : ℕ) → 0 < length (escape_of b)
item_length b = length_by b (is_plain b) (eqb b 34 || eqb b 92)

pushed : (bytes text all : List ℕ) → Unescaped bytes text all → Item text (first_byte text) → (b : ℕ) (rest : List ℕ)
    → Some (b, rest) ≡ first_byte text → Unescaped (bytes ++ b ∷ []) rest all × (length rest < length text)
unfolding byte_in rest_in
pushed bytes text all u i b rest e =
    let same = e ∙ i.is in
    let byte : b ≡ i.byte = ap byte_in same in
    let more : rest ≡ i.rest = ap rest_in same in
    let parts : text ≡ escape_of b ++ rest = i.parts ∙ ap (λ (x : ℕ). escape_of x ++ i.rest) (sym byte)
    ∙ ap (λ (s : List ℕ). escape_of b ++ s) (sym more) in (
      record {
        items = ap are_items more ∙ i.items;
        whole =
            ap (λ (s : List ℕ). s ++ rest) (escaped_push bytes b)
            ∙ append_assoc (escaped bytes) (escape_of b) rest
            ∙ ap (λ (s : List ℕ). escaped bytes ++ s) (sym parts)
            ∙ u.whole;
        some = zero_push bytes b u.some (let some = i.some in omega (arith, byte, some));
      },
      omega (arith, ap length parts, length-append (escape_of b) rest, item_length b),
    )

pub unescaped_more : (bytes text all : List ℕ) → Unescaped bytes text all → (b : ℕ) (rest : List ℕ)
    → Some (b, rest) ≡ first_byte text → Unescaped (bytes ++ b ∷ []) rest all × (length rest < length text)
unescaped_more bytes [] all u b rest e = absurd cc
unescaped_more bytes (c ∷ cs) all u b rest e =
    pushed bytes (c ∷ cs) all u (item_by c cs (eqb c 92) refl u.items) b rest e

-- ---- a text spells the bytes of one path at most

number_of : ℕ → ℕ
number_of c = cond (ltb c 97) (c - 48) (c - 87)

number_by : (d : ℕ) (b : Bool) → ltb d 10 ≡ b → number_of (cond b (48 + d) (97 + (d - 10))) ≡ d
unfolding number_of
number_by d true e =
    let small : d < 10 = ltb-true _ _ e in
    let first : ltb (48 + d) 97 ≡ true = grind (arith, tests) in
    rw first (omega arith)
number_by d false e =
    let large : 10 ≤ d = grind (arith, tests) in
    let second : ltb (97 + (d - 10)) 97 ≡ false = grind (arith, tests) in
    rw second (omega arith)

hex_number : (d : ℕ) → number_of (hex_of d) ≡ d
hex_number d = number_by d (ltb d 10) refl

-- the first byte of a text that was escaped, and what follows
hex_first : List ℕ → Option (ℕ × List ℕ)
hex_first [] = None
hex_first (h ∷ []) = None
hex_first (h ∷ l ∷ rest) = Some (16 * number_of h + number_of l, rest)

slash_first : List ℕ → Option (ℕ × List ℕ)
slash_first [] = None
slash_first (b ∷ rest) = cond (eqb b 120) (hex_first rest) (Some (b, rest))

first : List ℕ → Option (ℕ × List ℕ)
first [] = None
first (b ∷ rest) = cond (eqb b 92) (slash_first rest) (Some (b, rest))

first_by : (b : ℕ) (rest : List ℕ) (p q : Bool) → is_plain b ≡ p → (eqb b 34 || eqb b 92) ≡ q
    → first ((cond p (b ∷ []) (cond q (92 ∷ b ∷ []) (92 ∷ 120 ∷ hex_of (b / 16) ∷ hex_of (b % 16) ∷ []))) ++ rest)
    ≡ Some (b, rest)
unfolding first slash_first hex_first
first_by b rest true q plain quoted = let slash : eqb b 92 ≡ false = grind (arith, tests) in rw slash refl
first_by b rest false true plain quoted = let hex : eqb b 120 ≡ false = grind (arith, tests) in rw hex refl
first_by b rest false false plain quoted = rw (hex_number (b / 16), hex_number (b % 16), whole b) refl

first_again : (b : ℕ) (rest : List ℕ) → first (escape_of b ++ rest) ≡ Some (b, rest)
first_again b rest = first_by b rest (is_plain b) (eqb b 34 || eqb b 92) refl refl

first_of : (b : ℕ) (bs : List ℕ) → first (escaped (b ∷ bs)) ≡ Some (b, escaped bs)
first_of b bs = ap first (escaped_step b bs) ∙ first_again b (escaped bs)

none_first : first (escaped []) ≡ None
unfolding first escaped
none_first = refl

pub escaped_once : (a b : List ℕ) → escaped a ≡ escaped b → a ≡ b
unfolding byte_in rest_in
escaped_once [] [] e = refl
escaped_once [] (b ∷ bs) e = absurd (let none = sym none_first ∙ ap first e ∙ first_of b bs in cc)
escaped_once (a ∷ as') [] e = absurd (let none = sym none_first ∙ ap first (sym e) ∙ first_of a as' in cc)
escaped_once (a ∷ as') (b ∷ bs) e =
    let same = sym (first_of a as') ∙ ap first e ∙ first_of b bs in
    let byte : a ≡ b = ap byte_in same in
    let more : as' ≡ bs = escaped_once as' bs (ap rest_in same) in
    ap (λ (x : ℕ). x ∷ as') byte ∙ ap (λ (s : List ℕ). b ∷ s) more

pub unescaped_none : (text : List ℕ) → are_items text ≡ true → Unescaped [] text text
unfolding escaped
unescaped_none text h = record { items = h; whole = refl; some = refl }
