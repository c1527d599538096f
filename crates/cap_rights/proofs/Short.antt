-- How long the text of a set can be.
use Rattle.std.proofs.Common.{◌≡◌, ℕ, suc, ◌+◌, ◌-◌, ◌≤◌, Bool, true, false, cond, List, [], ◌∷◌, ◌++◌, length, take}
use Rattle.std.proofs.Common.{refl, arith}
use Rattle.std.specs.Prelude.{codes, ◌==◌}
use Rattle.std.specs.List.{join_with_byte}
use Rattle.std.proofs.lemmas.List.{length-append}
use Rattle.bitflags.specs.Sets.{Row}
use Rattle.cap_rights.specs.Names.{table}
use Rattle.cap_rights.specs.Rights.{all, none, holds}
use Rattle.cap_rights.specs.Text.{held_names_from, held_names, text}
use Rattle.cap_rights.specs.Laws.{TextIsShort, LimitFits}

-- the bytes of these names, with a bar after each
abbrev room : List (List ℕ) → ℕ
room [] = 0
room (w ∷ ws) = suc (length w) + room ws

abbrev rows_room : List Row → ℕ
rows_room [] = 0
rows_room (row ∷ rows) = suc (length row.0) + rows_room rows

table_room : rows_room (take 63 table) ≡ 814
unfolding table
table_room = refl

joined_room : (ws : List (List ℕ)) → length (join_with_byte 124 ws) ≤ room ws - 1
joined_room [] = omega arith
joined_room (w ∷ []) = omega arith
joined_room (w ∷ u ∷ us) = omega (arith, length-append w (124 ∷ join_with_byte 124 (u ∷ us)), joined_room (u ∷ us))

one_room : (b : Bool) (w : List ℕ) (ws : List (List ℕ)) (n : ℕ) → room ws ≤ n
    → room (cond b (w ∷ ws) ws) ≤ suc (length w) + n
one_room true w ws n le = omega arith
one_room false w ws n le = omega arith

held_room : (k : ℕ) (rows : List Row) (rights : ℕ) → room (held_names_from k rows rights) ≤ rows_room rows
unfolding held_names_from
held_room k [] rights = omega arith
held_room k (row ∷ rows) rights = one_room (holds rights k) row.0 (held_names_from (suc k) rows rights) (rows_room rows)
    (held_room (suc k) rows rights)

held_short : (rights : ℕ) → length (join_with_byte 124 (held_names rights)) ≤ 813
held_short rights = omega (arith, joined_room (held_names rights), held_room 0 (take 63 table) rights, table_room)

by_case : (a b : Bool) (joined : List ℕ) → length joined ≤ 813
    → length (cond a (codes "ALL") (cond b (codes "NONE") joined)) ≤ 813
by_case true b joined le = omega arith
by_case false true joined le = omega arith
by_case false false joined le = le

pub text_is_short : TextIsShort
unfolding text
text_is_short rights =
    by_case (rights == all) (rights == none) (join_with_byte 124 (held_names rights)) (held_short rights)

pub limit_fits : LimitFits
limit_fits rights =
    let short = text_is_short rights in
    omega (
      arith,
      length-append (codes "99999 cap_rights_limit(1048575," ++ text rights) (codes ") RET -1 errno 65535"),
      length-append (codes "99999 cap_rights_limit(1048575,") (text rights),
    )
