-- Where the lines of the script of a process stand: right before line k.
use Rattle.std.proofs.Common.{◌≡◌, ℕ, ◌+◌, ◌-◌, Bool, true, false, List, [], ◌∷◌, ◌++◌, length, map, drop, refl}
use Rattle.std.proofs.Common.{sym, ap, ◌∙◌, arith, append_assoc, length-append}
use Rattle.std.specs.Prelude.{insert}
use Rattle.std.proofs.lemmas.List.{map-append, length-map}
use Rattle.std.proofs.Math.Seq.{take-append_seam, drop-append_seam}
use Rattle.cap_trace.specs.Entry.{Entry}
use Rattle.cap_limits.specs.LimitLaws.{script, limit_step}
use Rattle.cap_limits.specs.Limits.{Row}
use Rattle.cap_machine.specs.Steps.{step, steps}
use Rattle.cap_machine.specs.declared.cell.Profile.{Profile}
use Rattle.cap_limits.specs.declared.limits.Entering.{Entering}
use Rattle.cap_limits.specs.declared.limits.Entering.TheVariants.{Inside, Blocked, May}
use Rattle.cap_session.specs.LimitScripts.{ScriptLine, insertions, limit_line, enter_line}
use Rattle.cap_session.specs.LimitScripts.{process_script, entering_line, unknown_lines}
use Rattle.cap_session.specs.LimitScriptLaws.{with_script}
use Rattle.cap_session.specs.LimitTextLaws.{lines_put}

-- ---- lines that are put in

pub insert_seam : (before after : List Entry) (x : Entry)
    → insert (before ++ after) (length before) x ≡ before ++ x ∷ after
insert_seam before after x = ap (λ (l : List Entry). l ++ x ∷ drop (length before) (before ++ after))
    (take-append_seam before after) ∙ ap (λ (l : List Entry). before ++ x ∷ l) (drop-append_seam before after)

-- one after the other
rows_in : (at : ℕ) (before after xs : List Entry) (others : List ScriptLine) → at ≡ length before + 1 →
    with_script (before ++ after) (insertions at xs ++ others) ≡ with_script (before ++ (xs ++ after)) others
rows_in at before after [] others place = refl
rows_in at before after (x ∷ xs) others place =
    let where_it_is : at - 1 ≡ length before = omega (arith, place) in
    let first : insert (before ++ after) (at - 1) x ≡ (before ++ x ∷ []) ++ after =
    ap (λ (i : ℕ). insert (before ++ after) i x) where_it_is ∙ insert_seam before after x
    ∙ sym (append_assoc before (x ∷ []) after) in
    ap (λ (t : List Entry). with_script t (insertions (at + 1) xs ++ others)) first
    ∙ rows_in (at + 1) (before ++ x ∷ []) after xs others (omega (arith, place, length-append before (x ∷ [])))
    ∙ ap (λ (t : List Entry). with_script t others) (append_assoc before (x ∷ []) (xs ++ after))

unknown_in : (t : List Entry) (unknown : List Row) (others : List ScriptLine)
    → with_script t (unknown_lines unknown ++ others) ≡ with_script t others
unknown_in t [] others = refl
unknown_in t (row ∷ rows) others = unknown_in t rows others

-- what stands for entering
abbrev entered : ℕ → Entering → List Entry
entered p May = enter_line p ∷ []
entered p Inside = []
entered p (Blocked n) = []

entering_in : (t before after : List Entry) (p at : ℕ) (e : Entering) → at ≡ length before + 1
    → with_script (before ++ after) (entering_line t p at e ∷ []) ≡ before ++ (entered p e ++ after)
entering_in t before after p at May place =
    let where_it_is : at - 1 ≡ length before = omega (arith, place) in
    ap (λ (i : ℕ). insert (before ++ after) i (enter_line p)) where_it_is ∙ insert_seam before after (enter_line p)
entering_in t before after p at Inside place = refl
entering_in t before after p at (Blocked n) place = refl

process_in : (t before after : List Entry) (p k : ℕ) (rows unknown : List Row) (e : Entering) → k ≡ length before + 1 →
    with_script (before ++ after) (process_script t p k rows unknown e)
    ≡ (before ++ map (limit_line p) rows) ++ (entered p e ++ after)
process_in t before after p k rows unknown e place =
    let xs : List Entry = map (limit_line p) rows in
    let last : ScriptLine = entering_line t p (k + length rows) e in
    rows_in k before after xs (unknown_lines unknown ++ last ∷ []) place
    ∙ unknown_in (before ++ (xs ++ after)) unknown (last ∷ [])
    ∙ ap (λ (u : List Entry). with_script u (last ∷ [])) (sym (append_assoc before xs after))
    ∙ entering_in t (before ++ xs) after p (k + length rows) e
    (omega (arith, place, length-append before xs, length-map rows (limit_line p)))

-- ---- as steps

pub rows_steps : (profile : Profile) (p : ℕ) (rows : List Row)
    → steps profile (map (limit_line p) rows) ≡ map (limit_step profile p) rows
rows_steps profile p [] = refl
rows_steps profile p (row ∷ rows) = ap (λ l. limit_step profile p row ∷ l) (rows_steps profile p rows)

abbrev pub enters : Entering → Bool
enters May = true
enters Inside = false
enters (Blocked n) = false

script_steps : (profile : Profile) (p : ℕ) (rows : List Row) (e : Entering)
    → steps profile (map (limit_line p) rows ++ entered p e) ≡ script profile p rows (enters e)
script_steps profile p rows May =
    map-append (step profile) (map (limit_line p) rows) (enter_line p ∷ [])
    ∙ ap (λ l. l ++ step profile (enter_line p) ∷ []) (rows_steps profile p rows)
script_steps profile p rows Inside =
    map-append (step profile) (map (limit_line p) rows) [] ∙ ap (λ l. l ++ []) (rows_steps profile p rows)
script_steps profile p rows (Blocked n) =
    map-append (step profile) (map (limit_line p) rows) [] ∙ ap (λ l. l ++ []) (rows_steps profile p rows)

all_steps : (profile : Profile) (before after : List Entry) (p : ℕ) (rows : List Row) (e : Entering)
    → steps profile ((before ++ map (limit_line p) rows) ++ (entered p e ++ after))
    ≡ steps profile before ++ (script profile p rows (enters e) ++ steps profile after)
all_steps profile before after p rows e =
    let xs : List Entry = map (limit_line p) rows in
    let one : (before ++ xs) ++ (entered p e ++ after) ≡ before ++ ((xs ++ entered p e) ++ after) =
    append_assoc before xs (entered p e ++ after)
    ∙ ap (λ (l : List Entry). before ++ l) (sym (append_assoc xs (entered p e) after)) in
    ap (steps profile) one ∙ map-append (step profile) before ((xs ++ entered p e) ++ after)
    ∙ ap (λ l. steps profile before ++ l) (map-append (step profile) (xs ++ entered p e) after
    ∙ ap (λ l. l ++ steps profile after) (script_steps profile p rows e))

-- the limits, and where the process may enter, its entering, stand right before line k
pub script_stands : (profile : Profile) (t before after : List Entry) (p k : ℕ) (rows unknown : List Row) (e : Entering)
    → t ≡ before ++ after → k ≡ length before + 1 → steps profile (with_script t (process_script t p k rows unknown e))
    ≡ steps profile before ++ (script profile p rows (enters e) ++ steps profile after)
script_stands profile t before after p k rows unknown e cut place =
    ap (λ (u : List Entry). steps profile (with_script u (process_script t p k rows unknown e))) cut
    ∙ ap (steps profile) (process_in t before after p k rows unknown e place)
    ∙ all_steps profile before after p rows e

-- ---- how many they are

rows_put : (at : ℕ) (xs : List Entry) (others : List ScriptLine)
    → lines_put (insertions at xs ++ others) ≡ length xs + lines_put others
rows_put at [] others = omega arith
rows_put at (x ∷ xs) others = omega (arith, rows_put (at + 1) xs others)

unknown_put : (unknown : List Row) (others : List ScriptLine)
    → lines_put (unknown_lines unknown ++ others) ≡ lines_put others
unknown_put [] others = refl
unknown_put (row ∷ rows) others = omega (arith, unknown_put rows others)

entering_put : (t : List Entry) (p at : ℕ) (e : Entering)
    → lines_put (entering_line t p at e ∷ []) ≡ length (entered p e)
entering_put t p at May = refl
entering_put t p at Inside = refl
entering_put t p at (Blocked n) = refl

pub script_length : (profile : Profile) (t : List Entry) (p k : ℕ) (rows unknown : List Row) (e : Entering)
    → lines_put (process_script t p k rows unknown e) ≡ length (script profile p rows (enters e))
script_length profile t p k rows unknown e =
    let xs : List Entry = map (limit_line p) rows in
    let last : ScriptLine = entering_line t p (k + length rows) e in
    let same : length (steps profile (xs ++ entered p e)) ≡ length (script profile p rows (enters e)) =
    ap (λ l. length l) (script_steps profile p rows e) in
    omega (
      arith,
      rows_put k xs (unknown_lines unknown ++ last ∷ []),
      unknown_put unknown (last ∷ []),
      entering_put t p (k + length rows) e,
      length-map (xs ++ entered p e) (step profile),
      length-append xs (entered p e),
      same,
    )
