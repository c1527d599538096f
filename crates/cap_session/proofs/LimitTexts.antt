-- The text of a limit and of the script of limits, as they are written part by part.
use Rattle.std.proofs.Common.{◌≡◌, ℕ, suc, ◌+◌, ◌<◌, List, [], ◌∷◌, ◌++◌, length, map, take, get_or, sym, ap, ◌∙◌}
use Rattle.std.proofs.Common.{append_assoc, arith}
use Rattle.std.specs.Prelude.{codes, decimal}
use Rattle.std.specs.Fmt.{digits}
use Rattle.std.proofs.lemmas.List.{append-nil, take_more, map-append, length-map, length-take-le}
use Rattle.std.proofs.lemmas.List.Concat.{flat_map-append}
use Rattle.cap_rights.specs.Text.{text}
use Rattle.cap_machine.specs.Report.{line_of_words}
use Rattle.cap_limits.specs.declared.makers.MakerLimit.{MakerLimit}
use Rattle.cap_limits.specs.declared.makers.MakerRow.{MakerRow}
use Rattle.cap_trace.specs.Entry.{Entry}
use Rattle.cap_limits.specs.Limits.{Row, row_of}
use Rattle.cap_limits.specs.declared.limit.Limit.{Limit}
use Rattle.cap_session.specs.LimitScripts.{ScriptLine, insertion, comment, insertions, limit_line, maker_line, maker_lines}
use Rattle.cap_session.specs.LimitScripts.{enter_line, words_of, script_text, begins_words, place_words, unknown_lines, unknown_words}
use Rattle.cap_session.specs.LimitScripts.{made_words}

parts : (o i k f c r e z n : List ℕ)
    → (((o ++ i) ++ (k ++ (f ++ c))) ++ r) ++ (e ++ (z ++ n))
    ≡ o ++ ((i ++ (k ++ ((f ++ (c ++ r)) ++ (e ++ z)))) ++ n)
parts o i k f c r e z n = simp append_assoc

-- how a line begins that is inserted
abbrev inserted : ℕ → ℕ → List ℕ
inserted at pid = codes "insert " ++ (decimal at ++ (codes " " ++ decimal pid))

begins : (i a s p k : List ℕ) → (i ++ (a ++ (s ++ p))) ++ k ≡ i ++ (a ++ (s ++ (p ++ k)))
begins i a s p k = simp append_assoc

pub insertion_put : (at pid fd rights m : ℕ) (o o1 o2 o3 o4 : List ℕ) → m ≡ fd → o1 ≡ o ++ inserted at pid
    → o2 ≡ o1 ++ (codes " cap_rights_limit(" ++ (decimal m ++ codes ",")) → o3 ≡ o2 ++ text rights
    → o4 ≡ o3 ++ codes ") RET 0\n"
    → o4 ≡ o ++ line_of_words (words_of (insertion at (limit_line pid (fd, rights))))
unfolding digits
insertion_put at pid fd rights m o o1 o2 o3 o4 same e1 e2 e3 e4 =
    rw (e4, e3, e2, e1, same) (parts o (inserted at pid) (codes " cap_rights_limit(") (decimal fd) (codes ",")
    (text rights) (codes ") RET ") (decimal 0) (codes "\n"))
    ∙ ap (λ (l : List ℕ). o ++ (l ++ codes "\n")) (begins (codes "insert ") (decimal at) (codes " ") (decimal pid)
    (codes " cap_rights_limit(" ++ ((decimal fd ++ (codes "," ++ text rights)) ++ (codes ") RET " ++ decimal 0))))

-- the text of one row more
pub makers_more : (rows : List MakerRow) (i : ℕ) (one : MakerRow) (before after : List ℕ) → i < length rows
    → one ≡ get_or rows i one → before ≡ maker_lines (take i rows)
    → after ≡ before ++ line_of_words (words_of (maker_line one)) → after ≡ maker_lines (take (i + 1) rows)
makers_more rows i one before after lt at so_far is =
    let line : MakerRow → List ℕ = λ (row : MakerRow). line_of_words (words_of (maker_line row)) in
    let last : maker_lines (get_or rows i one ∷ []) ≡ line_of_words (words_of (maker_line one)) =
    append-nil (line_of_words (words_of (maker_line (get_or rows i one))))
    ∙ ap (λ (row : MakerRow). line_of_words (words_of (maker_line row))) (sym at) in
    is ∙ ap (λ (l : List ℕ). l ++ line_of_words (words_of (maker_line one))) so_far
    ∙ ap (λ (l : List ℕ). maker_lines (take i rows) ++ l) (sym last)
    ∙ sym (flat_map-append (λ (row : MakerRow). line_of_words (words_of (maker_line row))) (take i rows)
    (get_or rows i one ∷ []))
    ∙ ap maker_lines (sym (take_more rows i one lt))

-- ---- limits that are put in one after the other

insertions_last : (at : ℕ) (lines : List Entry) (line : Entry)
    → insertions at (lines ++ line ∷ []) ≡ insertions at lines ++ insertion (at + length lines) line ∷ []
insertions_last at [] line =
    let here : at ≡ at + 0 = omega arith in
    ap (λ (n : ℕ). insertion n line ∷ []) here
insertions_last at (first ∷ lines) line =
    let there : at + 1 + length lines ≡ at + suc (length lines) = omega arith in
    ap (λ (l : List ScriptLine). insertion at first ∷ l) (insertions_last (at + 1) lines line
    ∙ ap (λ (n : ℕ). insertions (at + 1) lines ++ insertion n line ∷ []) there)

abbrev line_text : ScriptLine → List ℕ
line_text line = line_of_words (words_of line)

text_last : (lines : List ScriptLine) (line : ScriptLine)
    → script_text (lines ++ line ∷ []) ≡ script_text lines ++ line_text line
text_last lines line = flat_map-append line_text lines (line ∷ [])
    ∙ ap (λ (l : List ℕ). script_text lines ++ l) (append-nil (line_text line))

-- the limits of a process as lines of a trace
abbrev pub limit_lines : ℕ → List Limit → List Entry
limit_lines pid limits = map (limit_line pid) (map row_of limits)

limit_lines_last : (pid : ℕ) (limits : List Limit) (one : Limit)
    → limit_lines pid (limits ++ one ∷ []) ≡ limit_lines pid limits ++ limit_line pid (row_of one) ∷ []
limit_lines_last pid limits one = ap (map (limit_line pid)) (map-append row_of limits (one ∷ []))
    ∙ map-append (limit_line pid) (map row_of limits) (row_of one ∷ [])

pub limits_more : (at pid next i : ℕ) (limits : List Limit) (one : Limit) (first before after : List ℕ)
    → i < length limits → one ≡ get_or limits i one → next ≡ at + i
    → before ≡ first ++ script_text (insertions at (limit_lines pid (take i limits)))
    → after ≡ before ++ line_text (insertion next (limit_line pid (row_of one)))
    → after ≡ first ++ script_text (insertions at (limit_lines pid (take (i + 1) limits)))
limits_more at pid next i limits one first before after lt at_i place so_far is =
    let some = take i limits in
    let long : length (limit_lines pid some) ≡ i = length-map (map row_of some) (limit_line pid) ∙ length-map some row_of
    ∙ length-take-le i limits (omega (arith, lt)) in
    let line = limit_line pid (row_of one) in
    let there : at + length (limit_lines pid some) ≡ next = omega (arith, long, place) in
    let more : take (i + 1) limits ≡ some ++ one ∷ [] = take_more limits i one lt
    ∙ ap (λ (limit : Limit). some ++ limit ∷ []) (sym at_i) in
    let last : script_text (insertions at (limit_lines pid (take (i + 1) limits)))
    ≡ script_text (insertions at (limit_lines pid some)) ++ line_text (insertion next line) =
    ap (λ (l : List Limit). script_text (insertions at (limit_lines pid l))) more
    ∙ ap (λ (l : List Entry). script_text (insertions at l)) (limit_lines_last pid some one)
    ∙ ap script_text (insertions_last at (limit_lines pid some) line)
    ∙ text_last (insertions at (limit_lines pid some)) (insertion (at + length (limit_lines pid some)) line)
    ∙ ap (λ (n : ℕ). script_text (insertions at (limit_lines pid some)) ++ line_text (insertion n line)) there in
    is ∙ ap (λ (l : List ℕ). l ++ line_text (insertion next line)) so_far
    ∙ append_assoc first (script_text (insertions at (limit_lines pid some))) (line_text (insertion next line))
    ∙ ap (λ (l : List ℕ). first ++ l) (sym last)

-- ---- descriptors that aren't known

pub unknown_more : (i : ℕ) (limits : List Limit) (one : Limit) (first before after : List ℕ)
    → i < length limits → one ≡ get_or limits i one
    → before ≡ first ++ script_text (unknown_lines (map row_of (take i limits)))
    → after ≡ before ++ line_text (comment (unknown_words (row_of one)))
    → after ≡ first ++ script_text (unknown_lines (map row_of (take (i + 1) limits)))
unknown_more i limits one first before after lt at_i so_far is =
    let some = take i limits in
    let line = comment (unknown_words (row_of one)) in
    let more : take (i + 1) limits ≡ some ++ one ∷ [] = take_more limits i one lt
    ∙ ap (λ (limit : Limit). some ++ limit ∷ []) (sym at_i) in
    let last : script_text (unknown_lines (map row_of (take (i + 1) limits)))
    ≡ script_text (unknown_lines (map row_of some)) ++ line_text line =
    ap (λ (l : List Limit). script_text (unknown_lines (map row_of l))) more
    ∙ ap (λ (l : List Row). script_text (unknown_lines l)) (map-append row_of some (one ∷ []))
    ∙ ap script_text (map-append (λ (row : Row). comment (unknown_words row)) (map row_of some) (row_of one ∷ []))
    ∙ text_last (unknown_lines (map row_of some)) line in
    is ∙ ap (λ (l : List ℕ). l ++ line_text line) so_far
    ∙ append_assoc first (script_text (unknown_lines (map row_of some))) (line_text line)
    ∙ ap (λ (l : List ℕ). first ++ l) (sym last)

-- ---- two parts of a comment, with texts before, between and after them

two_put : (o a p b k c o1 o2 o3 : List ℕ) → o1 ≡ o ++ (a ++ (p ++ b)) → o2 ≡ o1 ++ k → o3 ≡ o2 ++ c
    → o3 ≡ o ++ (a ++ ((p ++ (b ++ k)) ++ c))
two_put o a p b k c o1 o2 o3 e1 e2 e3 = rw (e3, e2, e1) (simp append_assoc)

pub place_put : (pid at n : ℕ) (o o1 o2 o3 : List ℕ) → n ≡ pid
    → o1 ≡ o ++ (codes "# process " ++ (decimal n ++ codes " before line ")) → o2 ≡ o1 ++ decimal at
    → o3 ≡ o2 ++ codes "\n" → o3 ≡ o ++ line_text (comment (place_words pid at))
place_put pid at n o o1 o2 o3 same e1 e2 e3 =
    two_put o (codes "# process ") (decimal pid) (codes " before line ") (decimal at) (codes "\n") o1 o2 o3
    (rw same at e1) e2 e3

begins_parts : (k b p c n : List ℕ) → (k ++ (b ++ p)) ++ (c ++ n) ≡ (k ++ (b ++ (p ++ c))) ++ n
begins_parts k b p c n = simp append_assoc

pub begins_put : (pid at n : ℕ) (o o1 o2 o3 : List ℕ) → n ≡ pid
    → o1 ≡ o ++ (codes "# line " ++ (decimal at ++ codes " is where process ")) → o2 ≡ o1 ++ decimal n
    → o3 ≡ o2 ++ codes " begins\n" → o3 ≡ o ++ line_text (comment (begins_words pid at))
begins_put pid at n o o1 o2 o3 same e1 e2 e3 =
    two_put o (codes "# line ") (decimal at) (codes " is where process ") (decimal pid) (codes " begins\n") o1 o2 o3
    e1 (rw same at e2) e3
    ∙ ap (λ (l : List ℕ). o ++ (codes "# line " ++ l))
    (begins_parts (decimal at) (codes " is where process ") (decimal pid) (codes " begins") (codes "\n"))

pub needed_put : (row : Row) (n : ℕ) (o o1 o2 o3 : List ℕ) → n ≡ row.0
    → o1 ≡ o ++ (codes "# descriptor " ++ (decimal n ++ codes " isn't known; later calls need "))
    → o2 ≡ o1 ++ text row.1 → o3 ≡ o2 ++ codes "\n" → o3 ≡ o ++ line_text (comment (unknown_words row))
needed_put row n o o1 o2 o3 same e1 e2 e3 =
    two_put o (codes "# descriptor ") (decimal row.0) (codes " isn't known; later calls need ") (text row.1)
    (codes "\n") o1 o2 o3 (rw same at e1) e2 e3

entry_parts : (o i e z n : List ℕ) → (o ++ i) ++ (e ++ (z ++ n)) ≡ o ++ ((i ++ (e ++ z)) ++ n)
entry_parts o i e z n = simp append_assoc

pub entry_put : (at pid : ℕ) (o o1 o2 : List ℕ) → o1 ≡ o ++ inserted at pid
    → o2 ≡ o1 ++ codes " cap_enter() RET 0\n" → o2 ≡ o ++ line_text (insertion at (enter_line pid))
unfolding digits
entry_put at pid o o1 o2 e1 e2 =
    rw (e2, e1) (entry_parts o (inserted at pid) (codes " cap_enter() RET ") (decimal 0) (codes "\n"))
    ∙ ap (λ (l : List ℕ). o ++ (l ++ codes "\n")) (begins (codes "insert ") (decimal at) (codes " ") (decimal pid)
    (codes " cap_enter() RET " ++ decimal 0))

-- ---- a descriptor that a line made and that isn't known

-- how its comment begins
abbrev pub made_start : MakerLimit → List ℕ
made_start limit = codes "# descriptor " ++ (decimal limit.fd ++ (codes " of process " ++ (decimal limit.pid
    ++ (codes ", made at line " ++ decimal limit.at))))

made_parts : (o d f b p m a : List ℕ) → (((o ++ (d ++ (f ++ b))) ++ p) ++ m) ++ a
    ≡ o ++ (d ++ (f ++ (b ++ (p ++ (m ++ a)))))
made_parts o d f b p m a = simp append_assoc

pub made_put : (limit : MakerLimit) (n m : ℕ) (o o1 o2 o3 o4 : List ℕ) → n ≡ limit.fd → m ≡ limit.pid
    → o1 ≡ o ++ (codes "# descriptor " ++ (decimal n ++ codes " of process ")) → o2 ≡ o1 ++ decimal m
    → o3 ≡ o2 ++ codes ", made at line " → o4 ≡ o3 ++ decimal limit.at → o4 ≡ o ++ made_start limit
made_put limit n m o o1 o2 o3 o4 same own e1 e2 e3 e4 =
    rw (e4, e3, e2, e1, same, own) (made_parts o (codes "# descriptor ") (decimal limit.fd) (codes " of process ")
    (decimal limit.pid) (codes ", made at line ") (decimal limit.at))

needed_parts : (o d f b p m a i k t n : List ℕ)
    → (((o ++ (d ++ (f ++ (b ++ (p ++ ((m ++ k) ++ a)))))) ++ (i ++ k)) ++ t) ++ n
    ≡ o ++ ((d ++ (f ++ (b ++ ((p ++ m) ++ (k ++ ((a ++ i) ++ (k ++ t))))))) ++ n)
needed_parts o d f b p m a i k t n = simp append_assoc

pub made_needed_put : (limit : MakerLimit) (o o1 o2 o3 o4 : List ℕ) → o1 ≡ o ++ made_start limit
    → o2 ≡ o1 ++ codes ", isn't known; later calls need " → o3 ≡ o2 ++ text limit.rights → o4 ≡ o3 ++ codes "\n"
    → o4 ≡ o ++ line_text (comment (made_words limit))
made_needed_put limit o o1 o2 o3 o4 e1 e2 e3 e4 =
    rw (e4, e3, e2, e1) (needed_parts o (codes "# descriptor ") (decimal limit.fd) (codes " of process ")
    (decimal limit.pid) (codes ", made at line") (decimal limit.at) (codes ", isn't known; later calls need")
    (codes " ") (text limit.rights) (codes "\n"))
