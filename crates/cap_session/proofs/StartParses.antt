-- What reading a start text from its bytes gives.
use Rattle.std.proofs.Common.{rules, ◌≡◌, ℕ, List, refl, sym, ◌∙◌, ap}
use Rattle.std.specs.Prelude.{Result, Ok, Err, IsOk, IfOk, Option, Some, None, ◌↔◌, ◌==◌, if◌then◌else◌}
use Rattle.std.specs.Option.{ok_or}
use Rattle.cap_machine.specs.State.{Added, start_state}
use Rattle.cap_machine.specs.declared.start.Start.{Start}
use Rattle.cap_session.specs.Texts.{whole_text}
use Rattle.cap_session.specs.StartTexts.{Listed, none_listed, next_process, good_as, described_by}
use Rattle.cap_session.specs.Code.StartLines.{Follows}
use Rattle.cap_session.specs.Code.StartParsed.{Parses, fault_of}
use Rattle.cap_session.specs.Refused.{code_of}
use Rattle.cap_session.specs.declared.refused.Refusal.{Refusal}
use Rattle.cap_session.specs.declared.refused.Refused.{Refused}
use Rattle.cap_session.specs.declared.refused.Refused.TheVariants.{LongLine, Shape, Pid, Argument, Right, Answer}
use Rattle.cap_session.specs.declared.refused.Refused.TheVariants.{Position, Full, Memory}
use Rattle.cap_session.specs.declared.start_text.StartFault.{StartFault}
use Rattle.cap_session.specs.declared.start_text.StartFault.TheVariants as faults
use Rattle.cap_session.proofs.Listing.{known_ok}

pub parsed : (text : List ℕ) (kept : Option Start) (low : ℕ)
    → (known : Listed) × (whole_text next_process none_listed text ≡ Ok known) × Follows kept low known
    → Parses (described_by text) (ok_or kept faults.Memory)
parsed text (Some s) low (known, is, does) =
    ap (good_as (λ (listed : Listed). listed.added)) is ∙ ap (λ (x : List Added). Ok x) (sym does.0)
parsed text None low (known, is, does) =
    known_ok (described_by text) known.added (ap (good_as (λ (listed : Listed). listed.added)) is)

-- each refusal has its own code
reason_at : ℕ → Refused
reason_at n =
    if n == 1 then LongLine
    else if n == 2 then Shape
    else if n == 3 then Pid
    else if n == 4 then Argument
    else if n == 5 then Right
    else if n == 6 then Answer
    else if n == 7 then Position
    else if n == 8 then Full
    else Memory

has_code : (r : Refused) → r ≡ reason_at (code_of r)
unfolding reason_at
has_code LongLine = refl
has_code Shape = refl
has_code Pid = refl
has_code Argument = refl
has_code Right = refl
has_code Answer = refl
has_code Position = refl
has_code Full = refl
has_code Memory = refl

same_refusal : (d e : Refusal) → fault_of d ≡ fault_of e → d ≡ e
same_refusal d e same =
    let code : code_of d.reason ≡ code_of e.reason = cc in
    let line : d.line ≡ e.line = cc in
    let reason : d.reason ≡ e.reason = has_code d.reason ∙ ap reason_at code ∙ sym (has_code e.reason) in
    ap (λ (r : Refused). record { reason = r; line = d.line }) reason
    ∙ ap (λ (n : ℕ). record { reason = e.reason; line = n }) line

pub parse_good : (said : Result (List Added) Refusal) (result : Result Start StartFault) → Parses said result
    → IfOk result (λ s. said ≡ Ok s)
parse_good said (Ok s) is = is
parse_good said (Err f) is = tt

pub parse_state : (said : Result (List Added) Refusal) (result : Result Start StartFault) → Parses said result
    → IfOk result (λ s. good_as start_state said ≡ Ok (start_state s))
parse_state said (Ok s) is = ap (good_as start_state) is
parse_state said (Err f) is = tt

not_both : {B : Type 0} (said : Result (List Added) Refusal) (s : List Added) (e : Refusal) → said ≡ Ok s
    → good_as start_state said ≡ Err e → B
not_both said s e good bad =
    let both = sym (ap (good_as start_state) good) ∙ bad in
    absurd cc

again_bad : (said : Result (List Added) Refusal) (e : Refusal) → good_as start_state said ≡ Err e → said ≡ Err e
again_bad (Ok s) e bad = absurd cc
again_bad (Err d) e bad = (let same : d ≡ e = cc in ap (λ (x : Refusal). Err x) same)

pub parse_bad : (said : Result (List Added) Refusal) (result : Result Start StartFault) → Parses said result
    → (e : Refusal) → (result ≡ Err (fault_of e)) ↔ (good_as start_state said ≡ Err e)
parse_bad said (Ok s) is e = (λ other. absurd cc, λ bad. not_both said _ e is bad)
parse_bad said (Err (faults.Bad code line)) (d, is, names) e = (
  λ same.
      let both : fault_of d ≡ fault_of e = sym names ∙ cc in
      ap (good_as start_state) is ∙ ap (λ (x : Refusal). Err x) (same_refusal d e both),
  λ bad.
      let one : d ≡ e = let both = sym is ∙ again_bad said e bad in cc in
      ap (λ (f : StartFault). Err f) (names ∙ ap fault_of one),
)
parse_bad (Ok s) (Err faults.Memory) is e = (λ other. absurd cc, λ other. absurd cc)
parse_bad (Err d) (Err faults.Memory) is e = absurd (search rules)

state_too : (said : Result (List Added) Refusal) → IsOk said → IsOk (good_as start_state said)
state_too (Ok s) is = is
state_too (Err e) is = is

pub parse_memory : (said : Result (List Added) Refusal) (result : Result Start StartFault) → Parses said result
    → result ≡ Err faults.Memory → IsOk (good_as start_state said)
parse_memory said (Ok s) is other = absurd cc
parse_memory said (Err (faults.Bad code line)) is other = absurd cc
parse_memory said (Err faults.Memory) is same = state_too said is
