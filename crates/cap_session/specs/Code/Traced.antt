-- What is known of a trace while it comes, when something is asked of it in a profile and from a start. Only the code's
-- contracts use this.
use Rattle.std.specs.Prelude.{◌≡◌, ℕ, List, [], ◌∷◌, ◌++◌, length, Result, Ok, Err, Option, MatchOption}
use Rattle.cap_trace.specs.Entry.{Entry}
use Rattle.cap_machine.specs.declared.cell.Profile.{Profile}
use Rattle.cap_machine.specs.declared.question.Question.{Question}
use Rattle.cap_machine.specs.State.{State}
use Rattle.cap_session.specs.Trace.{next_entry}
use Rattle.cap_session.specs.declared.refused.Refused.{Refused}

-- what is asked of a trace, by which rules it is checked, and what is known before its first line
pub record Inquiry : Type 0 where
  pub question : Question
  pub profile : Profile
  pub start : State

-- how it is checked, and its entries so far
pub record Traced : Type 0 where
  pub inquiry : Inquiry
  pub entries : List Entry

abbrev pub one_more : Traced → Entry → Traced
one_more known entry = record { inquiry = known.inquiry; entries = known.entries ++ entry ∷ [] }

abbrev pub with_inquiry : Inquiry → Result (List Entry) Refused → Result Traced Refused
with_inquiry s (Ok entries) = Ok (record { inquiry = s; entries = entries })
with_inquiry s (Err reason) = Err reason

-- the next line, after the entries so far
abbrev pub next_traced : Traced → List ℕ → Result Traced Refused
next_traced known line = with_inquiry known.inquiry (next_entry known.entries line)

-- The entries are kept, or they were lost and are counted.
abbrev pub Follows : {K : Type 0} → (K → Inquiry → List Entry → Type 0) → Option K → ℕ → Traced → Type 0
Follows keeps kept lost known =
    MatchOption kept (lost ≡ length known.entries) (λ k. keeps k known.inquiry known.entries)

-- The entries are kept.
abbrev pub Holds : {K : Type 0} → (K → Inquiry → List Entry → Type 0) → Option K → Traced → Type 0
Holds keeps kept known = MatchOption kept ⊥ (λ k. keeps k known.inquiry known.entries)
