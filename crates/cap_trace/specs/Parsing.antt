-- What reading a line promises: bytes spell at most one line, reading finds it, and its canonical text is read as that
-- line. Each is the contract of a public function.
use Rattle.std.specs.Prelude.{◌≡◌, ◌⊎◌, ◌↔◌, ℕ, List, Result, Ok, Err, Some}
use Rattle.cap_trace.specs.declared.fault.FirstFault.{FirstFault}
use Rattle.cap_trace.specs.declared.fault.LineFault.{LineFault}
use Rattle.cap_trace.specs.declared.fault.LineFault.TheVariants as line_faults
use Rattle.cap_trace.specs.Entry.{Entry}
use Rattle.cap_trace.specs.Spelling.{Spells, canon}
use Rattle.cap_trace.specs.Reading.{fault, line_of}
use Rattle.cap_trace.specs.Fault.{line_fault}

abbrev pub SpellsNone : List ℕ → Type 0
SpellsNone bytes = (e : Entry) → Spells bytes e → ⊥

abbrev pub SpellsSome : List ℕ → Type 0
SpellsSome bytes = (e : Entry) × Spells bytes e

-- each fault is given exactly where the bytes spell no line and have that fault
abbrev pub FaultsAreExact : List ℕ → Result Entry LineFault → Type 0
FaultsAreExact bytes r = (f : FirstFault) → (r ≡ Err (line_fault f)) ↔ (SpellsNone bytes × (fault bytes ≡ Some f))

-- what the bytes spell is read, or memory ran out
abbrev pub ReadsOnly : List ℕ → Result Entry LineFault → Type 0
ReadsOnly bytes r = (e : Entry) → Spells bytes e → (r ≡ Ok e) ⊎ (r ≡ Err line_faults.Memory)

-- the result is what reading gives: the line, its first fault, or out of memory for a line
abbrev pub MatchesReading : List ℕ → Result Entry LineFault → Type 0
MatchesReading bytes (Ok e) = line_of bytes ≡ Ok e
MatchesReading bytes (Err t) = ((f : FirstFault) × (line_of bytes ≡ Err f) × (t ≡ line_fault f))
    ⊎ ((t ≡ line_faults.Memory) × ((e : Entry) × (line_of bytes ≡ Ok e)))

-- bytes spell at most one line
abbrev pub OneLine : Type 0
OneLine = (bytes : List ℕ) (d e : Entry) → Spells bytes d → Spells bytes e → d ≡ e

-- reading from the left finds exactly what the bytes spell
abbrev pub ReadingIsSpelling : Type 0
ReadingIsSpelling = (bytes : List ℕ) (e : Entry) → Spells bytes e ↔ (line_of bytes ≡ Ok e)

-- what is written for a line is read as that line, and no other spelling of it is written
abbrev pub WrittenIsRead : Type 0
WrittenIsRead = (bytes : List ℕ) (e : Entry) → Spells bytes e → line_of (canon e) ≡ Ok e
