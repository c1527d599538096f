-- From what reading gives to the clauses of parse_line.
use Rattle.std.proofs.Common.{◌≡◌, ℕ, List, Option, Some, None, Result, Ok, Err, refl, sym, ap, ◌∙◌, inl, inr}
use Rattle.std.specs.Prelude.{IfOk}
use Rattle.cap_trace.specs.Spelling.{Spells}
use Rattle.cap_trace.specs.declared.fault.FirstFault.{FirstFault}
use Rattle.cap_trace.specs.declared.fault.FirstFault.TheVariants as faults
use Rattle.cap_trace.specs.declared.fault.LineFault.{LineFault}
use Rattle.cap_trace.specs.declared.fault.LineFault.TheVariants as line_faults
use Rattle.cap_trace.specs.Entry.{Entry}
use Rattle.cap_trace.specs.Reading.{line_of}
use Rattle.cap_trace.specs.Fault.{line_fault}
use Rattle.cap_trace.specs.Parsing.{SpellsNone, SpellsSome, FaultsAreExact, ReadsOnly, MatchesReading}
use Rattle.cap_trace.proofs.WholeLines.{line_again, line_takes}
use Rattle.cap_trace.proofs.Rising.{ok_same}
use Rattle.cap_trace.proofs.FirstFaults.{err_fault}

read_fault : LineFault → Option FirstFault
read_fault line_faults.LongLine = Some faults.LongLine
read_fault line_faults.Shape = Some faults.Shape
read_fault line_faults.Pid = Some faults.Pid
read_fault line_faults.Argument = Some faults.Argument
read_fault line_faults.Right = Some faults.Right
read_fault line_faults.Answer = Some faults.Answer
read_fault line_faults.Memory = None

read_fault_again : (f : FirstFault) → read_fault (line_fault f) ≡ Some f
unfolding read_fault
read_fault_again faults.LongLine = refl
read_fault_again faults.Shape = refl
read_fault_again faults.Pid = refl
read_fault_again faults.Argument = refl
read_fault_again faults.Right = refl
read_fault_again faults.Answer = refl

same_fault : (d f : FirstFault) → line_fault d ≡ line_fault f → ◌≡◌ {A = Option FirstFault} (Some d) (Some f)
same_fault d f e = sym (read_fault_again d) ∙ ap read_fault e ∙ read_fault_again f

none_spelled : (bytes : List ℕ) (d : FirstFault) → line_of bytes ≡ Err d → SpellsNone bytes
none_spelled bytes d h = λ e s. absurd (let g = sym h ∙ line_again bytes e s in cc)

faults_exact : (bytes : List ℕ) (d : FirstFault) (l : LineFault) → line_of bytes ≡ Err d → l ≡ line_fault d
    → FaultsAreExact bytes (Err l)
faults_exact bytes d l h e f = (
  λ given. let same : l ≡ line_fault f = (let g = given in cc) in
      (none_spelled bytes d h, err_fault bytes d h ∙ same_fault d f (sym e ∙ same)),
  λ p. let same : ◌≡◌ {A = Option FirstFault} (Some d) (Some f) = sym (err_fault bytes d h) ∙ p.1 in
      let one : d ≡ f = (let s = same in cc) in
      ap Err (e ∙ ap line_fault one),
)

only_none : (bytes : List ℕ) (d : FirstFault) (r : Result Entry LineFault) → line_of bytes ≡ Err d
    → ReadsOnly bytes r
only_none bytes d r h = λ e s. absurd (none_spelled bytes d h e s)

only_this : (bytes : List ℕ) (x : Entry) → line_of bytes ≡ Ok x → ReadsOnly bytes (Ok x)
only_this bytes x h = λ e s. inl (ap Ok (ok_same x e (sym h ∙ line_again bytes e s)))

-- ---- each clause, by what reading gives

no_memory : (f : FirstFault) → line_fault f ≡ line_faults.Memory → ⊥
unfolding read_fault
no_memory f e = let none = sym (read_fault_again f) ∙ ap read_fault e in cc

pub found_by : (bytes : List ℕ) (r : Result Entry LineFault) → MatchesReading bytes r → IfOk r (λ e. Spells bytes e)
found_by bytes (Ok e) h = line_takes bytes e h
found_by bytes (Err t) h = tt

pub faults_by : (bytes : List ℕ) (r : Result Entry LineFault) → MatchesReading bytes r → FaultsAreExact bytes r
faults_by bytes (Ok e) h f = (λ given. absurd (let g = given in cc), λ p. absurd (p.0 e (line_takes bytes e h)))
faults_by bytes (Err t) (inl x) f = faults_exact bytes x.0 t x.1 x.2 f
faults_by bytes (Err t) (inr x) f = (
  λ given. absurd (no_memory f (let g : t ≡ line_fault f = (let k = given in cc) in sym g ∙ x.0)),
  λ p. absurd (p.0 x.1.0 (line_takes bytes x.1.0 x.1.1)),
)

pub memory_by : (bytes : List ℕ) (r : Result Entry LineFault) → MatchesReading bytes r
    → r ≡ Err line_faults.Memory → SpellsSome bytes
memory_by bytes (Ok e) h given = absurd cc
memory_by bytes (Err t) (inl x) given =
    absurd (no_memory x.0 (let g : t ≡ line_faults.Memory = cc in sym x.2 ∙ g))
memory_by bytes (Err t) (inr x) given = (x.1.0, line_takes bytes x.1.0 x.1.1)

pub only_by : (bytes : List ℕ) (r : Result Entry LineFault) → MatchesReading bytes r → ReadsOnly bytes r
only_by bytes (Ok e) h = only_this bytes e h
only_by bytes (Err t) (inl x) = only_none bytes x.0 (Err t) x.1
only_by bytes (Err t) (inr x) = λ e s. inr (ap Err x.0)
