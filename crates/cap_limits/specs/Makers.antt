-- The least rights of each descriptor that a trace makes, right after the step that made it; of an unknown one what later
-- steps need of it.
use Rattle.std.specs.Prelude.{◌≡◌, ◌⊎◌, ℕ, ◌+◌, ◌<◌, ◌==◌, nat_lt, if◌then◌else◌, List, [], ◌∷◌, ◌++◌}
use Rattle.cap_trace.specs.Item.{Item}
use Rattle.cap_trace.specs.Item as items
use Rattle.cap_trace.specs.Entry.{kind_of}
use Rattle.cap_trace.specs.declared.calls.ResultKind.{ResultKind}
use Rattle.cap_trace.specs.declared.calls.ResultKind.TheVariants.{Fd, Same, FdPair, ChildAndFd}
use Rattle.cap_trace.specs.declared.line.Answer.{Answer}
use Rattle.cap_trace.specs.declared.line.Answer.TheVariants as answers
use Rattle.cap_machine.specs.declared.cell.OnExec.TheVariants.{Unsure}
use Rattle.cap_machine.specs.declared.cell.Cell.TheVariants.{Unknown, Closed}
use Rattle.cap_machine.specs.declared.step.Step.{Step}
use Rattle.cap_limits.specs.declared.makers.MakerLimit.{MakerLimit}
use Rattle.cap_limits.specs.declared.makers.MakerRow.{MakerRow}
use Rattle.cap_limits.specs.declared.makers.MakerRow.TheVariants as rows
use Rattle.cap_machine.specs.State.{State}
use Rattle.cap_machine.specs.History.{ended}
use Rattle.cap_limits.specs.Limits.{IsLimit}
use Rattle.cap_limits.specs.LimitsBefore.{IsUnknownLimit}
use Rattle.cap_limits.specs.Live.{Live}

-- ---- the descriptors that a line makes

abbrev pub one_fd : Answer → List ℕ
one_fd (answers.Made n) = n ∷ []
one_fd _ = []

-- two, the larger first, and each number once
abbrev pub two_fds : Answer → List ℕ
two_fds (answers.Pair n m) = if n == m then n ∷ [] else (if nat_lt n m then m ∷ n ∷ [] else n ∷ m ∷ [])
two_fds _ = []

-- pdfork(2): beside its child; the child's own return, 0, makes none
abbrev pub fd_with_child : Answer → List ℕ
fd_with_child (answers.Pair c n) = if c == 0 then [] else n ∷ []
fd_with_child _ = []

-- by what a call answers where it doesn't fail
abbrev pub made_of : ResultKind → Answer → List ℕ
made_of Fd answer = one_fd answer
made_of (Same g) answer = one_fd answer
made_of FdPair answer = two_fds answer
made_of ChildAndFd answer = fd_with_child answer
made_of _ answer = []

abbrev pub made_fds : Item → List ℕ
made_fds (items.Call call answer) = made_of (kind_of call) answer
made_fds _ = []

-- ---- what is said of them

-- a position, a process and a descriptor
abbrev pub Place : Type 0
Place = ℕ × ℕ × ℕ

abbrev pub place_of : MakerLimit → Place
place_of limit = (limit.at, limit.pid, limit.fd)

abbrev pub row_place : MakerRow → Place
row_place (rows.Held limit) = place_of limit
row_place (rows.Unknown limit) = place_of limit

-- the row limits a held descriptor to its live rights, or has the rights that are live in an unknown one, at least one
abbrev pub IsMakerRow : State → List Step → MakerRow → Type 0
IsMakerRow s later (rows.Held limit) = IsLimit s later limit.pid (limit.fd, limit.rights)
IsMakerRow s later (rows.Unknown limit) = IsUnknownLimit s later limit.pid (limit.fd, limit.rights)

-- nothing is said of a descriptor: it is closed, or unknown and no right is live in it
abbrev pub IsUnsaid : State → List Step → ℕ → ℕ → Type 0
IsUnsaid s later p f = (s.cell p f ≡ Closed)
    ⊎ ((s.cell p f ≡ Unknown) × ((k : ℕ) → k < 63 → Live later p f Unsure k → ⊥))

-- of these descriptors, in their order, one row each or nothing
abbrev pub AreRowsOf : State → List Step → ℕ → ℕ → List ℕ → List MakerRow → Type 0
AreRowsOf s later at p [] own = own ≡ []
AreRowsOf s later at p (f ∷ fds) own = (IsUnsaid s later p f × AreRowsOf s later at p fds own)
    ⊎ ((row : MakerRow) × (others : List MakerRow) × (own ≡ row ∷ others) × (row_place row ≡ (at, p, f))
    × IsMakerRow s later row × AreRowsOf s later at p fds others)

-- Of each step that makes descriptors, where the steps begin at a position: their rows, by what is known and live right
-- after it. The last step comes first, so that each limit can be put in right after its step without a shift of the
-- others.
abbrev pub AreMakerRows : State → ℕ → List Step → List MakerRow → Type 0
AreMakerRows s at [] made = made ≡ []
AreMakerRows s at (step ∷ later) made =
    let next = ended s (step ∷ []) in
    (beyond : List MakerRow) × (own : List MakerRow) × (made ≡ beyond ++ own)
    × AreMakerRows next (at + 1) later beyond
    × AreRowsOf next later at step.line.pid (made_fds step.line.item) own
