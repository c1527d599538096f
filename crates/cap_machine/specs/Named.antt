-- What a line can touch: its process and a child, and of single descriptors those that it names.
use Rattle.std.specs.Prelude.{◌≡◌, ℕ, ◌≤◌, ◌==◌, ◌&&◌, ◌||◌, not, Bool, true, false, List, [], ◌∷◌, length}
use Rattle.std.specs.List.{list_any, All}
use Rattle.cap_trace.specs.Views.{fds_spelled}
use Rattle.cap_trace.specs.Item.{Item}
use Rattle.cap_trace.specs.Item as items
use Rattle.cap_trace.specs.Call.{Call}
use Rattle.cap_trace.specs.Call as calls
use Rattle.cap_trace.specs.declared.line.Dir.{Dir}
use Rattle.cap_trace.specs.declared.line.Dir.TheVariants as dirs
use Rattle.cap_trace.specs.declared.line.Answer.{Answer}
use Rattle.cap_trace.specs.declared.line.Answer.TheVariants as answers
use Rattle.cap_trace.specs.declared.calls.FdCall.TheVariants.{Fexecve, Closefrom}
use Rattle.cap_trace.specs.declared.calls.PathCall.TheVariants.{Execve}
use Rattle.cap_trace.specs.declared.calls.BareCall.TheVariants.{Fork, Vfork, Pdfork}
use Rattle.cap_trace.specs.Entry.{Entry, Arg, an_fd, a_dir, args_of}
use Rattle.cap_machine.specs.declared.step.Step.{Step}
use Rattle.cap_machine.specs.declared.verdict.Found.{Found}
use Rattle.cap_machine.specs.State.{State}
use Rattle.cap_machine.specs.declared.cell.Op.{Op}
use Rattle.cap_machine.specs.declared.rule.Check.{Check}
use Rattle.cap_machine.specs.declared.rule.Effect.{Effect}
use Rattle.cap_machine.specs.declared.rule.Effect.TheVariants.{Start, Give, GiveTwo, Change, ForkAs}
use Rattle.cap_machine.specs.Touch.{kept, taken, stays, touch, turn}
use Rattle.cap_machine.specs.Effect.{effect_touch}
use Rattle.cap_machine.specs.Rule.{requirement}
use Rattle.cap_machine.specs.Judge.{listed}
use Rattle.cap_machine.specs.Check.{check}

-- a descriptor is in an argument, in the answer, in the line
abbrev pub dir_names : ℕ → Dir → Bool
dir_names f (dirs.Fd g) = f == g
dir_names f dirs.Cwd = false

abbrev pub arg_names : ℕ → Arg → Bool
arg_names f (an_fd g) = f == g
arg_names f (a_dir dir) = dir_names f dir
arg_names f _ = false

abbrev pub answer_names : ℕ → Answer → Bool
answer_names f (answers.Made n) = f == n
answer_names f (answers.Pair n m) = f == n || f == m
answer_names f (answers.Fault e) = false

abbrev pub item_answer_names : ℕ → Item → Bool
item_answer_names f (items.Call call answer) = answer_names f answer
item_answer_names f _ = false

abbrev pub args_name : ℕ → Entry → Bool
args_name f line = list_any (arg_names f) (args_of line.item)

abbrev pub names_fd : ℕ → Entry → Bool
names_fd f line = args_name f line || item_answer_names f line.item

-- fork(2), vfork(2), pdfork(2)
abbrev pub is_fork : Call → Bool
is_fork (calls.Bare Fork) = true
is_fork (calls.Bare Vfork) = true
is_fork (calls.Bare Pdfork) = true
is_fork _ = false

-- the process that a fork made
abbrev pub answer_makes : ℕ → Answer → Bool
answer_makes p (answers.Made c) = not (c == 0) && p == c
answer_makes p (answers.Pair c d) = not (c == 0) && p == c
answer_makes p (answers.Fault e) = false

abbrev pub item_makes : ℕ → Item → Bool
item_makes p (items.Call call answer) = is_fork call && answer_makes p answer
item_makes p _ = false

-- a process is the line's own or its child
abbrev pub names_pid : ℕ → Entry → Bool
names_pid p line = p == line.pid || item_makes p line.item

-- a line may change every cell of a process: a start, an exit, a fork, execve(2), fexecve(2) and closefrom(2)
abbrev pub is_whole_call : Call → Bool
is_whole_call (calls.OnFd Fexecve g) = true
is_whole_call (calls.OnFd Closefrom g) = true
is_whole_call (calls.OnPath Execve path) = true
is_whole_call call = is_fork call

abbrev pub is_whole_item : Item → Bool
is_whole_item (items.Call call answer) = is_whole_call call
is_whole_item (items.Start fds) = true
is_whole_item items.Exit = true
is_whole_item (items.Foreign g) = false
is_whole_item (items.Needs marker g rights) = false
is_whole_item items.Global = false

-- a step may hand a whole table of cells on, or close all of one from a descriptor on: those calls
abbrev pub is_table_item : Item → Bool
is_table_item (items.Call call answer) = is_whole_call call
is_table_item _ = false

abbrev pub is_table_step : Step → Bool
is_table_step step = is_table_item step.line.item

-- no step touches another process than its own and its child
abbrev pub OwnProcesses : Type 0
OwnProcesses = (step : Step) (p f : ℕ) → names_pid p step.line ≡ false → touch step p f ≡ kept

abbrev pub OwnModes : Type 0
OwnModes = (step : Step) (p : ℕ) → names_pid p step.line ≡ false → turn step p ≡ stays

-- but for those that may change every cell, none touches a descriptor that it doesn't name
abbrev pub NamedDescriptors : Type 0
NamedDescriptors = (step : Step) (p f : ℕ) → is_whole_item step.line.item ≡ false → names_fd f step.line ≡ false
    → touch step p f ≡ kept

-- a step takes a cell only from its own process, and from another descriptor only where both stand in the line
abbrev pub NamedSources : Type 0
NamedSources = (step : Step) (op : Op) (p f q g : ℕ) → touch step p f ≡ taken op q g → (q ≡ step.line.pid)
    × ((f == g) ≡ false → (names_fd f step.line ≡ true) × (names_fd g step.line ≡ true))

-- the descriptors that an effect has one by one
abbrev pub fds_of : Effect → List ℕ
fds_of (Start fds) = fds_spelled fds.now
fds_of (Give f c) = f ∷ []
fds_of (GiveTwo f g c) = f ∷ g ∷ []
fds_of (Change f op g) = f ∷ g ∷ []
fds_of (ForkAs child f) = f ∷ []
fds_of effect = []

-- they stand in the line
abbrev pub NamedEffects : Type 0
NamedEffects = (step : Step) (effect : Effect) → ((p f : ℕ) → effect_touch effect step.line.pid p f ≡ touch step p f)
    → All (λ f. names_fd f step.line ≡ true) (fds_of effect)

-- what a line is judged by speaks of no other descriptors than those of its arguments
abbrev pub NamedChecks : Type 0
NamedChecks = (line : Entry) → All (λ (check : Check). args_name check.fd line ≡ true)
    (listed (requirement line).checks)

-- each finding is at a position of the trace, from 1
abbrev pub PositionsWithin : Type 0
PositionsWithin = (s : State) (trace : List Step)
    → All (λ (found : Found). (1 ≤ found.at) × (found.at ≤ length trace)) (check s trace)
