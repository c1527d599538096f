-- What a run reads and writes, and the status that it ends with. `Finishes` is the contract of `answer`, which is the
-- whole program but for its arguments and its devices.
use Rattle.std.specs.Prelude.{◌≡◌, ◌⊎◌, ℕ, List, [], ◌∷◌, ◌++◌, drop, Option, Some, None}
use Rattle.std.specs.Prelude.{option_map, option_to_list, string_bytes}
use Rattle.clap.specs.Words.{Text}
use Rattle.cap_machine.specs.declared.cell.Profile.{Profile}
use Rattle.cap_session.specs.Devices.{SourceState, SinkState}
use Rattle.cap_session.specs.EditStreams.{EditStartStreams}
use Rattle.cap_session.specs.AnswerStreams.{AnswerStartStreams}
use Rattle.cap_session.specs.ExplainStreams.{explanation_says}
use Rattle.cap_session.specs.Streams.{asked_from}
use Rattle.cap_session.specs.LimitStreams.{limits_say}
use Rattle.cap_session.specs.Outcome.{explain_status_of}
use Rattle.cap_session.specs.declared.outcome.Outcome.TheVariants.{ReadFault}
use Rattle.cap_session.specs.declared.outcome.ExplainOutcome.{ExplainOutcome}
use Rattle.cap_session.specs.declared.outcome.ExplainOutcome.TheVariants.{Ended, OutOfRange}
use Rattle.cap_session.specs.Writes.{Wrote, WrotePrefix}
use Rattle.capcheck.specs.Texts.{Known, Gives, MayFail, Opens, holds}
use Rattle.capcheck.specs.Plans.{Fits, NamedRun, run_of}
use Rattle.capcheck.specs.declared.plan.Plan.{Plan}
use Rattle.capcheck.specs.declared.plan.Plan.TheVariants.{Run, Help, Usage, Memory}
use Rattle.capcheck.specs.declared.plan.Task.{Task}
use Rattle.capcheck.specs.declared.plan.Task.TheVariants.{Ask, Edit, Explain, Limits}

-- how often each text may be read
abbrev pub turns : ℕ
turns = 2147483648

-- What a task does in a profile: z is the reader of the start, r that of the trace, s that of the script, and w the writer.
abbrev pub TaskStreams : Profile → Task → SourceState → SourceState → SourceState → SourceState → SourceState → SourceState
    → SinkState → SinkState → ExplainOutcome → Type 0
TaskStreams profile (Ask question) z0 z1 r0 r1 s0 s1 w0 w1 outcome =
    AnswerStartStreams (asked_from question profile) turns z0 z1 r0 r1 w0 w1 outcome
TaskStreams profile (Explain position) z0 z1 r0 r1 s0 s1 w0 w1 outcome =
    AnswerStartStreams (explanation_says profile position) turns z0 z1 r0 r1 w0 w1 outcome
TaskStreams profile (Limits at) z0 z1 r0 r1 s0 s1 w0 w1 outcome =
    AnswerStartStreams (limits_say profile at) turns z0 z1 r0 r1 w0 w1 outcome
TaskStreams profile Edit z0 z1 r0 r1 s0 s1 w0 w1 (Ended outcome) =
    EditStartStreams profile turns z0 z1 r0 r1 s0 s1 w0 w1 outcome
TaskStreams profile Edit z0 z1 r0 r1 s0 s1 w0 w1 OutOfRange = ⊥

-- a start, a trace and a script, in the order in which they are opened
abbrev pub in_order : {A : Type 0} → Option A → A → Option A → List A
in_order start trace script = option_to_list start ++ (trace ∷ option_to_list script)

-- the names of a run's texts, in that order
abbrev pub names_of : NamedRun → List (Option Text)
names_of run = in_order run.start run.trace run.script

-- their readers: z is that of the start, where one is named, r that of the trace, and s that of the script, where there is one
abbrev pub readers_of : {R : Type 0} → NamedRun → R → R → R → List R
readers_of run z r s = in_order (option_map (λ name. z) run.start) r (option_map (λ name. s) run.script)

-- The texts of these names were opened, one after the other and each once, and these readers came of it.
abbrev pub OpensAll : {T R : Type 0} → Opens T R → T → List (Option Text) → List R → T → Type 0
OpensAll opens t0 [] [] t1 = t1 ≡ t0
OpensAll {T = T} opens t0 (name ∷ names) (reader ∷ readers) t2 =
    (t1 : T) × opens t0 name (Some reader) t1 × OpensAll opens t1 names readers t2
OpensAll opens t0 [] (reader ∷ readers) t1 = ⊥
OpensAll opens t0 (name ∷ names) [] t1 = ⊥

-- One of these can't be opened. Those before it were, each once, and none after it.
abbrev pub OpensUntil : {T R : Type 0} → Opens T R → T → List (Option Text) → T → Type 0
OpensUntil opens t0 [] t1 = ⊥
OpensUntil {T = T} {R = R} opens t0 (name ∷ names) t2 = opens t0 name None t2
    ⊎ ((reader : R) × (t1 : T) × opens t0 name (Some reader) t1 × OpensUntil opens t1 names t2)

-- a text can't be opened, and nothing was written
pub record Unopened (opens_until may_fail : Type 0) (w0 w1 : SinkState) (outcome : ExplainOutcome) : Type 0 where
  pub until : opens_until
  pub why : may_fail
  pub silent : w1 ≡ w0
  pub fault : outcome ≡ Ended ReadFault

-- Three texts with these known bytes were opened, the start as z, the trace as r and the script as s. Then they were read
-- so: each from its state at first to its state at the end. All are readers of the texts' own type R, which has this
-- state.
pub record OpensEach {R : Type 0} (state : R → SourceState) (opens_all : R → R → R → Type 0) (start trace script : Known)
    (P : SourceState → SourceState → SourceState → SourceState → SourceState → SourceState → Type 0) : Type 0 where
  pub z0 : R
  pub z1 : R
  pub r0 : R
  pub r1 : R
  pub s0 : R
  pub s1 : R
  pub opened : opens_all z0 r0 s0
  pub start_text : Gives start (state z0).bytes
  pub trace_text : Gives trace (state r0).bytes
  pub script_text : Gives script (state s0).bytes
  pub reads : P (state z0) (state z1) (state r0) (state r1) (state s0) (state s1)

-- What is known of a text that a run may have. Where it has none, an empty text is read, which is the usual start.
abbrev pub known_of : (Option Text → Known) → Option (Option Text) → Known
known_of known None = holds []
known_of known (Some name) = known name

-- one of the texts of a run may be one that can't be opened
abbrev pub AnyMayFail : (Option Text → Known) → NamedRun → Type 0
AnyMayFail known run =
    MayFail (known_of known run.start) ⊎ MayFail (known run.trace) ⊎ MayFail (known_of known run.script)

-- A run was carried out. Readers have this state, names are opened so, and this is known of the texts of names.
abbrev pub RunsText : {T R : Type 0} → (R → SourceState) → Opens T R → (Option Text → Known) → NamedRun → T → T
    → SinkState → SinkState → ExplainOutcome → Type 0
RunsText state opens known run t0 t1 w0 w1 outcome =
    Unopened (OpensUntil opens t0 (names_of run) t1) (AnyMayFail known run) w0 w1 outcome
    ⊎ OpensEach state (λ z r s. OpensAll opens t0 (names_of run) (readers_of run z r s) t1)
    (known_of known run.start) (known run.trace) (known_of known run.script)
    (λ z0 z1 r0 r1 s0 s1. TaskStreams run.profile run.task z0 z1 r0 r1 s0 s1 w0 w1 outcome)

-- The whole text was written, and the status is 0; or a prefix of it was, since the writer failed, and the status is 3.
abbrev pub Prints : List ℕ → SinkState → SinkState → ℕ → Type 0
Prints text w0 w1 status = (Wrote w0 w1 text × (status ≡ 0)) ⊎ (WrotePrefix w0 w1 text × (status ≡ 3))

-- A plan was carried out, and the status is that of its outcome. Without a run no text is opened.
abbrev pub CarriesOut : {T R : Type 0} → (R → SourceState) → Opens T R → (Option Text → Known) → T → T → SinkState
    → SinkState → Plan → ℕ → Type 0
CarriesOut state opens known t0 t1 w0 w1 (Run run) status = (outcome : ExplainOutcome)
    × RunsText state opens known (run_of run) t0 t1 w0 w1 outcome × (status ≡ explain_status_of outcome)
CarriesOut state opens known t0 t1 w0 w1 (Help text) status = (t1 ≡ t0) × Prints (string_bytes text) w0 w1 status
CarriesOut state opens known t0 t1 w0 w1 (Usage text) status = (t1 ≡ t0) × (w1 ≡ w0) × (status ≡ 2)
CarriesOut state opens known t0 t1 w0 w1 Memory status = (t1 ≡ t0) × (w1 ≡ w0) × (status ≡ 3)

-- The words ask for a plan, and it was carried out.
pub record Finishes {T R : Type 0} (state : R → SourceState) (opens : Opens T R) (known : Option Text → Known)
    (words : List Text) (t0 t1 : T) (w0 w1 : SinkState) (status : ℕ) : Type 0 where
  pub plan : Plan
  pub fits : Fits words plan
  pub done : CarriesOut state opens known t0 t1 w0 w1 plan status

-- How the program ends, where reading its arguments may come to these. The first is its name, and the others are words. Where
-- it comes to none, one is no text or memory ran out, and nothing was opened or written.
abbrev pub Ends : {T R : Type 0} → (Option (List Text) → Type 0) → (R → SourceState) → Opens T R → (Option Text → Known)
    → T → T → SinkState → SinkState → ℕ → Type 0
Ends may_be state opens known t0 t1 w0 w1 status =
    ((args : List Text) × may_be (Some args) × Finishes state opens known (drop 1 args) t0 t1 w0 w1 status)
    ⊎ (may_be None × (t1 ≡ t0) × (w1 ≡ w0) × ((status ≡ 2) ⊎ (status ≡ 3)))

-- ---- of readers that never fail

-- no reader of this type has counted a failure
abbrev pub NeverFail : {R : Type 0} → (R → SourceState) → Type 0
NeverFail {R = R} state = (r : R) → (state r).failures ≡ 0

-- A read fault comes only where one of the texts may be one that can't be opened.
abbrev pub TaskIsNoFault : {T R : Type 0} → (R → SourceState) → Opens T R → Type 0
TaskIsNoFault {T = T} state opens = (known : Option Text → Known) (run : NamedRun) (t0 t1 : T) (w0 w1 : SinkState)
    → RunsText state opens known run t0 t1 w0 w1 (Ended ReadFault) → AnyMayFail known run
