-- Readers that never fail give no run a read fault.
use Rattle.std.proofs.Common.{◌≡◌, ◌+◌, List, inl, inr, arith}
use Rattle.cap_machine.specs.State.{Added}
use Rattle.cap_machine.specs.declared.cell.Profile.{Profile}
use Rattle.cap_session.specs.AnswerStreams.{Says, AnswerStartStreams}
use Rattle.cap_session.specs.Devices.{SourceState, SinkState}
use Rattle.cap_session.specs.EditStreams.{EditStreams}
use Rattle.cap_session.specs.declared.session.Setting.{Setting}
use Rattle.cap_session.specs.declared.outcome.Outcome.TheVariants.{ReadFault}
use Rattle.cap_session.specs.declared.outcome.ExplainOutcome.TheVariants.{Ended}
use Rattle.capcheck.specs.Runs.{NeverFail, TaskIsNoFault, TaskStreams, turns}
use Rattle.capcheck.specs.Texts.{Opens}
use Rattle.capcheck.specs.declared.plan.Task.{Task}
use Rattle.capcheck.specs.declared.plan.Task.TheVariants.{Ask, Edit, Explain, Limits}

module _ {R : Type 0} (state : R → SourceState) (never : NeverFail state) where
  none : (r0 r1 : R) → (state r1).failures ≡ (state r0).failures + 1 → ⊥
  none r0 r1 fault = let a = never r0 in let b = never r1 in omega arith

  answered : (says : List Added → Says) (z0 z1 r0 r1 : R) (w0 w1 : SinkState)
      → AnswerStartStreams says turns (state z0) (state z1) (state r0) (state r1) w0 w1 (Ended ReadFault) → ⊥
  answered says z0 z1 r0 r1 w0 w1 (inl s) = none z0 z1 s.stopped.read_fault
  answered says z0 z1 r0 r1 w0 w1 (inr s) = none r0 r1 s.done.read_fault

  edited : (setting : Setting) (r0 r1 s0 s1 : R) (w0 w1 : SinkState)
      → EditStreams setting turns (state r0) (state r1) (state s0) (state s1) w0 w1 ReadFault → ⊥
  edited setting r0 r1 s0 s1 w0 w1 (inl s) = none r0 r1 s.stopped.read_fault
  edited setting r0 r1 s0 s1 w0 w1 (inr s) = none s0 s1 s.done.read_fault

  performed : (profile : Profile) (task : Task) (z0 z1 r0 r1 s0 s1 : R) (w0 w1 : SinkState)
      → TaskStreams profile task (state z0) (state z1) (state r0) (state r1) (state s0) (state s1) w0 w1 (Ended ReadFault)
      → ⊥
  performed profile (Ask question) z0 z1 r0 r1 s0 s1 w0 w1 s = answered _ z0 z1 r0 r1 w0 w1 s
  performed profile (Explain position) z0 z1 r0 r1 s0 s1 w0 w1 s = answered _ z0 z1 r0 r1 w0 w1 s
  performed profile (Limits at) z0 z1 r0 r1 s0 s1 w0 w1 s = answered _ z0 z1 r0 r1 w0 w1 s
  performed profile Edit z0 z1 r0 r1 s0 s1 w0 w1 (inl s) = none z0 z1 s.0.stopped.read_fault
  performed profile Edit z0 z1 r0 r1 s0 s1 w0 w1 (inr s) = edited _ r0 r1 s0 s1 w0 w1 s.done

  pub task_is_no_fault : {T : Type 0} (opens : Opens T R) → TaskIsNoFault state opens
  task_is_no_fault opens known run t0 t1 w0 w1 (inl u) = u.why
  task_is_no_fault opens known run t0 t1 w0 w1 (inr b) =
      absurd (performed run.profile run.task b.z0 b.z1 b.r0 b.r1 b.s0 b.s1 w0 w1 b.reads)
