-- The names of std and of the crates below that several files take, passed on from one place. Declares nothing.
pub use Rattle.std.specs.Prelude.{All, IsPermutation, option_copied, option_map, slice_index_or, slice_range, unwrap_or}
pub use Rattle.std.specs.Prelude.{Bool, IfOk, List, None, OnOk, Some, cond, drop, eqb, false, map, refl, take, true, ℕ}
pub use Rattle.std.specs.Prelude.{IfSome, Option, Result, [], filter, get_or, is_none, is_some, length, nat_le, reverse}
pub use Rattle.std.specs.Prelude.{min, not, set, suc, ◌≡◌, ◌+◌, ◌++◌, ◌∷◌, ◌≤◌, ◌<◌, ◌-◌, ◌==◌, ◌||◌, ◌&&◌, ◌⊎◌}
pub use Rattle.std.specs.declared.cmp.Ordering.TheVariants.{Equal, Greater, Less}
pub use Rattle.std.specs.declared.{alloc.Global.Global, cmp.Ordering.Ordering, rc.Rc.Rc, vec.Vec.Vec}
pub use Rattle.std.specs.{Cmp.Lexicographic.pointwise, List.AllZip, List.Sorted.IsNonDecreasingBy, Option.option_map_or}
pub use Rattle.std.specs.{Int.bit_at, List.list_all, List.list_any, Option.option_or, Ordering.nat_cmp, Prelude.IfNone}
pub use Rattle.cap_rights.specs.Rights.{all, has_all, join, none}
pub use Rattle.cap_trace.specs.declared.calls.ResultKind.{ResultKind}
pub use Rattle.cap_trace.specs.{Entry.Entry, Entry.kind_of, Item.Item, Views.fds_spelled, declared.line.Answer.Answer}
pub use Rattle.cap_machine.specs.{Code.Walks.LeavesCell, Code.Walks.LeavesMode, Effect.is_child}
pub use Rattle.cap_machine.specs.{Check.check, Check.found_at, Check.said, Explain.Explained, Explain.explained}
pub use Rattle.cap_machine.specs.Judge.{all_excused, fault, faults, has_check, is_outside, listed}
pub use Rattle.cap_machine.specs.Touch.{Touch, Turn, follows, given, kept, started, stays, taken, touch, turn, turns}
pub use Rattle.cap_machine.specs.declared.cell.Cell.{Cell, TheVariants.Closed, TheVariants.Held, TheVariants.Unknown}
pub use Rattle.cap_machine.specs.declared.cell.OnExec.{OnExec, TheVariants.Clear, TheVariants.Set, TheVariants.Unsure}
pub use Rattle.cap_machine.specs.declared.cell.{HeldOp.HeldOp, Mode.TheVariants.Inside, Mode.TheVariants.Outside, Op.Op}
pub use Rattle.cap_machine.specs.declared.rule.{Check.Check, Effect.Effect as LineEffect, Reply.TheVariants.NotCapable}
pub use Rattle.cap_machine.specs.declared.rule.{Checks.Checks, LimitWord.LimitWord, Requirement.Requirement}
pub use Rattle.cap_machine.specs.declared.walks.{CellWalk.CellWalk, ModeWalk.ModeWalk}
pub use Rattle.cap_machine.specs.declared.{cell.Mode.Mode, step.Step.Step, verdict.Finding.Finding, verdict.Found.Found}
pub use Rattle.cap_machine.specs.{Check.findings_of, History.ended, History.touched, Named.args_name, Rule.requirement}
pub use Rattle.cap_machine.specs.{Effect.effect_touch, Effect.effect_turn, Explain.explanation, State.start_state}
pub use Rattle.cap_machine.specs.{Laws.later, Named.fds_of, Named.names_pid, Op.applied, Op.exec, Op.same, State.State}
pub use Rattle.cap_tree.specs.{Run.values, Sides.part_at, declared.similarity.Similarity.Similarity}
