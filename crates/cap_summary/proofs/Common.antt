-- The lemmas and rules of std and of the crates below that several proofs take, passed on as by Prelude.
pub use Rattle.std.proofs.Common.{Bor, ap, append-nil, append_assoc, arith, eq-eqb, eqb-true, inl, inr, length-append}
pub use Rattle.std.proofs.Common.{length-take-le, ne_eqb, rules, subst, sym, take-append-drop, take_all, ◌∙◌}
pub use Rattle.std.proofs.{Math.Path.fun_ext, lemmas.Bool.Decides.nat_tests, lemmas.Cmp.ranked}
pub use Rattle.std.proofs.{lemmas.Grind.common_steps, lemmas.List.Folds.list_any-append}
pub use Rattle.std.proofs.{lemmas.List.Folds.list_any_more, lemmas.List.Sorted.list_any-IsPermutation}
pub use Rattle.std.proofs.{lemmas.Option.IfSome_then, lemmas.Result.IfOk-weaker, lemmas.Result.on_ok_weaker}
pub use Rattle.std.proofs.Math.Bool.{and-false, or-false, or-true, or_assoc, or_comm}
pub use Rattle.std.proofs.lemmas.Bool.{and_from, cases_lt, not-true, or_cases, or_left, or_parts, or_right}
pub use Rattle.std.proofs.lemmas.List.{drop_all, length-map, length-reverse, map-append, reverse-append, take_more}
pub use Rattle.std.proofs.lemmas.List.Elements.{All-append, All-cons, All-head, All-nil, All-push, All-tail}
pub use Rattle.cap_rights.proofs.{Members.join_holds}
pub use Rattle.cap_machine.proofs.Turns.{checks_in_turn, checks_more, ends_in_turn}
