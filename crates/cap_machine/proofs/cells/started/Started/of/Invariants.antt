use Rattle.std.proofs.Common.{◌≡◌, ℕ, ◌≤◌, ◌==◌, take}
use Rattle.std.specs.List.{list_any}
use Rattle.cap_machine.specs.declared.cells.deferred.Deferred.TheVariants.{Nothing}
use Rattle.cap_machine.specs.Code.Cells.Started.{is_listed}
use Rattle.cap_machine.proofs.cells.started.Started.of.Given as goal

abbrev pub invariant-loop-fd : goal.invariant-loop-fd
invariant-loop-fd l = record {
  listed : (f : ℕ) → 64 ≤ f → is_listed l.started f ≡ list_any (λ g. f == g) (take l.fd-index l.fds);
  deferred : l.started.deferred ≡ Nothing;
}
