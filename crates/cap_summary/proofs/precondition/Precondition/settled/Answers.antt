use Rattle.std.specs.Prelude.{Bool, false, true, ◌||◌, ◌≡◌}
use Rattle.cap_summary.specs.{Keys.cells_of, Preconditions.IsSaid, Preconditions.is_wrongful, list_any}
use Rattle.cap_summary.specs.Asks.{any_holds}
use Rattle.cap_summary.proofs.{All-nil, arith, or-false}
use Rattle.cap_summary.proofs.precondition.Precondition.settled.Goals as goal

one_met : (all known a w : Bool) → (known ≡ true → all ≡ true) → (all ≡ true → known ≡ false → a ≡ true)
    → (all || (a || w)) ≡ (known || (a || w))
one_met all known a w is always = grind (arith, is, always)

pub returns : goal.returns
returns c =
    let old = c.args.self in
    let united = c.in_ok-asks.ensures in
    let flag = rw c.deref.ensures.value at c.is_certain.ensures in
    let same = c.shrink_to_fit.ensures.items in record {
      met = λ s. rw (same, united.holds (cells_of s), or-false (any_holds (cells_of s) old.asks.items)) (one_met _
          old.certain (any_holds (cells_of s) old.asks.items) (list_any (is_wrongful (cells_of s)) old.refusals.items)
          flag.known (λ is no. rw (united.holds (cells_of s), or-false (any_holds (cells_of s) old.asks.items)) at
          (flag.always is no s)));
      agree = λ s r is. record { asks = (united.agree s r is.asks).0; refusals = rw same at is.refusals };
      settled = record { rises = united.rises; fails = flag.fails };
      each = λ said is. record {
        asks = united.each said is.asks (All-nil (IsSaid said));
        refusals = rw same is.refusals;
      };
      few = rw same (omega (arith, united.few));
      refusals = rw same (omega arith);
    }
