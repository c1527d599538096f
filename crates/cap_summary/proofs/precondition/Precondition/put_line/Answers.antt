use Rattle.cap_summary.specs.{All, Asks.AgreeOn, Asks.AreWithin, Asks.any_holds, Asks.asks_of, List, length, ◌≡◌}
use Rattle.cap_summary.specs.{declared.ask.Ask.Ask, Preconditions.IfNamed, Preconditions.is_wrongful}
use Rattle.cap_summary.proofs.{Meeting.with_room, arith, on_ok_weaker}
use Rattle.cap_summary.proofs.precondition.Precondition.put_line.Goals as goal

pub returns-in-Where : goal.returns-in-Where
returns-in-Where c =
    let asks : List Ask = asks_of c.in-Where.asks in
    rw c.in-Where.is (on_ok_weaker c.put_after.result (with_room c.args.first.now (λ cells. any_holds cells asks)
    (λ s r. All (AgreeOn s r) asks) (IfNamed (λ names. AreWithin names asks)) (length asks) 3 0 0 c.args.self.now
    c.put_after.new.self (rw c.as_slice.ensures.asks at c.as_slice.ensures.few) (omega arith))
    (rw c.as_slice.ensures.asks at c.put_after.ensures))

pub returns-in-Unless : goal.returns-in-Unless
returns-in-Unless c =
    let unless = c.in-Unless.asks in
    rw c.in-Unless.is (on_ok_weaker c.refuse_after.result (with_room c.args.first.now (λ cells. is_wrongful cells unless)
    (λ s r. is_wrongful s unless ≡ is_wrongful r unless) (IfNamed (λ names. AreWithin names (asks_of unless))) 1 3 1 1
    c.args.self.now c.refuse_after.new.self (omega arith) (omega arith)) c.refuse_after.ensures.more)
