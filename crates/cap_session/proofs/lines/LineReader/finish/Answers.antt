use Rattle.std.proofs.Common.{refl}
use Rattle.cap_session.proofs.Reach.{ends_whole, ends_with}
use Rattle.cap_session.proofs.lines.LineReader.finish.Goals as goal

pub returns : goal.returns
returns g c = λ start given r.
    ends_with g.L.Lines.next start (g.L.Lines.follows c.args.self.now.lines)
    (g.L.Lines.follows c.complete.new.self.lines)
    given c.args.self.now.held c.args.self.now.number c.complete.result r
    (λ none. let no = c.if-is_empty.ensures.1 none in cc) (c.complete.ensures.completes r.known r.does)

pub returns-then-is_empty : goal.returns-then-is_empty
returns-then-is_empty g c = λ start given r.
    let none = c.if-is_empty.ensures.0 refl in (
      r.known,
      ends_whole g.L.Lines.next start
          (g.L.Lines.follows c.args.self.now.lines) given c.args.self.now.held c.args.self.now.number r none,
      r.does,
    )
