use Rattle.std.proofs.Common.{◌≡◌, ◌++◌, ◌∙◌, ap, true, List, ℕ, map}
use Rattle.std.specs.List.{join_with_byte}
use Rattle.cap_trace.specs.Views.{fds_spelled}
use Rattle.cap_trace.specs.Entry.{fds}
use Rattle.cap_trace.specs.Code.Making.{all_rise}
use Rattle.cap_trace.specs.Spelling.{arg_text}
use Rattle.cap_trace.proofs.GoodLines.{fds_written}
use Rattle.cap_trace.proofs.making.Fds.new.Goals as goal

pub returns-in-Ok : goal.returns-in-Ok
returns-in-Ok c =
    let rising : all_rise 0 c.args.fds.now ≡ true = cc in (
      rising,
      ap fds_spelled (c.in-Ok.ensures.ok
          ∙ ap (λ (t : List ℕ). t ++ join_with_byte 44 (map arg_text (fds c.args.fds.now))) c.new-text.ensures.items)
          ∙ fds_written c.args.fds.now rising,
    )
