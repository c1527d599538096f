use Rattle.std.proofs.Common.{sym, ap, ◌∙◌}
use Rattle.cap_session.specs.StartWords.{left}
use Rattle.cap_session.proofs.Spelled.{next_word}
use Rattle.cap_session.proofs.start_fields.Words.next.Goals as goal

pub returns : goal.returns
returns c = sym c.self.view_is ∙ ap left c.in_ok-text.was
    ∙ next_word c.in_ok-text.text.now _ c.split_word.result.1 c.split_word.ensures.word c.split_word.ensures.rest
