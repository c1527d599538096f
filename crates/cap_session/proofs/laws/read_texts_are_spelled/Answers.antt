use Rattle.cap_session.proofs.TextsSpelled.{traces_are_spelled, starts_are_spelled}
use Rattle.cap_session.proofs.laws.read_texts_are_spelled.Goals as goal

pub returns-clause-trace : goal.returns-clause-trace
returns-clause-trace c = traces_are_spelled

pub returns-clause-start : goal.returns-clause-start
returns-clause-start c = starts_are_spelled
