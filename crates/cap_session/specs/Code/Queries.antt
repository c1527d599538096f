-- What is said of the lines of a trace that was read, for what was asked of it. Only the code's contracts use this.
use Rattle.std.specs.Prelude.{List}
use Rattle.cap_machine.specs.declared.cell.Profile.{Profile}
use Rattle.cap_machine.specs.State.{Added}
use Rattle.cap_session.specs.AnswerStreams.{Says}
use Rattle.cap_session.specs.ExplainStreams.{explanation_says}
use Rattle.cap_session.specs.LimitStreams.{limits_say}
use Rattle.cap_session.specs.declared.explaining.Query.{Query}
use Rattle.cap_session.specs.declared.explaining.Query.TheVariants.{Explanation, Limits}

abbrev pub query_says : Query → Profile → List Added → Says
query_says (Explanation k) profile = explanation_says profile k
query_says (Limits at) profile = limits_say profile at
