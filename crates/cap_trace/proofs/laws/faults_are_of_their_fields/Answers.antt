use Rattle.cap_trace.proofs.FirstFaults.{too_long, pid_exactly, right_only}
use Rattle.cap_trace.proofs.SpoiledLines.{spoiled_argument, spoiled_answer}
use Rattle.cap_trace.proofs.laws.faults_are_of_their_fields.Goals as goal

pub returns : goal.returns
returns c = record {
  too_long = too_long;
  pid = pid_exactly;
  right = right_only;
  argument = spoiled_argument;
  answer = spoiled_answer;
}
