use Rattle.std.proofs.Common.{◌≡◌, Ok, Err, inr, refl, sym, ap, ◌∙◌}
use Rattle.cap_trace.specs.declared.fault.LineFault.TheVariants as line_faults
use Rattle.cap_trace.specs.Reading.{line_of}
use Rattle.cap_trace.proofs.ParseClauses.{found_by, faults_by, memory_by, only_by}
use Rattle.cap_trace.proofs.parse.parse_line.Goals as goal

reads : (c : goal.In-Ok-to_line) → line_of c.args.bytes.now ≡ Ok c.in-Ok-to_line.line
reads c = c.in-Ok.ensures.read ∙ ap Ok (sym c.in-Ok-to_line.ensures)

pub returns-in-Ok-to_line : goal.returns-in-Ok-to_line
returns-in-Ok-to_line c = record {
  found = found_by c.args.bytes.now (Ok c.in-Ok-to_line.line) (reads c);
  faults = faults_by c.args.bytes.now (Ok c.in-Ok-to_line.line) (reads c);
  memory = memory_by c.args.bytes.now (Ok c.in-Ok-to_line.line) (reads c);
  only = only_by c.args.bytes.now (Ok c.in-Ok-to_line.line) (reads c);
  reads = reads c;
}

pub returns-in-Err-to_line-clause-memory : goal.returns-in-Err-to_line-clause-memory
returns-in-Err-to_line-clause-memory c =
    memory_by c.args.bytes.now (Err line_faults.Memory) (inr (refl, (c.in-Ok.line, c.in-Ok.ensures.read)))

pub returns-in-Err-clause-faults : goal.returns-in-Err-clause-faults
returns-in-Err-clause-faults c = faults_by c.args.bytes.now (Err c.in-Err.fault) c.in-Err.ensures.read

pub returns-in-Err-clause-only : goal.returns-in-Err-clause-only
returns-in-Err-clause-only c = only_by c.args.bytes.now (Err c.in-Err.fault) c.in-Err.ensures.read
