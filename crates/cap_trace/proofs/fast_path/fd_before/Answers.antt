use Rattle.std.specs.Fmt.{decimal}
use Rattle.std.proofs.Common.{refl}
use Rattle.cap_trace.proofs.fast_path.fd_before.Goals as goal

pub returns : goal.returns
returns c =
    record {
      spelling = decimal c.in_ok-fd.fd;
      arg = (refl, c.if-fd-gt-LARGEST_FD.false);
      parts = c.in_ok-fd.ensures;
    }
