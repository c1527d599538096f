use Rattle.cap_rights.proofs.Again.{written_is_read, named_is_read}
use Rattle.cap_rights.proofs.laws.written_is_read.Goals as goal

pub returns : goal.returns
returns c = record { written = written_is_read; named = named_is_read }
