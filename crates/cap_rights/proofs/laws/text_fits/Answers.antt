use Rattle.cap_rights.proofs.Short.{text_is_short, limit_fits}
use Rattle.cap_rights.proofs.laws.text_fits.Goals as goal

pub returns : goal.returns
returns c = record { short = text_is_short; limit = limit_fits }
