use Rattle.std.proofs.Common.{◌≡◌, ap, sym, ◌∙◌}
use Rattle.std.specs.Prelude.{ℕ}
use Rattle.cap_rights.specs.Rights.{holds}
use Rattle.cap_limits.proofs.LimitBits.{without_full_holds}
use Rattle.cap_limits.proofs.live.LiveRights.rights.Goals as goal

pub returns-clause-live : goal.returns-clause-live
returns-clause-live c = λ later live k lt.
    let same : holds c.without_full.result k ≡ holds c.needed.result k =
    ap (λ (r : ℕ). holds r k) c.without_full.ensures.by_name ∙ without_full_holds c.needed.result k lt in
    let is = live c.args.pid c.args.fd c.args.flag k lt in
    let kept : holds c.needed.result k ≡ _ = ap (λ (r : ℕ). holds r k) c.needed.ensures in
    (λ h. is.0 (sym kept ∙ sym same ∙ h), λ h. same ∙ kept ∙ is.1 h)
