use Rattle.std.proofs.Common.{ap, ◌∙◌}
use Rattle.cap_rights.specs.Rights.{join}
use Rattle.cap_limits.specs.declared.live.fd_rights.FdRights.{FdRights}
use Rattle.cap_limits.specs.Code.Wanted.{rights_of}
use Rattle.cap_limits.proofs.JoinedRights.{join_comm}
use Rattle.cap_limits.proofs.live.fd_rights.FdRights.joined.Goals as goal
use Rattle.cap_limits.proofs.live.fd_rights.FdRights.joined.Goals.{then-len, else-len}

pub returns : goal.returns
returns c = λ f x.
    elim c.if-len.branch [
      | then-len w ↦ c.in_ok-add_all.ensures.added f x
          ∙ ap (λ (p : FdRights × FdRights). join (rights_of p.0 f x) (rights_of p.1 f x)) w.large-is
          ∙ join_comm (rights_of c.args.other f x) (rights_of c.args.self f x)
      | else-len w ↦ c.in_ok-add_all.ensures.added f x
          ∙ ap (λ (p : FdRights × FdRights). join (rights_of p.0 f x) (rights_of p.1 f x)) w.large-is
    ]
