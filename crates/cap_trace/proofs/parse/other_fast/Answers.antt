use Rattle.std.proofs.Common.{◌≡◌, ◌∙◌, ℕ, List, ap, subst}
use Rattle.cap_trace.specs.declared.calls.Form.{Form}
use Rattle.cap_trace.specs.declared.calls.Form.TheVariants as forms
use Rattle.cap_trace.specs.declared.calls.NeedsMarker.{NeedsMarker}
use Rattle.cap_trace.specs.declared.names.Head as heads
use Rattle.cap_trace.specs.declared.names.Head.TheVariants as heads_are
use Rattle.cap_trace.specs.Names.{Head, listed}
use Rattle.cap_trace.specs.Code.Rows.{head_view}
use Rattle.cap_trace.specs.Code.FastPath.{Starts}
use Rattle.cap_trace.proofs.parse.other_fast.Goals as goal

needs_start : (bytes text : List ℕ) (p : ℕ) (h : heads.Head) (f : Form) (m : NeedsMarker) → h ≡ heads_are.Listed f
    → f ≡ forms.Needs m → Starts bytes p (head_view h) text → Starts bytes p (listed (forms.Needs m)) text
needs_start bytes text p h f m is form begins =
    subst (λ (x : Head). Starts bytes p x text) (ap head_view is ∙ ap listed form) begins

pub needs_fast-requires : goal.needs_fast-requires
needs_fast-requires c = (c.requires.0, needs_start c.requires.0 _ _ _ _ _ c.in-Listed.is c.in-Needs.is c.requires.1)

pub returns : goal.returns
returns c = λ bytes begins. c.needs_fast.ensures bytes (needs_start bytes _ _ _ _ _ c.in-Listed.is c.in-Needs.is begins)
