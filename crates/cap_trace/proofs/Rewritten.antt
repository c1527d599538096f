-- The canonical text of a line is the text that was read, but for rights.
use Rattle.std.proofs.Common.{◌≡◌, ℕ, List, [], ◌∷◌, refl, ap, ◌∙◌}
use Rattle.cap_rights.specs.Text.{text}
use Rattle.cap_trace.specs.Item.{Item}
use Rattle.cap_trace.specs.Item as items
use Rattle.cap_trace.specs.Call.{Call}
use Rattle.cap_trace.specs.Call as calls
use Rattle.cap_trace.specs.declared.line.Answer.{Answer}
use Rattle.cap_trace.specs.Entry.{Entry, an_fd, some_rights}
use Rattle.cap_trace.specs.Spelling.{SpellsArgs, SpellsBy, joined, canon}
use Rattle.cap_trace.specs.Rewriting.{RightsDiffer, OnlyRightsDiffer, OnlyRightsAreRewritten}
use Rattle.cap_trace.proofs.Canonical.{is_settled, settled_same, fds_settled}
use Rattle.std.specs.Fmt.{decimal}

rights_differ : (bytes : List ℕ) (e : Entry) (x y : ℕ) (texts : List (List ℕ))
    → SpellsArgs texts (an_fd x ∷ some_rights y ∷ []) → bytes ≡ joined e texts
    → RightsDiffer e x y bytes (joined e (decimal x ∷ text y ∷ []))
rights_differ bytes e x y [] h parts = absurd h
rights_differ bytes e x y (t ∷ []) h parts = absurd h.1
rights_differ bytes e x y (t ∷ u ∷ []) h parts =
    (u, h.1.0, parts ∙ ap (λ (d : List ℕ). joined e (d ∷ u ∷ [])) h.0.0, refl)
rights_differ bytes e x y (t ∷ u ∷ v ∷ more) h parts = absurd h.1.1

call_differs : (bytes : List ℕ) (p : ℕ) (c : Call) (a : Answer) (texts : List (List ℕ))
    → SpellsBy bytes (record { pid = p; item = items.Call c a }) texts
    → OnlyRightsDiffer (items.Call c a) p bytes (canon (record { pid = p; item = items.Call c a }))
unfolding is_settled
call_differs bytes p (calls.RightsLimit x y) a texts h =
    rights_differ bytes (record { pid = p; item = items.Call (calls.RightsLimit x y) a }) x y texts h.args h.parts
call_differs bytes p c a texts h = settled_same bytes _ texts refl h

item_differs : (bytes : List ℕ) (p : ℕ) (i : Item) (texts : List (List ℕ))
    → SpellsBy bytes (record { pid = p; item = i }) texts
    → OnlyRightsDiffer i p bytes (canon (record { pid = p; item = i }))
unfolding is_settled
item_differs bytes p (items.Call c a) texts h = call_differs bytes p c a texts h
item_differs bytes p (items.Start fs) texts h = settled_same bytes _ texts (fds_settled fs) h
item_differs bytes p (items.Needs m x y) texts h =
    rights_differ bytes (record { pid = p; item = items.Needs m x y }) x y texts h.args h.parts
item_differs bytes p i texts h = settled_same bytes _ texts refl h

pub only_rights : OnlyRightsAreRewritten
only_rights = λ bytes e h. item_differs bytes e.pid e.item h.0 h.1
