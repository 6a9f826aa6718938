use Rattle.std.proofs.Common.{◌≡◌, ℕ, List, Some, sym, subst}
use Rattle.lms_tree.specs.Valid.{Key}
use Rattle.signed_ops.specs.Signed.{key_of}
use Rattle.client_core.specs.Clients.{Standing}
use Rattle.client_core.specs.Keeping.{users_of}
use Rattle.client_core.specs.Sides.{side_of, sides_view}
use Rattle.client_core.proofs.client.Client.end.Goals as goal

pub returns-clause-key : goal.returns-clause-key
returns-clause-key g c wall s found =
    let there = subst (λ (x : Standing). side_of wall (sides_view x.sides) ≡ Some s) (sym c.self.view_is) found in
    let book = c.self.inside.book in
    subst (λ (x : Standing). key_of (users_of (sides_view x.sides)) book.user ≡ Some book.key) c.self.view_is
    (subst (λ (keys : List (ℕ × Key)). key_of keys book.user ≡ Some book.key) (c.self.invariant.users wall s there)
    (c.self.invariant.own wall s there))

pub returns-clause-made : goal.returns-clause-made
returns-clause-made g c honest wall s found =
    (c.self.invariant.told honest wall s (subst (λ (x : Standing). side_of wall (sides_view x.sides)
    ≡ Some s) (sym c.self.view_is) found)).made
