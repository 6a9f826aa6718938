use Rattle.std.proofs.Common.{◌≡◌, ◌∙◌, [], ◌∷◌, ◌++◌, List, refl, ap, sym, subst}
use Rattle.std.specs.List.{IsDistinct}
use Rattle.client_core.specs.Clients.{AreStarts}
use Rattle.client_core.specs.declared.start.SideStart.{SideStart}
use Rattle.client_vectors.proofs.clients.side_of.Goals as goal

pub returns-in_ok-push : goal.returns-in_ok-push
unfolding IsDistinct
returns-in_ok-push c =
    let start = c.args.start in
    let items = c.in_ok-push.ensures.items ∙ ap (λ (xs : List SideStart). xs ++ start ∷ [])
    c.new-sides.ensures.items in
    subst (AreStarts c.args.user c.args.key) (sym items)
    (record {
      each = (c.is_start.ensures c.if-is_start.true, tt);
      walls = (tt, tt);
      keys = start.known.users;
      same = (refl, tt);
      own = c.requires.own;
    })
