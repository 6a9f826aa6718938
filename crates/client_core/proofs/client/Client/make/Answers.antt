use Rattle.std.proofs.Common.{◌∙◌, [], List, map, sym, subst, ap, refl}
use Rattle.std.specs.List.{AllByRecursion}
use Rattle.lms_tree.specs.Signer.{public_of}
use Rattle.lms_tree.specs.Valid.{Key}
use Rattle.world_book.specs.declared.book.UserBook.{UserBook}
use Rattle.client_core.specs.Clients.{opening_side}
use Rattle.client_core.specs.Keeping.{Keeps}
use Rattle.client_core.specs.Sides.{IsSide, SideView}
use Rattle.client_core.proofs.Keeping.{opening-keeps}
use Rattle.client_core.proofs.client.Client.make.Goals as goal

pub invariant_of-result : goal.invariant_of-result
invariant_of-result g c =
    let d = g.D.Digester.digest_of in
    let signer = c.args.signer in
    let sides = c.in_ok-sides.ensures.sides in
    let book : Key → UserBook = λ k. record {
      user = c.args.user;
      key = k;
      rogue = c.args.rogue;
      took = [];
      signed
          = [];
    } in
    subst (λ (v : List SideView). Keeps d (record { signer = signer; sides = v; book = c.empty-book.result }))
    (sym sides)
    (subst (λ (b : UserBook). Keeps d (record {
      signer = signer;
      sides = map
          (opening_side c.args.user) c.args.sides.items;
      book = b;
    }))
    (sym (c.empty-book.ensures ∙ ap (λ (k : Key). book k) c.public.ensures))
    (opening-keeps d signer c.args.user (public_of signer.private signer.id signer.pair) c.args.rogue
    c.args.sides.items c.requires refl
    (subst (AllByRecursion IsSide) sides c.in_ok-sides.ensures.are_sides)))
