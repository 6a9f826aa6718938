use Rattle.std.proofs.Common.{◌≡◌, ◌∙◌, ℕ, List, [], ◌∷◌, Some, map, refl, sym, ap, subst}
use Rattle.std.specs.List.{IsDistinct}
use Rattle.lms_tree.specs.Signer.{public_of}
use Rattle.lms_tree.specs.Valid.{Key}
use Rattle.signed_ops.specs.Signed.{key_of}
use Rattle.client_core.specs.declared.start.SideStart.{SideStart}
use Rattle.client_core.specs.Clients.{AreStarts, ClientView, IsStart, opening_side}
use Rattle.session_run_tests.proofs.Opening.{fresh}
use Rattle.session_run_tests.proofs.walls.client_by.Goals as goal

pub make-requires : goal.make-requires
unfolding IsDistinct
make-requires c =
    let start = c.args.start in
    let signer = c.args.signer in
    let user = c.from-user.result in
    subst (AreStarts user (public_of signer.private signer.id signer.pair)) (sym c.in_ok-sides.ensures.items)
    (record {
      each = (subst (λ (u : ℕ). IsStart u start) (sym c.from-user.ensures) c.requires.start, tt);
      walls = (tt, tt);
      keys = start.known.users;
      same = (refl, tt);
      own = subst (λ (key : Key). key_of start.known.users user ≡ Some key) c.public.ensures
          (c.is_listed.ensures c.if-not-is_listed.false);
    })

pub returns : goal.returns
returns c =
    let start = c.args.start in
    let user = c.from-user.result in
    let made = c.in_ok-make.ensures in
    fresh c.args.user start _ (ap (λ (v : ClientView). v.book.user) made ∙ c.from-user.ensures)
    (ap (λ (v : ClientView). v.signer.used) made ∙ c.requires.fresh)
    (ap (λ (v : ClientView). v.signer.pair.lms.h) made ∙ c.requires.tall)
    (ap (λ (v : ClientView). v.sides) made
    ∙ ap (λ (starts : List SideStart). map (opening_side user) starts) c.in_ok-sides.ensures.items
    ∙ ap (λ (u : ℕ). opening_side u start ∷ []) c.from-user.ensures)
