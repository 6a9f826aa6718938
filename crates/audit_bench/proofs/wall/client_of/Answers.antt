use Rattle.std.proofs.Common.{◌≡◌, Some, refl, sym, subst}
use Rattle.std.specs.List.{IsDistinct}
use Rattle.lms_tree.specs.Signer.{public_of}
use Rattle.lms_tree.specs.Valid.{Key}
use Rattle.signed_ops.specs.Signed.{key_of}
use Rattle.client_core.specs.Clients.{AreStarts}
use Rattle.audit_bench.proofs.wall.client_of.Goals as goal

pub make-requires : goal.make-requires
unfolding IsDistinct
make-requires g c =
    let start = c.args.start in
    let signer = c.args.signer in
    subst (AreStarts c.args.user (public_of signer.private signer.id signer.pair)) (sym c.in_ok-sides.ensures.items)
    (record {
      each = (c.requires, tt);
      walls = (tt, tt);
      keys = start.known.users;
      same = (refl, tt);
      own = subst (λ (key : Key). key_of start.known.users c.args.user ≡ Some key) c.public.ensures
          (c.is_listed.ensures c.if-not-is_listed.false);
    })
