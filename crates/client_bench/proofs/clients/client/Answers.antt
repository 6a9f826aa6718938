use Rattle.std.proofs.Common.{refl, sym, subst}
use Rattle.std.specs.List.{IsDistinct}
use Rattle.lms_tree.specs.Signer.{public_of}
use Rattle.client_core.specs.Clients.{AreStarts}
use Rattle.client_bench.proofs.clients.client.Goals as goal

pub make-requires : goal.make-requires
unfolding IsDistinct
make-requires g c =
    let start = c.args.start in
    let signer = c.args.signer in
    subst (AreStarts c.args.user (public_of signer.private signer.id signer.pair)) (sym c.in_ok-sides.ensures.items)
    (record {
      each = (c.requires.start, tt);
      walls = (tt, tt);
      keys = start.known.users;
      same = (refl, tt);
      own = c.requires.own;
    })
