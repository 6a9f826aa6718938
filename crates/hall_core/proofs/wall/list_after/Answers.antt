use Rattle.std.proofs.Common.{subst}
use Rattle.op_types.specs.declared.kind.Kind.{Kind}
use Rattle.tree_model.specs.AccessList.{FitsChange}
use Rattle.wall_law.specs.State.{change_of}
use Rattle.hall_core.proofs.Lists.{own-some, other-some, still-none}
use Rattle.hall_core.proofs.wall.list_after.Goals as goal

pub insert-requires : goal.insert-requires
insert-requires g c =
    let list = c.args.list.now in
    let op = c.args.op.now in
    let fits = subst (λ (kind : Kind). FitsChange list op.author (change_of kind)) c.in-Admit.is c.requires.fits in
    record { absent = rw c.in_ok-list.ensures (still-none op.author _ list c.in-Admit.user fits.0 fits.1) }

pub remove-requires-clause-present : goal.remove-requires-clause-present
remove-requires-clause-present g c =
    let list = c.args.list.now in
    let op = c.args.op.now in
    let fits = subst (λ (kind : Kind). FitsChange list op.author (change_of kind)) c.in-Remove.is c.requires.fits in
    rw c.in_ok-list.ensures (other-some op.author _ list c.in-Remove.user fits.2 fits.1)

pub remove-requires-clause-others : goal.remove-requires-clause-others
remove-requires-clause-others g c =
    let list = c.args.list.now in
    let op = c.args.op.now in
    let fits = subst (λ (kind : Kind). FitsChange list op.author (change_of kind)) c.in-Remove.is c.requires.fits in
    c.others.ensures c.in_ok-list.list c.in-Remove.user op.author
    (rw c.in_ok-list.ensures (other-some op.author _ list c.in-Remove.user fits.2 fits.1))
    (rw c.in_ok-list.ensures (own-some op.author _ list fits.0))
    fits.2
