use Rattle.std.proofs.Common.{ap, subst, arith, length}
use Rattle.session_run.specs.News.{AreNews, IsNews}
use Rattle.session_run.proofs.ends.shown_of.Goals as goal

pub shown_from-requires-clause-few : goal.shown_from-requires-clause-few
shown_from-requires-clause-few g c =
    let n : AreNews c.requires.0 c.in-Took.from c.in-Took.size c.in-Took.leaves =
    subst (IsNews c.requires.0) c.in-Took.is c.requires.1 in
    let l = ap length c.as_slice.ensures in
    omega (arith, n.few, l, c.type_inv._size.fits)
