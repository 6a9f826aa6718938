use Rattle.std.proofs.Common.{◌∙◌, arith, length, rules}
use Rattle.tree_model.proofs.HistoryLaws.{root_of_all-part}
use Rattle.tree_extract.proofs.PrunedDifferences.{fits-above, height-is, single-part}
use Rattle.tree_extract.proofs.history.+part_digest.Goals as goal

pub returns-then-level-depth_of : goal.returns-then-level-depth_of
returns-then-level-depth_of g t c =
    let height = c.depth_of.ensures.value in
    let low = c.if-level-depth_of.true in
    let same = height-is c.args.level (length c.args.texts.now) c.requires.fits (omega arith) in
    rw same (c.root_of.ensures ∙ root_of_all-part g.D.Digester.digest_of c.args.texts.now)

pub part_digest-requires : goal.part_digest-requires
part_digest-requires g t c κs within =
    let height = c.depth_of.ensures.value in
    let high = c.if-level-depth_of.false in
    let few = fits-above c.args.level c.args.texts.now (omega arith) in search rules

pub returns : goal.returns
returns g t c =
    let height = c.depth_of.ensures.value in
    let high = c.if-level-depth_of.false in
    single-part g.D.Digester.digest_of c.args.level c.args.texts.now c.part_digest.result c.tagged.result (omega
    arith) (fits-above c.args.level c.args.texts.now (omega arith)) c.tagged.ensures c.part_digest.ensures
