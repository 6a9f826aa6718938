use Rattle.std.proofs.Common.{arith, length, rules}
use Rattle.tree_model.proofs.HistoryLaws.{halves-fit, node_string-at_leaf, node_string-at_pair, node_string-at_single, part-string}
use Rattle.tree_model.proofs.history.+part.Goals as goal

pub returns-then-level-eq0 : goal.returns-then-level-eq0
returns-then-level-eq0 g t c =
    rw c.if-level-eq0.true
    (let digested = part-string g.D.Digester.digest_of 0 c.args.texts.now in
    let leaf = node_string-at_leaf g.D.Digester.digest_of c.args.texts.now c.index-texts-0.result c.requires.some c.index-texts-0.is in cc)

pub returns-then-texts-half : goal.returns-then-texts-half
returns-then-texts-half g t c =
    let digested = part-string g.D.Digester.digest_of c.args.level c.args.texts.now in
    let node = node_string-at_single g.D.Digester.digest_of c.args.level c.args.texts.now (omega arith) (omega arith) in cc

pub part-requires-3 : goal.part-requires-3
part-requires-3 g t c κs within =
    let right = halves-fit c.args.level (length c.args.texts.now) (omega arith) c.requires.fits in search rules

pub returns : goal.returns
returns g t c =
    let digested = part-string g.D.Digester.digest_of c.args.level c.args.texts.now in
    let node = node_string-at_pair g.D.Digester.digest_of c.args.level c.args.texts.now (omega arith) (omega arith) in cc
