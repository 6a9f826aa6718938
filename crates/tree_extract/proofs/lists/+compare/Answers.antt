use Rattle.std.proofs.Common.{arith, length, rules}
use Rattle.tree_model.proofs.HistoryLaws.{halves-fit, node_string-at_leaf, node_string-at_pair, node_string-at_single, part-string}
use Rattle.tree_extract.proofs.Differences.{difference-at_leaf, difference-at_pair, difference-at_single}
use Rattle.tree_extract.proofs.NodeStrings.{found_strings-or}
use Rattle.tree_extract.proofs.lists.+compare.Goals as goal

pub returns-then-level-eq0-clause-a : goal.returns-then-level-eq0-clause-a
returns-then-level-eq0-clause-a g t c =
    rw c.if-level-eq0.true
    (let digested = part-string g.D.Digester.digest_of 0 c.args.a.now in
    let leaf = node_string-at_leaf g.D.Digester.digest_of c.args.a.now c.index-a-0.result (omega arith) c.index-a-0.is in cc)

pub returns-then-level-eq0-clause-b : goal.returns-then-level-eq0-clause-b
returns-then-level-eq0-clause-b g t c =
    rw c.if-level-eq0.true
    (let digested = part-string g.D.Digester.digest_of 0 c.args.b.now in
    let leaf = node_string-at_leaf g.D.Digester.digest_of c.args.b.now c.index-b-0.result (omega arith) c.index-b-0.is in cc)

pub returns-then-level-eq0-clause-found : goal.returns-then-level-eq0-clause-found
returns-then-level-eq0-clause-found g t c =
    rw c.if-level-eq0.true
    (let here = difference-at_leaf g.D.Digester.digest_of c.args.a.now c.args.b.now c.index-a-0.result c.index-b-0.result (omega arith) (omega arith) c.index-a-0.is c.index-b-0.is in cc)

pub returns-then-a-half-clause-a : goal.returns-then-a-half-clause-a
returns-then-a-half-clause-a g t c =
    let digested = part-string g.D.Digester.digest_of c.args.level c.args.a.now in
    let single = node_string-at_single g.D.Digester.digest_of c.args.level c.args.a.now (omega arith) (omega arith) in cc

pub returns-then-a-half-clause-b : goal.returns-then-a-half-clause-b
returns-then-a-half-clause-b g t c =
    let digested = part-string g.D.Digester.digest_of c.args.level c.args.b.now in
    let single = node_string-at_single g.D.Digester.digest_of c.args.level c.args.b.now (omega arith) (omega arith) in cc

pub returns-then-a-half-clause-found : goal.returns-then-a-half-clause-found
returns-then-a-half-clause-found g t c =
    let here = difference-at_single g.D.Digester.digest_of c.args.level c.args.a.now c.args.b.now (omega arith) (omega arith) (omega arith) in cc

pub compare-right-requires : goal.compare-right-requires
compare-right-requires g t c κs within =
    let right = halves-fit c.args.level (length c.args.a.now) (omega arith) c.requires.fits in search rules

pub returns-clause-a : goal.returns-clause-a
returns-clause-a g t c =
    let digested = part-string g.D.Digester.digest_of c.args.level c.args.a.now in
    let pair = node_string-at_pair g.D.Digester.digest_of c.args.level c.args.a.now (omega arith) (omega arith) in cc

pub returns-clause-b : goal.returns-clause-b
returns-clause-b g t c =
    let digested = part-string g.D.Digester.digest_of c.args.level c.args.b.now in
    let pair = node_string-at_pair g.D.Digester.digest_of c.args.level c.args.b.now (omega arith) (omega arith) in cc

pub returns-clause-found : goal.returns-clause-found
returns-clause-found g t c =
    let here = difference-at_pair g.D.Digester.digest_of c.args.level c.args.a.now c.args.b.now (omega arith) (omega arith) (omega arith) in
    let either = found_strings-or c.compare-left.result.found c.compare-right.result.found in cc
