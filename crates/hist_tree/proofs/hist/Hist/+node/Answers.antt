use Rattle.std.proofs.Common.{arith, map, rules}
use Rattle.std.proofs.lemmas.Bool.{both_ways}
use Rattle.std.proofs.lemmas.List.{length-map}
use Rattle.hist_tree.proofs.Nodes.{node-at_pair, node-at_single, node-whole, not_leaf}
use Rattle.hist_tree.proofs.Places.{aligned-left, aligned-right}
use Rattle.hist_tree.proofs.hist.Hist.+node.Goals as goal

pub returns-then-is_kept : goal.returns-then-is_kept
returns-then-is_kept g t c =
    let kept = c.is_kept.ensures.0 c.if-is_kept.true in
    rw (node-whole c.args.size c.args.level c.args.start (map g.T.HasText.text_of c.args.self.now) kept.1)
    c.whole.ensures

pub node-left-requires : goal.node-left-requires
node-left-requires g t c κs within =
    let above = not_leaf c.args.size c.args.level c.args.start c.requires.within (λ it. both_ways c.is_kept.result
    c.if-is_kept.false (c.is_kept.ensures.1 it)) in
    let left = aligned-left c.args.level c.args.start above c.requires.aligned in search rules

pub returns-then-size-start : goal.returns-then-size-start
returns-then-size-start g t c =
    let above = not_leaf c.args.size c.args.level c.args.start c.requires.within (λ it. both_ways c.is_kept.result
    c.if-is_kept.false (c.is_kept.ensures.1 it)) in
    let count = length-map c.args.self.now g.T.HasText.text_of in
    let half = c.left_leaves-half.ensures in
    let few = c.if-size-start.true in
    let version = c.requires.version in
    let single = node-at_single g.D.Digester.digest_of c.args.size c.args.level c.args.start (map
    g.T.HasText.text_of c.args.self.now) above (omega arith) (omega arith) in
    let left = c.node-left.ensures in
    let digested = c.tagged.ensures in cc

pub node-requires : goal.node-requires
node-requires g t c κs within =
    let above = not_leaf c.args.size c.args.level c.args.start c.requires.within (λ it. both_ways c.is_kept.result
    c.if-is_kept.false (c.is_kept.ensures.1 it)) in
    let half = c.left_leaves-half.ensures in
    let right = aligned-right c.args.level c.args.start above c.requires.aligned in search rules

pub returns : goal.returns
returns g t c =
    let above = not_leaf c.args.size c.args.level c.args.start c.requires.within (λ it. both_ways c.is_kept.result
    c.if-is_kept.false (c.is_kept.ensures.1 it)) in
    let count = length-map c.args.self.now g.T.HasText.text_of in
    let half = c.left_leaves-half.ensures in
    let more = c.if-size-start.false in
    let version = c.requires.version in
    let pair = node-at_pair g.D.Digester.digest_of c.args.size c.args.level c.args.start (map g.T.HasText.text_of
    c.args.self.now) above (omega arith) (omega arith) in
    let left = c.node-left.ensures in
    let right = c.node.ensures in
    let digested = c.tagged-2.ensures in cc
