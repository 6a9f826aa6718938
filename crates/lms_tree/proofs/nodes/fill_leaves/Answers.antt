use Rattle.std.proofs.Common.{◌≡◌, ◌+◌, ◌*◌, ◌^◌, ◌<◌, ℕ, length, arith, ◌∙◌}
use Rattle.std.proofs.lemmas.List.{length-set}
use Rattle.lms_ots.specs.OneTime.{one_time_public}
use Rattle.lms_tree.specs.Valid.{leaf_node}
use Rattle.lms_tree.proofs.Levels.{leaf_more}
use Rattle.lms_tree.proofs.nodes.fill_leaves.Goals as goal

pub loop-q-preserved : goal.loop-q-preserved
loop-q-preserved c =
    let was = c.loop-q.invariant in
    let pair = c.args.pair in
    let q = c.loop-q.q in
    let count : c.leaves_of-leaves.result ≡ 2 ^ pair.lms.h = c.leaves_of-leaves.ensures in
    let value : c.leaf_node.result ≡ leaf_node c.args.id.now (2 ^ pair.lms.h + q) (one_time_public pair.ots c.args.id.now q c.args.private.now) =
    rw (count, c.public_value-key.ensures) at c.leaf_node.ensures in
    let room : 2 ^ pair.lms.h + q < length c.loop-q.nodes = omega arith in
    record {
      sized = length-set c.loop-q.nodes (c.leaves_of-leaves.result + q) c.leaf_node.result ∙ was.sized;
      written = rw count (leaf_more c.args.private.now c.args.id.now pair c.loop-q.nodes q c.leaf_node.result room value was.written);
    }
