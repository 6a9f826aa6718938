use Rattle.std.proofs.Common.{◌≡◌, ◌+◌, ◌*◌, ◌/◌, ◌^◌, ℕ, List, slice_range, sym, ◌∙◌, ap, arith}
use Rattle.lms_tree.specs.Valid.{leaf_node, parent_node, path_node}
use Rattle.lms_tree.proofs.Paths.{half_more, path_more}
use Rattle.lms_tree.proofs.verifying.top_of.Goals as goal

pub loop-j-init : goal.loop-j-init
unfolding path_node
loop-j-init c =
    let count : c.leaves_of.result ≡ 2 ^ c.args.h = c.leaves_of.ensures in
    record { placed = omega arith; climbed = rw count at c.leaf_node-node.ensures }

pub loop-j-preserved : goal.loop-j-preserved
loop-j-preserved c =
    let was = c.loop-j.invariant in
    let r = c.args.q + 2 ^ c.args.h in
    let j = c.loop-j.j in
    let path : ℕ → List ℕ = λ k. slice_range c.args.path.now (32 * k) (32 * k + 32) in
    let more = path_more c.args.id.now r (leaf_node c.args.id.now r c.args.candidate.now) path j in
    record {
      placed = ap (λ n. n / 2) was.placed ∙ half_more r j;
      climbed = rw more (rw (← was.climbed, ← was.placed) c.parent_node-node.ensures);
    }
