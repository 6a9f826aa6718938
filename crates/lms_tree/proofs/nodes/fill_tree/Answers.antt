use Rattle.std.proofs.Common.{◌≡◌, ◌+◌, ◌*◌, ◌^◌, ◌<◌, ◌≤◌, ℕ, List, [], length, slice_index_or, arith, ◌∙◌}
use Rattle.lms_tree.specs.Signer.{node}
use Rattle.lms_tree.specs.Valid.{inner_node}
use Rattle.lms_tree.proofs.Levels.{tree_from}
use Rattle.lms_tree.proofs.nodes.fill_tree.Goals as goal

pub returns : goal.returns
returns c =
    let pair = c.args.pair in
    let nodes = c.fill_inner.new.nodes in
    let count : c.leaves_of.result ≡ 2 ^ pair.lms.h = c.leaves_of.ensures in
    let leaves : (r : ℕ) → 2 ^ pair.lms.h ≤ r → r < 2 * 2 ^ pair.lms.h →
    slice_index_or nodes r [] ≡ node c.args.private.now c.args.id.now pair 0 r =
    λ r low high. c.fill_inner.ensures.kept r (omega arith) ∙ c.fill_leaves.ensures r low high in
    let inner : (r : ℕ) → 0 < r → r < 2 ^ pair.lms.h → slice_index_or nodes r []
    ≡ inner_node c.args.id.now r (slice_index_or nodes (2 * r) []) (slice_index_or nodes (2 * r + 1) []) =
    λ r some below. c.fill_inner.ensures.inner r some (omega arith) in
    record { count = omega arith; held = tree_from c.args.private.now c.args.id.now pair nodes leaves inner }
