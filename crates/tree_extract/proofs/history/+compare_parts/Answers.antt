use Rattle.std.proofs.Common.{◌≡◌, ◌-◌, ◌^◌, ◌∙◌, ap, arith, drop, get_or, length, rules, sym, take, true, []}
use Rattle.std.specs.Box.{box_value}
use Rattle.std.proofs.lemmas.List.{get_or_read, length-drop, length-take-le}
use Rattle.std.proofs.lemmas.Nat.{pow_pos}
use Rattle.std.specs.Option.{option_or}
use Rattle.hist_proof.specs.Pruned.{hidden, leaf, node as fork, single, fits_at}
use Rattle.hist_proof.specs.View.{tree_view}
use Rattle.hist_proof.proofs.Views.{tree_view-hidden, tree_view-leaf, tree_view-node, tree_view-single}
use Rattle.tree_model.proofs.HistoryLaws.{halves-fit}
use Rattle.tree_extract.proofs.NodeStrings.{found_strings-or}
use Rattle.tree_extract.proofs.PrunedDifferences.{fork-digest, fork-found, fork-is, fork-part, held-fork, held-hidden, held-leaf, held-single, hidden-digest, leaf-digest, leaf-found, leaf-level, leaf-part, only-is, pruned-hidden, single-digest, single-found, single-part}
use Rattle.tree_extract.specs.Difference.{difference, tree_of}
use Rattle.tree_extract.specs.NodeString.{found_strings}
use Rattle.tree_extract.specs.PrunedDifference.{pruned_tree}
use Rattle.tree_extract.proofs.history.+compare_parts.Goals as goal

pub overflow_sub-level : goal.overflow_sub-level
overflow_sub-level g t c =
    let is : tree_view c.args.p.now ≡ single (tree_view (box_value c.in-Single.left)) = ap tree_view c.in-Single.is
    ∙ tree_view-single _ in
    let only = only-is c.args.level (tree_view (box_value c.in-Single.left)) (length c.args.texts.now) (rw is at
    c.requires.fitting) in
    let above = only.above in omega arith

pub compare_parts-below-requires : goal.compare_parts-below-requires
compare_parts-below-requires g t c κs within =
    let is : tree_view c.args.p.now ≡ single (tree_view (box_value c.in-Single.left)) = ap tree_view c.in-Single.is
    ∙ tree_view-single _ in
    let only = only-is c.args.level (tree_view (box_value c.in-Single.left)) (length c.args.texts.now) (rw is at
    c.requires.fitting) in
    let above = only.above in
    let few = only.few in
    let left : fits_at (c.args.level - 1) (tree_view c.deref.result.now) (length c.args.texts.now) ≡ true = rw
    c.deref.ensures only.left in search (rules, arith)

pub left_leaves-requires-clause-above : goal.left_leaves-requires-clause-above
left_leaves-requires-clause-above g t c =
    let is : tree_view c.args.p.now ≡ fork (tree_view (box_value c.in-Node.left)) (tree_view (box_value
    c.in-Node.right)) = ap tree_view c.in-Node.is ∙ tree_view-node _ _ in
    let two = fork-is c.args.level (tree_view (box_value c.in-Node.left)) (tree_view (box_value c.in-Node.right))
    (length c.args.texts.now) (rw is at c.requires.fitting) in
    two.above

pub split_at-requires : goal.split_at-requires
split_at-requires g t c =
    let is : tree_view c.args.p.now ≡ fork (tree_view (box_value c.in-Node.left)) (tree_view (box_value
    c.in-Node.right)) = ap tree_view c.in-Node.is ∙ tree_view-node _ _ in
    let two = fork-is c.args.level (tree_view (box_value c.in-Node.left)) (tree_view (box_value c.in-Node.right))
    (length c.args.texts.now) (rw is at c.requires.fitting) in
    let more = two.more in
    let half = c.left_leaves.ensures in omega arith

pub overflow_sub-level-in-Node : goal.overflow_sub-level-in-Node
overflow_sub-level-in-Node g t c =
    let is : tree_view c.args.p.now ≡ fork (tree_view (box_value c.in-Node.left)) (tree_view (box_value
    c.in-Node.right)) = ap tree_view c.in-Node.is ∙ tree_view-node _ _ in
    let two = fork-is c.args.level (tree_view (box_value c.in-Node.left)) (tree_view (box_value c.in-Node.right))
    (length c.args.texts.now) (rw is at c.requires.fitting) in
    let above = two.above in omega arith

pub compare_parts-left-requires : goal.compare_parts-left-requires
compare_parts-left-requires g t c κs within =
    let is : tree_view c.args.p.now ≡ fork (tree_view (box_value c.in-Node.left)) (tree_view (box_value
    c.in-Node.right)) = ap tree_view c.in-Node.is ∙ tree_view-node _ _ in
    let two = fork-is c.args.level (tree_view (box_value c.in-Node.left)) (tree_view (box_value c.in-Node.right))
    (length c.args.texts.now) (rw is at c.requires.fitting) in
    let above = two.above in
    let more = two.more in
    let half = c.left_leaves.ensures in
    let front_len : length c.split_at.result.0.now ≡ 2 ^ (c.args.level - 1) = ap (λ ts. length ts)
    c.split_at.ensures.front ∙ length-take-le c.left_leaves.result c.args.texts.now (omega arith) ∙ half in
    let back_len : length c.split_at.result.1.now ≡ length c.args.texts.now - 2 ^ (c.args.level - 1) = ap (λ ts.
    length ts) c.split_at.ensures.back ∙ length-drop c.left_leaves.result c.args.texts.now
    ∙ ap (λ n. length c.args.texts.now - n) half in
    let fits = halves-fit c.args.level (length c.args.texts.now) above c.requires.few in
    let positive = pow_pos (c.args.level - 1) in
    let left : fits_at (c.args.level - 1) (tree_view c.deref-in-Node.result.now) (length c.split_at.result.0.now) ≡
    true = rw (c.deref-in-Node.ensures, front_len) two.left in search (rules, arith)

pub overflow_sub-level-in-Node-2 : goal.overflow_sub-level-in-Node-2
overflow_sub-level-in-Node-2 g t c =
    let is : tree_view c.args.p.now ≡ fork (tree_view (box_value c.in-Node.left)) (tree_view (box_value
    c.in-Node.right)) = ap tree_view c.in-Node.is ∙ tree_view-node _ _ in
    let two = fork-is c.args.level (tree_view (box_value c.in-Node.left)) (tree_view (box_value c.in-Node.right))
    (length c.args.texts.now) (rw is at c.requires.fitting) in
    let above = two.above in omega arith

pub compare_parts-right-requires : goal.compare_parts-right-requires
compare_parts-right-requires g t c κs within =
    let is : tree_view c.args.p.now ≡ fork (tree_view (box_value c.in-Node.left)) (tree_view (box_value
    c.in-Node.right)) = ap tree_view c.in-Node.is ∙ tree_view-node _ _ in
    let two = fork-is c.args.level (tree_view (box_value c.in-Node.left)) (tree_view (box_value c.in-Node.right))
    (length c.args.texts.now) (rw is at c.requires.fitting) in
    let above = two.above in
    let more = two.more in
    let half = c.left_leaves.ensures in
    let front_len : length c.split_at.result.0.now ≡ 2 ^ (c.args.level - 1) = ap (λ ts. length ts)
    c.split_at.ensures.front ∙ length-take-le c.left_leaves.result c.args.texts.now (omega arith) ∙ half in
    let back_len : length c.split_at.result.1.now ≡ length c.args.texts.now - 2 ^ (c.args.level - 1) = ap (λ ts.
    length ts) c.split_at.ensures.back ∙ length-drop c.left_leaves.result c.args.texts.now
    ∙ ap (λ n. length c.args.texts.now - n) half in
    let fits = halves-fit c.args.level (length c.args.texts.now) above c.requires.few in
    let positive = pow_pos (c.args.level - 1) in
    let right : fits_at (c.args.level - 1) (tree_view c.deref-in-Node-2.result.now) (length
    c.split_at.result.1.now) ≡ true = rw (c.deref-in-Node-2.ensures, back_len) two.right in search (rules, arith)

pub returns-in-Hidden-clause-a : goal.returns-in-Hidden-clause-a
returns-in-Hidden-clause-a g t c =
    let is : tree_view c.args.p.now ≡ hidden c.in-Hidden.digest = ap tree_view c.in-Hidden.is ∙ tree_view-hidden _ in
    rw (is, hidden-digest g.D.Digester.digest_of c.in-Hidden.digest) c.sized.ensures.value

pub returns-in-Hidden-clause-found : goal.returns-in-Hidden-clause-found
returns-in-Hidden-clause-found g t c =
    let is : tree_view c.args.p.now ≡ hidden c.in-Hidden.digest = ap tree_view c.in-Hidden.is ∙ tree_view-hidden _ in
    rw is (sym (pruned-hidden g.D.Digester.digest_of c.in-Hidden.digest _))

pub returns-in-Hidden-clause-held : goal.returns-in-Hidden-clause-held
returns-in-Hidden-clause-held g t c =
    let is : tree_view c.args.p.now ≡ hidden c.in-Hidden.digest = ap tree_view c.in-Hidden.is ∙ tree_view-hidden _ in
    rw is (held-hidden c.in-Hidden.digest (rw c.sized.ensures.value at c.sized.ensures.size))

pub returns-in-Leaf-clause-a : goal.returns-in-Leaf-clause-a
returns-in-Leaf-clause-a g t c =
    let is : tree_view c.args.p.now ≡ leaf c.in-Leaf.text = ap tree_view c.in-Leaf.is ∙ tree_view-leaf _ in
    let bottom = leaf-level c.args.level c.in-Leaf.text (length c.args.texts.now) (rw is at c.requires.fitting) in
    let text : c.as_slice.result.now ≡ c.in-Leaf.text = c.as_slice.ensures in
    let other : c.as_slice-in-Leaf.result.now ≡ c.index-texts-0.result = c.as_slice-in-Leaf.ensures in
    rw is (leaf-digest g.D.Digester.digest_of c.in-Leaf.text c.compare_nodes.result.a (rw text at
    c.compare_nodes.ensures.a))

pub returns-in-Leaf-clause-b : goal.returns-in-Leaf-clause-b
returns-in-Leaf-clause-b g t c =
    let is : tree_view c.args.p.now ≡ leaf c.in-Leaf.text = ap tree_view c.in-Leaf.is ∙ tree_view-leaf _ in
    let bottom = leaf-level c.args.level c.in-Leaf.text (length c.args.texts.now) (rw is at c.requires.fitting) in
    let text : c.as_slice.result.now ≡ c.in-Leaf.text = c.as_slice.ensures in
    let other : c.as_slice-in-Leaf.result.now ≡ c.index-texts-0.result = c.as_slice-in-Leaf.ensures in
    let first : c.index-texts-0.result ≡ get_or c.args.texts.now 0 [] = get_or_read c.args.texts.now 0
    c.index-texts-0.result c.requires.some c.index-texts-0.is [] in
    leaf-part g.D.Digester.digest_of c.args.level c.args.texts.now c.index-texts-0.result c.compare_nodes.result.b
    bottom c.requires.some c.requires.few first (rw other at c.compare_nodes.ensures.b)

pub returns-in-Leaf-clause-found : goal.returns-in-Leaf-clause-found
returns-in-Leaf-clause-found g t c =
    let is : tree_view c.args.p.now ≡ leaf c.in-Leaf.text = ap tree_view c.in-Leaf.is ∙ tree_view-leaf _ in
    let bottom = leaf-level c.args.level c.in-Leaf.text (length c.args.texts.now) (rw is at c.requires.fitting) in
    let text : c.as_slice.result.now ≡ c.in-Leaf.text = c.as_slice.ensures in
    let other : c.as_slice-in-Leaf.result.now ≡ c.index-texts-0.result = c.as_slice-in-Leaf.ensures in
    let first : c.index-texts-0.result ≡ get_or c.args.texts.now 0 [] = get_or_read c.args.texts.now 0
    c.index-texts-0.result c.requires.some c.index-texts-0.is [] in
    rw is (leaf-found g.D.Digester.digest_of c.args.level c.in-Leaf.text c.index-texts-0.result c.args.texts.now
    (found_strings c.compare_nodes.result.found) bottom c.requires.some c.requires.few first (rw (text, other)
    at c.compare_nodes.ensures.found))

pub returns-in-Leaf-clause-held : goal.returns-in-Leaf-clause-held
returns-in-Leaf-clause-held g t c =
    let is : tree_view c.args.p.now ≡ leaf c.in-Leaf.text = ap tree_view c.in-Leaf.is ∙ tree_view-leaf _ in
    let bottom = leaf-level c.args.level c.in-Leaf.text (length c.args.texts.now) (rw is at c.requires.fitting) in
    rw is (held-leaf c.in-Leaf.text)

pub returns-in-Single-clause-a : goal.returns-in-Single-clause-a
returns-in-Single-clause-a g t c =
    let is : tree_view c.args.p.now ≡ single (tree_view (box_value c.in-Single.left)) = ap tree_view c.in-Single.is
    ∙ tree_view-single _ in
    let only = only-is c.args.level (tree_view (box_value c.in-Single.left)) (length c.args.texts.now) (rw is at
    c.requires.fitting) in
    let view : tree_view c.deref.result.now ≡ tree_view (box_value c.in-Single.left) = ap tree_view c.deref.ensures in
    rw (is, ← view) (single-digest g.D.Digester.digest_of (tree_view c.deref.result.now)
    c.compare_parts-below.result.a c.compare_nodes-in-Single.result.a c.compare_nodes-in-Single.ensures.a
    c.compare_parts-below.ensures.a)

pub returns-in-Single-clause-b : goal.returns-in-Single-clause-b
returns-in-Single-clause-b g t c =
    let is : tree_view c.args.p.now ≡ single (tree_view (box_value c.in-Single.left)) = ap tree_view c.in-Single.is
    ∙ tree_view-single _ in
    let only = only-is c.args.level (tree_view (box_value c.in-Single.left)) (length c.args.texts.now) (rw is at
    c.requires.fitting) in
    single-part g.D.Digester.digest_of c.args.level c.args.texts.now c.compare_parts-below.result.b
    c.compare_nodes-in-Single.result.b only.above only.few c.compare_nodes-in-Single.ensures.b
    c.compare_parts-below.ensures.b

pub returns-in-Single-clause-found : goal.returns-in-Single-clause-found
returns-in-Single-clause-found g t c =
    let is : tree_view c.args.p.now ≡ single (tree_view (box_value c.in-Single.left)) = ap tree_view c.in-Single.is
    ∙ tree_view-single _ in
    let only = only-is c.args.level (tree_view (box_value c.in-Single.left)) (length c.args.texts.now) (rw is at
    c.requires.fitting) in
    let view : tree_view c.deref.result.now ≡ tree_view (box_value c.in-Single.left) = ap tree_view c.deref.ensures in
    rw (is, ← view) (single-found g.D.Digester.digest_of c.args.level (tree_view c.deref.result.now)
    c.args.texts.now c.compare_parts-below.result.a c.compare_parts-below.result.b (found_strings
    c.compare_nodes-in-Single.result.found) (found_strings c.compare_parts-below.result.found) only.above
    only.few c.compare_parts-below.ensures.a c.compare_parts-below.ensures.b
    c.compare_nodes-in-Single.ensures.found c.compare_parts-below.ensures.found)

pub returns-in-Single-clause-held : goal.returns-in-Single-clause-held
returns-in-Single-clause-held g t c =
    let is : tree_view c.args.p.now ≡ single (tree_view (box_value c.in-Single.left)) = ap tree_view c.in-Single.is
    ∙ tree_view-single _ in
    let only = only-is c.args.level (tree_view (box_value c.in-Single.left)) (length c.args.texts.now) (rw is at
    c.requires.fitting) in
    let view : tree_view c.deref.result.now ≡ tree_view (box_value c.in-Single.left) = ap tree_view c.deref.ensures in
    rw (is, ← view) (held-single (tree_view c.deref.result.now) c.compare_parts-below.ensures.held)

pub returns-in-Node-clause-a : goal.returns-in-Node-clause-a
returns-in-Node-clause-a g t c =
    let is : tree_view c.args.p.now ≡ fork (tree_view (box_value c.in-Node.left)) (tree_view (box_value
    c.in-Node.right)) = ap tree_view c.in-Node.is ∙ tree_view-node _ _ in
    let two = fork-is c.args.level (tree_view (box_value c.in-Node.left)) (tree_view (box_value c.in-Node.right))
    (length c.args.texts.now) (rw is at c.requires.fitting) in
    let view : tree_view c.deref-in-Node.result.now ≡ tree_view (box_value c.in-Node.left) = ap tree_view
    c.deref-in-Node.ensures in
    let view' : tree_view c.deref-in-Node-2.result.now ≡ tree_view (box_value c.in-Node.right) = ap tree_view
    c.deref-in-Node-2.ensures in
    rw (is, ← view, ← view') (fork-digest g.D.Digester.digest_of (tree_view c.deref-in-Node.result.now) (tree_view
    c.deref-in-Node-2.result.now) c.compare_parts-left.result.a c.compare_parts-right.result.a
    c.compare_nodes-in-Node.result.a c.compare_nodes-in-Node.ensures.a c.compare_parts-left.ensures.a
    c.compare_parts-right.ensures.a)

pub returns-in-Node-clause-b : goal.returns-in-Node-clause-b
returns-in-Node-clause-b g t c =
    let is : tree_view c.args.p.now ≡ fork (tree_view (box_value c.in-Node.left)) (tree_view (box_value
    c.in-Node.right)) = ap tree_view c.in-Node.is ∙ tree_view-node _ _ in
    let two = fork-is c.args.level (tree_view (box_value c.in-Node.left)) (tree_view (box_value c.in-Node.right))
    (length c.args.texts.now) (rw is at c.requires.fitting) in
    let front : c.split_at.result.0.now ≡ take (2 ^ (c.args.level - 1)) c.args.texts.now = c.split_at.ensures.front
    ∙ ap (λ k. take k c.args.texts.now) c.left_leaves.ensures in
    let back : c.split_at.result.1.now ≡ drop (2 ^ (c.args.level - 1)) c.args.texts.now = c.split_at.ensures.back
    ∙ ap (λ k. drop k c.args.texts.now) c.left_leaves.ensures in
    fork-part g.D.Digester.digest_of c.args.level c.args.texts.now c.compare_parts-left.result.b
    c.compare_parts-right.result.b c.compare_nodes-in-Node.result.b two.above two.more
    c.compare_nodes-in-Node.ensures.b (rw front at c.compare_parts-left.ensures.b) (rw back at
    c.compare_parts-right.ensures.b)

pub returns-in-Node-clause-found : goal.returns-in-Node-clause-found
returns-in-Node-clause-found g t c =
    let is : tree_view c.args.p.now ≡ fork (tree_view (box_value c.in-Node.left)) (tree_view (box_value
    c.in-Node.right)) = ap tree_view c.in-Node.is ∙ tree_view-node _ _ in
    let two = fork-is c.args.level (tree_view (box_value c.in-Node.left)) (tree_view (box_value c.in-Node.right))
    (length c.args.texts.now) (rw is at c.requires.fitting) in
    let view : tree_view c.deref-in-Node.result.now ≡ tree_view (box_value c.in-Node.left) = ap tree_view
    c.deref-in-Node.ensures in
    let view' : tree_view c.deref-in-Node-2.result.now ≡ tree_view (box_value c.in-Node.right) = ap tree_view
    c.deref-in-Node-2.ensures in
    let front : c.split_at.result.0.now ≡ take (2 ^ (c.args.level - 1)) c.args.texts.now = c.split_at.ensures.front
    ∙ ap (λ k. take k c.args.texts.now) c.left_leaves.ensures in
    let back : c.split_at.result.1.now ≡ drop (2 ^ (c.args.level - 1)) c.args.texts.now = c.split_at.ensures.back
    ∙ ap (λ k. drop k c.args.texts.now) c.left_leaves.ensures in
    let under = ap found_strings c.or.ensures
    ∙ found_strings-or c.compare_parts-left.result.found c.compare_parts-right.result.found
    ∙ ap (λ y. option_or y (found_strings c.compare_parts-right.result.found)) (rw front at
    c.compare_parts-left.ensures.found)
    ∙ ap (λ y. option_or (difference g.D.Digester.digest_of (pruned_tree g.D.Digester.digest_of (tree_view
    c.deref-in-Node.result.now)) (tree_of g.D.Digester.digest_of (c.args.level - 1) (take (2 ^ (c.args.level -
    1)) c.args.texts.now))) y) (rw back at c.compare_parts-right.ensures.found) in
    rw (is, ← view, ← view') (fork-found g.D.Digester.digest_of c.args.level (tree_view c.deref-in-Node.result.now)
    (tree_view c.deref-in-Node-2.result.now) c.args.texts.now c.compare_parts-left.result.a
    c.compare_parts-right.result.a c.compare_parts-left.result.b c.compare_parts-right.result.b (found_strings
    c.compare_nodes-in-Node.result.found) (found_strings c.or.result) two.above two.more
    c.compare_parts-left.ensures.a c.compare_parts-right.ensures.a (rw front at c.compare_parts-left.ensures.b)
    (rw back at c.compare_parts-right.ensures.b) c.compare_nodes-in-Node.ensures.found under)

pub returns-in-Node-clause-held : goal.returns-in-Node-clause-held
returns-in-Node-clause-held g t c =
    let is : tree_view c.args.p.now ≡ fork (tree_view (box_value c.in-Node.left)) (tree_view (box_value
    c.in-Node.right)) = ap tree_view c.in-Node.is ∙ tree_view-node _ _ in
    let two = fork-is c.args.level (tree_view (box_value c.in-Node.left)) (tree_view (box_value c.in-Node.right))
    (length c.args.texts.now) (rw is at c.requires.fitting) in
    let view : tree_view c.deref-in-Node.result.now ≡ tree_view (box_value c.in-Node.left) = ap tree_view
    c.deref-in-Node.ensures in
    let view' : tree_view c.deref-in-Node-2.result.now ≡ tree_view (box_value c.in-Node.right) = ap tree_view
    c.deref-in-Node-2.ensures in
    rw (is, ← view, ← view') (held-fork (tree_view c.deref-in-Node.result.now) (tree_view
    c.deref-in-Node-2.result.now) c.compare_parts-left.ensures.held c.compare_parts-right.ensures.held)
