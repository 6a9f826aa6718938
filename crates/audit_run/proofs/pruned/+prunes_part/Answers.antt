use Rattle.std.proofs.Common.{◌≡◌, ◌∙◌, ap, sym, arith, rules, map, Some}
use Rattle.std.specs.Cmp.Lexicographic.{same_text}
use Rattle.std.specs.Option.{option_map}
use Rattle.std.proofs.lemmas.List.{length-map}
use Rattle.std.proofs.lemmas.Option.{slice_get-map}
use Rattle.hist_proof.specs.Pruned.{hidden, leaf, node, single}
use Rattle.hist_proof.specs.View.{tree_view}
use Rattle.hist_proof.proofs.Views.{tree_view-hidden, tree_view-leaf, tree_view-node, tree_view-single}
use Rattle.hist_tree.proofs.Places.{aligned-left, aligned-right}
use Rattle.audit_run.specs.declared.line.LeafText.{LeafText}
use Rattle.audit_run.proofs.Prunings.{hidden-part, leaf-part, low-level, node-part, positive, single-part}
use Rattle.audit_run.proofs.pruned.+prunes_part.Goals as goal

pub left_leaves-half-requires-clause-levels : goal.left_leaves-half-requires-clause-levels
left_leaves-half-requires-clause-levels g t c =
    low-level c.args.size c.args.level c.ranges.size.fits c.requires.height

pub left_leaves-half-requires-in-Single-clause-levels :
    goal.left_leaves-half-requires-in-Single-clause-levels
left_leaves-half-requires-in-Single-clause-levels g t c =
    low-level c.args.size c.args.level c.ranges.size.fits c.requires.height

pub prunes_part-requires : goal.prunes_part-requires
prunes_part-requires g t c κs within =
    let above = positive c.args.level c.if-level-eq0-2.false in
    let left = aligned-left c.args.level c.args.start above c.requires.aligned in
    let height = c.requires.height in search (rules, arith)

pub prunes_part-requires-then-prunes_part : goal.prunes_part-requires-then-prunes_part
prunes_part-requires-then-prunes_part g t c κs within =
    let above = positive c.args.level c.if-level-eq0-2.false in
    let half = c.left_leaves-half.ensures in
    let more = c.if-size-start.false in
    let height = c.requires.height in
    let right = aligned-right c.args.level c.args.start above c.requires.aligned in search (rules, arith)

pub prunes_part-requires-in-Single : goal.prunes_part-requires-in-Single
prunes_part-requires-in-Single g t c κs within =
    let above = positive c.args.level c.if-level-eq0-3.false in
    let left = aligned-left c.args.level c.args.start above c.requires.aligned in
    let height = c.requires.height in search (rules, arith)

pub returns-in-Hidden : goal.returns-in-Hidden
returns-in-Hidden g t c =
    let is : tree_view c.args.p.now ≡ hidden c.in-Hidden.x = ap tree_view c.in-Hidden.is ∙ tree_view-hidden c.in-Hidden.x in
    λ yes. rw is (hidden-part g.D.Digester.digest_of c.args.size c.args.start (map (λ x. x.text) c.args.texts.now)
    c.args.level c.in-Hidden.x
    (same_text c.in-Hidden.x c.part.result (sym (sym c.eq.ensures ∙ yes)) ∙ c.part.ensures))

pub returns-then-level-eq0 : goal.returns-then-level-eq0
returns-then-level-eq0 g t c =
    let is : tree_view c.args.p.now ≡ leaf c.in-Leaf.text = ap tree_view c.in-Leaf.is ∙ tree_view-leaf c.in-Leaf.text in
    let many = length-map c.args.texts.now (λ (x : LeafText). x.text) in
    let version = c.requires.version in
    λ yes. rw is (leaf-part g.D.Digester.digest_of c.args.size c.args.start (map (λ x. x.text) c.args.texts.now)
    c.args.level c.in-Leaf.text c.if-level-eq0.true c.requires.within (omega arith)
    (slice_get-map (λ (x : LeafText). x.text) c.args.texts.now c.args.start
    ∙ ap (option_map (λ (x : LeafText). x.text)) c.item.ensures
    ∙ ap (λ y. Some y) (same_text c.item.result.now.text c.in-Leaf.text (sym (sym c.eq-then-level-eq0.ensures ∙ yes)))))

pub returns-then-prunes_part : goal.returns-then-prunes_part
returns-then-prunes_part g t c =
    let is : tree_view c.args.p.now ≡ node (tree_view c.in-Node.left.value) (tree_view c.in-Node.right.value) =
    ap tree_view c.in-Node.is ∙ tree_view-node c.in-Node.left c.in-Node.right in
    let many = length-map c.args.texts.now (λ (x : LeafText). x.text) in
    let version = c.requires.version in
    let half = c.left_leaves-half.ensures in
    let more = c.if-size-start.false in
    let left = c.prunes_part.ensures c.if-prunes_part.true in
    λ yes. rw is (node-part g.D.Digester.digest_of c.args.size c.args.start (map (λ x. x.text) c.args.texts.now)
    c.args.level (tree_view c.in-Node.left.value) (tree_view c.in-Node.right.value) c.if-level-eq0-2.false (omega arith)
    (omega arith) (rw (← c.deref.ensures) left)
    (rw (← c.deref-then-prunes_part.ensures, ← half) (c.prunes_part-then-prunes_part.ensures yes)))

pub returns-else-half-size : goal.returns-else-half-size
returns-else-half-size g t c =
    let is : tree_view c.args.p.now ≡ single (tree_view c.in-Single.left.value) =
    ap tree_view c.in-Single.is ∙ tree_view-single c.in-Single.left in
    let many = length-map c.args.texts.now (λ (x : LeafText). x.text) in
    let version = c.requires.version in
    let half = c.left_leaves-half-in-Single.ensures in
    let few = c.if-half-size.false in
    λ yes. rw is (single-part g.D.Digester.digest_of c.args.size c.args.start (map (λ x. x.text) c.args.texts.now)
    c.args.level (tree_view c.in-Single.left.value) c.if-level-eq0-3.false (omega arith) (omega arith)
    (rw (← c.deref-in-Single.ensures) (c.prunes_part-in-Single.ensures yes)))
