use Rattle.std.proofs.Common.{◌≡◌, ◌+◌, ◌-◌, ◌^◌, ◌<◌, ◌∙◌, ap, arith, map, rules, sym}
use Rattle.std.specs.Prelude.{min}
use Rattle.std.proofs.lemmas.List.{length-map}
use Rattle.std.proofs.lemmas.Nat.{pow_pos}
use Rattle.std.proofs.lemmas.Result.{IfOk-weaker}
use Rattle.tree_model.specs.History.{part}
use Rattle.hist_proof.specs.Pruned.{hidden, leaf, single}
use Rattle.hist_proof.proofs.Views.{tree_view-hidden}
use Rattle.hist_tree.proofs.Nodes.{height-fits}
use Rattle.hist_tree.proofs.Places.{aligned-left, aligned-right}
use Rattle.tree_prune.specs.Wanted.{is_wanted}
use Rattle.tree_prune.proofs.Steps.{item-text, node-of, step-leaf, step-node, step-out, step-single, twice-at}
use Rattle.tree_prune.proofs.history.walk.+pruned.Goals as goal

pub returns-then-not-enters : goal.returns-then-not-enters
returns-then-not-enters g t c =
    let d = g.D.Digester.digest_of in
    let w = c.args.wanted.now in
    let T = map g.T.HasText.text_of c.args.h.now in
    let count = length-map c.args.h.now g.T.HasText.text_of in
    let version = c.requires.version in
    let ends = c.requires.ends in
    let out = sym c.enters.ensures ∙ c.if-not-enters.true in
    tree_view-hidden c.part.result ∙ ap hidden c.part.ensures
    ∙ sym (step-out (part d) (is_wanted w.from w.positions.now) w.versions.now T c.args.size c.args.level
    c.args.start c.args.end (omega arith) ends out)

pub returns-then-level-eq0 : goal.returns-then-level-eq0
returns-then-level-eq0 g t c =
    let d = g.D.Digester.digest_of in
    let w = c.args.wanted.now in
    let T = map g.T.HasText.text_of c.args.h.now in
    let count = length-map c.args.h.now g.T.HasText.text_of in
    let version = c.requires.version in
    let ends = c.requires.ends in
    let into = sym c.enters.ensures ∙ c.if-not-enters.false in
    let text = c.text.ensures ∙ sym (item-text g.T.HasText.text_of c.args.h.now c.args.start c.item.result.now
    c.item.ensures) in
    let all = step-leaf (part d) (is_wanted w.from w.positions.now) w.versions.now T c.args.size c.args.level
    c.args.start c.args.end (omega arith) c.requires.within c.if-level-eq0.true into in
    IfOk-weaker c.leaf.result _ _ (λ p is. is ∙ ap leaf text ∙ sym all) c.leaf.ensures

pub left_leaves-half-requires-clause-levels : goal.left_leaves-half-requires-clause-levels
left_leaves-half-requires-clause-levels g t c =
    height-fits c.args.size c.args.level (let fits = c.ranges.size.fits in omega arith) c.requires.height

pub pruned-requires : goal.pruned-requires
pruned-requires g t c κs within =
    let above : 0 < c.args.level = omega arith in
    let double = twice-at c.args.level above in
    let positive = pow_pos (c.args.level - 1) in
    let ends = c.requires.ends in
    let half = c.left_leaves-half.ensures in
    let few = c.if-end-start.true in
    let left = aligned-left c.args.level c.args.start above c.requires.aligned in
    let end : c.args.end ≡ c.args.start + min (2 ^ (c.args.level - 1)) (c.args.size - c.args.start) = omega arith
    in search (rules, arith)

pub returns-then-end-start : goal.returns-then-end-start
returns-then-end-start g t c =
    let d = g.D.Digester.digest_of in
    let w = c.args.wanted.now in
    let T = map g.T.HasText.text_of c.args.h.now in
    let count = length-map c.args.h.now g.T.HasText.text_of in
    let version = c.requires.version in
    let ends = c.requires.ends in
    let above : 0 < c.args.level = omega arith in
    let double = twice-at c.args.level above in
    let positive = pow_pos (c.args.level - 1) in
    let half = c.left_leaves-half.ensures in
    let few = c.if-end-start.true in
    let into = sym c.enters.ensures ∙ c.if-not-enters.false in
    let all = step-single (part d) (is_wanted w.from w.positions.now) w.versions.now T c.args.size c.args.level
    c.args.start c.args.end (omega arith) ends above (omega arith) into in
    IfOk-weaker c.single.result _ _ (λ p is. is ∙ ap single c.in_ok-left.ensures ∙ sym all) c.single.ensures

pub pruned-requires-2 : goal.pruned-requires-2
pruned-requires-2 g t c κs within =
    let above : 0 < c.args.level = omega arith in
    let double = twice-at c.args.level above in
    let ends = c.requires.ends in
    let half = c.left_leaves-half.ensures in
    let more = c.if-end-start.false in
    let left = aligned-left c.args.level c.args.start above c.requires.aligned in
    let end : c.args.start + c.left_leaves-half.result ≡ c.args.start + min (2 ^ (c.args.level - 1)) (c.args.size -
    c.args.start) = omega arith in search (rules, arith)

pub pruned-requires-3 : goal.pruned-requires-3
pruned-requires-3 g t c κs within =
    let above : 0 < c.args.level = omega arith in
    let double = twice-at c.args.level above in
    let ends = c.requires.ends in
    let half = c.left_leaves-half.ensures in
    let more = c.if-end-start.false in
    let right = aligned-right c.args.level c.args.start above c.requires.aligned in
    let low : c.args.start + c.left_leaves-half.result < c.args.size = omega arith in
    let end : c.args.end ≡ c.args.start + c.left_leaves-half.result + min (2 ^ (c.args.level - 1)) (c.args.size -
    (c.args.start + c.left_leaves-half.result)) = omega arith in search (rules, arith)

pub returns : goal.returns
returns g t c =
    let d = g.D.Digester.digest_of in
    let w = c.args.wanted.now in
    let T = map g.T.HasText.text_of c.args.h.now in
    let count = length-map c.args.h.now g.T.HasText.text_of in
    let version = c.requires.version in
    let ends = c.requires.ends in
    let above : 0 < c.args.level = omega arith in
    let double = twice-at c.args.level above in
    let half = c.left_leaves-half.ensures in
    let more = c.if-end-start.false in
    let into = sym c.enters.ensures ∙ c.if-not-enters.false in
    let middle : c.args.start + c.left_leaves-half.result ≡ c.args.start + 2 ^ (c.args.level - 1) = omega arith in
    let all = step-node (part d) (is_wanted w.from w.positions.now) w.versions.now T c.args.size c.args.level
    c.args.start (c.args.start + c.left_leaves-half.result) c.args.end (omega arith) ends above (omega arith)
    middle into in
    IfOk-weaker c.node.result _ _ (λ p is. is ∙ node-of c.in_ok-left-2.ensures c.in_ok-right.ensures
    ∙ sym all) c.node.ensures
