use Rattle.std.proofs.Common.{◌≡◌, ◌+◌, ◌-◌, ◌*◌, ◌/◌, ◌^◌, ◌<◌, ◌≤◌, ◌++◌, ℕ, List, [], length, take, slice_index_or, arith, ap, ◌∙◌}
use Rattle.lms_ots.proofs.Ranges.{head_more}
use Rattle.lms_tree.specs.Signer.{sibling, sibling_in}
use Rattle.lms_tree.proofs.Levels.{sibling_most, small_level, twice}
use Rattle.lms_tree.proofs.Paths.{half_more}
use Rattle.lms_tree.proofs.nodes.write_path.Goals as goal

pub bounds-nodes-sibling : goal.bounds-nodes-sibling
bounds-nodes-sibling c =
    let h = c.args.pair.lms.h in
    let j = c.loop-j.j in
    let was = c.loop-j.invariant in
    let double = twice h j (omega arith) in
    let below : sibling c.loop-j.number < 4 * 2 ^ (h - (j + 1)) = sibling_most c.loop-j.number (2 ^ (h - (j + 1))) (omega arith) in
    let bound = small_level h j in
    omega (arith, c.sibling.ensures)

pub loop-j-preserved : goal.loop-j-preserved
unfolding sibling_in
loop-j-preserved c =
    let h = c.args.pair.lms.h in
    let j = c.loop-j.j in
    let was = c.loop-j.invariant in
    let double = twice h j (omega arith) in
    let r = c.args.index + 2 ^ h in
    let nodes = c.args.nodes.now in
    let f : ℕ → List ℕ = sibling_in nodes r in
    let below : sibling c.loop-j.number < 4 * 2 ^ (h - (j + 1)) = sibling_most c.loop-j.number (2 ^ (h - (j + 1))) (omega arith) in
    let bound = small_level h j in
    let inside : c.sibling.result < length nodes = omega (arith, c.sibling.ensures) in
    let long : (c.args.at + 32 * j) + length (slice_index_or nodes c.sibling.result []) ≡ c.args.at + 32 * (j + 1) =
    omega (arith, c.told-nodes c.sibling.result inside) in
    let number : c.sibling.result ≡ sibling (r / 2 ^ j) = c.sibling.ensures ∙ ap sibling was.placed in
    let element : slice_index_or nodes c.sibling.result [] ≡ f j = ap (λ n. slice_index_or nodes n []) number in
    let through : take (c.args.at + 32 * (j + 1)) c.write_at.new.out ≡ take (c.args.at + 32 * j) c.loop-j.out ++ f j =
    rw (← element) (rw long at c.write_at.ensures.through) in
    record {
      placed = ap (λ n. n / 2) was.placed ∙ half_more r j;
      least = omega arith;
      most = omega arith;
      written = through ∙ (ap (λ xs. xs ++ f j) was.written ∙ head_more (take c.args.at c.args.out.now) f j);
    }
