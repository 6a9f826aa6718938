use Rattle.std.proofs.Common.{◌≡◌, ◌+◌, ◌-◌, ◌*◌, ◌^◌, ◌<◌, ◌≤◌, [], length, arith, ap, ◌∙◌, get_or, refl}
use Rattle.std.proofs.lemmas.List.{get_or_read}
use Rattle.std.proofs.lemmas.Nat.{pow_pos}
use Rattle.lms_tree.specs.Valid.{Key}
use Rattle.lms_tree.specs.Signer.{Signing, node, public_of}
use Rattle.lms_tree.proofs.signer.Signer.public.Goals as goal

pub returns : goal.returns
unfolding public_of
returns c =
    let inside = c.self.inside in
    let tree = c.self.invariant.tree in
    let h = inside.pair.lms.h in
    let none : h - h ≡ 0 = omega arith in
    let some = pow_pos h in
    let read : c.index.result.now ≡ get_or inside.nodes.items 1 [] =
    get_or_read inside.nodes.items 1 c.index.result.now (omega (arith, tree.count)) c.index.ensures [] in
    let root : c.index.result.now ≡ node inside.private inside.id inside.pair h 1 =
    read ∙ tree.held h 1 (omega arith) (rw none (omega arith)) (rw none (omega arith)) in
    rw root (ap (λ (s : Signing). public_of s.private s.id s.pair) c.self.view_is)
