use Rattle.std.proofs.Common.{◌≡◌, ◌+◌, ◌^◌, ◌<◌, List, ℕ, drop, length, subst, arith, ap, ◌∙◌}
use Rattle.std.proofs.lemmas.List.{take_at}
use Rattle.lms_tree.specs.Signer.{Signing, public_of, signature_at}
use Rattle.lms_tree.specs.Valid.{Valid}
use Rattle.lms_tree.proofs.SigningLaw.{listed, signed_valid}
use Rattle.lms_tree.proofs.signer.Signer.sign.Goals as goal

pub returns-clause-valid : goal.returns-clause-valid
returns-clause-valid c =
    let inside = c.self.inside in
    let message = c.args.message.now in
    let out = c.write_signature.new.out in
    let left : c.left.result + inside.used ≡ 2 ^ inside.pair.lms.h = rw (← c.self.view_is) at c.left.ensures.left in
    let free : inside.used < 2 ^ inside.pair.lms.h = omega arith in
    let law = signed_valid inside.private inside.id inside.pair inside.used message (listed inside.pair c.self.invariant.listed) free in
    let same : c.of.result ≡ signature_at inside.private inside.id inside.pair inside.used message =
    c.of.ensures ∙ (take_at out (drop (length out) c.in-Ok.sig.items) c.in-Ok.sig.len (omega arith) ∙ c.write_signature.ensures) in
    let P : Signing → Type 0 = λ s. Valid (public_of s.private s.id s.pair) message c.of.result in
    subst P c.self.view_is (rw same law)
