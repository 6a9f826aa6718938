use Rattle.std.proofs.Common.{List, ℕ, subst}
use Rattle.lms_tree.specs.Signer.{public_of}
use Rattle.lms_tree.specs.Valid.{Valid}
use Rattle.client_core.proofs.signing.signature.Goals as goal

pub returns-in-Ok-clause-length : goal.returns-in-Ok-clause-length
unfolding public_of
returns-in-Ok-clause-length c = c.in-Ok.ensures.valid.long

pub returns-in-Ok-clause-valid : goal.returns-in-Ok-clause-valid
returns-in-Ok-clause-valid c =
    let signer = c.args.signer.now in
    subst (λ (sig : List ℕ). Valid (public_of signer.private signer.id signer.pair) c.args.message.now sig)
    c.in-Ok.ensures.signature c.in-Ok.ensures.valid
