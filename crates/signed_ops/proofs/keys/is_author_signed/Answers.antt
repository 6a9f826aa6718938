use Rattle.std.proofs.Common.{◌∙◌, sym}
use Rattle.std.proofs.lemmas.Result.{IfOk-weaker}
use Rattle.signed_ops.proofs.Signatures.{signed_test, found_test}
use Rattle.signed_ops.proofs.keys.is_author_signed.Goals as goal

pub returns-in-Some-clause-signed : goal.returns-in-Some-clause-signed
returns-in-Some-clause-signed c = IfOk-weaker c.is_valid_under.result _ _ (λ b e. signed_test c.args.keys.now c.args.op.now b (e ∙ found_test c.args.keys.now c.args.op.now c.in-Some.key (sym c.key_of.ensures ∙ c.in-Some.is))) c.is_valid_under.ensures
