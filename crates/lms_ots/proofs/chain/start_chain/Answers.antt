use Rattle.std.proofs.Common.{◌≡◌, ◌++◌, take, ◌∙◌, arith}
use Rattle.lms_ots.specs.Digits.{u16str}
use Rattle.lms_ots.proofs.Elements.{shorter}
use Rattle.lms_ots.proofs.chain.start_chain.Goals as goal

pub returns-clause-leaf : goal.returns-clause-leaf
returns-clause-leaf c =
    shorter 20 23 c.write_at-2.new.out c.write_at.new.out (omega arith) c.write_at-2.ensures.before ∙ c.write_at.ensures.before

pub returns-clause-name : goal.returns-clause-name
unfolding u16str
returns-clause-name c =
    let part : c.to_be_bytes.result ≡ u16str c.args.i = c.to_be_bytes.ensures in
    let through : take 22 c.write_at.new.out ≡ take 20 c.args.input.now ++ u16str c.args.i = rw part at c.write_at.ensures.through in
    shorter 22 23 c.write_at-2.new.out c.write_at.new.out (omega arith) c.write_at-2.ensures.before ∙ through
