use Rattle.std.proofs.Common.{take, drop, refl, sym, ◌∙◌, arith}
use Rattle.lms_ots.proofs.ChainLemmas.{chain_none, chain_more}
use Rattle.lms_ots.proofs.Elements.{shorter}
use Rattle.lms_ots.proofs.chain.run_chain.Goals as goal

pub loop-j-init : goal.loop-j-init
loop-j-init c = record { named = refl; walked = sym (chain_none _ c.args.first _) }

pub loop-j-preserved : goal.loop-j-preserved
loop-j-preserved c =
    let was = c.loop-j.invariant in
    let more = chain_more (take 22 c.args.input.now) c.args.first c.loop-j.j (drop 23 c.args.input.now) (omega arith) in
    record {
      named = c.advance.ensures.name ∙ was.named;
      walked = rw more (rw (← was.walked, ← was.named) c.advance.ensures.element);
    }

pub returns-clause-leaf : goal.returns-clause-leaf
returns-clause-leaf c = shorter 20 22 c.loop-j.input c.args.input.now (omega arith) c.loop-j.invariant.named
