use Rattle.std.proofs.Common.{arith}
use Rattle.std.proofs.lemmas.List.{length_push}
use Rattle.hall_replies.specs.Kept.{leaves_of, owner_of}
use Rattle.hall_replies.proofs.Proofs.{spell-more}
use Rattle.hall_replies.proofs.lists.proof_texts.Goals as goal

pub loop-k-preserved : goal.loop-k-preserved
loop-k-preserved g c =
    let s = c.args.snap.now in
    let d = g.D.Digester.digest_of in
    let count = c.loop-k.invariant.count in
    let more = length_push c.loop-k.texts.items c.in_ok-text.text in
    record {
      count = rw c.in_ok-push.ensures.items (omega arith);
      each = rw c.in_ok-push.ensures.items (spell-more d (owner_of s) (leaves_of s) c.args.from c.loop-k.texts.items c.in_ok-text.text
          c.loop-k.invariant.each (rw count c.in_ok-text.ensures));
    }
