use Rattle.std.proofs.Common.{◌≡◌}
use Rattle.std.proofs.lemmas.Result.{IfOk-weaker}
use Rattle.msg_form.specs.declared.message.Reply.TheVariants.{KeyOps}
use Rattle.msg_form.specs.Messages.{reply_text}
use Rattle.honest_replies.specs.HonestReply.{KeysReply}
use Rattle.hall_replies.proofs.Kept.{kept-of}
use Rattle.hall_replies.proofs.Shows.{keys-reply, keys-shown}
use Rattle.hall_replies.proofs.keys.show_keys.Goals as goal

pub changes_text-requires : goal.changes_text-requires
changes_text-requires g c = record {
  kept = kept-of g.D.Digester.digest_of c.args.snap.now c.requires.honest;
  some = c.requires.some;
  within = c.requires.within;
}

pub write_reply-requires : goal.write_reply-requires
write_reply-requires g c =
    let s = c.args.snap.now in
    let d = g.D.Digester.digest_of in
    keys-reply d s (kept-of d s c.requires.honest) c.args.size c.requires.some c.requires.within c.view.result.now.wall c.in_ok-tree.tree
    c.wall_fits.ensures c.in_ok-tree.ensures

pub returns : goal.returns
returns g c = λ facts L stands honest.
    let s = c.args.snap.now in
    let d = g.D.Digester.digest_of in
    let kept = kept-of d s c.requires.honest in
    let tree = c.in_ok-tree.tree in
    let reply = keys-reply d s kept c.args.size c.requires.some c.requires.within c.view.result.now.wall tree c.wall_fits.ensures c.in_ok-tree.ensures in
    IfOk-weaker c.write_reply.result (λ bytes. bytes ≡ reply_text (KeyOps s.view.wall c.args.size tree)) (KeysReply d facts.wall L c.args.size)
    (λ bytes text. keys-shown d s kept c.args.size c.requires.some c.requires.within facts L tree bytes stands c.in_ok-tree.ensures text
    (rw c.view.ensures at reply))
    (rw c.view.ensures at c.write_reply.ensures)
