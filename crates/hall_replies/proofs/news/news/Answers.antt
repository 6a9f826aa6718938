use Rattle.std.proofs.lemmas.Result.{IfOk-weaker}
use Rattle.honest_replies.specs.HonestReply.{FewEntries, NewsReply}
use Rattle.msg_form.specs.declared.message.Reply.TheVariants.{Show}
use Rattle.msg_form.specs.Messages.{SpellsReply}
use Rattle.hall_replies.specs.Kept.{leaves_of, owner_of}
use Rattle.hall_replies.proofs.Shows.{news-shown, shown-is}
use Rattle.hall_replies.proofs.news.news.Goals as goal

pub show_text-requires : goal.show_text-requires
show_text-requires g c =
    let s = c.args.snap.now in
    rw c.view.ensures (shown-is g.D.Digester.digest_of s c.requires.kept c.args.have c.in_ok-from.from c.in_ok-from.ensures.within
    c.in_ok-tree.tree c.in_ok-dicts.dicts c.in_ok-tree.ensures c.in_ok-dicts.ensures.count c.in_ok-dicts.ensures.each)

pub returns : goal.returns
returns g c =
    let s = c.args.snap.now in
    let d = g.D.Digester.digest_of in
    let from = c.in_ok-from.from in
    IfOk-weaker c.show_text.result (SpellsReply (Show s.view from c.in_ok-tree.tree c.in_ok-dicts.dicts))
    (λ bytes. FewEntries (owner_of s) (leaves_of s) → NewsReply d (owner_of s) c.args.have c.args.f (leaves_of s) c.args.whole s.view bytes)
    (λ bytes it. news-shown d s c.requires.kept c.args.have from c.in_ok-from.ensures.within c.args.f c.args.whole c.in_ok-tree.tree
    c.in_ok-dicts.dicts bytes c.in_ok-from.ensures.begins c.in_ok-tree.ensures c.in_ok-dicts.ensures.count c.in_ok-dicts.ensures.each it)
    (rw c.view.ensures at c.show_text.ensures)
