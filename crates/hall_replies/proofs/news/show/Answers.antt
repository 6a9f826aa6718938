use Rattle.std.proofs.Common.{arith}
use Rattle.std.proofs.lemmas.Result.{IfOk-weaker}
use Rattle.honest_replies.specs.HonestReply.{FewEntries, NewsReply, ShowReply, SpellsBare}
use Rattle.hall_replies.specs.Kept.{leaves_of, owner_of}
use Rattle.hall_replies.proofs.Kept.{kept-of}
use Rattle.hall_replies.proofs.Shows.{bare-reply, news-reply}
use Rattle.hall_replies.proofs.news.show.Goals as goal

pub bare-requires : goal.bare-requires
bare-requires g c = rw c.view.ensures (kept-of g.D.Digester.digest_of c.args.snap.now c.requires.honest).view

pub news-requires : goal.news-requires
news-requires g c = record {
  kept = kept-of g.D.Digester.digest_of c.args.snap.now c.requires.honest;
  more = omega arith;
}

pub returns-then-size-have : goal.returns-then-size-have
returns-then-size-have g c = λ facts L stands honest.
    let s = c.args.snap.now in
    let d = g.D.Digester.digest_of in
    IfOk-weaker c.bare.result (SpellsBare s.view) (ShowReply d facts.wall facts.owner facts.server c.args.have c.args.f L c.args.whole)
    (λ bytes it. bare-reply d facts L s stands c.args.have c.args.f c.args.whole bytes (omega arith) it)
    (rw c.view.ensures at c.bare.ensures)

pub returns : goal.returns
returns g c = λ facts L stands honest.
    let s = c.args.snap.now in
    let d = g.D.Digester.digest_of in
    IfOk-weaker c.news.result
    (λ bytes. FewEntries (owner_of s) (leaves_of s) → NewsReply d (owner_of s) c.args.have c.args.f (leaves_of s) c.args.whole s.view bytes)
    (ShowReply d facts.wall facts.owner facts.server c.args.have c.args.f L c.args.whole)
    (λ bytes it. news-reply d facts L s stands c.args.have c.args.f c.args.whole bytes (omega arith) it)
    c.news.ensures
