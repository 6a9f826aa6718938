use Rattle.honest_replies.proofs.News.{leaves-are, news-accepted}
use Rattle.honest_replies.proofs.laws.news.Goals as goal

pub returns-clause-accepted : goal.returns-clause-accepted
returns-clause-accepted c = λ d known L whole view from tree lists honest follows is more begins shows.
    news-accepted d known L honest from tree lists shows whole view follows is more begins

pub returns-clause-leaves : goal.returns-clause-leaves
returns-clause-leaves c = λ d known L from tree lists within honest shows.
    leaves-are d known L honest from tree lists shows within
