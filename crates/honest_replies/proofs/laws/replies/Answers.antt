use Rattle.honest_replies.proofs.Judged.{bare-judged, last-answered, news-judged, refusal-judged}
use Rattle.honest_replies.proofs.laws.replies.Goals as goal

pub returns-clause-bare : goal.returns-clause-bare
returns-clause-bare c = bare-judged

pub returns-clause-news : goal.returns-clause-news
returns-clause-news c = news-judged

pub returns-clause-last : goal.returns-clause-last
returns-clause-last c = last-answered

pub returns-clause-refusal : goal.returns-clause-refusal
returns-clause-refusal c = refusal-judged
