use Rattle.std.proofs.Common.{map}
use Rattle.frient_words.proofs.Asking.{asks}
use Rattle.frient_words.proofs.words.read_words.Goals as goal

pub returns : goal.returns
returns c = asks (map (λ w. w.now) c.args.words.now) c.in_ok-matches.matches c.asked.result c.in_ok-matches.ensures c.asked.ensures
