use Rattle.std.proofs.Common.{◌≡◌, ◌-◌, [], arith}
use Rattle.tree_prune.specs.LeastHistory.{from_on, numbered}
use Rattle.tree_prune.specs.Wanted.{is_wanted}
use Rattle.tree_prune.proofs.Wants.{marks-from}
use Rattle.tree_prune.proofs.history.prune.Goals as goal

pub returns : goal.returns
returns g c =
    let low = c.requires.shown in
    let first : c.saturating_sub.result ≡ c.args.from - 1 = c.saturating_sub.ensures in
    let marks : numbered (is_wanted (c.args.from - 1) []) 0 c.args.size ≡ from_on (c.args.from - 1) c.args.size =
    marks-from (c.args.from - 1) c.args.size (omega arith) in
    rw (← marks, ← first) c.whole.ensures
