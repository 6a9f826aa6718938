use Rattle.std.proofs.Common.{◌∙◌}
use Rattle.tree_prune.proofs.Wants.{wants-from, wants-listed}
use Rattle.tree_prune.proofs.history.wanted.Wanted.shows.Goals as goal

pub returns-then-self-end : goal.returns-then-self-end
returns-then-self-end c =
    wants-from c.args.self.now.from c.args.self.now.positions.now c.args.start c.args.end c.requires
    c.if-self-end.true

pub returns-else-self-end : goal.returns-else-self-end
returns-else-self-end c =
    c.has_one.ensures ∙ wants-listed c.args.self.now.from c.args.self.now.positions.now c.args.start c.args.end
    c.requires c.if-self-end.false
