use Rattle.std.proofs.Common.{◌∙◌}
use Rattle.tree_prune.proofs.Wants.{parts}
use Rattle.tree_prune.proofs.history.wanted.Wanted.parts.Goals as goal

pub returns : goal.returns
returns c = c.has_one.ensures ∙ parts c.args.start c.args.end c.args.self.now.versions.now c.requires
