use Rattle.std.proofs.Common.{sym, ap, ◌∙◌}
use Rattle.check_rules.specs.Shown.{shows_from}
use Rattle.check_core.proofs.Late.{hides, misses}
use Rattle.check_core.proofs.rows.is_bad_shape.Goals as goal

pub returns-then-not-shows_from : goal.returns-then-not-shows_from
returns-then-not-shows_from g c =
    sym (hides c.args.known.now c.args.tree.now.size c.args.from c.args.tree.now.tree c.requires.fitting
    (rw c.saturating_sub.ensures at (sym c.shows_from.ensures ∙ c.if-not-shows_from.true)))

pub returns : goal.returns
returns g c = c.is_missing.ensures
    ∙ misses g.D.Digester.digest_of c.args.known.now c.args.tree.now.size c.args.from c.args.tree.now.tree
    c.args.accepted
    c.requires.fitting (rw c.saturating_sub.ensures at (sym c.shows_from.ensures
    ∙ c.if-not-shows_from.false)) c.requires.version
