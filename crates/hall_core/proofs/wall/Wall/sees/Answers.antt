use Rattle.std.proofs.Common.{◌∙◌, false, true, List, ap, refl, arith}
use Rattle.fr_bytes.specs.Bytes.{Text}
use Rattle.signed_ops.specs.Signed.{is_view_signed}
use Rattle.tree_model.specs.History.{root}
use Rattle.hall_core.specs.Standing.{Wall}
use Rattle.hall_core.proofs.Items.{history-texts}
use Rattle.hall_core.proofs.Walls.{kept, seen-by}
use Rattle.hall_core.proofs.wall.Wall.sees.Goals as goal

pub returns-then-eq : goal.returns-then-eq
returns-then-eq g c =
    let wall = c.args.self.now in
    let view = c.args.view.now in
    let keeps = kept c.self.invariant c.self.view_is in
    seen-by g.D.Digester.digest_of wall.facts wall.leaves view c.root_at.result true c.is_view_signed.result
    (omega arith)
    (c.root_at.ensures ∙ ap (λ (texts : List Text). root g.D.Digester.digest_of texts view.size)
    (history-texts _ wall.facts.owner wall.leaves c.self.inside.history keeps.items))
    c.if-eq.ensures
    (c.is_view_signed.ensures.decided ∙ ap (λ (w : Wall). is_view_signed w.facts.server view) c.self.view_is)

pub returns-else-eq : goal.returns-else-eq
returns-else-eq g c =
    let wall = c.args.self.now in
    let view = c.args.view.now in
    let keeps = kept c.self.invariant c.self.view_is in
    c.if-eq.false
    ∙ seen-by g.D.Digester.digest_of wall.facts wall.leaves view c.root_at.result false
    (is_view_signed wall.facts.server view)
    (omega arith)
    (c.root_at.ensures ∙ ap (λ (texts : List Text). root g.D.Digester.digest_of texts view.size)
    (history-texts _ wall.facts.owner wall.leaves c.self.inside.history keeps.items))
    c.if-eq.ensures
    refl
