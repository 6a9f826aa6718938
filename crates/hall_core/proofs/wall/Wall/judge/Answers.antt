use Rattle.std.proofs.Common.{◌∙◌, ap}
use Rattle.wall_law.specs.State.{state_of}
use Rattle.hall_core.specs.Standing.{Wall}
use Rattle.hall_core.proofs.Walls.{early, kept, law-found}
use Rattle.hall_core.proofs.wall.Wall.judge.Goals as goal

pub returns-clause-law : goal.returns-clause-law
returns-clause-law g c =
    let keeps = kept c.self.invariant c.self.view_is in
    c.judge_found.ensures
    ∙ law-found (record { entries = c.self.inside.list; epoch = c.self.inside.epoch })
    (state_of c.args.self.now.facts.owner c.args.self.now.leaves)
    c.get-author.result c.changed_entry-changed.result c.self.inside.facts.wall c.args.self.now.facts.wall
    c.size-position.result _ c.args.op.now
    keeps.now_is c.get-author.ensures c.changed_entry-changed.ensures
    (ap (λ (w : Wall). w.facts.wall) c.self.view_is) c.size-position.ensures

pub returns-clause-early : goal.returns-clause-early
returns-clause-early g c =
    let keeps = kept c.self.invariant c.self.view_is in
    early c.judge_found.result (state_of c.args.self.now.facts.owner c.args.self.now.leaves) c.args.self.now.facts.wall
    _ c.args.op.now
    (c.judge_found.ensures
    ∙ law-found (record { entries = c.self.inside.list; epoch = c.self.inside.epoch })
    (state_of c.args.self.now.facts.owner c.args.self.now.leaves)
    c.get-author.result c.changed_entry-changed.result c.self.inside.facts.wall c.args.self.now.facts.wall
    c.size-position.result _ c.args.op.now
    keeps.now_is c.get-author.ensures c.changed_entry-changed.ensures
    (ap (λ (w : Wall). w.facts.wall) c.self.view_is) c.size-position.ensures)
