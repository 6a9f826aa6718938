use Rattle.std.proofs.Common.{◌∙◌, sym, ap, subst, arith}
use Rattle.tree_model.specs.AccessList.{FitsChange}
use Rattle.wall_law.specs.declared.state.State.{State}
use Rattle.wall_law.specs.State.{after, change_of, state_of}
use Rattle.wall_law.proofs.Histories.{state_of-epoch}
use Rattle.wall_law.proofs.Owners.{law-fits}
use Rattle.hall_core.proofs.Refusals.{free}
use Rattle.hall_core.proofs.Walls.{kept, next-is}
use Rattle.hall_core.proofs.wall.Wall.next.Goals as goal

pub list_after-requires-clause-fits : goal.list_after-requires-clause-fits
list_after-requires-clause-fits g c =
    let wall = c.args.self.now in
    let op = c.args.op.now in
    let keeps = kept c.self.invariant c.self.view_is in
    let is_free = free g.D.Digester.digest_of wall.facts wall.leaves op c.requires.free in
    subst (λ (s : State). FitsChange s.entries op.author (change_of op.kind)) (sym keeps.now_is)
    (law-fits (state_of wall.facts.owner wall.leaves) wall.facts.wall _ op is_free.lawful)

pub epoch_after-epoch-requires : goal.epoch_after-epoch-requires
epoch_after-epoch-requires g c =
    let wall = c.args.self.now in
    let keeps = kept c.self.invariant c.self.view_is in
    let is_free = free g.D.Digester.digest_of wall.facts wall.leaves c.args.op.now c.requires.free in
    let room = is_free.room in
    let few = state_of-epoch wall.facts.owner wall.leaves in
    let epoch = ap (λ (s : State). s.epoch) keeps.now_is in
    omega arith

pub returns : goal.returns
returns g c =
    let wall = c.args.self.now in
    let op = c.args.op.now in
    let keeps = kept c.self.invariant c.self.view_is in
    next-is _ g.D.Digester.digest_of wall.facts wall.leaves op c.self.inside.history c.in_ok-history.history
    c.in_ok-item.item
    c.in_ok-list.list c.epoch_after-epoch.result keeps.items
    (c.in_ok-list.ensures ∙ ap (λ (s : State). (after s op).entries) keeps.now_is)
    (c.epoch_after-epoch.ensures ∙ ap (λ (s : State). (after s op).epoch) keeps.now_is)
    c.in_ok-item.ensures.value c.in_ok-item.ensures.spelled c.in_ok-history.ensures
