use Rattle.std.proofs.Common.{◌∙◌, ap}
use Rattle.wall_law.specs.declared.state.State.{State}
use Rattle.wall_law.specs.State.{after}
use Rattle.audit_run.specs.Line.{History}
use Rattle.audit_run.proofs.Lines.{all-kept, epoch-fits, state-last}
use Rattle.audit_run.proofs.line.Line.push.Goals as goal

pub state_after-requires-clause-epoch : goal.state_after-requires-clause-epoch
state_after-requires-clause-epoch g c =
    epoch-fits c.args.self.now.owner c.args.self.now.leaves c.state.result.now c.len.result 18446744073709551615 c.state.ensures
    c.len.ensures c.requires.room

pub invariant_of-self-2 : goal.invariant_of-self-2
invariant_of-self-2 g c =
    let own = ap (λ (h : History). h.owner) c.self.view_is in
    let are = ap (λ (h : History). h.leaves) c.self.view_is in
    let last = state-last c.args.self.now c.self.inside.placed.items c.self.inside.owner c.len.result c.state.result.now
    c.state.ensures c.len.ensures own are in
    all-kept c.self.inside.owner c.self.inside.first c.self.inside.placed.items c.push.new.self.items
    (record { leaf = c.args.leaf; after = c.in_ok-after.after }) c.self.inside.texts c.in_ok-texts.texts
    (record { text = c.in_ok-write_leaf.field-0 }) c.self.invariant c.in_ok-push.ensures.items c.in_ok-texts.ensures
    (c.in_ok-after.ensures.value ∙ ap (λ (s : State). after s c.args.leaf.now.op) last) c.requires.spelled
    c.in_ok-write_leaf.ensures
