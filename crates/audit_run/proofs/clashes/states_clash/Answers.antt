use Rattle.std.proofs.Common.{◌∙◌, ◌∷◌, [], sym, subst, arith}
use Rattle.dict_proof.specs.View.{list_view}
use Rattle.wall_law.specs.declared.state.State.{State}
use Rattle.world_audit.specs.Comparisons.{dict}
use Rattle.world_audit.specs.Ready.{AreReady}
use Rattle.audit_run.specs.Compared.{Compared}
use Rattle.audit_run.proofs.Comparing.{dict-on, dict-ready, dict-stop, dicts-over}
use Rattle.audit_run.proofs.clashes.states_clash.Goals as goal

pub state_clash-requires : goal.state_clash-requires
state_clash-requires g c =
    subst (λ (s : State). AreReady g.D.Digester.digest_of (dict (list_view c.list-item.result) s.entries ∷ [])) (sym c.state.ensures)
    (dict-ready list_view g.D.Digester.digest_of c.args.line.now.owner c.args.line.now.leaves c.args.from c.loop-list.k
    c.loop-list.list-index c.args.dicts.now c.list-item.result c.loop-list-test.true c.list-item.is c.loop-list.invariant.1)

pub returns-then-is_some : goal.returns-then-is_some
returns-then-is_some g c =
    dict-stop list_view g.D.Digester.digest_of c.args.line.now.owner c.args.line.now.leaves c.args.from c.loop-list.k
    c.loop-list.list-index c.args.dicts.now c.list-item.result c.in_ok-clash.clash c.loop-list-test.true c.list-item.is c.loop-list.invariant.1
    (subst (λ (s : State). Compared g.D.Digester.digest_of (dict (list_view c.list-item.result) s.entries ∷ []) c.in_ok-clash.clash) c.state.ensures
    c.in_ok-clash.ensures) (sym c.is_some.ensures ∙ c.if-is_some.true)

pub loop-list-preserved : goal.loop-list-preserved
loop-list-preserved g c =
    let k = c.loop-list.invariant.0 in (
      omega arith,
      dict-on list_view g.D.Digester.digest_of c.args.line.now.owner c.args.line.now.leaves c.args.from c.loop-list.k
          c.loop-list.list-index c.args.dicts.now c.list-item.result c.in_ok-clash.clash c.loop-list-test.true c.list-item.is c.loop-list.invariant.1
          (subst (λ (s : State). Compared g.D.Digester.digest_of (dict (list_view c.list-item.result) s.entries ∷ []) c.in_ok-clash.clash) c.state.ensures
          c.in_ok-clash.ensures) (sym c.is_some.ensures ∙ c.if-is_some.false),
    )

pub returns : goal.returns
returns g c =
    dicts-over list_view g.D.Digester.digest_of c.args.line.now.owner c.args.line.now.leaves c.args.from c.loop-list.k
    c.loop-list.list-index c.args.dicts.now c.loop-list-test.false c.loop-list.invariant.1
