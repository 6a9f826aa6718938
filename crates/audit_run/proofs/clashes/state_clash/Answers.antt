use Rattle.std.proofs.Common.{◌∙◌, ◌<◌, ap, sym, subst, length, List, [], ◌∷◌}
use Rattle.dict_proof.specs.View.{list_view}
use Rattle.tree_model.specs.declared.entry.Entry.{Entry}
use Rattle.tree_model.specs.AccessList.{IsRising, dict as set_root}
use Rattle.world_audit.specs.Comparisons.{dict}
use Rattle.audit_run.specs.Compared.{Compared}
use Rattle.audit_run.proofs.Comparing.{dict-compared, ready-dict}
use Rattle.audit_run.proofs.clashes.state_clash.Goals as goal

pub dict_clash-requires-clause-some : goal.dict_clash-requires-clause-some
dict_clash-requires-clause-some g c =
    subst (λ (E : List Entry). 0 < length E) (sym c.as_slice.ensures)
    (ready-dict g.D.Digester.digest_of (list_view c.args.list.now) c.args.state.now.entries c.requires).0

pub dict_clash-requires-clause-rising : goal.dict_clash-requires-clause-rising
dict_clash-requires-clause-rising g c =
    subst IsRising (sym c.as_slice.ensures)
    (ready-dict g.D.Digester.digest_of (list_view c.args.list.now) c.args.state.now.entries c.requires).1

pub dict_clash-requires-clause-digests : goal.dict_clash-requires-clause-digests
dict_clash-requires-clause-digests g c =
    (ready-dict g.D.Digester.digest_of (list_view c.args.list.now) c.args.state.now.entries c.requires).2
    ∙ ap (set_root g.D.Digester.digest_of) (sym c.as_slice.ensures)

pub returns : goal.returns
returns g c =
    subst (λ (E : List Entry). Compared g.D.Digester.digest_of (dict (list_view c.args.list.now) E ∷ []) c.in_ok-clash.clash)
    c.as_slice.ensures
    (dict-compared g.D.Digester.digest_of (list_view c.args.list.now) c.as_slice.result.now c.in_ok-clash.clash
    c.in_ok-clash.ensures.value c.in_ok-clash.ensures.none.0)
