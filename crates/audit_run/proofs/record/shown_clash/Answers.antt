use Rattle.std.proofs.Common.{◌≡◌, ◌∙◌, List, sym, subst, map, ap, length, arith}
use Rattle.dict_proof.specs.View.{list_view}
use Rattle.std.specs.Prelude.{slice_get}
use Rattle.std.specs.List.{flat_map}
use Rattle.op_types.specs.declared.op.Leaf.{Leaf}
use Rattle.world_book.specs.Kept.{lists_of}
use Rattle.world_audit.specs.Comparisons.{dicts_compared}
use Rattle.world_audit.specs.Ready.{AreReady}
use Rattle.audit_run.specs.Compared.{Compared}
use Rattle.audit_run.specs.Fronts.{view_on}
use Rattle.audit_run.specs.Line.{History}
use Rattle.audit_run.proofs.Comparing.{behind-ready, goes-behind, ready-front, stops-there}
use Rattle.audit_run.proofs.Owned.{at-place}
use Rattle.audit_run.proofs.record.shown_clash.Goals as goal

pub states_clash-requires : goal.states_clash-requires
states_clash-requires g c =
    let at = at-place c.args.histories.now.lines.items c.args.line c.index.result.now c.requires.line c.index.ensures in
    let long = ap length c.as_slice.ensures in
    let shown = (c.requires.long c.index.result.now at).shown in
    let fits = c.requires.room in
    record {
      within = omega arith;
      room = omega arith;
      ready = subst (λ ds. AreReady g.D.Digester.digest_of (dicts_compared c.index.result.now.owner c.index.result.now.leaves c.args.r.now.from (map list_view ds)))
          (sym c.as_slice.ensures)
          (ready-front g.D.Digester.digest_of (dicts_compared c.index.result.now.owner c.index.result.now.leaves c.args.r.now.from (lists_of c.args.r.now))
          (flat_map (view_on c.args.index.now.world.now c.args.r.now.wall c.index.result.now.leaves) c.args.r.now.leaves) (c.requires.ready c.index.result.now at));
    }

pub views_clash-requires-clause-long : goal.views_clash-requires-clause-long
views_clash-requires-clause-long g c h at i l here =
    (c.requires.long h at).seen i l (ap (λ (ls : List Leaf). slice_get ls i) (sym c.as_slice-2.ensures) ∙ here)

pub returns-then-is_some : goal.returns-then-is_some
returns-then-is_some g c h at =
    let w = c.args.index.now.world.now in
    let r = c.args.r.now in
    stops-there g.D.Digester.digest_of (dicts_compared h.owner h.leaves r.from (lists_of r)) (flat_map (view_on w r.wall h.leaves) r.leaves) c.in_ok-first.first (let there = at-place c.args.histories.now.lines.items c.args.line c.index.result.now c.requires.line c.index.ensures in
    let same : c.index.result.now ≡ h = cc in
    subst (λ ds. Compared g.D.Digester.digest_of (dicts_compared h.owner h.leaves c.args.r.now.from (map list_view ds)) c.in_ok-first.first) c.as_slice.ensures
    (subst (λ (x : History). Compared g.D.Digester.digest_of (dicts_compared x.owner x.leaves c.args.r.now.from (map list_view c.as_slice.result.now)) c.in_ok-first.first) same c.in_ok-first.ensures)) (sym c.is_some.ensures ∙ c.if-is_some.true)

pub views_clash-requires-clause-ready : goal.views_clash-requires-clause-ready
views_clash-requires-clause-ready g c h at =
    let w = c.args.index.now.world.now in
    let r = c.args.r.now in
    subst (λ (ls : List Leaf). AreReady g.D.Digester.digest_of (flat_map (view_on w r.wall h.leaves) ls)) (sym c.as_slice-2.ensures)
    (behind-ready g.D.Digester.digest_of (dicts_compared h.owner h.leaves r.from (lists_of r)) (flat_map (view_on w r.wall h.leaves) r.leaves) c.in_ok-first.first (c.requires.ready h at) (let there = at-place c.args.histories.now.lines.items c.args.line c.index.result.now c.requires.line c.index.ensures in
    let same : c.index.result.now ≡ h = cc in
    subst (λ ds. Compared g.D.Digester.digest_of (dicts_compared h.owner h.leaves c.args.r.now.from (map list_view ds)) c.in_ok-first.first) c.as_slice.ensures
    (subst (λ (x : History). Compared g.D.Digester.digest_of (dicts_compared x.owner x.leaves c.args.r.now.from (map list_view c.as_slice.result.now)) c.in_ok-first.first) same c.in_ok-first.ensures)) (sym c.is_some.ensures ∙ c.if-is_some.false))

pub returns : goal.returns
returns g c h at =
    let w = c.args.index.now.world.now in
    let r = c.args.r.now in
    goes-behind g.D.Digester.digest_of (dicts_compared h.owner h.leaves r.from (lists_of r)) (flat_map (view_on w r.wall h.leaves) r.leaves) c.in_ok-first.first c.in_ok-clash.clash (let there = at-place c.args.histories.now.lines.items c.args.line c.index.result.now c.requires.line c.index.ensures in
    let same : c.index.result.now ≡ h = cc in
    subst (λ ds. Compared g.D.Digester.digest_of (dicts_compared h.owner h.leaves c.args.r.now.from (map list_view ds)) c.in_ok-first.first) c.as_slice.ensures
    (subst (λ (x : History). Compared g.D.Digester.digest_of (dicts_compared x.owner x.leaves c.args.r.now.from (map list_view c.as_slice.result.now)) c.in_ok-first.first) same c.in_ok-first.ensures)) (sym c.is_some.ensures ∙ c.if-is_some.false)
    (subst (λ (ls : List Leaf). Compared g.D.Digester.digest_of (flat_map (view_on w r.wall h.leaves) ls) c.in_ok-clash.clash) c.as_slice-2.ensures
    (c.in_ok-clash.ensures h at))
