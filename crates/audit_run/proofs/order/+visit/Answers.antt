use Rattle.std.proofs.Common.{◌∙◌, ◌-◌, List, ℕ, ap, sym, subst, arith, rules, map, fold, take, slice_index_or, refl}
use Rattle.audit_run.proofs.Records.{item-at}
use Rattle.world_book.specs.declared.took.Took.{Took}
use Rattle.world_audit.specs.Comparisons.{is_done, needed, visit}
use Rattle.audit_run.specs.Table.{AreDone, ArePicked}
use Rattle.audit_run.proofs.Ordering.{no-fuel, order-at, place-at, same-record, visit-done, visit-last, visit-next}
use Rattle.audit_run.proofs.order.+visit.Goals as goal

pub returns-then-fuel-eq0 : goal.returns-then-fuel-eq0
returns-then-fuel-eq0 t c r done at picked =
    subst (AreDone (map (λ x. x.now) c.args.index.now.records.items) c.args.order.now.items)
    (sym (no-fuel c.args.fuel c.args.index.now.world.now done r c.if-fuel-eq0.true)) picked

pub is_done-requires : goal.is_done-requires
is_done-requires t c = (
  c.requires.done.0,
  subst (λ (xs : List ℕ). AreDone (map (λ x. x.now) c.args.index.now.records.items) xs c.requires.done.0) (sym c.deref.ensures.value) c.requires.done.1,
)

pub returns-then-is_done : goal.returns-then-is_done
returns-then-is_done t c r done at picked =
    let R = map (λ x. x.now) c.args.index.now.records.items in
    let same = same-record (λ x. x.now) c.args.index.now.records.items c.args.i c.index-r.result.now r c.requires.within c.index-r.ensures at in
    let is = sym (c.is_done.ensures done (subst (λ (xs : List ℕ). AreDone R xs done) (sym c.deref.ensures.value) picked))
    ∙ c.if-is_done.true in
    subst (AreDone R c.args.order.now.items)
    (sym (visit-done c.args.fuel c.args.index.now.world.now done r (ap (is_done done) (sym same) ∙ is))) picked

pub loop-j-init : goal.loop-j-init
loop-j-init t c r done at picked = picked

pub visit-requires : goal.visit-requires
visit-requires t c =
    let R = map (λ x. x.now) c.args.index.now.records.items in
    let w = c.args.index.now.world.now in
    let r = c.index-r.result.now.now in
    let needs = subst (λ (xs : List ℕ). ArePicked R xs (needed w r)) (sym c.deref-j-items.ensures.value) c.in_ok-needed.ensures in
    let less = c.loop-j-test.true in
    let done = c.requires.done.0 in
    let some = c.if-fuel-eq0.false in (
      search (rules, arith),
      (
        c.requires.index,
        (
          c.requires.places,
          (
            order-at (λ x. x.now) c.args.index.now.records.items c.deref-j-items.result.now (needed w r) c.loop-j.j-index needs less 0,
            (
              fold (visit (c.args.fuel - 1) w) done (take c.loop-j.j-index (needed w r)),
              c.loop-j.invariant r done
                  (item-at (λ x. x.now) c.args.index.now.records.items c.args.index.now.records.items refl c.args.i c.index-r.result.now c.requires.within c.index-r.ensures) c.requires.done.1,
            ),
          ),
        ),
      ),
    )

pub loop-j-preserved : goal.loop-j-preserved
loop-j-preserved t c r done at picked =
    let R = map (λ x. x.now) c.args.index.now.records.items in
    let w = c.args.index.now.world.now in
    let same = same-record (λ x. x.now) c.args.index.now.records.items c.args.i c.index-r.result.now r c.requires.within c.index-r.ensures at in
    let needs = subst (λ (xs : List ℕ). ArePicked R xs (needed w r)) (sym c.deref-j-items.ensures.value)
    (subst (λ (s : Took). ArePicked R c.in_ok-needed.needed.items (needed w s)) same c.in_ok-needed.ensures) in
    let it = place-at R c.deref-j-items.result.now (needed w r) c.loop-j.j-index 0 needs c.loop-j-test.true in
    visit-next w R (c.args.fuel - 1) c.loop-j.j-index (slice_index_or c.deref-j-items.result.now c.loop-j.j-index 0) c.loop-j.order.items
    c.visit.new.order.items done (needed w r) it.0 it.2 it.1 (c.loop-j.invariant r done at picked) c.in_ok-visit.ensures

pub returns : goal.returns
returns t c r done at picked =
    let R = map (λ x. x.now) c.args.index.now.records.items in
    let w = c.args.index.now.world.now in
    let same = same-record (λ x. x.now) c.args.index.now.records.items c.args.i c.index-r.result.now r c.requires.within c.index-r.ensures at in
    let needs = subst (λ (xs : List ℕ). ArePicked R xs (needed w r)) (sym c.deref-j-items.ensures.value)
    (subst (λ (s : Took). ArePicked R c.in_ok-needed.needed.items (needed w s)) same c.in_ok-needed.ensures) in
    let not = sym (c.is_done.ensures done (subst (λ (xs : List ℕ). AreDone R xs done) (sym c.deref.ensures.value) picked))
    ∙ c.if-is_done.false in
    visit-last w R c.args.fuel c.args.i c.loop-j.j-index c.loop-j.order.items c.push.new.self.items c.deref-j-items.result.now done r at
    c.if-fuel-eq0.false (ap (is_done done) (sym same) ∙ not) needs c.loop-j-test.false (c.loop-j.invariant r done at picked)
    c.in_ok-push.ensures.items
