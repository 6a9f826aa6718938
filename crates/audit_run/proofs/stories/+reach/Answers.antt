use Rattle.std.proofs.Common.{subst, arith, rules, map}
use Rattle.std.specs.Prelude.{option_and_then}
use Rattle.world_audit.specs.Story.{prev, story}
use Rattle.audit_run.specs.Table.{Holds}
use Rattle.audit_run.proofs.Reaching.{absent-holds, count, known-at, leaves-spelled, present-holds, prev-fuel, skip-fuel, skipped, step, story-stands, table-set, two-fronts}
use Rattle.audit_run.proofs.Tables.{grows-on, grows-same}
use Rattle.audit_run.proofs.stories.+reach.Goals as goal

pub returns-in_default-clause-holds : goal.returns-in_default-clause-holds
returns-in_default-clause-holds g t c =
    absent-holds c.args.index.now.world.now c.args.stories.now.lines.items (map (λ r. r.now) c.args.index.now.records.items)
    c.args.place c.in_default.is

pub returns-in_default-clause-grows : goal.returns-in_default-clause-grows
returns-in_default-clause-grows g t c = grows-same c.args.stories.now.lines.items

pub returns-in-Known-clause-holds : goal.returns-in-Known-clause-holds
returns-in-Known-clause-holds g t c =
    known-at c.args.index.now.world.now (map (λ r. r.now) c.args.index.now.records.items) c.requires.index
    c.args.stories.now.lines.items c.args.stories.now.rows.items c.args.place c.in-Known.line c.in-Some.i c.index.result.now
    c.requires.table c.in-Some.is c.requires.place c.index.ensures c.in-Known.is

pub returns-in-Known-clause-grows : goal.returns-in-Known-clause-grows
returns-in-Known-clause-grows g t c = grows-same c.args.stories.now.lines.items

pub overflow_sub-fuel : goal.overflow_sub-fuel
overflow_sub-fuel g t c =
    (step (λ r. r.now) c.args.index.now.world.now c.args.index.now.records.items c.requires.index c.args.place c.args.fuel
    c.in-Some.i c.index-r.result.now c.in-Some.is c.requires.place c.index-r.ensures c.requires.fuel).some

pub reach-requires : goal.reach-requires
reach-requires g t c κs within =
    let s = step (λ r. r.now) c.args.index.now.world.now c.args.index.now.records.items c.requires.index c.args.place c.args.fuel
    c.in-Some.i c.index-r.result.now c.in-Some.is c.requires.place c.index-r.ensures c.requires.fuel in
    let some = s.some in (
      search (rules, arith),
      (
        search rules,
        (
          c.requires.index,
          (
            c.requires.table,
            (
              c.prev.ensures.within,
              prev-fuel c.args.index.now.world.now (map (λ r. r.now) c.args.index.now.records.items) c.requires.index c.args.fuel
                  c.in-Some.i c.index-r.result.now.now c.prev.result s c.prev.ensures.is,
            ),
          ),
        ),
      ),
    )

pub overflow_sub-fuel-2 : goal.overflow_sub-fuel-2
overflow_sub-fuel-2 g t c =
    (step (λ r. r.now) c.args.index.now.world.now c.args.index.now.records.items c.requires.index c.args.place c.args.fuel
    c.in-Some.i c.index-r.result.now c.in-Some.is c.requires.place c.index-r.ensures c.requires.fuel).some

pub reach-requires-2 : goal.reach-requires-2
reach-requires-2 g t c κs within =
    let s = step (λ r. r.now) c.args.index.now.world.now c.args.index.now.records.items c.requires.index c.args.place c.args.fuel
    c.in-Some.i c.index-r.result.now c.in-Some.is c.requires.place c.index-r.ensures c.requires.fuel in
    let some = s.some in (
      search (rules, arith),
      (
        search rules,
        (
          c.requires.index,
          (
            c.in_ok-below.ensures.table,
            (
              c.skipped.ensures.within,
              skip-fuel c.args.index.now.world.now (map (λ r. r.now) c.args.index.now.records.items) c.requires.index c.args.fuel
                  c.in-Some.i c.index-r.result.now.now c.skipped.result s c.skipped.ensures.is,
            ),
          ),
        ),
      ),
    )

pub line_over-requires : goal.line_over-requires
line_over-requires g t c =
    let w = c.args.index.now.world.now in
    let R = map (λ r. r.now) c.args.index.now.records.items in
    let r = c.index-r.result.now.now in
    let s = step (λ x. x.now) w c.args.index.now.records.items c.requires.index c.args.place c.args.fuel
    c.in-Some.i c.index-r.result.now c.in-Some.is c.requires.place c.index-r.ensures c.requires.fuel in
    let size = s.size in
    let fits = c.ranges.fuel.fits in
    let parts = count w R c.requires.index r s.kept in
    record {
      owners = c.in_ok-beside.ensures.table.owners;
      spelled = leaves-spelled w R c.requires.index r s.kept;
      room = omega arith;
      fronts = (
        option_and_then (story w) (prev w r),
        (
          option_and_then (story w) (skipped w r),
          two-fronts w R c.requires.index c.args.fuel c.in-Some.i r c.reach.new.stories.lines.items c.reach-2.new.stories.lines.items c.prev.result c.skipped.result
              c.in_ok-below.below c.in_ok-beside.beside s c.prev.ensures.is c.skipped.ensures.is c.in_ok-below.ensures.holds
              c.in_ok-beside.ensures.grows c.in_ok-beside.ensures.holds,
        ),
      );
    }

pub returns : goal.returns
returns g t c =
    let w = c.args.index.now.world.now in
    let R = map (λ r. r.now) c.args.index.now.records.items in
    let r = c.index-r.result.now.now in
    let s = step (λ x. x.now) w c.args.index.now.records.items c.requires.index c.args.place c.args.fuel
    c.in-Some.i c.index-r.result.now c.in-Some.is c.requires.place c.index-r.ensures c.requires.fuel in
    let b = option_and_then (story w) (prev w r) in
    let o = option_and_then (story w) (skipped w r) in
    let it = subst (λ m. Holds c.line_over.new.lines.items r.wall m c.in_ok-line.line) (story-stands w R c.requires.index r s.kept)
    (c.in_ok-line.ensures.holds b o
    (two-fronts w R c.requires.index c.args.fuel c.in-Some.i r c.reach.new.stories.lines.items c.reach-2.new.stories.lines.items c.prev.result c.skipped.result
    c.in_ok-below.below c.in_ok-beside.beside s c.prev.ensures.is c.skipped.ensures.is c.in_ok-below.ensures.holds
    c.in_ok-beside.ensures.grows c.in_ok-beside.ensures.holds)) in
    record {
      holds = present-holds w c.line_over.new.lines.items R c.args.place c.in_ok-line.line c.in-Some.i r c.in-Some.is s.here it;
      grows = grows-on c.args.stories.now.lines.items c.reach.new.stories.lines.items c.line_over.new.lines.items c.in_ok-below.ensures.grows
          (grows-on c.reach.new.stories.lines.items c.reach-2.new.stories.lines.items c.line_over.new.lines.items c.in_ok-beside.ensures.grows
          c.in_ok-line.ensures.grows);
      table = table-set w c.reach-2.new.stories.lines.items c.line_over.new.lines.items c.reach-2.new.stories.rows.items c.in-Some.i r c.in_ok-line.line
          c.in_ok-beside.ensures.table c.in_ok-line.ensures.grows c.in_ok-line.ensures.owners s.there it;
    }
