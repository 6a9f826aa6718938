use Rattle.std.proofs.Common.{◌≡◌, ◌<◌, ◌≤◌, length, get_or, rules}
use Rattle.hall_server.proofs.Snapshots.{honest_here, none_left, stands_here}
use Rattle.hall_server.proofs.seats.Seats.snapshot.Goals as goal

pub returns-then-view-wall-clause-stands : goal.returns-then-view-wall-clause-stands
returns-then-view-wall-clause-stands g c =
    let self = c.args.self.now in
    let k = c.loop-snapshot.snapshot-index in
    let shot = c.snapshot-item.result in
    let below : k < length self.snapshots.items = search rules in
    let at : shot ≡ get_or self.snapshots.items k shot = search rules in
    let is : shot.view.wall ≡ c.args.wall = search (rules, c.view.ensures, c.if-view-wall.true) in
    stands_here g.D.Digester.digest_of self c.requires.shown c.args.wall k shot below at is c.loop-snapshot.invariant

pub returns-then-view-wall-clause-honest : goal.returns-then-view-wall-clause-honest
returns-then-view-wall-clause-honest g c =
    let self = c.args.self.now in
    let k = c.loop-snapshot.snapshot-index in
    let shot = c.snapshot-item.result in
    let below : k < length self.snapshots.items = search rules in
    let at : shot ≡ get_or self.snapshots.items k shot = search rules in
    let is : shot.view.wall ≡ c.args.wall = search (rules, c.view.ensures, c.if-view-wall.true) in
    honest_here g.D.Digester.digest_of self c.requires.shown c.args.wall k shot below at is c.loop-snapshot.invariant

pub unreachable-requires : goal.unreachable-requires
unreachable-requires g c =
    let self = c.args.self.now in
    let all : length self.snapshots.items ≤ c.loop-snapshot.snapshot-index = search rules in
    none_left g.D.Digester.digest_of self c.requires.shown c.args.wall c.requires.listed c.loop-snapshot.snapshot-index all
    c.loop-snapshot.invariant
