use Rattle.std.proofs.Common.{◌≡◌, ◌≢◌, ◌∙◌, ℕ, ◌<◌, List, ap, arith, length, map, subst, sym}
use Rattle.std.specs.List.{All, AllPairs}
use Rattle.client_core.specs.Clients.{client_view}
use Rattle.hall_core.specs.Standing as standing
use Rattle.hall_server.specs.declared.seats.Seats.{Seats}
use Rattle.hall_server.specs.Seating.{HasUsers}
use Rattle.hall_server.specs.Sights.{Sight, sights_of}
use Rattle.script_read.specs.declared.script.ScriptUser.{ScriptUser}
use Rattle.run_start.specs.declared.shared.Shared.{Shared}
use Rattle.run_start.specs.Keys.{keys_in}
use Rattle.run_start.proofs.Listing.{some-listed}
use Rattle.run_start.proofs.Beginning.{clients-are, facts-are, hall-sights, hall-walls, users-are, walls-are}
use Rattle.run_start.proofs.Opening.{apart-rising}
use Rattle.run_start.proofs.making.begin.Goals as goal

pub clients-requires-clause-parties : goal.clients-requires-clause-parties
clients-requires-clause-parties g c = users-are c.args.script.now c.args.parties c.requires.parties

pub halls-requires-clause-parties : goal.halls-requires-clause-parties
halls-requires-clause-parties g c = walls-are c.args.script.now c.args.parties c.requires.parties

pub make-requires-clause-some : goal.make-requires-clause-some
make-requires-clause-some g c =
    let users = c.args.script.now.users in
    let few = c.requires.script.users.few in
    let some : 0 < length users = omega arith in
    let there = some-listed (λ (u : ScriptUser). u.user) users c.args.parties.numbers.items some
    c.requires.parties.all_users in
    subst (λ (l : List ℕ). 0 < length l) (sym c.deref.ensures.value) there

pub make-requires-clause-apart : goal.make-requires-clause-apart
make-requires-clause-apart g c =
    subst (AllPairs (λ (m n : ℕ). m ≢ n)) (sym c.deref.ensures.value)
    (apart-rising c.args.parties.numbers.items c.requires.parties.all_users.rise)

pub returns : goal.returns
returns g c =
    let script = c.args.script.now in
    let p = c.requires.parties in
    let users = c.args.parties.numbers.items in
    let server = c.in_ok-server.server in
    let e = c.in_ok-server.ensures in
    let halls = c.in_ok-halls.halls.items in
    let facts = facts-are script c.args.parties p c.args.shared c.requires.shared
    (map (λ (h : standing.Hall). h.facts) halls) c.in_ok-halls.ensures.facts in
    record {
      users = users;
      walls = p.walls;
      all_users = p.all_users;
      all_walls = p.all_walls;
      seated = e.users.1 ∙ c.deref.ensures.value;
      walls_are = e.walls ∙ hall-walls script (keys_in script users) p.walls halls facts;
      users_are = subst (HasUsers server) c.deref.ensures.value e.users.0;
      seats = e.seats;
      all = e.all;
      sights = subst (λ (ss : List Sight). All (λ (seats : Seats g.row.D.Denot). sights_of seats ≡ ss)
          c.in_ok-server.seats.items) (hall-sights script users p.walls halls facts) e.opened;
      clients = clients-are script c.args.parties p c.args.shared c.requires.shared
          (map client_view c.in_ok-clients.clients.items) c.in_ok-clients.ensures;
      notes = ap (λ (s : Shared). s.notes) (c.requires.shared p.walls p.walls_are);
    }
