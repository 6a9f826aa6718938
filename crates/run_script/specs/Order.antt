-- The users of a run in an order.
use Rattle.std.specs.Prelude.{◌≡◌, List, ℕ, map}
use Rattle.std.specs.List.{All, AllByRecursion}
use Rattle.fr_digest.specs.Digest.{Digest}
use Rattle.client_core.specs.Clients.{Standing}
use Rattle.hall_server.specs.declared.seats.Seats.{Seats}
use Rattle.hall_server.specs.declared.server.Server.{Server}
use Rattle.hall_core.specs.Standing as standing
use Rattle.hall_server.specs.Meetings.{AreClosedOn, HasNoStranger, IsKept}
use Rattle.hall_server.specs.Seating.{HasUsers, IsSeatsOf}
use Rattle.world_book.specs.declared.world.WallNote.{WallNote}
use Rattle.world_book.specs.Kept.{Kept}
use Rattle.run_end.specs.Ends.{HasEnded, TellsOf, book_in, wall_end}
use Rattle.run_script.specs.declared.closing.Ran.{Ran}
use Rattle.hall_server.specs.Sights.{user_of}
use Rattle.session_run.specs.Views.{client_of}
use Rattle.run_phases.specs.declared.running.Running.{Running}
use Rattle.run_phases.specs.Members.{members}
use Rattle.run_phases.specs.Phases.{AreMembers, Moved, members_of}

module _ {D W : Type 0} where
  -- These users' clients and seats went from the run into lists, in the users' order.
  pub record InOrder (d : Digest) (server : Server D) (users : List ℕ) (before now : Running D W)
      (clients : List Standing) (seats : List (Seats D)) : Type 0 where
    pub moved : Moved (members_of before) (members_of now) (members clients seats)
    pub seated : map user_of seats ≡ users
    pub same : map (λ (c : Standing). (client_of c).user) clients ≡ map user_of seats
    pub seats_are : AllByRecursion (IsSeatsOf d server) seats
    pub left : AreMembers d server now.clients.items now.seats.items
    pub wires : now.wires ≡ before.wires
    pub outcomes : now.outcomes ≡ before.outcomes

  -- What clients' books, notes and halls come to behind a run: its world with the audit of it, and the walls' ends.
  pub record Comes (d : Digest) (clients : List Standing) (notes : List WallNote) (halls : List standing.Hall)
      (run : Running D W) (ran : Ran D W) : Type 0 where
    pub commands : ran.outcomes.commands ≡ run.outcomes.items
    pub wires : ran.wires ≡ run.wires
    pub halls_are : ran.halls.items ≡ halls
    pub world : ran.world ≡ record { users = map book_in clients; walls = notes }
    pub ended : AllByRecursion (HasEnded d) clients
    pub kept : Kept d ran.world
    pub audited : TellsOf d ran.world ran.outcomes.audit
    pub ends : ran.outcomes.walls ≡ map (wall_end d) halls

  -- The end of a run of these users: the server is closed by all of its seats.
  pub record Closes (d : Digest) (server : Server D) (users : List ℕ) (notes : List WallNote) (run : Running D W)
      (ran : Ran D W) : Type 0 where
    pub clients : List Standing
    pub seats : List (Seats D)
    pub last : Running D W
    pub order : InOrder d server users run last clients seats
    pub comes : Comes d clients notes ran.halls.items last ran
    pub kept : All (IsKept d) ran.halls.items
    pub closed : All (AreClosedOn d ran.halls.items) seats
    pub known : (all : List ℕ) → HasUsers server all → All (HasNoStranger all) ran.halls.items
