-- The seats of a server: whose they are, and what the snapshots that a user keeps stand for. d is the digest of strings.
use Rattle.std.specs.Prelude.{◌≡◌, ◌≢◌, ℕ, ◌<◌, List, [], length, map, slice_index_or, Some}
use Rattle.std.specs.List.{All, AllByRecursion, AllZip}
use Rattle.fr_bytes.specs.History.{Begins}
use Rattle.fr_digest.specs.Digest.{Digest}
use Rattle.op_types.specs.Spelling.{IsLeaf}
use Rattle.hall_gate.specs.Seats.{caller_of, callers_of, fixed_of, front_of}
use Rattle.gate_users.specs.Users.{SitsAt}
use Rattle.hall_core.specs.declared.ask.Called.{Called}
use Rattle.hall_core.specs.declared.facts.WallFacts.{WallFacts}
use Rattle.hall_core.specs.declared.snapshot.Snapshot.{Snapshot}
use Rattle.hall_core.specs.Calls.{Legal, play}
use Rattle.hall_core.specs.Snapshots.{Stands}
use Rattle.hall_core.specs.Standing as standing
use Rattle.hall_server.specs.declared.seats.Seats.{Seats}
use Rattle.hall_server.specs.declared.server.Server.{Server}
use Rattle.hall_server.specs.Sights.{HallGate, HallSeat, Sight, sights_of, user_of, walls_in}

-- The calls are answered as the plain wall answers them, and each leaf that they leave has a spelling.
pub record IsPlayed (d : Digest) (facts : WallFacts) (calls : List Called) : Type 0 where
  pub legal : Legal d facts calls
  pub spelled : AllByRecursion IsLeaf (play d facts calls)

-- A user's seat at a wall, with its snapshot: the snapshot shows what the entries that the user has seen left at some
-- time.
pub record IsShown {D : Type 0} (d : Digest) (user : ℕ) (seat : HallSeat D) (snapshot : Snapshot D) : Type 0 where
  pub facts : WallFacts
  pub seen : List Called
  pub mine : caller_of seat ≡ user
  pub known : fixed_of seat ≡ Some facts
  pub begins : Begins seen (front_of seat)
  pub played : IsPlayed d facts seen
  pub stands : Stands d facts (play d facts seen) snapshot

module _ {D : Type 0} where
  -- the numbers of a server's walls, in their order
  abbrev pub walls_of : Server D → List ℕ
  walls_of server = server.walls.items

  -- the seats are one user's, each with its snapshot
  abbrev pub AreShown : Digest → Seats D → Type 0
  AreShown d seats = AllZip (IsShown d (user_of seats)) seats.places.seats.items seats.snapshots.items

  -- the seats are one user's at this server, one at each of its walls, in their order
  pub record IsSeatsOf (d : Digest) (server : Server D) (seats : Seats D) : Type 0 where
    pub sits : SitsAt server.gates.items seats.places
    pub shown : AreShown d seats
    pub walls : walls_in (sights_of seats) ≡ walls_of server

  -- the users of a server
  abbrev pub HasUsers : Server D → List ℕ → Type 0
  HasUsers server users = All (λ (gate : HallGate D). callers_of gate ≡ users) server.gates.items

  -- as many seats as the server has users
  abbrev pub AreAll : Server D → List (Seats D) → Type 0
  AreAll server all = All (λ (gate : HallGate D). length all ≡ length (callers_of gate)) server.gates.items

-- the first place at which a wall's number stands
pub record IsFirst (walls : List ℕ) (wall place : ℕ) : Type 0 where
  pub within : place < length walls
  pub here : (d : ℕ) → slice_index_or walls place d ≡ wall
  pub before : (k d : ℕ) → k < place → slice_index_or walls k d ≢ wall

-- what a user knows of a wall at first: no entry is seen, and there are no leaves
abbrev pub opened : standing.Hall → Sight
opened hall = record { facts = hall.facts; front = []; leaves = [] }

module _ {D : Type 0} where
  -- a user without seats
  pub record IsSeatless (seats : Seats D) : Type 0 where
    pub places : seats.places.seats.items ≡ []
    pub snapshots : seats.snapshots.items ≡ []

  -- a server of these halls and the seats of all its users, who have seen nothing yet
  pub record IsMade (d : Digest) (users : List ℕ) (halls : List standing.Hall) (server : Server D) (all : List (Seats D))
      : Type 0 where
    pub walls : walls_of server ≡ map (λ (hall : standing.Hall). hall.facts.wall) halls
    pub users_are : HasUsers server users
    pub seats_of : map user_of all ≡ users
    pub seats : All (IsSeatsOf d server) all
    pub sights : All (λ (user : Seats D). sights_of user ≡ map opened halls) all
