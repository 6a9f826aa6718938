-- What users know after a meeting, and what is known of the halls when a server is closed. d is the digest of strings.
use Rattle.std.specs.Prelude.{◌≡◌, ℕ, List}
use Rattle.std.specs.List.{All, AllZip, Contains}
use Rattle.fr_bytes.specs.History.{Begins, own}
use Rattle.fr_digest.specs.Digest.{Digest}
use Rattle.hall_gate.specs.Calls.{SeesMore}
use Rattle.hall_core.specs.Calls.{caller_of, turns}
use Rattle.hall_core.specs.Standing as standing
use Rattle.hall_server.specs.declared.seats.Seats.{Seats}
use Rattle.hall_server.specs.Sights.{Sight, sight_at, sights_of, user_of}

-- ---- meetings

-- A user has seen more of a wall, but no new entry of its own. The snapshot is as it was.
pub record SawMore (user : ℕ) (before now : Sight) : Type 0 where
  pub same : now.facts ≡ before.facts
  pub sees : SeesMore caller_of user before.front now.front
  pub shown : now.leaves ≡ before.leaves

module _ {D : Type 0} where
  -- the seats are the same user's, who has seen more of each wall
  pub record HasMet (before now : Seats D) : Type 0 where
    pub user : user_of now ≡ user_of before
    pub sights : (wall : ℕ) → SawMore (user_of before) (sight_at before wall) (sight_at now wall)

  -- of each wall, what a user has seen begins with what another had seen
  abbrev pub KnowsOf : Seats D → Seats D → Type 0
  KnowsOf other user = (wall : ℕ) → Begins (sight_at other wall).front (sight_at user wall).front

-- ---- the end

-- The hall of a wall at the end: it is the wall that the user knew, its entries begin with what the user had seen, and
-- none of them is the user's that the user hadn't seen.
pub record IsClosedOn (d : Digest) (user : ℕ) (sight : Sight) (hall : standing.Hall) : Type 0 where
  pub same : hall.facts ≡ sight.facts
  pub begins : Begins sight.front hall.entries
  pub mine : own caller_of user hall.entries ≡ own caller_of user sight.front
  pub turned : turns d hall.facts user hall.entries ≡ turns d hall.facts user sight.front

-- the same of each wall, in the walls' order
abbrev pub AreClosedOn : {D : Type 0} → Digest → List standing.Hall → Seats D → Type 0
AreClosedOn d halls seats = AllZip (IsClosedOn d (user_of seats)) (sights_of seats) halls

-- its entries are legal, and they leave its leaves
abbrev pub IsKept : Digest → standing.Hall → Type 0
IsKept d hall = standing.IsKept d hall.facts hall.leaves hall.entries

-- each entry is of one of these users
abbrev pub HasNoStranger : List ℕ → standing.Hall → Type 0
HasNoStranger users hall = All (λ e. Contains users (caller_of e)) hall.entries
