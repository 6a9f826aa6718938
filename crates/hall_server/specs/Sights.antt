-- What a user knows of the walls of a server: of each, what no call changes, the entries that the user has seen, and the
-- leaves that the user's snapshot shows.
use Rattle.std.specs.Prelude.{ℕ, List, [], ◌∷◌, map, nat_eq, cond, Option, Some, None}
use Rattle.op_types.specs.declared.op.Leaf.{Leaf}
use Rattle.lms_tree.specs.Valid.{key_by}
use Rattle.hall_gate.specs.declared.gate.Gate.{Gate}
use Rattle.hall_gate.specs.declared.seat.GateSeat.{GateSeat}
use Rattle.hall_gate.specs.Seats.{fixed_of, front_of}
use Rattle.hall_core.specs.declared.ask.Answer.{Answer}
use Rattle.hall_core.specs.declared.ask.Ask.{Ask}
use Rattle.hall_core.specs.declared.ask.Called.{Called}
use Rattle.hall_core.specs.declared.facts.WallFacts.{WallFacts}
use Rattle.hall_core.specs.declared.snapshot.Snapshot.{Snapshot}
use Rattle.hall_core.specs.Slips.{Slip}
use Rattle.hall_replies.specs.Kept.{leaves_of}
use Rattle.hall_server.specs.declared.turned.TurnedHall.{TurnedHall}
use Rattle.hall_server.specs.declared.seats.Seats.{Seats}

-- the gate of a hall, and a seat at it
abbrev pub HallGate : Type 0 → Type 0
HallGate D = Gate (TurnedHall D) Slip Answer (Snapshot D) Called Ask WallFacts

abbrev pub HallSeat : Type 0 → Type 0
HallSeat D = GateSeat (TurnedHall D) Slip Answer (Snapshot D) Called Ask WallFacts

-- what a user knows of one wall
pub record Sight : Type 0 where
  pub facts : WallFacts
  pub front : List Called
  pub leaves : List Leaf

-- what is known of a wall that isn't there
abbrev pub no_facts : WallFacts
no_facts = record { wall = 0; owner = 0; f = 0; server = key_by 0 0 0 0 0 0 [] []; users = [] }

abbrev pub unseen : Sight
unseen = record { facts = no_facts; front = []; leaves = [] }

abbrev pub facts_or_none : Option WallFacts → WallFacts
facts_or_none None = no_facts
facts_or_none (Some facts) = facts

module _ {D : Type 0} where
  abbrev pub sight_of : HallSeat D → Snapshot D → Sight
  sight_of seat snapshot = record {
    facts = facts_or_none (fixed_of seat);
    front = front_of seat;
    leaves = leaves_of snapshot;
  }

  -- of each seat and its snapshot
  abbrev pub sights_in : List (HallSeat D) → List (Snapshot D) → List Sight
  sights_in (seat ∷ seats) (snapshot ∷ snapshots) = sight_of seat snapshot ∷ sights_in seats snapshots
  sights_in _ _ = []

  -- what a user knows, in the order of the server's walls
  abbrev pub sights_of : Seats D → List Sight
  sights_of seats = sights_in seats.places.seats.items seats.snapshots.items

  -- whose seats they are
  abbrev pub user_of : Seats D → ℕ
  user_of seats = seats.user

-- what is known of the wall of this number
abbrev pub sight_in : List Sight → ℕ → Sight
sight_in [] wall = unseen
sight_in (sight ∷ sights) wall = cond (nat_eq sight.facts.wall wall) sight (sight_in sights wall)

abbrev pub sight_at : {D : Type 0} → Seats D → ℕ → Sight
sight_at seats wall = sight_in (sights_of seats) wall

-- the numbers of the walls
abbrev pub walls_in : List Sight → List ℕ
walls_in sights = map (λ (s : Sight). s.facts.wall) sights
