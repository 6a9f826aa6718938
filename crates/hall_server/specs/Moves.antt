-- Users' seats as they are dealt, and as they go to a meeting and come back.
use Rattle.std.specs.Prelude.{◌≡◌, ℕ, suc, List, [], ◌∷◌, ◌++◌, map}
use Rattle.hall_core.specs.declared.snapshot.Snapshot.{Snapshot}
use Rattle.gate_users.specs.declared.seats.Seats as gates
use Rattle.hall_core.specs.declared.ask.Answer.{Answer}
use Rattle.hall_core.specs.declared.ask.Ask.{Ask}
use Rattle.hall_core.specs.declared.ask.Called.{Called}
use Rattle.hall_core.specs.declared.facts.WallFacts.{WallFacts}
use Rattle.hall_core.specs.Slips.{Slip}
use Rattle.hall_server.specs.declared.seats.Seats.{Seats}
use Rattle.hall_server.specs.declared.turned.TurnedHall.{TurnedHall}
use Rattle.hall_server.specs.Sights.{HallSeat}

abbrev pub Places : Type 0 → Type 0
Places D = gates.Seats (TurnedHall D) Slip Answer (Snapshot D) Called Ask WallFacts

module _ {D : Type 0} where
  -- each user's seats
  abbrev pub places_of : List (Seats D) → List (Places D)
  places_of users = map (λ (user : Seats D). user.places) users

  -- the users with other seats
  abbrev pub seated : List (Seats D) → List (Places D) → List (Seats D)
  seated (user ∷ users) (places ∷ rest) = record user { places = places } ∷ seated users rest
  seated _ _ = []

  -- the first i users with other seats
  abbrev pub seated_first : ℕ → List (Seats D) → List (Places D) → List (Seats D)
  seated_first (suc i) (user ∷ users) (places ∷ rest) = record user { places = places } ∷ seated_first i users rest
  seated_first _ users _ = users

  -- the first i places as the users'
  abbrev pub places_first : ℕ → List (Seats D) → List (Places D) → List (Places D)
  places_first (suc i) (user ∷ users) (places ∷ rest) = user.places ∷ places_first i users rest
  places_first _ _ places = places

  -- a user has one seat more, with this snapshot
  pub record Gets (snapshot : Snapshot D) (place : HallSeat D) (before after : Seats D) : Type 0 where
    pub user : after.user ≡ before.user
    pub places : after.places.seats.items ≡ before.places.seats.items ++ place ∷ []
    pub snapshots : after.snapshots.items ≡ before.snapshots.items ++ snapshot ∷ []

  -- each user has one seat more
  abbrev pub AllGet : Snapshot D → List (HallSeat D) → List (Seats D) → List (Seats D) → Type 0
  AllGet snapshot [] [] [] = Unit {0}
  AllGet snapshot (place ∷ places) (before ∷ befores) (after ∷ afters) =
      Gets snapshot place before after × AllGet snapshot places befores afters
  AllGet snapshot _ _ _ = ⊥
