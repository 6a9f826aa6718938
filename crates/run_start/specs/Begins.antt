-- What a run begins with.
use Rattle.std.specs.Prelude.{◌≡◌, ℕ, List, [], map}
use Rattle.std.specs.List.{All}
use Rattle.fr_digest.specs.Digest.{Digest}
use Rattle.lms_tree.specs.Valid.{Key}
use Rattle.world_book.specs.declared.book.UserBook.{UserBook}
use Rattle.client_core.specs.Clients.{client_view}
use Rattle.hall_core.specs.declared.facts.WallFacts.{WallFacts}
use Rattle.hall_server.specs.declared.seats.Seats.{Seats}
use Rattle.hall_server.specs.Seating.{AreAll, HasUsers, IsSeatsOf, walls_of}
use Rattle.hall_server.specs.Sights.{Sight, sights_of, user_of}
use Rattle.script_read.specs.declared.script.Script.{Script}
use Rattle.script_read.specs.Users.{has_user}
use Rattle.script_read.specs.Walls.{has_wall}
use Rattle.run_start.specs.declared.begun.Start.{Start}
use Rattle.run_start.specs.Clients.{opening_client}
use Rattle.run_start.specs.Keys.{facts_at, keys_in, notes_in}
use Rattle.run_start.specs.Numbers.{Lists}

-- what a user knows of a wall of which nothing has been seen
abbrev pub sight_of : WallFacts → Sight
sight_of facts = record { facts = facts; front = []; leaves = [] }

-- and of all walls
abbrev pub opening_sights : Script → List ℕ → List ℕ → List Sight
opening_sights script users walls = map (λ (n : ℕ). sight_of (facts_at script (keys_in script users) n)) walls

-- The server has the script's walls and its users, in rising order. Each user has the seats at it, has seen nothing yet,
-- and has the opening client. The notes are those of the walls.
pub record Begins {D : Type 0} (d : Digest) (script : Script) (start : Start D) : Type 0 where
  pub users : List ℕ
  pub walls : List ℕ
  pub all_users : Lists (has_user script.users) users
  pub all_walls : Lists (has_wall script.walls) walls
  pub seated : map user_of start.seats.items ≡ users
  pub walls_are : walls_of start.server ≡ walls
  pub users_are : HasUsers start.server users
  pub seats : All (IsSeatsOf d start.server) start.seats.items
  pub all : AreAll start.server start.seats.items
  pub sights : All (λ (seats : Seats D). sights_of seats ≡ opening_sights script users walls) start.seats.items
  pub clients : map client_view start.clients.items ≡ map (opening_client script users walls) users
  pub notes : start.notes ≡ notes_in script walls
