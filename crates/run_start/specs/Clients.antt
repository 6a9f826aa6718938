-- What each user's client begins with.
use Rattle.std.specs.Prelude.{ℕ, List, [], map, nat_eq, if◌then◌else◌, Option, Some, None}
use Rattle.fr_bytes.specs.Bytes.{Text}
use Rattle.world_book.specs.declared.world.WallNote.{WallNote}
use Rattle.world_book.specs.Kept.{known_by}
use Rattle.client_core.specs.declared.start.Owned.{Owned}
use Rattle.client_core.specs.declared.start.SideStart.{SideStart}
use Rattle.client_core.specs.Clients.{ClientView, opening_side}
use Rattle.script_read.specs.declared.script.Script.{Script}
use Rattle.script_read.specs.declared.script.ScriptUser.{ScriptUser}
use Rattle.script_read.specs.declared.script.ScriptWall.{ScriptWall}
use Rattle.run_start.specs.declared.shared.Shared.{Shared}
use Rattle.run_start.specs.Keys.{keys_in, notes_in, signing_of, user_key}
use Rattle.run_start.specs.Numbers.{the_user, the_wall}

-- the users' secrets
abbrev pub secrets_in : Script → List ℕ → List (ℕ × Text)
secrets_in script users = map (λ (n : ℕ). (n, (the_user script n).secret)) users

-- what all clients are made of
abbrev pub shared_in : Script → List ℕ → List ℕ → Shared
shared_in script users walls = record {
  keys = keys_in script users;
  secrets = secrets_in script users;
  notes = notes_in script walls;
}

-- The owner of a wall has its master secret, and the secrets of all users.
abbrev pub owned_of : ScriptWall → Shared → Owned
owned_of wall shared = record { master = wall.master; secrets = shared.secrets }

abbrev pub owned_by : Script → Shared → ScriptUser → WallNote → Option Owned
owned_by script shared user note =
    if nat_eq user.user note.owner then Some (owned_of (the_wall script note.wall) shared) else None

-- what a user begins with on a wall, of which nothing is accepted
abbrev pub start_on : Script → Shared → ScriptUser → WallNote → SideStart
start_on script shared user note = record {
  known = known_by note shared.keys None;
  depth = (the_wall script note.wall).depth;
  secret = user.secret;
  owned = owned_by script shared user note;
}

-- and on all walls
abbrev pub starts_of : Script → Shared → ScriptUser → List SideStart
starts_of script shared user = map (start_on script shared user) shared.notes

abbrev pub client_at : Script → Shared → ℕ → ClientView
client_at script shared n = record {
  signer = signing_of (the_user script n);
  sides = map (opening_side n) (starts_of script shared (the_user script n));
  book = record {
    user = n;
    key = user_key script n;
    rogue = (the_user script n).rogue;
    took = [];
    signed = [];
  };
}

-- The client of a user: nothing is signed, nothing of any wall is accepted, and the book is empty.
abbrev pub opening_client : Script → List ℕ → List ℕ → ℕ → ClientView
opening_client script users walls user = client_at script (shared_in script users walls) user
