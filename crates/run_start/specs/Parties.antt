-- Those who take part in a run with their signers, as they are made one after the other.
use Rattle.std.specs.Prelude.{◌≡◌, ℕ, List, [], map}
use Rattle.fr_bytes.specs.Parts.{IsWithin}
use Rattle.lms_tree.specs.Valid.{Key}
use Rattle.hall_core.specs.declared.facts.WallFacts.{WallFacts}
use Rattle.world_book.specs.declared.world.WallNote.{WallNote}
use Rattle.client_core.specs.Clients.{ClientView, opening_side}
use Rattle.script_read.specs.declared.script.Script.{Script}
use Rattle.script_read.specs.Limits.{IsListedUser, IsListedWall}
use Rattle.script_read.specs.Users.{has_user}
use Rattle.script_read.specs.Walls.{has_wall}
use Rattle.run_start.specs.declared.keys.Party.{Party}
use Rattle.run_start.specs.declared.keys.Seed.{Seed}
use Rattle.run_start.specs.declared.shared.Shared.{Shared}
use Rattle.run_start.specs.declared.keys.Parties.{Parties}
use Rattle.run_start.specs.Clients.{shared_in, starts_of}
use Rattle.run_start.specs.Keys.{pair_for, public_key, server_signing, signing_of, unused}
use Rattle.run_start.specs.Numbers.{Lists, the_user, the_wall}

-- ---- seeds

-- typecodes of keys that a script may have
pub record IsSeed (seed : Seed) : Type 0 where
  pub lms : IsWithin 5 6 seed.lms
  pub ots : IsWithin 1 4 seed.ots

abbrev pub user_seed : Script → ℕ → Seed
user_seed script n = record {
  number = n;
  private = (the_user script n).private;
  id = (the_user script n).id;
  lms = (the_user script n).lms;
  ots = (the_user script n).ots;
}

abbrev pub wall_seed : Script → ℕ → Seed
wall_seed script n = record {
  number = n;
  private = (the_wall script n).private;
  id = (the_wall script n).id;
  lms = 6;
  ots = (the_wall script n).ots;
}

-- ---- parties

abbrev pub party_of : Seed → Party
party_of seed = record {
  number = seed.number;
  signer = unused seed.private seed.id (pair_for seed.lms seed.ots);
}

abbrev pub user_party : Script → ℕ → Party
user_party script n = record { number = n; signer = signing_of (the_user script n) }

abbrev pub wall_party : Script → ℕ → Party
wall_party script n = record { number = n; signer = server_signing (the_wall script n) }

pub record IsUserParty (script : Script) (party : Party) : Type 0 where
  pub listed : IsListedUser script party.number
  pub made : party ≡ user_party script party.number

pub record IsWallParty (script : Script) (party : Party) : Type 0 where
  pub listed : IsListedWall script party.number
  pub made : party ≡ wall_party script party.number

-- all users and all walls, in rising order
pub record AreParties (script : Script) (parties : Parties) : Type 0 where
  pub walls : List ℕ
  pub all_users : Lists (has_user script.users) parties.numbers.items
  pub all_walls : Lists (has_wall script.walls) walls
  pub users_are : parties.users.items ≡ map (user_party script) parties.numbers.items
  pub walls_are : parties.walls.items ≡ map (wall_party script) walls

-- ---- what is made of them

abbrev pub listed_key : Party → ℕ × Key
listed_key party = (party.number, public_key party.signer)

abbrev pub note_of : Script → Party → WallNote
note_of script party = record {
  wall = party.number;
  owner = (the_wall script party.number).owner;
  f = (the_wall script party.number).f;
  server = public_key party.signer;
}

abbrev pub facts_of : Script → List (ℕ × Key) → Party → WallFacts
facts_of script keys party = record {
  wall = party.number;
  owner = (the_wall script party.number).owner;
  f = (the_wall script party.number).f;
  server = public_key party.signer;
  users = keys;
}

abbrev pub client_of : Script → Shared → Party → ClientView
client_of script shared party = record {
  signer = party.signer;
  sides = map (opening_side party.number) (starts_of script shared (the_user script party.number));
  book = record {
    user = party.number;
    key = public_key party.signer;
    rogue = (the_user script party.number).rogue;
    took = [];
    signed = [];
  };
}

abbrev pub HasListedWall : Script → WallNote → Type 0
HasListedWall script note = IsListedWall script note.wall

-- what the clients of some listed users are made of, whose walls are some listed ones
pub record IsShared (script : Script) (shared : Shared) : Type 0 where
  pub users : List ℕ
  pub walls : List ℕ
  pub all_users : Lists (has_user script.users) users
  pub all_walls : Lists (has_wall script.walls) walls
  pub made : shared ≡ shared_in script users walls

-- what is shared is these parties'
abbrev pub HasShared : Script → Parties → Shared → Type 0
HasShared script parties shared = (walls : List ℕ) → parties.walls.items ≡ map (wall_party script) walls
    → shared ≡ shared_in script parties.numbers.items walls
