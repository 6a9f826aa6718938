-- The signing keys of a script's users and of its walls' servers, and what everybody knows of them.
use Rattle.std.specs.Prelude.{ℕ, List, [], map, unwrap_or}
use Rattle.lms_params.specs.declared.pair.Pair.{Pair}
use Rattle.lms_params.specs.Parameters.{pair_at}
use Rattle.lms_tree.specs.Signer.{Signing, public_of}
use Rattle.lms_tree.specs.Valid.{Key, key_by}
use Rattle.fr_bytes.specs.Bytes.{Text}
use Rattle.hall_core.specs.declared.facts.WallFacts.{WallFacts}
use Rattle.world_book.specs.declared.world.WallNote.{WallNote}
use Rattle.script_read.specs.declared.script.Script.{Script}
use Rattle.script_read.specs.declared.script.ScriptUser.{ScriptUser}
use Rattle.script_read.specs.declared.script.ScriptWall.{ScriptWall}
use Rattle.run_start.specs.Numbers.{the_user, the_wall}

-- ---- signers

-- the parameter sets of two typecodes; what stands for those of codes that the tables don't have
abbrev pub no_pair : Pair
no_pair = (key_by 0 0 0 0 0 0 [] []).pair

unfoldable pub pair_for : ℕ → ℕ → Pair
pair_for lms ots = unwrap_or (pair_at lms ots) no_pair

-- a signer that has used no leaf
abbrev pub unused : Text → Text → Pair → Signing
unused private id pair = record { private = private; id = id; pair = pair; used = 0 }

-- the signer of a user
abbrev pub signing_of : ScriptUser → Signing
signing_of user = unused user.private user.id (pair_for user.lms user.ots)

-- the signer of a wall's server, whose LMS typecode is 6
abbrev pub server_signing : ScriptWall → Signing
server_signing wall = unused wall.private wall.id (pair_for 6 wall.ots)

-- the public key of a signer
abbrev pub public_key : Signing → Key
public_key s = public_of s.private s.id s.pair

-- ---- what everybody knows

-- a user's public key, and the server's of a wall
abbrev pub user_key : Script → ℕ → Key
user_key script n = public_key (signing_of (the_user script n))

abbrev pub server_key : Script → ℕ → Key
server_key script n = public_key (server_signing (the_wall script n))

-- the users with their public keys
abbrev pub keys_in : Script → List ℕ → List (ℕ × Key)
keys_in script users = map (λ (n : ℕ). (n, user_key script n)) users

-- what is known of a wall
abbrev pub note_at : Script → ℕ → WallNote
note_at script n = record {
  wall = n;
  owner = (the_wall script n).owner;
  f = (the_wall script n).f;
  server = server_key script n;
}

abbrev pub notes_in : Script → List ℕ → List WallNote
notes_in script walls = map (note_at script) walls

-- and what the server's hall has of it, with the users' keys
abbrev pub facts_at : Script → List (ℕ × Key) → ℕ → WallFacts
facts_at script keys n = record {
  wall = n;
  owner = (the_wall script n).owner;
  f = (the_wall script n).f;
  server = server_key script n;
  users = keys;
}
