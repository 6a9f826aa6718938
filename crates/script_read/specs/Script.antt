-- The whole object of a script, key after key and element after element.
use Rattle.std.specs.Prelude.{ℕ, List, [], ◌∷◌, codes, Ok}
use Rattle.serde_json.specs.Data.{Data}
use Rattle.script_read.specs.declared.script.DigestName.{DigestName}
use Rattle.script_read.specs.declared.script.DigestName.TheVariants as digests
use Rattle.script_read.specs.declared.script.ScriptUser.{ScriptUser}
use Rattle.script_read.specs.declared.script.ScriptWall.{ScriptWall}
use Rattle.script_read.specs.declared.script.ScriptSession.{ScriptSession}
use Rattle.script_read.specs.declared.script.TamperLine.{TamperLine}
use Rattle.script_read.specs.declared.script.Script.{Script}
use Rattle.script_read.specs.Refusal.{Checked, ◌>>=◌}
use Rattle.script_read.specs.Fields.{natural_within, an_object, key, word, list_within, no_further}
use Rattle.script_read.specs.Elements.{each, alone}
use Rattle.script_read.specs.Users.{user_of}
use Rattle.script_read.specs.Walls.{wall_of}
use Rattle.script_read.specs.Phases.{phase_of}
use Rattle.script_read.specs.Tamper.{line_of}

abbrev pub digest_words : List (List ℕ × DigestName)
digest_words = (codes "sha", digests.Sha) ∷ (codes "short", digests.Short) ∷ []

unfoldable pub users_of : Data → Checked (List ScriptUser)
users_of o = do
  ds ← list_within (codes "users") 1 32 o
  each user_of [] ds

unfoldable pub walls_of : Data → Checked (List ScriptWall)
walls_of o = do
  ds ← list_within (codes "walls") 1 8 o
  each wall_of [] ds

-- all phases, with at most 2,048 commands
unfoldable pub phases_of : Data → Checked (List (List ScriptSession))
phases_of o = do
  ds ← list_within (codes "phases") 0 64 o
  each (phase_of 2048) [] ds

unfoldable pub lines_of : Data → Checked (List TamperLine)
lines_of o = do
  ds ← list_within (codes "tamper") 0 32 o
  each (alone line_of) [] ds

unfoldable pub walked : Data → Checked Script
walked d = do
  o ← an_object (codes "script") d
  format ← key (codes "format") (natural_within 1 1) o
  digest ← word (codes "digest") digest_words o
  users ← users_of o
  walls ← walls_of o
  phases ← phases_of o
  tamper ← lines_of o
  only ← no_further 6 o
  Ok (record { digest = digest; users = users; walls = walls; phases = phases; tamper = tamper })
