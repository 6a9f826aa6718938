-- Users: each an object of seven keys, with a number that none before it has.
use Rattle.std.specs.Prelude.{ℕ, List, Bool, ◌==◌, codes, Ok}
use Rattle.std.specs.List.{list_any}
use Rattle.serde_json.specs.Data.{Data}
use Rattle.serde_json.specs.Find.{as_bool}
use Rattle.script_read.specs.declared.refusal.ScriptRefusal.TheVariants.{Field}
use Rattle.script_read.specs.declared.script.ScriptUser.{ScriptUser}
use Rattle.script_read.specs.Refusal.{Checked, ◌>>=◌, refused}
use Rattle.script_read.specs.Fields.{listed, natural_within, hexadecimal, an_object, key, no_further}

-- one of the users has the number
abbrev pub has_user : List ScriptUser → ℕ → Bool
has_user users n = list_any (λ u. u.user == n) users

unfoldable pub user_of : List ScriptUser → Data → Checked ScriptUser
user_of before d = do
  o ← an_object (codes "users") d
  user ← key (codes "user") listed o
  fresh ← refused (Field (codes "user")) (has_user before user)
  private ← key (codes "private") (hexadecimal 32) o
  id ← key (codes "id") (hexadecimal 16) o
  lms ← key (codes "lms") (natural_within 5 6) o
  ots ← key (codes "ots") (natural_within 1 4) o
  secret ← key (codes "secret") (hexadecimal 32) o
  rogue ← key (codes "rogue") as_bool o
  only ← no_further 7 o
  Ok (record { user = user; private = private; id = id; lms = lms; ots = ots; secret = secret; rogue = rogue })
