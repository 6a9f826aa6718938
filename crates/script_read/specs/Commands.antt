-- Commands: each an object that begins with its verb and the wall.
use Rattle.std.specs.Prelude.{ℕ, List, [], ◌∷◌, length, nat_le, codes, Ok}
use Rattle.op_types.specs.declared.roles.TheConstants.{READER, WRITER}
use Rattle.serde_json.specs.Data.{Data}
use Rattle.script_read.specs.declared.refusal.ScriptRefusal.TheVariants.{Limit}
use Rattle.script_read.specs.declared.commands.Verb.{Verb}
use Rattle.script_read.specs.declared.commands.Verb.TheVariants as verbs
use Rattle.script_read.specs.declared.script.Command.{Command}
use Rattle.script_read.specs.declared.script.Command.TheVariants.{Post, Read, ReadAll, Admit, Remove}
use Rattle.script_read.specs.Refusal.{Checked, ◌>>=◌, refused}
use Rattle.script_read.specs.Fields.{listed, an_object, key, word, limited_text, no_further}

abbrev pub verb_words : List (List ℕ × Verb)
verb_words =
    (codes "post", verbs.Post)
    ∷ (codes "read", verbs.Read)
    ∷ (codes "read_all", verbs.ReadAll)
    ∷ (codes "admit", verbs.Admit)
    ∷ (codes "remove", verbs.Remove)
    ∷ []

abbrev pub role_words : List (List ℕ × ℕ)
role_words = (codes "reader", READER) ∷ (codes "writer", WRITER) ∷ []

-- ---- what stands behind the verb and the wall

unfoldable pub post_of : ℕ → Data → Checked Command
post_of wall o = do
  text ← limited_text (codes "text") 1024 o
  only ← no_further 3 o
  Ok (Post wall text)

unfoldable pub read_of : ℕ → Data → Checked Command
read_of wall o = do
  only ← no_further 2 o
  Ok (Read wall)

unfoldable pub read_all_of : ℕ → Data → Checked Command
read_all_of wall o = do
  only ← no_further 2 o
  Ok (ReadAll wall)

unfoldable pub admit_of : ℕ → Data → Checked Command
admit_of wall o = do
  user ← key (codes "user") listed o
  role ← word (codes "role") role_words o
  only ← no_further 4 o
  Ok (Admit wall user role)

unfoldable pub remove_of : ℕ → Data → Checked Command
remove_of wall o = do
  user ← key (codes "user") listed o
  only ← no_further 3 o
  Ok (Remove wall user)

abbrev pub by_verb : Verb → ℕ → Data → Checked Command
by_verb verbs.Post = post_of
by_verb verbs.Read = read_of
by_verb verbs.ReadAll = read_all_of
by_verb verbs.Admit = admit_of
by_verb verbs.Remove = remove_of

-- ---- a command

-- A command behind those of its session that came before, where so many had room.
unfoldable pub command_of : ℕ → List Command → Data → Checked Command
command_of room before d = do
  o ← an_object (codes "do") d
  more ← refused (Limit (codes "commands")) (nat_le room (length before))
  verb ← word (codes "do") verb_words o
  wall ← key (codes "wall") listed o
  by_verb verb wall o
