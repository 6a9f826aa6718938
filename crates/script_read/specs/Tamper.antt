-- Tamper lines: each an object that begins with its kind. Where no range stands, a number may be any u64.
use Rattle.std.specs.Prelude.{ℕ, List, [], ◌∷◌, codes, Ok}
use Rattle.serde_json.specs.Data.{Data}
use Rattle.serde_json.specs.Find.{as_array}
use Rattle.script_read.specs.declared.tamper.LineKind.{LineKind}
use Rattle.script_read.specs.declared.tamper.LineKind.TheVariants as kinds
use Rattle.script_read.specs.declared.script.TamperLine.{TamperLine}
use Rattle.script_read.specs.declared.script.TamperLine.TheVariants as lines
use Rattle.script_read.specs.Refusal.{Checked, ◌>>=◌, found}
use Rattle.script_read.specs.Fields.{as_natural, listed, natural_within, hexadecimal_within, an_object, key, word, no_further}
use Rattle.script_read.specs.Elements.{each, alone}

abbrev pub kind_words : List (List ℕ × LineKind)
kind_words =
    (codes "flip", kinds.Flip)
    ∷ (codes "cut", kinds.Cut)
    ∷ (codes "add", kinds.Add)
    ∷ (codes "from", kinds.From)
    ∷ (codes "branch", kinds.Branch)
    ∷ (codes "serve", kinds.Serve)
    ∷ (codes "forge", kinds.Forge)
    ∷ (codes "replay", kinds.Replay)
    ∷ (codes "twin", kinds.Twin)
    ∷ []

-- a number of any size
abbrev pub any_number : List ℕ → Data → Checked ℕ
any_number name o = key name as_natural o

-- ---- lines on the reply to a command

unfoldable pub flip_of : Data → Checked TamperLine
flip_of o = do
  phase ← any_number (codes "phase") o
  session ← any_number (codes "session") o
  command ← any_number (codes "command") o
  byte ← any_number (codes "byte") o
  mask ← key (codes "mask") (natural_within 1 255) o
  only ← no_further 6 o
  Ok (lines.Flip phase session command byte mask)

unfoldable pub cut_of : Data → Checked TamperLine
cut_of o = do
  phase ← any_number (codes "phase") o
  session ← any_number (codes "session") o
  command ← any_number (codes "command") o
  keep ← any_number (codes "keep") o
  only ← no_further 5 o
  Ok (lines.Cut phase session command keep)

unfoldable pub add_of : Data → Checked TamperLine
add_of o = do
  phase ← any_number (codes "phase") o
  session ← any_number (codes "session") o
  command ← any_number (codes "command") o
  bytes ← key (codes "bytes") (hexadecimal_within 1 1024) o
  only ← no_further 5 o
  Ok (lines.Add phase session command bytes)

unfoldable pub from_of : Data → Checked TamperLine
from_of o = do
  phase ← any_number (codes "phase") o
  session ← any_number (codes "session") o
  command ← any_number (codes "command") o
  from ← any_number (codes "from") o
  only ← no_further 5 o
  Ok (lines.From phase session command from)

-- ---- lines on a wall and its branches

unfoldable pub branch_of : Data → Checked TamperLine
branch_of o = do
  phase ← any_number (codes "phase") o
  wall ← key (codes "wall") listed o
  name ← key (codes "name") (natural_within 1 8) o
  of ← any_number (codes "of") o
  size ← any_number (codes "size") o
  only ← no_further 6 o
  Ok (lines.Branch phase wall name of size)

-- a user's number in a list of them
unfoldable pub number_of : Data → Checked ℕ
number_of d = found (codes "users") (listed d)

unfoldable pub serve_of : Data → Checked TamperLine
serve_of o = do
  phase ← any_number (codes "phase") o
  wall ← key (codes "wall") listed o
  branch ← any_number (codes "branch") o
  ds ← key (codes "users") as_array o
  users ← each (alone number_of) [] ds
  only ← no_further 5 o
  Ok (lines.Serve phase wall branch users)

unfoldable pub forge_of : Data → Checked TamperLine
forge_of o = do
  phase ← any_number (codes "phase") o
  wall ← key (codes "wall") listed o
  branch ← any_number (codes "branch") o
  author ← key (codes "author") listed o
  seq ← any_number (codes "seq") o
  epoch ← any_number (codes "epoch") o
  view ← any_number (codes "view") o
  body ← key (codes "body") (hexadecimal_within 0 1024) o
  only ← no_further 9 o
  Ok (lines.Forge phase wall branch author seq epoch view body)

unfoldable pub replay_of : Data → Checked TamperLine
replay_of o = do
  phase ← any_number (codes "phase") o
  wall ← key (codes "wall") listed o
  branch ← any_number (codes "branch") o
  of ← any_number (codes "of") o
  position ← any_number (codes "position") o
  only ← no_further 6 o
  Ok (lines.Replay phase wall branch of position)

unfoldable pub twin_of : Data → Checked TamperLine
twin_of o = do
  phase ← any_number (codes "phase") o
  wall ← key (codes "wall") listed o
  branch ← any_number (codes "branch") o
  position ← any_number (codes "position") o
  only ← no_further 5 o
  Ok (lines.Twin phase wall branch position)

-- ---- a line

abbrev pub by_kind : LineKind → Data → Checked TamperLine
by_kind kinds.Flip = flip_of
by_kind kinds.Cut = cut_of
by_kind kinds.Add = add_of
by_kind kinds.From = from_of
by_kind kinds.Branch = branch_of
by_kind kinds.Serve = serve_of
by_kind kinds.Forge = forge_of
by_kind kinds.Replay = replay_of
by_kind kinds.Twin = twin_of

unfoldable pub line_of : Data → Checked TamperLine
line_of d = do
  o ← an_object (codes "tamper") d
  kind ← word (codes "kind") kind_words o
  by_kind kind o
