-- What a client keeps of a wall, and of several walls.
use Rattle.std.specs.Prelude.{◌≡◌, ℕ, suc, ◌<◌, ◌≤◌, List, [], ◌∷◌, length, map, Option, nat_eq, if◌then◌else◌, slice_get, slice_set}
use Rattle.op_types.specs.declared.view.View.{View}
use Rattle.op_types.specs.Spelling.{IsView, no_root}
use Rattle.check_rules.specs.declared.known.Known.{Known}
use Rattle.client_core.specs.Keys.{KeysView, keys_view}
use Rattle.client_core.specs.declared.side.Side.{Side}

-- what is known of the wall, the accepted view, the keys, and the number of the user's next operation
pub record SideView : Type 0 where
  pub known : Known
  pub view : View
  pub keys : KeysView
  pub next : ℕ

abbrev pub side_view : Side → SideView
side_view s = record { known = s.known; view = s.view; keys = keys_view s.keys; next = s.next }

abbrev pub sides_view : List Side → List SideView
sides_view sides = map side_view sides

-- the place of the side of a wall; without one, behind all
abbrev pub place_of : ℕ → List SideView → ℕ
place_of wall [] = 0
place_of wall (s ∷ sides) = if nat_eq s.known.wall wall then 0 else suc (place_of wall sides)

-- the side of a wall, where there is one
abbrev pub side_of : ℕ → List SideView → Option SideView
side_of wall sides = slice_get sides (place_of wall sides)

-- the sides with this one in the place of the wall's
abbrev pub with_side : ℕ → SideView → List SideView → List SideView
with_side wall side sides = slice_set sides (place_of wall sides) side

abbrev pub HasSide : ℕ → List SideView → Type 0
HasSide wall sides = place_of wall sides < length sides

-- the view of nothing
abbrev pub no_view : ℕ → View
no_view wall = record { wall = wall; size = 0; root = no_root; sig = [] }

-- Few users may be in league with the server, and the accepted view has a spelling, and is what is known of the wall.
pub record IsSide (s : SideView) : Type 0 where
  pub few : s.known.f ≤ 31
  pub view : IsView s.known.wall s.view
  pub size : s.view.size ≡ s.known.size
  pub root : 0 < s.known.size → s.view.root ≡ s.known.root
