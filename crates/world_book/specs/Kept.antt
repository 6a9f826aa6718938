-- Records as honest clients keep them.
use Rattle.std.specs.Prelude.{◌≡◌, ℕ, ◌<◌, true, List, [], map, length, take, Option, Some, None}
use Rattle.std.specs.List.{slice_get, AllByRecursion}
use Rattle.fr_bytes.specs.Bytes.{Text}
use Rattle.fr_digest.specs.Digest.{Digest}
use Rattle.op_types.specs.declared.op.Leaf.{Leaf}
use Rattle.op_types.specs.declared.view.View.{View}
use Rattle.op_types.specs.Spelling.{SpellsLeaf, no_root}
use Rattle.lms_tree.specs.Valid.{Key}
use Rattle.hist_proof.specs.Pruned.{Tree, hidden, leaf, node, single}
use Rattle.hist_proof.specs.View.{tree_view}
use Rattle.pruned_list.specs.PrunedList.{PrunedList}
use Rattle.dict_proof.specs.View.{list_view}
use Rattle.check_rules.specs.declared.known.Known.{Known}
use Rattle.check_rules.specs.Accepted.{Accepted}
use Rattle.check_rules.specs.Shown.{leaves_from}
use Rattle.world_book.specs.declared.book.UserBook.{UserBook}
use Rattle.world_book.specs.declared.took.Signed.{Signed}
use Rattle.world_book.specs.declared.took.Took.{Took}
use Rattle.world_book.specs.declared.world.WallNote.{WallNote}
use Rattle.world_book.specs.declared.world.World.{World}
use Rattle.world_book.specs.Records.{IsIn, Rise, keys_of, last_on, note_of}

-- ---- what a client knew when it took a reply

abbrev pub size_of : Option Took → ℕ
size_of None = 0
size_of (Some t) = t.size

abbrev pub root_of : Option Took → Text
root_of None = no_root
root_of (Some t) = t.root

-- what the wall's note, the users' keys and the record before it tell
abbrev pub known_by : WallNote → List (ℕ × Key) → Option Took → Known
known_by note keys before = record {
  wall = note.wall;
  owner = note.owner;
  f = note.f;
  server = note.server;
  users = keys;
  size = size_of before;
  root = root_of before;
  epoch = 0;
}

-- The view that the reply had; its signature isn't kept.
abbrev pub view_of : Took → View
view_of t = record { wall = t.wall; size = t.size; root = t.root; sig = [] }

abbrev pub lists_of : Took → List PrunedList
lists_of t = map list_view t.dicts

-- ---- records

-- Each text that the tree holds spells a leaf.
unfoldable pub HoldsLeaves : Tree → Type 0
HoldsLeaves (hidden x) = Unit {0}
HoldsLeaves (leaf text) = (l : Leaf) × SpellsLeaf l text
HoldsLeaves (node l r) = HoldsLeaves l × HoldsLeaves r
HoldsLeaves (single l) = HoldsLeaves l

-- A record behind others of its user: it begins where the one before it on its wall ended, what it showed was
-- accepted by one who knew what that one left, and its leaves are those that its tree shows, with a list for each.
pub record IsRecord (d : Digest) (notes : List WallNote) (keys : List (ℕ × Key)) (user : ℕ) (front : List Took)
    (t : Took) : Type 0 where
  pub by : t.user ≡ user
  pub note : WallNote
  pub noted : note_of notes t.wall ≡ Some note
  pub have : t.have ≡ size_of (last_on t.wall front)
  pub accepted : Accepted d (known_by note keys (last_on t.wall front)) (view_of t) t.from (tree_view t.proof)
      (lists_of t)
  pub spelled : HoldsLeaves (tree_view t.proof)
  pub leaves : t.leaves ≡ leaves_from (tree_view t.proof) t.size t.from
  pub lists : length t.dicts ≡ length t.leaves

-- A signed operation behind others of its user: the user is its author; the view that it embeds, if any, is that of
-- a record of the user; and its number is greater than those before it on its wall.
pub record IsSigned (book : UserBook) (front : List Signed) (s : Signed) : Type 0 where
  pub by : s.user ≡ book.user
  pub author : s.op.author ≡ book.user
  pub seen : 0 < s.op.view.size → (t : Took) × IsIn book.took t
      × (t.wall ≡ s.op.wall) × (t.size ≡ s.op.view.size) × (t.root ≡ s.op.view.root)
  pub later : AllByRecursion (λ (o : Signed). o.op.wall ≡ s.op.wall → o.op.seq < s.op.seq) front

-- A book as an honest client keeps it; a rogue's is empty.
pub record KeptBook (d : Digest) (notes : List WallNote) (keys : List (ℕ × Key)) (book : UserBook) : Type 0 where
  pub records : (i : ℕ) (t : Took) → slice_get book.took i ≡ Some t
      → IsRecord d notes keys book.user (take i book.took) t
  pub signed : (i : ℕ) (s : Signed) → slice_get book.signed i ≡ Some s → IsSigned book (take i book.signed) s
  pub rogue : book.rogue ≡ true → (book.took ≡ []) × (book.signed ≡ [])

-- A world of such books. Its users and its walls rise, and the users' keys are those of its books.
pub record Kept (d : Digest) (w : World) : Type 0 where
  pub users : Rise (map (λ (b : UserBook). b.user) w.users)
  pub walls : Rise (map (λ (n : WallNote). n.wall) w.walls)
  pub books : AllByRecursion (KeptBook d w.walls (keys_of w.users)) w.users
