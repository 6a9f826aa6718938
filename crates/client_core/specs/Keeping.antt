-- What every client keeps of itself: its sides are what an honest user's book tells, and the book is one as it is kept.
use Rattle.std.specs.Prelude.{◌≡◌, ℕ, ◌<◌, false, List, [], ◌∷◌, length, map, Some}
use Rattle.std.specs.List.{AllByRecursion}
use Rattle.fr_digest.specs.Digest.{Digest}
use Rattle.op_types.specs.declared.kind.Kind.{Kind}
use Rattle.op_types.specs.declared.op.Leaf.{Leaf}
use Rattle.op_types.specs.declared.view.View.{View}
use Rattle.op_types.specs.Spelling.{IsLeaf, IsView}
use Rattle.lms_tree.specs.Signer.{public_of}
use Rattle.lms_tree.specs.Valid.{Key}
use Rattle.signed_ops.specs.Signed.{key_of}
use Rattle.hist_proof.specs.declared.pruned.Pruned.{Pruned}
use Rattle.hist_proof.specs.View.{tree_view}
use Rattle.dict_proof.specs.declared.pruned_dict.PrunedDict.{PrunedDict}
use Rattle.dict_proof.specs.View.{list_view}
use Rattle.check_rules.specs.declared.known.Known.{Known}
use Rattle.check_rules.specs.Accepted.{Accepted}
use Rattle.check_rules.specs.Shown.{leaves_from}
use Rattle.check_core.specs.declared.checked.Checked.{Checked}
use Rattle.check_core.specs.declared.checked.Checked.TheVariants.{Same, Taken, Refused}
use Rattle.key_graph.specs.declared.change.Setting.{Setting}
use Rattle.world_book.specs.declared.book.UserBook.{UserBook}
use Rattle.world_book.specs.declared.took.Signed.{Signed}
use Rattle.world_book.specs.declared.world.WallNote.{WallNote}
use Rattle.world_book.specs.Kept.{HoldsLeaves, KeptBook, root_of, size_of}
use Rattle.world_book.specs.Records.{last_on}
use Rattle.client_core.specs.Clients.{ClientView}
use Rattle.client_core.specs.Uses.{IsFitting, IsMade, IsOwners, IsSetting}
use Rattle.client_core.specs.Sides.{IsSide, SideView, side_of}

-- what everybody knows of a side's wall
abbrev pub note_of_side : SideView → WallNote
note_of_side s = record { wall = s.known.wall; owner = s.known.owner; f = s.known.f; server = s.known.server }

abbrev pub notes_of : List SideView → List WallNote
notes_of sides = map note_of_side sides

-- the users with their keys, which all sides have
abbrev pub users_of : List SideView → List (ℕ × Key)
users_of [] = []
users_of (s ∷ sides) = s.known.users

-- The book's operations on a side's wall are made by the rules.
abbrev pub AreMade : UserBook → SideView → Type 0
AreMade book s = (setting : Setting) → IsSetting s.keys setting → AllByRecursion (λ (o : Signed). o.op.wall
    ≡ s.known.wall
    → IsMade setting s.known.owner o.op.author o.op.seq o.op.kind) book.signed

-- and so is what the user does with its next one
abbrev pub IsMadeOn : ℕ → SideView → Kind → Type 0
IsMadeOn user s kind = (setting : Setting) → IsSetting s.keys setting → IsMade setting s.known.owner user s.next kind

-- What was accepted of a side's wall is what the last of the book's records of it left, and the book's operations on it
-- are made by the rules, with numbers below the next one.
pub record IsTold (book : UserBook) (s : SideView) : Type 0 where
  pub size : s.known.size ≡ size_of (last_on s.known.wall book.took)
  pub root : 0 < s.known.size → s.known.root ≡ root_of (last_on s.known.wall book.took)
  pub made : AreMade book s
  pub later : AllByRecursion (λ (o : Signed). o.op.wall ≡ s.known.wall → o.op.seq < s.next) book.signed

-- The keys are the owner's where the user is, and each change that its tree followed fitted.
pub record HasKeys (user : ℕ) (s : SideView) : Type 0 where
  pub owners : IsOwners user s.known.owner s.keys
  pub fit : IsFitting s.keys

-- The sides have the same users, among them the client's with the signer's key, and the book is kept with these and with
-- the sides' notes.
pub record Keeps (d : Digest) (c : ClientView) : Type 0 where
  pub each : AllByRecursion IsSide c.sides
  pub users : (wall : ℕ) (s : SideView) → side_of wall c.sides ≡ Some s → s.known.users ≡ users_of c.sides
  pub book : KeptBook d (notes_of c.sides) (users_of c.sides) c.book
  pub key : c.book.key ≡ public_of c.signer.private c.signer.id c.signer.pair
  pub own : (wall : ℕ) (s : SideView) → side_of wall c.sides ≡ Some s → key_of s.known.users c.book.user
      ≡ Some c.book.key
  pub keys : (wall : ℕ) (s : SideView) → side_of wall c.sides ≡ Some s → HasKeys c.book.user s
  pub told : c.book.rogue ≡ false → (wall : ℕ) (s : SideView) → side_of wall c.sides ≡ Some s → IsTold c.book s

-- A client after a call on a wall: its other sides are as they were, and so are the walls' notes, the users, and whose
-- book it is.
pub record StaysAs (before : ClientView) (wall : ℕ) (after : ClientView) : Type 0 where
  pub others : (v : ℕ) → (v ≡ wall → ⊥) → side_of v after.sides ≡ side_of v before.sides
  pub notes : notes_of after.sides ≡ notes_of before.sides
  pub users : users_of after.sides ≡ users_of before.sides
  pub user : after.book.user ≡ before.book.user
  pub key : after.book.key ≡ before.book.key
  pub rogue : after.book.rogue ≡ before.book.rogue

-- What a taken reply shows are leaves.
abbrev pub ShowsLeaves : Checked → Type 0
ShowsLeaves (Same size) = Unit {0}
ShowsLeaves (Refused cause number) = Unit {0}
ShowsLeaves (Taken view from proof leaves dicts) = AllByRecursion IsLeaf leaves

-- What a reply shows that one who knows this takes.
pub record IsTaken (d : Digest) (known : Known) (view : View) (from : ℕ) (proof : Pruned) (leaves : List Leaf)
    (dicts : List PrunedDict) : Type 0 where
  pub view_is : IsView known.wall view
  pub accepted : Accepted d known view from (tree_view proof) (map list_view dicts)
  pub spelled : HoldsLeaves (tree_view proof)
  pub leaves_are : leaves ≡ leaves_from (tree_view proof) view.size from
  pub lists : length dicts ≡ length leaves
  pub in_range : AllByRecursion IsLeaf leaves

abbrev pub IsSound : Digest → Known → Checked → Type 0
IsSound d known (Same size) = Unit {0}
IsSound d known (Refused cause number) = Unit {0}
IsSound d known (Taken view from proof leaves dicts) = IsTaken d known view from proof leaves dicts
