-- What an audit concludes: that every history with a ground is sound, or an operation that nobody signed.
use Rattle.std.specs.Prelude.{◌≡◌, ℕ, ◌+◌, ◌<◌, ◌≤◌, true, List, length, take, filter, Some}
use Rattle.std.specs.List.{AllByRecursion, slice_get}
use Rattle.fr_digest.specs.Digest.{Digest}
use Rattle.op_types.specs.declared.op.Leaf.{Leaf}
use Rattle.tree_model.specs.History.{root, root_of_all}
use Rattle.hist_proof.specs.Pruned.{Prunes}
use Rattle.hist_proof.specs.View.{tree_view}
use Rattle.pruned_list.specs.PrunedList.{PrunedList, PrunesDict}
use Rattle.wall_law.specs.State.{state_of}
use Rattle.wall_law.specs.Lawful.{Lawful}
use Rattle.world_book.specs.declared.book.UserBook.{UserBook}
use Rattle.world_book.specs.declared.took.Took.{Took}
use Rattle.world_book.specs.declared.world.WallNote.{WallNote}
use Rattle.world_book.specs.declared.world.World.{World}
use Rattle.world_book.specs.Kept.{lists_of}
use Rattle.world_book.specs.Records.{IsIn, Signs, is_honest, note_of, record_of, records_of}
use Rattle.world_audit.specs.Comparisons.{Agrees, compared, owner_of, texts_of}
use Rattle.world_audit.specs.Story.{Grounded, prev, story}

-- ---- the premises

-- Each operation that a record shows, and whose author is honest, is one that the author signed.
abbrev pub NothingUnsigned : World → Type 0
NothingUnsigned w = (r : Took) (leaf : Leaf) → IsIn (records_of w) r → IsIn r.leaves leaf
    → is_honest w leaf.op.author ≡ true → Signs w leaf.op.author leaf.op

-- Each comparison of each record that has a history agrees.
abbrev pub AllAgree : Digest → World → Type 0
AllAgree d w = (r : Took) (L : List Leaf) → IsIn (records_of w) r → story w r ≡ Some L
    → AllByRecursion (Agrees d) (compared w r L)

-- ---- what is sound of a record r that has the history L

-- It begins with the history of the record before.
abbrev pub Extends : World → Took → List Leaf → Type 0
Extends w r L = 0 < r.have → (p : Took) × (M : List Leaf)
    × (prev w r ≡ Some p) × (story w p ≡ Some M) × (take r.have L ≡ M)

-- Each of its operations that has an honest author is one that the author signed; and the view that it embeds is that
-- of a record of the author, of the root of the history's front, which is that record's history where it has one. The
-- name is after Li and Mazieres, "Beyond One-third Faulty Replicas in Byzantine Fault Tolerant Systems" (NSDI 2007).
pub record SignedSeen (d : Digest) (w : World) (r : Took) (L : List Leaf) (leaf : Leaf) : Type 0 where
  pub signed : Signs w leaf.op.author leaf.op
  pub seen : 0 < leaf.op.view.size → (s : Took)
      × (record_of w leaf.op.author r.wall leaf.op.view.size ≡ Some s)
      × (root d (texts_of L) leaf.op.view.size ≡ s.root)
      × ((M : List Leaf) → story w s ≡ Some M → take leaf.op.view.size L ≡ M)

abbrev pub ForkStar : Digest → World → Took → List Leaf → Type 0
ForkStar d w r L = (k : ℕ) (leaf : Leaf) → slice_get L k ≡ Some leaf → is_honest w leaf.op.author ≡ true
    → SignedSeen d w r L leaf

-- a record of an honest user that shows position k, and whose history is the same up to there
pub record ShowsSame (w : World) (r : Took) (L : List Leaf) (k : ℕ) (s : Took) : Type 0 where
  pub kept : IsIn (records_of w) s
  pub honest : is_honest w s.user ≡ true
  pub wall : s.wall ≡ r.wall
  pub shows : (s.from ≤ k) × (k < s.size)
  pub M : List Leaf
  pub history : story w s ≡ Some M
  pub same : take (k + 1) M ≡ take (k + 1) L

-- Each position was checked by an honest user's client.
abbrev pub HonestlyChecked : World → Took → List Leaf → Type 0
HonestlyChecked w r L = (k : ℕ) → k < length L → (s : Took) × ShowsSame w r L k s

-- Each pruned list prunes the state before its position.
abbrev pub ListsPrune : Digest → ℕ → Took → List Leaf → Type 0
ListsPrune d owner r L = (i : ℕ) (p : PrunedList) → slice_get (lists_of r) i ≡ Some p
    → PrunesDict d p (state_of owner (take (r.from + i) L)).entries

pub record SoundRecord (d : Digest) (w : World) (r : Took) (L : List Leaf) : Type 0 where
  pub size : length L ≡ r.size
  pub root : root_of_all d (texts_of L) ≡ r.root
  pub proof : Prunes d (tree_view r.proof) (texts_of L)
  pub lists : ListsPrune d (owner_of w r.wall) r L
  pub lawful : Lawful d (owner_of w r.wall) r.wall L
  pub extends : Extends w r L
  pub fork_star : ForkStar d w r L
  pub checked : HonestlyChecked w r L

-- how many of the world's users are rogues
abbrev pub rogues : World → ℕ
rogues w = length (filter (λ (b : UserBook). b.rogue) w.users)

-- Every history with a ground is sound; and on each wall where as many may be in league with the server as there are
-- rogues, every record has a ground.
pub record Sound (d : Digest) (w : World) : Type 0 where
  pub each : (r : Took) (L : List Leaf) → IsIn (records_of w) r → story w r ≡ Some L → SoundRecord d w r L
  pub few : (r : Took) (note : WallNote) → IsIn (records_of w) r → note_of w.walls r.wall ≡ Some note
      → rogues w ≤ note.f → Grounded w r
