-- What a run comes to when its clients and its halls end. d is the digest of strings.
use Rattle.std.specs.Prelude.{◌≡◌, ℕ, ◌<◌, List, [], ◌∷◌, length, map, Some}
use Rattle.std.specs.List.{AllByRecursion}
use Rattle.fr_bytes.specs.Bytes.{Text}
use Rattle.fr_digest.specs.Digest.{Digest}
use Rattle.tree_model.specs.History.{root}
use Rattle.op_types.specs.declared.op.Leaf.{Leaf}
use Rattle.op_types.specs.declared.op.Op.{Op}
use Rattle.op_types.specs.Spelling.{no_root, op_text}
use Rattle.lms_tree.specs.Valid.{Key}
use Rattle.signed_ops.specs.Signed.{key_of}
use Rattle.world_book.specs.declared.book.UserBook.{UserBook}
use Rattle.world_book.specs.declared.world.WallNote.{WallNote}
use Rattle.world_book.specs.declared.world.World.{World}
use Rattle.world_book.specs.Kept.{KeptBook}
use Rattle.world_book.specs.Records.{Rise, note_of}
use Rattle.client_core.specs.Clients.{Standing}
use Rattle.client_core.specs.Keeping.{notes_of, users_of}
use Rattle.client_core.specs.Sides.{SideView, side_of, sides_view}
use Rattle.audit_run.specs.Ends.{FindsClash, FindsForged, FindsNothing}
use Rattle.hall_core.specs.PlainWall.{texts_of}
use Rattle.hall_core.specs.Standing.{Hall}
use Rattle.script_form.specs.declared.outcome.AuditLine.{AuditLine}
use Rattle.script_form.specs.declared.outcome.AuditLine.TheVariants as lines
use Rattle.script_form.specs.declared.outcome.WallEnd.{WallEnd}

-- ---- the world

abbrev pub book_in : Standing → UserBook
book_in client = client.book

abbrev pub user_in : Standing → ℕ
user_in client = client.book.user

-- A client has a side; its sides have these users' keys; and what they note of a wall stands among the notes.
pub record IsAmong (notes : List WallNote) (keys : List (ℕ × Key)) (client : Standing) : Type 0 where
  pub some : 0 < length client.sides
  pub users_are : users_of (sides_view client.sides) ≡ keys
  pub noted : (wall : ℕ) (n : WallNote) → note_of (notes_of (sides_view client.sides)) wall ≡ Some n
      → note_of notes wall ≡ Some n

-- The clients' users rise, and so do the notes' walls; and all clients know these users with their keys, in the clients'
-- order, and these notes.
pub record AreTogether (notes : List WallNote) (clients : List Standing) : Type 0 where
  pub users : Rise (map user_in clients)
  pub walls : Rise (map (λ (n : WallNote). n.wall) notes)
  pub keys : List (ℕ × Key)
  pub listed : map (λ (p : ℕ × Key). p.0) keys ≡ map user_in clients
  pub each : AllByRecursion (IsAmong notes keys) clients

-- A client's book has the key that the client's sides tell of its user, and is kept with what they know.
pub record HasEnded (d : Digest) (client : Standing) : Type 0 where
  pub key : (wall : ℕ) (s : SideView) → side_of wall (sides_view client.sides) ≡ Some s
      → key_of (users_of (sides_view client.sides)) client.book.user ≡ Some client.book.key
  pub kept : KeptBook d (notes_of (sides_view client.sides)) (users_of (sides_view client.sides)) client.book

-- ---- the audit

-- What an audit's line tells of a world: that nothing was found, with the counts; the strings that collide; or the bytes
-- of an operation that its author never signed.
abbrev pub TellsOf : Digest → World → AuditLine → Type 0
TellsOf d w (lines.Sound records grounded) = FindsNothing d w (record { records = records; grounded = grounded })
TellsOf d w (lines.Collision a b) = FindsClash d w (record { a = a; b = b })
TellsOf d w (lines.Forged user wall bytes) = (op : Op) × FindsForged w user wall op × (bytes ≡ op_text op)

-- ---- walls

-- the root of all leaves; of none it is 32 zero bytes
abbrev pub end_root : Digest → List Leaf → Text
end_root d [] = no_root
end_root d (leaf ∷ leaves) = root d (texts_of (leaf ∷ leaves)) (length (leaf ∷ leaves))

abbrev pub wall_end : Digest → Hall → WallEnd
wall_end d hall = record {
  wall = hall.facts.wall;
  size = length hall.leaves;
  root = end_root d hall.leaves;
}
