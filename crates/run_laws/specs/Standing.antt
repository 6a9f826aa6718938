-- The world of a run over straight wires at an honest server. d is the digest of strings.
use Rattle.std.specs.Prelude.{◌≡◌, ℕ, false, List, map, take, true, Some}
use Rattle.std.specs.List.{AllByRecursion, list_any}
use Rattle.fr_digest.specs.Digest.{Digest}
use Rattle.op_types.specs.declared.op.Leaf.{Leaf}
use Rattle.op_types.specs.declared.op.Op.{Op}
use Rattle.world_book.specs.declared.book.UserBook.{UserBook}
use Rattle.world_book.specs.declared.took.Signed.{Signed}
use Rattle.world_book.specs.declared.took.Took.{Took}
use Rattle.world_book.specs.declared.world.WallNote.{WallNote}
use Rattle.world_book.specs.declared.world.World.{World}
use Rattle.world_book.specs.Records.{IsIn, Signs, book_of, is_honest, note_of, records_of}
use Rattle.world_audit.specs.Story.{story}
use Rattle.audit_run.specs.declared.answer.Sound.{Sound}
use Rattle.audit_run.specs.Answer.{count_grounded, count_records}
use Rattle.audit_run.specs.Ends.{FindsNothing}
use Rattle.hall_core.specs.declared.ask.Called.{Called}
use Rattle.hall_core.specs.declared.facts.WallFacts.{WallFacts}
use Rattle.script_form.specs.Status.{fails}
use Rattle.session_laws.specs.Doing.{Heard, PlainClient, all_dids, client_of, outcomes_of, took_view, wall_of}
use Rattle.session_laws.specs.Histories.{IsUser}
use Rattle.run_laws.specs.Following.{AreTrue}
use Rattle.run_laws.specs.HonestRun.{IsHonestWall}

-- ---- the clients' books

-- what an operation is to the client that signed it
abbrev pub signed_of : PlainClient → Op → Signed
signed_of c op = record { user = c.user; op = op }

-- The client signed the operation in its user's name and, if its user is no rogue, keeps it.
pub record HasSigned (c : PlainClient) (op : Op) : Type 0 where
  pub author : op.author ≡ c.user
  pub kept : c.rogue ≡ false → IsIn c.signed (signed_of c op)

-- The book is the client's.
pub record IsBookOf (c : PlainClient) (book : UserBook) : Type 0 where
  pub rogue : book.rogue ≡ c.rogue
  pub took : map took_view book.took ≡ c.took
  pub signed : book.signed ≡ c.signed

-- ---- what the walls show

-- An honest author signed it.
abbrev pub IsAuthors : World → Op → Type 0
IsAuthors w op = is_honest w op.author ≡ true → Signs w op.author op

-- A noted wall at the end: each user's records of it show its leaves, whose operations their authors signed.
pub record IsShown (d : Digest) (w : World) (client : ℕ → PlainClient) (note : WallNote) (facts : WallFacts)
    (leaves : List Leaf) : Type 0 where
  pub wall : facts.wall ≡ note.wall
  pub owner : facts.owner ≡ note.owner
  pub records : (user : ℕ) (book : UserBook) → book_of w user ≡ Some book → AreTrue d facts leaves (client user).took
  pub authors : AllByRecursion (λ (leaf : Leaf). IsAuthors w leaf.op) leaves

-- The books of a world are its users' clients', and each noted wall is shown.
pub record AreShown (d : Digest) (w : World) (client : ℕ → PlainClient) (facts : ℕ → WallFacts)
    (leaves : ℕ → List Leaf) : Type 0 where
  pub books : (user : ℕ) (book : UserBook) → book_of w user ≡ Some book → IsBookOf (client user) book
  pub each : (wall : ℕ) (note : WallNote) → note_of w.walls wall ≡ Some note
      → IsShown d w client note (facts wall) (leaves wall)

-- ---- a whole run

abbrev pub IsNoted : World → ℕ → Type 0
IsNoted w wall = (note : WallNote) × (note_of w.walls wall ≡ Some note)

-- A world at the end of a run over straight wires: each noted wall is an honest one, the books are the clients', and the
-- commands are of its users, on its walls.
pub record IsHonestRun (d : Digest) (users : List ℕ) (start : ℕ → PlainClient) (heards : List Heard) (w : World)
    (facts : ℕ → WallFacts) (calls : ℕ → List Called) : Type 0 where
  pub names : (user : ℕ) → IsUser users user → (start user).user ≡ user
  pub listed : (user : ℕ) (book : UserBook) → book_of w user ≡ Some book → IsUser users user
  pub books : (user : ℕ) (book : UserBook) → book_of w user ≡ Some book → IsBookOf (client_of d start user heards) book
  pub noted : (wall : ℕ) (note : WallNote) → note_of w.walls wall ≡ Some note → (facts wall).wall ≡ note.wall
  pub owned : (wall : ℕ) (note : WallNote) → note_of w.walls wall ≡ Some note → (facts wall).owner ≡ note.owner
  pub walls : (wall : ℕ) (note : WallNote) → note_of w.walls wall ≡ Some note
      → IsHonestWall d users start heards (facts wall) (calls wall)
  pub asked : AllByRecursion (λ (h : Heard). IsUser users h.task.user) heards
  pub asked_of : AllByRecursion (λ (h : Heard). IsNoted w (wall_of h.task.command)) heards

-- all records, and those that have a history
abbrev pub counts_of : World → Sound
counts_of w = record { records = count_records w; grounded = count_grounded w }

-- No command is rejected or lost; an audit finds nothing; and what each record that has a history stands for is a front
-- of its wall's leaves.
pub record IsSoundRun (d : Digest) (start : ℕ → PlainClient) (heards : List Heard) (w : World) (leaves : ℕ → List Leaf)
    : Type 0 where
  pub calm : list_any fails (outcomes_of (all_dids d start heards)) ≡ false
  pub finds : FindsNothing d w (counts_of w)
  pub stories : (r : Took) (L : List Leaf) → IsIn (records_of w) r → story w r ≡ Some L → L ≡ take r.size (leaves r.wall)
