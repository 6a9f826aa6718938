-- Books that are kept with some walls' notes are kept with all that note these walls so.
use Rattle.std.proofs.Common.{◌≡◌, ℕ, List, Some, take}
use Rattle.fr_digest.specs.Digest.{Digest}
use Rattle.lms_tree.specs.Valid.{Key}
use Rattle.world_book.specs.declared.book.UserBook.{UserBook}
use Rattle.world_book.specs.declared.took.Took.{Took}
use Rattle.world_book.specs.declared.world.WallNote.{WallNote}
use Rattle.world_book.specs.Kept.{IsRecord, KeptBook}
use Rattle.world_book.specs.Records.{note_of}

noted-in : (d : Digest) (notes others : List WallNote) (keys : List (ℕ × Key)) (user : ℕ) (front : List Took) (t : Took)
    → ((wall : ℕ) (n : WallNote) → note_of notes wall ≡ Some n → note_of others wall ≡ Some n)
    → IsRecord d notes keys user front t → IsRecord d others keys user front t
noted-in d notes others keys user front t same r = record {
  by = r.by;
  note = r.note;
  noted = same t.wall r.note r.noted;
  have = r.have;
  accepted = r.accepted;
  spelled = r.spelled;
  leaves = r.leaves;
  lists = r.lists;
}

pub kept-among : (d : Digest) (notes others : List WallNote) (keys : List (ℕ × Key)) (book : UserBook)
    → ((wall : ℕ) (n : WallNote) → note_of notes wall ≡ Some n → note_of others wall ≡ Some n)
    → KeptBook d notes keys book → KeptBook d others keys book
kept-among d notes others keys book same kept = record {
  records = λ i t at. noted-in d notes others keys book.user (take i book.took) t same (kept.records i t at);
  signed = kept.signed;
  rogue = kept.rogue;
}
