-- A world without users and walls is kept.
use Rattle.std.proofs.Common.{◌≡◌, ◌<◌, ℕ, List, [], map, Some, sym, subst}
use Rattle.std.specs.Prelude.{slice_get}
use Rattle.std.specs.List.{AllByRecursion}
use Rattle.fr_digest.specs.Digest.{Digest}
use Rattle.world_book.specs.declared.book.UserBook.{UserBook}
use Rattle.world_book.specs.declared.world.WallNote.{WallNote}
use Rattle.world_book.specs.declared.world.World.{World}
use Rattle.world_book.specs.Kept.{Kept, KeptBook}
use Rattle.world_book.specs.Records.{Rise, keys_of}

none-rise : Rise []
none-rise i j m n less at there = absurd cc

pub nobody-kept : (d : Digest) (w : World) → w.users ≡ [] → w.walls ≡ [] → Kept d w
nobody-kept d w users walls = record {
  users = subst (λ (bs : List UserBook). Rise (map (λ (b : UserBook). b.user) bs)) (sym users) none-rise;
  walls = subst (λ (ns : List WallNote). Rise (map (λ (n : WallNote). n.wall) ns)) (sym walls) none-rise;
  books = subst (λ (bs : List UserBook). AllByRecursion (KeptBook d w.walls (keys_of w.users)) bs) (sym users) tt;
}
