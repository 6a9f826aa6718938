-- Books that grow, and worlds of them.
use Rattle.std.proofs.Common.{◌≡◌, inl, inr, ℕ, true, false, List, [], ◌∷◌, ◌++◌, length, map, take, Some, refl, ap, sym, subst, ◌∙◌, arith}
use Rattle.std.specs.Prelude.{slice_get}
use Rattle.std.specs.List.{AllByRecursion}
use Rattle.std.proofs.lemmas.List.{take_at}
use Rattle.std.proofs.lemmas.Option.{slice_get_within}
use Rattle.fr_digest.specs.Digest.{Digest}
use Rattle.lms_tree.specs.Valid.{Key}
use Rattle.world_book.specs.declared.book.UserBook.{UserBook}
use Rattle.world_book.specs.declared.took.Signed.{Signed}
use Rattle.world_book.specs.declared.took.Took.{Took}
use Rattle.world_book.specs.declared.world.WallNote.{WallNote}
use Rattle.world_book.specs.declared.world.World.{World}
use Rattle.world_book.specs.Kept.{IsRecord, IsSigned, Kept, KeptBook}
use Rattle.world_book.specs.Records.{IsIn, Rise, keys_of}
use Rattle.world_book.proofs.Places.{place-last, place-left, take-append}

in-longer : {A : Type 0} (xs ys : List A) (x : A) → IsIn xs x → IsIn (xs ++ ys) x
in-longer xs ys x at = record { place = at.place; there = place-left xs ys at.place x at.there }

module _ (d : Digest) (notes : List WallNote) (keys : List (ℕ × Key)) (book : UserBook) where
  -- a fact of what is in a list and of what is in front of it, where one is added
  grown : {A : Type 0} (P : List A → A → Type 0) (xs : List A) (y : A)
      → ((i : ℕ) (x : A) → slice_get xs i ≡ Some x → P (take i xs) x) → P xs y
      → (i : ℕ) (x : A) → slice_get (xs ++ y ∷ []) i ≡ Some x → P (take i (xs ++ y ∷ [])) x
  grown P xs y each last i x at = elim (place-last xs y i x at) [
    | inl there ↦
        let within = slice_get_within xs i x there in
        subst (λ front. P front x) (sym (take-append i xs (y ∷ []) (omega arith))) (each i x there)
    | inr end ↦
        subst (λ front. P front x) (sym (ap (λ n. take n (xs ++ y ∷ [])) end.0 ∙ take_at xs (y ∷ []) (length xs) refl))
        (subst (P xs) (sym end.1) last)
  ]

  abbrev with_took : Took → UserBook
  with_took t = record book { took = book.took ++ t ∷ [] }

  abbrev with_signed : Signed → UserBook
  with_signed s = record book { signed = book.signed ++ s ∷ [] }

  still-signed : (t : Took) (front : List Signed) (s : Signed) → IsSigned book front s → IsSigned (with_took t) front s
  still-signed t front s it = record {
    by = it.by;
    author = it.author;
    seen = λ some. let seen = it.seen some in
        (seen.0, in-longer book.took (t ∷ []) seen.0 seen.1, seen.2, seen.3, seen.4);
    later = it.later;
  }

  same-signed : (o : Signed) (front : List Signed) (s : Signed) → IsSigned book front s
      → IsSigned (with_signed o) front s
  same-signed o front s it = record { by = it.by; author = it.author; seen = it.seen; later = it.later }

  not-rogue : {P : Type 0} → book.rogue ≡ false → book.rogue ≡ true → P
  not-rogue e is = absurd (let f = sym e ∙ is in cc)

  -- A record behind the others of its user.
  pub took-kept : (t : Took) → KeptBook d notes keys book → book.rogue ≡ false
      → IsRecord d notes keys book.user book.took t
      → KeptBook d notes keys (with_took t)
  took-kept t kept honest it = record {
    records = grown (IsRecord d notes keys book.user) book.took t kept.records it;
    signed = λ i s at. still-signed t (take i book.signed) s (kept.signed i s at);
    rogue = not-rogue honest;
  }

  -- An operation behind the others that its user signed.
  pub signed-kept : (s : Signed) → KeptBook d notes keys book → book.rogue ≡ false → IsSigned book book.signed s
      → KeptBook d notes keys (with_signed s)
  signed-kept s kept honest it = record {
    records = kept.records;
    signed = λ i o at. same-signed s (take i (book.signed ++ s ∷ [])) o
        (grown (IsSigned book) book.signed s kept.signed it i o at);
    rogue = not-rogue honest;
  }

-- Books that are kept with the same notes and keys are a kept world.
pub world-kept : (d : Digest) (w : World) (keys : List (ℕ × Key)) → Rise (map (λ (b : UserBook). b.user) w.users)
    → Rise (map (λ (n : WallNote). n.wall) w.walls) → keys_of w.users ≡ keys
    → AllByRecursion (KeptBook d w.walls keys) w.users → Kept d w
world-kept d w keys users walls same books = record {
  users = users;
  walls = walls;
  books = subst (λ (ks : List (ℕ × Key)). AllByRecursion (KeptBook d w.walls ks) w.users) (sym same) books;
}
