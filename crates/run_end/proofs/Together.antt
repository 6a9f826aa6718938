-- Clients that end together leave a kept world.
use Rattle.std.proofs.Common.{◌≡◌, ◌∙◌, ℕ, suc, ◌<◌, List, [], ◌∷◌, ◌++◌, length, map, Option, Some, None, refl, ap, sym, subst, arith, eq-eqb}
use Rattle.std.specs.Prelude.{find, nat_eq, slice_get, if◌then◌else◌}
use Rattle.std.specs.List.{AllByRecursion}
use Rattle.std.specs.Option.{option_map}
use Rattle.std.proofs.lemmas.Bool.{cond-false, cond-true, ne_eqb}
use Rattle.fr_digest.specs.Digest.{Digest}
use Rattle.lms_tree.specs.Valid.{Key}
use Rattle.signed_ops.specs.Signed.{key_of}
use Rattle.world_book.specs.declared.book.UserBook.{UserBook}
use Rattle.world_book.specs.declared.world.WallNote.{WallNote}
use Rattle.world_book.specs.declared.world.World.{World}
use Rattle.world_book.specs.Kept.{Kept, KeptBook}
use Rattle.world_book.specs.Records.{Rise, keys_of}
use Rattle.world_book.proofs.Books.{world-kept}
use Rattle.client_core.specs.declared.side.Side.{Side}
use Rattle.client_core.specs.Clients.{Standing}
use Rattle.client_core.specs.Keeping.{notes_of, users_of}
use Rattle.client_core.specs.Sides.{SideView, place_of, side_of, side_view, sides_view}
use Rattle.client_core.proofs.Notes.{kept-among}
use Rattle.run_end.proofs.Lists.{map-next}
use Rattle.run_end.specs.Ends.{AreTogether, HasEnded, IsAmong, book_in, user_in}

-- ---- the users' keys

abbrev user_of : UserBook → ℕ
user_of b = b.user

-- the keys have the key of the book's user
abbrev HasKey : List (ℕ × Key) → UserBook → Type 0
HasKey keys b = key_of keys b.user ≡ Some b.key

abbrev AreAbove : ℕ → List ℕ → Type 0
AreAbove m ns = (j n : ℕ) → slice_get ns j ≡ Some n → m < n

rise-behind : (m : ℕ) (ns : List ℕ) → Rise (m ∷ ns) → Rise ns
rise-behind m ns rise i j a b less at there = rise (suc i) (suc j) a b (omega arith) at there

rise-above : (m : ℕ) (ns : List ℕ) → Rise (m ∷ ns) → AreAbove m ns
rise-above m ns rise j n there = rise 0 (suc j) m n (omega arith) refl there

key-here : (k : ℕ × Key) (keys : List (ℕ × Key)) (user : ℕ) → k.0 ≡ user → key_of (k ∷ keys) user ≡ Some k.1
key-here k keys user same = ap (option_map (λ (p : ℕ × Key). p.1)) (cond-true (nat_eq k.0 user) (Some k)
    (find (λ (p : ℕ × Key). nat_eq p.0 user) keys) (eq-eqb k.0 user same))

key-behind : (k : ℕ × Key) (keys : List (ℕ × Key)) (user : ℕ) → k.0 < user → key_of (k ∷ keys) user ≡ key_of keys user
key-behind k keys user less = ap (option_map (λ (p : ℕ × Key). p.1)) (cond-false (nat_eq k.0 user) (Some k)
    (find (λ (p : ℕ × Key). nat_eq p.0 user) keys) (ne_eqb k.0 user (λ same. absurd (omega arith))))

keys-behind : (k : ℕ × Key) (keys : List (ℕ × Key)) (books : List UserBook) → AreAbove k.0 (map user_of books)
    → AllByRecursion (HasKey (k ∷ keys)) books → AllByRecursion (HasKey keys) books
keys-behind k keys [] above have = tt
keys-behind k keys (b ∷ books) above have = (
  sym (key-behind k keys b.user (above 0 b.user refl)) ∙ have.0,
  keys-behind k keys books (λ j n at. above (suc j) n at) have.1,
)

-- The keys of rising users are those of the books that have them.
pub keys-same : (keys : List (ℕ × Key)) (books : List UserBook) → map (λ (p : ℕ × Key). p.0) keys ≡ map user_of books
    → Rise (map user_of books) → AllByRecursion (HasKey keys) books → keys_of books ≡ keys
keys-same [] [] listed rise have = refl
keys-same [] (b ∷ books) listed rise have = absurd cc
keys-same (k ∷ keys) [] listed rise have = absurd cc
keys-same (k ∷ keys) (b ∷ books) listed rise have =
    let first : k.0 ≡ b.user = cc in
    let rest : map (λ (p : ℕ × Key). p.0) keys ≡ map user_of books = cc in
    let above : AreAbove k.0 (map user_of books) =
    subst (λ m. AreAbove m (map user_of books)) (sym first) (rise-above b.user (map user_of books) rise) in
    let key : k.1 ≡ b.key = let e = sym (key-here k keys b.user first) ∙ have.0 in cc in
    let same : keys_of books ≡ keys = keys-same keys books rest (rise-behind b.user (map user_of books) rise)
    (keys-behind k keys books above have.1) in
    let pair : (let p : ℕ × Key = (b.user, b.key) in p) ≡ k = ap (λ (u : ℕ). (let p : ℕ × Key = (u, b.key) in p)) (sym first)
    ∙ ap (λ (y : Key). (let p : ℕ × Key = (k.0, y) in p)) (sym key) in
    ap (λ (p : ℕ × Key). p ∷ keys_of books) pair ∙ ap (λ (ps : List (ℕ × Key)). k ∷ ps) same

-- ---- the clients

a-side : (sides : List Side) → 0 < length sides → (wall : ℕ) × (s : SideView) × (side_of wall (sides_view sides) ≡ Some s)
a-side [] some = absurd (omega (arith, some))
a-side (s ∷ sides) some = (
  s.known.wall,
  side_view s,
  ap (λ (b : _). slice_get (sides_view (s ∷ sides)) (if b then 0 else suc (place_of s.known.wall (sides_view sides))))
      (eq-eqb s.known.wall s.known.wall refl),
)

-- a client whose book is handed out has ended
pub has-ended : (d : Digest) (c : Standing) (book : UserBook) → book ≡ c.book
    → ((wall : ℕ) (s : SideView) → side_of wall (sides_view c.sides) ≡ Some s
    → key_of (users_of (sides_view c.sides)) book.user ≡ Some book.key)
    → KeptBook d (notes_of (sides_view c.sides)) (users_of (sides_view c.sides)) book → HasEnded d c
has-ended d c book same key kept = record {
  key = λ wall s found. subst (λ (b : UserBook). key_of (users_of (sides_view c.sides)) b.user ≡ Some b.key) same
      (key wall s found);
  kept = subst (λ (b : UserBook). KeptBook d (notes_of (sides_view c.sides)) (users_of (sides_view c.sides)) b) same kept;
}

-- and its book is the next
pub book-next : (books after : List UserBook) (clients : List Standing) (c : Standing) (book : UserBook)
    → after ≡ books ++ book ∷ [] → book ≡ c.book → books ≡ map book_in clients
    → after ≡ map book_in (clients ++ c ∷ [])
book-next books after clients c book more same are =
    more ∙ ap (λ (b : UserBook). books ++ b ∷ []) same ∙ map-next book_in clients c books are

module _ (d : Digest) (notes : List WallNote) (keys : List (ℕ × Key)) where
  has-key : (c : Standing) → HasEnded d c → IsAmong notes keys c → HasKey keys c.book
  has-key c ended among =
      let side = a-side c.sides among.some in
      subst (λ ks. HasKey ks c.book) among.users_are (ended.key side.0 side.1 side.2)

  have-keys : (clients : List Standing) → AllByRecursion (HasEnded d) clients → AllByRecursion (IsAmong notes keys) clients
      → AllByRecursion (HasKey keys) (map book_in clients)
  have-keys [] ended among = tt
  have-keys (c ∷ clients) ended among = (has-key c ended.0 among.0, have-keys clients ended.1 among.1)

  kept-book : (c : Standing) → HasEnded d c → IsAmong notes keys c → KeptBook d notes keys c.book
  kept-book c ended among = kept-among d (notes_of (sides_view c.sides)) notes keys c.book among.noted
      (subst (λ ks. KeptBook d (notes_of (sides_view c.sides)) ks c.book) among.users_are ended.kept)

  kept-books : (clients : List Standing) → AllByRecursion (HasEnded d) clients
      → AllByRecursion (IsAmong notes keys) clients
      → AllByRecursion (KeptBook d notes keys) (map book_in clients)
  kept-books [] ended among = tt
  kept-books (c ∷ clients) ended among = (kept-book c ended.0 among.0, kept-books clients ended.1 among.1)

users-in : (clients : List Standing) → map user_of (map book_in clients) ≡ map user_in clients
users-in [] = refl
users-in (c ∷ clients) = ap (λ us. c.book.user ∷ us) (users-in clients)

-- The books of clients that end together, with the notes, are a kept world.
pub together-kept : (d : Digest) (notes : List WallNote) (clients : List Standing) → AllByRecursion (HasEnded d) clients
    → AreTogether notes clients → Kept d (record { users = map book_in clients; walls = notes })
together-kept d notes clients ended together =
    let books = map book_in clients in
    let w : World = record { users = books; walls = notes } in
    let rise : Rise (map user_of books) = subst Rise (sym (users-in clients)) together.users in
    world-kept d w together.keys rise together.walls
    (keys-same together.keys books (together.listed ∙ sym (users-in clients)) rise
    (have-keys d notes together.keys clients ended together.each))
    (kept-books d notes together.keys clients ended together.each)

-- nobody and no walls
pub nobody-together : AreTogether [] []
nobody-together = record {
  users = λ i j m n less at there. absurd cc;
  walls = λ i j m n less at there. absurd cc;
  keys = [];
  listed = refl;
  each = tt;
}
