-- The search for an operation that nobody signed.
use Rattle.std.proofs.Common.{◌≡◌, ◌∙◌, ◌⊎◌, inl, inr, ℕ, zero, suc, ◌+◌, ◌<◌, ◌≤◌, Bool, true, false, List, [], ◌∷◌, ◌++◌, length, get_or, Option, Some, None, refl, sym, ap, subst, arith}
use Rattle.std.specs.Prelude.{not, slice_get}
use Rattle.std.specs.Bool.{IsTrue}
use Rattle.std.specs.List.{flat_map}
use Rattle.std.specs.Option.{option_map}
use Rattle.std.proofs.lemmas.List.{append_assoc}
use Rattle.std.proofs.lemmas.Grind.{flat_map-append}
use Rattle.std.proofs.lemmas.Option.{slice_get-get_or, slice_get_within}
use Rattle.fr_bytes.proofs.Lists.{each-append}
use Rattle.op_types.specs.declared.op.Leaf.{Leaf}
use Rattle.op_types.specs.declared.op.Op.{Op}
use Rattle.world_book.specs.declared.book.UserBook.{UserBook}
use Rattle.world_book.specs.declared.took.Signed.{Signed}
use Rattle.world_book.specs.declared.took.Took.{Took}
use Rattle.world_book.specs.declared.world.World.{World}
use Rattle.world_book.specs.Records.{IsIn, Signs, book_of, is_honest, is_no_rogue}
use Rattle.audit_run.specs.Unsigned.{IsOwned, IsSearched, leaves_of, shown_leaves}
use Rattle.audit_run.proofs.Searching.{Search}

after-owned : (w : World) (xs ys : List Leaf) (o : Option Leaf) → IsSearched w xs None → IsSearched w ys o
    → IsSearched w (xs ++ ys) o
unfolding IsSearched
after-owned w xs ys None owned found = each-append (IsOwned w) xs ys owned found
after-owned w xs ys (Some leaf) owned found = record {
  before = xs ++ found.before;
  behind = found.behind;
  shown = ap (λ (zs : List Leaf). xs ++ zs) found.shown ∙ sym (append_assoc xs found.before (leaf ∷ found.behind));
  owned = each-append (IsOwned w) xs found.before owned found.owned;
  honest = found.honest;
  unsigned = found.unsigned;
}

in-front : (w : World) (xs ys : List Leaf) (leaf : Leaf) → IsSearched w xs (Some leaf)
    → IsSearched w (xs ++ ys) (Some leaf)
unfolding IsSearched
in-front w xs ys leaf found = record {
  before = found.before;
  behind = found.behind ++ ys;
  shown = ap (λ (zs : List Leaf). zs ++ ys) found.shown ∙ append_assoc found.before (leaf ∷ found.behind) ys;
  owned = found.owned;
  honest = found.honest;
  unsigned = found.unsigned;
}

none-in : (w : World) → IsSearched w [] None
unfolding IsSearched
none-in w = tt

pub searched : (w : World) → Search (IsSearched w)
searched w = record { none = none-in w; on = after-owned w; stop = in-front w }

-- the elements of a list, each as a list of its own
pub alone : {A : Type 0} (xs : List A) → flat_map (λ (x : A). x ∷ []) xs ≡ xs
alone [] = refl
alone (x ∷ xs) = ap (λ ys. x ∷ ys) (alone xs)

pub one-owned : (w : World) (leaf : Leaf) → IsOwned w leaf → IsSearched w (leaf ∷ []) None
unfolding IsSearched
one-owned w leaf owned = (owned, tt)

pub one-unsigned : (w : World) (leaf : Leaf) → is_honest w leaf.op.author ≡ true
    → (Signs w leaf.op.author leaf.op → ⊥) → IsSearched w (leaf ∷ []) (Some leaf)
unfolding IsSearched
one-unsigned w leaf honest unsigned = record {
  before = [];
  behind = [];
  shown = refl;
  owned = tt;
  honest = honest;
  unsigned = unsigned;
}

-- ---- one operation

-- none of the first so many is it
unfoldable pub NoneBefore : List Signed → Op → ℕ → Type 0
NoneBefore signed op n = (k : ℕ) (s : Signed) → k < n → slice_get signed k ≡ Some s → s.op ≡ op → ⊥

pub none-before : (signed : List Signed) (op : Op) → NoneBefore signed op 0
unfolding NoneBefore
none-before signed op k s less at same = absurd (omega (arith, less))

-- what stands at a place
pub at-place : {A : Type 0} (xs : List A) (n : ℕ) (x : A) → n < length xs → x ≡ get_or xs n x → slice_get xs n ≡ Some x
at-place xs n x less is = slice_get-get_or xs n x less ∙ ap Some (sym is)

pub lower-or-level : (k n : ℕ) → k < n + 1 → (k < n) ⊎ (k ≡ n)
lower-or-level zero zero less = inr refl
lower-or-level zero (suc n) less = inl (omega arith)
lower-or-level (suc k) zero less = absurd (omega (arith, less))
lower-or-level (suc k) (suc n) less = elim (lower-or-level k n (omega (arith, less))) [
  | inl lower ↦ inl (omega (arith, lower))
  | inr level ↦ inr (ap suc level)
]

pub among : (signed : List Signed) (op : Op) (n : ℕ) (s : Signed) → n < length signed → s ≡ get_or signed n s
    → s.op ≡ op → (t : Signed) × IsIn signed t × (t.op ≡ op)
among signed op n s less is same = (s, record { place = n; there = at-place signed n s less is }, same)

pub one-more : (signed : List Signed) (op : Op) (n : ℕ) (s : Signed) → n < length signed → s ≡ get_or signed n s
    → (s.op ≡ op → ⊥) → NoneBefore signed op n → NoneBefore signed op (n + 1)
unfolding NoneBefore
one-more signed op n s less is other before k t early at same = elim (lower-or-level k n early) [
  | inl lower ↦ before k t lower at same
  | inr level ↦ other
      (let here : slice_get signed n ≡ Some t = ap (slice_get signed) (sym level) ∙ at in
      let there = at-place signed n s less is in let it : s ≡ t = cc in ap (λ (x : Signed). x.op) it ∙ same)
]

pub none-at-all : (signed : List Signed) (op : Op) (n : ℕ) → length signed ≤ n → NoneBefore signed op n
    → (s : Signed) → IsIn signed s → s.op ≡ op → ⊥
unfolding NoneBefore
none-at-all signed op n long before s at same =
    let within = slice_get_within signed at.place s at.there in before at.place s (omega arith) at.there same

pub a-book : (w : World) (user : ℕ) (book : UserBook) → book_of w user ≡ Some book → is_honest w user ≡ not book.rogue
a-book w user book found = ap is_no_rogue found

-- The user signed it exactly where it is in the user's book.
pub not-signed : (w : World) (user : ℕ) (op : Op) (book : UserBook) → book_of w user ≡ Some book
    → ((s : Signed) → IsIn book.signed s → s.op ≡ op → ⊥) → Signs w user op → ⊥
not-signed w user op book found none signs =
    let same : signs.book ≡ book = let e = signs.found in cc in
    none signs.signed (subst (λ (b : UserBook). IsIn b.signed signs.signed) same signs.kept) signs.same

pub alone-searched : (w : World) (leaves : List Leaf) (o : Option Leaf)
    → IsSearched w (flat_map (λ (x : Leaf). x ∷ []) leaves) o → IsSearched w leaves o
alone-searched w leaves o found = subst (λ (xs : List Leaf). IsSearched w xs o) (alone leaves) found

-- ---- tests

pub not-true-and-false : (b : Bool) → IsTrue b → b ≡ false → ⊥
not-true-and-false true holds is = absurd cc
not-true-and-false false holds is = absurd cc

pub is-not : (b : Bool) → not b ≡ true → b ≡ false
is-not true is = absurd cc
is-not false is = refl

pub find-there : {A B : Type 0} (g : A → B) (o : Option A) (x : A) (p : Option B) → option_map g o ≡ p → o ≡ Some x
    → p ≡ Some (g x)
find-there g o x p ensures is = sym ensures ∙ ap (option_map g) is

-- the leaves of joined lists of records
pub joined-leaves : (books : List UserBook) → leaves_of (flat_map (λ (b : UserBook). b.took) books)
    ≡ flat_map (λ (b : UserBook). leaves_of b.took) books
joined-leaves [] = refl
joined-leaves (b ∷ books) =
    flat_map-append (λ (r : Took). r.leaves) b.took (flat_map (λ (b : UserBook). b.took) books)
    ∙ ap (λ (xs : List Leaf). leaves_of b.took ++ xs) (joined-leaves books)

pub world-searched : (w : World) (books : List UserBook) (o : Option Leaf) → books ≡ w.users
    → IsSearched w (flat_map (λ (b : UserBook). leaves_of b.took) books) o → IsSearched w (shown_leaves w) o
world-searched w books o are found =
    subst (λ (bs : List UserBook). IsSearched w (leaves_of (flat_map (λ (b : UserBook). b.took) bs)) o) are
    (subst (λ (xs : List Leaf). IsSearched w xs o) (sym (joined-leaves books)) found)
