-- The look-up of records.
use Rattle.std.proofs.Common.{◌≡◌, ◌∙◌, inl, inr, ℕ, ◌+◌, ◌<◌, ◌≤◌, true, false, List, length, map, get_or, Option, Some, None, refl, sym, ap, arith}
use Rattle.std.specs.Prelude.{◌&&◌, nat_eq, slice_get}
use Rattle.std.proofs.lemmas.Bool.{and_from, and_parts, both_ways, eq-eqb, eqb-true}
use Rattle.std.specs.Option.{option_map}
use Rattle.std.proofs.lemmas.List.{length-map}
use Rattle.std.proofs.lemmas.Option.{slice_get-map, slice_get_within}
use Rattle.world_book.specs.declared.took.Took.{Took}
use Rattle.world_book.specs.declared.world.World.{World}
use Rattle.world_book.specs.Records.{record_of}
use Rattle.world_book.proofs.Records.{record-found, record-self}
use Rattle.audit_run.specs.Table.{IsIndex, is_at}
use Rattle.audit_run.proofs.Owned.{at-place, lower-or-level}

unfoldable pub NoneAt : ℕ → ℕ → ℕ → List Took → ℕ → Type 0
NoneAt user wall size records n = (k : ℕ) (r : Took) → k < n → slice_get records k ≡ Some r
    → is_at user wall size r ≡ false

pub none-yet : (user wall size : ℕ) (records : List Took) → NoneAt user wall size records 0
unfolding NoneAt
none-yet user wall size records k r less at = absurd (omega (arith, less))

pub none-more : (user wall size : ℕ) (records : List Took) (n : ℕ) (r : Took) → slice_get records n ≡ Some r
    → is_at user wall size r ≡ false → NoneAt user wall size records n → NoneAt user wall size records (n + 1)
unfolding NoneAt
none-more user wall size records n r there other before k t early at = elim (lower-or-level k n early) [
  | inl lower ↦ before k t lower at
  | inr level ↦
      let here : slice_get records n ≡ Some t = ap (slice_get records) (sym level) ∙ at in
      let it : r ≡ t = cc in ap (is_at user wall size) (sym it) ∙ other
]

-- the numbers are the record's
numbers : (user wall size : ℕ) (r : Took) → is_at user wall size r ≡ true
    → (r.user ≡ user) × (r.wall ≡ wall) × (r.size ≡ size)
numbers user wall size r is =
    let one = and_parts (nat_eq r.user user) (nat_eq r.wall wall && nat_eq r.size size) is in
    let two = and_parts (nat_eq r.wall wall) (nat_eq r.size size) one.1 in
    (eqb-true r.user user one.0, eqb-true r.wall wall two.0, eqb-true r.size size two.1)

numbers-are : (user wall size : ℕ) (r : Took) → r.user ≡ user → r.wall ≡ wall → r.size ≡ size
    → is_at user wall size r ≡ true
numbers-are user wall size r u a s =
    and_from (nat_eq r.user user) (nat_eq r.wall wall && nat_eq r.size size) (eq-eqb r.user user u)
    (and_from (nat_eq r.wall wall) (nat_eq r.size size) (eq-eqb r.wall wall a) (eq-eqb r.size size s))

pub found-at : (w : World) (records : List Took) → IsIndex w records → (user wall size n : ℕ) (r : Took)
    → slice_get records n ≡ Some r → is_at user wall size r ≡ true
    → slice_get records n ≡ record_of w user wall size
found-at w records index user wall size n r there is =
    let e = numbers user wall size r is in
    let all = index.all in
    let again = record-self index.d w index.kept r
    (record { place = n; there = ap (λ (rs : List Took). slice_get rs n) (sym all) ∙ there }) in
    there ∙ sym again ∙ ap (λ (u : ℕ). record_of w u r.wall r.size) e.0
    ∙ ap (λ (a : ℕ). record_of w user a r.size) e.1
    ∙ ap (λ (s : ℕ). record_of w user wall s) e.2

pub none-at : (w : World) (records : List Took) → IsIndex w records → (user wall size n : ℕ) → length records ≤ n
    → NoneAt user wall size records n → None ≡ record_of w user wall size
unfolding NoneAt
none-at w records index user wall size n long none = by (record_of w user wall size) refl
  where
    by : (o : Option Took) → record_of w user wall size ≡ o → None ≡ record_of w user wall size
    by None is = sym is
    by (Some s) is =
        let it = record-found index.d w index.kept user wall size s is in
        let at = ap (λ (rs : List Took). slice_get rs it.0.place) index.all ∙ it.0.there in
        let within = slice_get_within records it.0.place s at in
        absurd (both_ways (is_at user wall size s) (none it.0.place s (omega arith) at)
        (numbers-are user wall size s it.1 it.2 it.3))

-- what stands at a place of a list that is seen through f
pub item-at : {A B : Type 0} (f : A → B) (xs ys : List A) → ys ≡ xs → (n : ℕ) (x : A) → n < length ys
    → x ≡ get_or ys n x → slice_get (map f xs) n ≡ Some (f x)
item-at {A = A} f xs ys same n x less is =
    slice_get-map f xs n ∙ ap (λ (zs : List A). option_map f (slice_get zs n)) (sym same)
    ∙ ap (option_map f) (at-place ys n x less is)

pub past-all : {A B : Type 0} (f : A → B) (xs ys : List A) → ys ≡ xs → (n : ℕ) → length ys ≤ n → length (map f xs) ≤ n
past-all f xs ys same n long = let many = length-map xs f in let e = ap length same in omega arith

pub item-within : {A B : Type 0} (f : A → B) (xs ys : List A) → ys ≡ xs → (n : ℕ) → n < length ys → n < length (map f xs)
item-within f xs ys same n less = let many = length-map xs f in let e = ap length same in omega arith
