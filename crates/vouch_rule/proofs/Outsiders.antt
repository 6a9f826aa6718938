-- More vouchers than a list has users aren't all in it.
use Rattle.std.proofs.Common.{◌≡◌, ◌⊎◌, inl, inr, ℕ, suc, ◌+◌, ◌<◌, ◌≤◌, Bool, true, false, ◌||◌, List, [], ◌∷◌, length, map, Some, refl, ap, sym, subst, ◌∙◌, arith, eq-eqb}
use Rattle.std.specs.Prelude.{filter, nat_eq, nat_lt, slice_get}
use Rattle.std.specs.List.{AllByRecursion, list_any}
use Rattle.std.specs.Set.{distinct_count, is_member, remove_key, unique_keys}
use Rattle.std.proofs.lemmas.Bool.{cases_Bool, cond-true, cond-false, eqb-true, ltb-false, not-true, or_cases, or_left, or_parts, or_right}
use Rattle.vouch_rule.specs.declared.vouch.Vouch.{Vouch}
use Rattle.vouch_rule.specs.Vouching.{authors_from, covers, vouchers}

-- each of them is one of the users
abbrev AreOf : List ℕ → List ℕ → Type 0
AreOf users xs = AllByRecursion (λ (x : ℕ). list_any (nat_eq x) users ≡ true) xs

-- ---- users that are taken out

length-remove : (x : ℕ) (users : List ℕ) → list_any (nat_eq x) users ≡ true
    → length (remove_key (nat_eq x) users) + 1 ≡ length users
length-remove x [] has = absurd cc
length-remove x (u ∷ us) has = elim (cases_Bool (nat_eq x u)) [
  | inl is ↦
      let e = ap length (cond-true (nat_eq x u) us (u ∷ remove_key (nat_eq x) us) is) in omega arith
  | inr not ↦
      let e = ap length (cond-false (nat_eq x u) us (u ∷ remove_key (nat_eq x) us) not) in
      let rest = length-remove x us (later (nat_eq x u) (list_any (nat_eq x) us) not has) in
      omega arith
]
  where
    later : (a b : Bool) → a ≡ false → (a || b) ≡ true → b ≡ true
    later true b e h = absurd cc
    later false b e h = h

member-remove : (x y : ℕ) (users : List ℕ) → nat_eq x y ≡ false → list_any (nat_eq y) users ≡ true
    → list_any (nat_eq y) (remove_key (nat_eq x) users) ≡ true
member-remove x y [] apart has = absurd cc
member-remove x y (u ∷ us) apart has = elim (cases_Bool (nat_eq x u)) [
  | inl is ↦ ap (list_any (nat_eq y)) (cond-true (nat_eq x u) us (u ∷ remove_key (nat_eq x) us) is)
      ∙ elim (or_cases (nat_eq y u) (list_any (nat_eq y) us) has) [
        | inl here ↦
            let e : x ≡ y = eqb-true x u is ∙ sym (eqb-true y u here) in
            absurd (let f = sym apart ∙ ap (λ (n : ℕ). nat_eq n y) e ∙ same y in cc)
        | inr there ↦ there
      ]
  | inr not ↦ ap (list_any (nat_eq y)) (cond-false (nat_eq x u) us (u ∷ remove_key (nat_eq x) us) not)
      ∙ elim (or_cases (nat_eq y u) (list_any (nat_eq y) us) has) [
        | inl here ↦ or_left (nat_eq y u) (list_any (nat_eq y) (remove_key (nat_eq x) us)) here
        | inr there ↦ or_right (nat_eq y u) (list_any (nat_eq y) (remove_key (nat_eq x) us))
            (member-remove x y us apart there)
      ]
]
  where
    same : (n : ℕ) → nat_eq n n ≡ true
    same n = eq-eqb n n refl

each-remove : (x : ℕ) (users xs : List ℕ) → is_member nat_eq xs x ≡ false → AreOf users xs
    → AreOf (remove_key (nat_eq x) users) xs
each-remove x users [] none are = tt
each-remove x users (y ∷ ys) none are =
    let both = or_parts (nat_eq x y) (is_member nat_eq ys x) none in
    (member-remove x y users both.0 are.0, each-remove x users ys both.1 are.1)

-- Distinct ones that are all in a list are no more than the list has.
few-distinct : (xs users : List ℕ) → AreOf users xs → distinct_count nat_eq xs ≤ length users
few-distinct [] users are = omega arith
few-distinct (x ∷ xs) users are = elim (cases_Bool (is_member nat_eq xs x)) [
  | inl again ↦
      let e = ap length (cond-true (is_member nat_eq xs x) (unique_keys nat_eq xs) (x ∷ unique_keys nat_eq xs) again) in
      let rest = few-distinct xs users are.1 in
      omega arith
  | inr new ↦
      let e = ap length (cond-false (is_member nat_eq xs x) (unique_keys nat_eq xs) (x ∷ unique_keys nat_eq xs) new) in
      let rest = few-distinct xs (remove_key (nat_eq x) users) (each-remove x users xs new are.1) in
      let one = length-remove x users are.0 in
      omega arith
]

-- ---- operations of others

-- an operation that vouches, of a user who isn't listed
abbrev Outside : List Vouch → ℕ → List ℕ → Type 0
Outside ops m users = (i : ℕ) × (o : Vouch) × (slice_get ops i ≡ Some o) × (m ≤ o.size)
    × (list_any (nat_eq o.author) users ≡ false)

abbrev author_of : Vouch → ℕ
author_of o = o.author

decide : (ops : List Vouch) (m : ℕ) (users : List ℕ) → Outside ops m users ⊎ AreOf users (authors_from m ops)
decide [] m users = inr tt
decide (o ∷ ops) m users = elim (decide ops m users) [
  | inl found ↦ inl (suc found.0, found.1, found.2, found.3, found.4)
  | inr rest ↦ elim (cases_Bool (covers m o)) [
    | inl vouches ↦ elim (cases_Bool (list_any (nat_eq o.author) users)) [
      | inl listed ↦ inr (subst (λ (os : List Vouch). AreOf users (map author_of os))
          (sym (cond-true (covers m o) (o ∷ filter (covers m) ops) (filter (covers m) ops) vouches)) (listed, rest))
      | inr other ↦ inl (0, o, refl, ltb-false o.size m (not-true (nat_lt o.size m) vouches), other)
    ]
    | inr silent ↦ inr (subst (λ (os : List Vouch). AreOf users (map author_of os))
        (sym (cond-false (covers m o) (o ∷ filter (covers m) ops) (filter (covers m) ops) silent)) rest)
  ]
]

pub outsider : (ops : List Vouch) (m : ℕ) (users : List ℕ) → length users < vouchers ops m → Outside ops m users
outsider ops m users more = elim (decide ops m users) [
  | inl found ↦ found
  | inr are ↦ absurd (let few = few-distinct (authors_from m ops) users are in omega arith)
]
