-- Look-ups in parts of a list of entries.
use Rattle.std.proofs.Common.{◌≡◌, ℕ, ◌<◌, ◌≤◌, Bool, true, false, cond, ltb, List, [], ◌∷◌, length, Some, None, refl, inl, inr, arith}
use Rattle.std.specs.Prelude.{filter}
use Rattle.std.proofs.lemmas.Bool.{cases_eq, eq-eqb, ne_eqb, lt-ltb, le-ltb}
use Rattle.tree_model.specs.declared.entry.Entry.{Entry}
use Rattle.tree_model.specs.AccessList.{entry_of, greater, smaller}

-- a part has no user whom the list hasn't
pub absent-filter : (p : Entry → Bool) (u : ℕ) (es : List Entry) → entry_of es u ≡ None
    → entry_of (filter p es) u ≡ None
absent-filter p u [] none = refl
absent-filter p u (e ∷ es) none = elim (cases_eq e.user u) [
  | inl same ↦ let here : Some e ≡ None = rw (eq-eqb e.user u same) at none in absurd cc
  | inr other ↦
      let behind : entry_of es u ≡ None = rw (ne_eqb e.user u other) at none in
      let others = absent-filter p u es behind in
      elim (p e) as (λ b. entry_of (cond b (e ∷ filter p es) (filter p es)) u ≡ None)
      [ true ↦ rw (ne_eqb e.user u other) others | false ↦ others ]
]

-- a list with a user has an entry
pub listed-some : (es : List Entry) (u : ℕ) (e : Entry) → entry_of es u ≡ Some e → 0 < length es
listed-some [] u e found = absurd cc
listed-some (x ∷ es) u e found = omega arith

-- a part that keeps every entry of a user
kept-looked_up : (p : Entry → Bool) (u : ℕ) → ((x : Entry) → x.user ≡ u → p x ≡ true) → (es : List Entry)
    → entry_of (filter p es) u ≡ entry_of es u
kept-looked_up p u keeps [] = refl
kept-looked_up p u keeps (e ∷ es) =
    let others = kept-looked_up p u keeps es in
    elim (cases_eq e.user u) [
      | inl same ↦ rw (keeps e same, eq-eqb e.user u same) refl
      | inr other ↦
          rw (ne_eqb e.user u other)
          (elim (p e) as (λ b. entry_of (cond b (e ∷ filter p es) (filter p es)) u ≡ entry_of es u)
          [ true ↦ rw (ne_eqb e.user u other) others | false ↦ others ])
    ]

pub smaller-looked_up : (t u : ℕ) (E : List Entry) → u < t → entry_of (smaller t E) u ≡ entry_of E u
smaller-looked_up t u E less =
    kept-looked_up (λ (x : Entry). ltb x.user t) u (λ x same. lt-ltb x.user t (omega arith)) E

pub greater-looked_up : (t u : ℕ) (E : List Entry) → t < u → entry_of (greater t E) u ≡ entry_of E u
greater-looked_up t u E more =
    kept-looked_up (λ (x : Entry). ltb t x.user) u (λ x same. lt-ltb t x.user (omega arith)) E

-- a part that keeps no entry of a user
lost-looked_up : (p : Entry → Bool) (u : ℕ) → ((x : Entry) → x.user ≡ u → p x ≡ false) → (es : List Entry)
    → entry_of (filter p es) u ≡ None
lost-looked_up p u loses [] = refl
lost-looked_up p u loses (e ∷ es) =
    let others = lost-looked_up p u loses es in
    elim (cases_eq e.user u) [
      | inl same ↦ rw (loses e same) others
      | inr other ↦ elim (p e) as (λ b. entry_of (cond b (e ∷ filter p es) (filter p es)) u ≡ None)
          [ true ↦ rw (ne_eqb e.user u other) others | false ↦ others ]
    ]

pub no_smaller : (t u : ℕ) (E : List Entry) → t ≤ u → entry_of (smaller t E) u ≡ None
no_smaller t u E low = lost-looked_up (λ (x : Entry). ltb x.user t) u (λ x same. le-ltb x.user t (omega arith)) E

pub no_greater : (t u : ℕ) (E : List Entry) → u ≤ t → entry_of (greater t E) u ≡ None
no_greater t u E high = lost-looked_up (λ (x : Entry). ltb t x.user) u (λ x same. le-ltb t x.user (omega arith)) E
