-- Look-ups in access lists: what a change leaves of each user's entry.
use Rattle.std.proofs.Common.{◌≡◌, ◌≢◌, ℕ, ◌<◌, ◌≤◌, Bool, true, false, cond, ltb, List, [], ◌∷◌, ◌++◌, Option, Some, None, refl, sym, ap, ◌∙◌, inl, inr, arith}
use Rattle.std.specs.Prelude.{filter, nat_eq, not, option_map}
use Rattle.std.proofs.lemmas.Bool.{lt-ltb, le-ltb, cases_eq, cases_order, eq-eqb, ne_eqb}
use Rattle.tree_model.specs.declared.entry.Entry.{Entry}
use Rattle.tree_model.specs.AccessList.{entry_of, smaller, greater, with_next, with_entry, without}

-- ---- look-ups in parts of a list

-- a part that keeps every entry of a user
entry_of-kept : (p : Entry → Bool) (u : ℕ) → ((x : Entry) → x.user ≡ u → p x ≡ true) → (es : List Entry) → entry_of (filter p es) u ≡ entry_of es u
entry_of-kept p u keeps [] = refl
entry_of-kept p u keeps (e ∷ es) =
    let others = entry_of-kept p u keeps es in
    elim (cases_eq e.user u) [
      | inl same ↦ rw (keeps e same, eq-eqb e.user u same) refl
      | inr other ↦
          rw (ne_eqb e.user u other)
          (elim (p e) as (λ b. entry_of (cond b (e ∷ filter p es) (filter p es)) u ≡ entry_of es u) [ true ↦ rw (ne_eqb e.user u other) others | false ↦ others ])
    ]

-- a part that keeps no entry of a user
entry_of-lost : (p : Entry → Bool) (u : ℕ) → ((x : Entry) → x.user ≡ u → p x ≡ false) → (es : List Entry) → entry_of (filter p es) u ≡ None
entry_of-lost p u loses [] = refl
entry_of-lost p u loses (e ∷ es) =
    let others = entry_of-lost p u loses es in
    elim (cases_eq e.user u) [
      | inl same ↦ rw (loses e same) others
      | inr other ↦ elim (p e) as (λ b. entry_of (cond b (e ∷ filter p es) (filter p es)) u ≡ None) [ true ↦ rw (ne_eqb e.user u other) others | false ↦ others ]
    ]

-- ---- the entry with its next number set

pub with_next-own : (user next : ℕ) (es : List Entry) → entry_of (with_next user next es) user ≡ option_map (λ (e : Entry). record { user = e.user; role = e.role; next = next }) (entry_of es user)
with_next-own user next [] = refl
with_next-own user next (e ∷ es) = elim (cases_eq e.user user) [
  | inl same ↦ rw (eq-eqb e.user user same) (rw (eq-eqb e.user user same) refl)
  | inr other ↦ rw (ne_eqb e.user user other) (rw (ne_eqb e.user user other) (with_next-own user next es))
]

pub with_next-other : (user next u : ℕ) (es : List Entry) → u ≢ user → entry_of (with_next user next es) u ≡ entry_of es u
with_next-other user next u [] apart = refl
with_next-other user next u (e ∷ es) apart =
    let others = with_next-other user next u es apart in
    elim (cases_eq e.user user) [
      | inl same ↦
          let other : e.user ≢ u = λ is. apart (sym is ∙ same) in
          rw (eq-eqb e.user user same) (rw (ne_eqb e.user u other) others)
      | inr other ↦ rw (ne_eqb e.user user other) (elim (nat_eq e.user u) as (λ b. cond b (Some e) (entry_of (with_next user next es) u) ≡ cond b (Some e) (entry_of es u)) [ true ↦ refl | false ↦ others ])
    ]

-- ---- the list with an entry

-- behind entries that have none of a user
entry_of-behind : (xs ys : List Entry) (u : ℕ) → entry_of xs u ≡ None → entry_of (xs ++ ys) u ≡ entry_of ys u
entry_of-behind [] ys u none = refl
entry_of-behind (x ∷ xs) ys u none = elim (cases_eq x.user u) [
  | inl same ↦ let found : Some x ≡ None = rw (eq-eqb x.user u same) at none in absurd cc
  | inr other ↦ rw (ne_eqb x.user u other) (entry_of-behind xs ys u (rw (ne_eqb x.user u other) at none))
]

-- before entries that have none of a user
entry_of-before : (xs ys : List Entry) (u : ℕ) → entry_of ys u ≡ None → entry_of (xs ++ ys) u ≡ entry_of xs u
entry_of-before [] ys u none = none
entry_of-before (x ∷ xs) ys u none = ap (λ (found : Option Entry). cond (nat_eq x.user u) (Some x) found) (entry_of-before xs ys u none)

entry_of-smaller : (user u : ℕ) (es : List Entry) → u < user → entry_of (smaller user es) u ≡ entry_of es u
entry_of-smaller user u es less = entry_of-kept (λ (x : Entry). ltb x.user user) u (λ x same. lt-ltb x.user user (omega arith)) es

entry_of-greater : (user u : ℕ) (es : List Entry) → user < u → entry_of (greater user es) u ≡ entry_of es u
entry_of-greater user u es more = entry_of-kept (λ (x : Entry). ltb user x.user) u (λ x same. lt-ltb user x.user (omega arith)) es

no_smaller : (user u : ℕ) (es : List Entry) → user ≤ u → entry_of (smaller user es) u ≡ None
no_smaller user u es less = entry_of-lost (λ (x : Entry). ltb x.user user) u (λ x same. le-ltb x.user user (omega arith)) es

no_greater : (user u : ℕ) (es : List Entry) → u ≤ user → entry_of (greater user es) u ≡ None
no_greater user u es more = entry_of-lost (λ (x : Entry). ltb user x.user) u (λ x same. le-ltb user x.user (omega arith)) es

alone : (e : Entry) (u : ℕ) → u ≢ e.user → entry_of (e ∷ []) u ≡ None
alone e u apart = rw (ne_eqb e.user u (λ is. apart (sym is))) refl

pub with_entry-own : (e : Entry) (es : List Entry) → entry_of (with_entry e es) e.user ≡ Some e
with_entry-own e es =
    let here : entry_of (e ∷ []) e.user ≡ Some e = rw (eq-eqb e.user e.user refl) refl in
    entry_of-before (smaller e.user es ++ e ∷ []) (greater e.user es) e.user (no_greater e.user e.user es (omega arith))
    ∙ entry_of-behind (smaller e.user es) (e ∷ []) e.user (no_smaller e.user e.user es (omega arith))
    ∙ here

pub with_entry-other : (e : Entry) (u : ℕ) (es : List Entry) → u ≢ e.user → entry_of (with_entry e es) u ≡ entry_of es u
with_entry-other e u es apart =
    elim (cases_order u e.user) [
      | inl same ↦ absurd (apart same)
      | inr (inl less) ↦
          entry_of-before (smaller e.user es ++ e ∷ []) (greater e.user es) u (no_greater e.user u es (omega arith))
          ∙ entry_of-before (smaller e.user es) (e ∷ []) u (alone e u apart)
          ∙ entry_of-smaller e.user u es less
      | inr (inr more) ↦
          let none = entry_of-behind (smaller e.user es) (e ∷ []) u (no_smaller e.user u es (omega arith)) ∙ alone e u apart in
          entry_of-behind (smaller e.user es ++ e ∷ []) (greater e.user es) u none
          ∙ entry_of-greater e.user u es more
    ]

-- ---- the list without a user

pub without-own : (user : ℕ) (es : List Entry) → entry_of (without user es) user ≡ None
without-own user es = entry_of-lost (λ (x : Entry). not (nat_eq x.user user)) user (λ x same. ap not (eq-eqb x.user user same)) es

pub without-other : (user u : ℕ) (es : List Entry) → u ≢ user → entry_of (without user es) u ≡ entry_of es u
without-other user u es apart = entry_of-kept (λ (x : Entry). not (nat_eq x.user user)) u (λ x same. ap not (ne_eqb x.user user (λ is. apart (sym same ∙ is)))) es
