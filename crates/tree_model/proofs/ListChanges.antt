-- Changes of access lists keep the order of the users.
use Rattle.std.proofs.Common.{◌≡◌, ℕ, ◌<◌, Bool, true, false, cond, ltb, List, [], ◌∷◌, ◌++◌, refl, inl, inr, arith}
use Rattle.std.specs.Prelude.{filter, nat_eq, not}
use Rattle.std.specs.List.{AllByRecursion}
use Rattle.std.proofs.lemmas.Bool.{lt-ltb, le-ltb, cases_lt}
use Rattle.tree_model.specs.declared.entry.Entry.{Entry}
use Rattle.tree_model.specs.AccessList.{IsRising, smaller, greater, ListChange, stays, adds, drops, numbered, with_next, with_entry, change_by, changed_set}

-- ---- what holds of each entry

pub All-filter : (P : Entry → Type 0) (p : Entry → Bool) (es : List Entry) → AllByRecursion P es → AllByRecursion P (filter p es)
All-filter P p [] all = tt
All-filter P p (e ∷ es) all = elim (p e) as (λ b. AllByRecursion P (cond b (e ∷ filter p es) (filter p es))) [ true ↦ (all.0, All-filter P p es all.1) | false ↦ All-filter P p es all.1 ]

pub All-append : (P : Entry → Type 0) (xs ys : List Entry) → AllByRecursion P xs → AllByRecursion P ys → AllByRecursion P (xs ++ ys)
All-append P [] ys all all' = all'
All-append P (x ∷ xs) ys all all' = (all.0, All-append P xs ys all.1 all')

pub All-weaker : (P Q : Entry → Type 0) → ((x : Entry) → P x → Q x) → (es : List Entry) → AllByRecursion P es → AllByRecursion Q es
All-weaker P Q weaker [] all = tt
All-weaker P Q weaker (e ∷ es) all = (weaker e all.0, All-weaker P Q weaker es all.1)

pub smaller-each : (user : ℕ) (es : List Entry) → AllByRecursion (λ (x : Entry). x.user < user) (smaller user es)
smaller-each user [] = tt
smaller-each user (e ∷ es) = elim (cases_lt e.user user) [
  | inl less ↦ rw (lt-ltb e.user user less) (less, smaller-each user es)
  | inr not_less ↦ rw (le-ltb e.user user not_less) (smaller-each user es)
]

pub greater-each : (user : ℕ) (es : List Entry) → AllByRecursion (λ (x : Entry). user < x.user) (greater user es)
greater-each user [] = tt
greater-each user (e ∷ es) = elim (cases_lt user e.user) [
  | inl less ↦ rw (lt-ltb user e.user less) (less, greater-each user es)
  | inr not_less ↦ rw (le-ltb user e.user not_less) (greater-each user es)
]

-- ---- the order of the users

pub rising-filter : (p : Entry → Bool) (es : List Entry) → IsRising es → IsRising (filter p es)
rising-filter p [] h = tt
rising-filter p (e ∷ es) h = elim (p e) as (λ b. IsRising (cond b (e ∷ filter p es) (filter p es))) [
  | true ↦ (All-filter (λ (x : Entry). e.user < x.user) p es h.0, rising-filter p es h.1)
  | false ↦ rising-filter p es h.1
]

-- a list, a greater user, and a list of still greater ones
pub rising-around : (xs : List Entry) (e : Entry) (ys : List Entry) → IsRising xs → AllByRecursion (λ (x : Entry). x.user < e.user) xs → AllByRecursion (λ (x : Entry). e.user < x.user) ys → IsRising ys → IsRising ((xs ++ e ∷ []) ++ ys)
rising-around [] e ys hx below above hy = (above, hy)
rising-around (x ∷ xs) e ys hx below above hy =
    let further = All-weaker (λ (y : Entry). e.user < y.user) (λ (y : Entry). x.user < y.user) (λ y h. let first = below.0 in omega arith) ys above in
    (All-append (λ (y : Entry). x.user < y.user) (xs ++ e ∷ []) ys (All-append (λ (y : Entry). x.user < y.user) xs (e ∷ []) hx.0 (below.0, tt)) further, rising-around xs e ys hx.1 below.1 above hy)

pub rising-with_entry : (e : Entry) (es : List Entry) → IsRising es → IsRising (with_entry e es)
rising-with_entry e es h = rising-around (smaller e.user es) e (greater e.user es) (rising-filter (λ (x : Entry). ltb x.user e.user) es h) (smaller-each e.user es) (greater-each e.user es) (rising-filter (λ (x : Entry). ltb e.user x.user) es h)

pub numbered-user : (user next : ℕ) (e : Entry) → (numbered user next e).user ≡ e.user
numbered-user user next e = elim (nat_eq e.user user) as (λ b. (cond b (record e { next = next }) e).user ≡ e.user) [ true ↦ refl | false ↦ refl ]

All-numbered : (user next u : ℕ) (es : List Entry) → AllByRecursion (λ (x : Entry). u < x.user) es → AllByRecursion (λ (x : Entry). u < x.user) (with_next user next es)
All-numbered user next u [] all = tt
All-numbered user next u (e ∷ es) all = let same = numbered-user user next e in (rw same all.0, All-numbered user next u es all.1)

pub rising-with_next : (user next : ℕ) (es : List Entry) → IsRising es → IsRising (with_next user next es)
rising-with_next user next [] h = tt
rising-with_next user next (e ∷ es) h =
    let same = numbered-user user next e in
    (rw same (All-numbered user next e.user es h.0), rising-with_next user next es h.1)

pub rising-change_by : (change : ListChange) (es : List Entry) → IsRising es → IsRising (change_by change es)
rising-change_by stays es h = h
rising-change_by (adds e) es h = rising-with_entry e es h
rising-change_by (drops user) es h = rising-filter (λ (x : Entry). not (nat_eq x.user user)) es h

-- The set that an operation leaves is one whose users rise.
pub rising-changed_set : (es : List Entry) (author next : ℕ) (change : ListChange) → IsRising es → IsRising (changed_set es author next change)
rising-changed_set es author next change h = rising-change_by change (with_next author next es) (rising-with_next author next es h)
