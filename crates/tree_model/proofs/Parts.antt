-- What lists in a row and changed lists are made of: their smaller and greater users, and their tops.
use Rattle.std.proofs.Common.{◌≡◌, ◌≢◌, ℕ, ◌<◌, ◌≤◌, Bool, true, false, cond, ltb, List, [], ◌∷◌, ◌++◌, Some, None, refl, ap, sym, subst, ◌∙◌, inl, inr, arith}
use Rattle.std.specs.Prelude.{filter, nat_eq, not, option_map}
use Rattle.std.specs.List.{AllByRecursion}
use Rattle.std.proofs.lemmas.Bool.{lt-ltb, le-ltb, cases_Bool, cases_eq, cases_order, eq-eqb, ne_eqb}
use Rattle.std.proofs.lemmas.List.{append-nil}
use Rattle.std.proofs.lemmas.List.Elements.{filter-append}
use Rattle.tree_model.specs.declared.entry.Entry.{Entry}
use Rattle.tree_model.specs.AccessList.{IsRising, entry_of, smaller, greater, is_above, greatest, top_of, numbered, with_next, with_entry, without}
use Rattle.tree_model.proofs.AccessLists.{Among, smaller-none, greater-all}
use Rattle.tree_model.proofs.Filters.{filter-all, filter-none, filter-swap, smaller-smaller, greater-greater, smaller-greater_none}
use Rattle.tree_model.proofs.ListChanges.{All-append, All-filter, All-weaker, numbered-user, rising-with_entry}
use Rattle.tree_model.proofs.Members.{All-among, among-append_left, among-append_right, among-filter, entry_of-nobody}
use Rattle.tree_model.proofs.Priorities.{above-self, above-trans}
use Rattle.tree_model.proofs.Tops.{NoneAbove, higher, top-among, top-filter, top-is, top-none_above}

-- ---- a list around one of its entries

-- a set is its smaller users, an entry and its greater users
pub around-same : (es : List Entry) (t : Entry) → IsRising es → Among t es
    → smaller t.user es ++ (t ∷ greater t.user es) ≡ es
around-same [] t h among = absurd among
around-same (e ∷ es) t h (inl same) =
    let self : ltb e.user e.user ≡ false = le-ltb e.user e.user (omega arith) in
    subst (λ (x : Entry). smaller x.user (e ∷ es) ++ (x ∷ greater x.user (e ∷ es)) ≡ e ∷ es) (sym same) (rw self (rw (smaller-none e.user es h.0, greater-all e.user es h.0) refl))
around-same (e ∷ es) t h (inr later) =
    let less = All-among (λ (x : Entry). e.user < x.user) es t h.0 later in
    rw (lt-ltb e.user t.user less, le-ltb t.user e.user (omega arith)) (ap (λ (xs : List Entry). e ∷ xs) (around-same es t h.1 later))

-- ---- lists in a row

-- what holds of the entries behind a list and of those of the list holds of each
All-behind : (P : Entry → Type 0) (xs ys : List Entry) → AllByRecursion P (xs ++ ys) → AllByRecursion P ys
All-behind P [] ys all = all
All-behind P (x ∷ xs) ys all = All-behind P xs ys all.1

below-behind : (xs ys : List Entry) (t : Entry) → IsRising (xs ++ ys) → Among t ys
    → AllByRecursion (λ (x : Entry). x.user < t.user) xs
below-behind [] ys t h among = tt
below-behind (x ∷ xs) ys t h among =
    (All-among (λ (y : Entry). x.user < y.user) (xs ++ ys) t h.0 (among-append_right xs ys t among), below-behind xs ys t h.1 among)

above-before : (xs ys : List Entry) (s : Entry) → IsRising (xs ++ ys) → Among s xs
    → AllByRecursion (λ (y : Entry). s.user < y.user) ys
above-before [] ys s h among = absurd among
above-before (x ∷ xs) ys s h (inl same) = rw same (All-behind (λ (y : Entry). x.user < y.user) xs ys h.0)
above-before (x ∷ xs) ys s h (inr later) = above-before xs ys s h.1 later

smaller-append : (u : ℕ) (xs ys : List Entry) → smaller u (xs ++ ys) ≡ smaller u xs ++ smaller u ys
smaller-append u xs ys = filter-append (λ (x : Entry). ltb x.user u) xs ys

greater-append : (u : ℕ) (xs ys : List Entry) → greater u (xs ++ ys) ≡ greater u xs ++ greater u ys
greater-append u xs ys = filter-append (λ (x : Entry). ltb u x.user) xs ys

pub smaller-append_right : (xs ys : List Entry) (t : Entry) → IsRising (xs ++ ys) → Among t ys
    → smaller t.user (xs ++ ys) ≡ xs ++ smaller t.user ys
smaller-append_right xs ys t h among =
    let below = All-weaker (λ (x : Entry). x.user < t.user) (λ (x : Entry). ltb x.user t.user ≡ true) (λ x less. lt-ltb x.user t.user less) xs (below-behind xs ys t h among) in
    smaller-append t.user xs ys ∙ ap (λ (es : List Entry). es ++ smaller t.user ys) (filter-all (λ (x : Entry). ltb x.user t.user) xs below)

pub greater-append_right : (xs ys : List Entry) (t : Entry) → IsRising (xs ++ ys) → Among t ys
    → greater t.user (xs ++ ys) ≡ greater t.user ys
greater-append_right xs ys t h among =
    let below = All-weaker (λ (x : Entry). x.user < t.user) (λ (x : Entry). ltb t.user x.user ≡ false) (λ x less. le-ltb t.user x.user (omega arith)) xs (below-behind xs ys t h among) in
    greater-append t.user xs ys ∙ ap (λ (es : List Entry). es ++ greater t.user ys) (filter-none (λ (x : Entry). ltb t.user x.user) xs below)

pub smaller-append_left : (xs ys : List Entry) (s : Entry) → IsRising (xs ++ ys) → Among s xs
    → smaller s.user (xs ++ ys) ≡ smaller s.user xs
smaller-append_left xs ys s h among =
    smaller-append s.user xs ys ∙ ap (λ (es : List Entry). smaller s.user xs ++ es) (smaller-none s.user ys (above-before xs ys s h among)) ∙ append-nil (smaller s.user xs)

pub greater-append_left : (xs ys : List Entry) (s : Entry) → IsRising (xs ++ ys) → Among s xs
    → greater s.user (xs ++ ys) ≡ greater s.user xs ++ ys
greater-append_left xs ys s h among =
    greater-append s.user xs ys ∙ ap (λ (es : List Entry). greater s.user xs ++ es) (greater-all s.user ys (above-before xs ys s h among))

-- ---- with a next number

smaller_case : (u user next : ℕ) (e : Entry) (es : List Entry)
    → smaller u (with_next user next es) ≡ with_next user next (smaller u es)
    → smaller u (with_next user next (e ∷ es)) ≡ with_next user next (smaller u (e ∷ es))
smaller_case u user next e es others =
    let same = numbered-user user next e in
    elim (cases_Bool (ltb e.user u)) [
      | inl less ↦ let less' : ltb (numbered user next e).user u ≡ true = rw same less in rw (less', less) (ap (λ (xs : List Entry). numbered user next e ∷ xs) others)
      | inr not_less ↦ let not_less' : ltb (numbered user next e).user u ≡ false = rw same not_less in rw (not_less', not_less) others
    ]

pub smaller-with_next : (u user next : ℕ) (es : List Entry)
    → smaller u (with_next user next es) ≡ with_next user next (smaller u es)
smaller-with_next u user next [] = refl
smaller-with_next u user next (e ∷ es) = smaller_case u user next e es (smaller-with_next u user next es)

greater_case : (u user next : ℕ) (e : Entry) (es : List Entry)
    → greater u (with_next user next es) ≡ with_next user next (greater u es)
    → greater u (with_next user next (e ∷ es)) ≡ with_next user next (greater u (e ∷ es))
greater_case u user next e es others =
    let same = numbered-user user next e in
    elim (cases_Bool (ltb u e.user)) [
      | inl more ↦ let more' : ltb u (numbered user next e).user ≡ true = rw same more in rw (more', more) (ap (λ (xs : List Entry). numbered user next e ∷ xs) others)
      | inr not_more ↦ let not_more' : ltb u (numbered user next e).user ≡ false = rw same not_more in rw (not_more', not_more) others
    ]

pub greater-with_next : (u user next : ℕ) (es : List Entry)
    → greater u (with_next user next es) ≡ with_next user next (greater u es)
greater-with_next u user next [] = refl
greater-with_next u user next (e ∷ es) = greater_case u user next e es (greater-with_next u user next es)

higher-numbered : (user next : ℕ) (best e : Entry)
    → higher (numbered user next best) (numbered user next e) ≡ numbered user next (higher best e)
higher-numbered user next best e =
    let same = numbered-user user next e in
    let same' = numbered-user user next best in
    let test : is_above (numbered user next e).user (numbered user next best).user ≡ is_above e.user best.user = rw (same, same') refl in
    ap (λ (b : Bool). cond b (numbered user next e) (numbered user next best)) test
    ∙ elim (is_above e.user best.user) as (λ b. cond b (numbered user next e) (numbered user next best) ≡ numbered user next (cond b e best)) [ true ↦ refl | false ↦ refl ]

greatest-numbered : (user next : ℕ) (best : Entry) (es : List Entry)
    → greatest (numbered user next best) (with_next user next es) ≡ numbered user next (greatest best es)
unfolding greatest
greatest-numbered user next best [] = refl
greatest-numbered user next best (e ∷ es) =
    ap (λ (x : Entry). greatest x (with_next user next es)) (higher-numbered user next best e) ∙ greatest-numbered user next (higher best e) es

pub top-with_next : (user next : ℕ) (es : List Entry)
    → top_of (with_next user next es) ≡ option_map (numbered user next) (top_of es)
unfolding top_of
top-with_next user next [] = refl
top-with_next user next (e ∷ es) = ap (λ (x : Entry). Some x) (greatest-numbered user next e es)

pub with_next-absent : (user next : ℕ) (es : List Entry) → entry_of es user ≡ None → with_next user next es ≡ es
with_next-absent user next [] none = refl
with_next-absent user next (e ∷ es) none = elim (cases_eq e.user user) [
  | inl same ↦ let found : Some e ≡ None = rw (eq-eqb e.user user same) at none in absurd cc
  | inr other ↦ let behind : entry_of es user ≡ None = rw (ne_eqb e.user user other) at none in rw (ne_eqb e.user user other) (ap (λ (xs : List Entry). e ∷ xs) (with_next-absent user next es behind))
]

-- ---- with an entry

-- a part that keeps the entry
filter-with_entry : (q : Entry → Bool) (e : Entry) (es : List Entry) → q e ≡ true
    → filter q (with_entry e es) ≡ with_entry e (filter q es)
filter-with_entry q e es kept =
    let alone : filter q (e ∷ []) ≡ e ∷ [] = rw kept refl in
    filter-append q (smaller e.user es ++ e ∷ []) (greater e.user es)
    ∙ ap (λ (xs : List Entry). xs ++ filter q (greater e.user es)) (filter-append q (smaller e.user es) (e ∷ []) ∙ ap (λ (xs : List Entry). filter q (smaller e.user es) ++ xs) alone)
    ∙ ap (λ (xs : List Entry). (xs ++ e ∷ []) ++ filter q (greater e.user es)) (filter-swap q (λ (x : Entry). ltb x.user e.user) es)
    ∙ ap (λ (xs : List Entry). (smaller e.user (filter q es) ++ e ∷ []) ++ xs) (filter-swap q (λ (x : Entry). ltb e.user x.user) es)

pub smaller-with_entry : (u : ℕ) (e : Entry) (es : List Entry) → e.user < u
    → smaller u (with_entry e es) ≡ with_entry e (smaller u es)
smaller-with_entry u e es less = filter-with_entry (λ (x : Entry). ltb x.user u) e es (lt-ltb e.user u less)

pub greater-with_entry : (u : ℕ) (e : Entry) (es : List Entry) → u < e.user
    → greater u (with_entry e es) ≡ with_entry e (greater u es)
greater-with_entry u e es more = filter-with_entry (λ (x : Entry). ltb u x.user) e es (lt-ltb u e.user more)

greater-smaller_none : (u t : ℕ) (es : List Entry) → t ≤ u → greater u (smaller t es) ≡ []
greater-smaller_none u t es high = filter-swap (λ (x : Entry). ltb u x.user) (λ (x : Entry). ltb x.user t) es ∙ smaller-greater_none t u es high

pub smaller-with_entry_same : (u : ℕ) (e : Entry) (es : List Entry) → u ≤ e.user
    → smaller u (with_entry e es) ≡ smaller u es
smaller-with_entry_same u e es low =
    let alone : smaller u (e ∷ []) ≡ [] = rw (le-ltb e.user u low) refl in
    smaller-append u (smaller e.user es ++ e ∷ []) (greater e.user es)
    ∙ ap (λ (xs : List Entry). smaller u (smaller e.user es ++ e ∷ []) ++ xs) (smaller-greater_none u e.user es low)
    ∙ append-nil (smaller u (smaller e.user es ++ e ∷ []))
    ∙ smaller-append u (smaller e.user es) (e ∷ [])
    ∙ ap (λ (xs : List Entry). smaller u (smaller e.user es) ++ xs) alone
    ∙ append-nil (smaller u (smaller e.user es))
    ∙ smaller-smaller u e.user es low

pub greater-with_entry_same : (u : ℕ) (e : Entry) (es : List Entry) → e.user ≤ u
    → greater u (with_entry e es) ≡ greater u es
greater-with_entry_same u e es high =
    let alone : greater u (e ∷ []) ≡ [] = rw (le-ltb u e.user high) refl in
    greater-append u (smaller e.user es ++ e ∷ []) (greater e.user es)
    ∙ ap (λ (xs : List Entry). xs ++ greater u (greater e.user es)) (greater-append u (smaller e.user es) (e ∷ []) ∙ ap (λ (xs : List Entry). xs ++ greater u (e ∷ [])) (greater-smaller_none u e.user es high) ∙ alone)
    ∙ greater-greater u e.user es high

All-with_entry : (P : Entry → Type 0) (e : Entry) (es : List Entry) → P e → AllByRecursion P es
    → AllByRecursion P (with_entry e es)
All-with_entry P e es here all =
    All-append P (smaller e.user es ++ e ∷ []) (greater e.user es) (All-append P (smaller e.user es) (e ∷ []) (All-filter P (λ (x : Entry). ltb x.user e.user) es all) (here, tt)) (All-filter P (λ (x : Entry). ltb e.user x.user) es all)

pub among-with_entry : (e : Entry) (es : List Entry) → Among e (with_entry e es)
among-with_entry e es = among-append_left (smaller e.user es ++ e ∷ []) (greater e.user es) e (among-append_right (smaller e.user es) (e ∷ []) e (inl refl))

pub among-with_entry_other : (e : Entry) (es : List Entry) (x : Entry) → Among x es → x.user ≢ e.user
    → Among x (with_entry e es)
among-with_entry_other e es x among apart = elim (cases_order x.user e.user) [
  | inl same ↦ absurd (apart same)
  | inr (inl less) ↦ among-append_left (smaller e.user es ++ e ∷ []) (greater e.user es) x (among-append_left (smaller e.user es) (e ∷ []) x (among-filter (λ (y : Entry). ltb y.user e.user) es x among (lt-ltb x.user e.user less)))
  | inr (inr more) ↦ among-append_right (smaller e.user es ++ e ∷ []) (greater e.user es) x (among-filter (λ (y : Entry). ltb e.user y.user) es x among (lt-ltb e.user x.user more))
]

-- a user above one above whom nobody is
none-above_still : (a b : ℕ) (es : List Entry) → is_above a b ≡ true → NoneAbove b es → NoneAbove a es
none-above_still a b es ab none =
    All-weaker (λ (x : Entry). is_above x.user b ≡ false) (λ (x : Entry). is_above x.user a ≡ false)
    (λ x no_xb. elim (cases_Bool (is_above x.user a)) [ inl xa ↦ let xb = above-trans x.user a b xa ab in absurd cc | inr no_xa ↦ no_xa ]) es none

-- The top of a set with a further entry is the greater of that entry and the set's top.
pub top-with_entry : (e : Entry) (es : List Entry) (t : Entry) → IsRising es → entry_of es e.user ≡ None
    → top_of es ≡ Some t → top_of (with_entry e es) ≡ Some (cond (is_above e.user t.user) e t)
top-with_entry e es t h absent top =
    let among = top-among es t top in
    let none = top-none_above es t top in
    let whole = rising-with_entry e es h in
    elim (cases_Bool (is_above e.user t.user)) [
      | inl above ↦ rw above (top-is (with_entry e es) e whole (among-with_entry e es) (All-with_entry (λ (x : Entry). is_above x.user e.user ≡ false) e es (above-self e.user) (none-above_still e.user t.user es above none)))
      | inr not_above ↦ rw not_above (top-is (with_entry e es) t whole (among-with_entry_other e es t among (entry_of-nobody es e.user t h absent among)) (All-with_entry (λ (x : Entry). is_above x.user t.user ≡ false) e es not_above none))
    ]

-- ---- without a user

pub smaller-without : (u user : ℕ) (es : List Entry) → smaller u (without user es) ≡ without user (smaller u es)
smaller-without u user es = filter-swap (λ (x : Entry). ltb x.user u) (λ (x : Entry). not (nat_eq x.user user)) es

pub greater-without : (u user : ℕ) (es : List Entry) → greater u (without user es) ≡ without user (greater u es)
greater-without u user es = filter-swap (λ (x : Entry). ltb u x.user) (λ (x : Entry). not (nat_eq x.user user)) es

pub top-without : (user : ℕ) (es : List Entry) (t : Entry) → IsRising es → top_of es ≡ Some t → t.user ≢ user
    → top_of (without user es) ≡ Some t
top-without user es t h top apart = top-filter (λ (x : Entry). not (nat_eq x.user user)) es t h top (rw (ne_eqb t.user user apart) refl)

without-above : (user : ℕ) (es : List Entry) → AllByRecursion (λ (x : Entry). user < x.user) es → without user es ≡ es
without-above user es all =
    filter-all (λ (x : Entry). not (nat_eq x.user user)) es
    (All-weaker (λ (x : Entry). user < x.user) (λ (x : Entry). not (nat_eq x.user user) ≡ true) (λ x more. rw (ne_eqb x.user user (λ is. omega arith)) refl) es all)

-- what is left around the entry that goes
pub without-around : (es : List Entry) (t : Entry) → IsRising es → Among t es
    → without t.user es ≡ smaller t.user es ++ greater t.user es
without-around [] t h among = absurd among
without-around (e ∷ es) t h (inl same) =
    let self : ltb e.user e.user ≡ false = le-ltb e.user e.user (omega arith) in
    let is : nat_eq e.user e.user ≡ true = eq-eqb e.user e.user refl in
    subst (λ (x : Entry). without x.user (e ∷ es) ≡ smaller x.user (e ∷ es) ++ greater x.user (e ∷ es)) (sym same)
    (rw (is, self) (rw (smaller-none e.user es h.0, greater-all e.user es h.0) (without-above e.user es h.0)))
without-around (e ∷ es) t h (inr later) =
    let less = All-among (λ (x : Entry). e.user < x.user) es t h.0 later in
    rw (ne_eqb e.user t.user (λ is. omega arith), lt-ltb e.user t.user less, le-ltb t.user e.user (omega arith)) (ap (λ (xs : List Entry). e ∷ xs) (without-around es t h.1 later))
