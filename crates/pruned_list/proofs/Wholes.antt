-- A change of a whole list meets nothing hidden and leaves a whole list.
use Rattle.std.proofs.Common.{ℕ, Bool, true, false, cond, Option, Some, None}
use Rattle.std.specs.Prelude.{IsSomeAnd, nat_eq, nat_lt, option_map, option_and_then}
use Rattle.tree_model.specs.declared.entry.Entry.{Entry}
use Rattle.tree_model.specs.AccessList.{ListChange, stays, adds, drops, is_above}
use Rattle.pruned_list.specs.PrunedList.{PrunedList, absent, hidden, node, IsWhole, carry, changed, greater_over, insert, join, over, remove, set_next, smaller_over, split, under}

and-map : {A B : Type 0} (P : A → Type 0) (Q : B → Type 0) (f : A → B) (o : Option A) → ((x : A) → P x → Q (f x))
    → IsSomeAnd o P → IsSomeAnd (option_map f o) Q
and-map P Q f None each h = h
and-map P Q f (Some x) each h = each x h

and-then : {A B : Type 0} (P : A → Type 0) (Q : B → Type 0) (f : A → Option B) (o : Option A)
    → ((x : A) → P x → IsSomeAnd (f x) Q) → IsSomeAnd o P → IsSomeAnd (option_and_then f o) Q
and-then P Q f None each h = h
and-then P Q f (Some x) each h = each x h

either : (b : Bool) (o o' : Option PrunedList) → IsSomeAnd o IsWhole → IsSomeAnd o' IsWhole
    → IsSomeAnd (cond b o o') IsWhole
either true o o' h h' = h
either false o o' h h' = h'

pub set_next-whole : (user next : ℕ) (p : PrunedList) → IsWhole p → IsSomeAnd (set_next user next p) IsWhole
unfolding IsWhole set_next
set_next-whole user next absent h = tt
set_next-whole user next (hidden x) h = absurd h
set_next-whole user next (node e l r) h =
    either (nat_eq user e.user) (Some (node (record e { next = next }) l r)) _ h
    (either (nat_lt user e.user) _ _
    (and-map IsWhole IsWhole (λ c. node e c r) (set_next user next l) (λ c c-whole. (c-whole, h.1))
    (set_next-whole user next l h.0))
    (and-map IsWhole IsWhole (λ c. node e l c) (set_next user next r) (λ c c-whole. (h.0, c-whole))
    (set_next-whole user next r h.1)))

abbrev pub AreWhole : PrunedList × PrunedList → Type 0
AreWhole parts = IsWhole parts.0 × IsWhole parts.1

pub split-whole : (p : PrunedList) (u : ℕ) → IsWhole p → IsSomeAnd (split p u) AreWhole
unfolding IsWhole split
split-whole absent u h = (tt, tt)
split-whole (hidden x) u h = absurd h
split-whole (node e l r) u h =
    let left = and-map AreWhole AreWhole (smaller_over e l) (split r u) (λ parts whole. ((h.0, whole.0), whole.1))
    (split-whole r u h.1) in
    let right = and-map AreWhole AreWhole (greater_over e r) (split l u) (λ parts whole. (whole.0, (whole.1, h.1)))
    (split-whole l u h.0) in
    elim (nat_lt e.user u) as (λ b. IsSomeAnd (cond b (option_map (smaller_over e l) (split r u))
    (option_map (greater_over e r) (split l u))) AreWhole) [ true ↦ left | false ↦ right ]

pub insert-whole : (e : Entry) (p : PrunedList) → IsWhole p → IsSomeAnd (insert e p) IsWhole
unfolding IsWhole insert
insert-whole e absent h = (tt, tt)
insert-whole e (hidden x) h = absurd h
insert-whole e (node f l r) h =
    either (is_above f.user e.user) _ _
    (either (nat_lt e.user f.user) _ _
    (and-map IsWhole IsWhole (λ c. node f c r) (insert e l) (λ c c-whole. (c-whole, h.1)) (insert-whole e l h.0))
    (and-map IsWhole IsWhole (λ c. node f l c) (insert e r) (λ c c-whole. (h.0, c-whole)) (insert-whole e r h.1)))
    (and-map AreWhole IsWhole (over e) (split (node f l r) e.user) (λ parts whole. whole)
    (split-whole (node f l r) e.user h))

under-whole : (e : Entry) (l r : PrunedList) (onto : PrunedList → Option PrunedList) → IsWhole l → IsWhole r
    → ((b : PrunedList) → IsWhole b → IsSomeAnd (onto b) IsWhole) → (b : PrunedList) → IsWhole b
    → IsSomeAnd (under e l r onto b) IsWhole
unfolding IsWhole under
under-whole e l r onto hl hr each absent h = (hl, hr)
under-whole e l r onto hl hr each (hidden y) h = absurd h
under-whole e l r onto hl hr each (node f m q) h =
    either (is_above f.user e.user) _ _
    (and-map IsWhole IsWhole (λ c. node f c q) (under e l r onto m) (λ c c-whole. (c-whole, h.1))
    (under-whole e l r onto hl hr each m h.0))
    (and-map IsWhole IsWhole (λ c. node e l c) (onto (node f m q)) (λ c c-whole. (hl, c-whole)) (each (node f m q) h))

pub join-whole : (a b : PrunedList) → IsWhole a → IsWhole b → IsSomeAnd (join a b) IsWhole
unfolding IsWhole join
join-whole absent b h h' = h'
join-whole (hidden x) b h h' = absurd h
join-whole (node e l r) b h h' = under-whole e l r (join r) h.0 h.1 (λ c c-whole. join-whole r c h.1 c-whole) b h'

pub remove-whole : (user : ℕ) (p : PrunedList) → IsWhole p → IsSomeAnd (remove user p) IsWhole
unfolding IsWhole remove
remove-whole user absent h = tt
remove-whole user (hidden x) h = absurd h
remove-whole user (node e l r) h =
    either (nat_eq user e.user) (join l r) _ (join-whole l r h.0 h.1)
    (either (nat_lt user e.user) _ _
    (and-map IsWhole IsWhole (λ c. node e c r) (remove user l) (λ c c-whole. (c-whole, h.1)) (remove-whole user l h.0))
    (and-map IsWhole IsWhole (λ c. node e l c) (remove user r) (λ c c-whole. (h.0, c-whole))
    (remove-whole user r h.1)))

carry-whole : (change : ListChange) (p : PrunedList) → IsWhole p → IsSomeAnd (carry change p) IsWhole
carry-whole stays p h = h
carry-whole (adds e) p h = insert-whole e p h
carry-whole (drops user) p h = remove-whole user p h

pub changed-whole : (p : PrunedList) (author next : ℕ) (change : ListChange) → IsWhole p
    → IsSomeAnd (changed p author next change) IsWhole
changed-whole p author next change h =
    and-then IsWhole IsWhole (carry change) (set_next author next p) (λ c c-whole. carry-whole change c c-whole)
    (set_next-whole author next p h)
