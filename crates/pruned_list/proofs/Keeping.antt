-- What is kept of a list prunes what the list prunes, and a change that enters kept nodes alone meets nothing hidden.
use Rattle.std.proofs.Common.{◌≡◌, ℕ, Bool, true, false, cond, List, [], ◌∷◌, ◌++◌, Option, Some, None, IsSome, refl, ap, sym, ◌∙◌, inl, inr, arith}
use Rattle.std.specs.Prelude.{option_map}
use Rattle.std.proofs.lemmas.Bool.{le-ltb, lt-ltb, cases_Bool, cases_order, eq-eqb, ne_eqb}
use Rattle.fr_digest.specs.Digest.{Digest}
use Rattle.tree_model.specs.declared.entry.Entry.{Entry}
use Rattle.tree_model.specs.AccessList.{smaller, greater, is_above, node_text}
use Rattle.pruned_list.specs.PrunedList.{PrunedList, absent, hidden, node, PrunesList, found, greater_over, insert, join, over, part_digest, remove, seek, set_next, smaller_over, split, under}
use Rattle.pruned_list.specs.Kept.{Keeps, join_users, kept, path, removal, under_users}
use Rattle.pruned_list.proofs.Options.{is_some-map, is_some-mapped}
use Rattle.pruned_list.proofs.Prunings.{digest-set}

-- ---- prunings

pub kept-prunes : (d : Digest) (keep : ℕ → Bool) (p : PrunedList) (E : List Entry) → PrunesList d p E
    → PrunesList d (kept d keep p) E
unfolding PrunesList kept part_digest
kept-prunes d keep absent E h = h
kept-prunes d keep (hidden x) E h = h
kept-prunes d keep (node e l r) E h =
    elim (keep e.user) as (λ b. PrunesList d (cond b (node e (kept d keep l) (kept d keep r))
    (hidden (d (node_text e (part_digest d l) (part_digest d r))))) E) [
      | true ↦ (h.0, kept-prunes d keep l (smaller e.user E) h.1, kept-prunes d keep r (greater e.user E) h.2)
      | false ↦ sym (digest-set d (node e l r) E h)
    ]

-- ---- users

pub keeps-parts : (keep : ℕ → Bool) (xs ys : List ℕ) → Keeps keep (xs ++ ys) → Keeps keep xs × Keeps keep ys
keeps-parts keep [] ys h = (tt, h)
keeps-parts keep (x ∷ xs) ys h = let others = keeps-parts keep xs ys h.1 in ((h.0, others.0), others.1)

-- a removal enters the search path
pub keeps-path : (keep : ℕ → Bool) (u : ℕ) (p : PrunedList) → Keeps keep (removal u p) → Keeps keep (path u p)
unfolding path removal
keeps-path keep u absent h = tt
keeps-path keep u (hidden x) h = tt
keeps-path keep u (node e l r) h = elim (cases_order u e.user) [
  | inl same ↦ rw (eq-eqb u e.user same) (h.0, tt)
  | inr (inl less) ↦
      let behind = rw (ne_eqb u e.user (λ is. omega arith), lt-ltb u e.user less) at h in
      rw (ne_eqb u e.user (λ is. omega arith), lt-ltb u e.user less) (h.0, keeps-path keep u l behind.1)
  | inr (inr more) ↦
      let behind = rw (ne_eqb u e.user (λ is. omega arith), le-ltb u e.user (omega arith)) at h in
      rw (ne_eqb u e.user (λ is. omega arith), le-ltb u e.user (omega arith)) (h.0, keeps-path keep u r behind.1)
]

-- ---- look-ups and next numbers

pub seek-kept : (d : Digest) (keep : ℕ → Bool) (p : PrunedList) (u : ℕ) → Keeps keep (path u p)
    → seek (kept d keep p) u ≡ seek p u
unfolding kept path seek
seek-kept d keep absent u h = refl
seek-kept d keep (hidden x) u h = refl
seek-kept d keep (node e l r) u h = elim (cases_order u e.user) [
  | inl same ↦ rw h.0 (rw (eq-eqb u e.user same) refl)
  | inr (inl less) ↦
      let behind = rw (ne_eqb u e.user (λ is. omega arith), lt-ltb u e.user less) at h in
      rw h.0 (rw (ne_eqb u e.user (λ is. omega arith), lt-ltb u e.user less) (seek-kept d keep l u behind.1))
  | inr (inr more) ↦
      let behind = rw (ne_eqb u e.user (λ is. omega arith), le-ltb u e.user (omega arith)) at h in
      rw h.0 (rw (ne_eqb u e.user (λ is. omega arith), le-ltb u e.user (omega arith)) (seek-kept d keep r u behind.1))
]

kept-left : (d : Digest) (keep : ℕ → Bool) (e : Entry) (r : PrunedList) (o : Option PrunedList) → keep e.user ≡ true
    → option_map (λ c. node e c (kept d keep r)) (option_map (kept d keep) o) ≡ option_map (kept d keep)
    (option_map (λ c. node e c r) o)
unfolding kept
kept-left d keep e r None h = refl
kept-left d keep e r (Some c) h = rw h refl

kept-right : (d : Digest) (keep : ℕ → Bool) (e : Entry) (l : PrunedList) (o : Option PrunedList) → keep e.user ≡ true
    → option_map (λ c. node e (kept d keep l) c) (option_map (kept d keep) o) ≡ option_map (kept d keep)
    (option_map (λ c. node e l c) o)
unfolding kept
kept-right d keep e l None h = refl
kept-right d keep e l (Some c) h = rw h refl

pub set_next-kept : (d : Digest) (keep : ℕ → Bool) (user next : ℕ) (p : PrunedList) → Keeps keep (path user p)
    → set_next user next (kept d keep p) ≡ option_map (kept d keep) (set_next user next p)
unfolding kept path set_next
set_next-kept d keep user next absent h = refl
set_next-kept d keep user next (hidden x) h = refl
set_next-kept d keep user next (node e l r) h = elim (cases_order user e.user) [
  | inl same ↦ rw h.0 (rw (eq-eqb user e.user same) (rw h.0 refl))
  | inr (inl less) ↦
      let behind = rw (ne_eqb user e.user (λ is. omega arith), lt-ltb user e.user less) at h in
      rw h.0 (rw (ne_eqb user e.user (λ is. omega arith), lt-ltb user e.user less)
      (ap (λ (o : Option PrunedList). option_map (λ c. node e c (kept d keep r)) o)
      (set_next-kept d keep user next l behind.1) ∙ kept-left d keep e r (set_next user next l) h.0))
  | inr (inr more) ↦
      let behind = rw (ne_eqb user e.user (λ is. omega arith), le-ltb user e.user (omega arith)) at h in
      rw h.0 (rw (ne_eqb user e.user (λ is. omega arith), le-ltb user e.user (omega arith))
      (ap (λ (o : Option PrunedList). option_map (λ c. node e (kept d keep l) c) o)
      (set_next-kept d keep user next r behind.1) ∙ kept-right d keep e l (set_next user next r) h.0))
]

-- ---- insertions

pub split-kept : (d : Digest) (keep : ℕ → Bool) (p : PrunedList) (u : ℕ) → seek p u ≡ found None
    → Keeps keep (path u p) → IsSome (split p u) → IsSome (split (kept d keep p) u)
unfolding kept path seek split
split-kept d keep absent u none h some = refl
split-kept d keep (hidden x) u none h some = absurd cc
split-kept d keep (node e l r) u none h some = elim (cases_order u e.user) [
  | inl same ↦ let here : found (Some e) ≡ found None = rw (eq-eqb u e.user same) at none in absurd cc
  | inr (inl less) ↦
      let none' = rw (ne_eqb u e.user (λ is. omega arith), lt-ltb u e.user less) at none in
      let behind = rw (ne_eqb u e.user (λ is. omega arith), lt-ltb u e.user less) at h in
      let some' = rw (le-ltb e.user u (omega arith)) at some in
      rw h.0 (rw (le-ltb e.user u (omega arith)) (is_some-map (greater_over e (kept d keep r))
      (split (kept d keep l) u) (split-kept d keep l u none' behind.1
      (is_some-mapped (greater_over e r) (split l u) some'))))
  | inr (inr more) ↦
      let none' = rw (ne_eqb u e.user (λ is. omega arith), le-ltb u e.user (omega arith)) at none in
      let behind = rw (ne_eqb u e.user (λ is. omega arith), le-ltb u e.user (omega arith)) at h in
      let some' = rw (lt-ltb e.user u more) at some in
      rw h.0 (rw (lt-ltb e.user u more) (is_some-map (smaller_over e (kept d keep l)) (split (kept d keep r) u)
      (split-kept d keep r u none' behind.1 (is_some-mapped (smaller_over e l) (split r u) some'))))
]

-- the entry comes in above the node
insert-on_top : (d : Digest) (keep : ℕ → Bool) (e f : Entry) (l r : PrunedList) → is_above f.user e.user ≡ false
    → seek (node f l r) e.user ≡ found None → Keeps keep (path e.user (node f l r)) → IsSome (insert e (node f l r))
    → keep f.user ≡ true → IsSome (insert e (node f (kept d keep l) (kept d keep r)))
unfolding insert kept
insert-on_top d keep e f l r above none h some here =
    let some' = rw above at some in
    let parts = is_some-mapped (over e) (split (node f l r) e.user) some' in
    let parts' = rw here at (split-kept d keep (node f l r) e.user none h parts) in
    rw above (is_some-map (over e) (split (node f (kept d keep l) (kept d keep r)) e.user) parts')

pub insert-kept : (d : Digest) (keep : ℕ → Bool) (e : Entry) (p : PrunedList) → seek p e.user ≡ found None
    → Keeps keep (path e.user p) → IsSome (insert e p) → IsSome (insert e (kept d keep p))
unfolding kept path seek insert
insert-kept d keep e absent none h some = refl
insert-kept d keep e (hidden x) none h some = absurd cc
insert-kept d keep e (node f l r) none h some = elim (cases_Bool (is_above f.user e.user)) [
  | inr above ↦ rw h.0 (insert-on_top d keep e f l r above none h some h.0)
  | inl above ↦ elim (cases_order e.user f.user) [
    | inl same ↦ let here : found (Some f) ≡ found None = rw (eq-eqb e.user f.user same) at none in absurd cc
    | inr (inl less) ↦
        let none' = rw (ne_eqb e.user f.user (λ is. omega arith), lt-ltb e.user f.user less) at none in
        let behind = rw (ne_eqb e.user f.user (λ is. omega arith), lt-ltb e.user f.user less) at h in
        let some' = rw (above, lt-ltb e.user f.user less) at some in
        rw h.0 (rw (above, lt-ltb e.user f.user less) (is_some-map (λ c. node f c (kept d keep r))
        (insert e (kept d keep l)) (insert-kept d keep e l none' behind.1
        (is_some-mapped (λ c. node f c r) (insert e l) some'))))
    | inr (inr more) ↦
        let none' = rw (ne_eqb e.user f.user (λ is. omega arith), le-ltb e.user f.user (omega arith)) at none in
        let behind = rw (ne_eqb e.user f.user (λ is. omega arith), le-ltb e.user f.user (omega arith)) at h in
        let some' = rw (above, le-ltb e.user f.user (omega arith)) at some in
        rw h.0 (rw (above, le-ltb e.user f.user (omega arith))
        (is_some-map (λ c. node f (kept d keep l) c) (insert e (kept d keep r))
        (insert-kept d keep e r none' behind.1 (is_some-mapped (λ c. node f l c) (insert e r) some'))))
  ]
]

-- ---- removals

-- `onto'` joins with what is kept of a part where `onto` joins with the part and enters these users' nodes
abbrev KeepsOnto : Digest → (ℕ → Bool) → (PrunedList → Option PrunedList) → (PrunedList → List ℕ)
    → (PrunedList → Option PrunedList) → Type 0
KeepsOnto d keep onto users onto' =
    (b : PrunedList) → Keeps keep (users b) → IsSome (onto b) → IsSome (onto' (kept d keep b))

under-kept : (d : Digest) (keep : ℕ → Bool) (e : Entry) (l r l' r' : PrunedList)
    (onto : PrunedList → Option PrunedList)
    (users : PrunedList → List ℕ) (onto' : PrunedList → Option PrunedList) → KeepsOnto d keep onto users onto'
    → KeepsOnto d keep (under e l r onto) (under_users e.user users) (under e l' r' onto')
unfolding kept under under_users
under-kept d keep e l r l' r' onto users onto' each absent h some = refl
under-kept d keep e l r l' r' onto users onto' each (hidden y) h some = absurd cc
under-kept d keep e l r l' r' onto users onto' each (node f m q) h some = elim (cases_Bool (is_above f.user e.user)) [
  | inl above ↦
      let behind = rw above at h.1.1 in
      let some' = rw above at some in
      rw h.1.0 (rw above (is_some-map (λ c. node f c (kept d keep q)) (under e l' r' onto' (kept d keep m))
      (under-kept d keep e l r l' r' onto users onto' each m behind
      (is_some-mapped (λ c. node f c q) (under e l r onto m) some'))))
  | inr above ↦
      let behind = rw above at h.1.1 in
      let some' = rw above at some in
      let made = rw h.1.0 at (each (node f m q) behind (is_some-mapped (λ c. node e l c) (onto (node f m q)) some')) in
      rw h.1.0 (rw above (is_some-map (λ c. node e l' c) (onto' (node f (kept d keep m) (kept d keep q))) made))
]

-- nothing is entered where nothing is on the right
join-nothing : (p : PrunedList) → IsSome (join p absent)
unfolding join under
join-nothing absent = refl
join-nothing (hidden x) = refl
join-nothing (node e l r) = refl

pub join-kept : (d : Digest) (keep : ℕ → Bool) (a : PrunedList)
    → KeepsOnto d keep (join a) (join_users a) (join (kept d keep a))
unfolding join join_users kept under under_users
join-kept d keep absent b h some = refl
join-kept d keep (hidden x) absent h some = refl
join-kept d keep (hidden x) (hidden y) h some = absurd cc
join-kept d keep (hidden x) (node f m q) h some = absurd cc
join-kept d keep (node e l r) absent h some = join-nothing (kept d keep (node e l r))
join-kept d keep (node e l r) (hidden y) h some = absurd cc
join-kept d keep (node e l r) (node f m q) h some =
    rw h.0 (under-kept d keep e l r (kept d keep l) (kept d keep r) (join r) (join_users r) (join (kept d keep r))
    (join-kept d keep r) (node f m q) h some)

pub remove-kept : (d : Digest) (keep : ℕ → Bool) (u : ℕ) (p : PrunedList) → Keeps keep (removal u p)
    → IsSome (remove u p) → IsSome (remove u (kept d keep p))
unfolding kept remove removal
remove-kept d keep u absent h some = refl
remove-kept d keep u (hidden x) h some = absurd cc
remove-kept d keep u (node e l r) h some = elim (cases_order u e.user) [
  | inl same ↦
      let behind = rw (eq-eqb u e.user same) at h in
      let some' = rw (eq-eqb u e.user same) at some in
      rw h.0 (rw (eq-eqb u e.user same) (join-kept d keep l r behind.1 some'))
  | inr (inl less) ↦
      let behind = rw (ne_eqb u e.user (λ is. omega arith), lt-ltb u e.user less) at h in
      let some' = rw (ne_eqb u e.user (λ is. omega arith), lt-ltb u e.user less) at some in
      rw h.0 (rw (ne_eqb u e.user (λ is. omega arith), lt-ltb u e.user less)
      (is_some-map (λ c. node e c (kept d keep r)) (remove u (kept d keep l))
      (remove-kept d keep u l behind.1 (is_some-mapped (λ c. node e c r) (remove u l) some'))))
  | inr (inr more) ↦
      let behind = rw (ne_eqb u e.user (λ is. omega arith), le-ltb u e.user (omega arith)) at h in
      let some' = rw (ne_eqb u e.user (λ is. omega arith), le-ltb u e.user (omega arith)) at some in
      rw h.0 (rw (ne_eqb u e.user (λ is. omega arith), le-ltb u e.user (omega arith))
      (is_some-map (λ c. node e (kept d keep l) c) (remove u (kept d keep r))
      (remove-kept d keep u r behind.1 (is_some-mapped (λ c. node e l c) (remove u r) some'))))
]
