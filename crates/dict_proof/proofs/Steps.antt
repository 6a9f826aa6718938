-- Look-ups and changes of a pruned list, step by step.
use Rattle.std.proofs.Common.{◌≡◌, ℕ, ◌<◌, ◌≤◌, true, false, None, Some, refl, arith}
use Rattle.std.specs.Option.{option_map}
use Rattle.std.proofs.lemmas.Bool.{lt-ltb, le-ltb, eq-eqb, ne_eqb}
use Rattle.tree_model.specs.declared.entry.Entry.{Entry}
use Rattle.tree_model.specs.AccessList.{is_above}
use Rattle.pruned_list.specs.PrunedList.{PrunedList, absent, hidden, node, found, seek, set_next, split, insert, over, join, under, remove, smaller_over, greater_over, levels}
use Rattle.dict_proof.proofs.Views.{list_views}

below-ne : (u v : ℕ) → u < v → u ≡ v → ⊥
below-ne u v less same = omega arith

above-ne : (u v : ℕ) → v < u → u ≡ v → ⊥
above-ne u v more same = omega arith

-- ---- look-ups

pub seek-here : (e : Entry) (l r : PrunedList) (u : ℕ) → u ≡ e.user → seek (node e l r) u ≡ found (Some e)
unfolding seek
seek-here e l r u same = rw (eq-eqb u e.user same) refl

pub seek-left : (e : Entry) (l r : PrunedList) (u : ℕ) → u < e.user → seek (node e l r) u ≡ seek l u
unfolding seek
seek-left e l r u less = rw (ne_eqb u e.user (below-ne u e.user less), lt-ltb u e.user less) refl

pub seek-right : (e : Entry) (l r : PrunedList) (u : ℕ) → e.user < u → seek (node e l r) u ≡ seek r u
unfolding seek
seek-right e l r u more = rw (ne_eqb u e.user (above-ne u e.user more), le-ltb u e.user (omega arith)) refl

-- ---- the author's next number

pub set_next-here : (user next : ℕ) (e : Entry) (l r : PrunedList) → user ≡ e.user
    → set_next user next (node e l r) ≡ Some (node (record e { next = next }) l r)
unfolding set_next
set_next-here user next e l r same = rw (eq-eqb user e.user same) refl

pub set_next-left : (user next : ℕ) (e : Entry) (l r : PrunedList) → user < e.user
    → set_next user next (node e l r) ≡ option_map (λ (c : PrunedList). node e c r) (set_next user next l)
unfolding set_next
set_next-left user next e l r less = rw (ne_eqb user e.user (below-ne user e.user less), lt-ltb user e.user less) refl

pub set_next-right : (user next : ℕ) (e : Entry) (l r : PrunedList) → e.user < user
    → set_next user next (node e l r) ≡ option_map (λ (c : PrunedList). node e l c) (set_next user next r)
unfolding set_next
set_next-right user next e l r more =
    rw (ne_eqb user e.user (above-ne user e.user more), le-ltb user e.user (omega arith)) refl

pub set_next-none : (user next : ℕ) → set_next user next absent ≡ Some absent
unfolding set_next
set_next-none user next = refl

pub set_next-hid : (user next : ℕ) (x : _) → set_next user next (hidden x) ≡ None
unfolding set_next
set_next-hid user next x = refl

-- ---- parts

pub split-smaller : (e : Entry) (l r : PrunedList) (u : ℕ) → e.user < u
    → split (node e l r) u ≡ option_map (smaller_over e l) (split r u)
unfolding split
split-smaller e l r u less = rw (lt-ltb e.user u less) refl

pub split-greater : (e : Entry) (l r : PrunedList) (u : ℕ) → u ≤ e.user
    → split (node e l r) u ≡ option_map (greater_over e r) (split l u)
unfolding split
split-greater e l r u le = rw (le-ltb e.user u le) refl

pub split-none : (u : ℕ) → split absent u ≡ Some (absent, absent)
unfolding split
split-none u = refl

pub split-hid : (x : _) (u : ℕ) → split (hidden x) u ≡ None
unfolding split
split-hid x u = refl

-- ---- an entry comes in

pub insert-stays : (e f : Entry) (l r : PrunedList) → is_above f.user e.user ≡ false
    → insert e (node f l r) ≡ option_map (over e) (split (node f l r) e.user)
unfolding insert
insert-stays e f l r below = rw below refl

pub insert-left : (e f : Entry) (l r : PrunedList) → is_above f.user e.user ≡ true → e.user < f.user
    → insert e (node f l r) ≡ option_map (λ (c : PrunedList). node f c r) (insert e l)
unfolding insert
insert-left e f l r above less = rw (above, lt-ltb e.user f.user less) refl

pub insert-right : (e f : Entry) (l r : PrunedList) → is_above f.user e.user ≡ true → f.user ≤ e.user
    → insert e (node f l r) ≡ option_map (λ (c : PrunedList). node f l c) (insert e r)
unfolding insert
insert-right e f l r above le = rw (above, le-ltb e.user f.user le) refl

pub insert-none : (e : Entry) → insert e absent ≡ Some (node e absent absent)
unfolding insert
insert-none e = refl

pub insert-hid : (e : Entry) (x : _) → insert e (hidden x) ≡ None
unfolding insert
insert-hid e x = refl

-- ---- two parts as one

pub join-none : (b : PrunedList) → join absent b ≡ Some b
unfolding join under
join-none b = refl

pub join-none_right : (a : PrunedList) → join a absent ≡ Some a
unfolding join under
join-none_right absent = refl
join-none_right (hidden x) = refl
join-none_right (node e l r) = refl

pub join-hid : (x : _) (y : _) → join (hidden x) (hidden y) ≡ None
unfolding join under
join-hid x y = refl

pub join-hid_left : (x : _) (f : Entry) (m q : PrunedList) → join (hidden x) (node f m q) ≡ None
unfolding join under
join-hid_left x f m q = refl

pub join-hid_right : (e : Entry) (l r : PrunedList) (y : _) → join (node e l r) (hidden y) ≡ None
unfolding join under
join-hid_right e l r y = refl

pub join-greater : (e : Entry) (l r : PrunedList) (f : Entry) (m q : PrunedList) → is_above f.user e.user ≡ true
    → join (node e l r) (node f m q) ≡ option_map (λ (c : PrunedList). node f c q) (join (node e l r) m)
unfolding join under
join-greater e l r f m q above = rw above refl

pub join-smaller : (e : Entry) (l r : PrunedList) (f : Entry) (m q : PrunedList) → is_above f.user e.user ≡ false
    → join (node e l r) (node f m q) ≡ option_map (λ (c : PrunedList). node e l c) (join r (node f m q))
unfolding join under
join-smaller e l r f m q below = rw below refl

-- ---- a user goes

pub remove-here : (user : ℕ) (e : Entry) (l r : PrunedList) → user ≡ e.user → remove user (node e l r) ≡ join l r
unfolding remove
remove-here user e l r same = rw (eq-eqb user e.user same) refl

pub remove-left : (user : ℕ) (e : Entry) (l r : PrunedList) → user < e.user
    → remove user (node e l r) ≡ option_map (λ (c : PrunedList). node e c r) (remove user l)
unfolding remove
remove-left user e l r less = rw (ne_eqb user e.user (below-ne user e.user less), lt-ltb user e.user less) refl

pub remove-right : (user : ℕ) (e : Entry) (l r : PrunedList) → e.user < user
    → remove user (node e l r) ≡ option_map (λ (c : PrunedList). node e l c) (remove user r)
unfolding remove
remove-right user e l r more =
    rw (ne_eqb user e.user (above-ne user e.user more), le-ltb user e.user (omega arith)) refl

pub remove-none : (user : ℕ) → remove user absent ≡ Some absent
unfolding remove
remove-none user = refl

pub remove-hid : (user : ℕ) (x : _) → remove user (hidden x) ≡ None
unfolding remove
remove-hid user x = refl

-- ---- levels

pub levels-left : (e : Entry) (l r : PrunedList) → levels l < levels (node e l r)
unfolding levels
levels-left e l r = omega arith

pub levels-right : (e : Entry) (l r : PrunedList) → levels r < levels (node e l r)
unfolding levels
levels-right e l r = omega arith

pub ruleset level_steps = (levels-left, levels-right)

pub ruleset seek_steps = (list_views, seek-here, seek-left, seek-right)

pub ruleset set_next_steps = (list_views, set_next-here, set_next-left, set_next-right, set_next-none, set_next-hid)

pub ruleset split_steps = (list_views, split-smaller, split-greater, split-none, split-hid)

pub ruleset insert_steps = (list_views, insert-stays, insert-left, insert-right, insert-none, insert-hid)

pub ruleset join_steps = (list_views, join-none, join-none_right, join-hid, join-hid_left, join-hid_right, join-greater, join-smaller, levels-left, levels-right)

pub ruleset remove_steps = (list_views, remove-here, remove-left, remove-right, remove-none, remove-hid)
