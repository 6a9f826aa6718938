-- A change that keeps its author leaves an entry.
use Rattle.std.proofs.Common.{◌≡◌, ◌≢◌, ℕ, Option, None, Some, refl, sym, ap, ◌∙◌, inl, inr}
use Rattle.std.specs.Option.{option_map, option_and_then}
use Rattle.std.proofs.lemmas.Bool.{cases_Bool, cases_lt, cases_order}
use Rattle.tree_model.specs.declared.entry.Entry.{Entry}
use Rattle.tree_model.specs.AccessList.{ListChange, stays, adds, drops, is_above}
use Rattle.pruned_list.specs.PrunedList.{PrunedList, absent, hidden, node, found, seek, set_next, split, insert, over, join, remove, carry, changed}
use Rattle.dict_proof.specs.Keeping.{KeepsAuthor}
use Rattle.dict_proof.proofs.Steps.{set_next-here, set_next-left, set_next-right, set_next-hid, insert-stays, insert-left, insert-right, insert-none, insert-hid, join-none, join-none_right, join-hid, join-hid_left, join-hid_right, join-greater, join-smaller, remove-here, remove-left, remove-right, seek-left, seek-right}

-- ---- options

map_inv : {A B : Type 0} (make : A → B) (o : Option A) (y : B) → option_map make o ≡ Some y
    → (x : A) × (o ≡ Some x) × (make x ≡ y)
map_inv make None y same = absurd cc
map_inv make (Some x) y same = (x, refl, cc)

then_inv : {A B : Type 0} (next : A → Option B) (o : Option A) (y : B) → option_and_then next o ≡ Some y
    → (x : A) × (o ≡ Some x) × (next x ≡ Some y)
then_inv next None y same = absurd cc
then_inv next (Some x) y same = (x, refl, same)

-- ---- what stands on top of a changed part is a node

node_some : (e : Entry) (l r : PrunedList) → node e l r ≡ absent → ⊥
node_some e l r same = cc

left_some : (e : Entry) (r : PrunedList) (o : Option PrunedList)
    → option_map (λ (c : PrunedList). node e c r) o ≡ Some absent → ⊥
left_some e r o same =
    let it = map_inv (λ (c : PrunedList). node e c r) o absent same in node_some e it.0 r it.2

right_some : (e : Entry) (l : PrunedList) (o : Option PrunedList)
    → option_map (λ (c : PrunedList). node e l c) o ≡ Some absent → ⊥
right_some e l o same =
    let it = map_inv (λ (c : PrunedList). node e l c) o absent same in node_some e l it.0 it.2

over_some : (e : Entry) (o : Option (PrunedList × PrunedList)) → option_map (over e) o ≡ Some absent → ⊥
over_some e o same = let it = map_inv (over e) o absent same in node_some e it.0.0 it.0.1 it.2

-- ---- only absent parts change to an absent one

joined_absent : (a b : PrunedList) → join a b ≡ Some absent → a ≡ absent
joined_absent absent b same = refl
joined_absent (hidden x) absent same = let is = sym (join-none_right (hidden x)) ∙ same in absurd cc
joined_absent (hidden x) (hidden y) same = let is = sym (join-hid x y) ∙ same in absurd cc
joined_absent (hidden x) (node f m q) same = let is = sym (join-hid_left x f m q) ∙ same in absurd cc
joined_absent (node e l r) absent same = let is = sym (join-none_right (node e l r)) ∙ same in absurd cc
joined_absent (node e l r) (hidden y) same = let is = sym (join-hid_right e l r y) ∙ same in absurd cc
joined_absent (node e l r) (node f m q) same = elim (cases_Bool (is_above f.user e.user)) [
  | inl above ↦ absurd (left_some f q (join (node e l r) m) (sym (join-greater e l r f m q above) ∙ same))
  | inr under ↦ absurd (right_some e l (join r (node f m q)) (sym (join-smaller e l r f m q under) ∙ same))
]

joined_absent_right : (a b : PrunedList) → join a b ≡ Some absent → b ≡ absent
joined_absent_right a b same =
    let left = joined_absent a b same in
    let is = sym (join-none b) ∙ sym (ap (λ (c : PrunedList). join c b) left) ∙ same in cc

numbered_absent : (user next : ℕ) (p : PrunedList) → set_next user next p ≡ Some absent → p ≡ absent
numbered_absent user next absent same = refl
numbered_absent user next (hidden x) same = let is = sym (set_next-hid user next x) ∙ same in absurd cc
numbered_absent user next (node e l r) same = elim (cases_order user e.user) [
  | inl here ↦ let is = sym (set_next-here user next e l r here) ∙ same in absurd cc
  | inr (inl less) ↦ absurd (left_some e r (set_next user next l) (sym (set_next-left user next e l r less) ∙ same))
  | inr (inr more) ↦ absurd (right_some e l (set_next user next r) (sym (set_next-right user next e l r more) ∙ same))
]

inserted_some : (e : Entry) (p : PrunedList) → insert e p ≡ Some absent → ⊥
inserted_some e absent same = let is = sym (insert-none e) ∙ same in cc
inserted_some e (hidden x) same = let is = sym (insert-hid e x) ∙ same in cc
inserted_some e (node f l r) same = elim (cases_Bool (is_above f.user e.user)) [
  | inl above ↦ elim (cases_lt e.user f.user) [
    | inl less ↦ left_some f r (insert e l) (sym (insert-left e f l r above less) ∙ same)
    | inr le ↦ right_some f l (insert e r) (sym (insert-right e f l r above le) ∙ same)
  ]
  | inr under ↦ over_some e (split (node f l r) e.user) (sym (insert-stays e f l r under) ∙ same)
]

-- A node from which a user goes who isn't its own stays.
removed_some : (user : ℕ) (e : Entry) (l r : PrunedList) → user ≢ e.user → remove user (node e l r) ≡ Some absent → ⊥
removed_some user e l r apart same = elim (cases_order user e.user) [
  | inl here ↦ apart here
  | inr (inl less) ↦ left_some e r (remove user l) (sym (remove-left user e l r less) ∙ same)
  | inr (inr more) ↦ right_some e l (remove user r) (sym (remove-right user e l r more) ∙ same)
]

-- A node of which nothing is left has this user's entry, and no parts.
removed_alone : (user : ℕ) (e : Entry) (l r : PrunedList) → remove user (node e l r) ≡ Some absent
    → (user ≡ e.user) × (l ≡ absent) × (r ≡ absent)
removed_alone user e l r same = elim (cases_order user e.user) [
  | inl here ↦
      let is = sym (remove-here user e l r here) ∙ same in (here, joined_absent l r is, joined_absent_right l r is)
  | inr (inl less) ↦ absurd (left_some e r (remove user l) (sym (remove-left user e l r less) ∙ same))
  | inr (inr more) ↦ absurd (right_some e l (remove user r) (sym (remove-right user e l r more) ∙ same))
]

-- ---- the author stays

seek_absent : (p : PrunedList) (u : ℕ) → p ≡ absent → seek p u ≡ found None
unfolding seek
seek_absent p u same = rw same refl

-- whoever goes, the author's entry stays
dropped_some : (p : PrunedList) (author next user : ℕ) (c : PrunedList) → user ≢ author
    → (seek p author ≢ found None) → set_next author next p ≡ Some c → remove user c ≡ Some absent → ⊥
dropped_some absent author next user c apart met set same = met (seek_absent absent author refl)
dropped_some (hidden x) author next user c apart met set same =
    let is = sym (set_next-hid author next x) ∙ set in cc
dropped_some (node e l r) author next user c apart met set same = elim (cases_order author e.user) [
  | inl here ↦
      let is : node (record e { next = next }) l r ≡ c =
      let both = sym (set_next-here author next e l r here) ∙ set in cc in
      removed_some user (record e { next = next }) l r (λ own. apart (own ∙ sym here)) (rw is same)
  | inr (inl less) ↦
      let it = map_inv (λ (c : PrunedList). node e c r) (set_next author next l) c (sym (set_next-left author next e l r less) ∙ set) in
      let alone = removed_alone user e it.0 r (rw (it.2) same) in
      let none = numbered_absent author next l (it.1 ∙ ap (λ (x : PrunedList). Some x) alone.1) in
      met (seek-left e l r author less ∙ seek_absent l author none)
  | inr (inr more) ↦
      let it = map_inv (λ (c : PrunedList). node e l c) (set_next author next r) c (sym (set_next-right author next e l r more) ∙ set) in
      let alone = removed_alone user e l it.0 (rw (it.2) same) in
      let none = numbered_absent author next r (it.1 ∙ ap (λ (x : PrunedList). Some x) alone.2) in
      met (seek-right e l r author more ∙ seek_absent r author none)
]

-- an operation that keeps its author leaves an entry
pub changed_some : (p : PrunedList) (author next : ℕ) (change : ListChange) → (p ≡ absent → ⊥)
    → KeepsAuthor p author change → changed p author next change ≡ Some absent → ⊥
changed_some p author next stays some keeps same =
    let it = then_inv (carry stays) (set_next author next p) absent same in
    let is : it.0 ≡ absent = cc in
    some (numbered_absent author next p (it.1 ∙ ap (λ (x : PrunedList). Some x) is))
changed_some p author next (adds e) some keeps same =
    let it = then_inv (carry (adds e)) (set_next author next p) absent same in inserted_some e it.0 it.2
changed_some p author next (drops user) some keeps same =
    let it = then_inv (carry (drops user)) (set_next author next p) absent same in
    dropped_some p author next user it.0 keeps.0 keeps.1 it.1 it.2
