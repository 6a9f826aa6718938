-- What a snapshot keeps of the leaves that it stands for, and its items.
use Rattle.std.proofs.Common.{◌≡◌, ℕ, zero, suc, ◌+◌, ◌≤◌, List, [], ◌∷◌, length, take, map, fold, Some, ap, sym, subst, ◌∙◌}
use Rattle.std.specs.Prelude.{slice_get}
use Rattle.std.specs.List.{AllByRecursion}
use Rattle.std.proofs.lemmas.List.{length-map}
use Rattle.fr_digest.specs.Digest.{Digest}
use Rattle.op_types.specs.declared.op.Leaf.{Leaf}
use Rattle.op_types.specs.declared.limits.TheConstants.{VIEW_SIZE_MAX}
use Rattle.op_types.specs.Spelling.{IsLeaf, IsView}
use Rattle.wall_law.specs.declared.state.State.{State}
use Rattle.wall_law.specs.Lawful.{Lawful}
use Rattle.wall_law.specs.State.{after, opening, state_of}
use Rattle.wall_law.proofs.Histories.{state_of-next}
use Rattle.hall_core.specs.declared.facts.WallFacts.{WallFacts}
use Rattle.hall_core.specs.declared.item.Item.{Item}
use Rattle.hall_core.specs.declared.snapshot.Snapshot.{Snapshot}
use Rattle.hall_core.specs.Honest.{IsHonest}
use Rattle.hall_core.specs.Snapshots.{Stands}
use Rattle.hall_core.specs.Standing.{item_of, items_from, items_of}
use Rattle.hall_core.proofs.Items.{history-leaves, history-texts}
use Rattle.honest_replies.specs.HonestNews.{texts_of}
use Rattle.hall_replies.specs.Kept.{IsKept, IsOfHonest, first_user, leaves_of, owner_of}

-- ---- what it stands for

module _ {D : Type 0} (d : Digest) (facts : WallFacts) (L : List Leaf) (s : Snapshot D) (stands : Stands d facts L s) where
  pub leaves-are : leaves_of s ≡ L
  unfolding leaves_of
  leaves-are = history-leaves D facts.owner L s.history stands.items

  pub owner-is : owner_of s ≡ facts.owner
  unfolding owner_of
  owner-is = ap first_user stands.opened

  pub kept : IsHonest d facts L → IsKept d s
  kept honest = record {
    items = stands.items ∙ ap (λ o. items_of o L) (sym owner-is) ∙ ap (items_of (owner_of s)) (sym leaves-are);
    opened = stands.opened ∙ ap (λ o. (opening o).entries) (sym owner-is);
    size = stands.viewed.size ∙ ap length (sym leaves-are);
    view = subst (λ w. IsView w s.view) (sym stands.viewed.wall) stands.viewed.spelled;
    lawful = subst (λ o. Lawful d o s.view.wall (leaves_of s)) (sym owner-is)
        (subst (λ w. Lawful d facts.owner w (leaves_of s)) (sym stands.viewed.wall)
        (subst (Lawful d facts.owner facts.wall) (sym leaves-are) honest.lawful));
    spelled = subst (AllByRecursion IsLeaf) (sym leaves-are) honest.spelled;
    few = subst (λ (ls : List Leaf). length ls ≤ VIEW_SIZE_MAX) (sym leaves-are) honest.few;
  }

pub kept-of : {D : Type 0} (d : Digest) (s : Snapshot D) → IsOfHonest d s → IsKept d s
kept-of d s it = kept d it.facts it.leaves s it.stands it.honest

-- ---- items

pub length-leaves : {D : Type 0} (s : Snapshot D) → length (leaves_of s) ≡ length s.history
unfolding leaves_of
length-leaves s = length-map s.history (λ (item : Item _). item.leaf)

leaf-among : (D : Type 0) (items : List (Item D)) (k : ℕ) (item : Item D) → slice_get items k ≡ Some item
    → slice_get (map (λ (x : Item D). x.leaf) items) k ≡ Some item.leaf
leaf-among D [] k item at = absurd cc
leaf-among D (x ∷ items) zero item at = let same : x ≡ item = cc in ap (λ (y : Item D). Some y.leaf) same
leaf-among D (x ∷ items) (suc k) item at = leaf-among D items k item at

pub leaf-at : {D : Type 0} (s : Snapshot D) (k : ℕ) (item : Item D) → slice_get s.history k ≡ Some item
    → slice_get (leaves_of s) k ≡ Some item.leaf
unfolding leaves_of
leaf-at {D = D} s k item at = leaf-among D s.history k item at

items-at : (D : Type 0) (s : State) (L : List Leaf) (k : ℕ) (leaf : Leaf) → slice_get L k ≡ Some leaf
    → slice_get (items_from {D = D} s L) k ≡ Some (item_of (fold (λ (t : State) (l : Leaf). after t l.op) s (take k L)) leaf)
items-at D s [] k leaf at = absurd cc
items-at D s (l ∷ L) zero leaf at = let same : l ≡ leaf = cc in ap (λ (x : Leaf). Some (item_of {D = D} s x)) same
items-at D s (l ∷ L) (suc k) leaf at = items-at D (after s l.op) L k leaf at

module _ {D : Type 0} (d : Digest) (s : Snapshot D) (it : IsKept d s) where
  pub texts-are : map (λ (item : Item D). item.text) s.history ≡ texts_of (leaves_of s)
  texts-are = history-texts D (owner_of s) (leaves_of s) s.history it.items

  -- the list of an item is the one before the next position
  pub list-behind : (k : ℕ) (item : Item D) → slice_get s.history k ≡ Some item
      → item.list ≡ (state_of (owner_of s) (take (k + 1) (leaves_of s))).entries
  list-behind k item at =
      let leaf = leaf-at s k item at in
      let same = ap (λ (items : List (Item D)). slice_get items k) it.items in
      let own = items-at D (opening (owner_of s)) (leaves_of s) k item.leaf leaf in
      let equal : item ≡ item_of (state_of (owner_of s) (take k (leaves_of s))) item.leaf = cc in
      ap (λ (x : Item D). x.list) equal
      ∙ ap (λ (t : State). t.entries) (sym (state_of-next (owner_of s) (leaves_of s) k item.leaf leaf))
