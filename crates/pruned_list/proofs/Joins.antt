-- The join of two prunings prunes the two sets in a row.
use Rattle.std.proofs.Common.{◌≡◌, ℕ, true, false, List, [], ◌++◌, Option, Some, ap, sym, subst, ◌∙◌, inl, inr}
use Rattle.std.specs.Prelude.{option_map}
use Rattle.std.proofs.lemmas.Bool.{cases_Bool}
use Rattle.std.proofs.lemmas.List.{append-nil}
use Rattle.fr_digest.specs.Digest.{Digest}
use Rattle.tree_model.specs.declared.entry.Entry.{Entry}
use Rattle.tree_model.specs.AccessList.{IsRising, smaller, greater, is_above, top_of}
use Rattle.tree_model.proofs.Parts.{greater-append_left, greater-append_right, smaller-append_left, smaller-append_right}
use Rattle.tree_model.proofs.Tops.{top-among, top-append}
use Rattle.pruned_list.specs.PrunedList.{PrunedList, absent, hidden, node, PrunesList, join, onto_hidden, under}
use Rattle.pruned_list.proofs.Options.{map-some}
use Rattle.pruned_list.proofs.Prunings.{rising-greater, rising-smaller}

-- `onto` joins what prunes the set X with what prunes a set of greater users
abbrev pub Onto : Digest → (PrunedList → Option PrunedList) → List Entry → Type 0
Onto d onto X =
    (b : PrunedList) (Y : List Entry) (c : PrunedList) → IsRising (X ++ Y) → PrunesList d b Y → onto b ≡ Some c
    → PrunesList d c (X ++ Y)

-- nothing behind a set
behind-none : (d : Digest) (p c : PrunedList) (X Y : List Entry) → PrunesList d p X → Y ≡ [] → Some p ≡ Some c
    → PrunesList d c (X ++ Y)
behind-none d p c X Y h none e =
    let same : p ≡ c = cc in
    let list : X ++ Y ≡ X = ap (λ (es : List Entry). X ++ es) none ∙ append-nil X in
    subst (λ (es : List Entry). PrunesList d c es) (sym list) (subst (λ (q : PrunedList). PrunesList d q X) same h)

-- the right node comes on top
right_on_top : (d : Digest) (X Y : List Entry) (e f : Entry) (c q : PrunedList) → IsRising (X ++ Y) → top_of X ≡ Some e
    → top_of Y ≡ Some f → is_above f.user e.user ≡ true → PrunesList d c (X ++ smaller f.user Y)
    → PrunesList d q (greater f.user Y) → PrunesList d (node f c q) (X ++ Y)
unfolding PrunesList
right_on_top d X Y e f c q rising top top' above left right =
    let among = top-among Y f top' in
    let root : top_of (X ++ Y) ≡ Some f = rw above at (top-append X Y e f top top') in
    (root, rw (smaller-append_right X Y f rising among) left, rw (greater-append_right X Y f rising among) right)

-- the left node stays on top
left_on_top : (d : Digest) (X Y : List Entry) (e f : Entry) (l c : PrunedList) → IsRising (X ++ Y) → top_of X ≡ Some e
    → top_of Y ≡ Some f → is_above f.user e.user ≡ false → PrunesList d l (smaller e.user X)
    → PrunesList d c (greater e.user X ++ Y) → PrunesList d (node e l c) (X ++ Y)
unfolding PrunesList
left_on_top d X Y e f l c rising top top' above left right =
    let among = top-among X e top in
    let root : top_of (X ++ Y) ≡ Some e = rw above at (top-append X Y e f top top') in
    (root, rw (smaller-append_left X Y e rising among) left, rw (greater-append_left X Y e rising among) right)

rising-left_part : (X Y : List Entry) (f : Entry) → IsRising (X ++ Y) → top_of Y ≡ Some f
    → IsRising (X ++ smaller f.user Y)
rising-left_part X Y f rising top =
    subst IsRising (smaller-append_right X Y f rising (top-among Y f top)) (rising-smaller f.user (X ++ Y) rising)

rising-right_part : (X Y : List Entry) (e : Entry) → IsRising (X ++ Y) → top_of X ≡ Some e
    → IsRising (greater e.user X ++ Y)
rising-right_part X Y e rising top =
    subst IsRising (greater-append_left X Y e rising (top-among X e top)) (rising-greater e.user (X ++ Y) rising)

under-prunes : (d : Digest) (e : Entry) (l r : PrunedList) (onto : PrunedList → Option PrunedList) (X : List Entry)
    → PrunesList d (node e l r) X → Onto d onto (greater e.user X) → Onto d (under e l r onto) X
unfolding PrunesList under
under-prunes d e l r onto X h each absent Y c rising hY is = behind-none d (node e l r) c X Y h hY is
under-prunes d e l r onto X h each (hidden y) Y c rising hY is = absurd cc
under-prunes d e l r onto X h each (node f m q) Y c rising hY is = elim (cases_Bool (is_above f.user e.user)) [
  | inl above ↦
      let made : option_map (λ c. node f c q) (under e l r onto m) ≡ Some c = rw above at is in
      map-some (λ (p : PrunedList). PrunesList d p (X ++ Y)) (λ c. node f c q) (under e l r onto m) c made
      (λ part part-is. right_on_top d X Y e f part q rising h.0 hY.0 above
      (under-prunes d e l r onto X h each m (smaller f.user Y) part (rising-left_part X Y f rising hY.0) hY.1
      part-is) hY.2)
  | inr above ↦
      let made : option_map (λ c. node e l c) (onto (node f m q)) ≡ Some c = rw above at is in
      map-some (λ (p : PrunedList). PrunesList d p (X ++ Y)) (λ c. node e l c) (onto (node f m q)) c made
      (λ part part-is. left_on_top d X Y e f l part rising h.0 hY.0 above h.1
      (each (node f m q) Y part (rising-right_part X Y e rising h.0) hY part-is))
]

hidden-prunes : (d : Digest) (x : List ℕ) (X : List Entry) → PrunesList d (hidden x) X → Onto d (onto_hidden x) X
unfolding PrunesList
hidden-prunes d x X h absent Y c rising hY is = behind-none d (hidden x) c X Y h hY is
hidden-prunes d x X h (hidden y) Y c rising hY is = absurd cc
hidden-prunes d x X h (node f m q) Y c rising hY is = absurd cc

-- the join of two prunings
pub join-prunes : (d : Digest) (a : PrunedList) (X : List Entry) → PrunesList d a X → Onto d (join a) X
unfolding PrunesList join
join-prunes d absent X h b Y c rising hY is =
    let same : b ≡ c = cc in rw h (subst (λ (q : PrunedList). PrunesList d q Y) same hY)
join-prunes d (hidden x) X h b Y c rising hY is = hidden-prunes d x X h b Y c rising hY is
join-prunes d (node e l r) X h b Y c rising hY is =
    under-prunes d e l r (join r) X h (join-prunes d r (greater e.user X) h.2) b Y c rising hY is
