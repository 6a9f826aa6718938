-- The steps of the walk: the least pruning of a node of a version, from those of its halves.
use Rattle.std.proofs.Common.{◌≡◌, ℕ, zero, suc, ◌+◌, ◌-◌, ◌^◌, ◌<◌, ◌≤◌, Bool, true, false, ◌&&◌, ◌||◌, List, [], length, take, drop, get_or, Some, refl, ap, sym, ◌∙◌, arith}
use Rattle.std.specs.List.{slice_get}
use Rattle.std.specs.Prelude.{map, min, nat_lt}
use Rattle.std.proofs.lemmas.List.{get_or-drop, get_or-map, get_or-take, take_all, length-take-le}
use Rattle.std.proofs.lemmas.Nat.{pow_pos}
use Rattle.std.proofs.lemmas.Option.{get_or_from_slice_get, slice_get_within}
use Rattle.tree_model.proofs.HistoryLaws.{depth-fits}
use Rattle.tree_model.specs.History.{depth}
use Rattle.hist_proof.specs.Pruned.{Tree, hidden, leaf, node, single}
use Rattle.hist_tree.specs.Nodes.{node_texts}
use Rattle.hist_tree.proofs.Nodes.{left-half, length-node, only-half, right-half, twice}
use Rattle.tree_prune.specs.LeastHistory.{any, inside, least, numbered}
use Rattle.tree_prune.proofs.Least.{entered-above, least-at_node, least-at_single, least-in_leaf, least-out}
use Rattle.tree_prune.proofs.Marks.{numbered-drop, numbered-take}
use Rattle.tree_prune.proofs.Wants.{versions-right}

-- twice as many positions at the height above
pub twice-at : (level : ℕ) → 0 < level → 2 ^ level ≡ 2 ^ (level - 1) + 2 ^ (level - 1)
twice-at zero above = absurd (omega arith)
twice-at (suc j) above = let below : suc j - 1 ≡ j = omega arith in rw below (twice j)

-- how many texts a node has
pub node-count : (size level start end : ℕ) (T : List (List ℕ)) → size ≤ length T
    → end ≡ start + min (2 ^ level) (size - start)
    → length (node_texts size level start T) ≡ end - start
node-count size level start end T within ends = length-node size level start T within ∙ omega arith

first-text : (size start : ℕ) (T : List (List ℕ)) → start < size → size ≤ length T
    → get_or (node_texts size 0 start T) 0 [] ≡ get_or T start []
unfolding node_texts
first-text size start T low within =
    let place : start + 0 ≡ start = omega arith in
    get_or-take 1 (drop start (take size T)) 0 [] (omega arith) ∙ get_or-drop start (take size T) 0 []
    ∙ ap (λ k. get_or (take size T) k []) place ∙ get_or-take size T start [] low

left-at : (size level start : ℕ) (T : List (List ℕ)) → 0 < level
    → take (2 ^ (level - 1)) (node_texts size level start T) ≡ node_texts size (level - 1) start T
left-at size zero start T above = absurd (omega arith)
left-at size (suc j) start T above = let below : suc j - 1 ≡ j = omega arith in rw below (left-half size j start T)

right-at : (size level start : ℕ) (T : List (List ℕ)) → 0 < level
    → drop (2 ^ (level - 1)) (node_texts size level start T) ≡ node_texts size (level - 1) (start + 2 ^ (level - 1)) T
right-at size zero start T above = absurd (omega arith)
right-at size (suc j) start T above = let below : suc j - 1 ≡ j = omega arith in rw below (right-half size j start T)

only-at : (size level start : ℕ) (T : List (List ℕ)) → 0 < level → size ≤ length T → size - start ≤ 2 ^ (level - 1)
    → node_texts size level start T ≡ node_texts size (level - 1) start T
only-at size zero start T above within few = absurd (omega arith)
only-at size (suc j) start T above within few = let below : suc j - 1 ≡ j = omega arith in rw below (only-half size
    j start T within (rw below at few))

whole-texts : (size : ℕ) (T : List (List ℕ)) → size ≤ length T → node_texts size (depth size) 0 T ≡ take size T
unfolding node_texts
whole-texts size T within =
    let len = length-take-le size T within in
    let fits = depth-fits size in take_all (2 ^ depth size) (take size T) (omega arith)

module _ (h : ℕ → List (List ℕ) → List ℕ) (f : ℕ → Bool) (versions : List ℕ) (T : List (List ℕ)) where
  -- what is pruned of a node
  abbrev pub pruning : (size level start end : ℕ) → Tree
  pruning size level start end =
      least h level (node_texts size level start T) (numbered f start (end - start)) (map (λ v. v - start) versions)

  -- the test of the walk
  abbrev pub entered : (level start end : ℕ) → Bool
  entered level start end =
      any (numbered f start (end - start)) || (nat_lt 0 level && inside (end - start) (map (λ v. v - start) versions))

  pub step-out : (size level start end : ℕ) → size ≤ length T → end ≡ start + min (2 ^ level) (size - start)
      → entered level start end ≡ false
      → pruning size level start end ≡ hidden (h level (node_texts size level start T))
  step-out size level start end within ends out =
      least-out h level (end - start) (node_texts size level start T) (numbered f start (end - start)) (map (λ v. v
      - start) versions)
      (node-count size level start end T within ends) out

  pub step-leaf : (size level start end : ℕ) → size ≤ length T → start < size → level ≡ 0
      → entered level start end ≡ true
      → pruning size level start end ≡ leaf (get_or T start [])
  step-leaf size level start end within low bottom into =
      least-in_leaf h level (end - start) (node_texts size level start T) (numbered f start (end - start)) (map (λ
      v. v - start) versions) bottom into
      ∙ ap (λ k. leaf (get_or (node_texts size k start T) 0 [])) bottom
      ∙ ap (λ (t : List ℕ). leaf t) (first-text size start T low within)

  pub step-single : (size level start end : ℕ) → size ≤ length T → end ≡ start + min (2 ^ level) (size - start)
      → 0 < level
      → size - start ≤ 2 ^ (level - 1) → entered level start end ≡ true
      → pruning size level start end ≡ single (pruning size (level - 1) start end)
  step-single size level start end within ends above few into =
      let double = twice-at level above in
      let count = node-count size level start end T within ends in
      least-at_single h level (node_texts size level start T) (numbered f start (end - start)) (map (λ v. v -
      start) versions) above
      (entered-above level (end - start) (node_texts size level start T) (numbered f start (end - start)) (map (λ
      v. v - start) versions) count above into) (omega arith)
      ∙ ap (λ (M : List (List ℕ)). single (least h (level - 1) M (numbered f start (end - start)) (map (λ v. v -
      start) versions))) (only-at size level start T above within few)

  pub step-node : (size level start middle end : ℕ) → size ≤ length T
      → end ≡ start + min (2 ^ level) (size - start) → 0 < level
      → 2 ^ (level - 1) < size - start → middle ≡ start + 2 ^ (level - 1) → entered level start end ≡ true
      → pruning size level start end ≡ node (pruning size (level - 1) start middle) (pruning size (level - 1)
      middle end)
  step-node size level start middle end within ends above more half into =
      let double = twice-at level above in
      let positive = pow_pos (level - 1) in
      let count = node-count size level start end T within ends in
      let H = 2 ^ (level - 1) in
      let M = node_texts size level start T in
      let ms = numbered f start (end - start) in
      let vs = map (λ v. v - start) versions in
      let front : middle - start ≡ 2 ^ (level - 1) = omega arith in
      let back : end - start - 2 ^ (level - 1) ≡ end - middle = omega arith in
      let left_marks : take (2 ^ (level - 1)) (numbered f start (end - start)) ≡ numbered f start (middle - start) =
      numbered-take f start (end - start) (2 ^ (level - 1)) (omega arith)
      ∙ ap (λ n. numbered f start n) (sym front) in
      let right_marks : drop (2 ^ (level - 1)) (numbered f start (end - start)) ≡ numbered f middle (end - middle) =
      numbered-drop f start (end - start) (2 ^ (level - 1)) (omega arith)
      ∙ ap (λ n. numbered f (start + 2 ^ (level - 1)) n) back
      ∙ ap (λ k. numbered f k (end - middle)) (sym half) in
      let right_texts : drop (2 ^ (level - 1)) (node_texts size level start T) ≡ node_texts size (level - 1) middle
      T =
      right-at size level start T above ∙ ap (λ k. node_texts size (level - 1) k T) (sym half) in
      let right_versions : map (λ v. v - 2 ^ (level - 1)) (map (λ v. v - start) versions) ≡ map (λ v. v - middle)
      versions =
      versions-right versions start (2 ^ (level - 1)) ∙ ap (λ k. map (λ v. v - k) versions) (sym half) in
      rw (
        least-at_node h level M ms vs above (entered-above level (end - start) M ms vs count above into) (omega
            arith),
        left-at size level start T above,
        right_texts,
        left_marks,
        right_marks,
        right_versions,
      ) refl

  pub step-whole : (size : ℕ) → size ≤ length T → map (λ v. v - 0) versions ≡ versions
      → pruning size (depth size) 0 size ≡ least h (depth size) (take size T) (numbered f 0 size) versions
  step-whole size within first =
      let all : size - 0 ≡ size = omega arith in
      rw (whole-texts size T within, all, first) refl

-- the text of an item
pub item-text : {X : Type 0} (text : X → List ℕ) (items : List X) (k : ℕ) (x : X) → slice_get items k ≡ Some x
    → get_or (map text items) k [] ≡ text x
item-text text items k x at =
    get_or-map text items k x [] (slice_get_within items k x at) ∙ ap text (get_or_from_slice_get items k x x at)

pub node-of : {l a r b : Tree} → l ≡ a → r ≡ b → node l r ≡ node a b
node-of {l = l} {a = a} {r = r} {b = b} left right = ap (λ x. node x r) left ∙ ap (λ x. node a x) right
