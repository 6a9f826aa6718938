-- The nodes of a version, and their halves.
use Rattle.std.proofs.Common.{◌≡◌, ℕ, zero, suc, ◌+◌, ◌-◌, ◌^◌, ◌<◌, ◌≤◌, List, ◌++◌, length, take, drop, ap, sym, ◌∙◌, inl, inr, arith}
use Rattle.std.specs.Prelude.{min}
use Rattle.std.proofs.lemmas.Bool.{cases_lt}
use Rattle.std.proofs.lemmas.List.{drop-drop, drop-take, length-drop, length-take, length-take-le, take-append-le, take-take, take_all}
use Rattle.std.proofs.lemmas.Nat.{pow_pos}
use Rattle.std.proofs.Math.Nat.{pow-suc}
use Rattle.fr_digest.specs.Digest.{Digest}
use Rattle.tree_model.proofs.HistoryLaws.{depth-fits, depth-least, part-pair, part-single, root-part}
use Rattle.tree_model.specs.History.{depth, pair_string, part, root, single_string}
use Rattle.hist_tree.specs.Nodes.{node_texts}

pub twice : (j : ℕ) → 2 ^ suc j ≡ 2 ^ j + 2 ^ j
twice j = let double = pow-suc 2 j in omega arith

-- the texts of a version from a position on
pub length-rest : (size start : ℕ) (M : List (List ℕ)) → size ≤ length M
    → length (drop start (take size M)) ≡ size - start
length-rest size start M within =
    length-drop start (take size M) ∙ ap (λ n. n - start) (length-take-le size M within)

pub length-node : (size level start : ℕ) (M : List (List ℕ)) → size ≤ length M
    → length (node_texts size level start M) ≡ min (2 ^ level) (size - start)
unfolding node_texts
length-node size level start M within =
    length-take (2 ^ level) (drop start (take size M)) ∙ ap (λ n. min (2 ^ level) n) (length-rest size start M within)

pub left-half : (size j start : ℕ) (M : List (List ℕ))
    → take (2 ^ j) (node_texts size (suc j) start M) ≡ node_texts size j start M
unfolding node_texts
left-half size j start M =
    let double = twice j in take-take (2 ^ j) (2 ^ suc j) (drop start (take size M)) (omega arith)

pub right-half : (size j start : ℕ) (M : List (List ℕ))
    → drop (2 ^ j) (node_texts size (suc j) start M) ≡ node_texts size j (start + 2 ^ j) M
unfolding node_texts
right-half size j start M =
    ap (λ n. drop (2 ^ j) (take n (drop start (take size M)))) (twice j)
    ∙ drop-take (2 ^ j) (2 ^ j) (drop start (take size M))
    ∙ ap (λ (xs : List (List ℕ)). take (2 ^ j) xs) (drop-drop (2 ^ j) start (take size M))

pub only-half : (size j start : ℕ) (M : List (List ℕ)) → size ≤ length M → size - start ≤ 2 ^ j
    → node_texts size (suc j) start M ≡ node_texts size j start M
unfolding node_texts
only-half size j start M within few =
    let len = length-rest size start M within in
    let double = twice j in
    take_all (2 ^ suc j) (drop start (take size M)) (omega arith)
    ∙ sym (take_all (2 ^ j) (drop start (take size M)) (omega arith))

few-half : (size j start : ℕ) (M : List (List ℕ)) → size ≤ length M → size - start ≤ 2 ^ j
    → length (node_texts size (suc j) start M) ≤ 2 ^ j
unfolding node_texts
few-half size j start M within few =
    let len = length-rest size start M within in
    let front = length-take (2 ^ suc j) (drop start (take size M)) in omega arith

more-half : (size j start : ℕ) (M : List (List ℕ)) → size ≤ length M → 2 ^ j < size - start
    → 2 ^ j < length (node_texts size (suc j) start M)
unfolding node_texts
more-half size j start M within more =
    let len = length-rest size start M within in
    let double = twice j in
    let positive = pow_pos j in
    let front = length-take (2 ^ suc j) (drop start (take size M)) in omega arith

pub node-single : (d : Digest) (size j start : ℕ) (M : List (List ℕ)) → size ≤ length M → size - start ≤ 2 ^ j
    → part d (suc j) (node_texts size (suc j) start M) ≡ d (single_string (part d j (node_texts size j start M)))
node-single d size j start M within few =
    part-single d j (node_texts size (suc j) start M) (few-half size j start M within few)
    ∙ ap (λ (xs : List (List ℕ)). d (single_string (part d j xs))) (only-half size j start M within few)

pub node-pair : (d : Digest) (size j start : ℕ) (M : List (List ℕ)) → size ≤ length M → 2 ^ j < size - start
    → part d (suc j) (node_texts size (suc j) start M) ≡ d (pair_string (part d j (node_texts size j start M))
    (part d j (node_texts size j (start + 2 ^ j) M)))
node-pair d size j start M within more =
    part-pair d j (node_texts size (suc j) start M) (more-half size j start M within more)
    ∙ ap (λ (xs : List (List ℕ)). d (pair_string (part d j xs) (part d j (drop (2 ^ j) (node_texts size (suc j)
    start M))))) (left-half size j start M)
    ∙ ap (λ (xs : List (List ℕ)). d (pair_string (part d j (node_texts size j start M)) (part d j xs))) (right-half
    size j start M)

-- the same at a height written as in the code

pub node-at_single : (d : Digest) (size level start : ℕ) (M : List (List ℕ)) → 0 < level → size ≤ length M
    → size - start ≤ 2 ^ (level - 1)
    → part d level (node_texts size level start M) ≡ d (single_string (part d (level - 1) (node_texts size (level -
    1) start M)))
node-at_single d size zero start M above within few = absurd (omega arith)
node-at_single d size (suc j) start M above within few =
    let below : suc j - 1 ≡ j = omega arith in rw below (node-single d size j start M within (rw below at few))

pub node-at_pair : (d : Digest) (size level start : ℕ) (M : List (List ℕ)) → 0 < level → size ≤ length M
    → 2 ^ (level - 1) < size - start
    → part d level (node_texts size level start M) ≡ d (pair_string (part d (level - 1) (node_texts size (level -
    1) start M)) (part d (level - 1) (node_texts size (level - 1) (start + 2 ^ (level - 1)) M)))
node-at_pair d size zero start M above within more = absurd (omega arith)
node-at_pair d size (suc j) start M above within more =
    let below : suc j - 1 ≡ j = omega arith in rw below (node-pair d size j start M within (rw below at more))

-- a node whose positions all are in the version has the same texts in each longer one
pub node-whole : (size level start : ℕ) (M : List (List ℕ)) → start + 2 ^ level ≤ size
    → node_texts size level start M ≡ take (2 ^ level) (drop start M)
unfolding node_texts
node-whole size level start M within =
    let sum : size ≡ start + (size - start) = omega arith in
    ap (λ n. take (2 ^ level) (drop start (take n M))) sum
    ∙ ap (λ (xs : List (List ℕ)). take (2 ^ level) xs) (drop-take start (size - start) M)
    ∙ take-take (2 ^ level) (size - start) (drop start M) (omega arith)

-- the top node is the root
pub node-top : (d : Digest) (M : List (List ℕ)) (v : ℕ) → v ≤ length M
    → part d (depth v) (node_texts v (depth v) 0 M) ≡ root d M v
unfolding node_texts
node-top d M v within =
    let len = length-take-le v M within in
    let fits = depth-fits v in
    ap (λ (xs : List (List ℕ)). part d (depth v) xs) (take_all (2 ^ depth v) (take v M) (omega arith))
    ∙ sym (root-part d M v within)

pub node-older : (size level start : ℕ) (M more : List (List ℕ)) → size ≤ length M
    → node_texts size level start (M ++ more) ≡ node_texts size level start M
unfolding node_texts
node-older size level start M more within =
    ap (λ (xs : List (List ℕ)). take (2 ^ level) (drop start xs)) (take-append-le size M more within)

-- a node's height is no more than 64
pub height-fits : (size level : ℕ) → size ≤ 2 ^ 64 → level ≤ depth size → level ≤ 64
height-fits size level small within =
    elim (cases_lt 64 level) [
      | inl more ↦ let above = depth-least size 64 (omega arith) in absurd (omega arith)
      | inr le ↦ le
    ]

-- a node that no chunk keeps isn't a leaf
pub not_leaf : (size level start : ℕ) → start < size → ((level ≤ 5) × (start + 2 ^ level ≤ size) → ⊥) → 0 < level
not_leaf size level start within out =
    elim (cases_lt 0 level) [
      | inl above ↦ above
      | inr low ↦ let leaf : level ≡ 0 = omega arith in absurd (out (rw
          leaf (omega arith, omega arith)))
    ]
