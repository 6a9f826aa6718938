-- The laws of the first difference of a pruned tree and the history tree of a list: nothing is found exactly where
-- the tree prunes the list.
use Rattle.std.proofs.Common.{◌≡◌, ◌↔◌, ℕ, zero, suc, ◌-◌, ◌^◌, ◌<◌, ◌≤◌, true, List, [], ◌∷◌, ◌++◌, length, take, drop, get_or, Option, None, Some, IsNone, refl, ap, sym, ◌∙◌, inl, inr, arith}
use Rattle.std.proofs.lemmas.Bool.{cases_lt}
use Rattle.std.proofs.lemmas.List.{length-drop, length-take-le}
use Rattle.std.proofs.lemmas.Nat.{pow_pos}
use Rattle.std.proofs.lemmas.Slice.Eq.{bytes_eq-Decides}
use Rattle.std.proofs.Math.Nat.{pow-suc}
use Rattle.std.proofs.Math.Pow.{pow_mono}
use Rattle.std.specs.Option.{option_or}
use Rattle.fr_digest.specs.Collision.{Strings, Collides}
use Rattle.fr_digest.specs.Digest.{Digest, IsDigest}
use Rattle.hist_proof.specs.Pruned.{Tree as Pruned, hidden, leaf, node as fork, single, Prunes, PrunesAt, digest_of, fits, fits_at}
use Rattle.hist_proof.specs.Shown.{HasDigests}
use Rattle.hist_proof.proofs.Fronts.{fits_node-is, fits_single-is}
use Rattle.hist_proof.proofs.Halving.{fits_at-leaf_high, fits_at-node_low, fits_at-single_low}
use Rattle.hist_proof.proofs.Prunings.{append-split, one_text, prunes_at-digest}
use Rattle.hist_proof.proofs.Trees.{fits-is}
use Rattle.tree_model.proofs.HistoryLaws.{depth-fits, depth-least, length-part, node_string-leaf, node_string-pair, node_string-single, part-leaf, part-pair, part-single, root-length, root_of_all-part}
use Rattle.tree_model.specs.History.{depth, leaf_string, node_string, pair_string, part, root, single_string}
use Rattle.tree_extract.specs.Difference.{Tree, unshown, clash_at, difference, history_tree, tree_of}
use Rattle.tree_extract.specs.PrunedDifference.{history_difference, pruned_tree}
use Rattle.tree_extract.proofs.Differences.{both_none, clash_at-equal, clash_at-none, difference-collides, difference-node, difference-unshown, option_or-none, tree_of-leaf, tree_of-pair, tree_of-single}

-- ---- the difference at each kind of node

pub pruned-hidden : (d : Digest) (x : List ℕ) (t : Tree) → difference d (pruned_tree d (hidden x)) t ≡ None
unfolding pruned_tree
pruned-hidden d x t = difference-unshown d t

pub pruned-leaf : (d : Digest) (t : List ℕ) (M : List (List ℕ)) → 0 < length M → length M ≤ 2 ^ 0
    → difference d (pruned_tree d (leaf t)) (tree_of d 0 M) ≡ clash_at d (leaf_string t) (leaf_string (get_or M 0 []))
unfolding pruned_tree
pruned-leaf d t M some few =
    let one = ap (node_string d 0) (one_text M some few) ∙ node_string-leaf d (get_or M 0 []) in
    rw (tree_of-leaf d M, difference-node, difference-unshown d unshown, one) (option_or-none (clash_at d
    (leaf_string t) (leaf_string (get_or M 0 []))))

pub pruned-single : (d : Digest) (j : ℕ) (l : Pruned) (M : List (List ℕ)) → length M ≤ 2 ^ j
    → difference d (pruned_tree d (single l)) (tree_of d (suc j) M)
    ≡ option_or (clash_at d (single_string (digest_of d l)) (single_string (part d j M))) (difference d
    (pruned_tree d l) (tree_of d j M))
unfolding pruned_tree
pruned-single d j l M few =
    rw (
      tree_of-single d j M few,
      difference-node,
      difference-unshown d unshown,
      option_or-none,
      node_string-single
          d j M few,
    ) refl

pub pruned-node : (d : Digest) (j : ℕ) (l r : Pruned) (M : List (List ℕ)) → 2 ^ j < length M
    → difference d (pruned_tree d (fork l r)) (tree_of d (suc j) M)
    ≡ option_or (clash_at d (pair_string (digest_of d l) (digest_of d r)) (pair_string (part d j (take (2 ^ j) M))
    (part d j (drop (2 ^ j) M))))
    (option_or (difference d (pruned_tree d l) (tree_of d j (take (2 ^ j) M))) (difference d (pruned_tree d r)
    (tree_of d j (drop (2 ^ j) M))))
unfolding pruned_tree
pruned-node d j l r M more = rw (tree_of-pair d j M more, difference-node, node_string-pair d j M more) refl

-- ---- what prunes

same-string : (d : Digest) (a b : List ℕ) → a ≡ b → clash_at d a b ≡ None
same-string d a b same = clash_at-equal d a b ((bytes_eq-Decides a b).1 same)

pub prunes-none : (d : Digest) (j : ℕ) (p : Pruned) (M : List (List ℕ)) → 0 < length M → length M ≤ 2 ^ j
    → PrunesAt d j p M
    → difference d (pruned_tree d p) (tree_of d j M) ≡ None
unfolding PrunesAt
prunes-none d zero (hidden x) M some few h = pruned-hidden d x (tree_of d 0 M)
prunes-none d (suc j) (hidden x) M some few h = pruned-hidden d x (tree_of d (suc j) M)
prunes-none d zero (leaf t) M some few h =
    let text : t ≡ get_or M 0 [] = ap (λ ts. get_or ts 0 []) (sym h) in
    pruned-leaf d t M some few ∙ same-string d (leaf_string t) (leaf_string (get_or M 0 [])) (ap leaf_string text)
prunes-none d (suc j) (leaf t) M some few h = absurd h
prunes-none d zero (fork l r) M some few h = absurd h
prunes-none d (suc j) (fork l r) M some few h =
    let more = h.0 in
    let twice = pow-suc 2 j in
    let positive = pow_pos j in
    let front = length-take-le (2 ^ j) M (omega arith) in
    let back = length-drop (2 ^ j) M in
    let left = prunes-none d j l (take (2 ^ j) M) (omega arith) (omega arith) h.1 in
    let right = prunes-none d j r (drop (2 ^ j) M) (omega arith) (omega arith) h.2 in
    let strings : pair_string (digest_of d l) (digest_of d r) ≡ pair_string (part d j (take (2 ^ j) M)) (part d j
    (drop (2 ^ j) M)) =
    ap (λ x. pair_string x (digest_of d r)) (prunes_at-digest d j l (take (2 ^ j) M) h.1)
    ∙ ap (λ x. pair_string (part d j (take (2 ^ j) M)) x) (prunes_at-digest d j r (drop (2 ^ j) M) h.2) in
    rw (pruned-node d j l r M more, same-string d _ _ strings, left, right) refl
prunes-none d zero (single l) M some few h = absurd h
prunes-none d (suc j) (single l) M some few h =
    let strings : single_string (digest_of d l) ≡ single_string (part d j M) = ap single_string (prunes_at-digest d
    j l M h.1) in
    rw (pruned-single d j l M h.0, same-string d _ _ strings, prunes-none d j l M some h.0 h.1) refl

-- ---- what nothing is found in

length-pruned : (d : Digest) → ((m : List ℕ) → IsDigest (d m)) → (p : Pruned) → HasDigests p
    → IsDigest (digest_of d p)
unfolding digest_of HasDigests
length-pruned d sized (hidden x) h = h
length-pruned d sized (leaf t) h = sized (leaf_string t)
length-pruned d sized (fork l r) h = sized (pair_string (digest_of d l) (digest_of d r))
length-pruned d sized (single l) h = sized (single_string (digest_of d l))

pub none-prunes : (d : Digest) → ((m : List ℕ) → IsDigest (d m)) → (j : ℕ) (p : Pruned) (M : List (List ℕ))
    → HasDigests p → 0 < length M → length M ≤ 2 ^ j
    → fits_at j p (length M) ≡ true → digest_of d p ≡ part d j M
    → difference d (pruned_tree d p) (tree_of d j M) ≡ None → PrunesAt d j p M
unfolding PrunesAt digest_of HasDigests
none-prunes d sized zero (hidden x) M held some few fitting agree nothing = agree
none-prunes d sized (suc j) (hidden x) M held some few fitting agree nothing = agree
none-prunes d sized zero (leaf t) M held some few fitting agree nothing =
    let one = one_text M some few in
    let digests : d (leaf_string t) ≡ d (leaf_string (get_or M 0 [])) = agree ∙ ap (part d 0) one
    ∙ part-leaf d (get_or M 0 []) in
    let strings = clash_at-none d (leaf_string t) (leaf_string (get_or M 0 [])) digests (sym (pruned-leaf d t M
    some few) ∙ nothing) in
    let text : get_or M 0 [] ≡ t = cc in one ∙ ap (λ (u : List ℕ). u ∷ []) text
none-prunes d sized (suc j) (leaf t) M held some few fitting agree nothing =
    let wrong = fits_at-leaf_high (suc j) t (length M) (omega arith) in absurd cc
none-prunes d sized zero (fork l r) M held some few fitting agree nothing =
    let wrong = fits_at-node_low 0 l r (length M) refl in absurd cc
none-prunes d sized (suc j) (fork l r) M held some few fitting agree nothing =
    let parts = fits_node-is j l r (length M) fitting in
    let more = parts.more in
    let twice = pow-suc 2 j in
    let positive = pow_pos j in
    let front = length-take-le (2 ^ j) M (omega arith) in
    let back = length-drop (2 ^ j) M in
    let a = part d j (take (2 ^ j) M) in
    let b = part d j (drop (2 ^ j) M) in
    let here = both_none (clash_at d (pair_string (digest_of d l) (digest_of d r)) (pair_string a b))
    (option_or (difference d (pruned_tree d l) (tree_of d j (take (2 ^ j) M))) (difference d (pruned_tree d r)
    (tree_of d j (drop (2 ^ j) M))))
    (sym (pruned-node d j l r M more) ∙ nothing) in
    let below = both_none (difference d (pruned_tree d l) (tree_of d j (take (2 ^ j) M))) (difference d
    (pruned_tree d r) (tree_of d j (drop (2 ^ j) M))) here.1 in
    let strings : pair_string (digest_of d l) (digest_of d r) ≡ pair_string a b =
    clash_at-none d (pair_string (digest_of d l) (digest_of d r)) (pair_string a b) (agree
    ∙ part-pair d j M more) here.0 in
    let joined : digest_of d l ++ digest_of d r ≡ a ++ b = cc in
    let same = append-split (digest_of d l) (digest_of d r) a b (length-pruned d sized l held.0
    ∙ sym (length-part d sized j (take (2 ^ j) M))) joined in (
      more,
      none-prunes d sized j l (take (2 ^ j) M) held.0 (omega arith) (omega arith) (rw front parts.left) same.0
          below.0,
      none-prunes d sized j r (drop (2 ^ j) M) held.1 (omega arith) (omega arith) (rw back parts.right) same.1
          below.1,
    )
none-prunes d sized zero (single l) M held some few fitting agree nothing =
    let wrong = fits_at-single_low 0 l (length M) refl in absurd cc
none-prunes d sized (suc j) (single l) M held some few fitting agree nothing =
    let parts = fits_single-is j l (length M) fitting in
    let here = both_none (clash_at d (single_string (digest_of d l)) (single_string (part d j M))) (difference d
    (pruned_tree d l) (tree_of d j M))
    (sym (pruned-single d j l M parts.few) ∙ nothing) in
    let strings : single_string (digest_of d l) ≡ single_string (part d j M) =
    clash_at-none d (single_string (digest_of d l)) (single_string (part d j M)) (agree
    ∙ part-single d j M parts.few) here.0 in
    let same : digest_of d l ≡ part d j M = cc in
    (parts.few, none-prunes d sized j l M held some parts.few parts.left same here.1)

-- ---- a pruned tree and a list

pub history_difference-at : (d : Digest) (p : Pruned) (M : List (List ℕ))
    → history_difference d p M ≡ difference d (pruned_tree d p) (tree_of d (depth (length M)) M)
unfolding history_difference history_tree
history_difference-at d p M = refl

pub history_difference-collides : (d : Digest) (p : Pruned) (M : List (List ℕ)) (found : Strings)
    → history_difference d p M ≡ Some found → Collides d found
unfolding history_difference
history_difference-collides d p M found is = difference-collides d (pruned_tree d p) (history_tree d M) found is

pub history_difference-prunes : (d : Digest) (p : Pruned) (M : List (List ℕ)) → Prunes d p M
    → history_difference d p M ≡ None
history_difference-prunes d p M h =
    history_difference-at d p M ∙ prunes-none d (depth (length M)) p M h.some (depth-fits (length M)) h.parts

pub history_difference-none : (d : Digest) → ((m : List ℕ) → IsDigest (d m)) → (p : Pruned) (M : List (List ℕ))
    → HasDigests p → fits p (length M) ≡ true
    → digest_of d p ≡ root d M (length M) → history_difference d p M ≡ None → Prunes d p M
history_difference-none d sized p M held fitting agree nothing =
    let size = fits-is p (length M) fitting in
    record {
      some = size.some;
      parts = none-prunes d sized (depth (length M)) p M held size.some (depth-fits (length M)) size.parts
          (agree ∙ root-length d M ∙ root_of_all-part d M) (sym (history_difference-at d p M) ∙ nothing);
    }

pub history_difference-decides : (d : Digest) → ((m : List ℕ) → IsDigest (d m))
    → (p : Pruned) (M : List (List ℕ)) → HasDigests p → fits p (length M) ≡ true
    → digest_of d p ≡ root d M (length M) → (found : Option Strings) → found ≡ history_difference d p M
    → IsNone found ↔ Prunes d p M
history_difference-decides d sized p M held fitting agree None is =
    ((λ none. history_difference-none d sized p M held fitting agree (sym is)), (λ h. refl))
history_difference-decides d sized p M held fitting agree (Some found) is =
    ((λ none. cc), (λ h. let nothing = history_difference-prunes d p M h in cc))

-- ---- nodes above the tree of their texts

-- no height below a tree's holds its texts
pub height-is : (level n : ℕ) → n ≤ 2 ^ level → level ≤ depth n → level ≡ depth n
height-is level n few low =
    elim (cases_lt level (depth n)) [
      | inl less ↦ let more = depth-least n level less in absurd (omega arith)
      | inr
          le ↦ omega arith
    ]

-- above the height of its texts' tree a node has no right half
pub part-above : (d : Digest) (level : ℕ) (M : List (List ℕ)) → depth (length M) < level
    → part d level M ≡ d (single_string (part d (level - 1) M))
part-above d zero M above = absurd (omega arith)
part-above d (suc j) M above =
    let below : suc j - 1 ≡ j = omega arith in
    let fits = depth-fits (length M) in
    let wide = pow_mono {i = depth (length M)} {j = j} (omega arith) in
    rw below (part-single d j M (omega arith))

pub fits-above : (level : ℕ) (M : List (List ℕ)) → depth (length M) < level → length M ≤ 2 ^ (level - 1)
fits-above level M above =
    let fits = depth-fits (length M) in
    let wide = pow_mono {i = depth (length M)} {j = level - 1} (omega arith) in omega arith

-- ---- what the walk knows and finds at each kind of node

pub leaf-level : (level : ℕ) (t : List ℕ) (n : ℕ) → fits_at level (leaf t) n ≡ true → level ≡ 0
leaf-level zero t n h = refl
leaf-level (suc j) t n h = let wrong = fits_at-leaf_high (suc j) t n (omega arith) in absurd cc

pub record IsFork (level : ℕ) (l r : Pruned) (n : ℕ) : Type 0 where
  pub above : 0 < level
  pub more : 2 ^ (level - 1) < n
  pub left : fits_at (level - 1) l (2 ^ (level - 1)) ≡ true
  pub right : fits_at (level - 1) r (n - 2 ^ (level - 1)) ≡ true

pub fork-is : (level : ℕ) (l r : Pruned) (n : ℕ) → fits_at level (fork l r) n ≡ true → IsFork level l r n
fork-is zero l r n h = let wrong = fits_at-node_low 0 l r n refl in absurd cc
fork-is (suc j) l r n h =
    let parts = fits_node-is j l r n h in
    let below : suc j - 1 ≡ j = omega arith in
    record {
      above = omega arith;
      more = rw below parts.more;
      left = rw below parts.left;
      right = rw below
          parts.right;
    }

pub record IsOnly (level : ℕ) (l : Pruned) (n : ℕ) : Type 0 where
  pub above : 0 < level
  pub few : n ≤ 2 ^ (level - 1)
  pub left : fits_at (level - 1) l n ≡ true

pub only-is : (level : ℕ) (l : Pruned) (n : ℕ) → fits_at level (single l) n ≡ true → IsOnly level l n
only-is zero l n h = let wrong = fits_at-single_low 0 l n refl in absurd cc
only-is (suc j) l n h =
    let parts = fits_single-is j l n h in
    let below : suc j - 1 ≡ j = omega arith in
    record { above = omega arith; few = rw below parts.few; left = rw below parts.left }

pub held-hidden : (x : List ℕ) → IsDigest x → HasDigests (hidden x)
unfolding HasDigests
held-hidden x h = h

pub held-leaf : (t : List ℕ) → HasDigests (leaf t)
unfolding HasDigests
held-leaf t = tt

pub held-single : (l : Pruned) → HasDigests l → HasDigests (single l)
unfolding HasDigests
held-single l h = h

pub held-fork : (l r : Pruned) → HasDigests l → HasDigests r → HasDigests (fork l r)
unfolding HasDigests
held-fork l r a b = (a, b)

pub hidden-digest : (d : Digest) (x : List ℕ) → digest_of d (hidden x) ≡ x
unfolding digest_of
hidden-digest d x = refl

pub leaf-digest : (d : Digest) (t x : List ℕ) → x ≡ d (leaf_string t) → x ≡ digest_of d (leaf t)
unfolding digest_of
leaf-digest d t x is = is

pub single-digest : (d : Digest) (l : Pruned) (a x : List ℕ) → x ≡ d (single_string a) → a ≡ digest_of d l
    → x ≡ digest_of d (single l)
unfolding digest_of
single-digest d l a x is left = is ∙ ap (λ y. d (single_string y)) left

pub fork-digest : (d : Digest) (l r : Pruned) (a b x : List ℕ) → x ≡ d (pair_string a b) → a ≡ digest_of d l
    → b ≡ digest_of d r
    → x ≡ digest_of d (fork l r)
unfolding digest_of
fork-digest d l r a b x is left right =
    is ∙ ap (λ y. d (pair_string y b)) left ∙ ap (λ y. d (pair_string (digest_of d l) y)) right

pub leaf-part : (d : Digest) (level : ℕ) (M : List (List ℕ)) (u x : List ℕ) → level ≡ 0 → 0 < length M
    → length M ≤ 2 ^ level → u ≡ get_or M 0 []
    → x ≡ d (leaf_string u) → x ≡ part d level M
leaf-part d level M u x bottom some few first is =
    let one = one_text M some (rw bottom at few) in
    rw bottom (is ∙ ap (λ y. d (leaf_string y)) first ∙ sym (ap (part d 0) one ∙ part-leaf d (get_or M 0 [])))

pub single-part : (d : Digest) (level : ℕ) (M : List (List ℕ)) (b x : List ℕ) → 0 < level → length M ≤ 2 ^ (level - 1)
    → x ≡ d (single_string b) → b ≡ part d (level - 1) M → x ≡ part d level M
single-part d zero M b x above few is left = absurd (omega arith)
single-part d (suc j) M b x above few is left =
    let below : suc j - 1 ≡ j = omega arith in
    is ∙ ap (λ y. d (single_string y)) (rw below at left) ∙ sym (part-single d j M (rw below at few))

pub fork-part : (d : Digest) (level : ℕ) (M : List (List ℕ)) (a b x : List ℕ) → 0 < level → 2 ^ (level - 1) < length M
    → x ≡ d (pair_string a b) → a ≡ part d (level - 1) (take (2 ^ (level - 1)) M)
    → b ≡ part d (level - 1) (drop (2 ^ (level - 1)) M) → x ≡ part d level M
fork-part d zero M a b x above more is left right = absurd (omega arith)
fork-part d (suc j) M a b x above more is left right =
    let below : suc j - 1 ≡ j = omega arith in
    is ∙ ap (λ y. d (pair_string y b)) (rw below at left)
    ∙ ap (λ y. d (pair_string (part d j (take (2 ^ j) M)) y)) (rw below at right)
    ∙ sym (part-pair d j M (rw below at more))

pub leaf-found : (d : Digest) (level : ℕ) (t u : List ℕ) (M : List (List ℕ)) (o : Option Strings) → level ≡ 0
    → 0 < length M → length M ≤ 2 ^ level
    → u ≡ get_or M 0 [] → o ≡ option_or (clash_at d (leaf_string t) (leaf_string u)) None
    → o ≡ difference d (pruned_tree d (leaf t)) (tree_of d level M)
leaf-found d level t u M o bottom some few first is =
    rw bottom (is ∙ option_or-none (clash_at d (leaf_string t) (leaf_string u))
    ∙ ap (λ y. clash_at d (leaf_string t) (leaf_string y)) first
    ∙ sym (pruned-leaf d t M some (rw bottom at few)))

pub single-found : (d : Digest) (level : ℕ) (l : Pruned) (M : List (List ℕ)) (a b : List ℕ) (o below : Option
    Strings) → 0 < level
    → length M ≤ 2 ^ (level - 1) → a ≡ digest_of d l → b ≡ part d (level - 1) M
    → o ≡ option_or (clash_at d (single_string a) (single_string b)) below
    → below ≡ difference d (pruned_tree d l) (tree_of d (level - 1) M)
    → o ≡ difference d (pruned_tree d (single l)) (tree_of d level M)
single-found d zero l M a b o under above few one two is found = absurd (omega arith)
single-found d (suc j) l M a b o under above few one two is found =
    let below : suc j - 1 ≡ j = omega arith in
    is ∙ ap (λ y. option_or (clash_at d (single_string y) (single_string b)) under) one
    ∙ ap (λ y. option_or (clash_at d (single_string (digest_of d l)) (single_string y)) under) (rw below at two)
    ∙ ap (λ y. option_or (clash_at d (single_string (digest_of d l)) (single_string (part d j M))) y) (rw below at
    found)
    ∙ sym (pruned-single d j l M (rw below at few))

pub fork-found : (d : Digest) (level : ℕ) (l r : Pruned) (M : List (List ℕ)) (a b a' b' : List ℕ) (o under : Option
    Strings) → 0 < level
    → 2 ^ (level - 1) < length M → a ≡ digest_of d l → b ≡ digest_of d r
    → a' ≡ part d (level - 1) (take (2 ^ (level - 1)) M)
    → b' ≡ part d (level - 1) (drop (2 ^ (level - 1)) M)
    → o ≡ option_or (clash_at d (pair_string a b) (pair_string a' b')) under
    → under ≡ option_or (difference d (pruned_tree d l) (tree_of d (level - 1) (take (2 ^ (level - 1)) M)))
    (difference d (pruned_tree d r) (tree_of d (level - 1) (drop (2 ^ (level - 1)) M)))
    → o ≡ difference d (pruned_tree d (fork l r)) (tree_of d level M)
fork-found d zero l r M a b a' b' o under above more one two three four is found = absurd (omega arith)
fork-found d (suc j) l r M a b a' b' o under above more one two three four is found =
    let below : suc j - 1 ≡ j = omega arith in
    let left : a' ≡ part d j (take (2 ^ j) M) = rw below at three in
    let right : b' ≡ part d j (drop (2 ^ j) M) = rw below at four in
    let strings : pair_string a b ≡ pair_string (digest_of d l) (digest_of d r) = ap (λ y. pair_string y b) one
    ∙ ap (λ y. pair_string (digest_of d l) y) two in
    let strings' : pair_string a' b' ≡ pair_string (part d j (take (2 ^ j) M)) (part d j (drop (2 ^ j) M)) =
    ap (λ y. pair_string y b') left ∙ ap (λ y. pair_string (part d j (take (2 ^ j) M)) y) right in
    is ∙ ap (λ y. option_or (clash_at d y (pair_string a' b')) under) strings
    ∙ ap (λ y. option_or (clash_at d (pair_string (digest_of d l) (digest_of d r)) y) under) strings'
    ∙ ap (λ y. option_or (clash_at d (pair_string (digest_of d l) (digest_of d r)) (pair_string (part d j (take (2
    ^ j) M)) (part d j (drop (2 ^ j) M)))) y) (rw below at found)
    ∙ sym (pruned-node d j l r M (rw below at more))
