-- When a pruned tree prunes a list: where their digests agree, where it shows the whole list, and where what is
-- cut of it prunes the front of the list and it shows the rest.
use Rattle.std.proofs.Common.{◌≡◌, ◌⊎◌, ℕ, zero, suc, ◌+◌, ◌-◌, ◌^◌, ◌<◌, ◌≤◌, true, List, [], ◌∷◌, ◌++◌, length, take, drop, get_or, Some, refl, ap, sym, ◌∙◌, inl, inr, arith}
use Rattle.std.proofs.lemmas.Bool.{cases_Bool, cases_lt, lt-ltb, le-ltb}
use Rattle.std.proofs.lemmas.Bool.Decides.{not_from_Decides}
use Rattle.std.proofs.lemmas.List.{get_or-drop, get_or-take, length-drop, length-take-le, take-take, take_all}
use Rattle.std.proofs.lemmas.Nat.{pow_pos}
use Rattle.std.proofs.lemmas.Slice.Eq.{bytes_eq-Decides}
use Rattle.std.proofs.Math.Nat.{pow-suc}
use Rattle.std.specs.Str.{bytes_eq}
use Rattle.fr_digest.specs.Digest.{Digest, IsDigest}
use Rattle.tree_model.proofs.HistoryLaws.{length-part, part-leaf, part-pair, part-single}
use Rattle.tree_model.specs.History.{depth, leaf_string, pair_string, part, single_string}
use Rattle.hist_proof.specs.Pruned.{Tree, hidden, leaf, node, single, PrunesAt, cut_at, cut_in, digest_of, fits_at}
use Rattle.hist_proof.specs.Shown.{HasCollision, HasDigests, shown_at}
use Rattle.hist_proof.proofs.Fronts.{fits_node-is, fits_single-is, left_some}
use Rattle.hist_proof.proofs.Halving.{cut_at-all, cut_at-hidden_not, cut_at-left_inv, cut_at-right_inv, cut_at-single_inv, cut_in-down, cut_in-low, cut_in-up, fits_at-leaf_high, fits_at-node_low, fits_at-single_low}
use Rattle.hist_proof.proofs.Prunings.{append-split, depth-first, depth-past, drop-take-le, one_text}

-- ---- equal digests

same_or_collide : (d : Digest) (a b : List ℕ) → d a ≡ d b → (a ≡ b) ⊎ HasCollision d
same_or_collide d a b agree =
    elim (cases_Bool (bytes_eq a b)) [
      | inl equal ↦ inl ((bytes_eq-Decides a b).0 equal)
      | inr differ ↦ inr (record { a = a; b = b }, record { differ = not_from_Decides (bytes_eq a b) (bytes_eq-Decides a b) differ; agree = agree })
    ]

length-digest_of : (d : Digest) → ((m : List ℕ) → IsDigest (d m)) → (p : Tree) → HasDigests p → IsDigest (digest_of d p)
unfolding digest_of HasDigests
length-digest_of d sized (hidden x) h = h
length-digest_of d sized (leaf t) h = sized (leaf_string t)
length-digest_of d sized (node l r) h = sized (pair_string (digest_of d l) (digest_of d r))
length-digest_of d sized (single l) h = sized (single_string (digest_of d l))

-- both, where there is no collision in either
both : {A B C : Type 0} → A ⊎ C → B ⊎ C → (A × B) ⊎ C
both (inl a) (inl b) = inl (a, b)
both (inl a) (inr c) = inr c
both (inr c) b = inr c

made : {A B C : Type 0} → (A → B) → A ⊎ C → B ⊎ C
made f (inl a) = inl (f a)
made f (inr c) = inr c

then : {A B C : Type 0} → A ⊎ C → (A → B ⊎ C) → B ⊎ C
then (inl a) f = f a
then (inr c) f = inr c

leaf_agrees : (d : Digest) (t : List ℕ) (M : List (List ℕ)) → 0 < length M → length M ≤ 2 ^ 0
    → digest_of d (leaf t) ≡ part d 0 M → (M ≡ t ∷ []) ⊎ HasCollision d
unfolding digest_of
leaf_agrees d t M some few agree =
    let one = one_text M some few in
    let same : d (leaf_string t) ≡ d (leaf_string (get_or M 0 [])) = agree ∙ ap (part d 0) one ∙ part-leaf d (get_or M 0 []) in
    made (λ (e : leaf_string t ≡ leaf_string (get_or M 0 [])). let text : get_or M 0 [] ≡ t =
    cc in one ∙ ap (λ (u : List ℕ). u ∷ []) text)
    (same_or_collide d (leaf_string t) (leaf_string (get_or M 0 [])) same)

-- what both halves of two nodes of one digest have in common
pair_agrees : (d : Digest) (a b a' b' : List ℕ) → length a ≡ length a'
    → d (pair_string a b) ≡ d (pair_string a' b') → ((a ≡ a') × (b ≡ b')) ⊎ HasCollision d
pair_agrees d a b a' b' len agree =
    made (λ (e : pair_string a b ≡ pair_string a' b'). let joined : a ++ b ≡ a' ++ b' =
    cc in append-split a b a' b' len joined)
    (same_or_collide d (pair_string a b) (pair_string a' b') agree)

single_agrees : (d : Digest) (a a' : List ℕ) → d (single_string a) ≡ d (single_string a') → (a ≡ a') ⊎ HasCollision d
single_agrees d a a' agree =
    made (λ (e : single_string a ≡ single_string a'). let same : a ≡ a' =
    cc in same) (same_or_collide d (single_string a) (single_string a') agree)

pub agrees_at : (d : Digest) → ((m : List ℕ) → IsDigest (d m)) → (j : ℕ) (p : Tree) (M : List (List ℕ))
    → HasDigests p → 0 < length M → length M ≤ 2 ^ j → fits_at j p (length M) ≡ true
    → digest_of d p ≡ part d j M → PrunesAt d j p M ⊎ HasCollision d
unfolding PrunesAt digest_of HasDigests
agrees_at d sized zero (hidden x) M held some few h agree = inl agree
agrees_at d sized (suc j) (hidden x) M held some few h agree = inl agree
agrees_at d sized zero (leaf t) M held some few h agree = leaf_agrees d t M some few agree
agrees_at d sized (suc j) (leaf t) M held some few h agree =
    let wrong = fits_at-leaf_high (suc j) t (length M) (omega arith) in absurd cc
agrees_at d sized zero (node l r) M held some few h agree =
    let wrong = fits_at-node_low 0 l r (length M) refl in absurd cc
agrees_at d sized (suc j) (node l r) M held some few h agree =
    let parts = fits_node-is j l r (length M) h in
    let more = parts.more in
    let twice = pow-suc 2 j in
    let positive = pow_pos j in
    let left_len = length-take-le (2 ^ j) M (omega arith) in
    let right_len = length-drop (2 ^ j) M in
    let long = length-digest_of d sized l held.0 ∙ sym (length-part d sized j (take (2 ^ j) M)) in
    then (pair_agrees d (digest_of d l) (digest_of d r) (part d j (take (2 ^ j) M)) (part d j (drop (2 ^ j) M)) long (agree ∙ part-pair d j M more))
    (λ same. made (λ (q : PrunesAt d j l (take (2 ^ j) M) × PrunesAt d j r (drop (2 ^ j) M)). (more, q.0, q.1))
    (both
    (agrees_at d sized j l (take (2 ^ j) M) held.0 (omega arith) (omega arith) (rw left_len (parts.left)) same.0)
    (agrees_at d sized j r (drop (2 ^ j) M) held.1 (omega arith) (omega arith) (rw right_len (parts.right)) same.1)))
agrees_at d sized zero (single l) M held some few h agree =
    let wrong = fits_at-single_low 0 l (length M) refl in absurd cc
agrees_at d sized (suc j) (single l) M held some few h agree =
    let parts = fits_single-is j l (length M) h in
    then (single_agrees d (digest_of d l) (part d j M) (agree ∙ part-single d j M parts.few))
    (λ same. made (λ (q : PrunesAt d j l M). (parts.few, q)) (agrees_at d sized j l M held some parts.few parts.left same))

-- ---- what shows the list

-- the texts of the list from the v-th on are shown
pub record Shows (j : ℕ) (p : Tree) (v : ℕ) (M : List (List ℕ)) : Type 0 where
  pub each : (k : ℕ) → v ≤ k → k < length M → shown_at j p k ≡ Some (get_or M k [])

to_left : (j : ℕ) (l r : Tree) (v : ℕ) (M : List (List ℕ)) → 2 ^ j < length M → Shows (suc j) (node l r) v M
    → Shows j l v (take (2 ^ j) M)
unfolding shown_at
to_left j l r v M more h = record {
  each = λ k le within.
      let len = length-take-le (2 ^ j) M (omega arith) in
      let low : k < 2 ^ j = omega arith in
      let here = h.each k le (omega arith) in
      rw (lt-ltb k (2 ^ j) low) at here ∙ ap (λ (t : List ℕ). Some t) (sym (get_or-take (2 ^ j) M k [] low));
}

to_right : (j : ℕ) (l r : Tree) (v : ℕ) (M : List (List ℕ)) → 2 ^ j < length M → Shows (suc j) (node l r) v M
    → Shows j r (v - 2 ^ j) (drop (2 ^ j) M)
unfolding shown_at
to_right j l r v M more h = record {
  each = λ k le within.
      let len = length-drop (2 ^ j) M in
      let here = h.each (2 ^ j + k) (omega arith) (omega arith) in
      let place : 2 ^ j + k - 2 ^ j ≡ k = omega arith in
      let there : shown_at j r (2 ^ j + k - 2 ^ j) ≡ Some (get_or M (2 ^ j + k) []) = rw (le-ltb (2 ^ j + k) (2 ^ j) (omega arith)) at here in
      (rw place at there) ∙ ap (λ (t : List ℕ). Some t) (sym (get_or-drop (2 ^ j) M k []));
}

to_only : (j : ℕ) (l : Tree) (v : ℕ) (M : List (List ℕ)) → Shows (suc j) (single l) v M → Shows j l v M
unfolding shown_at
to_only j l v M h = record { each = h.each }

leaf_shown : (t : List ℕ) (M : List (List ℕ)) → 0 < length M → length M ≤ 2 ^ 0 → Shows 0 (leaf t) 0 M → M ≡ t ∷ []
unfolding shown_at
leaf_shown t M some few h =
    let one = one_text M some few in
    let here = h.each 0 (omega arith) some in
    let text : get_or M 0 [] ≡ t = cc in one ∙ ap (λ (u : List ℕ). u ∷ []) text

hidden_shown : (j : ℕ) (x : List ℕ) (M : List (List ℕ)) → 0 < length M → Shows j (hidden x) 0 M → ⊥
unfolding shown_at
hidden_shown zero x M some h = let here = h.each 0 (omega arith) some in cc
hidden_shown (suc j) x M some h = let here = h.each 0 (omega arith) some in cc

from_first : (j : ℕ) (p : Tree) (v : ℕ) (M : List (List ℕ)) → v ≡ 0 → Shows j p v M → Shows j p 0 M
from_first j p v M first h = record { each = λ k le within. h.each k (omega arith) within }

pub full_at : (d : Digest) (j : ℕ) (p : Tree) (M : List (List ℕ)) → 0 < length M → length M ≤ 2 ^ j
    → fits_at j p (length M) ≡ true → Shows j p 0 M → PrunesAt d j p M
unfolding PrunesAt
full_at d zero (hidden x) M some few h shows = absurd (hidden_shown 0 x M some shows)
full_at d (suc j) (hidden x) M some few h shows = absurd (hidden_shown (suc j) x M some shows)
full_at d zero (leaf t) M some few h shows = leaf_shown t M some few shows
full_at d (suc j) (leaf t) M some few h shows =
    let wrong = fits_at-leaf_high (suc j) t (length M) (omega arith) in absurd cc
full_at d zero (node l r) M some few h shows = let wrong = fits_at-node_low 0 l r (length M) refl in absurd cc
full_at d (suc j) (node l r) M some few h shows =
    let parts = fits_node-is j l r (length M) h in
    let more = parts.more in
    let twice = pow-suc 2 j in
    let positive = pow_pos j in
    let left_len = length-take-le (2 ^ j) M (omega arith) in
    let right_len = length-drop (2 ^ j) M in
    let start : 0 - 2 ^ j ≡ 0 = omega arith in (
      more,
      full_at d j l (take (2 ^ j) M) (omega arith) (omega arith) (rw left_len (parts.left)) (to_left j l r 0 M more shows),
      full_at d j r (drop (2 ^ j) M) (omega arith) (omega arith) (rw right_len (parts.right)) (from_first j r (0 - 2 ^ j) (drop (2 ^ j) M) start (to_right j l r 0 M more shows)),
    )
full_at d zero (single l) M some few h shows = let wrong = fits_at-single_low 0 l (length M) refl in absurd cc
full_at d (suc j) (single l) M some few h shows =
    let parts = fits_single-is j l (length M) h in
    (parts.few, full_at d j l M some parts.few parts.left (to_only j l 0 M shows))

-- ---- what is cut, and the rest shown

glue_whole : (d : Digest) (j : ℕ) (p : Tree) (M : List (List ℕ)) (v : ℕ) (c : Tree) → length M ≤ v
    → cut_at j p (length M) v ≡ Some c → PrunesAt d j c (take v M) → PrunesAt d j p M
glue_whole d j p M v c all e h =
    let same = cut_at-all j p (length M) v c all e in
    let list = take_all v M all in rw (same, ← list) (h)

-- the right half, whose positions are all shown
right_shown : (d : Digest) (j : ℕ) (l r : Tree) (M : List (List ℕ)) (v : ℕ) → length M ≤ 2 ^ suc j → v ≤ 2 ^ j
    → fits_at (suc j) (node l r) (length M) ≡ true → Shows (suc j) (node l r) v M
    → PrunesAt d j r (drop (2 ^ j) M)
right_shown d j l r M v few low fitting shows =
    let parts = fits_node-is j l r (length M) fitting in
    let more = parts.more in
    let twice = pow-suc 2 j in
    let right_len = length-drop (2 ^ j) M in
    let start : v - 2 ^ j ≡ 0 = omega arith in
    full_at d j r (drop (2 ^ j) M) (omega arith) (omega arith) (rw right_len (parts.right)) (from_first j r (v - 2 ^ j) (drop (2 ^ j) M) start (to_right j l r v M more shows))

pub glue_at : (d : Digest) (j : ℕ) (p : Tree) (M : List (List ℕ)) (v : ℕ) (c : Tree) → 0 < v → v ≤ length M
    → length M ≤ 2 ^ j → fits_at j p (length M) ≡ true → cut_at j p (length M) v ≡ Some c
    → PrunesAt d j c (take v M) → Shows j p v M → PrunesAt d j p M
unfolding PrunesAt
glue_at d zero p M v c some within few fitting e h shows = glue_whole d 0 p M v c (omega arith) e h
glue_at d (suc j) (hidden x) M v c some within few fitting e h shows =
    elim (cases_lt v (length M)) [
      | inl short ↦ absurd (cut_at-hidden_not (suc j) x (length M) v c short e)
      | inr all ↦ glue_whole d (suc j) (hidden x) M v c all e h
    ]
glue_at d (suc j) (leaf t) M v c some within few fitting e h shows =
    let wrong = fits_at-leaf_high (suc j) t (length M) (omega arith) in absurd cc
glue_at d (suc j) (node l r) M v c some within few fitting e h shows =
    let parts = fits_node-is j l r (length M) fitting in
    let more = parts.more in
    let twice = pow-suc 2 j in
    elim (cases_lt v (length M)) [
      | inl short ↦ elim (cases_lt (2 ^ j) v) [
        | inl high ↦
            let inv = cut_at-right_inv j l r (length M) v c short high e in
            let right_len = length-drop (2 ^ j) M in
            let there = rw (← inv.2) at h in
            let front : PrunesAt d j l (take (2 ^ j) M) = rw (take-take (2 ^ j) v M (omega arith)) at there.1 in
            let back : PrunesAt d j inv.0 (take (v - 2 ^ j) (drop (2 ^ j) M)) = rw (drop-take-le (2 ^ j) v M (omega arith)) at there.2 in
            (more, front, glue_at d j r (drop (2 ^ j) M) (v - 2 ^ j) inv.0 (omega arith) (omega arith) (omega arith) (rw right_len (parts.right)) (rw right_len (inv.1)) back (to_right j l r v M more shows))
        | inr low ↦
            let inv = cut_at-left_inv j l r (length M) v c short low e in
            let left_len = length-take-le (2 ^ j) M (omega arith) in
            let there = rw (← inv.2) at h in
            let front : PrunesAt d j inv.0 (take v (take (2 ^ j) M)) = rw (take-take v (2 ^ j) M low) (there.1) in
            (more, glue_at d j l (take (2 ^ j) M) v inv.0 some (omega arith) (omega arith) (rw left_len (parts.left)) (rw left_len (inv.1)) front (to_left j l r v M more shows), right_shown d j l r M v few low fitting shows)
      ]
      | inr all ↦ glue_whole d (suc j) (node l r) M v c all e h
    ]
glue_at d (suc j) (single l) M v c some within few fitting e h shows =
    let parts = fits_single-is j l (length M) fitting in
    elim (cases_lt v (length M)) [
      | inl short ↦
          let inv = cut_at-single_inv j l (length M) v c short e in
          let there = rw (← inv.2) at h in
          (parts.few, glue_at d j l M v inv.0 some within parts.few parts.left inv.1 there.1 (to_only j l v M shows))
      | inr all ↦ glue_whole d (suc j) (single l) M v c all e h
    ]

-- a node of two halves, from what its halves prune
prunes_node : (d : Digest) (j : ℕ) (l r : Tree) (M : List (List ℕ)) → 2 ^ j < length M
    → PrunesAt d j l (take (2 ^ j) M) → PrunesAt d j r (drop (2 ^ j) M) → PrunesAt d (suc j) (node l r) M
unfolding PrunesAt
prunes_node d j l r M more left right = (more, left, right)

glue_left : (d : Digest) (j : ℕ) (p l r : Tree) (M : List (List ℕ)) → p ≡ node l r
    → PrunesAt d (suc j) (node l r) M → PrunesAt d (suc j) p M
glue_left d j p l r M same h = rw same h

pub glue_in : (d : Digest) (j : ℕ) (p : Tree) (M : List (List ℕ)) (v : ℕ) (c : Tree) → 0 < v → v ≤ length M
    → length M ≤ 2 ^ j → fits_at j p (length M) ≡ true → cut_in j p (length M) v ≡ Some c
    → PrunesAt d (depth v) c (take v M) → Shows j p v M → PrunesAt d j p M
glue_in d zero p M v c some within few fitting e h shows =
    glue_at d 0 p M v c some within few fitting (sym (cut_in-low 0 p (length M) v refl) ∙ e) (rw (depth-first (length M) v some within few) at h) shows
glue_in d (suc j) p M v c some within few fitting e h shows =
    elim (cases_lt (2 ^ j) v) [
      | inl high ↦ glue_at d (suc j) p M v c some within few fitting (sym (cut_in-up j p (length M) v high) ∙ e) (rw (depth-past j v high (omega arith)) at h) shows
      | inr low ↦
          let inv = left_some (λ l. cut_in j l (2 ^ j) v) p c (sym (cut_in-down j p (length M) v low) ∙ e) in
          let fitting' = rw inv.2 at fitting in
          let shows' = rw inv.2 at shows in
          let parts = fits_node-is j inv.0 inv.1 (length M) fitting' in
          let more = parts.more in
          let left_len = length-take-le (2 ^ j) M (omega arith) in
          let front : PrunesAt d (depth v) c (take v (take (2 ^ j) M)) = rw (take-take v (2 ^ j) M low) (h) in
          let left = glue_in d j inv.0 (take (2 ^ j) M) v c some (omega arith) (omega arith) (rw left_len (parts.left)) (rw left_len (inv.3)) front (to_left j inv.0 inv.1 v M more shows') in
          glue_left d j p inv.0 inv.1 M inv.2 (prunes_node d j inv.0 inv.1 M more left (right_shown d j inv.0 inv.1 M v few low fitting' shows'))
    ]
