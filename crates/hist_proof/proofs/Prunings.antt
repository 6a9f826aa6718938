-- What prunes a list: its size, its digest, the texts that it shows, and what is cut of it.
use Rattle.std.proofs.Common.{◌≡◌, ℕ, zero, suc, ◌+◌, ◌-◌, ◌^◌, ◌<◌, ◌≤◌, true, List, [], ◌∷◌, ◌++◌, length, take, drop, get_or, Some, refl, ap, sym, ◌∙◌, inl, inr, arith}
use Rattle.std.proofs.lemmas.Bool.{and_from, cases_lt, lt-ltb, le-ltb}
use Rattle.std.proofs.lemmas.List.{drop-take, get_or-drop, get_or-take, length-drop, length-take-le, take-take, take_all}
use Rattle.std.proofs.Math.Pow.{pow_mono}
use Rattle.fr_digest.specs.Digest.{Digest}
use Rattle.tree_model.proofs.HistoryLaws.{depth-is, depth-one, part-leaf, part-pair, part-single}
use Rattle.tree_model.specs.History.{depth, part}
use Rattle.hist_proof.specs.Pruned.{Tree, hidden, leaf, node, single, PrunesAt, cut_at, cut_in, digest_of, fits_at, in_left}
use Rattle.hist_proof.specs.Shown.{shown_at}
use Rattle.hist_proof.proofs.Halving.{cut_at-all, cut_at-hidden_not, cut_at-left_inv, cut_at-low_not, cut_at-right_inv, cut_at-single_inv, cut_in-down, cut_in-low, cut_in-up, fits_at-hidden, fits_at-leaf_low, fits_at-node, fits_at-single}

-- ---- lists

pub drop-take-le : {A : Type 0} (n v : ℕ) (xs : List A) → n ≤ v → drop n (take v xs) ≡ take (v - n) (drop n xs)
drop-take-le n v xs le =
    let whole : n + (v - n) ≡ v = omega arith in ap (λ k. drop n (take k xs)) (sym whole) ∙ drop-take n (v - n) xs

pub one_text : (M : List (List ℕ)) → 0 < length M → length M ≤ 2 ^ 0 → M ≡ get_or M 0 [] ∷ []
one_text [] some fits = absurd (omega arith)
one_text (text ∷ []) some fits = refl
one_text (text ∷ (other ∷ texts)) some fits = absurd (omega arith)

pub append-split : (xs ys xs' ys' : List ℕ) → length xs ≡ length xs' → xs ++ ys ≡ xs' ++ ys' → (xs ≡ xs') × (ys ≡ ys')
append-split [] ys [] ys' same joined = (refl, joined)
append-split [] ys (x' ∷ xs') ys' same joined = absurd (omega arith)
append-split (x ∷ xs) ys [] ys' same joined = absurd (omega arith)
append-split (x ∷ xs) ys (x' ∷ xs') ys' same joined =
    let head : x ≡ x' = cc in
    let tail : xs ++ ys ≡ xs' ++ ys' = cc in
    let parts = append-split xs ys xs' ys' (omega arith) tail in
    let front = parts.0 in
    let back = parts.1 in (cc, back)

-- ---- the size

pub prunes_at-fits : (d : Digest) (j : ℕ) (p : Tree) (M : List (List ℕ)) → PrunesAt d j p M
    → fits_at j p (length M) ≡ true
unfolding PrunesAt
prunes_at-fits d zero (hidden x) M h = fits_at-hidden 0 x (length M)
prunes_at-fits d (suc j) (hidden x) M h = fits_at-hidden (suc j) x (length M)
prunes_at-fits d zero (leaf t) M h = fits_at-leaf_low 0 t (length M) refl
prunes_at-fits d (suc j) (leaf t) M h = absurd h
prunes_at-fits d zero (node l r) M h = absurd h
prunes_at-fits d (suc j) (node l r) M h =
    let left = prunes_at-fits d j l (take (2 ^ j) M) h.1 in
    let right = prunes_at-fits d j r (drop (2 ^ j) M) h.2 in
    let more = h.0 in
    let len = length-take-le (2 ^ j) M (omega arith) in
    let rest = length-drop (2 ^ j) M in
    fits_at-node j l r (length M) h.0 ∙ and_from _ _ (rw len at left) (rw rest at right)
prunes_at-fits d zero (single l) M h = absurd h
prunes_at-fits d (suc j) (single l) M h = fits_at-single j l (length M) h.0 ∙ prunes_at-fits d j l M h.1

-- ---- the digest

pub prunes_at-digest : (d : Digest) (j : ℕ) (p : Tree) (M : List (List ℕ)) → PrunesAt d j p M
    → digest_of d p ≡ part d j M
unfolding PrunesAt digest_of
prunes_at-digest d zero (hidden x) M h = h
prunes_at-digest d (suc j) (hidden x) M h = h
prunes_at-digest d zero (leaf t) M h = rw h (sym (part-leaf d t))
prunes_at-digest d (suc j) (leaf t) M h = absurd h
prunes_at-digest d zero (node l r) M h = absurd h
prunes_at-digest d (suc j) (node l r) M h =
    let left = prunes_at-digest d j l (take (2 ^ j) M) h.1 in
    let right = prunes_at-digest d j r (drop (2 ^ j) M) h.2 in
    rw (left, right) (sym (part-pair d j M h.0))
prunes_at-digest d zero (single l) M h = absurd h
prunes_at-digest d (suc j) (single l) M h =
    let left = prunes_at-digest d j l M h.1 in rw left (sym (part-single d j M h.0))

-- ---- what is shown is the list's

pub prunes_at-shown : (d : Digest) (j : ℕ) (p : Tree) (M : List (List ℕ)) (k : ℕ) (t : List ℕ)
    → PrunesAt d j p M → k < length M → shown_at j p k ≡ Some t → t ≡ get_or M k []
unfolding PrunesAt shown_at
prunes_at-shown d zero (hidden x) M k t h within e = absurd cc
prunes_at-shown d (suc j) (hidden x) M k t h within e = absurd cc
prunes_at-shown d zero (leaf u) M k t h within e =
    let same : u ≡ t = cc in
    let one : length M ≡ 1 = ap length h in
    let first : k ≡ 0 = omega arith in
    rw (first, h) (sym same)
prunes_at-shown d (suc j) (leaf u) M k t h within e = absurd h
prunes_at-shown d zero (node l r) M k t h within e = absurd h
prunes_at-shown d (suc j) (node l r) M k t h within e =
    let more = h.0 in
    elim (cases_lt k (2 ^ j)) [
      | inl low ↦
          let len = length-take-le (2 ^ j) M (omega arith) in
          prunes_at-shown d j l (take (2 ^ j) M) k t h.1 (omega arith) (rw (lt-ltb k (2 ^ j) low) at e) ∙ get_or-take (2 ^ j) M k [] low
      | inr high ↦
          let len = length-drop (2 ^ j) M in
          let place : 2 ^ j + (k - 2 ^ j) ≡ k = omega arith in
          prunes_at-shown d j r (drop (2 ^ j) M) (k - 2 ^ j) t h.2 (omega arith) (rw (le-ltb k (2 ^ j) high) at e)
          ∙ get_or-drop (2 ^ j) M (k - 2 ^ j) [] ∙ ap (λ i. get_or M i []) place
    ]
prunes_at-shown d zero (single l) M k t h within e = absurd h
prunes_at-shown d (suc j) (single l) M k t h within e = prunes_at-shown d j l M k t h.1 within e

-- ---- what is cut

pub prunes_at-cut : (d : Digest) (j : ℕ) (p : Tree) (M : List (List ℕ)) (v : ℕ) (c : Tree) → v ≤ length M
    → PrunesAt d j p M → cut_at j p (length M) v ≡ Some c → PrunesAt d j c (take v M)
unfolding PrunesAt
prunes_at-cut d zero p M v c within h e =
    elim (cases_lt v (length M)) [
      | inl short ↦ absurd (cut_at-low_not p (length M) v c short e)
      | inr all ↦ rw (← cut_at-all 0 p (length M) v c all e, take_all v M all) h
    ]
prunes_at-cut d (suc j) (hidden x) M v c within h e =
    elim (cases_lt v (length M)) [
      | inl short ↦ absurd (cut_at-hidden_not (suc j) x (length M) v c short e)
      | inr all ↦ rw (← cut_at-all (suc j) (hidden x) (length M) v c all e, take_all v M all) h
    ]
prunes_at-cut d (suc j) (leaf t) M v c within h e = absurd h
prunes_at-cut d (suc j) (node l r) M v c within h e =
    elim (cases_lt v (length M)) [
      | inl short ↦
          let more = h.0 in
          let front = length-take-le v M within in
          elim (cases_lt (2 ^ j) v) [
            | inl high ↦
                let inv = cut_at-right_inv j l r (length M) v c short high e in
                let rest = length-drop (2 ^ j) M in
                let back = prunes_at-cut d j r (drop (2 ^ j) M) (v - 2 ^ j) inv.0 (omega arith) h.2 (rw (← rest) at inv.1) in
                rw (← inv.2) (rw front high, rw (take-take (2 ^ j) v M (omega arith)) (h.1), rw (drop-take-le (2 ^ j) v M (omega arith)) back)
            | inr low ↦
                let inv = cut_at-left_inv j l r (length M) v c short low e in
                let len = length-take-le (2 ^ j) M (omega arith) in
                let left = prunes_at-cut d j l (take (2 ^ j) M) v inv.0 (omega arith) h.1 (rw (← len) at inv.1) in
                rw (← inv.2) (rw front low, rw (take-take v (2 ^ j) M low) at left)
          ]
      | inr all ↦ rw (← cut_at-all (suc j) (node l r) (length M) v c all e, take_all v M all) h
    ]
prunes_at-cut d (suc j) (single l) M v c within h e =
    elim (cases_lt v (length M)) [
      | inl short ↦
          let few = h.0 in
          let front = length-take-le v M within in
          let inv = cut_at-single_inv j l (length M) v c short e in
          rw (← inv.2) (rw front (omega arith), prunes_at-cut d j l M v inv.0 within h.1 inv.1)
      | inr all ↦ rw (← cut_at-all (suc j) (single l) (length M) v c all e, take_all v M all) h
    ]

-- the height of a version that goes past the left half of a tree
pub depth-past : (j v : ℕ) → 2 ^ j < v → v ≤ 2 ^ suc j → depth v ≡ suc j
depth-past j v high fits =
    depth-is v (suc j) fits (λ i less. let smaller = pow_mono {i = i} {j = j} (omega arith) in omega arith)

-- a version of one position
pub depth-first : (n v : ℕ) → 0 < v → v ≤ n → n ≤ 2 ^ 0 → depth v ≡ 0
depth-first n v some within fits = let one : v ≡ 1 = omega arith in rw one depth-one

-- a version that the left half holds, where the law stands for the left half
prunes_at-in_left : (d : Digest) (j : ℕ) (p : Tree) (M : List (List ℕ)) (v : ℕ) (c : Tree) → 0 < v → v ≤ 2 ^ j
    → PrunesAt d (suc j) p M
    → ((l : Tree) (N : List (List ℕ)) → length N ≡ 2 ^ j → PrunesAt d j l N → cut_in j l (length N) v ≡ Some c → PrunesAt d (depth v) c (take v N))
    → in_left (λ l. cut_in j l (2 ^ j) v) p ≡ Some c → PrunesAt d (depth v) c (take v M)
unfolding PrunesAt
prunes_at-in_left d j (hidden x) M v c some low h left e = absurd cc
prunes_at-in_left d j (leaf t) M v c some low h left e = absurd cc
prunes_at-in_left d j (node l r) M v c some low h left e =
    let more = h.0 in
    let len = length-take-le (2 ^ j) M (omega arith) in
    rw (take-take v (2 ^ j) M low) at (left l (take (2 ^ j) M) len h.1 (rw (← len) at e))
prunes_at-in_left d j (single l) M v c some low h left e = absurd cc

pub prunes_at-cut_in : (d : Digest) (j : ℕ) (p : Tree) (M : List (List ℕ)) (v : ℕ) (c : Tree) → 0 < v
    → v ≤ length M → length M ≤ 2 ^ j → PrunesAt d j p M → cut_in j p (length M) v ≡ Some c
    → PrunesAt d (depth v) c (take v M)
prunes_at-cut_in d zero p M v c some within fits h e =
    rw (depth-first (length M) v some within fits) (prunes_at-cut d 0 p M v c within h (sym (cut_in-low 0 p (length M) v refl) ∙ e))
prunes_at-cut_in d (suc j) p M v c some within fits h e =
    elim (cases_lt (2 ^ j) v) [
      | inl high ↦ rw (depth-past j v high (omega arith)) (prunes_at-cut d (suc j) p M v c within h (sym (cut_in-up j p (length M) v high) ∙ e))
      | inr low ↦ prunes_at-in_left d j p M v c some low h (λ l N len inner e'. prunes_at-cut_in d j l N v c some (omega arith) (omega arith) inner e') (sym (cut_in-down j p (length M) v low) ∙ e)
    ]
