-- The equations of the least pruned tree, and that it is a pruning.
use Rattle.std.proofs.Common.{◌≡◌, ℕ, zero, suc, ◌-◌, ◌^◌, ◌<◌, ◌≤◌, Bool, true, false, ◌&&◌, ◌||◌, List, [], length, take, drop, get_or, refl, inl, inr, arith}
use Rattle.std.specs.Prelude.{map, nat_lt}
use Rattle.std.proofs.lemmas.Bool.{cases_Bool, cases_lt, lt-ltb, le-ltb, ltb-true, and_parts, or_cases, or_parts}
use Rattle.std.proofs.lemmas.List.{length-drop, length-take-le}
use Rattle.std.proofs.lemmas.Nat.{pow_pos}
use Rattle.std.proofs.Math.Nat.{pow-suc}
use Rattle.fr_digest.specs.Digest.{Digest}
use Rattle.tree_model.specs.History.{part}
use Rattle.hist_proof.specs.Pruned.{Tree, hidden, leaf, node, single, PrunesAt}
use Rattle.hist_proof.proofs.Prunings.{one_text}
use Rattle.tree_prune.specs.LeastHistory.{any, inside, least}

-- ---- its equations

pub least-unshown : (h : ℕ → List (List ℕ) → List ℕ) (M : List (List ℕ)) (ms : List Bool) (vs : List ℕ)
    → any ms ≡ false → least h 0 M ms vs ≡ hidden (h 0 M)
unfolding least
least-unshown h M ms vs none = rw none refl

pub least-hidden : (h : ℕ → List (List ℕ) → List ℕ) (j : ℕ) (M : List (List ℕ)) (ms : List Bool) (vs : List ℕ)
    → any ms ≡ false → inside (length M) vs ≡ false → least h j M ms vs ≡ hidden (h j M)
unfolding least
least-hidden h zero M ms vs none no_version = rw none refl
least-hidden h (suc j) M ms vs none no_version = rw (none, no_version) refl

pub least-leaf : (h : ℕ → List (List ℕ) → List ℕ) (M : List (List ℕ)) (ms : List Bool) (vs : List ℕ)
    → any ms ≡ true → least h 0 M ms vs ≡ leaf (get_or M 0 [])
unfolding least
least-leaf h M ms vs shown = rw shown refl

pub least-single : (h : ℕ → List (List ℕ) → List ℕ) (j : ℕ) (M : List (List ℕ)) (ms : List Bool) (vs : List ℕ)
    → any ms || inside (length M) vs ≡ true → length M ≤ 2 ^ j → least h (suc j) M ms vs ≡ single (least h j M ms vs)
unfolding least
least-single h j M ms vs entered few = rw (entered, le-ltb (2 ^ j) (length M) few) refl

pub least-node : (h : ℕ → List (List ℕ) → List ℕ) (j : ℕ) (M : List (List ℕ)) (ms : List Bool) (vs : List ℕ)
    → any ms || inside (length M) vs ≡ true → 2 ^ j < length M
    → least h (suc j) M ms vs ≡ node (least h j (take (2 ^ j) M) (take (2 ^ j) ms) vs) (least h j (drop (2 ^ j) M)
    (drop (2 ^ j) ms) (map (λ v. v - 2 ^ j) vs))
unfolding least
least-node h j M ms vs entered more = rw (entered, lt-ltb (2 ^ j) (length M) more) refl

-- the same at a height written as in the code

pub least-at_single : (h : ℕ → List (List ℕ)
    → List ℕ) (level : ℕ) (M : List (List ℕ)) (ms : List Bool) (vs : List ℕ) → 0 < level
    → any ms || inside (length M) vs ≡ true → length M ≤ 2 ^ (level - 1)
    → least h level M ms vs ≡ single (least h (level - 1) M ms vs)
least-at_single h zero M ms vs above entered few = absurd (omega arith)
least-at_single h (suc j) M ms vs above entered few =
    let below : suc j - 1 ≡ j = omega arith in rw below (least-single h j M ms vs entered (rw below at few))

pub least-at_node : (h : ℕ → List (List ℕ)
    → List ℕ) (level : ℕ) (M : List (List ℕ)) (ms : List Bool) (vs : List ℕ) → 0 < level
    → any ms || inside (length M) vs ≡ true → 2 ^ (level - 1) < length M
    → least h level M ms vs ≡ node (least h (level - 1) (take (2 ^ (level - 1)) M) (take (2 ^ (level - 1)) ms) vs)
    (least h (level - 1) (drop (2 ^ (level - 1)) M) (drop (2 ^ (level - 1)) ms) (map (λ v. v - 2 ^ (level - 1))
    vs))
least-at_node h zero M ms vs above entered more = absurd (omega arith)
least-at_node h (suc j) M ms vs above entered more =
    let below : suc j - 1 ≡ j = omega arith in rw below (least-node h j M ms vs entered (rw below at more))

-- the same by the test of the walk, over n texts

pub least-out : (h : ℕ → List (List ℕ) → List ℕ) (level n : ℕ) (M : List (List ℕ)) (ms : List Bool) (vs : List ℕ)
    → length M ≡ n
    → any ms || (nat_lt 0 level && inside n vs) ≡ false → least h level M ms vs ≡ hidden (h level M)
least-out h zero n M ms vs count out =
    let parts = or_parts (any ms) (nat_lt 0 0 && inside n vs) out in least-unshown h M ms vs parts.0
least-out h (suc j) n M ms vs count out =
    let parts = or_parts (any ms) (nat_lt 0 (suc j) && inside n vs) out in
    let above = lt-ltb 0 (suc j) (omega arith) in
    let none : inside n vs ≡ false = rw above at parts.1 in least-hidden h (suc j) M ms vs parts.0 (rw count none)

pub least-in_leaf : (h : ℕ → List (List ℕ)
    → List ℕ) (level n : ℕ) (M : List (List ℕ)) (ms : List Bool) (vs : List ℕ) → level ≡ 0
    → any ms || (nat_lt 0 level && inside n vs) ≡ true → least h level M ms vs ≡ leaf (get_or M 0 [])
least-in_leaf h zero n M ms vs low entered =
    elim (or_cases (any ms) (nat_lt 0 0 && inside n vs) entered) [
      | inl set ↦ least-leaf h M ms vs set
      | inr wrong ↦ let parts = and_parts (nat_lt 0 0) (inside n vs) wrong in let never = ltb-true 0 0 parts.0 in
          absurd (omega arith)
    ]
least-in_leaf h (suc j) n M ms vs low entered = absurd (omega arith)

pub entered-above : (level n : ℕ) (M : List (List ℕ)) (ms : List Bool) (vs : List ℕ) → length M ≡ n → 0 < level
    → any ms || (nat_lt 0 level && inside n vs) ≡ true → any ms || inside (length M) vs ≡ true
entered-above level n M ms vs count above entered = let test = lt-ltb 0 level above in rw count (rw test at entered)

-- ---- it prunes

prunes-hidden : (d : Digest) (j : ℕ) (M : List (List ℕ)) → PrunesAt d j (hidden (part d j M)) M
unfolding PrunesAt
prunes-hidden d zero M = refl
prunes-hidden d (suc j) M = refl

prunes-leaf : (d : Digest) (M : List (List ℕ)) → 0 < length M → length M ≤ 2 ^ 0
    → PrunesAt d 0 (leaf (get_or M 0 [])) M
unfolding PrunesAt
prunes-leaf d M some few = one_text M some few

prunes-single : (d : Digest) (j : ℕ) (l : Tree) (M : List (List ℕ)) → length M ≤ 2 ^ j → PrunesAt d j l M
    → PrunesAt d (suc j) (single l) M
unfolding PrunesAt
prunes-single d j l M few below = (few, below)

prunes-node : (d : Digest) (j : ℕ) (l r : Tree) (M : List (List ℕ)) → 2 ^ j < length M
    → PrunesAt d j l (take (2 ^ j) M) → PrunesAt d j r (drop (2 ^ j) M)
    → PrunesAt d (suc j) (node l r) M
unfolding PrunesAt
prunes-node d j l r M more left right = (more, left, right)

pub least-prunes : (d : Digest) (j : ℕ) (M : List (List ℕ)) (ms : List Bool) (vs : List ℕ) → 0 < length M
    → length M ≤ 2 ^ j
    → PrunesAt d j (least (part d) j M ms vs) M
least-prunes d zero M ms vs some few =
    elim (cases_Bool (any ms)) [
      | inl shown ↦ rw (least-leaf (part d) M ms vs shown) (prunes-leaf d M some few)
      | inr none ↦ rw (least-unshown (part d) M ms vs none) (prunes-hidden d 0 M)
    ]
least-prunes d (suc j) M ms vs some few =
    let twice = pow-suc 2 j in
    let positive = pow_pos j in
    elim (cases_Bool (any ms || inside (length M) vs)) [
      | inl entered ↦ elim (cases_lt (2 ^ j) (length M)) [
        | inl more ↦
            let left = length-take-le (2 ^ j) M (omega arith) in
            let right = length-drop (2 ^ j) M in
            rw (least-node (part d) j M ms vs entered more)
            (prunes-node d j _ _ M more
            (least-prunes d j (take (2 ^ j) M) (take (2 ^ j) ms) vs (omega arith) (omega arith))
            (least-prunes d j (drop (2 ^ j) M) (drop (2 ^ j) ms) (map (λ v. v - 2 ^ j) vs) (omega arith) (omega
            arith)))
        | inr less ↦ rw (least-single (part d) j M ms vs entered less) (prunes-single d j _ M less (least-prunes d
            j M ms vs some less))
      ]
      | inr out ↦
          let parts = or_parts (any ms) (inside (length M) vs) out in
          rw (least-hidden (part d) (suc j) M ms vs parts.0 parts.1) (prunes-hidden d (suc j) M)
    ]
