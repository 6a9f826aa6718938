-- What is cut of a pruned tree, whether or not it prunes a list: its size, what it shows, and what is cut of it.
use Rattle.std.proofs.Common.{◌≡◌, ℕ, zero, suc, ◌-◌, ◌^◌, ◌<◌, ◌≤◌, true, Option, Some, refl, ap, sym, ◌∙◌, inl, inr, arith}
use Rattle.std.proofs.lemmas.Bool.{and_from, and_parts, cases_lt, lt-ltb, le-ltb}
use Rattle.tree_model.specs.History.{depth}
use Rattle.hist_proof.specs.Pruned.{Tree, hidden, leaf, node, single, cut_at, cut_in, fits_at, in_left}
use Rattle.hist_proof.specs.Shown.{shown_at}
use Rattle.hist_proof.proofs.Halving.{cut_at-all, cut_at-hidden_not, cut_at-leaf_not, cut_at-left_inv, cut_at-low_not, cut_at-node_left, cut_at-node_right, cut_at-right_inv, cut_at-single, cut_at-single_inv, cut_at-whole, cut_in-down, cut_in-low, cut_in-up, fits_at-node, fits_at-node_small, fits_at-single, fits_at-single_big}
use Rattle.hist_proof.proofs.Prunings.{depth-first, depth-past}

-- ---- the size

-- what fits as a node of two halves
pub record FitsNode (j : ℕ) (l r : Tree) (n : ℕ) : Type 0 where
  pub more : 2 ^ j < n
  pub left : fits_at j l (2 ^ j) ≡ true
  pub right : fits_at j r (n - 2 ^ j) ≡ true

pub fits_node-is : (j : ℕ) (l r : Tree) (n : ℕ) → fits_at (suc j) (node l r) n ≡ true → FitsNode j l r n
fits_node-is j l r n e =
    elim (cases_lt (2 ^ j) n) [
      | inl more ↦
          let parts = and_parts (fits_at j l (2 ^ j)) (fits_at j r (n - 2 ^ j)) (sym (fits_at-node j l r n more) ∙ e) in
          record { more = more; left = parts.0; right = parts.1 }
      | inr few ↦ let wrong = fits_at-node_small j l r n few in absurd cc
    ]

pub record FitsSingle (j : ℕ) (l : Tree) (n : ℕ) : Type 0 where
  pub few : n ≤ 2 ^ j
  pub left : fits_at j l n ≡ true

pub fits_single-is : (j : ℕ) (l : Tree) (n : ℕ) → fits_at (suc j) (single l) n ≡ true → FitsSingle j l n
fits_single-is j l n e =
    elim (cases_lt (2 ^ j) n) [
      | inl more ↦ let wrong = fits_at-single_big j l n more in absurd cc
      | inr few ↦ record { few = few; left = sym (fits_at-single j l n few) ∙ e }
    ]

pub cut_at-fits : (j : ℕ) (p : Tree) (n v : ℕ) (c : Tree) → v ≤ n → fits_at j p n ≡ true
    → cut_at j p n v ≡ Some c → fits_at j c v ≡ true
cut_at-fits zero p n v c within h e =
    elim (cases_lt v n) [
      | inl short ↦ absurd (cut_at-low_not p n v c short e)
      | inr all ↦ let same : v ≡ n = omega arith in rw (← cut_at-all 0 p n v c all e, same) h
    ]
cut_at-fits (suc j) (hidden x) n v c within h e =
    elim (cases_lt v n) [
      | inl short ↦ absurd (cut_at-hidden_not (suc j) x n v c short e)
      | inr all ↦ let same : v ≡ n = omega arith in rw (← cut_at-all (suc j) (hidden x) n v c all e, same) h
    ]
cut_at-fits (suc j) (leaf t) n v c within h e =
    elim (cases_lt v n) [
      | inl short ↦ absurd (cut_at-leaf_not (suc j) t n v c short e)
      | inr all ↦ let same : v ≡ n = omega arith in rw (← cut_at-all (suc j) (leaf t) n v c all e, same) h
    ]
cut_at-fits (suc j) (node l r) n v c within h e =
    let parts = fits_node-is j l r n h in
    elim (cases_lt v n) [
      | inl short ↦ elim (cases_lt (2 ^ j) v) [
        | inl high ↦
            let inv = cut_at-right_inv j l r n v c short high e in
            let back = cut_at-fits j r (n - 2 ^ j) (v - 2 ^ j) inv.0 (omega arith) parts.right inv.1 in
            rw (← inv.2) (fits_at-node j l inv.0 v high ∙ and_from _ _ parts.left back)
        | inr low ↦
            let inv = cut_at-left_inv j l r n v c short low e in
            rw (← inv.2) (fits_at-single j inv.0 v low ∙ cut_at-fits j l (2 ^ j) v inv.0 low parts.left inv.1)
      ]
      | inr all ↦ let same : v ≡ n = omega arith in rw (← cut_at-all (suc j) (node l r) n v c all e, same) h
    ]
cut_at-fits (suc j) (single l) n v c within h e =
    let parts = fits_single-is j l n h in
    elim (cases_lt v n) [
      | inl short ↦
          let few = parts.few in
          let inv = cut_at-single_inv j l n v c short e in
          rw (← inv.2) (fits_at-single j inv.0 v (omega arith) ∙ cut_at-fits j l n v inv.0 within parts.left inv.1)
      | inr all ↦ let same : v ≡ n = omega arith in rw (← cut_at-all (suc j) (single l) n v c all e, same) h
    ]

-- ---- what is shown

pub cut_at-shown : (j : ℕ) (p : Tree) (n v : ℕ) (c : Tree) (k : ℕ) → k < v → cut_at j p n v ≡ Some c
    → shown_at j c k ≡ shown_at j p k
unfolding shown_at
cut_at-shown zero p n v c k here e =
    elim (cases_lt v n) [
      | inl short ↦ absurd (cut_at-low_not p n v c short e)
      | inr all ↦ ap (λ (q : Tree). shown_at 0 q k) (sym (cut_at-all 0 p n v c all e))
    ]
cut_at-shown (suc j) (hidden x) n v c k here e =
    elim (cases_lt v n) [
      | inl short ↦ absurd (cut_at-hidden_not (suc j) x n v c short e)
      | inr all ↦ ap (λ (q : Tree). shown_at (suc j) q k) (sym (cut_at-all (suc j) (hidden x) n v c all e))
    ]
cut_at-shown (suc j) (leaf t) n v c k here e =
    elim (cases_lt v n) [
      | inl short ↦ absurd (cut_at-leaf_not (suc j) t n v c short e)
      | inr all ↦ ap (λ (q : Tree). shown_at (suc j) q k) (sym (cut_at-all (suc j) (leaf t) n v c all e))
    ]
cut_at-shown (suc j) (node l r) n v c k here e =
    elim (cases_lt v n) [
      | inl short ↦ elim (cases_lt (2 ^ j) v) [
        | inl high ↦
            let inv = cut_at-right_inv j l r n v c short high e in
            elim (cases_lt k (2 ^ j)) [
              | inl low ↦ rw (← inv.2, lt-ltb k (2 ^ j) low) refl
              | inr past ↦ rw (← inv.2, le-ltb k (2 ^ j) past) (cut_at-shown j r (n - 2 ^ j) (v - 2 ^ j) inv.0 (k - 2 ^ j) (omega arith) inv.1)
            ]
        | inr low ↦
            let inv = cut_at-left_inv j l r n v c short low e in
            rw (← inv.2, lt-ltb k (2 ^ j) (omega arith)) (cut_at-shown j l (2 ^ j) v inv.0 k here inv.1)
      ]
      | inr all ↦ ap (λ (q : Tree). shown_at (suc j) q k) (sym (cut_at-all (suc j) (node l r) n v c all e))
    ]
cut_at-shown (suc j) (single l) n v c k here e =
    elim (cases_lt v n) [
      | inl short ↦ let inv = cut_at-single_inv j l n v c short e in rw (← inv.2) (cut_at-shown j l n v inv.0 k here inv.1)
      | inr all ↦ ap (λ (q : Tree). shown_at (suc j) q k) (sym (cut_at-all (suc j) (single l) n v c all e))
    ]

-- ---- cuts of cuts

pub cut_at-again : (j : ℕ) (p : Tree) (n v : ℕ) (c : Tree) (w : ℕ) → v ≤ n → w ≤ v → cut_at j p n v ≡ Some c
    → cut_at j c v w ≡ cut_at j p n w
cut_at-again zero p n v c w within le e =
    elim (cases_lt v n) [
      | inl short ↦ absurd (cut_at-low_not p n v c short e)
      | inr all ↦ let same : v ≡ n = omega arith in rw (← cut_at-all 0 p n v c all e, same) refl
    ]
cut_at-again (suc j) (hidden x) n v c w within le e =
    elim (cases_lt v n) [
      | inl short ↦ absurd (cut_at-hidden_not (suc j) x n v c short e)
      | inr all ↦ let same : v ≡ n = omega arith in rw (← cut_at-all (suc j) (hidden x) n v c all e, same) refl
    ]
cut_at-again (suc j) (leaf t) n v c w within le e =
    elim (cases_lt v n) [
      | inl short ↦ absurd (cut_at-leaf_not (suc j) t n v c short e)
      | inr all ↦ let same : v ≡ n = omega arith in rw (← cut_at-all (suc j) (leaf t) n v c all e, same) refl
    ]
cut_at-again (suc j) (node l r) n v c w within le e =
    elim (cases_lt w v) [
      | inl less ↦ elim (cases_lt v n) [
        | inl short ↦ elim (cases_lt (2 ^ j) v) [
          | inl high ↦
              let inv = cut_at-right_inv j l r n v c short high e in
              elim (cases_lt (2 ^ j) w) [
                | inl past ↦
                    let right = cut_at-again j r (n - 2 ^ j) (v - 2 ^ j) inv.0 (w - 2 ^ j) (omega arith) (omega arith) inv.1 in
                    rw (← inv.2, cut_at-node_right j l inv.0 v w less past, cut_at-node_right j l r n w (omega arith) past, right) refl
                | inr low ↦ rw (← inv.2, cut_at-node_left j l inv.0 v w less low, cut_at-node_left j l r n w (omega arith) low) refl
              ]
          | inr low ↦
              let inv = cut_at-left_inv j l r n v c short low e in
              let left = cut_at-again j l (2 ^ j) v inv.0 w low le inv.1 in
              rw (← inv.2, cut_at-single j inv.0 v w less, cut_at-node_left j l r n w (omega arith) (omega arith), left) refl
        ]
        | inr all ↦ let same : v ≡ n = omega arith in rw (← cut_at-all (suc j) (node l r) n v c all e, same) refl
      ]
      | inr whole ↦ let same : w ≡ v = omega arith in cut_at-whole (suc j) c v w whole ∙ sym e ∙ ap (cut_at (suc j) (node l r) n) (sym same)
    ]
cut_at-again (suc j) (single l) n v c w within le e =
    elim (cases_lt w v) [
      | inl less ↦ elim (cases_lt v n) [
        | inl short ↦
            let inv = cut_at-single_inv j l n v c short e in
            let left = cut_at-again j l n v inv.0 w within le inv.1 in
            rw (← inv.2, cut_at-single j inv.0 v w less, cut_at-single j l n w (omega arith), left) refl
        | inr all ↦ let same : v ≡ n = omega arith in rw (← cut_at-all (suc j) (single l) n v c all e, same) refl
      ]
      | inr whole ↦ let same : w ≡ v = omega arith in cut_at-whole (suc j) c v w whole ∙ sym e ∙ ap (cut_at (suc j) (single l) n) (sym same)
    ]

-- ---- at the height of the version

pub left_some : (f : Tree → Option Tree) (p c : Tree) → in_left f p ≡ Some c
    → (l r : Tree) × (p ≡ node l r) × (f l ≡ Some c)
left_some f (hidden x) c e = absurd cc
left_some f (leaf t) c e = absurd cc
left_some f (node l r) c e = (l, r, refl, e)
left_some f (single l) c e = absurd cc

pub cut_in-fits : (j : ℕ) (p : Tree) (n v : ℕ) (c : Tree) → 0 < v → v ≤ n → n ≤ 2 ^ j → fits_at j p n ≡ true
    → cut_in j p n v ≡ Some c → fits_at (depth v) c v ≡ true
cut_in-fits zero p n v c some within few h e =
    rw (depth-first n v some within few) (cut_at-fits 0 p n v c within h (sym (cut_in-low 0 p n v refl) ∙ e))
cut_in-fits (suc j) p n v c some within few h e =
    elim (cases_lt (2 ^ j) v) [
      | inl high ↦ rw (depth-past j v high (omega arith)) (cut_at-fits (suc j) p n v c within h (sym (cut_in-up j p n v high) ∙ e))
      | inr low ↦
          let inv = left_some (λ l. cut_in j l (2 ^ j) v) p c (sym (cut_in-down j p n v low) ∙ e) in
          let parts = fits_node-is j inv.0 inv.1 n (rw inv.2 at h) in
          cut_in-fits j inv.0 (2 ^ j) v c some low (omega arith) parts.left inv.3
    ]

pub cut_in-shown : (j : ℕ) (p : Tree) (n v : ℕ) (c : Tree) (k : ℕ) → 0 < v → v ≤ n → n ≤ 2 ^ j → k < v
    → cut_in j p n v ≡ Some c → shown_at (depth v) c k ≡ shown_at j p k
unfolding shown_at
cut_in-shown zero p n v c k some within few here e =
    rw (depth-first n v some within few) (cut_at-shown 0 p n v c k here (sym (cut_in-low 0 p n v refl) ∙ e))
cut_in-shown (suc j) p n v c k some within few here e =
    elim (cases_lt (2 ^ j) v) [
      | inl high ↦ rw (depth-past j v high (omega arith)) (cut_at-shown (suc j) p n v c k here (sym (cut_in-up j p n v high) ∙ e))
      | inr low ↦
          let inv = left_some (λ l. cut_in j l (2 ^ j) v) p c (sym (cut_in-down j p n v low) ∙ e) in
          rw (inv.2, lt-ltb k (2 ^ j) (omega arith)) (cut_in-shown j inv.0 (2 ^ j) v c k some low (omega arith) here inv.3)
    ]

-- what is cut of the left half stays where the right half is cut
left_stays : (j : ℕ) (p : Tree) (n v : ℕ) (c : Tree) (f : Tree → Option Tree) → v ≤ n → 2 ^ j < v
    → cut_at (suc j) p n v ≡ Some c → in_left f c ≡ in_left f p
left_stays j (hidden x) n v c f within high e =
    elim (cases_lt v n) [
      | inl short ↦ absurd (cut_at-hidden_not (suc j) x n v c short e)
      | inr all ↦ ap (in_left f) (sym (cut_at-all (suc j) (hidden x) n v c all e))
    ]
left_stays j (leaf t) n v c f within high e =
    elim (cases_lt v n) [
      | inl short ↦ absurd (cut_at-leaf_not (suc j) t n v c short e)
      | inr all ↦ ap (in_left f) (sym (cut_at-all (suc j) (leaf t) n v c all e))
    ]
left_stays j (node l r) n v c f within high e =
    elim (cases_lt v n) [
      | inl short ↦ let inv = cut_at-right_inv j l r n v c short high e in rw (← inv.2) refl
      | inr all ↦ ap (in_left f) (sym (cut_at-all (suc j) (node l r) n v c all e))
    ]
left_stays j (single l) n v c f within high e =
    elim (cases_lt v n) [
      | inl short ↦ let inv = cut_at-single_inv j l n v c short e in rw (← inv.2) refl
      | inr all ↦ ap (in_left f) (sym (cut_at-all (suc j) (single l) n v c all e))
    ]

pub cut_in-again : (j : ℕ) (p : Tree) (n v : ℕ) (c : Tree) (w : ℕ) → 0 < w → w ≤ v → v ≤ n → n ≤ 2 ^ j
    → cut_in j p n v ≡ Some c → cut_in (depth v) c v w ≡ cut_in j p n w
cut_in-again zero p n v c w some le within few e =
    let same : w ≡ v = omega arith in
    let whole = cut_at-whole 0 c v w (omega arith) in
    rw (depth-first n v (omega arith) within few) (cut_in-low 0 c v w refl ∙ whole ∙ sym e ∙ ap (cut_in 0 p n) (sym same))
cut_in-again (suc j) p n v c w some le within few e =
    elim (cases_lt (2 ^ j) v) [
      | inl high ↦
          let here : cut_at (suc j) p n v ≡ Some c = sym (cut_in-up j p n v high) ∙ e in
          rw (depth-past j v high (omega arith))
          (elim (cases_lt (2 ^ j) w) [
            | inl past ↦ cut_in-up j c v w past ∙ cut_at-again (suc j) p n v c w within le here ∙ sym (cut_in-up j p n w past)
            | inr low ↦ cut_in-down j c v w low ∙ left_stays j p n v c (λ l. cut_in j l (2 ^ j) w) within high here ∙ sym (cut_in-down j p n w low)
          ])
      | inr low ↦
          let inv = left_some (λ l. cut_in j l (2 ^ j) v) p c (sym (cut_in-down j p n v low) ∙ e) in
          let rest = cut_in-again j inv.0 (2 ^ j) v c w some le low (omega arith) inv.3 in
          let down : cut_in (suc j) p n w ≡ cut_in j inv.0 (2 ^ j) w = cut_in-down j p n w (omega arith) ∙ ap (in_left (λ l. cut_in j l (2 ^ j) w)) inv.2 in
          rest ∙ sym down
    ]

-- all of a tree, whose height is the least for its size
pub cut_in-all : (j : ℕ) (p : Tree) (n : ℕ) → 0 < n → n ≤ 2 ^ j → ((i : ℕ) → i < j → 2 ^ i < n)
    → cut_in j p n n ≡ Some p
cut_in-all zero p n some few high = cut_in-low 0 p n n refl ∙ cut_at-whole 0 p n n (omega arith)
cut_in-all (suc j) p n some few high =
    cut_in-up j p n n (high j (omega arith)) ∙ cut_at-whole (suc j) p n n (omega arith)
