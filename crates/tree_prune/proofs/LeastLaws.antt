-- What the least pruned tree shows, and which versions it gives.
use Rattle.std.proofs.Common.{◌≡◌, ℕ, zero, suc, ◌+◌, ◌-◌, ◌^◌, ◌<◌, ◌≤◌, Bool, true, false, ◌&&◌, ◌||◌, List, [], ◌∷◌, length, take, drop, get_or, None, Some, IsSome, refl, ap, sym, ◌∙◌, inl, inr, arith}
use Rattle.std.specs.List.{Contains}
use Rattle.std.specs.Prelude.{map, nat_lt}
use Rattle.std.proofs.lemmas.Bool.{and_from, and_left, and_right, cases_Bool, cases_lt, lt-ltb, le-ltb, or_from, or_parts}
use Rattle.std.proofs.lemmas.List.{ext_get_or, get_or-drop, get_or-map, get_or-take, length-drop, length-map, length-take-le}
use Rattle.std.proofs.lemmas.List.Folds.{list_any_at}
use Rattle.std.proofs.Math.Nat.{pow-suc}
use Rattle.fr_digest.specs.Digest.{Digest}
use Rattle.tree_model.proofs.HistoryLaws.{depth-fits}
use Rattle.tree_model.specs.History.{depth, part, root}
use Rattle.hist_proof.specs.Pruned.{Tree, hidden, leaf, node, single, Prunes, at, cut}
use Rattle.hist_proof.specs.Shown.{is_within, shown, shown_at, straddled, straddled_at}
use Rattle.hist_proof.proofs.Trees.{at-root, cut-some, prunes-fits, shown-made}
use Rattle.tree_prune.specs.LeastHistory.{any, inside, least, marked, slots}
use Rattle.tree_prune.proofs.Least.{least-hidden, least-leaf, least-node, least-prunes, least-single, least-unshown}
use Rattle.tree_prune.proofs.Marks.{get_or-marked, get_or-numbered, length-marked, length-numbered, shown_if, unset}

-- ---- what it shows

shown-hidden : (j : ℕ) (x : List ℕ) (k : ℕ) → shown_at j (hidden x) k ≡ None
unfolding shown_at
shown-hidden zero x k = refl
shown-hidden (suc j) x k = refl

shown-leaf : (t : List ℕ) (k : ℕ) → shown_at 0 (leaf t) k ≡ Some t
unfolding shown_at
shown-leaf t k = refl

shown-single : (j : ℕ) (l : Tree) (k : ℕ) → shown_at (suc j) (single l) k ≡ shown_at j l k
unfolding shown_at
shown-single j l k = refl

shown-left : (j : ℕ) (l r : Tree) (k : ℕ) → k < 2 ^ j → shown_at (suc j) (node l r) k ≡ shown_at j l k
unfolding shown_at
shown-left j l r k low = rw (lt-ltb k (2 ^ j) low) refl

shown-right : (j : ℕ) (l r : Tree) (k : ℕ) → 2 ^ j ≤ k → shown_at (suc j) (node l r) k ≡ shown_at j r (k - 2 ^ j)
unfolding shown_at
shown-right j l r k high = rw (le-ltb k (2 ^ j) high) refl

one_mark : (ms : List Bool) → length ms ≤ 1 → any ms ≡ true → get_or ms 0 false ≡ true
one_mark [] few set = absurd cc
one_mark (m ∷ []) few set = elim (cases_Bool m) [
  | inl is ↦ is
  | inr isnt ↦ let wrong = or_from m false isnt refl in
      absurd cc
]
one_mark (m ∷ (other ∷ ms)) few set = absurd (omega arith)

pub least-shown : (h : ℕ → List (List ℕ) → List ℕ) (j : ℕ) (M : List (List ℕ)) (ms : List Bool) (vs : List ℕ) (k : ℕ)
    → length ms ≡ length M → length M ≤ 2 ^ j → k < length M
    → shown_at j (least h j M ms vs) k ≡ shown_if (get_or ms k false) (get_or M k [])
least-shown h zero M ms vs k count few within =
    elim (cases_Bool (any ms)) [
      | inl set ↦
          let first : k ≡ 0 = omega arith in
          let mark = one_mark ms (omega arith) set in
          rw (least-leaf h M ms vs set, first, mark) (shown-leaf (get_or M 0 []) 0)
      | inr none ↦ rw (least-unshown h M ms vs none, unset ms k none) (shown-hidden 0 (h 0 M) k)
    ]
least-shown h (suc j) M ms vs k count few within =
    let twice = pow-suc 2 j in
    elim (cases_Bool (any ms || inside (length M) vs)) [
      | inl entered ↦ elim (cases_lt (2 ^ j) (length M)) [
        | inl more ↦ rw (least-node h j M ms vs entered more) (elim (cases_lt k (2 ^ j)) [
          | inl low ↦
              let front = length-take-le (2 ^ j) M (omega arith) in
              let front_marks = length-take-le (2 ^ j) ms (omega arith) in
              shown-left j _ _ k low
              ∙ least-shown h j (take (2 ^ j) M) (take (2 ^ j) ms) vs k (omega arith) (omega arith) (omega arith)
              ∙ ap (λ m. shown_if m (get_or (take (2 ^ j) M) k [])) (get_or-take (2 ^ j) ms k false low)
              ∙ ap (λ (t : List ℕ). shown_if (get_or ms k false) t) (get_or-take (2 ^ j) M k [] low)
          | inr high ↦
              let back = length-drop (2 ^ j) M in
              let back_marks = length-drop (2 ^ j) ms in
              let place : 2 ^ j + (k - 2 ^ j) ≡ k = omega arith in
              shown-right j _ _ k high
              ∙ least-shown h j (drop (2 ^ j) M) (drop (2 ^ j) ms) (map (λ v. v - 2 ^ j) vs) (k - 2 ^ j) (omega
              arith) (omega arith) (omega arith)
              ∙ ap (λ m. shown_if m (get_or (drop (2 ^ j) M) (k - 2 ^ j) [])) (get_or-drop (2 ^ j) ms (k - 2 ^ j)
              false ∙ ap (λ i. get_or ms i false) place)
              ∙ ap (λ (t : List ℕ). shown_if (get_or ms k false) t) (get_or-drop (2 ^ j) M (k - 2 ^ j) []
              ∙ ap (λ i. get_or M i []) place)
        ])
        | inr less ↦ rw (least-single h j M ms vs entered less) (shown-single j _ k
            ∙ least-shown h j M ms vs k count less within)
      ]
      | inr out ↦
          let parts = or_parts (any ms) (inside (length M) vs) out in
          rw (least-hidden h (suc j) M ms vs parts.0 parts.1, unset ms k parts.0) (shown-hidden (suc j) (h (suc j)
          M) k)
    ]

-- ---- which versions it gives

-- a listed version doesn't end within what is hidden
not_inside : (n a v w : ℕ) (vs : List ℕ) → inside n vs ≡ false → Contains vs w → w ≡ v - a → is_within a n v ≡ false
not_inside n a v w vs none listed same =
    elim (cases_lt a v) [
      | inl past ↦ elim (cases_lt v (a + n)) [
        | inl before ↦
            let here = listed.2 in
            let test : nat_lt 0 w && nat_lt w n ≡ true = and_from (nat_lt 0 w) (nat_lt w n) (lt-ltb 0 w (omega
            arith)) (lt-ltb w n (omega arith)) in
            let found = list_any_at (λ u. nat_lt 0 u && nat_lt u n) vs listed.0 w listed.1 (rw here test) in
            absurd cc
        | inr after ↦ and_right (nat_lt a v) (nat_lt v (a + n)) (le-ltb v (a + n) after)
      ]
      | inr before ↦ and_left (nat_lt a v) (nat_lt v (a + n)) (le-ltb a v before)
    ]

straddled-hidden : (j : ℕ) (x : List ℕ) (a n v : ℕ) → straddled_at j (hidden x) a n v ≡ is_within a n v
unfolding straddled_at
straddled-hidden zero x a n v = refl
straddled-hidden (suc j) x a n v = refl

straddled-leaf : (t : List ℕ) (a n v : ℕ) → straddled_at 0 (leaf t) a n v ≡ false
unfolding straddled_at
straddled-leaf t a n v = refl

straddled-single : (j : ℕ) (l : Tree) (a n v : ℕ) → straddled_at (suc j) (single l) a n v ≡ straddled_at j l a n v
unfolding straddled_at
straddled-single j l a n v = refl

straddled-node : (j : ℕ) (l r : Tree) (a n v : ℕ) → straddled_at j l a (2 ^ j) v ≡ false
    → straddled_at j r (a + 2 ^ j) (n - 2 ^ j) v ≡ false
    → straddled_at (suc j) (node l r) a n v ≡ false
unfolding straddled_at
straddled-node j l r a n v left right = or_from (straddled_at j l a (2 ^ j) v) (straddled_at j r (a + 2 ^ j) (n - 2
    ^ j) v) left right

one_alone : (a n v : ℕ) → n ≤ 1 → is_within a n v ≡ false
one_alone a n v few =
    elim (cases_lt a v) [
      | inl past ↦ and_right (nat_lt a v) (nat_lt v (a + n)) (le-ltb v (a + n) (omega arith))
      | inr before ↦ and_left (nat_lt a v) (nat_lt v (a + n)) (le-ltb a v before)
    ]

contains-less : (vs : List ℕ) (w c : ℕ) → Contains vs w → Contains (map (λ v. v - c) vs) (w - c)
contains-less vs w c listed =
    let within = listed.1 in
    let len = length-map vs (λ v. v - c) in (
      listed.0,
      omega arith,
      get_or-map (λ v. v - c) vs listed.0 w (w - c)
          listed.1 ∙ ap (λ v. v - c) listed.2,
    )

pub least-straddled : (h : ℕ → List (List ℕ)
    → List ℕ) (j : ℕ) (M : List (List ℕ)) (ms : List Bool) (vs : List ℕ) (a v w : ℕ)
    → length M ≤ 2 ^ j → Contains vs w → w ≡ v - a → straddled_at j (least h j M ms vs) a (length M) v ≡ false
least-straddled h zero M ms vs a v w few listed same =
    elim (cases_Bool (any ms)) [
      | inl set ↦ rw (least-leaf h M ms vs set) (straddled-leaf (get_or M 0 []) a (length M) v)
      | inr none ↦ rw (least-unshown h M ms vs none, straddled-hidden 0 (h 0 M) a (length M) v) (one_alone a
          (length M) v few)
    ]
least-straddled h (suc j) M ms vs a v w few listed same =
    let twice = pow-suc 2 j in
    elim (cases_Bool (any ms || inside (length M) vs)) [
      | inl entered ↦ elim (cases_lt (2 ^ j) (length M)) [
        | inl more ↦
            let front = length-take-le (2 ^ j) M (omega arith) in
            let back = length-drop (2 ^ j) M in
            let left = least-straddled h j (take (2 ^ j) M) (take (2 ^ j) ms) vs a v w (omega arith) listed same in
            let right = least-straddled h j (drop (2 ^ j) M) (drop (2 ^ j) ms) (map (λ u. u - 2 ^ j) vs) (a + 2 ^
            j) v (w - 2 ^ j) (omega arith) (contains-less vs w (2 ^ j) listed) (omega arith) in
            rw (least-node h j M ms vs entered more) (straddled-node j _ _ a (length M) v (rw front at left) (rw
            back at right))
        | inr less ↦ rw (least-single h j M ms vs entered less, straddled-single j _ a (length M) v)
            (least-straddled h j M ms vs a v w less listed same)
      ]
      | inr out ↦
          let parts = or_parts (any ms) (inside (length M) vs) out in
          rw (
            least-hidden h (suc j) M ms vs parts.0 parts.1,
            straddled-hidden (suc j) (h (suc j) M) a (length M)
                v,
          ) (not_inside (length M) a v w vs parts.1 listed same)
    ]

-- ---- the laws

pub prunes : (d : Digest) (M : List (List ℕ)) (ms : List Bool) (vs : List ℕ) → 0 < length M
    → Prunes d (least (part d) (depth (length M)) M ms vs) M
prunes d M ms vs some = record {
  some = some;
  parts = least-prunes d (depth (length M)) M ms vs some (depth-fits
      (length M));
}

pub shows : (d : Digest) (M : List (List ℕ)) (ms : List Bool) (vs : List ℕ) → 0 < length M → length ms ≡ length M
    → slots (least (part d) (depth (length M)) M ms vs) (length M) ≡ marked M ms
shows d M ms vs some count =
    let p = least (part d) (depth (length M)) M ms vs in
    let fitting = prunes-fits d p M (prunes d M ms vs some) in
    ext_get_or None (slots p (length M)) (marked M ms) (length-numbered (shown p (length M)) 0 (length M)
    ∙ sym (length-marked M ms))
    (λ k within.
    let low : k < length M = rw (length-numbered (shown p (length M)) 0 (length M)) at within in
    let place : 0 + k ≡ k = omega arith in
    get_or-numbered (shown p (length M)) 0 (length M) k None low ∙ ap (λ i. shown p (length M) i) place
    ∙ shown-made p (length M) k fitting low
    ∙ least-shown (part d) (depth (length M)) M ms vs k count (depth-fits (length M)) low
    ∙ sym (get_or-marked M ms k low))

pub not-straddled : (d : Digest) (M : List (List ℕ)) (ms : List Bool) (vs : List ℕ) (v : ℕ) → Contains vs v
    → straddled (least (part d) (depth (length M)) M ms vs) (length M) v ≡ false
unfolding straddled
not-straddled d M ms vs v listed =
    least-straddled (part d) (depth (length M)) M ms vs 0 v v (depth-fits (length M)) listed (omega arith)

pub cuts : (d : Digest) (M : List (List ℕ)) (ms : List Bool) (vs : List ℕ) (v : ℕ) → 0 < v → v ≤ length M
    → Contains vs v
    → IsSome (cut (least (part d) (depth (length M)) M ms vs) (length M) v)
cuts d M ms vs v some within listed =
    let p = least (part d) (depth (length M)) M ms vs in
    let fitting = prunes-fits d p M (prunes d M ms vs (omega arith)) in
    cut-some p (length M) v fitting some within (not-straddled d M ms vs v listed)

pub roots : (d : Digest) (M : List (List ℕ)) (ms : List Bool) (vs : List ℕ) (v : ℕ) → 0 < v → v ≤ length M
    → Contains vs v
    → at d (least (part d) (depth (length M)) M ms vs) (length M) v ≡ Some (root d M v)
roots d M ms vs v some within listed =
    at-root d (least (part d) (depth (length M)) M ms vs) M v (prunes d M ms vs (omega arith)) some within
    (not-straddled d M ms vs v listed)
