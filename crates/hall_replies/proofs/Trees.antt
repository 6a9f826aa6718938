-- Prunings of leaf texts have a spelling, and not many bytes spell one.
use Rattle.std.proofs.Common.{◌≡◌, ℕ, zero, suc, ◌+◌, ◌-◌, ◌*◌, ◌^◌, ◌<◌, ◌≤◌, List, [], ◌∷◌, ◌++◌, length, take, drop, refl, subst, inl, inr, arith}
use Rattle.std.specs.Prelude.{slice_get}
use Rattle.std.specs.List.{AllByRecursion}
use Rattle.std.proofs.lemmas.Bool.{cases_lt}
use Rattle.std.proofs.Math.Nat.{one-le-pow, pow-le-pow_right, pow-suc}
use Rattle.fr_bytes.specs.Bytes.{Text, counted}
use Rattle.fr_bytes.specs.Parts.{IsLimited}
use Rattle.fr_bytes.proofs.Limits.{limited_counted, limited_joined, limited_one, limited_wider}
use Rattle.fr_digest.specs.Digest.{Digest}
use Rattle.op_types.specs.declared.op.Leaf.{Leaf}
use Rattle.op_types.specs.Spelling.{IsLeaf}
use Rattle.op_types.proofs.LeafTexts.{leaf_limited}
use Rattle.tree_model.specs.History.{depth}
use Rattle.tree_model.proofs.HistoryLaws.{depth-least}
use Rattle.hist_proof.specs.Pruned.{Tree, hidden, leaf, node, single, Prunes, PrunesAt}
use Rattle.hist_proof.specs.Spelling.{IsDig, IsLeveled, IsSpelled, tree_text}
use Rattle.honest_replies.specs.HonestNews.{texts_of}
use Rattle.honest_replies.proofs.Lists.{all-drop}
use Rattle.hall_replies.specs.Shown.{HasDigs}

-- ---- lists

pub all-take : {A : Type 0} (P : A → Type 0) (n : ℕ) (xs : List A) → AllByRecursion P xs → AllByRecursion P (take n xs)
all-take P zero xs each = tt
all-take P (suc n) [] each = tt
all-take P (suc n) (x ∷ xs) each = (each.0, all-take P n xs each.1)

pub at-take : {A : Type 0} (n : ℕ) (xs : List A) (k : ℕ) → k < n → slice_get (take n xs) k ≡ slice_get xs k
at-take zero xs k less = absurd (omega arith)
at-take (suc n) [] k less = refl
at-take (suc n) (x ∷ xs) zero less = refl
at-take (suc n) (x ∷ xs) (suc k) less = at-take n xs k (omega arith)

abbrev pub AreLeafTexts : List Text → Type 0
AreLeafTexts M = AllByRecursion (IsLimited 19785) M

pub texts-limited : (L : List Leaf) → AllByRecursion IsLeaf L → AreLeafTexts (texts_of L)
texts-limited [] each = tt
texts-limited (l ∷ L) each = (leaf_limited l each.0, texts-limited L each.1)

-- ---- levels

pub depth-low : (n : ℕ) → n ≤ 1024 → depth n ≤ 10
depth-low n few = elim (cases_lt 10 (depth n)) [
  | inl high ↦ let more = depth-least n 10 high in absurd (omega arith)
  | inr low ↦ low
]

leveled-hidden : (levels : ℕ) (x : Text) → IsDig x → IsLeveled levels (hidden x)
unfolding IsLeveled
leveled-hidden zero x h = h
leveled-hidden (suc levels) x h = h

leveled-leaf : (levels : ℕ) (t : Text) → IsLimited 19785 t → IsLeveled levels (leaf t)
unfolding IsLeveled
leveled-leaf zero t h = (omega (arith, h.0), h.1)
leveled-leaf (suc levels) t h = (omega (arith, h.0), h.1)

only-text : (t : Text) (M : List Text) → M ≡ t ∷ [] → AreLeafTexts M → IsLimited 19785 t
only-text t M same each = (subst AreLeafTexts same each).0

hidden-limited : (j : ℕ) (x : Text) → IsDig x → IsLimited (19791 * 2 ^ j - 1) (tree_text (hidden x))
unfolding tree_text
hidden-limited j x h =
    let some = one-le-pow j 2 (omega arith) in
    limited_wider 33 (19791 * 2 ^ j - 1) (0 ∷ x) (omega (arith, some))
    (limited_one 32 0 x (omega arith) (omega (arith, h.0), h.1))

twice : (j : ℕ) → suc (19791 * 2 ^ j - 1 + (19791 * 2 ^ j - 1)) ≤ 19791 * 2 ^ suc j - 1
twice j = omega (arith, pow-suc 2 j, one-le-pow j 2 (omega arith))

once : (j : ℕ) → suc (19791 * 2 ^ j - 1) ≤ 19791 * 2 ^ suc j - 1
once j = omega (arith, pow-suc 2 j, one-le-pow j 2 (omega arith))

-- the digests of what has a spelling
pub spelled-digs : (levels : ℕ) (p : Tree) → IsLeveled levels p → HasDigs p
unfolding IsLeveled HasDigs
spelled-digs zero (hidden x) h = h
spelled-digs zero (leaf t) h = tt
spelled-digs zero (node l r) h = absurd h.0
spelled-digs zero (single l) h = absurd h
spelled-digs (suc levels) (hidden x) h = h
spelled-digs (suc levels) (leaf t) h = tt
spelled-digs (suc levels) (node l r) h = (spelled-digs levels l h.0, spelled-digs levels r h.1)
spelled-digs (suc levels) (single l) h = spelled-digs levels l h

module _ (d : Digest) where
  -- A pruning has no more levels than the tree has.
  leveled : (j levels : ℕ) (p : Tree) (M : List Text) → j ≤ levels → PrunesAt d j p M → HasDigs p → AreLeafTexts M
      → IsLeveled levels p
  unfolding PrunesAt HasDigs IsLeveled
  leveled zero levels (hidden x) M low prunes digs each = leveled-hidden levels x digs
  leveled zero levels (leaf t) M low prunes digs each = leveled-leaf levels t (only-text t M prunes each)
  leveled zero levels (node l r) M low prunes digs each = absurd prunes
  leveled zero levels (single l) M low prunes digs each = absurd prunes
  leveled (suc j) levels (hidden x) M low prunes digs each = leveled-hidden levels x digs
  leveled (suc j) levels (leaf t) M low prunes digs each = absurd prunes
  leveled (suc j) zero (node l r) M low prunes digs each = absurd (omega arith)
  leveled (suc j) (suc levels) (node l r) M low prunes digs each = (
    leveled j levels l (take (2 ^ j) M) (omega arith) prunes.1 digs.0 (all-take (IsLimited 19785) (2 ^ j) M each),
    leveled j levels r (drop (2 ^ j) M) (omega arith) prunes.2 digs.1 (all-drop (IsLimited 19785) (2 ^ j) M each),
  )
  leveled (suc j) zero (single l) M low prunes digs each = absurd (omega arith)
  leveled (suc j) (suc levels) (single l) M low prunes digs each = leveled j levels l M (omega arith) prunes.1 digs each

  -- Each of the leaves that there may be takes 19,791 bytes of a pruning's spelling at most.
  limited : (j : ℕ) (p : Tree) (M : List Text) → PrunesAt d j p M → HasDigs p → AreLeafTexts M
      → IsLimited (19791 * 2 ^ j - 1) (tree_text p)
  unfolding PrunesAt HasDigs tree_text
  limited zero (hidden x) M prunes digs each = hidden-limited 0 x digs
  limited zero (leaf t) M prunes digs each =
      limited_wider 19790 19790 (1 ∷ counted t) (omega arith)
      (limited_one 19789 1 (counted t) (omega arith) (limited_counted 19785 t (only-text t M prunes each)))
  limited zero (node l r) M prunes digs each = absurd prunes
  limited zero (single l) M prunes digs each = absurd prunes
  limited (suc j) (hidden x) M prunes digs each = hidden-limited (suc j) x digs
  limited (suc j) (leaf t) M prunes digs each = absurd prunes
  limited (suc j) (node l r) M prunes digs each =
      let b = 19791 * 2 ^ j - 1 in
      let left = limited j l (take (2 ^ j) M) prunes.1 digs.0 (all-take (IsLimited 19785) (2 ^ j) M each) in
      let right = limited j r (drop (2 ^ j) M) prunes.2 digs.1 (all-drop (IsLimited 19785) (2 ^ j) M each) in
      limited_wider (suc (b + b)) (19791 * 2 ^ suc j - 1) (tree_text (node l r)) (twice j)
      (limited_one (b + b) 2 (tree_text l ++ tree_text r) (omega arith) (limited_joined b b (tree_text l) (tree_text r) left right))
  limited (suc j) (single l) M prunes digs each =
      let b = 19791 * 2 ^ j - 1 in
      limited_wider (suc b) (19791 * 2 ^ suc j - 1) (tree_text (single l)) (once j)
      (limited_one b 3 (tree_text l) (omega arith) (limited j l M prunes.1 digs each))

  pub prunes-spelled : (p : Tree) (M : List Text) → Prunes d p M → length M ≤ 1024 → AreLeafTexts M → HasDigs p → IsSpelled p
  unfolding IsSpelled
  prunes-spelled p M prunes few each digs =
      leveled (depth (length M)) 10 p M (depth-low (length M) few) prunes.parts digs each

  pub prunes-limited : (p : Tree) (M : List Text) → Prunes d p M → length M ≤ 1024 → AreLeafTexts M → HasDigs p
      → IsLimited 20265983 (tree_text p)
  prunes-limited p M prunes few each digs =
      let low = pow-le-pow_right {n = 2} (omega arith) (depth-low (length M) few) in
      limited_wider (19791 * 2 ^ depth (length M) - 1) 20265983 (tree_text p) (omega (arith, low))
      (limited (depth (length M)) p M prunes.parts digs each)
