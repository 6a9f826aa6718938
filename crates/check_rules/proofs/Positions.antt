-- Positions one by one: no row applies to any of them exactly where each passes.
use Rattle.std.proofs.Common.{◌≡◌, ℕ, zero, suc, ◌+◌, List, [], ◌∷◌, Option, Some, None, refl, subst, arith}
use Rattle.std.specs.Option.{option_map, option_or}
use Rattle.fr_digest.specs.Digest.{Digest}
use Rattle.op_types.specs.declared.op.Leaf.{Leaf}
use Rattle.hist_proof.specs.Pruned.{Tree}
use Rattle.pruned_list.specs.PrunedList.{PrunedList}
use Rattle.wall_law.specs.Lawful.{Told, told}
use Rattle.wall_law.specs.Position.{PositionPasses, position_refusal}
use Rattle.wall_law.proofs.Positions.{passes, no-refusal}
use Rattle.wall_law.proofs.Rows.{map-none}
use Rattle.check_rules.specs.declared.known.Known.{Known}
use Rattle.check_rules.specs.Accepted.{PositionsPass, told_at}
use Rattle.check_rules.specs.Verdict.{finding, position_verdict, positions_verdict, verdict_at}

-- neither of two
or-none : {A : Type 0} (a b : Option A) → option_or a b ≡ None → (a ≡ None) × (b ≡ None)
or-none None b e = (refl, e)
or-none (Some x) b e = absurd cc

none-or : {A : Type 0} (a b : Option A) → a ≡ None → b ≡ None → option_or a b ≡ None
none-or None b e f = f
none-or (Some x) b e f = absurd cc

none-map : {A B : Type 0} (f : A → B) (x : Option A) → x ≡ None → option_map f x ≡ None
none-map f None e = refl
none-map f (Some a) e = absurd cc

-- ---- one position

module _ (d : Digest) (known : Known) (tree : Tree) (size : ℕ) where
  one-passes : (before : Told) (k : ℕ) (leaf : Leaf) (list : PrunedList)
      → position_verdict d known tree size before k leaf list ≡ None
      → PositionPasses before known.wall k leaf (finding d known tree size list leaf)
  one-passes before k leaf list e = passes before known.wall k leaf (finding d known tree size list leaf)
      (map-none (verdict_at k) (position_refusal before known.wall k leaf (finding d known tree size list leaf)) e)

  one-silent : (before : Told) (k : ℕ) (leaf : Leaf) (list : PrunedList)
      → PositionPasses before known.wall k leaf (finding d known tree size list leaf)
      → position_verdict d known tree size before k leaf list ≡ None
  one-silent before k leaf list p =
      none-map (verdict_at k) (position_refusal before known.wall k leaf (finding d known tree size list leaf))
      (no-refusal before known.wall k leaf (finding d known tree size list leaf) p)

  -- ---- all of them

  abbrev Passes : Told → ℕ → Leaf → PrunedList → Type 0
  Passes before k leaf list = PositionPasses before known.wall k leaf (finding d known tree size list leaf)

  pub each-passes : (before : Told) (k : ℕ) (leaves : List Leaf) (lists : List PrunedList)
      → positions_verdict d known tree size before k leaves lists ≡ None
      → PositionsPass d known tree size before k leaves lists
  unfolding positions_verdict
  each-passes before k [] lists e i leaf list at beside = absurd cc
  each-passes before k (l ∷ ls) [] e i leaf list at beside = absurd cc
  each-passes before k (l ∷ ls) (p ∷ ps) e zero leaf list at beside =
      let both = or-none (position_verdict d known tree size before k l p)
      (positions_verdict d known tree size (told l) (k + 1) ls ps) e in
      let same : l ≡ leaf = cc in
      let same_list : p ≡ list = cc in
      let there : k ≡ k + 0 = omega arith in
      subst (λ (n : ℕ). Passes before n leaf list) there
      (subst (λ (x : PrunedList). Passes before k leaf x) same_list
      (subst (λ (x : Leaf). Passes before k x p) same (one-passes before k l p both.0)))
  each-passes before k (l ∷ ls) (p ∷ ps) e (suc i) leaf list at beside =
      let both = or-none (position_verdict d known tree size before k l p)
      (positions_verdict d known tree size (told l) (k + 1) ls ps) e in
      let there : k + 1 + i ≡ k + suc i = omega arith in
      subst (λ (n : ℕ). Passes (told_at (told l) ls i) n leaf list) there
      (each-passes (told l) (k + 1) ls ps both.1 i leaf list at beside)

  pub none-stands : (before : Told) (k : ℕ) (leaves : List Leaf) (lists : List PrunedList)
      → PositionsPass d known tree size before k leaves lists
      → positions_verdict d known tree size before k leaves lists ≡ None
  unfolding positions_verdict
  none-stands before k [] lists each = refl
  none-stands before k (l ∷ ls) [] each = refl
  none-stands before k (l ∷ ls) (p ∷ ps) each =
      let there : k + 0 ≡ k = omega arith in
      none-or (position_verdict d known tree size before k l p)
      (positions_verdict d known tree size (told l) (k + 1) ls ps)
      (one-silent before k l p (subst (λ (n : ℕ). Passes before n l p) there (each zero l p refl refl)))
      (none-stands (told l) (k + 1) ls ps (λ i leaf list at beside.
      let behind : k + suc i ≡ k + 1 + i = omega arith in
      subst (λ (n : ℕ). Passes (told_at (told l) ls i) n leaf list) behind (each (suc i) leaf list at beside)))
