-- The first of comparisons that differs.
use Rattle.std.proofs.Common.{◌≡◌, ◌⊎◌, inl, inr, List, [], ◌∷◌, ◌++◌, Option, Some, None, refl, ap, ◌∙◌}
use Rattle.std.specs.List.{AllByRecursion}
use Rattle.std.specs.Option.{option_or}
use Rattle.fr_digest.specs.Collision.{Collides, Strings}
use Rattle.fr_digest.specs.Digest.{Digest}
use Rattle.tree_extract.proofs.AccessListDifferences.{found-collides, none-prunes}
use Rattle.tree_extract.proofs.Differences.{list_difference-collides, list_difference-same, one_some}
use Rattle.tree_extract.proofs.PrunedDifferences.{history_difference-collides, history_difference-prunes}
use Rattle.world_audit.specs.Comparisons.{Agrees, Comparison, dict, first_difference, lists, strings_of, tree}

module _ (d : Digest) where
  agrees-none : (c : Comparison) → Agrees d c → strings_of d c ≡ None
  unfolding Agrees strings_of
  agrees-none (tree p texts) agrees = history_difference-prunes d p texts agrees
  agrees-none (lists a b) agrees = list_difference-same d a b agrees
  agrees-none (dict p entries) agrees = none-prunes d p entries agrees.parts

  strings-collide : (c : Comparison) (s : Strings) → strings_of d c ≡ Some s → Collides d s
  unfolding strings_of
  strings-collide (tree p texts) s e = history_difference-collides d p texts s e
  strings-collide (lists a b) s e = list_difference-collides d a b s e
  strings-collide (dict p entries) s e = found-collides d p entries s e

  -- Where all agree there is none,
  pub none-differs : (cs : List Comparison) → AllByRecursion (Agrees d) cs → first_difference d cs ≡ None
  unfolding first_difference
  none-differs [] all = refl
  none-differs (c ∷ cs) all =
      ap (λ (o : Option Strings). option_or o (first_difference d cs)) (agrees-none c all.0) ∙ none-differs cs all.1

  -- where all before one agree it is that one,
  pub first-differs : (before : List Comparison) (c : Comparison) (behind : List Comparison) (s : Strings)
      → AllByRecursion (Agrees d) before → strings_of d c ≡ Some s → first_difference d (before ++ c ∷ behind) ≡ Some s
  unfolding first_difference
  first-differs [] c behind s all e = ap (λ (o : Option Strings). option_or o (first_difference d behind)) e
  first-differs (x ∷ xs) c behind s all e =
      ap (λ (o : Option Strings). option_or o (first_difference d (xs ++ c ∷ behind))) (agrees-none x all.0)
      ∙ first-differs xs c behind s all.1 e

  -- and its two strings have one digest.
  pub difference-collides : (cs : List Comparison) (s : Strings) → first_difference d cs ≡ Some s → Collides d s
  unfolding first_difference
  difference-collides [] s e = absurd cc
  difference-collides (c ∷ cs) s e = elim (one_some (strings_of d c) (first_difference d cs) s e) [
    | inl here ↦ strings-collide c s here
    | inr behind ↦ difference-collides cs s behind
  ]
