-- One call more on a plain wall.
use Rattle.std.proofs.Common.{◌≡◌, ◌∙◌, List, [], ◌∷◌, ◌++◌, sym, ap, subst}
use Rattle.std.specs.List.{AllByRecursion}
use Rattle.std.proofs.lemmas.List.Sums.{fold-append}
use Rattle.fr_digest.specs.Digest.{Digest}
use Rattle.op_types.specs.declared.op.Leaf.{Leaf}
use Rattle.op_types.specs.Spelling.{IsLeaf}
use Rattle.hall_core.specs.declared.ask.Called.{Called}
use Rattle.hall_core.specs.declared.facts.WallFacts.{WallFacts}
use Rattle.hall_core.specs.PlainWall.{left_behind}
use Rattle.hall_core.specs.Calls.{IsAnswered, LegalFrom, left_by, play_from}
use Rattle.hall_core.specs.Standing.{IsKept}

module _ (d : Digest) (facts : WallFacts) where
  -- two stretches of calls, one after the other
  pub play_from-append : (leaves : List Leaf) (xs ys : List Called)
      → play_from d facts leaves (xs ++ ys) ≡ play_from d facts (play_from d facts leaves xs) ys
  play_from-append leaves xs ys = fold-append (left_by d facts) leaves xs ys

  pub legal-append : (leaves : List Leaf) (xs ys : List Called) → LegalFrom d facts leaves xs
      → LegalFrom d facts (play_from d facts leaves xs) ys → LegalFrom d facts leaves (xs ++ ys)
  legal-append leaves [] ys p q = q
  legal-append leaves (call ∷ xs) ys p q = (p.0, legal-append (left_by d facts leaves call) xs ys p.1 q)

  -- a wall that answers a call as it is to, and has the leaves that the answer leaves, is kept with that call
  pub kept-more : (leaves after : List Leaf) (entries : List Called) (call : Called) → IsKept d facts leaves entries
      → IsAnswered d facts leaves call → after ≡ left_behind d facts leaves call.ask call.answer
      → AllByRecursion IsLeaf after → IsKept d facts after (entries ++ call ∷ [])
  kept-more leaves after entries call kept answered same spelled =
      let played = kept.played in
      record {
        legal = legal-append [] entries (call ∷ []) kept.legal
            (subst (λ (xs : List Leaf). IsAnswered d facts xs call) played answered, tt);
        played = same ∙ ap (λ (xs : List Leaf). left_by d facts xs call) played
            ∙ sym (play_from-append [] entries (call ∷ []));
        spelled = spelled;
      }
