-- The records of a client that follows an honest wall show the wall.
use Rattle.std.proofs.Common.{◌≡◌, ◌∙◌, ℕ, ◌+◌, ◌<◌, Bool, true, false, List, [], ◌∷◌, ◌++◌, length, take, drop, sym, ap, subst, arith}
use Rattle.std.specs.Prelude.{if◌then◌else◌}
use Rattle.std.proofs.lemmas.List.{take_all}
use Rattle.std.proofs.lemmas.Option.{slice_get_within}
use Rattle.fr_bytes.specs.History.{Begins}
use Rattle.fr_bytes.proofs.Lists.{each-append}
use Rattle.fr_digest.specs.Digest.{Digest}
use Rattle.op_types.specs.declared.op.Leaf.{Leaf}
use Rattle.op_types.specs.declared.view.View.{View}
use Rattle.hist_proof.specs.Pruned.{Prunes, Tree}
use Rattle.pruned_list.specs.PrunedList.{PrunedList, PrunesDict}
use Rattle.wall_law.specs.State.{state_of}
use Rattle.honest_replies.specs.HonestNews.{ShowsNews}
use Rattle.honest_replies.proofs.Lists.{at-below}
use Rattle.hall_core.specs.declared.facts.WallFacts.{WallFacts}
use Rattle.hall_core.specs.PlainWall.{texts_of}
use Rattle.client_core.specs.Sides.{SideView}
use Rattle.session_laws.specs.Doing.{PlainClient, TookView, took_after, took_of}
use Rattle.check_rules.specs.Verdict.{taken}
use Rattle.run_laws.specs.Following.{AreTrue, IsTrue}
use Rattle.run_laws.proofs.Fronts.{all-more, front-take, front-within}

module _ (d : Digest) (facts : WallFacts) where
  true-longer : (xs ys : List Leaf) (r : TookView) → Begins xs ys → IsTrue d facts.owner xs r
      → IsTrue d facts.owner ys r
  true-longer xs ys r b it =
      let longer = front-within xs ys b in
      let covered = it.covered in
      let count = it.count in
      let same : take r.size ys ≡ take r.size xs = front-take r.size xs ys b covered in
      record {
        covered = omega arith;
        count = it.count;
        proof = subst (λ (ls : List Leaf). Prunes d r.proof (texts_of ls)) (sym same) it.proof;
        leaves = it.leaves ∙ ap (drop r.from) (sym same);
        lists = λ i p at.
            let inside = slice_get_within r.lists i p at in
            subst (λ (ls : List Leaf). PrunesDict d p (state_of facts.owner ls).entries)
            (sym (front-take (r.from + i) xs ys b (omega arith))) (it.lists i p at);
      }

  -- records that show a wall show it when it grows
  pub trues-longer : (xs ys : List Leaf) (took : List TookView) → Begins xs ys → AreTrue d facts xs took
      → AreTrue d facts ys took
  trues-longer xs ys took b all = all-more (λ (r : TookView). r.wall ≡ facts.wall → IsTrue d facts.owner xs r)
      (λ (r : TookView). r.wall ≡ facts.wall → IsTrue d facts.owner ys r)
      (λ r it at. true-longer xs ys r b (it at)) took all

  -- what is shown of all of the wall is true
  shown-true : (L : List Leaf) (user have from : ℕ) (s : SideView) (view : View) (tree : Tree) (lists : List PrunedList)
      → view.size ≡ length L → from < length L → ShowsNews d facts.owner have L from tree lists
      → IsTrue d facts.owner L (took_of user s view from tree (drop from L) lists)
  shown-true L user have from s view tree lists size some shows =
      let all : take view.size L ≡ L = take_all view.size L (omega arith) in
      let count = shows.proofs in
      record {
        covered = omega arith;
        count = omega arith;
        proof = subst (λ (ls : List Leaf). Prunes d tree (texts_of ls)) (sym all) shows.prunes;
        leaves = ap (drop from) (sym all);
        lists = λ i p at.
            let inside = slice_get_within lists i p at in
            let there = at-below L (from + i) (omega arith) in
            (shows.proves i there.0 p there.1 at).prunes;
      }

  -- so with the record of it
  pub taken-true : (L : List Leaf) (have from : ℕ) (c : PlainClient) (s : SideView) (view : View) (tree : Tree)
      (lists : List PrunedList) → view.size ≡ length L → from < length L
      → ShowsNews d facts.owner have L from tree lists → AreTrue d facts L c.took
      → AreTrue d facts L (took_after c s (taken view from tree (drop from L) lists))
  taken-true L have from c s view tree lists size some shows all = by c.rogue
    where
      by : (b : Bool) → AreTrue d facts L (if b then c.took
          else c.took ++ took_of c.user s view from tree (drop from L) lists ∷ [])
      by true = all
      by false = each-append (λ (r : TookView). r.wall ≡ facts.wall → IsTrue d facts.owner L r) c.took
          (took_of c.user s view from tree (drop from L) lists ∷ []) all
          (λ at. shown-true L c.user have from s view tree lists size some shows, tt)
