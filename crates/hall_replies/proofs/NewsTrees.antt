-- The pruned tree that shows what is new shows it.
use Rattle.std.proofs.Common.{◌≡◌, ℕ, zero, suc, ◌+◌, ◌-◌, ◌<◌, ◌≤◌, Bool, true, false, List, [], ◌∷◌, ◌++◌, length, drop, get_or, replicate, Some, refl, ap, sym, subst, ◌∙◌, arith}
use Rattle.std.specs.Prelude.{IsSome, is_some, slice_get}
use Rattle.std.specs.List.{Contains}
use Rattle.std.proofs.lemmas.List.{get_or-append_right, get_or-replicate, get_or_push, length-map, length-replicate, length_push}
use Rattle.fr_digest.specs.Digest.{Digest}
use Rattle.op_types.specs.declared.op.Leaf.{Leaf}
use Rattle.op_types.specs.Spelling.{leaf_text}
use Rattle.tree_model.specs.History.{depth, part}
use Rattle.tree_model.proofs.HistoryLaws.{depth-fits}
use Rattle.hist_proof.specs.Pruned.{Prunes, cut}
use Rattle.hist_proof.specs.Shown.{shown, shown_at}
use Rattle.hist_proof.proofs.Trees.{prunes-fits, shown-made}
use Rattle.pruned_list.specs.PrunedList.{PrunedList}
use Rattle.tree_prune.specs.LeastHistory.{from_on, least}
use Rattle.tree_prune.proofs.LeastLaws.{cuts, least-shown, prunes}
use Rattle.tree_prune.proofs.Marks.{length-from_on, shown_if}
use Rattle.honest_replies.specs.HonestNews.{ProvesAt, ShowsNews, texts_of}
use Rattle.honest_replies.proofs.Lists.{at-drop, below-at, map-at}
use Rattle.hall_replies.specs.Shown.{news_tree, view_sizes}

length-texts : (L : List Leaf) → length (texts_of L) ≡ length L
length-texts L = length-map L leaf_text

-- ---- marks and versions

set-on : (a n k : ℕ) → a ≤ k → k < n → get_or (from_on a n) k false ≡ true
set-on a n k from below =
    let front = length-replicate a false in
    get_or-append_right (replicate a false) (replicate (n - a) true) a k false front from
    ∙ get_or-replicate (n - a) (k - a) true false (omega arith)

last-listed : (vs : List ℕ) (v : ℕ) → Contains (vs ++ v ∷ []) v
last-listed vs v = (length vs, (let more = length_push vs v in omega (arith, more)), get_or_push vs v v (length vs) refl)

listed-at : (vs : List ℕ) (k v w : ℕ) → slice_get vs k ≡ Some v → Contains (vs ++ w ∷ []) v
listed-at [] k v w at = absurd cc
listed-at (x ∷ vs) zero v w at = (0, omega arith, (let same : x ≡ v = cc in same))
listed-at (x ∷ vs) (suc k) v w at =
    let it = listed-at vs k v w at in
    (suc it.0, (let less = it.1 in omega arith), it.2)

-- ---- the tree

module _ (d : Digest) (L : List Leaf) (have from : ℕ) (some : from < length L) where
  marks : List Bool
  marks = from_on (from - 1) (length L)

  versions : List ℕ
  versions = view_sizes (drop from L) ++ have ∷ []

  tree-is : news_tree d L have from ≡ least (part d) (depth (length (texts_of L))) (texts_of L) marks versions
  unfolding news_tree marks versions
  tree-is = ap (λ n. least (part d) (depth n) (texts_of L) marks versions) (sym (length-texts L))

  pub news-prunes : Prunes d (news_tree d L have from) (texts_of L)
  news-prunes = rw tree-is (prunes d (texts_of L) marks versions (let size = length-texts L in omega arith))

  news-shown : (k : ℕ) → from - 1 ≤ k → k < length L → IsSome (shown (news_tree d L have from) (length L) k)
  unfolding marks
  news-shown k low below =
      let size = length-texts L in
      let fitting = prunes-fits d (news_tree d L have from) (texts_of L) news-prunes in
      let count : length marks ≡ length (texts_of L) = length-from_on (from - 1) (length L) (omega arith) ∙ sym size in
      let own = ap (λ n. shown (news_tree d L have from) n k) (sym size)
      ∙ shown-made (news_tree d L have from) (length (texts_of L)) k fitting (omega arith)
      ∙ ap (λ p. shown_at (depth (length (texts_of L))) p k) tree-is
      ∙ least-shown (part d) (depth (length (texts_of L))) (texts_of L) marks versions k count (depth-fits (length (texts_of L))) (omega arith)
      ∙ ap (λ m. shown_if m (get_or (texts_of L) k [])) (set-on (from - 1) (length L) k low below) in
      ap is_some own

  news-cut : (v : ℕ) → Contains versions v → 0 < v → v ≤ length L → IsSome (cut (news_tree d L have from) (length L) v)
  news-cut v listed more within =
      let size = length-texts L in
      let own = cuts d (texts_of L) marks versions v more (omega arith) listed in
      subst (λ n. IsSome (cut (news_tree d L have from) n v)) size (rw tree-is own)

  news-embedded : (k : ℕ) (l : Leaf) → from ≤ k → slice_get L k ≡ Some l → Contains versions l.op.view.size
  unfolding versions
  news-embedded k l low at =
      let e : from + (k - from) ≡ k = omega arith in
      let here = at-drop L from (k - from) ∙ ap (slice_get L) e ∙ at in
      listed-at (view_sizes (drop from L)) (k - from) l.op.view.size have
      (map-at (λ (x : Leaf). x.op.view.size) (drop from L) (k - from) l here)

  pub shows-news : (owner : ℕ) (lists : List PrunedList) → length lists ≡ length L - from
      → ((k : ℕ) (l : Leaf) → slice_get L k ≡ Some l → l.op.view.size ≤ k)
      → ((i : ℕ) (l : Leaf) (p : PrunedList) → slice_get L (from + i) ≡ Some l → slice_get lists i ≡ Some p
      → ProvesAt d owner L (from + i) l p)
      → ShowsNews d owner have L from (news_tree d L have from) lists
  unfolding versions
  shows-news owner lists count early proves = record {
    prunes = news-prunes;
    shows = news-shown;
    sees = news-cut have (last-listed (view_sizes (drop from L)) have);
    embeds = λ k l low at more. news-cut l.op.view.size (news-embedded k l low at) more
        (let below = below-at L k l at in let first = early k l at in omega arith);
    proofs = count;
    proves = proves;
  }
