-- The comparisons of a record are ready, where those of the records that it needs agree.
use Rattle.std.proofs.Common.{◌≡◌, inl, inr, ℕ, suc, ◌+◌, ◌<◌, ◌≤◌, ◌&&◌, List, [], ◌∷◌, ◌++◌, map, take, Some, None, refl, ap, sym, subst, ◌∙◌, arith}
use Rattle.std.specs.Prelude.{nat_lt, slice_get}
use Rattle.std.specs.List.{AllByRecursion, flat_map}
use Rattle.std.specs.Option.{option_map}
use Rattle.std.proofs.lemmas.Bool.{and_parts, cases_Bool, cases_lt, cond-true, cond-false, ltb-true}
use Rattle.std.proofs.lemmas.List.{length-map, length-take-le, take-map}
use Rattle.std.proofs.lemmas.Option.{slice_get_within}
use Rattle.fr_digest.specs.Digest.{Digest}
use Rattle.op_types.specs.declared.op.Leaf.{Leaf}
use Rattle.op_types.specs.Spelling.{leaf_text}
use Rattle.tree_model.specs.History.{root, root_of_all}
use Rattle.hist_proof.specs.Pruned.{Tree, cut, digest_of, fits}
use Rattle.hist_proof.specs.Pruned.{at as root_at}
use Rattle.hist_proof.specs.View.{tree_view}
use Rattle.hist_proof.proofs.Trees.{cut-fits}
use Rattle.dict_proof.specs.View.{list_view}
use Rattle.pruned_list.specs.PrunedList.{PrunedList, PrunesDict}
use Rattle.pruned_list.specs.PrunedList as digests
use Rattle.tree_model.specs.declared.entry.Entry.{Entry}
use Rattle.wall_law.specs.Lawful.{Told}
use Rattle.wall_law.specs.State.{state_of}
use Rattle.wall_law.proofs.Histories.{state_of-rising}
use Rattle.wall_law.proofs.Owners.{state_of-some}
use Rattle.world_book.specs.declared.took.Took.{Took}
use Rattle.world_book.specs.declared.world.World.{World}
use Rattle.world_book.specs.Kept.{Kept, lists_of}
use Rattle.world_book.specs.Records.{IsIn, is_honest, records_of}
use Rattle.world_book.proofs.Leaves.{facts, leaf-passes}
use Rattle.world_audit.specs.Comparisons.{Agrees, Comparison, all_compared, base, base_compared, compared, dict, dicts_compared, front_with, needed, order, owner_of, prev_compared, record_compared, seen_by, some_in, texts_of, tree, tree_with, view_compared}
use Rattle.world_audit.specs.Ready.{AreReady, IsReady}
use Rattle.world_audit.specs.Sound.{NothingUnsigned}
use Rattle.world_audit.specs.Story.{prev, record_seen, story}
use Rattle.world_audit.proofs.Agreements.{all-some, base-part}
use Rattle.world_audit.proofs.Fits.{among-front}
use Rattle.world_audit.proofs.Fronts.{Upon, built}
use Rattle.world_audit.proofs.Lists.{lawful-until, told-each}
use Rattle.world_audit.proofs.Orders.{order-behind, order-only}
use Rattle.world_audit.proofs.Readies.{none-ready, ready-flat, ready-join, ready-one, ready-some}
use Rattle.world_audit.proofs.Roots.{base-in, base-root, prev-in, prev-root, seen-in, seen-root, some-prev}
use Rattle.world_audit.proofs.Stories.{base-smaller, prev-smaller, seen-smaller, story-length}
use Rattle.world_audit.proofs.Texts.{place-of}
use Rattle.world_audit.proofs.Trees.{tree-prunes, tree-root, tree-size, version-root}

-- the root of a front
front-root : (d : Digest) (L : List Leaf) (v : ℕ) → root_of_all d (texts_of (take v L)) ≡ root d (texts_of L) v
unfolding root
front-root d L v = ap (root_of_all d) (sym (take-map leaf_text v L))

-- the digest of what is cut
cut-digest : (d : Digest) (p : Tree) (n v : ℕ) (c : Tree) (x : List ℕ) → cut p n v ≡ Some c → root_at d p n v ≡ Some x
    → digest_of d c ≡ x
unfolding root_at
cut-digest d p n v c x cuts e =
    let one : Some (digest_of d c) ≡ Some x = sym (ap (option_map (digest_of d)) cuts) ∙ e in cc

ready-drop : (d : Digest) (c : Comparison) (cs : List Comparison) → IsReady d c → (Agrees d c → AreReady d cs)
    → AreReady d (c ∷ cs)
unfolding AreReady
ready-drop d c cs ready rest = (ready, rest)

agreed : (d : Digest) (p : PrunedList) (E : List Entry) → Agrees d (dict p E) → PrunesDict d p E
unfolding Agrees
agreed d p E agrees = agrees

module _ (d : Digest) (w : World) (kept : Kept d w) (unsigned : NothingUnsigned w) (Among : Took → Type 0)
    (closed : (x s : Took) → Among x → IsIn (needed w x) s → Among s)
    (agree : (x : Took) (M : List Leaf) → Among x → story w x ≡ Some M → AllByRecursion (Agrees d) (compared w x M))
    (r : Took) (L : List Leaf) (at : IsIn (records_of w) r) (history : story w r ≡ Some L)
    (needs : (s : Took) → IsIn (needed w r) s → Among s) where
  -- the root of another record's history
  other-root : (s : Took) (M : List Leaf) → IsIn (records_of w) s → Among s → story w s ≡ Some M
      → root_of_all d (texts_of M) ≡ s.root
  other-root s M there among of = tree-root d w kept s M there of (base-part d w s M (agree s M among of))

  base-upon : (front : List Leaf) (b : Took) (M : List Leaf) → Upon w r front b M → Among b
  base-upon front b M upon = needs b (base-in w r b upon.is)

  upon-closed : (x b : Took) (front M : List Leaf) → Among x → Upon w x front b M → Among b
  upon-closed x b front M among upon = closed x b among (base-in w x b upon.is)

  -- ---- the tree with the history that it rests on

  cut-ready : (b : Took) (M : List Leaf) (c : Tree) → IsIn (records_of w) b → base w r ≡ Some b → story w b ≡ Some M
      → cut (tree_view r.proof) r.size b.size ≡ Some c → IsReady d (tree c (texts_of M))
  unfolding IsReady
  cut-ready b M c there is of cuts = (
    ap (fits c) (length-map M leaf_text ∙ story-length d w kept b M there of)
        ∙ cut-fits (tree_view r.proof) r.size b.size c cuts,
    cut-digest d (tree_view r.proof) r.size b.size c b.root cuts (base-root d w kept unsigned r at b is)
        ∙ sym (other-root b M there (needs b (base-in w r b is)) of),
  )

  base-there : (b : Took) → base w r ≡ Some b → IsIn (records_of w) b
  base-there b is = (base-smaller d w kept r at b is).kept

  base-ready : AreReady d (base_compared w r)
  base-ready = ready-some d (λ (x : Took). flat_map (tree_with r x) (some_in (story w x))) (base w r)
      (λ b is. ready-some d (tree_with r b) (story w b)
      (λ M of. ready-one d (λ (x : Tree). tree x (texts_of M)) (cut (tree_view r.proof) r.size b.size)
      (λ c cuts. cut-ready b M c (base-there b is) is of cuts)))

  -- ---- fronts

  module _ (first : AllByRecursion (Agrees d) (base_compared w r)) where
    -- a front of the history, and the history of a record of its size
    front-ready : (s : Took) (M : List Leaf) (v : ℕ) → IsIn (records_of w) s → Among s → story w s ≡ Some M → s.size ≡ v
        → 0 < v → v ≤ r.size → root_at d (tree_view r.proof) r.size v ≡ Some s.root → IsReady d (front_with L v M)
    unfolding IsReady
    front-ready s M v there among of size some within versions =
        let long = story-length d w kept r L at history in
        let other = story-length d w kept s M there of in
        let short = length-take-le v L (omega arith) in
        let left = length-map (take v L) leaf_text in
        let right = length-map M leaf_text in (
          omega arith,
          omega arith,
          front-root d L v
              ∙ version-root d (tree_view r.proof) (texts_of L) v s.root (tree-prunes d w kept r L at history first)
              (ap (λ (n : ℕ). root_at d (tree_view r.proof) n v) (tree-size d w kept r L at history) ∙ versions)
              ∙ sym (other-root s M there among of),
        )

    prev-ready : AreReady d (prev_compared w r L)
    prev-ready = ready-some d (λ (x : Took). map (front_with L r.have) (some_in (story w x))) (prev w r)
        (λ p is. ready-one d (front_with L r.have) (story w p)
        (λ M of.
        let it = prev-smaller d w kept r p at is in
        let fewer = it.0.fewer in
        let size = it.1 in
        front-ready p M r.have it.0.kept (needs p (prev-in w r p is)) of size (some-prev d w kept unsigned r at p is)
        (omega arith) (prev-root d w kept unsigned r at p is)))

    view-ready : (i : ℕ) (l : Leaf) → slice_get r.leaves i ≡ Some l → AreReady d (view_compared w r L l)
    view-ready i l here = ready-some d (λ (x : Took). map (front_with L l.op.view.size) (some_in (story w x)))
        (seen_by w r.wall l)
        (λ s is. ready-one d (front_with L l.op.view.size) (story w s)
        (λ M of. elim (cases_Bool (is_honest w l.op.author && nat_lt 0 l.op.view.size)) [
          | inl sees ↦
              let both = and_parts (is_honest w l.op.author) (nat_lt 0 l.op.view.size) sees in
              let some = ltb-true 0 l.op.view.size both.1 in
              let found =
              sym (cond-true (is_honest w l.op.author && nat_lt 0 l.op.view.size)
              (record_seen w r.wall l) None sees)
              ∙ is in
              let it = seen-smaller d w kept r s i l at here found in
              let fewer = it.0.fewer in
              let size = it.1 in
              front-ready s M l.op.view.size it.0.kept (needs s (seen-in w r i l s M here is of)) of size some
              (omega arith)
              (seen-root d w kept unsigned r at i l s here both.0 some found)
          | inr not ↦ absurd (let e = sym (cond-false (is_honest w l.op.author && nat_lt 0 l.op.view.size)
              (record_seen w r.wall l) None not) ∙ is in cc)
        ]))

    -- ---- lists

    dict-ready : (i : ℕ) (p : PrunedList) → slice_get (lists_of r) i ≡ Some p
        → ((j : ℕ) (q : PrunedList) → j < i → slice_get (lists_of r) j ≡ Some q
        → PrunesDict d q (state_of (owner_of w r.wall) (take (r.from + j) L)).entries)
        → IsReady d (dict p (state_of (owner_of w r.wall) (take (r.from + i) L)).entries)
    unfolding IsReady
    dict-ready i p there prune =
        let owner = owner_of w r.wall in
        let within = slice_get_within (lists_of r) i p there in
        let many = length-map r.dicts list_view in
        let same = (facts d w kept r at).lists in
        let l = place-of r.leaves i (omega arith) in
        let front = among-front d w kept Among upon-closed agree r L (built d w kept r L at history)
        (base-upon (built d w kept r L at history).front) in
        let told = told-each d w kept r L at history first i prune front i (omega arith) (omega arith) in
        let lawful = lawful-until d w kept r L at history first i prune front in
        let it = leaf-passes d w kept r at i l.0 l.1 in
        let one : it.0 ≡ p = let e = sym it.1 ∙ there in cc in (
          state_of-some d owner r.wall (take (r.from + i) L) lawful,
          state_of-rising owner (take (r.from + i) L),
          ap (digests.digest_of d) (sym one) ∙ it.2.list ∙ ap (λ (t : Told). t.list) told,
        )

    dicts-ready : (i : ℕ) (ps : List PrunedList)
        → ((j : ℕ) (p : PrunedList) → slice_get ps j ≡ Some p → slice_get (lists_of r) (i + j) ≡ Some p)
        → ((j : ℕ) (q : PrunedList) → j < i → slice_get (lists_of r) j ≡ Some q
        → PrunesDict d q (state_of (owner_of w r.wall) (take (r.from + j) L)).entries)
        → AreReady d (dicts_compared (owner_of w r.wall) L (r.from + i) ps)
    unfolding dicts_compared
    dicts-ready i [] places prune = none-ready d
    dicts-ready i (p ∷ ps) places prune =
        let here : i + 0 ≡ i = omega arith in
        let next : i + 1 ≡ suc i = omega arith in
        let behind : r.from + suc i ≡ r.from + i + 1 = omega arith in
        let there = sym (ap (slice_get (lists_of r)) here) ∙ places 0 p refl in
        ready-drop d (dict p (state_of (owner_of w r.wall) (take (r.from + i) L)).entries)
        (dicts_compared (owner_of w r.wall) L (r.from + i + 1) ps)
        (dict-ready i p there prune)
        (λ agrees. subst (λ (n : ℕ). AreReady d (dicts_compared (owner_of w r.wall) L n ps)) behind
        (dicts-ready (suc i) ps
        (λ j q at. let e : i + suc j ≡ suc i + j = omega arith in
        sym (ap (slice_get (lists_of r)) e) ∙ places (suc j) q at)
        (λ j q less at. elim (cases_lt j i) [
          | inl before ↦ prune j q before at
          | inr level ↦
              let e : i ≡ j = omega arith in
              let same : p ≡ q = let f = sym there ∙ ap (slice_get (lists_of r)) e ∙ at in cc in
              subst (λ (n : ℕ). PrunesDict d q (state_of (owner_of w r.wall) (take (r.from + n) L)).entries) e
              (subst (λ (x : PrunedList). PrunesDict d x (state_of (owner_of w r.wall) (take (r.from + i) L)).entries)
              same (agreed d p (state_of (owner_of w r.wall) (take (r.from + i) L)).entries agrees))
        ])))

    lists-ready : AreReady d (dicts_compared (owner_of w r.wall) L r.from (lists_of r))
    lists-ready =
        let e : r.from + 0 ≡ r.from = omega arith in
        subst (λ (n : ℕ). AreReady d (dicts_compared (owner_of w r.wall) L n (lists_of r))) e
        (dicts-ready 0 (lists_of r)
        (λ j p at. let same : j ≡ 0 + j = omega arith in sym (ap (slice_get (lists_of r)) same) ∙ at)
        (λ j q less at. absurd (omega arith)))

  -- The comparisons of a record are ready.
  pub record-ready : AreReady d (compared w r L)
  unfolding compared
  record-ready =
      let dicts = dicts_compared (owner_of w r.wall) L r.from (lists_of r) in
      let views = flat_map (view_compared w r L) r.leaves in
      ready-join d (base_compared w r) (prev_compared w r L ++ (dicts ++ views)) base-ready
      (λ first. ready-join d (prev_compared w r L) (dicts ++ views) (prev-ready first)
      (λ fronts. ready-join d dicts views (lists-ready first)
      (λ states. ready-flat d (view_compared w r L) r.leaves (λ i l here before. view-ready first i l here))))

-- ---- all records

-- All comparisons are ready.
pub all-ready : (d : Digest) (w : World) → Kept d w → NothingUnsigned w → AreReady d (all_compared w)
unfolding all_compared
all-ready d w kept unsigned = ready-flat d (record_compared w) (order w) (λ i r place before.
    let has = order-only d w kept r (record { place = i; there = place }) in
    ready-some d (compared w r) (story w r) (λ L history.
    record-ready d w kept unsigned (λ (x : Took). (j : ℕ) × (j < i) × (slice_get (order w) j ≡ Some x))
    (λ x s among need.
    let it = order-behind d w kept among.0 x s among.2 need in
    let less = it.1 in
    let fewer = among.1 in
    (it.0, omega arith, it.2))
    (λ x M among of. all-some (Agrees d) (compared w x) (story w x) M (before among.0 x among.1 among.2) of)
    r L has.kept history
    (λ s need. order-behind d w kept i r s place need)))
