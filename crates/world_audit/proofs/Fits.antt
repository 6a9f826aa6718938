-- Histories with a ground, one resting on another: they are lawful, and what holds of their positions.
use Rattle.std.proofs.Common.{◌≡◌, inl, inr, ℕ, zero, suc, ◌+◌, ◌-◌, ◌<◌, ◌≤◌, true, List, take, Some, refl, ap, sym, subst, ◌∙◌, arith, length}
use Rattle.std.specs.Prelude.{slice_get}
use Rattle.std.specs.List.{AllByRecursion}
use Rattle.std.proofs.lemmas.List.{take-map, take-take, take_at}
use Rattle.std.proofs.lemmas.Option.{slice_get_within}
use Rattle.fr_digest.specs.Digest.{Digest}
use Rattle.op_types.specs.declared.op.Leaf.{Leaf}
use Rattle.op_types.specs.Spelling.{leaf_text}
use Rattle.tree_model.specs.History.{root, root_of_all}
use Rattle.hist_proof.specs.Pruned.{at as root_at}
use Rattle.hist_proof.specs.View.{tree_view}
use Rattle.wall_law.specs.Lawful.{Lawful}
use Rattle.wall_law.proofs.Extensions.{lawful-nil}
use Rattle.wall_law.proofs.Histories.{lawful-take, lawful-view}
use Rattle.world_book.specs.declared.took.Took.{Took}
use Rattle.world_book.specs.declared.world.World.{World}
use Rattle.world_book.specs.Kept.{Kept}
use Rattle.world_book.specs.Records.{IsIn, is_honest, record_of, records_of}
use Rattle.world_book.proofs.Leaves.{facts, leaf-root, leaf-wall}
use Rattle.world_book.proofs.Places.{place-take}
use Rattle.world_book.proofs.Records.{record-honest, signed-seen}
use Rattle.world_audit.specs.Comparisons.{Agrees, compared, owner_of, texts_of}
use Rattle.world_audit.specs.Sound.{AllAgree, ForkStar, HonestlyChecked, NothingUnsigned, ShowsSame, SignedSeen}
use Rattle.world_audit.specs.Story.{story}
use Rattle.world_audit.proofs.Agreements.{base-part, lists-agree, view-agrees}
use Rattle.world_audit.proofs.Fronts.{Built, Upon, built, story-leaves, story-place}
use Rattle.world_audit.proofs.Lists.{story-lawful}
use Rattle.world_audit.proofs.Stories.{seen-smaller, story-length}
use Rattle.world_audit.proofs.Texts.{place-of, same-leaves, take-leaves}
use Rattle.world_audit.proofs.Trees.{tree-prunes, tree-size, version-root}

-- ---- fronts

module _ (w : World) (r : Took) (L : List Leaf) (of : Built w r L) where
  front-of : take r.from L ≡ of.front
  front-of = ap (take r.from) of.joined ∙ take_at of.front r.leaves r.from of.long

  -- Up to the first leaf that is shown it is the history that it rests on.
  pub same-front : (b : Took) (M : List Leaf) → Upon w r of.front b M → (n : ℕ) → n ≤ r.from → take n L ≡ take n M
  same-front b M upon n few =
      sym (take-take n r.from L few) ∙ ap (take n) (front-of ∙ upon.front_is) ∙ take-take n r.from M few

  front-place : (b : Took) (M : List Leaf) → Upon w r of.front b M → (k : ℕ) (l : Leaf) → slice_get of.front k ≡ Some l
      → (k < r.from) × (slice_get M k ≡ Some l)
  front-place b M upon k l there =
      place-take r.from M k l (sym (ap (λ (ls : List Leaf). slice_get ls k) upon.front_is) ∙ there)

same-root : (d : Digest) (L M : List Leaf) (v : ℕ) → take v L ≡ take v M → root d (texts_of L) v ≡ root d (texts_of M) v
unfolding root
same-root d L M v same =
    ap (root_of_all d) (take-map leaf_text v L ∙ ap texts_of same ∙ sym (take-map leaf_text v M))

-- Among records of which each comparison agrees, and with each the one that it rests on, histories are lawful.
module _ (d : Digest) (w : World) (kept : Kept d w) (Among : Took → Type 0)
    (closed : (r b : Took) (front M : List Leaf) → Among r → Upon w r front b M → Among b)
    (agree : (r : Took) (L : List Leaf) → Among r → story w r ≡ Some L → AllByRecursion (Agrees d)
    (compared w r L)) where
  -- the front that a record doesn't show
  front-lawful : (r : Took) (L : List Leaf) (of : Built w r L)
      → ((b : Took) (M : List Leaf) → Upon w r of.front b M → Lawful d (owner_of w b.wall) b.wall M)
      → Lawful d (owner_of w r.wall) r.wall (take r.from L)
  front-lawful r L of below = elim of.rests [
    | inl none ↦ subst (λ (n : ℕ). Lawful d (owner_of w r.wall) r.wall (take n L)) (sym none)
        (lawful-nil d (owner_of w r.wall) r.wall)
    | inr it ↦
        let upon = it.2 in
        subst (λ (ls : List Leaf). Lawful d (owner_of w r.wall) r.wall ls)
        (sym (same-front w r L of it.0 it.1 upon r.from (omega arith)))
        (lawful-take d (owner_of w r.wall) r.wall it.1 r.from
        (subst (λ (n : ℕ). Lawful d (owner_of w n) n it.1) upon.smaller.wall (below it.0 it.1 upon)))
  ]

  lawful-all : (m : ℕ) (r : Took) (L : List Leaf) → IsIn (records_of w) r → r.size ≤ m → Among r → story w r ≡ Some L
      → Lawful d (owner_of w r.wall) r.wall L
  lawful-all zero r L at few among history =
      absurd (let later = (facts d w kept r at).accepted.later in omega arith)
  lawful-all (suc m) r L at few among history =
      let of = built d w kept r L at history in
      let all = agree r L among history in
      story-lawful d w kept r L at history (base-part d w r L all) (length r.leaves)
      (λ i p less there. lists-agree d w r L all i p there)
      (front-lawful r L of (λ b M upon.
      let fewer = upon.smaller.fewer in
      lawful-all m b M upon.smaller.kept (omega arith) (closed r b of.front M among upon) upon.history))
      (omega arith)

  pub among-lawful : (r : Took) (L : List Leaf) → IsIn (records_of w) r → Among r → story w r ≡ Some L
      → Lawful d (owner_of w r.wall) r.wall L
  among-lawful r L at among history = lawful-all r.size r L at (omega arith) among history

  -- The front of a record whose base is among them is lawful.
  pub among-front : (r : Took) (L : List Leaf) (of : Built w r L)
      → ((b : Took) (M : List Leaf) → Upon w r of.front b M → Among b)
      → Lawful d (owner_of w r.wall) r.wall (take r.from L)
  among-front r L of among = front-lawful r L of
      (λ b M upon. among-lawful b M upon.smaller.kept (among b M upon) upon.history)

module _ (d : Digest) (w : World) (kept : Kept d w) (agree : AllAgree d w) where
  -- ---- lawful

  -- Each history is lawful.
  pub all-lawful : (r : Took) (L : List Leaf) → IsIn (records_of w) r → story w r ≡ Some L
      → Lawful d (owner_of w r.wall) r.wall L
  all-lawful r L at history = among-lawful d w kept (λ (x : Took). IsIn (records_of w) x)
      (λ x b front M among upon. upon.smaller.kept) (λ x M among of. agree x M among of) r L at at history

  -- ---- checked

  -- a position that the history below has
  checked-below : (r b : Took) (L M : List Leaf) (k : ℕ) (s : Took) → b.wall ≡ r.wall → take (k + 1) L ≡ take (k + 1) M
      → ShowsSame w b M k s → ShowsSame w r L k s
  checked-below r b L M k s wall same it = record {
    kept = it.kept;
    honest = it.honest;
    wall = it.wall ∙ wall;
    shows = it.shows;
    M = it.M;
    history = it.history;
    same = it.same ∙ sym same;
  }

  checked-here : (r : Took) (L : List Leaf) (k : ℕ) → IsIn (records_of w) r → story w r ≡ Some L → r.from ≤ k
      → k < r.size
      → ShowsSame w r L k r
  checked-here r L k at history behind within = record {
    kept = at;
    honest = record-honest d w kept r at;
    wall = refl;
    shows = (behind, within);
    M = L;
    history = history;
    same = refl;
  }

  checked-all : (m : ℕ) (r : Took) (L : List Leaf) → IsIn (records_of w) r → r.size ≤ m → story w r ≡ Some L
      → HonestlyChecked w r L
  checked-all zero r L at few history k within = absurd (let later =
      (facts d w kept r at).accepted.later in omega arith)
  checked-all (suc m) r L at few history k within =
      let of = built d w kept r L at history in
      let l = place-of L k within in
      let long = story-length d w kept r L at history in
      elim (story-place d w kept r L of k l.0 l.1) [
        | inl there ↦ elim of.rests [
          | inl none ↦ absurd (let less = slice_get_within of.front k l.0 there in let size = of.long in omega arith)
          | inr it ↦
              let upon = it.2 in
              let fewer = upon.smaller.fewer in
              let place = front-place w r L of it.0 it.1 upon k l.0 there in
              let less = place.0 in
              let below = checked-all m it.0 it.1 upon.smaller.kept (omega arith) upon.history k
              (slice_get_within it.1 k l.0 place.1) in (
                below.0,
                checked-below r it.0 L it.1 k below.0 upon.smaller.wall
                    (same-front w r L of it.0 it.1 upon (k + 1) (omega arith)) below.1,
              )
        ]
        | inr here ↦ (r, checked-here r L k at history here.0 (omega arith))
      ]

  pub all-checked : (r : Took) (L : List Leaf) → IsIn (records_of w) r → story w r ≡ Some L → HonestlyChecked w r L
  all-checked r L at history = checked-all r.size r L at (omega arith) history

  -- ---- views

  module _ (unsigned : NothingUnsigned w) where
    seen-below : (r b : Took) (L M : List Leaf) (leaf : Leaf) → b.wall ≡ r.wall
        → take leaf.op.view.size L ≡ take leaf.op.view.size M → SignedSeen d w b M leaf → SignedSeen d w r L leaf
    seen-below r b L M leaf wall same it = record {
      signed = it.signed;
      seen = λ some.
          let seen = it.seen some in (
            seen.0,
            ap (λ (n : ℕ). record_of w leaf.op.author n leaf.op.view.size) (sym wall) ∙ seen.1,
            same-root d L M leaf.op.view.size same ∙ seen.2,
            λ K history. same ∙ seen.3 K history,
          );
    }

    seen-here : (r : Took) (L : List Leaf) (i : ℕ) (leaf : Leaf) → IsIn (records_of w) r → story w r ≡ Some L
        → slice_get r.leaves i ≡ Some leaf → is_honest w leaf.op.author ≡ true → SignedSeen d w r L leaf
    seen-here r L i leaf at history here honest =
        let v = leaf.op.view.size in
        let signs = unsigned r leaf at (record { place = i; there = here }) honest in
        record {
          signed = signs;
          seen = λ some.
              let it = signed-seen d w kept leaf.op.author leaf.op signs some in
              let found =
              ap (λ (n : ℕ). record_of w leaf.op.author n v) (sym (leaf-wall d w kept r at i leaf here)) ∙ it.1 in
              let prunes = tree-prunes d w kept r L at history (base-part d w r L (agree r L at history)) in (
                it.0,
                found,
                version-root d (tree_view r.proof) (texts_of L) v leaf.op.view.root prunes
                    (ap (λ (n : ℕ). root_at d (tree_view r.proof) n v) (tree-size d w kept r L at history)
                    ∙ leaf-root d w kept r at i leaf here some) ∙ sym it.2,
                λ K other.
                    let smaller = (seen-smaller d w kept r it.0 i leaf at here found).0 in
                    same-leaves (take v L) K (take-leaves v L (story-leaves d w kept r L at history))
                    (story-leaves d w kept it.0 K smaller.kept other)
                    (view-agrees d w r L (agree r L at history) i leaf it.0 K here honest some found other),
              );
        }

    forks-all : (m : ℕ) (r : Took) (L : List Leaf) → IsIn (records_of w) r → r.size ≤ m → story w r ≡ Some L
        → ForkStar d w r L
    forks-all zero r L at few history k leaf there honest =
        absurd (let later = (facts d w kept r at).accepted.later in omega arith)
    forks-all (suc m) r L at few history k leaf there honest =
        let of = built d w kept r L at history in
        let early = lawful-view d (owner_of w r.wall) r.wall L k leaf (all-lawful r L at history) there in
        elim (story-place d w kept r L of k leaf there) [
          | inl front ↦ elim of.rests [
            | inl none ↦ absurd (let less = slice_get_within of.front k leaf front in let size = of.long in omega arith)
            | inr it ↦
                let upon = it.2 in
                let fewer = upon.smaller.fewer in
                let place = front-place w r L of it.0 it.1 upon k leaf front in
                let less = place.0 in
                seen-below r it.0 L it.1 leaf upon.smaller.wall
                (same-front w r L of it.0 it.1 upon leaf.op.view.size (omega arith))
                (forks-all m it.0 it.1 upon.smaller.kept (omega arith) upon.history k leaf place.1 honest)
          ]
          | inr here ↦ seen-here r L (k - r.from) leaf at history here.1 honest
        ]

    pub all-fork_star : (r : Took) (L : List Leaf) → IsIn (records_of w) r → story w r ≡ Some L → ForkStar d w r L
    all-fork_star r L at history = forks-all r.size r L at (omega arith) history
