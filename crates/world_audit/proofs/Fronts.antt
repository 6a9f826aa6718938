-- Histories as a front and the leaves that are shown. The front is that of another record's history.
use Rattle.std.proofs.Common.{◌≡◌, ◌⊎◌, inl, inr, ℕ, zero, suc, ◌+◌, ◌-◌, ◌<◌, ◌≤◌, List, [], ◌++◌, length, take, Some, refl, ap, sym, subst, ◌∙◌, arith, eq-eqb}
use Rattle.std.specs.Prelude.{nat_eq, slice_get}
use Rattle.std.proofs.lemmas.Bool.{cond-true, cond-false, ne_eqb}
use Rattle.std.proofs.lemmas.List.{length-take-le, take_all}
use Rattle.std.proofs.lemmas.Option.{slice_get_within}
use Rattle.fr_bytes.specs.Bytes.{Text}
use Rattle.fr_digest.specs.Digest.{Digest}
use Rattle.op_types.specs.declared.op.Leaf.{Leaf}
use Rattle.hist_proof.specs.Pruned.{Tree, cut, digest_of}
use Rattle.hist_proof.specs.Pruned.{at as root_at}
use Rattle.hist_proof.specs.View.{tree_view}
use Rattle.world_book.specs.declared.took.Took.{Took}
use Rattle.world_book.specs.declared.world.World.{World}
use Rattle.world_book.specs.Kept.{Kept}
use Rattle.world_book.specs.Records.{IsIn, records_of}
use Rattle.world_book.proofs.Leaves.{before-root, facts, leaf-root, leaf-shown}
use Rattle.world_book.proofs.Places.{place-either, place-right}
use Rattle.world_book.proofs.Shown.{ShowsLeaf}
use Rattle.world_audit.specs.Comparisons.{base}
use Rattle.world_audit.specs.Story.{prev, story, vouched}
use Rattle.world_audit.proofs.Stories.{Smaller, follows, mapped, prev-smaller, skips, stands-on, story-length, vouched-smaller, whole}
use Rattle.world_audit.proofs.Texts.{AreLeaves, take-leaves}

-- The front is that of the history of the record that this one rests on, whose version can be cut of the tree.
pub record Upon (w : World) (r : Took) (front : List Leaf) (b : Took) (M : List Leaf) : Type 0 where
  pub smaller : Smaller w r b
  pub covers : r.from ≤ b.size
  pub is : base w r ≡ Some b
  pub history : story w b ≡ Some M
  pub long : length M ≡ b.size
  pub front_is : front ≡ take r.from M
  pub short : Tree
  pub cuts : cut (tree_view r.proof) r.size b.size ≡ Some short

-- It is a front, and behind it the leaves that are shown.
pub record Built (w : World) (r : Took) (L : List Leaf) : Type 0 where
  pub front : List Leaf
  pub long : length front ≡ r.from
  pub joined : L ≡ front ++ r.leaves
  pub rests : (r.from ≡ 0) ⊎ ((b : Took) × (M : List Leaf) × Upon w r front b M)

has-cut : (d : Digest) (p : Tree) (n v : ℕ) (x : Text) → root_at d p n v ≡ Some x → (c : Tree) × (cut p n v ≡ Some c)
unfolding root_at
has-cut d p n v x e = let it = mapped (digest_of d) (cut p n v) x e in (it.0, it.1)

module _ (d : Digest) (w : World) (kept : Kept d w) where
  upon-prev : (r p : Took) (M : List Leaf) → IsIn (records_of w) r → r.from ≡ r.have → 0 < r.have → prev w r ≡ Some p
      → story w p ≡ Some M → Upon w r M p M
  upon-prev r p M at level some is history =
      let it = prev-smaller d w kept r p at is in
      let size = it.1 in
      let long = story-length d w kept p M it.0.kept history in
      let last = (facts d w kept r at).prev some in
      let version = has-cut d (tree_view r.proof) r.size r.have last.0.root
      (before-root d w kept r at last.0 last.1.last some) in
      record {
        smaller = it.0;
        covers = omega arith;
        is = cond-true (nat_eq r.from r.have) (prev w r) (vouched w r) (eq-eqb r.from r.have level) ∙ is;
        history = history;
        long = long;
        front_is = sym (take_all r.from M (omega arith));
        short = version.0;
        cuts = ap (cut (tree_view r.proof) r.size) size ∙ version.1;
      }

  upon-vouched : (r s : Took) (M : List Leaf) → IsIn (records_of w) r → r.have < r.from → vouched w r ≡ Some s
      → story w s ≡ Some M → Upon w r (take r.from M) s M
  upon-vouched r s M at least is history =
      let it = vouched-smaller d w kept r s at is in
      let by = it.1.1 in
      let size = by.size in
      let covers = by.covers in
      let leaf = it.1.0 in
      let version = has-cut d (tree_view r.proof) r.size leaf.op.view.size leaf.op.view.root
      (leaf-root d w kept r at by.shown.place leaf by.shown.there (omega arith)) in
      record {
        smaller = it.0;
        covers = omega arith;
        is = cond-false (nat_eq r.from r.have) (prev w r) (vouched w r)
            (ne_eqb r.from r.have (λ e. omega arith)) ∙ is;
        history = history;
        long = story-length d w kept s M it.0.kept history;
        front_is = refl;
        short = version.0;
        cuts = ap (cut (tree_view r.proof) r.size) size ∙ version.1;
      }

  -- Each history is built so.
  pub built : (r : Took) (L : List Leaf) → IsIn (records_of w) r → story w r ≡ Some L → Built w r L
  built r L at history = elim (stands-on d w kept r L at history) [
    | whole none from is ↦ record { front = []; long = sym from; joined = is; rests = inl from }
    | follows p M level some is of joined ↦
        let it = upon-prev r p M at level some is of in
        let long = it.long in
        let size = (prev-smaller d w kept r p at is).1 in
        record { front = M; long = omega arith; joined = joined; rests = inr (p, M, it) }
    | skips s M least is of joined ↦
        let it = upon-vouched r s M at least is of in
        let long = it.long in
        let covers = it.covers in
        record {
          front = take r.from M;
          long = length-take-le r.from M (omega arith);
          joined = joined;
          rests = inr (s, M, it);
        }
  ]

  -- ---- positions of a history

  -- A position is in the front, or it is one that is shown.
  pub story-place : (r : Took) (L : List Leaf) (of : Built w r L) (k : ℕ) (l : Leaf) → slice_get L k ≡ Some l
      → (slice_get of.front k ≡ Some l) ⊎ ((r.from ≤ k) × (slice_get r.leaves (k - r.from) ≡ Some l))
  story-place r L of k l at =
      let long = of.long in
      elim (place-either of.front r.leaves k l (sym (ap (λ (ls : List Leaf). slice_get ls k) of.joined) ∙ at)) [
        | inl there ↦ inl there
        | inr behind ↦
            let less = behind.0 in
            inr (omega arith, subst (λ (n : ℕ). slice_get r.leaves (k - n) ≡ Some l) long behind.1)
      ]

  pub story-behind : (r : Took) (L : List Leaf) (of : Built w r L) (k : ℕ) (l : Leaf) → r.from ≤ k
      → slice_get L k ≡ Some l
      → slice_get r.leaves (k - r.from) ≡ Some l
  story-behind r L of k l behind at = elim (story-place r L of k l at) [
    | inl there ↦ absurd (let within = slice_get_within of.front k l there in let long = of.long in omega arith)
    | inr here ↦ here.1
  ]

  pub leaf-place : (r : Took) (L : List Leaf) (of : Built w r L) (i : ℕ) (l : Leaf) → slice_get r.leaves i ≡ Some l
      → slice_get L (r.from + i) ≡ Some l
  leaf-place r L of i l here =
      ap (λ (ls : List Leaf). slice_get ls (r.from + i)) of.joined
      ∙ ap (λ (n : ℕ). slice_get (of.front ++ r.leaves) (n + i)) (sym of.long)
      ∙ place-right of.front r.leaves i ∙ here

  pub story-shown : (r : Took) (L : List Leaf) → IsIn (records_of w) r → (of : Built w r L) → (k : ℕ) (l : Leaf)
      → r.from ≤ k
      → slice_get L k ≡ Some l → ShowsLeaf (tree_view r.proof) r.size k l
  story-shown r L at of k l behind here =
      let e : r.from + (k - r.from) ≡ k = omega arith in
      subst (λ (n : ℕ). ShowsLeaf (tree_view r.proof) r.size n l) e
      (leaf-shown d w kept r at (k - r.from) l (story-behind r L of k l behind here))

  -- ---- leaves of histories

  are-leaves : (m : ℕ) (r : Took) (L : List Leaf) → IsIn (records_of w) r → r.size ≤ m → story w r ≡ Some L
      → AreLeaves L
  are-leaves zero r L at few history = absurd (let later = (facts d w kept r at).accepted.later in omega arith)
  are-leaves (suc m) r L at few history =
      let of = built r L at history in
      record {
        each = λ k l here. elim (story-place r L of k l here) [
          | inl there ↦ elim of.rests [
            | inl none ↦ absurd (let within = slice_get_within of.front k l there in let long = of.long in omega arith)
            | inr upon ↦
                let fewer = upon.2.smaller.fewer in
                let others = are-leaves m upon.0 upon.1 upon.2.smaller.kept (omega arith) upon.2.history in
                (take-leaves r.from upon.1 others).each k l
                (sym (ap (λ (ls : List Leaf). slice_get ls k) upon.2.front_is) ∙ there)
          ]
          | inr behind ↦ (story-shown r L at of k l behind.0 here).is_leaf
        ];
      }

  -- The leaves of a history have spellings.
  pub story-leaves : (r : Took) (L : List Leaf) → IsIn (records_of w) r → story w r ≡ Some L → AreLeaves L
  story-leaves r L at history = are-leaves r.size r L at (omega arith) history
