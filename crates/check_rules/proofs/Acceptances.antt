-- The rows over what a reply shows: none applies exactly where the reply is one that is accepted.
use Rattle.std.proofs.Common.{◌≡◌, ◌⊎◌, inl, inr, ℕ, ◌+◌, ◌-◌, ◌<◌, ◌≤◌, Bool, true, false, not, ◌&&◌, ◌||◌, List, [], ◌∷◌, Option, Some, None, refl, arith, eq-eqb}
use Rattle.std.specs.Prelude.{nat_eq, nat_lt, is_none}
use Rattle.std.specs.List.{list_any, AllByRecursion}
use Rattle.std.specs.Option.{option_map}
use Rattle.std.specs.Str.{bytes_eq}
use Rattle.std.proofs.lemmas.Bool.{ltb-false, ltb-true, le-ltb, lt-ltb, cases_lt}
use Rattle.fr_bytes.specs.Bytes.{Text}
use Rattle.fr_digest.specs.Digest.{Digest}
use Rattle.op_types.specs.declared.op.Leaf.{Leaf}
use Rattle.op_types.specs.declared.view.View.{View}
use Rattle.hist_proof.specs.Pruned.{Tree, at, cut, fits}
use Rattle.hist_proof.specs.Pruned as trees
use Rattle.pruned_list.specs.PrunedList.{PrunedList}
use Rattle.msg_form.specs.declared.verdict.Verdict.{Verdict}
use Rattle.msg_form.specs.declared.verdict.Verdict.TheVariants as verdicts
use Rattle.wall_law.specs.Position.{is_root}
use Rattle.wall_law.specs.Rows.{row}
use Rattle.wall_law.proofs.Rows.{AllNone, all-none, both-none, none-all, off-or, off-row, or-off, row-off}
use Rattle.check_rules.specs.declared.known.Known.{Known}
use Rattle.check_rules.specs.Accepted.{Accepted}
use Rattle.check_rules.specs.Shown.{anchor, leaves_from, shows_from}
use Rattle.check_rules.specs.Verdict.{is_bad_shape, is_other_root, is_other_wall, late_verdict, positions_verdict, shows_other_wall, told_before, tree_verdict, vouch_verdict, vouchers_found}
use Rattle.check_rules.proofs.Positions.{each-passes, none-stands}
use Rattle.check_rules.proofs.Tests.{bytes-equal, equal-bytes, equal-numbers, is-root, not-off, off-both, off-not, root-is, second-off}

-- ---- walls

same-walls : (known : Known) (leaves : List Leaf)
    → list_any (λ (l : Leaf). is_other_wall known l.op.wall) leaves ≡ false
    → AllByRecursion (λ (l : Leaf). l.op.wall ≡ known.wall) leaves
same-walls known [] e = tt
same-walls known (l ∷ ls) e =
    let both = or-off (is_other_wall known l.op.wall) (list_any (λ (l : Leaf). is_other_wall known l.op.wall) ls) e in
    (equal-numbers l.op.wall known.wall (not-off (nat_eq l.op.wall known.wall) both.0), same-walls known ls both.1)

pub walls-same : (known : Known) (leaves : List Leaf)
    → AllByRecursion (λ (l : Leaf). l.op.wall ≡ known.wall) leaves
    → list_any (λ (l : Leaf). is_other_wall known l.op.wall) leaves ≡ false
walls-same known [] each = refl
walls-same known (l ∷ ls) each = off-or (is_other_wall known l.op.wall)
    (list_any (λ (l : Leaf). is_other_wall known l.op.wall) ls)
    (off-not (nat_eq l.op.wall known.wall) (eq-eqb l.op.wall known.wall each.0)) (walls-same known ls each.1)

map-some : {A B : Type 0} (f : A → B) (x : Option A) (y : B) → option_map f x ≡ Some y → is_none x ≡ false
map-some f None y e = absurd cc
map-some f (Some a) y e = refl

-- ---- the rows

module _ (d : Digest) (known : Known) (view : View) (from : ℕ) (tree : Tree) (lists : List PrunedList) where
  abbrev found : ℕ
  found = vouchers_found (leaves_from tree view.size from) from

  abbrev is_from : Bool
  is_from = nat_lt from known.size || not (nat_lt from view.size)

  abbrev is_forked : Bool
  is_forked = nat_lt 0 known.size && not (is_root (at d tree view.size known.size) known.root)

  abbrev is_few : Bool
  is_few = nat_lt known.size from && not (nat_lt known.f found)

  abbrev positions : Option Verdict
  positions = positions_verdict d known tree view.size (told_before d known.owner (anchor tree view.size from)) from
      (leaves_from tree view.size from) lists

  abbrev tree_rows : List (Option Verdict)
  tree_rows =
      row is_from verdicts.BadFrom
      ∷ row (is_bad_shape known view.size from tree) verdicts.BadShape
      ∷ row (is_other_root (trees.digest_of d tree) view.root) verdicts.RootMismatch
      ∷ row is_forked verdicts.Forked
      ∷ []

  -- none of these applies, where none of all the rows does
  tree-off : late_verdict d known view from tree lists ≡ None → AllNone tree_rows
  unfolding late_verdict tree_verdict
  tree-off none = all-none tree_rows (both-none (tree_verdict d known view from tree)
      (vouch_verdict known from (leaves_from tree view.size from) ∷ positions ∷ []) none).0

  others-off : late_verdict d known view from tree lists ≡ None → (is_few ≡ false) × (positions ≡ None)
  unfolding late_verdict vouch_verdict
  others-off none =
      let others = both-none (tree_verdict d known view from tree)
      (vouch_verdict known from (leaves_from tree view.size from) ∷ positions ∷ []) none in
      let last = both-none (vouch_verdict known from (leaves_from tree view.size from)) (positions ∷ []) others.1 in
      (row-off is_few (verdicts.TooFewVouch found (known.f + 1)) last.0, (both-none positions [] last.1).0)

  vouched-by : known.size ≤ from → is_few ≡ false → (from ≡ known.size) ⊎ (known.f < found)
  vouched-by old e = elim (cases_lt known.size from) [
    | inl skips ↦ inr (ltb-true known.f found (not-off (nat_lt known.f found)
        (second-off (nat_lt known.size from) (not (nat_lt known.f found)) e (lt-ltb known.size from skips))))
    | inr level ↦ inl (omega arith)
  ]

  pub shape-fits : late_verdict d known view from tree lists ≡ None → fits tree view.size ≡ true
  shape-fits none =
      let each = tree-off none in
      let shape = or-off (not (fits tree view.size))
      (not (shows_from tree view.size (from - 1)) || (nat_lt 0 known.size && is_none (cut tree view.size known.size)))
      (row-off (is_bad_shape known view.size from tree) verdicts.BadShape each.1.0) in
      not-off (fits tree view.size) shape.0

  pub accepted : known.size < view.size → shows_other_wall known view.size tree from ≡ false
      → late_verdict d known view from tree lists ≡ None → Accepted d known view from tree lists
  accepted later same none =
      let each = tree-off none in
      let others = others-off none in
      let begins = or-off (nat_lt from known.size) (not (nat_lt from view.size)) (row-off is_from verdicts.BadFrom each.0) in
      let shape = or-off (not (fits tree view.size))
      (not (shows_from tree view.size (from - 1)) || (nat_lt 0 known.size && is_none (cut tree view.size known.size)))
      (row-off (is_bad_shape known view.size from tree) verdicts.BadShape each.1.0) in
      let shown = or-off (not (shows_from tree view.size (from - 1)))
      (nat_lt 0 known.size && is_none (cut tree view.size known.size)) shape.1 in
      let root = row-off (is_other_root (trees.digest_of d tree) view.root) verdicts.RootMismatch each.1.1.0 in
      let forked = row-off is_forked verdicts.Forked each.1.1.1.0 in
      let old = ltb-false from known.size begins.0 in
      record {
        later = later;
        old = old;
        some = ltb-true from view.size (not-off (nat_lt from view.size) begins.1);
        fitting = not-off (fits tree view.size) shape.0;
        shows = not-off (shows_from tree view.size (from - 1)) shown.0;
        root = equal-bytes (trees.digest_of d tree) view.root (not-off (bytes_eq (trees.digest_of d tree) view.root) root);
        extends = λ some. root-is (at d tree view.size known.size) known.root
            (not-off (is_root (at d tree view.size known.size) known.root)
            (second-off (nat_lt 0 known.size) (not (is_root (at d tree view.size known.size) known.root)) forked
            (lt-ltb 0 known.size some)));
        vouched = vouched-by old others.0;
        wall = same-walls known (leaves_from tree view.size from) same;
        positions = each-passes d known tree view.size (told_before d known.owner (anchor tree view.size from)) from
            (leaves_from tree view.size from) lists others.1;
      }

  has-cut : (x : Text) → at d tree view.size known.size ≡ Some x → is_none (cut tree view.size known.size) ≡ false
  unfolding at
  has-cut x e = map-some (trees.digest_of d) (cut tree view.size known.size) x e

  few-off : (from ≡ known.size) ⊎ (known.f < found) → is_few ≡ false
  few-off (inl level) = off-both (nat_lt known.size from) (not (nat_lt known.f found))
      (λ skips. absurd (let less = ltb-true known.size from skips in omega arith))
  few-off (inr enough) = off-both (nat_lt known.size from) (not (nat_lt known.f found))
      (λ skips. off-not (nat_lt known.f found) (lt-ltb known.f found enough))

  shape-off : Accepted d known view from tree lists → is_bad_shape known view.size from tree ≡ false
  shape-off a = off-or (not (fits tree view.size))
      (not (shows_from tree view.size (from - 1)) || (nat_lt 0 known.size && is_none (cut tree view.size known.size)))
      (off-not (fits tree view.size) a.fitting)
      (off-or (not (shows_from tree view.size (from - 1))) (nat_lt 0 known.size && is_none (cut tree view.size known.size))
      (off-not (shows_from tree view.size (from - 1)) a.shows)
      (off-both (nat_lt 0 known.size) (is_none (cut tree view.size known.size))
      (λ some. has-cut known.root (a.extends (ltb-true 0 known.size some)))))

  forked-off : Accepted d known view from tree lists → is_forked ≡ false
  forked-off a = off-both (nat_lt 0 known.size) (not (is_root (at d tree view.size known.size) known.root))
      (λ some. off-not (is_root (at d tree view.size known.size) known.root)
      (is-root (at d tree view.size known.size) known.root (a.extends (ltb-true 0 known.size some))))

  tree-silent : Accepted d known view from tree lists → tree_verdict d known view from tree ≡ None
  unfolding tree_verdict
  tree-silent a = none-all tree_rows (
    off-row is_from verdicts.BadFrom (off-or (nat_lt from known.size) (not (nat_lt from view.size))
        (le-ltb from known.size a.old) (off-not (nat_lt from view.size) (lt-ltb from view.size a.some))),
    (
      off-row (is_bad_shape known view.size from tree) verdicts.BadShape (shape-off a),
      (
        off-row (is_other_root (trees.digest_of d tree) view.root) verdicts.RootMismatch
            (off-not (bytes_eq (trees.digest_of d tree) view.root) (bytes-equal (trees.digest_of d tree) view.root a.root)),
        (off-row is_forked verdicts.Forked (forked-off a), tt),
      ),
    ),
  )

  vouch-silent : Accepted d known view from tree lists
      → vouch_verdict known from (leaves_from tree view.size from) ≡ None
  unfolding vouch_verdict
  vouch-silent a = off-row is_few (verdicts.TooFewVouch found (known.f + 1)) (few-off a.vouched)

  pub silent : Accepted d known view from tree lists → late_verdict d known view from tree lists ≡ None
  unfolding late_verdict
  silent a = none-all (tree_verdict d known view from tree
      ∷ vouch_verdict known from (leaves_from tree view.size from) ∷ positions ∷ []) (
        tree-silent a,
        (
          vouch-silent a,
          (
            none-stands d known tree view.size (told_before d known.owner (anchor tree view.size from)) from
                (leaves_from tree view.size from) lists a.positions,
            tt,
          ),
        ),
      )
