-- The leaves that a record shows are lawful, where each pruned list prunes the state before its position.
use Rattle.std.proofs.Common.{◌≡◌, inl, inr, ℕ, zero, suc, ◌+◌, ◌-◌, ◌<◌, ◌≤◌, List, [], ◌∷◌, length, take, Option, Some, None, refl, ap, sym, subst, ◌∙◌, arith}
use Rattle.std.specs.Prelude.{nat_lt, option_and_then, slice_get}
use Rattle.std.specs.List.{AllByRecursion}
use Rattle.std.specs.Option.{option_map}
use Rattle.std.proofs.lemmas.Bool.{cases_lt, cond-false, le-ltb}
use Rattle.std.proofs.lemmas.List.{take-take}
use Rattle.std.proofs.lemmas.Option.{slice_get_within}
use Rattle.fr_digest.specs.Digest.{Digest}
use Rattle.op_types.specs.declared.op.Leaf.{Leaf}
use Rattle.op_types.specs.Kinds.{changed_user}
use Rattle.op_types.specs.Spelling.{leaf_text}
use Rattle.tree_model.specs.declared.entry.Entry.{Entry}
use Rattle.tree_model.specs.AccessList.{IsRising, changed_set, entry_of}
use Rattle.hist_proof.specs.Pruned.{Tree}
use Rattle.hist_proof.specs.View.{tree_view}
use Rattle.hist_proof.proofs.Trees.{prunes-texts}
use Rattle.hist_proof.specs.Shown.{shown}
use Rattle.pruned_list.specs.PrunedList.{PrunedList, PrunesDict, changed, seek}
use Rattle.pruned_list.specs.PrunedList as lists
use Rattle.pruned_list.proofs.Changes.{changed-prunes}
use Rattle.pruned_list.proofs.Prunings.{digest-dict}
use Rattle.dict_proof.proofs.Prunings.{finds}
use Rattle.wall_law.specs.declared.state.State.{State}
use Rattle.wall_law.specs.Law.{law, law_of}
use Rattle.wall_law.specs.Lawful.{ComesNext, IsLawfulAt, Lawful, Told, told, told_of}
use Rattle.wall_law.specs.Position.{IsOf, PositionPasses}
use Rattle.wall_law.specs.State.{change_of, opening, state_of}
use Rattle.wall_law.proofs.Extensions.{lawful_at-next, lawful_at-prefix, lawful-rest}
use Rattle.wall_law.proofs.Histories.{state_of-next, state_of-rising}
use Rattle.wall_law.proofs.Owners.{law-fits}
use Rattle.wall_law.proofs.Positions.{comes-next}
use Rattle.check_rules.specs.declared.known.Known.{Known}
use Rattle.check_rules.specs.Accepted.{told_at}
use Rattle.check_rules.specs.Shown.{anchor, leaf_shown}
use Rattle.check_rules.specs.Verdict.{finding, looked, looked_user, told_before}
use Rattle.world_book.specs.declared.took.Took.{Took}
use Rattle.world_book.specs.declared.world.World.{World}
use Rattle.world_book.specs.Kept.{Kept, lists_of}
use Rattle.world_book.specs.Records.{IsIn, records_of}
use Rattle.world_book.proofs.Leaves.{anchor-shown, count-leaves, facts, known, leaf-passes, told_first}
use Rattle.world_book.proofs.Places.{place-take, take-place}
use Rattle.world_audit.specs.Comparisons.{Agrees, base_compared, owner_in, owner_of, texts_of}
use Rattle.world_audit.specs.Story.{story}
use Rattle.world_audit.proofs.Fronts.{built, leaf-place, story-behind, story-leaves}
use Rattle.world_audit.proofs.Stories.{mapped, story-length}
use Rattle.world_audit.proofs.Texts.{place-of, same-leaf}
use Rattle.world_audit.proofs.Trees.{leaf-at, tree-prunes, tree-size}

-- ---- look-ups in a list that prunes a state's

module _ (d : Digest) (E : List Entry) (list : PrunedList) (rising : IsRising E) (prunes : PrunesDict d list E) where
  looked-found : (u : ℕ) (o : Option Entry) → looked (seek list u) ≡ Some o → looked (seek list u) ≡ Some (entry_of E u)
  looked-found u o e = elim (finds d list E u rising prunes) [
    | inl hid ↦ absurd (let f = sym (ap looked hid) ∙ e in cc)
    | inr found ↦ ap looked found
  ]

  user-found : (user : Option ℕ) (o : Option Entry) → looked_user list user ≡ Some o
      → looked_user list user ≡ Some (option_and_then (λ (u : ℕ). entry_of E u) user)
  user-found None o e = refl
  user-found (Some u) o e = looked-found u o e

same-found : {A : Type 0} (x : Option A) (a b : A) → x ≡ Some a → x ≡ Some b → a ≡ b
same-found x a b e f = cc

-- The look-ups and the change are those of the state.
is-of : (d : Digest) (s : State) (knows : Known) (tree : Tree) (size : ℕ) (list : PrunedList) (wall k : ℕ) (leaf : Leaf)
    → IsRising s.entries → PrunesDict d list s.entries
    → PositionPasses (told_of d s) wall k leaf (finding d knows tree size list leaf)
    → IsOf d s leaf.op (finding d knows tree size list leaf)
unfolding law
is-of d s knows tree size list wall k leaf rising prunes p =
    let op = leaf.op in
    let author = looked-found d s.entries list rising prunes op.author p.author p.finds_author in
    let other = user-found d s.entries list rising prunes (changed_user op.kind) p.changed p.finds_changed in
    let user = option_and_then (λ (u : ℕ). entry_of s.entries u) (changed_user op.kind) in
    let same =
    same-found (looked (seek list op.author)) (entry_of s.entries op.author) p.author author p.finds_author in
    let same_user = same-found (looked_user list (changed_user op.kind)) user p.changed other p.finds_changed in
    let stands : law s wall k op ≡ None =
    ap (λ (e : Option Entry). law_of e user s.epoch wall k op) same
    ∙ ap (λ (e : Option Entry). law_of p.author e s.epoch wall k op) same_user ∙ p.lawful in
    let left =
    mapped (lists.digest_of d) (changed list op.author (op.seq + 1) (change_of op.kind)) leaf.after p.after in
    let after = changed-prunes d list s.entries op.author (op.seq + 1) (change_of op.kind) left.0 rising
    (law-fits s wall k op stands) prunes left.1 in
    record {
      author = author;
      changed = other;
      after = ap (option_map (lists.digest_of d)) left.1
          ∙ ap Some (digest-dict d left.0 (changed_set s.entries op.author (op.seq + 1) (change_of op.kind)) after);
    }

told-next : (before : Told) (leaves : List Leaf) (i : ℕ) (l : Leaf) → slice_get leaves i ≡ Some l
    → told_at before leaves (suc i) ≡ told l
told-next before [] i l at = absurd cc
told-next before (x ∷ xs) zero l at = let same : x ≡ l = cc in ap told same
told-next before (x ∷ xs) (suc i) l at = told-next (told x) xs i l at

-- ---- the leaves that are shown

module _ (d : Digest) (w : World) (kept : Kept d w) (r : Took) (L : List Leaf) (at : IsIn (records_of w) r)
    (history : story w r ≡ Some L) (agree : AllByRecursion (Agrees d) (base_compared w r))
    (n : ℕ) (prune : (i : ℕ) (p : PrunedList) → i < n → slice_get (lists_of r) i ≡ Some p
    → PrunesDict d p (state_of (owner_of w r.wall) (take (r.from + i) L)).entries)
    (front : Lawful d (owner_of w r.wall) r.wall (take r.from L)) where
  abbrev owner : ℕ
  owner = owner_of w r.wall

  abbrev state : ℕ → State
  state k = state_of owner (take k L)

  same-owner : owner ≡ (facts d w kept r at).note.owner
  same-owner = ap owner_in (facts d w kept r at).noted

  -- in front of the first leaf
  told-opening : r.from ≡ 0 → told_first d w kept r at ≡ told_of d (state r.from)
  told-opening none =
      let first : anchor (tree_view r.proof) r.size r.from ≡ None =
      cond-false (nat_lt 0 r.from) (leaf_shown (tree_view r.proof) r.size (r.from - 1)) None (le-ltb 0 r.from
      (omega arith)) in
      ap (told_before d (known d w kept r at).owner) first
      ∙ ap (λ (n : ℕ). told_of d (opening n)) (sym same-owner)
      ∙ ap (λ (n : ℕ). told_of d (state n)) (sym none)

  told-anchor : 0 < r.from → told_first d w kept r at ≡ told_of d (state r.from)
  told-anchor some =
      let it = anchor-shown d w kept r at some in
      let l = it.0 in
      let prunes = tree-prunes d w kept r L at history agree in
      let text = prunes-texts d (tree_view r.proof) (texts_of L) (r.from - 1) (leaf_text l) prunes
      (ap (λ (n : ℕ). shown (tree_view r.proof) n (r.from - 1)) (tree-size d w kept r L at history) ∙ it.1.text) in
      let there = leaf-at L (r.from - 1) (leaf_text l) text in
      let same =
      same-leaf there.0 l ((story-leaves d w kept r L at history).each
      (r.from - 1) there.0 there.1) it.1.is_leaf there.2 in
      let place : slice_get (take r.from L) (r.from - 1) ≡ Some l =
      take-place r.from L (r.from - 1) (omega arith) ∙ there.1 ∙ ap Some same in
      let lawful = (front (r.from - 1) l place).tells in
      let e : r.from - 1 + 1 ≡ r.from = omega arith in
      ap (told_before d (known d w kept r at).owner) it.2 ∙ lawful
      ∙ ap (λ (n : ℕ). told_of d (state_of owner (take n (take r.from L)))) e
      ∙ ap (λ (ls : List Leaf). told_of d (state_of owner ls)) (take-take r.from r.from L (omega arith))

  told-front : told_first d w kept r at ≡ told_of d (state r.from)
  told-front = elim (cases_lt 0 r.from) [ inl some ↦ told-anchor some | inr none ↦ told-opening (omega arith) ]

  -- one leaf
  comes : (i : ℕ) (l : Leaf) → i < n → slice_get r.leaves i ≡ Some l
      → told_at (told_first d w kept r at) r.leaves i ≡ told_of d (state (r.from + i))
      → ComesNext d (state (r.from + i)) r.wall (r.from + i) l
  comes i l few here before =
      let it = leaf-passes d w kept r at i l here in
      let prunes = prune i it.0 few it.1 in
      let of = facts d w kept r at in
      let f = finding d (known d w kept r at) (tree_view r.proof) r.size it.0 l in
      let passes = subst (λ (n : ℕ). PositionPasses (told_of d (state (r.from + i))) n (r.from + i) l f) of.wall
      (subst (λ (b : Told). PositionPasses b of.note.wall (r.from + i) l f) before it.2) in
      comes-next d (state (r.from + i)) r.wall (r.from + i) l f
      (is-of d (state (r.from + i)) (known d w kept r at) (tree_view r.proof) r.size it.0 r.wall (r.from + i) l
      (state_of-rising owner (take (r.from + i) L)) prunes passes)
      passes

  -- what was told in front of it
  pub told-each : (i : ℕ) → i ≤ length r.leaves → i ≤ n
      → told_at (told_first d w kept r at) r.leaves i ≡ told_of d (state (r.from + i))
  told-each zero within few =
      let e : r.from ≡ r.from + 0 = omega arith in told-front ∙ ap (λ (n : ℕ). told_of d (state n)) e
  told-each (suc i) within few =
      let l = place-of r.leaves i (omega arith) in
      let next = comes i l.0 (omega arith) l.1 (told-each i (omega arith) (omega arith)) in
      let place = leaf-place d w kept r L (built d w kept r L at history) i l.0 l.1 in
      let e : r.from + i + 1 ≡ r.from + suc i = omega arith in
      told-next (told_first d w kept r at) r.leaves i l.0 l.1 ∙ next.1
      ∙ ap (told_of d) (sym (state_of-next owner L (r.from + i) l.0 place))
      ∙ ap (λ (n : ℕ). told_of d (state n)) e

  -- A position is lawful, if the lists up to it prune the states before them.
  pub lawful-place : (k : ℕ) (l : Leaf) → r.from ≤ k → k < r.from + n → slice_get L k ≡ Some l
      → IsLawfulAt d (owner_of w r.wall) r.wall L k l
  lawful-place k l behind few place =
      let here = story-behind d w kept r L (built d w kept r L at history) k l behind place in
      let within = slice_get_within r.leaves (k - r.from) l here in
      let e : r.from + (k - r.from) ≡ k = omega arith in
      (lawful_at-next d owner r.wall L k l place).1
      (subst (λ (n : ℕ). ComesNext d (state n) r.wall n l) e
      (comes (k - r.from) l (omega arith) here (told-each (k - r.from) (omega arith) (omega arith))))

  -- So is the front up to it.
  pub lawful-until : Lawful d (owner_of w r.wall) r.wall (take (r.from + n) L)
  lawful-until = lawful-rest d owner r.wall (take (r.from + n) L) r.from
      (subst (λ (ls : List Leaf). Lawful d owner r.wall ls) (sym (take-take r.from (r.from + n) L (omega arith))) front)
      (λ k l behind place.
      let it = place-take (r.from + n) L k l place in
      lawful_at-prefix d owner r.wall L (take (r.from + n) L) (r.from + n) k l
      (sym (take-take (r.from + n) (r.from + n) L (omega arith))) it.0 (lawful-place k l behind it.0 it.1))

  -- The history is lawful, if all of them do.
  pub story-lawful : length r.leaves ≤ n → Lawful d (owner_of w r.wall) r.wall L
  story-lawful all = lawful-rest d owner r.wall L r.from front (λ k l behind place.
      let within = slice_get_within L k l place in
      let count = count-leaves d w kept r at in
      let size = story-length d w kept r L at history in
      lawful-place k l behind (omega arith) place)
