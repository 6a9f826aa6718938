-- The changes of a lawful wall, leaf by leaf, as its owner's key tree plans them.
use Rattle.std.proofs.Common.{◌≡◌, ℕ, zero, suc, ◌+◌, ◌<◌, ◌≤◌, Bool, true, false, List, [], ◌∷◌, ◌++◌, length, take, Some, Ok, inl, inr, refl, sym, ap, subst, arith}
use Rattle.std.specs.Prelude.{fold, if◌then◌else◌, slice_get}
use Rattle.std.specs.List.{AllByRecursion}
use Rattle.std.proofs.lemmas.Bool.{cases_Bool}
use Rattle.std.proofs.lemmas.List.{take_all, take-append-drop}
use Rattle.fr_bytes.specs.Bytes.{Text}
use Rattle.fr_digest.specs.Digest.{Digest}
use Rattle.op_types.specs.declared.kind.Kind.{Kind}
use Rattle.op_types.specs.declared.kind.Kind.TheVariants as kinds
use Rattle.op_types.specs.declared.op.Leaf.{Leaf}
use Rattle.op_types.specs.declared.op.Op.{Op}
use Rattle.op_types.specs.Kinds.{is_change}
use Rattle.op_types.specs.Spelling.{IsLeaf}
use Rattle.tree_model.specs.declared.entry.Entry.{Entry}
use Rattle.tree_model.specs.AccessList.{FitsChange, IsRising, changed_set, entry_of}
use Rattle.wall_law.specs.Law.{next_of}
use Rattle.wall_law.specs.Lawful.{Lawful}
use Rattle.wall_law.specs.State.{HasOwner, change_of, state_of}
use Rattle.wall_law.proofs.Histories.{law-stands, lawful-take, state_of-rising, state_of-snoc}
use Rattle.wall_law.proofs.Owners.{law-fits, state_of-alone, state_of-owner}
use Rattle.key_graph.specs.declared.change.Change.{Change}
use Rattle.key_graph.specs.declared.change.Setting.{Setting}
use Rattle.key_graph.specs.KeyBook.{wraps_in}
use Rattle.key_graph.specs.KeyTree.{fits, planned}
use Rattle.key_graph.specs.Reach.{Event, follow, followed, generations, plan, tree_of}
use Rattle.key_graph.proofs.Runs.{place_fits, planned_place}
use Rattle.check_rules.specs.Shown.{changes_of}
use Rattle.run_laws.specs.Keyed.{AreKeyed, change_by, changes_by, events_by, key_change_of, slot_in}
use Rattle.run_laws.proofs.Fronts.{all-parts}
use Rattle.run_laws.proofs.Risings.{Running, by-owner, changed-runs, opening-runs, posted-runs}
use Rattle.run_laws.proofs.Standings.{Standing, admitted-stands, opening-stands, posted-stands, removed-stands}

-- ---- one leaf more

more-folded : {A : Type 0} (f : A → Op → A) (a : A) (xs : List Leaf) (leaf : Leaf)
    → fold f a (changes_of (xs ++ leaf ∷ []))
    ≡ (if is_change leaf.op.kind then f (fold f a (changes_of xs)) leaf.op else fold f a (changes_of xs))
more-folded {A} f a [] leaf = by (is_change leaf.op.kind)
  where
    by : (b : Bool) → fold f a (if b then leaf.op ∷ [] else []) ≡ (if b then f a leaf.op else a)
    by true = refl
    by false = refl
more-folded f a (x ∷ xs) leaf = elim (cases_Bool (is_change x.op.kind)) [
  | inl is ↦ rw is (more-folded f (f a x.op) xs leaf)
  | inr off ↦ rw off (more-folded f a xs leaf)
]

take-next : (L : List Leaf) (k : ℕ) (leaf : Leaf) → slice_get L k ≡ Some leaf → take (suc k) L ≡ take k L ++ leaf ∷ []
take-next [] k leaf at = absurd cc
take-next (l ∷ L) zero leaf at = let same : l ≡ leaf = cc in ap (λ (x : Leaf). x ∷ []) same
take-next (l ∷ L) (suc k) leaf at = ap (λ (xs : List Leaf). l ∷ xs) (take-next L k leaf at)

place-there : (L : List Leaf) (k : ℕ) → k < length L → (leaf : Leaf) × (slice_get L k ≡ Some leaf)
place-there [] k within = absurd (omega (arith, within))
place-there (l ∷ L) zero within = (l, refl)
place-there (l ∷ L) (suc k) within = place-there L k (omega arith)

-- ---- one operation more

module _ (setting : Setting) (secrets : List (ℕ × Text)) where
  -- the change that an operation of this kind is
  abbrev change_in : ℕ → Kind → Change
  change_in seq kind = record {
    generation = seq + 1;
    slot = slot_in kind;
    what = key_change_of setting secrets kind;
  }

  standing-after : (owner : ℕ) (es : List Entry) (cs : List Change) (author seq : ℕ) (kind : Kind)
      → Standing setting.depth owner es cs
      → HasOwner owner es
      → IsRising es
      → FitsChange es author (change_of kind)
      → (is_change kind ≡ true → fits setting.depth cs (slot_in kind) (key_change_of setting secrets kind) ≡ true)
      → Standing setting.depth owner (changed_set es author (seq + 1) (change_of kind))
      (if is_change kind then change_in seq kind ∷ cs else cs)
  standing-after owner es cs author seq (kinds.Post body) st owns rise law fit =
      posted-stands setting.depth owner es cs st author (seq + 1)
  standing-after owner es cs author seq (kinds.Admit user role slot wraps) st owns rise law fit =
      admitted-stands setting.depth owner es cs st author (seq + 1) (seq + 1) slot user role _ owns law.1 (fit refl)
  standing-after owner es cs author seq (kinds.Remove user slot wraps) st owns rise law fit =
      removed-stands setting.depth owner es cs st author (seq + 1) (seq + 1) slot user rise (fit refl)

  running-after : (owner : ℕ) (es : List Entry) (events : List Event) (author seq : ℕ) (kind : Kind)
      → Running setting owner es events
      → HasOwner owner es
      → next_of (entry_of es author) ≤ seq
      → FitsChange es author (change_of kind)
      → (is_change kind ≡ true → author ≡ owner)
      → (is_change kind ≡ true → planned (tree_of setting events) (seq + 1) (key_change_of setting secrets kind)
      ≡ Ok (slot_in kind, wraps_in kind))
      → Running setting owner (changed_set es author (seq + 1) (change_of kind))
      (if is_change kind then follow (change_in seq kind) ∷ plan (change_in seq kind) ∷ events else events)
  running-after owner es events author seq (kinds.Post body) st owns fresh law own plans =
      posted-runs setting owner es events st owns author seq fresh
  running-after owner es events author seq (kinds.Admit user role slot wraps) st owns fresh law own plans =
      changed-runs setting owner es events st owns author seq fresh slot _ wraps (own refl) (plans refl)
      (change_of (kinds.Admit user role slot wraps)) law
  running-after owner es events author seq (kinds.Remove user slot wraps) st owns fresh law own plans =
      changed-runs setting owner es events st owns author seq fresh slot _ wraps (own refl) (plans refl)
      (change_of (kinds.Remove user slot wraps)) law

  -- what is followed are the changes
  followed-from : (events : List Event) (ops : List Op)
      → followed (fold (λ (es : List Event) (op : Op). follow (change_by setting secrets op)
      ∷ plan (change_by setting secrets op) ∷ es) events ops)
      ≡ fold (λ (cs : List Change) (op : Op). change_by setting secrets op ∷ cs) (followed events) ops
  followed-from events [] = refl
  followed-from events (op ∷ ops) =
      followed-from (follow (change_by setting secrets op) ∷ plan (change_by setting secrets op) ∷ events) ops

  pub followed-events : (ops : List Op) → followed (events_by setting secrets ops) ≡ changes_by setting secrets ops
  followed-events ops = followed-from [] ops

  module _ (d : Digest) (owner wall : ℕ) (L : List Leaf) (lawful : Lawful d owner wall L)
      (keyed : AreKeyed setting secrets L) where
    -- the changes of the first leaves
    abbrev made : List Leaf → List Change
    made xs = changes_by setting secrets (changes_of xs)

    owns-at : (k : ℕ) → HasOwner owner (state_of owner (take k L)).entries
    owns-at k = state_of-owner d owner wall (take k L) (lawful-take d owner wall L k lawful)

    -- ---- members

    stands-after : (k : ℕ) (leaf : Leaf) → slice_get L k ≡ Some leaf
        → Standing setting.depth owner (state_of owner (take k L)).entries (made (take k L))
        → Standing setting.depth owner (state_of owner (take k L ++ leaf ∷ [])).entries (made (take k L ++ leaf ∷ []))
    stands-after k leaf at st =
        let s = state_of owner (take k L) in
        let cs = made (take k L) in
        let law = law-fits s wall k leaf.op (lawful k leaf at).lawful in
        let fit : is_change leaf.op.kind ≡ true
        → fits setting.depth cs (slot_in leaf.op.kind) (key_change_of setting secrets leaf.op.kind) ≡ true = λ is.
        place_fits setting.depth cs _ _ (planned_place _ (leaf.op.seq + 1) _ _ _ (keyed.each k leaf at is)) in
        let next = standing-after owner s.entries cs leaf.op.author leaf.op.seq leaf.op.kind st (owns-at k)
        (state_of-rising owner (take k L)) law fit in
        subst (Standing setting.depth owner (state_of owner (take k L ++ leaf ∷ [])).entries)
        (sym (more-folded (λ (cs' : List Change) (op : Op). change_by setting secrets op ∷ cs') [] (take k L) leaf))
        (rw (state_of-snoc owner (take k L) leaf) next)

    stands-at : (k : ℕ) → k ≤ length L
        → Standing setting.depth owner (state_of owner (take k L)).entries (made (take k L))
    stands-at zero le = opening-stands setting.depth owner
    stands-at (suc k) le =
        let place = place-there L k (omega arith) in
        subst (λ (xs : List Leaf). Standing setting.depth owner (state_of owner xs).entries (made xs))
        (sym (take-next L k place.0 place.1)) (stands-after k place.0 place.1 (stands-at k (omega arith)))

    pub stands : Standing setting.depth owner (state_of owner L).entries (made L)
    stands =
        subst (λ (xs : List Leaf). Standing setting.depth owner (state_of owner xs).entries (made xs))
        (take_all (length L) L (omega arith)) (stands-at (length L) (omega arith))

    -- ---- the run

    module _ (spelled : AllByRecursion IsLeaf L) where
      abbrev seen : List Leaf → List Event
      seen xs = events_by setting secrets (changes_of xs)

      spelled-at : (k : ℕ) → AllByRecursion IsLeaf (take k L)
      spelled-at k =
          (all-parts IsLeaf (take k L) _ (subst (AllByRecursion IsLeaf) (sym (take-append-drop k L)) spelled)).0

      runs-after : (k : ℕ) (leaf : Leaf) → slice_get L k ≡ Some leaf
          → Running setting owner (state_of owner (take k L)).entries (seen (take k L))
          → Running setting owner (state_of owner (take k L ++ leaf ∷ [])).entries (seen (take k L ++ leaf ∷ []))
      runs-after k leaf at st =
          let s = state_of owner (take k L) in
          let es = seen (take k L) in
          let none = (lawful k leaf at).lawful in
          let it = law-stands s wall k leaf.op none in
          let own : is_change leaf.op.kind ≡ true → leaf.op.author ≡ owner =
          by-owner owner leaf.op.author s.entries _ leaf.op.kind (state_of-alone owner (take k L) (spelled-at k))
          it.good_change in
          let plans : is_change leaf.op.kind ≡ true
          → planned (tree_of setting es) (leaf.op.seq + 1) (key_change_of setting secrets leaf.op.kind)
          ≡ Ok (slot_in leaf.op.kind, wraps_in leaf.op.kind) = λ is.
          subst (λ (cs : List Change). planned (record { setting = setting; followed = cs; epochs = generations cs })
          (leaf.op.seq + 1) (key_change_of setting secrets leaf.op.kind)
          ≡ Ok (slot_in leaf.op.kind, wraps_in leaf.op.kind))
          (sym (followed-events (changes_of (take k L)))) (keyed.each k leaf at is) in
          let next = running-after owner s.entries es leaf.op.author leaf.op.seq leaf.op.kind st (owns-at k) it.fresh
          (law-fits s wall k leaf.op none) own plans in
          subst (Running setting owner (state_of owner (take k L ++ leaf ∷ [])).entries)
          (sym (more-folded (λ (es' : List Event) (op : Op). follow (change_by setting secrets op)
          ∷ plan (change_by setting secrets op) ∷ es') [] (take k L) leaf))
          (rw (state_of-snoc owner (take k L) leaf) next)

      runs-at : (k : ℕ) → k ≤ length L → Running setting owner (state_of owner (take k L)).entries (seen (take k L))
      runs-at zero le = opening-runs setting owner (state_of owner []).entries
      runs-at (suc k) le =
          let place = place-there L k (omega arith) in
          subst (λ (xs : List Leaf). Running setting owner (state_of owner xs).entries (seen xs))
          (sym (take-next L k place.0 place.1)) (runs-after k place.0 place.1 (runs-at k (omega arith)))

      pub runs : Running setting owner (state_of owner L).entries (seen L)
      runs =
          subst (λ (xs : List Leaf). Running setting owner (state_of owner xs).entries (seen xs))
          (take_all (length L) L (omega arith)) (runs-at (length L) (omega arith))
