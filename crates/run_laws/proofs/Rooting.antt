-- Who holds the root key of an epoch of a wall: its owner and the members of that epoch.
use Rattle.std.proofs.Common.{◌≡◌, ◌∙◌, inl, inr, ℕ, zero, suc, ◌-◌, ◌<◌, ◌≤◌, Bool, true, false, List, [], ◌∷◌, ◌++◌, length, take, drop, fold, Option, Some, None, refl, sym, ap, subst, arith, append-nil, append_assoc, length-append}
use Rattle.std.specs.Prelude.{is_some, option_map, slice_get, if◌then◌else◌, ◌↔◌}
use Rattle.std.proofs.lemmas.Bool.{cases_Bool, cases_eq}
use Rattle.std.proofs.lemmas.List.{take-append-drop, take-take}
use Rattle.std.proofs.lemmas.List.Sums.{fold-append}
use Rattle.fr_bytes.specs.Bytes.{Text}
use Rattle.fr_digest.specs.Digest.{Digest}
use Rattle.op_types.specs.declared.kind.Kind.{Kind}
use Rattle.op_types.specs.declared.kind.Kind.TheVariants as kinds
use Rattle.op_types.specs.declared.op.Leaf.{Leaf}
use Rattle.op_types.specs.declared.op.Op.{Op}
use Rattle.op_types.specs.declared.roles.TheConstants.{OWNER}
use Rattle.tree_model.specs.declared.entry.Entry.{Entry}
use Rattle.tree_model.specs.AccessList.{entry_of}
use Rattle.wall_law.specs.Lawful.{Lawful}
use Rattle.wall_law.specs.State.{state_of}
use Rattle.wall_law.proofs.Histories.{lawful-take, slice_get-take}
use Rattle.wall_law.proofs.Owners.{state_of-owner}
use Rattle.key_graph.specs.declared.change.Change.{Change}
use Rattle.key_graph.specs.declared.change.Setting.{Setting}
use Rattle.key_graph.specs.KeyBook.{book_root, new_book}
use Rattle.key_graph.specs.KeyTree.{Tree, inner_text, root_generation, tree_root}
use Rattle.key_graph.specs.Learning.{HasLeaf, IsAdmittedWith, book_after}
use Rattle.key_graph.specs.Reach.{IsMember, IsRun, changes_at, generations, tree_of}
use Rattle.key_graph.proofs.Books.{books}
use Rattle.check_rules.specs.Shown.{changes_of}
use Rattle.hall_core.specs.declared.facts.WallFacts.{WallFacts}
use Rattle.hall_core.specs.Honest.{IsHonest}
use Rattle.op_types.specs.Spelling.{IsLeaf}
use Rattle.client_core.specs.Keys.{KeysView, after_changes, leaf_of, member, owner, root_key}
use Rattle.run_laws.specs.Keyed.{AreKeyed, IsPlannedBy, change_by, changes_by, events_by, key_change_of}
use Rattle.run_laws.specs.Reading.{is_named}
use Rattle.run_laws.proofs.Fronts.{front-all}
use Rattle.run_laws.proofs.KeyRuns.{followed-events}
use Rattle.run_laws.proofs.Keying.{change, keyed-all, member-from, owner-from}
use Rattle.run_laws.proofs.Keys.{changes-append}
use Rattle.run_laws.proofs.Members.{IsNamed, members, run}
use Rattle.run_laws.proofs.Planning.{part-longer}

-- ---- lists

drop-exact : {A : Type 0} (xs ys : List A) → drop (length xs) (xs ++ ys) ≡ ys
drop-exact [] ys = refl
drop-exact (x ∷ xs) ys = drop-exact xs ys

slice-left : {A : Type 0} (xs ys : List A) (i : ℕ) → i < length xs → slice_get (xs ++ ys) i ≡ slice_get xs i
slice-left [] ys i less = absurd (omega (less, arith))
slice-left (x ∷ xs) ys zero less = refl
slice-left (x ∷ xs) ys (suc i) less = slice-left xs ys i (omega (less, arith))

slice-some : {A : Type 0} (xs : List A) (i : ℕ) → i < length xs → (x : A) × (slice_get xs i ≡ Some x)
slice-some [] i less = absurd (omega (less, arith))
slice-some (x ∷ xs) zero less = (x, refl)
slice-some (x ∷ xs) (suc i) less = slice-some xs i (omega (less, arith))

-- ---- generations

generations-append : (cs ds : List Change) → generations (cs ++ ds) ≡ generations ds ++ generations cs
generations-append [] ds = sym (append-nil (generations ds))
generations-append (c ∷ cs) ds =
    ap (λ (gs : List ℕ). gs ++ c.generation ∷ []) (generations-append cs ds)
    ∙ append_assoc (generations ds) (generations cs) (c.generation ∷ [])

generations-long : (cs : List Change) → length (generations cs) ≡ length cs
generations-long [] = refl
generations-long (c ∷ cs) =
    let a = length-append (generations cs) (c.generation ∷ []) in
    let b = generations-long cs in
    omega (a, b, arith)

-- the root's generation stays when changes are added
root-stays : (cs more : List Change) (e : ℕ) → e ≤ length cs
    → root_generation (generations (more ++ cs)) e ≡ root_generation (generations cs) e
root-stays cs more zero le = refl
root-stays cs more (suc e) le =
    let long = generations-long cs in
    ap (λ (gs : List ℕ). slice_get gs e) (generations-append more cs)
    ∙ slice-left (generations cs) (generations more) e (omega (long, le, arith))

root-there : (cs : List Change) (e : ℕ) → e ≤ length cs → (g : ℕ) × (root_generation (generations cs) e ≡ Some g)
root-there cs zero le = (0, refl)
root-there cs (suc e) le =
    let long = generations-long cs in slice-some (generations cs) e (omega (long, le, arith))

-- ---- the tree of a wall

module _ (setting : Setting) (secrets : List (ℕ × Text)) where
  -- what more operations add
  fold-more : (ops : List Op) (cs : List Change)
      → (more : List Change) × (fold (change setting secrets) cs ops ≡ more ++ cs) × (length more ≡ length ops)
  fold-more [] cs = ([], refl, refl)
  fold-more (op ∷ ops) cs =
      let rest = fold-more ops (change setting secrets cs op) in
      let long = length-append rest.0 (change_by setting secrets op ∷ []) in
      let same = rest.2 in (
        rest.0 ++ change_by setting secrets op ∷ [],
        rest.1 ∙ sym (append_assoc rest.0 (change_by setting secrets op ∷ []) cs),
        omega (long, same, arith),
      )

  -- the changes of a list and of its front
  pub more-of : (k n : ℕ) (L : List Leaf) → k ≤ n → (more : List Change)
      × (changes_by setting secrets (changes_of (take n L)) ≡ more ++ changes_by setting secrets (changes_of (take k L)))
  more-of k n L le =
      let part = part-longer k n L le in
      let cut : changes_of (take n L) ≡ changes_of (take k L) ++ changes_of part.0 =
      ap changes_of part.1 ∙ changes-append (take k L) part.0 in
      let m = fold-more (changes_of part.0) (changes_by setting secrets (changes_of (take k L))) in (
        m.0,
        ap (changes_by setting secrets) cut
            ∙ fold-append (change setting secrets) [] (changes_of (take k L)) (changes_of part.0) ∙ m.1,
      )

  long-of : (ops : List Op) → length (changes_by setting secrets ops) ≡ length ops
  long-of ops =
      let m = fold-more ops [] in
      let a : length (changes_by setting secrets ops) ≡ length (m.0 ++ []) = ap length m.1 in
      let b = length-append m.0 (let none : List Change = [] in none) in
      let same = m.2 in
      omega (a, b, same, arith)

  -- the changes of the epoch of a front
  pub changes-then : (k n : ℕ) (L : List Leaf) → k ≤ n
      → changes_at (length (changes_of (take k L))) (changes_by setting secrets (changes_of (take n L)))
      ≡ changes_by setting secrets (changes_of (take k L))
  changes-then k n L le =
      let m = more-of k n L le in
      let cs = changes_by setting secrets (changes_of (take k L)) in
      let e = long-of (changes_of (take k L)) in
      let long = length-append m.0 cs in
      let count : length (m.0 ++ cs) - length (changes_of (take k L)) ≡ length m.0 = omega (e, long, arith) in
      ap (changes_at (length (changes_of (take k L)))) m.1
      ∙ ap (λ (j : ℕ). drop j (m.0 ++ cs)) count ∙ drop-exact m.0 cs

  -- the tree behind these operations
  abbrev pub tree_by : List Op → Tree
  tree_by ops = record {
    setting = setting;
    followed = changes_by setting secrets ops;
    epochs = generations (changes_by setting secrets ops);
  }

  pub tree-is : (ops : List Op) → tree_of setting (events_by setting secrets ops) ≡ tree_by ops
  tree-is ops = ap (λ (cs : List Change). record { setting = setting; followed = cs; epochs = generations cs })
      (followed-events setting secrets ops)

  -- the root key of a front's epoch is the same behind more
  pub root-then : (k n : ℕ) (L : List Leaf) → k ≤ n
      → tree_root (tree_by (changes_of (take n L))) (length (changes_of (take k L)))
      ≡ tree_root (tree_by (changes_of (take k L))) (length (changes_of (take k L)))
  unfolding tree_root
  root-then k n L le =
      let m = more-of k n L le in
      let cs = changes_by setting secrets (changes_of (take k L)) in
      let e = long-of (changes_of (take k L)) in
      ap (option_map (inner_text setting.master setting.wall 1))
      (ap (λ (ds : List Change). root_generation (generations ds) (length (changes_of (take k L)))) m.1
      ∙ root-stays cs m.0 (length (changes_of (take k L))) (omega (e, arith)))

  -- and there is one
  pub root-is : (k : ℕ) (L : List Leaf)
      → (key : Text) × (tree_root (tree_by (changes_of (take k L))) (length (changes_of (take k L))) ≡ Some key)
  unfolding tree_root
  root-is k L =
      let e = long-of (changes_of (take k L)) in
      let g = root-there (changes_by setting secrets (changes_of (take k L))) (length (changes_of (take k L)))
      (omega (e, arith)) in
      (inner_text setting.master setting.wall 1 g.0, ap (option_map (inner_text setting.master setting.wall 1)) g.1)

  -- ---- leaf keys

  has-leaf : (u : ℕ) (ops : List Op) (cs : List Change) → HasLeaf u (leaf_of setting.wall secrets u) cs
      → HasLeaf u (leaf_of setting.wall secrets u) (fold (change setting secrets) cs ops)
  has-leaf u [] cs has = has
  has-leaf u (op ∷ ops) cs has = has-leaf u ops (change setting secrets cs op) (one op.kind, has)
    where
      one : (kind : Kind) → IsAdmittedWith u (leaf_of setting.wall secrets u) (key_change_of setting secrets kind)
      one (kinds.Post body) = tt
      one (kinds.Admit user role slot wraps) = λ same. ap (leaf_of setting.wall secrets) same
      one (kinds.Remove user slot wraps) = tt

-- ---- names

pub named-true : (of u : ℕ) (L : List Leaf) → is_named (state_of of L).entries u ≡ true → IsNamed of L u
named-true of u L is = by (entry_of (state_of of L).entries u) refl is
  where
    by : (o : Option Entry) → entry_of (state_of of L).entries u ≡ o → is_some o ≡ true → IsNamed of L u
    by None e is' = absurd cc
    by (Some x) e is' = record { entry = x; there = e }

pub named-false : (of u : ℕ) (L : List Leaf) → is_named (state_of of L).entries u ≡ false → IsNamed of L u → ⊥
named-false of u L not named =
    let some : is_some (entry_of (state_of of L).entries u) ≡ true = ap (λ (o : Option Entry). is_some o) named.there in
    let e = sym not ∙ some in absurd cc

-- ---- the root keys of a wall

module _ (d : Digest) (facts : WallFacts) (setting : Setting) (secrets : List (ℕ × Text)) (deep : 1 ≤ setting.depth)
    (base : ℕ → KeysView) (owned : base facts.owner ≡ owner (tree_of setting []) secrets) (IsListed : ℕ → Type 0)
    (booked : (u : ℕ) → (u ≡ facts.owner → ⊥) → IsListed u
    → base u ≡ member (new_book setting.wall setting.depth u (leaf_of setting.wall secrets u)))
    (L : List Leaf) (honest : IsHonest d facts L) (keyed : AreKeyed setting secrets L) where
  pub keyed-cut : (n : ℕ) → AreKeyed setting secrets (take n L)
  keyed-cut n = record {
    each = λ k leaf at is.
        let f = slice_get-take n k L leaf at in
        let less = f.0 in
        subst (λ (M : List Leaf). IsPlannedBy setting secrets (changes_by setting secrets (changes_of M)) leaf.op)
        (sym (take-take k n L (omega (less, arith)))) (keyed.each k leaf f.1 is);
  }

  pub lawful-cut : (n : ℕ) → Lawful d facts.owner facts.wall (take n L)
  lawful-cut n = lawful-take d facts.owner facts.wall L n honest.lawful

  run-to : (n : ℕ) → IsRun setting (events_by setting secrets (changes_of (take n L)))
  run-to n = run d facts.owner facts.wall setting secrets (take n L) (lawful-cut n) (keyed-cut n)
      (front-all IsLeaf (take n L) L (record { more = drop n L; whole = sym (take-append-drop n L) }) honest.spelled)

  members-to : (n u : ℕ) → IsMember setting.depth (changes_by setting secrets (changes_of (take n L))) u
      ↔ ((u ≡ facts.owner → ⊥) × IsNamed facts.owner (take n L) u)
  members-to n u = members d facts.owner facts.wall setting secrets (take n L) (lawful-cut n) (keyed-cut n) u

  -- the operations of a front's changes, and a user's keys behind them
  abbrev ops_to : ℕ → List Op
  ops_to n = changes_of (take n L)

  abbrev keys_to : ℕ → ℕ → KeysView
  keys_to u n = after_changes (base u) (ops_to n)

  pub owner-to : (n : ℕ) → keys_to facts.owner n ≡ owner (tree_by setting secrets (ops_to n)) secrets
  owner-to n =
      ap (λ (keys : KeysView). after_changes keys (ops_to n)) owned
      ∙ owner-from setting secrets (ops_to n) [] (run-to n)
      (keyed-all setting secrets (take n L) (keyed-cut n))
      ∙ ap (λ (t : Tree). owner t secrets) (tree-is setting secrets (ops_to n))

  pub member-to : (u n : ℕ) → (u ≡ facts.owner → ⊥) → IsListed u
      → keys_to u n ≡ member (book_after setting (λ (c : Change). 0) u (leaf_of setting.wall secrets u)
      (changes_by setting secrets (ops_to n)))
  member-to u n other listed =
      ap (λ (keys : KeysView). after_changes keys (ops_to n)) (booked u other listed)
      ∙ member-from setting secrets (new_book setting.wall setting.depth u (leaf_of setting.wall secrets u)) (ops_to n) []
      (keyed-all setting secrets (take n L) (keyed-cut n))

  -- a member's root key
  member-root : (u n e : ℕ) (key : Text)
      → (book_root (book_after setting (λ (c : Change). 0) u (leaf_of setting.wall secrets u)
      (changes_by setting secrets (ops_to n))) e ≡ Some key)
      ↔ IsMember setting.depth (changes_at e (changes_by setting secrets (ops_to n))) u
      × (tree_root (tree_by setting secrets (ops_to n)) e ≡ Some key)
  member-root u n e key =
      let es = events_by setting secrets (ops_to n) in
      let same = followed-events setting secrets (ops_to n) in
      subst (λ (cs : List Change). (book_root (book_after setting (λ (c : Change). 0) u
      (leaf_of setting.wall secrets u) cs) e ≡ Some key)
      ↔ IsMember setting.depth (changes_at e cs) u × (tree_root (record {
        setting = setting;
        followed = cs;
        epochs = generations cs;
      }) e ≡ Some key)) same
      (books setting es (λ (c : Change). 0) u (leaf_of setting.wall secrets u) e key
      (run-to n) deep
      (subst (HasLeaf u (leaf_of setting.wall secrets u)) (sym same) (has-leaf setting secrets u (ops_to n) [] tt)))

  -- the epoch behind a front, and its root key
  abbrev epoch_to : ℕ → ℕ
  epoch_to k = length (ops_to k)

  pub named-owner : (k : ℕ) → IsNamed facts.owner (take k L) facts.owner
  named-owner k =
      let has = state_of-owner d facts.owner facts.wall (take k L) (lawful-cut k) in
      record { entry = record { user = facts.owner; role = OWNER; next = has.0 }; there = has.1 }

  -- Behind more changes, who was named at a front holds the root key of its epoch, and no one else.
  pub root-by : (u : ℕ) → IsListed u → (k n : ℕ) → k ≤ n → (key : Text)
      → tree_root (tree_by setting secrets (ops_to k)) (epoch_to k) ≡ Some key
      → root_key (keys_to u n) (epoch_to k)
      ≡ (if is_named (state_of facts.owner (take k L)).entries u then Some key else None)
  root-by u listed k n le key there = elim (cases_eq u facts.owner) [
    | inl is ↦
        let named : is_named (state_of facts.owner (take k L)).entries u ≡ true =
        ap (λ (v : ℕ). is_named (state_of facts.owner (take k L)).entries v) is
        ∙ ap (λ (o : Option Entry). is_some o) (named-owner k).there in
        ap (λ (v : ℕ). root_key (keys_to v n) (epoch_to k)) is
        ∙ ap (λ (keys : KeysView). root_key keys (epoch_to k)) (owner-to n)
        ∙ root-then setting secrets k n L le ∙ there
        ∙ sym (ap (λ (b : Bool). if b then Some key else None) named)
    | inr other ↦
        let cs = changes_by setting secrets (ops_to k) in
        let then-cs = changes-then setting secrets k n L le in
        let root : tree_root (tree_by setting secrets (ops_to n)) (epoch_to k) ≡ Some key =
        root-then setting secrets k n L le ∙ there in
        let book = book_after setting (λ (c : Change). 0) u (leaf_of setting.wall secrets u)
        (changes_by setting secrets (ops_to n)) in
        let mine : root_key (keys_to u n) (epoch_to k) ≡ book_root book (epoch_to k) =
        ap (λ (keys : KeysView). root_key keys (epoch_to k)) (member-to u n other listed) in
        let are = members-to k u in
        elim (cases_Bool (is_named (state_of facts.owner (take k L)).entries u)) [
          | inl is ↦
              let here : IsMember setting.depth cs u = are.1 (other, named-true facts.owner u (take k L) is) in
              mine
              ∙ (member-root u n (epoch_to k) key).1 (
                subst (λ (ds : List Change). IsMember setting.depth ds u)
                    (sym then-cs) here,
                root,
              )
              ∙ sym (ap (λ (b : Bool). if b then Some key else None) is)
          | inr not ↦
              mine ∙ none-there (book_root book (epoch_to k)) refl not
              ∙ sym (ap (λ (b : Bool). if b then Some key else None) not)
        ]
  ]
    where
      none-there : (o : Option Text)
          → book_root (book_after setting (λ (c : Change). 0) u (leaf_of setting.wall secrets u)
          (changes_by setting secrets (ops_to n))) (epoch_to k) ≡ o
          → is_named (state_of facts.owner (take k L)).entries u ≡ false → o ≡ None
      none-there None e not = refl
      none-there (Some found) e not =
          let it = (member-root u n (epoch_to k) found).0 e in
          let here = subst (λ (ds : List Change). IsMember setting.depth ds u)
          (changes-then setting secrets k n L le) it.0 in
          let named = ((members-to k u).0 here).1 in
          absurd (named-false facts.owner u (take k L) not named)
