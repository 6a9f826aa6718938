-- The keys of who learnt the changes of a wall, where the owner's key tree planned them.
use Rattle.std.proofs.Common.{◌≡◌, ◌∙◌, ℕ, ◌+◌, Bool, true, false, inl, inr, List, [], ◌∷◌, ◌++◌, length, take, fold, Some, Result, Ok, Err, refl, sym, ap, subst, arith, append-nil, append_assoc}
use Rattle.std.specs.Prelude.{slice_get}
use Rattle.std.proofs.lemmas.Bool.{cases_Bool}
use Rattle.std.proofs.lemmas.List.{take-append-le, take_all}
use Rattle.std.proofs.lemmas.List.Sums.{fold-append}
use Rattle.fr_bytes.specs.Bytes.{Text}
use Rattle.op_types.specs.declared.kind.Kind.{Kind}
use Rattle.op_types.specs.declared.kind.Kind.TheVariants as kinds
use Rattle.op_types.specs.declared.kind.Wrap.{Wrap}
use Rattle.op_types.specs.declared.op.Leaf.{Leaf}
use Rattle.op_types.specs.declared.op.Op.{Op}
use Rattle.op_types.specs.Kinds.{is_change}
use Rattle.key_graph.specs.declared.change.Change.{Change}
use Rattle.key_graph.specs.declared.change.KeyChange.{KeyChange}
use Rattle.key_graph.specs.declared.change.PlanRefusal.{PlanRefusal}
use Rattle.key_graph.specs.declared.change.Setting.{Setting}
use Rattle.key_graph.specs.KeyBook.{Book, learnt, wraps_in}
use Rattle.key_graph.specs.KeyTree.{Tree, followed_by, place_of, planned, with_wraps, wraps_of}
use Rattle.key_graph.specs.Learning.{kind_of, learnt_all}
use Rattle.key_graph.specs.Reach.{Event, IsRun, follow, followed, generations, plan, tree_of}
use Rattle.key_graph.proofs.Runs.{follows}
use Rattle.check_rules.specs.Shown.{changes_of}
use Rattle.client_core.specs.Keys as keys
use Rattle.client_core.specs.Keys.{KeysView, after_change, after_changes, leaf_of, member, owner}
use Rattle.run_laws.specs.Keyed.{AreKeyed, IsPlannedBy, change_by, changes_by, key_change_of, slot_in}
use Rattle.run_laws.proofs.Keys.{changes-append}

module _ (setting : Setting) (secrets : List (ℕ × Text)) where
  -- one change more
  abbrev pub event : List Event → Op → List Event
  event es op = follow (change_by setting secrets op) ∷ plan (change_by setting secrets op) ∷ es

  abbrev pub change : List Change → Op → List Change
  change cs op = change_by setting secrets op ∷ cs

  run-front : (ops : List Op) (es : List Event) → IsRun setting (fold event es ops) → IsRun setting es
  run-front [] es run = run
  run-front (op ∷ ops) es run = (run-front ops (event es op) run).1.2

  -- Each is a change, planned after those before it.
  abbrev pub PlannedFrom : List Change → List Op → Type 0
  PlannedFrom cs [] = Unit {0}
  PlannedFrom cs (op ∷ ops) = (is_change op.kind ≡ true) × IsPlannedBy setting secrets cs op
      × PlannedFrom (change cs op) ops

  -- ---- the owner's tree

  followed-one : (es : List Event) (op : Op) → IsRun setting (event es op) → is_change op.kind ≡ true
      → keys.followed (tree_of setting es) secrets (op.seq + 1) op.kind ≡ tree_of setting (event es op)
  followed-one es op run is = by op.kind refl
    where
      c : Change
      c = change_by setting secrets op

      all : (followed_by (tree_of setting es) c).1 ≡ tree_of setting (event es op)
      all = ap (λ (p : Bool × Tree). p.1) (follows setting c (plan c ∷ es) run)

      by : (kind : Kind) → op.kind ≡ kind
          → keys.followed (tree_of setting es) secrets (op.seq + 1) kind ≡ tree_of setting (event es op)
      by (kinds.Post body) e = absurd (let f = sym (ap is_change e) ∙ is in cc)
      by (kinds.Admit user role slot wraps) e =
          ap (λ (k : Kind). (followed_by (tree_of setting es) (record {
            generation = op.seq + 1;
            slot = slot_in k;
            what = key_change_of setting secrets k;
          })).1) (sym e) ∙ all
      by (kinds.Remove user slot wraps) e =
          ap (λ (k : Kind). (followed_by (tree_of setting es) (record {
            generation = op.seq + 1;
            slot = slot_in k;
            what = key_change_of setting secrets k;
          })).1) (sym e) ∙ all

  pub owner-from : (ops : List Op) (es : List Event) → IsRun setting (fold event es ops) → PlannedFrom (followed es) ops
      → after_changes (owner (tree_of setting es) secrets) ops ≡ owner (tree_of setting (fold event es ops)) secrets
  unfolding after_change
  owner-from [] es run all = refl
  owner-from (op ∷ ops) es run all =
      ap (λ (k : KeysView). after_changes k ops) (one es op (run-front ops (event es op) run) all.0)
      ∙ owner-from ops (event es op) run all.2
    where
      one : (es : List Event) (op : Op) → IsRun setting (event es op) → is_change op.kind ≡ true
          → after_change (owner (tree_of setting es) secrets) op ≡ owner (tree_of setting (event es op)) secrets
      one es op run is = ap (λ (t : Tree). owner t secrets) (followed-one es op run is)

  -- ---- a member's book

  planned-wraps : (cs : List Change) (epochs : List ℕ) (g : ℕ) (what : KeyChange) (slot : ℕ) (wraps : List Wrap)
      → planned (record { setting = setting; followed = cs; epochs = epochs }) g what ≡ Ok (slot, wraps)
      → wraps ≡ wraps_of setting (record { change = record { generation = g; slot = slot; what = what }; before = cs })
  unfolding planned
  planned-wraps cs epochs g what slot wraps e = by (place_of setting.depth cs what) e
    where
      made : ℕ → List Wrap
      made s = wraps_of setting (record { change = record { generation = g; slot = s; what = what }; before = cs })

      by : (r : Result ℕ PlanRefusal)
          → with_wraps (record { setting = setting; followed = cs; epochs = epochs }) g what r ≡ Ok (slot, wraps)
          → wraps ≡ made slot
      by (Err refusal) e' = absurd cc
      by (Ok s) e' =
          let both : (let p : ℕ × List Wrap = (s, made s) in p) ≡ (slot, wraps) = cc in
          let same : s ≡ slot = ap (λ (p : ℕ × List Wrap). p.0) both in
          let are : made s ≡ wraps = ap (λ (p : ℕ × List Wrap). p.1) both in
          sym are ∙ ap made same

  learnt-one : (book : Book) (cs : List Change) (op : Op) → is_change op.kind ≡ true → IsPlannedBy setting secrets cs op
      → learnt book (op.seq + 1) op.kind ≡ learnt book (op.seq + 1)
      (kind_of (key_change_of setting secrets op.kind) 0 (slot_in op.kind)
      (wraps_of setting (record { change = change_by setting secrets op; before = cs })))
  unfolding learnt
  learnt-one book cs op is planned = by op.kind is
      (planned-wraps cs (generations cs) (op.seq + 1) (key_change_of setting secrets op.kind) (slot_in op.kind)
      (wraps_in op.kind) planned)
    where
      by : (kind : Kind) → is_change kind ≡ true
          → wraps_in kind ≡ wraps_of setting (record {
            change = record {
              generation = op.seq + 1;
              slot = slot_in kind;
              what = key_change_of setting secrets kind;
            };
            before = cs;
          })
          → learnt book (op.seq + 1) kind ≡ learnt book (op.seq + 1)
          (kind_of (key_change_of setting secrets kind) 0 (slot_in kind) (wraps_of setting (record {
            change = record {
              generation = op.seq + 1;
              slot = slot_in kind;
              what = key_change_of setting secrets kind;
            };
            before = cs;
          })))
      by (kinds.Post body) e are = absurd cc
      by (kinds.Admit user role slot wraps) e are =
          ap (λ (ws : List Wrap). learnt book (op.seq + 1) (kinds.Admit user 0 slot ws)) are
      by (kinds.Remove user slot wraps) e are =
          ap (λ (ws : List Wrap). learnt book (op.seq + 1) (kinds.Remove user slot ws)) are

  pub member-from : (book : Book) (ops : List Op) (cs : List Change) → PlannedFrom cs ops
      → after_changes (member (learnt_all setting (λ (c : Change). 0) book cs)) ops
      ≡ member (learnt_all setting (λ (c : Change). 0) book (fold change cs ops))
  unfolding after_change
  member-from book [] cs all = refl
  member-from book (op ∷ ops) cs all =
      ap (λ (k : KeysView). after_changes k ops) (one cs op all.0 all.1) ∙ member-from book ops (change cs op) all.2
    where
      one : (cs : List Change) (op : Op) → is_change op.kind ≡ true → IsPlannedBy setting secrets cs op
          → after_change (member (learnt_all setting (λ (c : Change). 0) book cs)) op
          ≡ member (learnt_all setting (λ (c : Change). 0) book (change cs op))
      one cs op is planned = ap member (learnt-one (learnt_all setting (λ (c : Change). 0) book cs) cs op is planned)

  -- ---- the changes of a wall

  pub more-change : (front : List Leaf) (l : Leaf) → is_change l.op.kind ≡ true
      → changes_by setting secrets (changes_of (front ++ l ∷ []))
      ≡ change (changes_by setting secrets (changes_of front)) l.op
  more-change front l is =
      ap (changes_by setting secrets) (changes-append front (l ∷ [])
      ∙ ap (λ (ops : List Op). changes_of front ++ ops) (only is))
      ∙ fold-append change [] (changes_of front) (l.op ∷ [])
    where
      only : is_change l.op.kind ≡ true → changes_of (l ∷ []) ≡ l.op ∷ []
      only is = rw is refl

  pub same-changes : (front : List Leaf) (l : Leaf) → is_change l.op.kind ≡ false
      → changes_of (front ++ l ∷ []) ≡ changes_of front
  same-changes front l not =
      changes-append front (l ∷ []) ∙ ap (λ (ops : List Op). changes_of front ++ ops) (none not)
      ∙ append-nil (changes_of front)
    where
      none : is_change l.op.kind ≡ false → changes_of (l ∷ []) ≡ []
      none not = rw not refl

  at-end : (front : List Leaf) (l : Leaf) (ls : List Leaf) → slice_get (front ++ l ∷ ls) (length front) ≡ Some l
  at-end [] l ls = refl
  at-end (x ∷ front) l ls = at-end front l ls

  keyed-from : (front rest : List Leaf) → AreKeyed setting secrets (front ++ rest)
      → PlannedFrom (changes_by setting secrets (changes_of front)) (changes_of rest)
  keyed-from front [] keyed = tt
  keyed-from front (l ∷ ls) keyed =
      let behind : AreKeyed setting secrets ((front ++ l ∷ []) ++ ls) =
      subst (AreKeyed setting secrets) (sym (append_assoc front (l ∷ []) ls)) keyed in
      let rest = keyed-from (front ++ l ∷ []) ls behind in
      elim (cases_Bool (is_change l.op.kind)) [
        | inl is ↦
            let cut : take (length front) (front ++ l ∷ ls) ≡ front =
            take-append-le (length front) front (l ∷ ls) (omega arith) ∙ take_all (length front) front (omega arith) in
            let planned : IsPlannedBy setting secrets (changes_by setting secrets (changes_of front)) l.op =
            subst (λ (M : List Leaf). IsPlannedBy setting secrets (changes_by setting secrets (changes_of M)) l.op) cut
            (keyed.each (length front) l (at-end front l ls) is) in
            let later : PlannedFrom (change (changes_by setting secrets (changes_of front)) l.op) (changes_of ls) =
            subst (λ (cs : List Change). PlannedFrom cs (changes_of ls)) (more-change front l is) rest in
            rw is (is, planned, later)
        | inr not ↦
            let later : PlannedFrom (changes_by setting secrets (changes_of front)) (changes_of ls) =
            subst (λ (ops : List Op). PlannedFrom (changes_by setting secrets ops) (changes_of ls))
            (same-changes front l not) rest in
            rw not later
      ]

  pub keyed-all : (L : List Leaf) → AreKeyed setting secrets L → PlannedFrom [] (changes_of L)
  keyed-all L keyed = keyed-from [] L keyed
