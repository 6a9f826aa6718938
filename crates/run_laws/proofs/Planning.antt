-- The changes of a wall whose clients follow it are planned by its owner's key tree.
use Rattle.std.proofs.Common.{◌≡◌, ◌∙◌, inl, inr, ℕ, zero, suc, ◌+◌, ◌<◌, ◌≤◌, Bool, true, false, List, [], ◌∷◌, ◌++◌, length, take, drop, Option, Some, None, Result, Ok, Err, refl, sym, ap, subst, arith, append-nil, length-append}
use Rattle.std.specs.Prelude.{nat_eq, nat_lt, option_and_then, slice_get, if◌then◌else◌}
use Rattle.std.specs.List.{AllByRecursion}
use Rattle.std.proofs.lemmas.Bool.{cases_lt}
use Rattle.std.proofs.lemmas.List.{take-append-drop, take-take, take_all}
use Rattle.fr_bytes.specs.Bytes.{Text}
use Rattle.fr_digest.specs.Digest.{Digest}
use Rattle.op_types.specs.declared.kind.Kind.{Kind}
use Rattle.op_types.specs.declared.kind.Kind.TheVariants as kinds
use Rattle.op_types.specs.declared.kind.Wrap.{Wrap}
use Rattle.op_types.specs.declared.op.Leaf.{Leaf}
use Rattle.op_types.specs.declared.op.Op.{Op}
use Rattle.op_types.specs.Kinds.{changed_user, is_change}
use Rattle.op_types.specs.Spelling.{IsLeaf}
use Rattle.tree_model.specs.AccessList.{entry_of}
use Rattle.wall_law.specs.Lawful.{Lawful}
use Rattle.wall_law.specs.State.{state_of}
use Rattle.wall_law.proofs.Histories.{Stands, law-stands, lawful-take, slice_get-take}
use Rattle.wall_law.proofs.Owners.{state_of-alone}
use Rattle.msg_form.specs.declared.decline.Decline.{Decline}
use Rattle.msg_form.specs.declared.decline.Decline.TheVariants as declines
use Rattle.key_graph.specs.declared.change.Change.{Change}
use Rattle.key_graph.specs.declared.change.PlanRefusal.{PlanRefusal}
use Rattle.key_graph.specs.declared.change.Setting.{Setting}
use Rattle.key_graph.specs.KeyBook.{wraps_in}
use Rattle.key_graph.specs.KeyTree.{Tree, planned}
use Rattle.key_graph.specs.Reach.{Event, generations, tree_of}
use Rattle.check_rules.specs.Shown.{changes_of}
use Rattle.honest_replies.proofs.Changes.{epoch-counts}
use Rattle.hall_core.specs.declared.facts.WallFacts.{WallFacts}
use Rattle.hall_core.specs.Honest.{IsHonest}
use Rattle.script_read.specs.declared.script.Command.{Command}
use Rattle.script_read.specs.declared.script.Command.TheVariants as commands
use Rattle.client_core.specs.Asking.{Wish, adds, drops, changed, changed_by, key_change, kind_planned, kind_with, owner_decline, padded_post, posted, whom}
use Rattle.client_core.specs.Keys.{KeysView, after_changes, held, owner, root_key}
use Rattle.client_core.specs.Sides.{SideView}
use Rattle.run_laws.specs.Keyed.{AreKeyed, IsPlannedBy, changes_by, events_by, key_change_of, slot_in}
use Rattle.run_laws.proofs.Fronts.{front-all}
use Rattle.run_laws.proofs.KeyRuns.{followed-events}
use Rattle.run_laws.proofs.Keying.{keyed-all, owner-from}
use Rattle.run_laws.proofs.Members.{run}
use Rattle.run_laws.proofs.Risings.{by-owner}
use Rattle.run_laws.proofs.Keys.{changes-append}
use Rattle.run_laws.proofs.Making.{IsMade}
use Rattle.run_laws.proofs.Signed.{IsNext, Makes, sent-next}

-- ---- fronts of a list

take-there : (n j : ℕ) (L : List Leaf) (leaf : Leaf) → j < n → slice_get L j ≡ Some leaf
    → slice_get (take n L) j ≡ Some leaf
take-there zero j L leaf less at = absurd (omega (less, arith))
take-there (suc n) j [] leaf less at = at
take-there (suc n) zero (l ∷ L) leaf less at = at
take-there (suc n) (suc j) (l ∷ L) leaf less at = take-there n j L leaf (omega (less, arith)) at

pub part-longer : {A : Type 0} (m n : ℕ) (xs : List A) → m ≤ n → (more : List A) × (take n xs ≡ take m xs ++ more)
part-longer m n xs le = (
  drop m (take n xs),
  sym (take-append-drop m (take n xs)) ∙ ap (λ ys. ys ++ drop m (take n xs)) (take-take m n xs le),
)

none-more : {A : Type 0} (xs more : List A) → length xs ≡ length (xs ++ more) → more ≡ []
none-more xs [] e = refl
none-more xs (m ∷ more) e = absurd (let f = length-append xs (m ∷ more) in omega (e, f, arith))

changes-longer : (a b : ℕ) (L : List Leaf) → a ≤ b
    → length (changes_of (take a L)) ≡ length (changes_of (take b L))
    → changes_of (take a L) ≡ changes_of (take b L)
changes-longer a b L le same =
    let more = part-longer a b L le in
    let cut : changes_of (take b L) ≡ changes_of (take a L) ++ changes_of more.0 =
    ap changes_of more.1 ∙ changes-append (take a L) more.0 in
    let none : changes_of more.0 ≡ [] =
    none-more (changes_of (take a L)) (changes_of more.0) (same ∙ ap length cut) in
    sym (cut ∙ ap (λ (ops : List Op). changes_of (take a L) ++ ops) none ∙ append-nil (changes_of (take a L)))

-- as many changes in two fronts are the same ones
pub same-number : (a b : ℕ) (L : List Leaf) → length (changes_of (take a L)) ≡ length (changes_of (take b L))
    → changes_of (take a L) ≡ changes_of (take b L)
same-number a b L same = elim (cases_lt a b) [
  | inl less ↦ changes-longer a b L (omega (less, arith)) same
  | inr more ↦ sym (changes-longer b a L more (sym same))
]

-- ---- plans

-- the plan of a kind
module _ (setting : Setting) (secrets : List (ℕ × Text)) (tree : Tree) (g : ℕ) (same : tree.setting ≡ setting) where
  planned-with : (wish : Wish) (plan : ℕ × List Wrap) → planned tree g (key_change tree secrets wish) ≡ Ok plan
      → planned tree g (key_change_of setting secrets (kind_with wish plan.0 plan.1))
      ≡ Ok (slot_in (kind_with wish plan.0 plan.1), wraps_in (kind_with wish plan.0 plan.1))
  planned-with (adds other role) plan e =
      ap (λ (x : Setting). planned tree g (key_change_of x secrets (kinds.Admit other role plan.0 plan.1))) (sym same) ∙ e
  planned-with (drops other) plan e = e

  planned-of : (wish : Wish) (kind : Kind)
      → kind_planned wish (planned tree g (key_change tree secrets wish)) ≡ Ok kind
      → planned tree g (key_change_of setting secrets kind) ≡ Ok (slot_in kind, wraps_in kind)
  planned-of wish kind e = by (planned tree g (key_change tree secrets wish)) refl e
    where
      by : (r : Result (ℕ × List Wrap) PlanRefusal) → planned tree g (key_change tree secrets wish) ≡ r
          → kind_planned wish r ≡ Ok kind
          → planned tree g (key_change_of setting secrets kind) ≡ Ok (slot_in kind, wraps_in kind)
      by (Err refusal) is e' = absurd cc
      by (Ok plan) is e' =
          let same : kind_with wish plan.0 plan.1 ≡ kind = cc in
          subst (λ (k : Kind). planned tree g (key_change_of setting secrets k) ≡ Ok (slot_in k, wraps_in k)) same
          (planned-with wish plan is)

-- what a change of the owner's is
owner-planned : (s : SideView) (wish : Wish) (tree : Tree) (secrets : List (ℕ × Text)) (kind : Kind)
    → changed_by s wish (owner tree secrets) ≡ Ok kind
    → kind_planned wish (planned tree (s.next + 1) (key_change tree secrets wish)) ≡ Ok kind
owner-planned s wish tree secrets kind e = by (nat_lt (held s.keys) s.known.epoch) (nat_eq (whom wish) s.known.owner) e
  where
    by : (a b : Bool) → (if a then Err declines.NotMember else if b then Err (owner_decline wish)
        else kind_planned wish (planned tree (s.next + 1) (key_change tree secrets wish))) ≡ Ok kind
        → kind_planned wish (planned tree (s.next + 1) (key_change tree secrets wish)) ≡ Ok kind
    by true b e' = absurd cc
    by false true e' = absurd cc
    by false false e' = e'

post-kind : (user seq : ℕ) (text : Text) (key : Option Text) (kind : Kind) → padded_post user seq text key ≡ Ok kind
    → is_change kind ≡ true → ⊥
post-kind user seq text None kind e is = absurd cc
post-kind user seq text (Some key) kind e is = by _ kind e is
  where
    by : (body : Text) (k : Kind) → (let r : Result Kind Decline = Ok (kinds.Post body) in r) ≡ Ok k
        → is_change k ≡ true → ⊥
    by body k e' is' = let same : kinds.Post body ≡ k = cc in absurd (let f = ap is_change same ∙ is' in cc)

-- ---- a wall

-- what is made of a wall's leaf by its author's client
abbrev pub IsMadeLeaf : Digest → WallFacts → List Leaf → (ℕ → KeysView) → Leaf → Type 0
IsMadeLeaf d facts L base leaf = (command : Command) × IsMade d facts L (base leaf.op.author) leaf.op.author command leaf.op

module _ (d : Digest) (facts : WallFacts) (L : List Leaf) (honest : IsHonest d facts L) (setting : Setting)
    (secrets : List (ℕ × Text)) (base : ℕ → KeysView) (owned : base facts.owner ≡ owner (tree_of setting []) secrets)
    (made : (k : ℕ) (leaf : Leaf) → slice_get L k ≡ Some leaf → IsMadeLeaf d facts L base leaf) where
  -- the law lets a leaf stand
  pub stands-at : (k : ℕ) (leaf : Leaf) → slice_get L k ≡ Some leaf
      → Stands (entry_of (state_of facts.owner (take k L)).entries leaf.op.author)
      (option_and_then (λ (u : ℕ). entry_of (state_of facts.owner (take k L)).entries u) (changed_user leaf.op.kind))
      (state_of facts.owner (take k L)).epoch facts.wall k leaf.op
  stands-at k leaf at = law-stands (state_of facts.owner (take k L)) facts.wall k leaf.op (honest.lawful k leaf at).lawful

  -- its author's side held the keys of the changes before it
  pub keys-at : (k : ℕ) (leaf : Leaf) → slice_get L k ≡ Some leaf → (command : Command)
      → (m : IsMade d facts L (base leaf.op.author) leaf.op.author command leaf.op)
      → (m.side.keys ≡ after_changes (base leaf.op.author) (changes_of (take k L)))
      × (m.side.known.epoch ≡ length (changes_of (take k L)))
  keys-at k leaf at command m =
      let next = sent-next m.signer leaf.op.author m.side command m.sent leaf.op m.asked m.signed in
      let epoch : m.side.known.epoch ≡ length (changes_of (take k L)) =
      sym next.epoch ∙ (stands-at k leaf at).same_epoch ∙ epoch-counts facts.owner (take k L) in
      let ops : changes_of (take m.side.known.size L) ≡ changes_of (take k L) =
      same-number m.side.known.size k L (sym m.follows.accepted.epoch_is ∙ epoch) in (
        m.follows.held ∙ ap (λ (keys : KeysView). after_changes keys (changes_of (take m.side.known.size L))) m.began
            ∙ ap (after_changes (base leaf.op.author)) ops,
        epoch,
      )

  spelled-cut : (k : ℕ) → AllByRecursion IsLeaf (take k L)
  spelled-cut k =
      front-all IsLeaf (take k L) L (record { more = drop k L; whole = sym (take-append-drop k L) }) honest.spelled

  -- a change's author is the owner
  pub author-owner : (k : ℕ) (leaf : Leaf) → slice_get L k ≡ Some leaf → is_change leaf.op.kind ≡ true
      → leaf.op.author ≡ facts.owner
  author-owner k leaf at is = by-owner facts.owner leaf.op.author (state_of facts.owner (take k L)).entries _
      leaf.op.kind (state_of-alone facts.owner (take k L) (spelled-cut k)) (stands-at k leaf at).good_change is

  -- the owner's keys behind planned changes are the tree's
  owner-keys : (M : List Leaf) → Lawful d facts.owner facts.wall M → AreKeyed setting secrets M
      → AllByRecursion IsLeaf M → after_changes (base facts.owner) (changes_of M)
      ≡ owner (tree_of setting (events_by setting secrets (changes_of M))) secrets
  owner-keys M lawful keyed spelled =
      ap (λ (keys : KeysView). after_changes keys (changes_of M)) owned
      ∙ owner-from setting secrets (changes_of M) [] (run d facts.owner facts.wall setting secrets M lawful keyed spelled)
      (keyed-all setting secrets M keyed)

  planned-at : (k : ℕ) (leaf : Leaf) → slice_get L k ≡ Some leaf → is_change leaf.op.kind ≡ true
      → AreKeyed setting secrets (take k L)
      → IsPlannedBy setting secrets (changes_by setting secrets (changes_of (take k L))) leaf.op
  unfolding posted changed
  planned-at k leaf at is keyed = by m.0 next.makes
    where
      m : IsMadeLeaf d facts L base leaf
      m = made k leaf at

      next : IsNext leaf.op.author m.1.side m.0 leaf.op
      next = sent-next m.1.signer leaf.op.author m.1.side m.0 m.1.sent leaf.op m.1.asked m.1.signed

      es : List Event
      es = events_by setting secrets (changes_of (take k L))

      keys : m.1.side.keys ≡ owner (tree_of setting es) secrets
      keys = (keys-at k leaf at m.0 m.1).0
          ∙ ap (λ (u : ℕ). after_changes (base u) (changes_of (take k L))) (author-owner k leaf at is)
          ∙ owner-keys (take k L) (lawful-take d facts.owner facts.wall L k honest.lawful) keyed (spelled-cut k)

      planned-so : (wish : Wish) → changed_by m.1.side wish m.1.side.keys ≡ Ok leaf.op.kind
          → IsPlannedBy setting secrets (changes_by setting secrets (changes_of (take k L))) leaf.op
      planned-so wish e =
          let mine : changed_by m.1.side wish (owner (tree_of setting es) secrets) ≡ Ok leaf.op.kind =
          ap (changed_by m.1.side wish) (sym keys) ∙ e in
          let plan = planned-of setting secrets (tree_of setting es) (m.1.side.next + 1) refl wish leaf.op.kind
          (owner-planned m.1.side wish (tree_of setting es) secrets leaf.op.kind mine) in
          let seq : m.1.side.next + 1 ≡ leaf.op.seq + 1 = ap (λ (n : ℕ). n + 1) (sym next.seq) in
          subst (λ (cs : List Change). planned (record { setting = setting; followed = cs; epochs = generations cs })
          (leaf.op.seq + 1) (key_change_of setting secrets leaf.op.kind) ≡ Ok (slot_in leaf.op.kind, wraps_in leaf.op.kind))
          (followed-events setting secrets (changes_of (take k L)))
          (subst (λ (g : ℕ). planned (tree_of setting es) g (key_change_of setting secrets leaf.op.kind)
          ≡ Ok (slot_in leaf.op.kind, wraps_in leaf.op.kind)) seq plan)

      by : (command : Command) → Makes leaf.op.author m.1.side command leaf.op.kind
          → IsPlannedBy setting secrets (changes_by setting secrets (changes_of (take k L))) leaf.op
      by (commands.Post wall text) e = absurd (post-kind leaf.op.author m.1.side.next text
          (root_key m.1.side.keys m.1.side.known.epoch) leaf.op.kind e is)
      by (commands.Read wall) e = absurd e
      by (commands.ReadAll wall) e = absurd e
      by (commands.Admit wall other role) e = planned-so (adds other role) e
      by (commands.Remove wall other) e = planned-so (drops other) e

  -- a front of a front is so
  keyed-front : (k n : ℕ) → k ≤ n → AreKeyed setting secrets (take n L) → AreKeyed setting secrets (take k L)
  keyed-front k n le all = record {
    each = λ j leaf at is.
        let f = slice_get-take k j L leaf at in
        let less = f.0 in
        subst (λ (M : List Leaf). IsPlannedBy setting secrets (changes_by setting secrets (changes_of M)) leaf.op)
        (take-take j n L (omega (less, le, arith)) ∙ sym (take-take j k L (omega (less, arith))))
        (all.each j leaf (take-there n j L leaf (omega (less, le, arith)) f.1) is);
  }

  none-at : (k : ℕ) (leaf : Leaf) → slice_get (take 0 L) k ≡ Some leaf → ⊥
  none-at k leaf at = let f = slice_get-take 0 k L leaf at in absurd (let less = f.0 in omega (less, arith))

  pub keyed-upto : (n : ℕ) → AreKeyed setting secrets (take n L)
  keyed-upto zero = record { each = λ k leaf at is. absurd (none-at k leaf at) }
  keyed-upto (suc n) = record {
    each = λ k leaf at is.
        let f = slice_get-take (suc n) k L leaf at in
        let less = f.0 in
        subst (λ (M : List Leaf). IsPlannedBy setting secrets (changes_by setting secrets (changes_of M)) leaf.op)
        (sym (take-take k (suc n) L (omega (less, arith))))
        (planned-at k leaf f.1 is (keyed-front k n (omega (less, arith)) (keyed-upto n)));
  }

  -- Each change is planned by the owner's tree.
  pub keyed : AreKeyed setting secrets L
  keyed = subst (AreKeyed setting secrets) (take_all (length L) L (omega arith)) (keyed-upto (length L))
