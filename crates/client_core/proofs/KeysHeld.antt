-- Keys that have learnt changes, and what their users make with them.
use Rattle.std.proofs.Common.{◌≡◌, ◌∙◌, ℕ, ◌+◌, ◌≤◌, List, [], ◌∷◌, length, Option, Some, None, Bool, true, false, Result, Ok, Err, refl, sym, subst}
use Rattle.std.specs.Prelude.{if◌then◌else◌, nat_eq, nat_lt}
use Rattle.fr_bytes.specs.Bytes.{Text}
use Rattle.op_types.specs.declared.kind.Kind.{Kind}
use Rattle.op_types.specs.declared.kind.Kind.TheVariants.{Post, Admit, Remove}
use Rattle.op_types.specs.declared.kind.Wrap.{Wrap}
use Rattle.op_types.specs.declared.limits.TheConstants.{SEQ_MAX}
use Rattle.op_types.specs.declared.op.Leaf.{Leaf}
use Rattle.op_types.specs.declared.op.Op.{Op}
use Rattle.check_rules.specs.Shown.{changes_of}
use Rattle.key_graph.specs.declared.change.Change.{Change}
use Rattle.key_graph.specs.declared.change.KeyChange.TheVariants as changes
use Rattle.key_graph.specs.declared.change.PlanRefusal.{PlanRefusal}
use Rattle.key_graph.specs.declared.change.Setting.{Setting}
use Rattle.key_graph.specs.KeyTree.{Plan, Tree, followed_by, planned}
use Rattle.key_graph.specs.Streams.{AreFit, IsPlan}
use Rattle.key_graph.proofs.Streams.{followed_fit, planned_is}
use Rattle.msg_form.specs.declared.decline.Decline.TheVariants as declines
use Rattle.client_core.specs.Asking.{Wish, adds, drops, changed, changed_by, key_change, kind_planned, owner_decline, padded_post, posted, whom}
use Rattle.client_core.specs.Keeping.{HasKeys, IsMadeOn}
use Rattle.client_core.specs.Keys.{KeysView, after_change, after_changes, followed, fresh, held, leaf_of, member, owner, root_key}
use Rattle.client_core.specs.Sides.{SideView}
use Rattle.client_core.specs.Taking.{keys_after}
use Rattle.client_core.specs.Uses.{IsFitting, IsMade, IsOwners, IsSetting}

-- ---- keys that have learnt more

-- a tree of the same setting, where each change fitted if each did before
pub record IsTreeOf (before after : Tree) : Type 0 where
  pub setting : after.setting ≡ before.setting
  pub fit : AreFit before.setting.depth before.followed → AreFit after.setting.depth after.followed

abbrev pub AreKeysOf : KeysView → KeysView → Type 0
AreKeysOf (owner tree secrets) (owner tree' secrets') = IsTreeOf tree tree'
AreKeysOf (owner tree secrets) (member book) = ⊥
AreKeysOf (member book) (owner tree secrets) = ⊥
AreKeysOf (member book) (member book') = Unit {0}

same-keys : (keys : KeysView) → AreKeysOf keys keys
same-keys (owner tree secrets) = record { setting = refl; fit = λ fit. fit }
same-keys (member book) = tt

then-keys : (a b c : KeysView) → AreKeysOf a b → AreKeysOf b c → AreKeysOf a c
then-keys (owner s x) (owner t y) (owner u z) p q = record {
  setting = q.setting
      ∙ p.setting;
  fit = λ fit. q.fit (p.fit fit);
}
then-keys (owner s x) (owner t y) (member z) p q = q
then-keys (owner s x) (member y) c p q = absurd p
then-keys (member x) (owner t y) c p q = absurd p
then-keys (member x) (member y) (owner u z) p q = q
then-keys (member x) (member y) (member z) p q = tt

follows : (tree : Tree) (c : Change) → IsTreeOf tree (followed_by tree c).1
unfolding followed_by
follows tree c = record { setting = refl; fit = followed_fit tree c }

tree-so : (tree : Tree) (secrets : List (ℕ × Text)) (g : ℕ) (kind : Kind)
    → IsTreeOf tree (followed tree secrets g kind)
tree-so tree secrets g (Post body) = record { setting = refl; fit = λ fit. fit }
tree-so tree secrets g (Admit user role slot wraps) =
    follows tree (record {
      generation = g;
      slot = slot;
      what = changes.Admit user
          (leaf_of tree.setting.wall secrets user);
    })
tree-so tree secrets g (Remove user slot wraps) = follows tree
    (record { generation = g; slot = slot; what = changes.Remove user })

change-keys : (keys : KeysView) (op : Op) → AreKeysOf keys (after_change keys op)
unfolding after_change
change-keys (owner tree secrets) op = tree-so tree secrets (op.seq + 1) op.kind
change-keys (member book) op = tt

changes-keys : (keys : KeysView) (ops : List Op) → AreKeysOf keys (after_changes keys ops)
changes-keys keys [] = same-keys keys
changes-keys keys (op ∷ ops) = then-keys keys (after_change keys op) (after_changes (after_change keys op) ops)
    (change-keys keys op)
    (changes-keys (after_change keys op) ops)

fresh-keys : (keys : KeysView) → AreKeysOf keys (fresh keys)
fresh-keys (owner tree secrets) = record { setting = refl; fit = λ fit. tt }
fresh-keys (member book) = tt

pub relearnt-keys : (keys : KeysView) (ops : List Op) → AreKeysOf keys (after_changes (fresh keys) ops)
relearnt-keys keys ops = then-keys keys (fresh keys) (after_changes (fresh keys) ops) (fresh-keys keys)
    (changes-keys (fresh keys) ops)

pub accepted-keys : (keys : KeysView) (epoch : ℕ) (leaves : List Leaf) → AreKeysOf keys (keys_after keys epoch leaves)
unfolding keys_after
accepted-keys keys epoch leaves = by (nat_eq (held keys + length (changes_of leaves)) epoch)
  where
    by : (b : Bool) → AreKeysOf keys (if b then after_changes keys (changes_of leaves) else keys)
    by true = changes-keys keys (changes_of leaves)
    by false = same-keys keys

-- ---- what stays with them

keys-fit : (a b : KeysView) → AreKeysOf a b → IsFitting a → IsFitting b
keys-fit (owner s x) (owner t y) p fit = p.fit fit
keys-fit (owner s x) (member y) p fit = absurd p
keys-fit (member x) (owner t y) p fit = absurd p
keys-fit (member x) (member y) p fit = tt

keys-owners : (user of : ℕ) (a b : KeysView) → AreKeysOf a b → IsOwners user of a → IsOwners user of b
keys-owners user of (owner s x) (owner t y) p own = own
keys-owners user of (owner s x) (member y) p own = absurd p
keys-owners user of (member x) (owner t y) p own = absurd p
keys-owners user of (member x) (member y) p own = tt

pub keys-setting : (a b : KeysView) (setting : Setting) → AreKeysOf a b → IsSetting b setting → IsSetting a setting
keys-setting (owner s x) (owner t y) setting p is = sym p.setting ∙ is
keys-setting (owner s x) (member y) setting p is = absurd p
keys-setting (member x) (owner t y) setting p is = absurd p
keys-setting (member x) (member y) setting p is = tt

pub keys-held : (user : ℕ) (s t : SideView) → AreKeysOf s.keys t.keys → t.known.owner ≡ s.known.owner
    → HasKeys user s → HasKeys user t
keys-held user s t later owners has = record {
  owners = subst (λ (of : ℕ). IsOwners user of t.keys) (sym owners)
      (keys-owners user s.known.owner s.keys t.keys later has.owners);
  fit = keys-fit s.keys t.keys later has.fit;
}

-- ---- what is made with them

post-made : (user : ℕ) (s : SideView) (text : Text) (kind : Kind) → s.next ≤ SEQ_MAX → (key : Option Text)
    → padded_post user s.next text key ≡ Ok kind
    → IsMadeOn user s kind
post-made user s text kind number None e = absurd cc
post-made user s text (Post body) number (Some key) e = λ setting is. record {
  number = number;
  author_is = λ yes.
      absurd cc;
  plan = tt;
}
post-made user s text (Admit other role slot wraps) number (Some key) e = absurd cc
post-made user s text (Remove other slot wraps) number (Some key) e = absurd cc

pub posted-made : (user : ℕ) (s : SideView) (text : Text) (kind : Kind) → s.next ≤ SEQ_MAX → posted user s text
    ≡ Ok kind → IsMadeOn user s kind
unfolding posted
posted-made user s text kind number e = post-made user s text kind number (root_key s.keys s.known.epoch) e

-- the plan of a change that is made
plan-of : (setting : Setting) (s : SideView) (user : ℕ) (tree : Tree) (wish : Wish) (secrets : List (ℕ
    × Text)) (kind : Kind) → tree.setting ≡ setting
    → AreFit tree.setting.depth tree.followed → s.next ≤ SEQ_MAX → user ≡ s.known.owner → (r : Result (ℕ
    × List Wrap) PlanRefusal)
    → planned tree (s.next + 1) (key_change tree secrets wish) ≡ r → kind_planned wish r ≡ Ok kind
    → IsMade setting s.known.owner user s.next kind
plan-of setting s user tree wish secrets kind is fit number own (Err refusal) e made = absurd cc
plan-of setting s user tree (adds other role) secrets kind is fit number own (Ok m) e made =
    let it : Admit other role m.0 m.1 ≡ kind = cc in
    let what = key_change tree secrets (adds other role) in
    let p : Plan = record {
      change = record { generation = s.next + 1; slot = m.0; what = what };
      before =
          tree.followed;
    } in
    let plan = planned_is tree (s.next + 1) what m.0 m.1 fit e in
    subst (λ (k : Kind). IsMade setting s.known.owner user s.next k) it
    (record {
      number = number;
      author_is = λ yes. own;
      plan = (
        p,
        subst (λ (x : Setting). IsPlan x
            (s.next + 1) m.0 m.1 p) is plan,
      );
    })
plan-of setting s user tree (drops other) secrets kind is fit number own (Ok m) e made =
    let it : Remove other m.0 m.1 ≡ kind = cc in
    let what = key_change tree secrets (drops other) in
    let p : Plan = record {
      change = record { generation = s.next + 1; slot = m.0; what = what };
      before =
          tree.followed;
    } in
    let plan = planned_is tree (s.next + 1) what m.0 m.1 fit e in
    subst (λ (k : Kind). IsMade setting s.known.owner user s.next k) it
    (record {
      number = number;
      author_is = λ yes. own;
      plan = (
        p,
        subst (λ (x : Setting). IsPlan x
            (s.next + 1) m.0 m.1 p) is plan,
      );
    })

by-keys : (user : ℕ) (s : SideView) (wish : Wish) (kind : Kind) (keys : KeysView) → s.next ≤ SEQ_MAX
    → IsOwners user s.known.owner keys → IsFitting keys
    → changed_by s wish keys ≡ Ok kind → (setting : Setting) → IsSetting keys setting
    → IsMade setting s.known.owner user s.next kind
by-keys user s wish kind (member book) number own fit e setting is = absurd cc
by-keys user s wish kind (owner tree secrets) number own fit e setting is = by (nat_lt
    (held s.keys) s.known.epoch) (nat_eq (whom wish) s.known.owner) e
  where
    by : (a b : Bool) → (if a then Err declines.NotMember else if b then Err (owner_decline wish)
        else kind_planned wish (planned tree (s.next + 1) (key_change tree secrets wish))) ≡ Ok kind
        → IsMade setting s.known.owner user s.next kind
    by true b e' = absurd cc
    by false true e' = absurd cc
    by false false e' = plan-of setting s user tree wish secrets kind is fit number own
        (planned tree (s.next + 1) (key_change tree secrets wish)) refl e'

pub changed-made : (user : ℕ) (s : SideView) (wish : Wish) (kind : Kind) → s.next ≤ SEQ_MAX → HasKeys user s
    → changed s wish ≡ Ok kind → IsMadeOn user s kind
unfolding changed
changed-made user s wish kind number has e setting is = by-keys user s wish kind s.keys number has.owners has.fit e
    setting is
