-- What a client on an honest wall declines, and which posts it reads.
use Rattle.std.proofs.Common.{◌≡◌, ◌∙◌, inl, inr, ℕ, ◌+◌, ◌^◌, ◌<◌, ◌≤◌, Bool, true, false, List, [], length, take, Option, Some, None, Result, Ok, Err, refl, sym, ap, subst, arith, eq-eqb, ne_eqb}
use Rattle.std.specs.Prelude.{is_some, nat_eq, slice_get, if◌then◌else◌}
use Rattle.std.specs.Option.{ok_or}
use Rattle.std.proofs.lemmas.Bool.{cases_eq, eqb-true}
use Rattle.fr_bytes.specs.Bytes.{Text}
use Rattle.fr_digest.specs.Digest.{Digest}
use Rattle.op_types.specs.declared.kind.Kind.{Kind}
use Rattle.op_types.specs.declared.kind.Kind.TheVariants as kinds
use Rattle.op_types.specs.declared.op.Leaf.{Leaf}
use Rattle.op_types.specs.declared.op.Op.{Op}
use Rattle.pad_wrap.specs.Pad.{padded}
use Rattle.pad_wrap.proofs.Pads.{twice}
use Rattle.tree_model.specs.declared.entry.Entry.{Entry}
use Rattle.wall_law.specs.Lawful.{Lawful}
use Rattle.wall_law.specs.State.{state_of}
use Rattle.key_graph.specs.declared.change.Change.{Change}
use Rattle.key_graph.specs.declared.change.KeyChange.{KeyChange}
use Rattle.key_graph.specs.declared.change.PlanRefusal.{PlanRefusal}
use Rattle.key_graph.specs.declared.change.PlanRefusal.TheVariants as plans
use Rattle.key_graph.specs.declared.change.Setting.{Setting}
use Rattle.key_graph.specs.KeyBook.{new_book}
use Rattle.key_graph.specs.KeyTree.{Tree, free_slot, place_of, planned, slot_of, tree_root, with_wraps}
use Rattle.key_graph.specs.Reach.{tree_of}
use Rattle.msg_form.specs.declared.decline.Decline.{Decline}
use Rattle.msg_form.specs.declared.decline.Decline.TheVariants as declines
use Rattle.check_rules.specs.Shown.{changes_of}
use Rattle.hall_core.specs.declared.facts.WallFacts.{WallFacts}
use Rattle.hall_core.specs.Honest.{IsHonest}
use Rattle.lms_tree.specs.Signer.{Signing}
use Rattle.script_read.specs.declared.script.Command.{Command}
use Rattle.script_read.specs.declared.script.Command.TheVariants as commands
use Rattle.client_core.specs.Asking.{Wish, adds, drops, ask, changed, changed_by, key_change, kind_planned, look_sent, owner_decline, padded_post, plan_decline, post_stream, posted, posted_text, read_by, sent_of, sent_with, unsigned, whom}
use Rattle.client_core.specs.Keys.{KeysView, after_changes, fresh, held, leaf_of, member, owner, root_key}
use Rattle.client_core.specs.Sides.{SideView}
use Rattle.signed_ops.specs.Signed.{signed_by}
use Rattle.session_laws.specs.Doing.{asked_by, needs_keys}
use Rattle.run_laws.specs.Following.{Follows}
use Rattle.run_laws.specs.Keyed.{AreKeyed, changes_by}
use Rattle.run_laws.specs.Reading.{declined_by, is_named, no_admission, no_removal}
use Rattle.run_laws.proofs.Following.{needs-none}
use Rattle.run_laws.proofs.Making.{IsMade}
use Rattle.run_laws.proofs.Members.{full, members, no-slot}
use Rattle.run_laws.proofs.Planning.{IsMadeLeaf, keys-at}
use Rattle.run_laws.proofs.Rooting.{named-false, named-true, owner-to, root-by, root-is, tree_by, member-to, keyed-cut, lawful-cut, named-owner}
use Rattle.run_laws.proofs.Signed.{sent-next}

-- ---- what a client asks

-- It declines for this reason, or it asks.
abbrev pub AskIs : {A : Type 0} → Option Decline → Result A Decline → Type 0
AskIs {A} (Some decline) r = r ≡ Err decline
AskIs {A} None r = (a : A) × (r ≡ Ok a)

sent-is : (signer : Signing) (user : ℕ) (s : SideView) (o : Option Decline) (r : Result Kind Decline) → AskIs o r
    → AskIs o (sent_with signer user s r)
sent-is signer user s (Some decline) r is = ap (sent_with signer user s) is
sent-is signer user s None r (kind, is) =
    (sent_of s.known.size (signed_by signer (unsigned user s kind)), ap (sent_with signer user s) is)

-- ---- posts

-- a post is of the text under the root key of the accepted epoch
pub record IsPadded (user : ℕ) (s : SideView) (text : Text) (kind : Kind) : Type 0 where
  pub key : Text
  pub held : root_key s.keys s.known.epoch ≡ Some key
  pub is : kind ≡ kinds.Post (padded key (post_stream user s.next) text)

padded-of : (user : ℕ) (s : SideView) (text : Text) (kind : Kind) → posted user s text ≡ Ok kind
    → IsPadded user s text kind
unfolding posted
padded-of user s text kind e = by (root_key s.keys s.known.epoch) refl e
  where
    by : (o : Option Text) → root_key s.keys s.known.epoch ≡ o → padded_post user s.next text o ≡ Ok kind
        → IsPadded user s text kind
    by None held e' = absurd cc
    by (Some key) held e' = record {
      key = key;
      held = held;
      is = sym (let same : kinds.Post (padded key (post_stream user s.next) text) ≡ kind = cc in same);
    }

post-is : (user : ℕ) (s : SideView) (text : Text) (b : Bool) (key : Text)
    → root_key s.keys s.known.epoch ≡ (if b then Some key else None)
    → AskIs (if b then None else Some declines.NotMember) (posted user s text)
unfolding posted
post-is user s text true key e =
    (kinds.Post (padded key (post_stream user s.next) text), ap (padded_post user s.next text) e)
post-is user s text false key e = ap (padded_post user s.next text) e

-- what a side reads of a post, by the key that it holds
read-is : (t : SideView) (op : Op) (key text : Text) (b : Bool)
    → op.kind ≡ kinds.Post (padded key (post_stream op.author op.seq) text)
    → root_key t.keys op.epoch ≡ (if b then Some key else None)
    → read_by t op ≡ (if b then Some text else None)
unfolding read_by
read-is t op key text true kind root =
    ap (λ (o : Option Text). posted_text op.author op.seq o op.kind) root
    ∙ ap (posted_text op.author op.seq (Some key)) kind
    ∙ ap (λ (x : Text). Some x) (twice key (post_stream op.author op.seq) text)
read-is t op key text false kind root =
    ap (λ (o : Option Text). posted_text op.author op.seq o op.kind) root
    ∙ ap (posted_text op.author op.seq None) kind

-- ---- changes

member-asks : (s : SideView) (wish : Wish) (book : _) → s.keys ≡ member book → changed s wish ≡ Err declines.NotOwner
unfolding changed
member-asks s wish book is = ap (changed_by s wish) is

-- what the owner makes of a wish, where it holds all changes
owner-asks : (s : SideView) (wish : Wish) (tree : Tree) (secrets : List (ℕ × Text)) → s.keys ≡ owner tree secrets
    → needs_keys s ≡ false → (b : Bool) → nat_eq (whom wish) s.known.owner ≡ b
    → changed s wish ≡ (if b then Err (owner_decline wish)
    else kind_planned wish (planned tree (s.next + 1) (key_change tree secrets wish)))
unfolding changed
owner-asks s wish tree secrets is needs b same =
    ap (changed_by s wish) is
    ∙ ap (λ (a : Bool). if a then Err declines.NotMember
    else if nat_eq (whom wish) s.known.owner then Err (owner_decline wish)
    else kind_planned wish (planned tree (s.next + 1) (key_change tree secrets wish))) needs
    ∙ ap (λ (a : Bool). if a then Err (owner_decline wish)
    else kind_planned wish (planned tree (s.next + 1) (key_change tree secrets wish))) same

-- ---- places in the tree

-- a slot is had where there is no reason against it, and none for this reason
abbrev IsPlaceFor : Result ℕ PlanRefusal → Option Decline → Type 0
IsPlaceFor (Ok slot) o = o ≡ None
IsPlaceFor (Err refusal) o = o ≡ Some (plan_decline refusal)

planned-by : (tree : Tree) (g : ℕ) (what : KeyChange) (wish : Wish) (r : Result ℕ PlanRefusal) (o : Option Decline)
    → place_of tree.setting.depth tree.followed what ≡ r → IsPlaceFor r o → AskIs o (kind_planned wish (planned tree g what))
unfolding planned
planned-by tree g what wish (Ok slot) o is for =
    subst (λ (x : Option Decline). AskIs x (kind_planned wish (planned tree g what))) (sym for)
    (_, ap (λ (r : Result ℕ PlanRefusal). kind_planned wish (with_wraps tree g what r)) is)
planned-by tree g what wish (Err refusal) o is for =
    subst (λ (x : Option Decline). AskIs x (kind_planned wish (planned tree g what))) (sym for)
    (ap (λ (r : Result ℕ PlanRefusal). kind_planned wish (with_wraps tree g what r)) is)

admission-for : (mine free : Option ℕ) (named full : Bool) → (named ≡ true → mine ≡ None → ⊥)
    → (named ≡ false → mine ≡ None) → (free ≡ None → full ≡ true) → (full ≡ true → free ≡ None)
    → IsPlaceFor (if is_some mine then Err plans.AlreadyIn else ok_or free plans.NoSlot)
    (if named then Some declines.AlreadyIn else if full then Some declines.NoSlot else None)
admission-for None free true full has none all some = absurd (has refl refl)
admission-for (Some slot) free true full has none all some = refl
admission-for (Some slot) free false full has none all some = absurd (let e = none refl in cc)
admission-for None None false true has none all some = refl
admission-for None None false false has none all some = absurd (let e = all refl in cc)
admission-for None (Some slot) false true has none all some = absurd (let e = some refl in cc)
admission-for None (Some slot) false false has none all some = refl

removal-for : (mine : Option ℕ) (named : Bool) → (named ≡ true → mine ≡ None → ⊥) → (named ≡ false → mine ≡ None)
    → IsPlaceFor (ok_or mine plans.NotIn) (if named then None else Some declines.NotIn)
removal-for None true has none = absurd (has refl refl)
removal-for (Some slot) true has none = refl
removal-for None false has none = refl
removal-for (Some slot) false has none = absurd (let e = none refl in cc)

-- ---- a wall

module _ (d : Digest) (facts : WallFacts) (setting : Setting) (secrets : List (ℕ × Text)) (deep : 1 ≤ setting.depth)
    (base : ℕ → KeysView) (owned : base facts.owner ≡ owner (tree_of setting []) secrets) (IsListed : ℕ → Type 0)
    (booked : (u : ℕ) → (u ≡ facts.owner → ⊥) → IsListed u
    → base u ≡ member (new_book setting.wall setting.depth u (leaf_of setting.wall secrets u)))
    (L : List Leaf) (honest : IsHonest d facts L) (keyed : AreKeyed setting secrets L) where
  abbrev entries_to : ℕ → List Entry
  entries_to n = (state_of facts.owner (take n L)).entries

  abbrev changes_to : ℕ → List Change
  changes_to n = changes_by setting secrets (changes_of (take n L))

  cut-keyed : (n : ℕ) → AreKeyed setting secrets (take n L)
  cut-keyed n = keyed-cut d facts setting secrets deep base owned IsListed booked L honest keyed n

  cut-lawful : (n : ℕ) → Lawful d facts.owner facts.wall (take n L)
  cut-lawful n = lawful-cut d facts setting secrets deep base owned IsListed booked L honest keyed n

  root-to : (u : ℕ) → IsListed u → (k n : ℕ) → k ≤ n → (key : Text)
      → tree_root (tree_by setting secrets (changes_of (take k L))) (length (changes_of (take k L))) ≡ Some key
      → root_key (after_changes (base u) (changes_of (take n L))) (length (changes_of (take k L)))
      ≡ (if is_named (entries_to k) u then Some key else None)
  root-to = root-by d facts setting secrets deep base owned IsListed booked L honest keyed

  -- A user's side that follows the wall.
  pub record IsSideOf (u : ℕ) (s : SideView) : Type 0 where
    pub follows : Follows d facts L s
    pub began : fresh s.keys ≡ base u
    pub listed : IsListed u

  side-keys : (u : ℕ) (s : SideView) → IsSideOf u s → s.keys ≡ after_changes (base u) (changes_of (take s.known.size L))
  side-keys u s is = is.follows.held
      ∙ ap (λ (keys : KeysView). after_changes keys (changes_of (take s.known.size L))) is.began

  -- ---- posts

  pub reads-post : (t : SideView) (u : ℕ) → IsSideOf u t → (k : ℕ) (leaf : Leaf) → slice_get L k ≡ Some leaf
      → k < t.known.size → (wall : ℕ) (text : Text) → IsListed leaf.op.author
      → IsMade d facts L (base leaf.op.author) leaf.op.author (commands.Post wall text) leaf.op
      → ((j : ℕ) (l : Leaf) → slice_get L j ≡ Some l → IsMadeLeaf d facts L base l)
      → read_by t leaf.op ≡ (if is_named (entries_to k) u then Some text else None)
  reads-post t u is k leaf at less wall text author m made =
      let next = sent-next m.signer leaf.op.author m.side (commands.Post wall text) m.sent leaf.op m.asked m.signed in
      let pad = padded-of leaf.op.author m.side text leaf.op.kind next.makes in
      let keys = keys-at d facts L honest setting secrets base owned made k leaf at (commands.Post wall text) m in
      let e = length (changes_of (take k L)) in
      let root = root-is setting secrets k L in
      let held : (if is_named (entries_to k) leaf.op.author then Some root.0 else None) ≡ Some pad.key =
      sym (root-to leaf.op.author author k k (omega arith) root.0 root.1)
      ∙ sym (ap (λ (x : KeysView). root_key x e) keys.0) ∙ sym (ap (root_key m.side.keys) keys.1) ∙ pad.held in
      let same : root.0 ≡ pad.key = some-key (is_named (entries_to k) leaf.op.author) root.0 pad.key held in
      let kind : leaf.op.kind ≡ kinds.Post (padded root.0 (post_stream leaf.op.author leaf.op.seq) text) =
      pad.is ∙ ap (λ (x : Text). kinds.Post (padded x (post_stream leaf.op.author m.side.next) text)) (sym same)
      ∙ ap (λ (n : ℕ). kinds.Post (padded root.0 (post_stream leaf.op.author n) text)) (sym next.seq) in
      let epoch : leaf.op.epoch ≡ e = next.epoch ∙ keys.1 in
      read-is t leaf.op root.0 text (is_named (entries_to k) u) kind
      (ap (root_key t.keys) epoch ∙ ap (λ (x : KeysView). root_key x e) (side-keys u t is)
      ∙ root-to u is.listed k t.known.size (omega (less, arith)) root.0 root.1)
    where
      some-key : (b : Bool) (a c : Text) → (if b then Some a else None) ≡ Some c → a ≡ c
      some-key true a c e = cc
      some-key false a c e = absurd cc

  -- ---- declines

  owner-named : (n : ℕ) → is_named (entries_to n) facts.owner ≡ true
  owner-named n =
      let it = named-owner d facts setting secrets deep base owned IsListed booked L honest keyed n in
      ap (λ (o : Option Entry). is_some o) it.there

  named-slot : (n other : ℕ) → (other ≡ facts.owner → ⊥) → is_named (entries_to n) other ≡ true
      → slot_of setting.depth (changes_to n) other ≡ None → ⊥
  named-slot n other ne is none =
      (no-slot d facts.owner facts.wall setting secrets (take n L) (cut-lawful n) (cut-keyed n) other).0 none
      ((members d facts.owner facts.wall setting secrets (take n L) (cut-lawful n) (cut-keyed n) other).1
      (ne, named-true facts.owner other (take n L) is))

  none-slot : (n other : ℕ) → is_named (entries_to n) other ≡ false
      → slot_of setting.depth (changes_to n) other ≡ None
  none-slot n other not =
      (no-slot d facts.owner facts.wall setting secrets (take n L) (cut-lawful n) (cut-keyed n) other).1
      (λ mem. named-false facts.owner other (take n L) not
      ((members d facts.owner facts.wall setting secrets (take n L) (cut-lawful n) (cut-keyed n) other).0 mem).1)

  module _ (u : ℕ) (s : SideView) (is : IsSideOf u s) where
    abbrev size : ℕ
    size = s.known.size

    abbrev tree : Tree
    tree = tree_by setting secrets (changes_of (take size L))

    keys-owner : u ≡ facts.owner → s.keys ≡ owner tree secrets
    keys-owner same = side-keys u s is
        ∙ ap (λ (v : ℕ). after_changes (base v) (changes_of (take size L))) same
        ∙ owner-to d facts setting secrets deep base owned IsListed booked L honest keyed size

    -- the owner's wishes
    admits : (other role : ℕ) → u ≡ facts.owner
        → AskIs (no_admission setting.depth (entries_to size) other) (changed s (adds other role))
    admits other role mine = elim (cases_eq other facts.owner) [
      | inl same ↦
          let own : nat_eq other s.known.owner ≡ true =
          eq-eqb other s.known.owner (same ∙ sym is.follows.accepted.knows.owner) in
          let named : is_named (entries_to size) other ≡ true =
          ap (is_named (entries_to size)) same ∙ owner-named size in
          subst (λ (o : Option Decline). AskIs o (changed s (adds other role)))
          (sym (ap (λ (b : Bool). if b then Some declines.AlreadyIn
          else if nat_eq (length (entries_to size)) (2 ^ setting.depth + 1) then Some declines.NoSlot else None) named))
          (owner-asks s (adds other role) tree secrets (keys-owner mine) (needs-none d facts L s is.follows) true own)
      | inr ne ↦
          let not-own : nat_eq other s.known.owner ≡ false =
          ne_eqb other s.known.owner (λ e. ne (e ∙ is.follows.accepted.knows.owner)) in
          let full = full d facts.owner facts.wall setting secrets (take size L) (cut-lawful size) (cut-keyed size) in
          let count = length (entries_to size) in
          subst (AskIs (no_admission setting.depth (entries_to size) other))
          (sym (owner-asks s (adds other role) tree secrets (keys-owner mine) (needs-none d facts L s is.follows) false
          not-own))
          (planned-by tree (s.next + 1) (key_change tree secrets (adds other role)) (adds other role)
          (place_of setting.depth (changes_to size) (key_change tree secrets (adds other role)))
          (no_admission setting.depth (entries_to size) other) refl
          (admission-for (slot_of setting.depth (changes_to size) other) (free_slot setting.depth (changes_to size))
          (is_named (entries_to size) other) (nat_eq count (2 ^ setting.depth + 1))
          (named-slot size other ne) (none-slot size other)
          (λ none. eq-eqb count (2 ^ setting.depth + 1) (full.0 none))
          (λ all. full.1 (eqb-true count (2 ^ setting.depth + 1) all))))
    ]

    drops-by : (other : ℕ) → u ≡ facts.owner
        → AskIs (no_removal facts.owner (entries_to size) other) (changed s (drops other))
    drops-by other mine = elim (cases_eq other facts.owner) [
      | inl same ↦
          let own : nat_eq other s.known.owner ≡ true =
          eq-eqb other s.known.owner (same ∙ sym is.follows.accepted.knows.owner) in
          subst (λ (o : Option Decline). AskIs o (changed s (drops other)))
          (sym (ap (λ (b : Bool). if b then Some declines.NotIn
          else if is_named (entries_to size) other then None else Some declines.NotIn) (eq-eqb other facts.owner same)))
          (owner-asks s (drops other) tree secrets (keys-owner mine) (needs-none d facts L s is.follows) true own)
      | inr ne ↦
          let not-own : nat_eq other s.known.owner ≡ false =
          ne_eqb other s.known.owner (λ e. ne (e ∙ is.follows.accepted.knows.owner)) in
          subst (λ (o : Option Decline). AskIs o (changed s (drops other)))
          (sym (ap (λ (b : Bool). if b then Some declines.NotIn
          else if is_named (entries_to size) other then None else Some declines.NotIn) (ne_eqb other facts.owner ne)))
          (subst (AskIs (if is_named (entries_to size) other then None else Some declines.NotIn))
          (sym (owner-asks s (drops other) tree secrets (keys-owner mine) (needs-none d facts L s is.follows) false
          not-own))
          (planned-by tree (s.next + 1) (key_change tree secrets (drops other)) (drops other)
          (place_of setting.depth (changes_to size) (key_change tree secrets (drops other)))
          (if is_named (entries_to size) other then None else Some declines.NotIn) refl
          (removal-for (slot_of setting.depth (changes_to size) other) (is_named (entries_to size) other)
          (named-slot size other ne) (none-slot size other))))
    ]

    member-keys : (u ≡ facts.owner → ⊥) → (wish : Wish) → changed s wish ≡ Err declines.NotOwner
    member-keys other wish = member-asks s wish _ (side-keys u s is
        ∙ member-to d facts setting secrets deep base owned IsListed booked L honest keyed u size
        other is.listed)

    wish-by : (wish : Wish) (o : Option Decline) → (u ≡ facts.owner → AskIs o (changed s wish))
        → AskIs (if nat_eq u facts.owner then o else Some declines.NotOwner) (changed s wish)
    wish-by wish o own = elim (cases_eq u facts.owner) [
      | inl same ↦ subst (λ (b : Bool). AskIs (if b then o else Some declines.NotOwner) (changed s wish))
          (sym (eq-eqb u facts.owner same)) (own same)
      | inr ne ↦ subst (λ (b : Bool). AskIs (if b then o else Some declines.NotOwner) (changed s wish))
          (sym (ne_eqb u facts.owner ne)) (member-keys ne wish)
    ]

    -- What a client asks, or why it declines, is by the list.
    pub asks-by : (signer : Signing) (command : Command)
        → AskIs (declined_by setting.depth facts.owner u (entries_to size) command) (ask signer u s (asked_by command))
    asks-by signer (commands.Read wall) = (look_sent s false, refl)
    asks-by signer (commands.ReadAll wall) = (look_sent s true, refl)
    asks-by signer (commands.Post wall text) =
        let root = root-is setting secrets size L in
        let epoch = is.follows.accepted.epoch_is in
        sent-is signer u s (if is_named (entries_to size) u then None else Some declines.NotMember) (posted u s text)
        (post-is u s text (is_named (entries_to size) u) root.0
        (ap (root_key s.keys) epoch
        ∙ ap (λ (x : KeysView). root_key x (length (changes_of (take size L)))) (side-keys u s is)
        ∙ root-to u is.listed size size (omega arith) root.0 root.1))
    asks-by signer (commands.Admit wall other role) = sent-is signer u s
        (if nat_eq u facts.owner then no_admission setting.depth (entries_to size) other else Some declines.NotOwner)
        (changed s (adds other role))
        (wish-by (adds other role) (no_admission setting.depth (entries_to size) other) (admits other role))
    asks-by signer (commands.Remove wall other) = sent-is signer u s
        (if nat_eq u facts.owner then no_removal facts.owner (entries_to size) other else Some declines.NotOwner)
        (changed s (drops other))
        (wish-by (drops other) (no_removal facts.owner (entries_to size) other) (drops-by other))
