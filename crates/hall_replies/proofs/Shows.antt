-- The replies that are made of a snapshot are those of an honest server.
use Rattle.std.proofs.Common.{◌≡◌, ℕ, ◌+◌, ◌-◌, ◌^◌, ◌<◌, ◌≤◌, Bool, List, [], ◌∷◌, ◌++◌, length, take, drop, map, ap, sym, subst, ◌∙◌, arith}
use Rattle.std.proofs.lemmas.List.{length-map, length-take-le, take-map, take_all}
use Rattle.fr_bytes.specs.Bytes.{Text}
use Rattle.fr_bytes.specs.Parts.{IsLimited}
use Rattle.fr_digest.specs.Digest.{Digest}
use Rattle.op_types.specs.declared.op.Leaf.{Leaf}
use Rattle.op_types.specs.Spelling.{IsLeaf, leaf_text}
use Rattle.tree_model.specs.History.{depth, part}
use Rattle.tree_prune.specs.LeastHistory.{from_on, least, listed}
use Rattle.hist_proof.specs.Pruned.{Tree}
use Rattle.hist_proof.specs.Shown.{shown}
use Rattle.hist_proof.specs.Spelling.{IsSpelled, Spells}
use Rattle.dict_proof.specs.Spelling.{list_text}
use Rattle.wall_law.proofs.Histories.{lawful-view}
use Rattle.msg_form.specs.declared.message.Reply.TheVariants.{KeyOps, Show}
use Rattle.msg_form.specs.Messages.{IsReply, SpellsReply, reply_text}
use Rattle.hall_core.specs.declared.facts.WallFacts.{WallFacts}
use Rattle.hall_core.specs.declared.item.Item.{Item}
use Rattle.hall_core.specs.declared.snapshot.Snapshot.{Snapshot}
use Rattle.hall_core.specs.Snapshots.{Stands}
use Rattle.honest_replies.specs.HonestNews.{Begins, IsViewOf}
use Rattle.honest_replies.specs.HonestReply.{FewEntries, KeysReply, NewsReply, ShowReply, SpellsBare}
use Rattle.hall_replies.specs.Kept.{IsKept, leaves_of, owner_of}
use Rattle.hall_replies.specs.Shown.{HasDigs, IsShow, SpellProofs, news_tree, view_sizes}
use Rattle.hall_replies.specs.KeyOps.{change_marks, key_tree}
use Rattle.hall_replies.proofs.Changes.{key-prunes, key-shows}
use Rattle.hall_replies.proofs.Joined.{view-same}
use Rattle.hall_replies.proofs.Kept.{leaves-are, length-leaves, owner-is, texts-are}
use Rattle.hall_replies.proofs.NewsTrees.{news-prunes, shows-news}
use Rattle.hall_replies.proofs.Replies.{is-key-ops, is-show, lists-length, lists-prove, lists-spelled, lists-texts, lists_in, proofs-limited}
use Rattle.hall_replies.proofs.Trees.{all-take, at-take, prunes-limited, prunes-spelled, spelled-digs, texts-limited}

-- ---- the view

module _ {D : Type 0} (d : Digest) (facts : WallFacts) (L : List Leaf) (s : Snapshot D) (stands : Stands d facts L s) where
  view-is : IsViewOf d facts.wall facts.server L s.view
  view-is = view-same d facts L s.view stands.viewed

  pub bare-reply : (have f : ℕ) (whole : Bool) (bytes : Text) → length s.history ≤ have → SpellsBare s.view bytes
      → ShowReply d facts.wall facts.owner facts.server have f L whole bytes
  bare-reply have f whole bytes all bare = record {
    view = s.view;
    is_view = view-is;
    bare = λ _. bare;
    news = λ more. absurd (let size = same-length in omega arith);
  } where
    same-length : length s.history ≡ length L
    same-length = sym (length-leaves s) ∙ ap length (leaves-are d facts L s stands)

  pub news-reply : (have f : ℕ) (whole : Bool) (bytes : Text) → have < length s.history
      → (FewEntries (owner_of s) (leaves_of s) → NewsReply d (owner_of s) have f (leaves_of s) whole s.view bytes)
      → ShowReply d facts.wall facts.owner facts.server have f L whole bytes
  news-reply have f whole bytes more news = record {
    view = s.view;
    is_view = view-is;
    bare = λ all. absurd (let size = same-length in omega arith);
    news = λ later few.
        let own : FewEntries (owner_of s) (leaves_of s) =
        subst (λ o. FewEntries o (leaves_of s)) (sym (owner-is d facts L s stands)) (subst (FewEntries facts.owner) (sym (leaves-are d facts L s stands)) few) in
        subst (λ o. NewsReply d o have f L whole s.view bytes) (owner-is d facts L s stands)
        (subst (λ ls. NewsReply d (owner_of s) have f ls whole s.view bytes) (leaves-are d facts L s stands) (news own));
  } where
    same-length : length s.history ≡ length L
    same-length = sym (length-leaves s) ∙ ap length (leaves-are d facts L s stands)

-- ---- what is new

module _ {D : Type 0} (d : Digest) (s : Snapshot D) (it : IsKept d s) (have from : ℕ) (below : from < length s.history) where
  some : from < length (leaves_of s)
  some = let size = length-leaves s in omega arith

  tree-limited : (tree : Text) → Spells (news_tree d (leaves_of s) have from) tree → IsLimited 20265983 tree
  unfolding IsSpelled
  tree-limited tree is =
      let L = leaves_of s in
      let size = length-map L leaf_text in
      let few = it.few in
      subst (IsLimited 20265983) (sym is.text)
      (prunes-limited d (news_tree d L have from) (map leaf_text L) (news-prunes d L have from some) (omega arith)
      (texts-limited L it.spelled) (spelled-digs 10 (news_tree d L have from) is.is_spelled))

  pub shown-is : (tree : Text) (texts : List Text) → Spells (news_tree d (leaves_of s) have from) tree
      → from + length texts ≡ length s.history → SpellProofs d (owner_of s) (leaves_of s) from texts
      → IsShow s.view from tree texts
  shown-is tree texts is count each =
      let size = length-leaves s in
      let own = it.size in
      let few = it.few in
      is-show s.view from tree texts it.view (omega arith) (omega arith) (omega arith) (tree-limited tree is)
      (proofs-limited d (owner_of s) (leaves_of s) from texts each)

  pub news-shown : (f : ℕ) (whole : Bool) (tree : Text) (texts : List Text) (bytes : Text)
      → Begins have f (leaves_of s) whole from → Spells (news_tree d (leaves_of s) have from) tree
      → from + length texts ≡ length s.history → SpellProofs d (owner_of s) (leaves_of s) from texts
      → SpellsReply (Show s.view from tree texts) bytes → FewEntries (owner_of s) (leaves_of s)
      → NewsReply d (owner_of s) have f (leaves_of s) whole s.view bytes
  news-shown f whole tree texts bytes begins is count each text few =
      let L = leaves_of s in
      let owner = owner_of s in
      let size = length-leaves s in
      let lists = lists_in d owner L from texts each in
      let number = lists-length d owner L from texts each in
      record {
        from = from;
        tree = news_tree d L have from;
        lists = lists;
        begins = begins;
        shows = shows-news d L have from some owner lists (omega arith)
            (λ k l at. lawful-view d owner s.view.wall L k l it.lawful at)
            (lists-prove d owner L few from texts each);
        text = record {
          text = subst (λ (t : Text). SpellsReply (Show s.view from t (map list_text lists)) bytes) is.text
              (subst (λ (ts : List Text). SpellsReply (Show s.view from tree ts) bytes) (sym (lists-texts d owner L from texts each)) text);
          tree_is = is.is_spelled;
          lists_are = lists-spelled d owner L from texts each;
        };
      }

  -- ---- what is made

  pub news-made : (size : ℕ) (history : List (Item D)) (versions : List ℕ) (p : Tree) → size ≡ length s.history → history ≡ s.history
      → versions ≡ view_sizes (drop from (leaves_of s)) ++ have ∷ []
      → p ≡ least (part d) (depth size) (take size (map (λ (item : Item D). item.text) history)) (from_on (from - 1) size) versions
      → p ≡ news_tree d (leaves_of s) have from
  unfolding news_tree
  news-made size history versions p is same_history listed made =
      let L = leaves_of s in
      let same : size ≡ length L = is ∙ sym (length-leaves s) in
      let texts = ap (map (λ (item : Item D). item.text)) same_history ∙ texts-are d s it in
      let whole : take size (map (λ (item : Item D). item.text) history) ≡ map leaf_text L =
      ap (take size) texts ∙ take_all size (map leaf_text L) (let count = length-map L leaf_text in omega arith) in
      made
      ∙ ap (λ n. least (part d) (depth n) (take size (map (λ (item : Item D). item.text) history)) (from_on (from - 1) n) versions) same
      ∙ ap (λ M. least (part d) (depth (length L)) M (from_on (from - 1) (length L)) versions) whole
      ∙ ap (least (part d) (depth (length L)) (map leaf_text L) (from_on (from - 1) (length L))) listed

  pub news-spelled : HasDigs (news_tree d (leaves_of s) have from) → IsSpelled (news_tree d (leaves_of s) have from)
  news-spelled digs =
      let L = leaves_of s in
      let size = length-map L leaf_text in
      let few = it.few in
      prunes-spelled d (news_tree d L have from) (map leaf_text L) (news-prunes d L have from some) (omega arith)
      (texts-limited L it.spelled) digs

-- ---- the changes

module _ {D : Type 0} (d : Digest) (s : Snapshot D) (it : IsKept d s) (size : ℕ) (some : 0 < size) (within : size ≤ length s.history) where
  length-first : length (take size (leaves_of s)) ≡ size
  length-first = length-take-le size (leaves_of s) (let count = length-leaves s in omega arith)

  pub key-made : (history : List (Item D)) (positions : List ℕ) (p : Tree) → history ≡ s.history
      → listed positions size ≡ change_marks (take size (leaves_of s))
      → p ≡ least (part d) (depth size) (take size (map (λ (item : Item D). item.text) history)) (listed positions size) []
      → p ≡ key_tree d (take size (leaves_of s))
  unfolding key_tree
  key-made history positions p same_history are made =
      let L = leaves_of s in
      let texts : take size (map (λ (item : Item D). item.text) history) ≡ map leaf_text (take size L) =
      ap (λ (items : List (Item D)). take size (map (λ (item : Item D). item.text) items)) same_history ∙ ap (take size) (texts-are d s it)
      ∙ take-map leaf_text size L in
      made
      ∙ ap (λ ms. least (part d) (depth size) (take size (map (λ (item : Item D). item.text) history)) ms []) are
      ∙ ap (λ M. least (part d) (depth size) M (change_marks (take size L)) []) texts
      ∙ ap (λ n. least (part d) (depth n) (map leaf_text (take size L)) (change_marks (take size L)) []) (sym length-first)

  first-texts : length (map leaf_text (take size (leaves_of s))) ≤ 1024
  first-texts =
      let count = length-map (take size (leaves_of s)) leaf_text in
      let own = length-first in
      let all = length-leaves s in
      let few = it.few in
      omega arith

  pub key-spelled : HasDigs (key_tree d (take size (leaves_of s))) → IsSpelled (key_tree d (take size (leaves_of s)))
  key-spelled digs =
      let K = take size (leaves_of s) in
      let own = length-first in
      prunes-spelled d (key_tree d K) (map leaf_text K) (key-prunes d K (omega arith)) first-texts
      (texts-limited K (all-take IsLeaf size (leaves_of s) it.spelled)) digs

  key-limited : (tree : Text) → Spells (key_tree d (take size (leaves_of s))) tree → IsLimited 20265983 tree
  unfolding IsSpelled
  key-limited tree is =
      let K = take size (leaves_of s) in
      let own = length-first in
      subst (IsLimited 20265983) (sym is.text)
      (prunes-limited d (key_tree d K) (map leaf_text K) (key-prunes d K (omega arith)) first-texts
      (texts-limited K (all-take IsLeaf size (leaves_of s) it.spelled)) (spelled-digs 10 (key_tree d K) is.is_spelled))

  pub keys-reply : (wall : ℕ) (tree : Text) → wall < 2 ^ 32 → Spells (key_tree d (take size (leaves_of s))) tree
      → IsReply (KeyOps wall size tree)
  keys-reply wall tree fits is =
      let all = length-leaves s in
      let few = it.few in
      is-key-ops wall size tree fits some (omega arith) (key-limited tree is)

  pub keys-shown : (facts : WallFacts) (L : List Leaf) (tree bytes : Text) → Stands d facts L s
      → Spells (key_tree d (take size (leaves_of s))) tree → bytes ≡ reply_text (KeyOps s.view.wall size tree)
      → IsReply (KeyOps s.view.wall size tree) → KeysReply d facts.wall L size bytes
  keys-shown facts L tree bytes stands is text reply =
      let own = length-first in
      let K = take size (leaves_of s) in
      subst (λ ls. KeysReply d facts.wall ls size bytes) (leaves-are d facts L s stands)
      (subst (λ w. KeysReply d w (leaves_of s) size bytes) stands.viewed.wall (record {
        tree = key_tree d K;
        text = subst (λ (t : Text). SpellsReply (KeyOps s.view.wall size t) bytes) is.text (record { is_reply = reply; text = text });
        tree_is = is.is_spelled;
        prunes = key-prunes d K (omega arith);
        shows = λ k l below at. ap (λ n. shown (key_tree d K) n k) (sym own)
            ∙ key-shows d K (omega arith) k l (at-take size (leaves_of s) k below ∙ at);
      }))
