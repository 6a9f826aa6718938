-- What a reply that is taken shows, and the changes of one with the changes of an access list.
use Rattle.std.proofs.Common.{◌≡◌, ◌∙◌, ℕ, suc, ◌-◌, List, [], ◌∷◌, length, map, Option, Some, None, Bool, true, false, refl, ap, sym, subst, arith}
use Rattle.std.specs.Prelude.{if◌then◌else◌, nat_lt, slice_get, Ok}
use Rattle.std.specs.List.{AllByRecursion}
use Rattle.std.proofs.lemmas.Bool.{ltb-false}
use Rattle.std.proofs.lemmas.List.{length-map}
use Rattle.fr_bytes.specs.Bytes.{IsBytes, Text}
use Rattle.fr_bytes.specs.Reading.{◌>>=◌, all_of}
use Rattle.fr_bytes.specs.Parts.{both, counted_bytes, fit_optional, times}
use Rattle.fr_bytes.proofs.Formats.{all_found, bind_some}
use Rattle.fr_bytes.proofs.Lists.{each-append}
use Rattle.fr_digest.specs.Digest.{Digest}
use Rattle.op_types.specs.declared.op.Leaf.{Leaf}
use Rattle.op_types.specs.declared.op.Op.{Op}
use Rattle.op_types.specs.declared.view.View.{View}
use Rattle.op_types.specs.Kinds.{is_change}
use Rattle.op_types.specs.Spelling.{IsLeaf, IsView}
use Rattle.op_types.proofs.Ops.{leaf_again}
use Rattle.hist_proof.specs.Pruned.{Tree, hidden, leaf, node, single}
use Rattle.hist_proof.specs.declared.pruned.Pruned.{Pruned}
use Rattle.hist_proof.specs.Spelling.{IsSpelled, pruned_at, pruned_format}
use Rattle.hist_proof.specs.View.{tree_view}
use Rattle.hist_proof.proofs.Spellings.{exact_pruned}
use Rattle.pruned_list.specs.PrunedList.{PrunedList}
use Rattle.dict_proof.specs.declared.pruned_dict.PrunedDict.{PrunedDict}
use Rattle.dict_proof.specs.Spelling.{dict_at}
use Rattle.dict_proof.specs.View.{list_view}
use Rattle.msg_form.specs.declared.message.Reply.{Reply}
use Rattle.msg_form.specs.declared.message.Reply.TheVariants.{Show, Refused, KeyOps}
use Rattle.msg_form.specs.declared.verdict.Verdict.{Verdict}
use Rattle.msg_form.specs.Messages.{HasParts, reply_of}
use Rattle.msg_form.proofs.Spellings.{reply-spelled}
use Rattle.check_rules.specs.declared.asked.Asked.{Asked}
use Rattle.check_rules.specs.declared.known.Known.{Known}
use Rattle.check_rules.specs.Heard.{KeysHeard, bare, news, heard_in, heard_of, heard_show, holds_leaves, keys_heard_of, keys_in, leaf_of, lists_of, tree_of}
use Rattle.check_rules.specs.Shown.{changes_of, leaves_from, leaves_in, with_some}
use Rattle.check_rules.specs.Verdict.{changes_or, is_append, judged, keys_judged, keys_judged_heard, keys_verdict, taken}
use Rattle.check_rules.proofs.Takings.{takes}
use Rattle.check_core.specs.declared.checked.Checked.{Checked}
use Rattle.check_core.specs.declared.checked.Checked.TheVariants as answers
use Rattle.check_core.specs.View.{checked_view}
use Rattle.world_book.specs.Kept.{HoldsLeaves}
use Rattle.world_book.proofs.Shown.{shown-from}
use Rattle.world_book.proofs.Spelled.{spelled-leaves}
use Rattle.client_core.specs.Keys.{IsNumbered}
use Rattle.client_core.specs.Keeping.{IsSound, IsTaken, ShowsLeaves}

-- a fact of what stands at each place
pub all-places : {A : Type 0} (P : A → Type 0) (xs : List A) → ((i : ℕ) (x : A) → slice_get xs i ≡ Some x → P x)
    → AllByRecursion P xs
all-places P [] each = tt
all-places P (x ∷ xs) each = (each 0 x refl, all-places P xs (λ i y at. each (suc i) y at))

-- ---- parts of replies

read-tree : (bytes : Text) (p : Tree) → IsBytes bytes → tree_of bytes ≡ Some p → HoldsLeaves p
read-tree bytes p are e =
    let read = bind_some (all_of pruned_at bytes) (λ tree. if holds_leaves tree then Some tree else None) p e in
    by read.0 (holds_leaves read.0) refl (all_found pruned_format exact_pruned bytes read.0 are read.1).0 read.2
  where
    by : (q : Tree) (b : Bool) → holds_leaves q ≡ b → IsSpelled q → (if b then Some q else None) ≡ Some p
        → HoldsLeaves p
    by q true holds spelled e' = let same : q ≡ p = cc in subst HoldsLeaves same (spelled-leaves q spelled holds)
    by q false holds spelled e' = absurd cc

as-many : (ts : List Text) (ls : List PrunedList) → lists_of ts ≡ Some ls → length ls ≡ length ts
unfolding lists_of
as-many [] ls e = let same : [] ≡ ls = cc in ap length (sym same)
as-many (t ∷ ts) ls e =
    let first = bind_some (all_of dict_at t) (λ list. lists_of ts >>= (λ lists. Some (list ∷ lists))) ls e in
    let others = bind_some (lists_of ts) (λ lists. Some (first.0 ∷ lists)) ls first.2 in
    let same : first.0 ∷ others.0 ≡ ls = let f = others.2 in cc in
    ap length (sym same) ∙ ap suc (as-many ts others.0 others.1)

-- the bytes of a tree, and a text for each of so many positions
pub record AreParts (count : ℕ) (t : Text) (ts : List Text) : Type 0 where
  pub tree : IsBytes t
  pub lists : length ts ≡ count

parts : (count : ℕ) (b : Bool) (t : Text) (ts : List Text) → nat_lt 0 count ≡ b
    → fit_optional b ([], []) (both counted_bytes (λ tree. times count counted_bytes)).fits (t, ts)
    → AreParts count t ts
parts count true t ts e h = record { tree = h.0.1; lists = h.1.0 }
parts count false t ts e h =
    let none : [] ≡ t = sym (ap (λ (p : Text × List Text). p.0) h) in
    let zeros = ltb-false 0 count e in
    let many : length ts ≡ 0 = ap (λ (p : Text × List Text). length p.1) h in
    record { tree = subst IsBytes none (λ i. omega arith); lists = omega arith }

-- what the view, the tree and the lists of a reply that shows are
pub record Shows (view : View) (from : ℕ) (tree : Tree) (lists : List PrunedList) : Type 0 where
  pub view_is : IsView view.wall view
  pub tree_is : HoldsLeaves tree
  pub lists_are : length lists ≡ view.size - from

shows : (w : View) (from f : ℕ) (t : Text) (ts : List Text) (view : View) (p : Tree) (ls : List PrunedList)
    → HasParts (Show w f t ts)
    → heard_show w f t ts ≡ Some (news view from p ls) → Shows view from p ls
shows w from f t ts view p ls has e = by (nat_lt f w.size) e
  where
    are : AreParts (w.size - f) t ts
    are = parts (w.size - f) (nat_lt 0 (w.size - f)) t ts refl has.1.1.1

    by : (b : Bool) → (if b then tree_of t >>= (λ q. lists_of ts >>= (λ xs. Some (news w f q xs))) else Some
        (bare w)) ≡ Some (news view from p ls) → Shows view from p ls
    by true e' =
        let read = bind_some (tree_of t) (λ q. lists_of ts >>= (λ xs. Some (news w f q xs)))
        (news view from p ls) e' in
        let lists = bind_some (lists_of ts) (λ xs. Some (news w f read.0 xs)) (news view from p ls) read.2 in
        let all = lists.2 in
        let same-view : w ≡ view = cc in
        let same-from : f ≡ from = cc in
        let same-tree : read.0 ≡ p = cc in
        let same-lists : lists.0 ≡ ls = cc in
        record {
          view_is = subst (λ (v : View). IsView v.wall v) same-view has.1.0;
          tree_is = subst HoldsLeaves same-tree (read-tree t read.0 are.tree read.1);
          lists_are = ap length (sym same-lists) ∙ (as-many ts lists.0 lists.1 ∙ (are.lists
              ∙ (ap (λ (v : View). v.size - f) same-view ∙ ap (λ (n : ℕ). view.size - n) same-from)));
        }
    by false e' = absurd cc

shows-heard : (appends : Bool) (reply : Reply) (from : ℕ) (view : View) (p : Tree) (ls : List PrunedList)
    → HasParts reply
    → heard_in appends reply ≡ Some (news view from p ls) → Shows view from p ls
shows-heard appends (Show w f t ts) from view p ls has e = shows w from f t ts view p ls has e
shows-heard true (Refused wall cause number) from view p ls has e = absurd cc
shows-heard false (Refused wall cause number) from view p ls has e = absurd cc
shows-heard appends (KeyOps wall size t) from view p ls has e = absurd cc

heard-shows : (appends : Bool) (bytes : Text) (from : ℕ) (view : View) (p : Tree) (ls : List PrunedList)
    → IsBytes bytes
    → heard_of appends bytes ≡ Some (news view from p ls) → Shows view from p ls
unfolding heard_of
heard-shows appends bytes from view p ls are e =
    let read = bind_some (reply_of bytes) (heard_in appends) (news view from p ls) e in
    shows-heard appends read.0 from view p ls (reply-spelled read.0 bytes are read.1).is_reply.parts read.2

-- ---- what is taken

taken-is : (d : Digest) (known : Known) (asked : Asked) (bytes : Text) (view : View) (from : ℕ) (proof : Pruned)
    (leaves : List Leaf) (dicts : List PrunedDict)
    → IsBytes bytes → judged d known asked bytes ≡ Ok (taken view from (tree_view proof) leaves (map list_view dicts))
    → IsTaken d known view from proof leaves dicts
taken-is d known asked bytes view from proof leaves dicts are e =
    let says = (takes d known asked bytes view from (tree_view proof) leaves (map list_view dicts) e).says in
    let shown-is = heard-shows (is_append asked) bytes from view (tree_view proof)
    (map list_view dicts) are says.heard in
    let all = shown-from (tree_view proof) view.size from shown-is.tree_is says.accepted.some says.accepted.shows in
    record {
      view_is = subst (λ (w : ℕ). IsView w view) says.wall shown-is.view_is;
      accepted = says.accepted;
      spelled = shown-is.tree_is;
      leaves_are = says.leaves_are;
      lists = sym (length-map dicts list_view) ∙ (shown-is.lists_are ∙ (sym all.many
          ∙ ap length (sym says.leaves_are)));
      in_range = subst (AllByRecursion IsLeaf) (sym says.leaves_are)
          (all-places IsLeaf (leaves_from (tree_view proof) view.size from) (λ i l at. (all.each i l at).is_leaf));
    }

-- What a check takes is sound.
pub sound : (d : Digest) (known : Known) (asked : Asked) (bytes : Text) (checked : Checked) → IsBytes bytes
    → judged d known asked bytes ≡ Ok (checked_view checked) → IsSound d known checked
sound d known asked bytes (answers.Same size) are e = tt
sound d known asked bytes (answers.Taken view from proof leaves dicts) are e = taken-is d known asked bytes view
    from proof leaves dicts are e
sound d known asked bytes (answers.Refused cause number) are e = tt

-- ---- changes of the access list

some-leaf : (t : Text) → HoldsLeaves (leaf t) → AllByRecursion IsLeaf (with_some (leaf_of t) [])
unfolding HoldsLeaves
some-leaf t h = subst (λ (o : Option Leaf). AllByRecursion IsLeaf (with_some o [])) (sym (leaf_again t h.0 h.1))
    (h.1.is_leaf, tt)

leaves-in : (p : Tree) → HoldsLeaves p → AllByRecursion IsLeaf (leaves_in p)
unfolding leaves_in HoldsLeaves
leaves-in (hidden x) h = tt
leaves-in (leaf t) h = some-leaf t h
leaves-in (node l r) h = each-append IsLeaf (leaves_in l) (leaves_in r) (leaves-in l h.0) (leaves-in r h.1)
leaves-in (single l) h = leaves-in l h

pub numbered : (ls : List Leaf) → AllByRecursion IsLeaf ls → AllByRecursion IsNumbered (changes_of ls)
numbered [] h = tt
numbered (l ∷ ls) h = by (is_change l.op.kind) refl (numbered ls h.1)
  where
    by : (b : Bool) → is_change l.op.kind ≡ b → AllByRecursion IsNumbered (changes_of ls)
        → AllByRecursion IsNumbered (if b then l.op ∷ changes_of ls else changes_of ls)
    by true e rest = (record { change = e; number = h.0.op.seq.1 }, rest)
    by false e rest = rest

keys-tree : (reply : Reply) (k : KeysHeard) → HasParts reply → keys_in reply ≡ Some k → HoldsLeaves k.tree
keys-tree (Show v f t ts) k has e = absurd cc
keys-tree (Refused wall cause number) k has e = absurd cc
keys-tree (KeyOps wall size t) k has e =
    let read = bind_some (tree_of t) (λ q. Some (record { wall = wall; size = size; tree = q })) k e in
    let it : record { wall = wall; size = size; tree = read.0 } ≡ k = let f = read.2 in cc in
    subst (λ (x : KeysHeard). HoldsLeaves x.tree) it (read-tree t read.0 has.1.1.1 read.1)

keys-heard : (bytes : Text) (k : KeysHeard) → IsBytes bytes → keys_heard_of bytes ≡ Some k → HoldsLeaves k.tree
unfolding keys_heard_of
keys-heard bytes k are e =
    let read = bind_some (reply_of bytes) keys_in k e in
    keys-tree read.0 k (reply-spelled read.0 bytes are read.1).is_reply.parts read.2

-- the changes of a reply that is taken are numbered
pub keys-numbered : (d : Digest) (known : Known) (bytes : Text) (changes : List Op) → IsBytes bytes
    → keys_judged d known bytes ≡ Ok changes
    → AllByRecursion IsNumbered changes
unfolding keys_judged
keys-numbered d known bytes changes are e = by (keys_heard_of bytes) refl e
  where
    by-verdict : (k : KeysHeard) (v : Option Verdict) → HoldsLeaves k.tree
        → changes_or (changes_of (leaves_in k.tree)) v ≡ Ok changes → AllByRecursion IsNumbered changes
    by-verdict k None h e' =
        let same : changes_of (leaves_in k.tree) ≡ changes = cc in
        subst (AllByRecursion IsNumbered) same (numbered (leaves_in k.tree) (leaves-in k.tree h))
    by-verdict k (Some v) h e' = absurd cc

    by : (o : Option KeysHeard) → keys_heard_of bytes ≡ o → keys_judged_heard d known o ≡ Ok changes
        → AllByRecursion IsNumbered changes
    by None same e' = absurd cc
    by (Some k) same e' = by-verdict k (keys_verdict d known k) (keys-heard bytes k are same) e'

pub sound-leaves : (d : Digest) (known : Known) (checked : Checked) → IsSound d known checked → ShowsLeaves checked
sound-leaves d known (answers.Same size) is = tt
sound-leaves d known (answers.Taken view from proof leaves dicts) is = is.in_range
sound-leaves d known (answers.Refused cause number) is = tt
