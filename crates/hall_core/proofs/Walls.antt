-- What a wall keeps of its leaves, and what it keeps with an operation more.
use Rattle.std.proofs.Common.{◌≡◌, ◌∙◌, ℕ, ◌+◌, ◌<◌, ◌≤◌, ◌^◌, Bool, ◌&&◌, List, [], ◌∷◌, ◌++◌, length, Option, sym, ap, subst, arith, length-append}
use Rattle.std.specs.Prelude.{map, Result, Ok, Err, OnOk, option_and_then}
use Rattle.std.specs.Str.{bytes_eq}
use Rattle.std.proofs.lemmas.Bool.{lt-ltb}
use Rattle.fr_bytes.specs.Bytes.{Text}
use Rattle.fr_bytes.specs.Parts.{IsLimited}
use Rattle.fr_bytes.proofs.Lists.{each-append}
use Rattle.fr_digest.specs.Digest.{Digest}
use Rattle.lms_tree.specs.Signer.{Signing, public_of}
use Rattle.lms_tree.specs.Valid.{Key, Valid}
use Rattle.op_types.specs.declared.op.Leaf.{Leaf}
use Rattle.op_types.specs.declared.op.Op.{Op}
use Rattle.op_types.specs.declared.view.View.{View}
use Rattle.op_types.specs.declared.limits.TheConstants.{VIEW_SIZE_MAX, SIGNATURE_BYTES_MAX}
use Rattle.op_types.specs.Kinds.{changed_user}
use Rattle.op_types.specs.Spelling.{IsDig, IsLeaf, view_signed}
use Rattle.tree_model.specs.declared.entry.Entry.{Entry}
use Rattle.tree_model.specs.AccessList.{dict, entry_of}
use Rattle.tree_model.specs.History.{root}
use Rattle.wall_law.specs.declared.refusal.LawRefusal.{LawRefusal}
use Rattle.wall_law.specs.declared.state.State.{State}
use Rattle.wall_law.specs.Law.{law, law_of}
use Rattle.wall_law.specs.Law as the_law
use Rattle.wall_law.specs.State.{after, state_of}
use Rattle.wall_law.proofs.Histories.{law-stands, state_of-snoc}
use Rattle.signed_ops.specs.Signed.{is_view_signed, once_more}
use Rattle.hall_core.specs.declared.facts.WallFacts.{WallFacts}
use Rattle.hall_core.specs.declared.item.Item.{Item}
use Rattle.hall_core.specs.PlainWall.{leaf_of, sees, texts_of, with_leaf}
use Rattle.hall_core.specs.Standing.{IsNext, IsViewOf, KeepsWall, Wall, item_of, item_with, items_of}
use Rattle.hall_core.proofs.Items.{history-leaves, history-texts, items-more, length-leaves}
use Rattle.hall_core.proofs.Refusals.{IsFree}

-- ---- what is kept, of the wall as contracts see it

pub kept : {D : Type 0} {d : Digest} {v w : Wall} {opened : List Entry} {now : State} {history : List (Item D)}
    {latest : View}
    → KeepsWall {D = D} d v opened now history latest → v ≡ w → KeepsWall {D = D} d w opened now history latest
kept {D} {d} {v} {w} {opened} {now} {history} {latest} keeps same =
    subst (λ (x : Wall). KeepsWall {D = D} d x opened now history latest) same keeps

-- ---- the law

pub law-found : (now s : State) (author changed : Option Entry) (wall wall' k k' : ℕ) (op : Op) → now ≡ s
    → author ≡ entry_of now.entries op.author
    → changed ≡ option_and_then (λ user. entry_of s.entries user) (changed_user op.kind)
    → wall ≡ wall' → k ≡ k' → law_of author changed now.epoch wall k op ≡ law s wall' k' op
unfolding law
law-found now s author changed wall wall' k k' op same a c w p =
    let found : author ≡ entry_of s.entries op.author = a ∙ ap (λ (t : State). entry_of t.entries op.author) same in
    λ i. law_of (found i) (c i) (same i).epoch (w i) (p i) op

pub early : (r : Result (Unit {0}) LawRefusal) (s : State) (wall k : ℕ) (op : Op)
    → the_law.refusal_of r ≡ law s wall k op
    → OnOk r (op.view.size ≤ k)
early (Ok done) s wall k op e = (law-stands s wall k op (sym e)).early_view
early (Err refusal) s wall k op e = tt

-- ---- embedded views

pub seen-by : (d : Digest) (facts : WallFacts) (leaves : List Leaf) (view : View) (x : Text) (same signed : Bool)
    → 0 < view.size
    → x ≡ root d (texts_of leaves) view.size → same ≡ bytes_eq x view.root → signed ≡ is_view_signed facts.server view
    → (same && signed) ≡ sees d facts leaves view
seen-by d facts leaves view x same signed some at equal by =
    let equals : same ≡ bytes_eq (root d (texts_of leaves) view.size) view.root =
    equal ∙ ap (λ (y : Text). bytes_eq y view.root) at in
    rw (lt-ltb 0 view.size some) (λ i. equals i && by i)

-- ---- an operation more

pub next-is : (D : Type 0) (d : Digest) (facts : WallFacts) (leaves : List Leaf) (op : Op)
    (history behind : List (Item D))
    (item : Item D) (list : List Entry) (epoch : ℕ) → history ≡ items_of facts.owner leaves
    → list ≡ (after (state_of facts.owner leaves) op).entries → epoch ≡ (after (state_of facts.owner leaves) op).epoch
    → item ≡ item_with (record { after = dict d list; epoch = epoch; op = op }) list → IsLeaf item.leaf
    → behind ≡ history ++ item ∷ [] → IsNext {D = D} d facts leaves op list epoch behind
next-is D d facts leaves op history behind item list epoch items list_is epoch_is item_is spelled behind_is =
    let s = state_of facts.owner leaves in
    let leaf_is : item ≡ item_of {D = D} s (leaf_of d s op) =
    item_is ∙ (λ i. item_with (record { after = dict d (list_is i); epoch = epoch_is i; op = op }) (list_is i)) in
    record {
      list_is = list_is;
      epoch_is = epoch_is;
      items = behind_is ∙ (λ i. items i ++ leaf_is i ∷ []) ∙ sym (items-more D facts.owner leaves (leaf_of d s op));
      spelled = subst IsLeaf (ap (λ (x : Item D). x.leaf) leaf_is) spelled;
    }

pub length-next : (D : Type 0) (d : Digest) (facts : WallFacts) (leaves : List Leaf) (op : Op) (list : List Entry)
    (epoch : ℕ)
    (history : List (Item D)) → IsNext {D = D} d facts leaves op list epoch history → length history ≡ length leaves + 1
length-next D d facts leaves op list epoch history next =
    sym (length-leaves D history)
    ∙ ap length (history-leaves D facts.owner (with_leaf d facts leaves op) history next.items)
    ∙ length-append leaves (leaf_of d (state_of facts.owner leaves) op ∷ [])

no-snoc : (leaves : List Leaf) (leaf : Leaf) → leaves ++ leaf ∷ [] ≡ [] → ⊥
no-snoc [] leaf e = cc
no-snoc (l ∷ leaves) leaf e = cc

-- a view that the server signed over the root of the leaves
pub record IsSignedOver (d : Digest) (facts : WallFacts) (leaves : List Leaf) (key : Key) (view : View) : Type 0 where
  pub wall : view.wall ≡ facts.wall
  pub size : view.size ≡ length leaves
  pub root_is : view.root ≡ root d (texts_of leaves) (length leaves)
  pub dig : IsDig view.root
  pub valid : Valid key (view_signed facts.wall (length leaves) view.root) view.sig
  pub short : IsLimited SIGNATURE_BYTES_MAX view.sig

-- the view of what the wall has with an operation more, as it was signed
pub signed-over : (D : Type 0) (d : Digest) (facts : WallFacts) (leaves : List Leaf) (op : Op) (list : List Entry)
    (epoch : ℕ)
    (history : List (Item D)) (key : Key) (size : ℕ) (top : Text) (view : View)
    → IsNext {D = D} d facts leaves op list epoch history
    → size ≡ length history → top ≡ root d (map (λ (item : Item D). item.text) history) size
    → (view.wall ≡ facts.wall) × (view.size ≡ size) × (view.root ≡ top) → IsDig view.root
    → Valid key (view_signed facts.wall size top) view.sig → IsLimited SIGNATURE_BYTES_MAX view.sig
    → IsSignedOver d facts (with_leaf d facts leaves op) key view
signed-over D d facts leaves op list epoch history key size top view next size_is top_is value dig valid short =
    let all = with_leaf d facts leaves op in
    let count : size ≡ length all =
    size_is ∙ sym (length-leaves D history) ∙ ap length (history-leaves D facts.owner all history next.items) in
    let texts = history-texts D facts.owner all history next.items in
    record {
      wall = value.0;
      size = value.1 ∙ count;
      root_is = value.2 ∙ top_is ∙ (λ i. root d (texts i) (count i));
      dig = dig;
      valid = subst (λ (message : Text). Valid key message view.sig)
          (λ i. view_signed facts.wall (count i) (sym value.2 i)) valid;
      short = short;
    }

-- such a view is one of the leaves
viewed : (d : Digest) (facts : WallFacts) (leaves : List Leaf) (leaf : Leaf) (key : Key) (view : View)
    → IsSignedOver d facts (leaves ++ leaf ∷ []) key view → facts.server ≡ key → length leaves < VIEW_SIZE_MAX
    → IsViewOf d facts (leaves ++ leaf ∷ []) view
viewed d facts leaves leaf key view over key_is room =
    let all : List Leaf = leaves ++ leaf ∷ [] in
    let count : length all ≡ length leaves + 1 = length-append leaves (leaf ∷ []) in
    let size = over.size in
    let some : 0 < view.size = omega arith in
    record {
      wall = over.wall;
      size = size;
      seen = λ seen. record {
        within = omega arith;
        same = over.root_is ∙ ap (λ (n : ℕ). root d (texts_of all) n) (sym size);
        signed = subst (λ (k : Key). Valid k (view_signed view.wall view.size view.root) view.sig) (sym key_is)
            (subst (λ (message : Text). Valid key message view.sig)
            (λ i. view_signed (sym over.wall i) (sym size i) view.root) over.valid);
      };
      none = λ empty. absurd (no-snoc leaves leaf empty);
      spelled = record {
        wall = over.wall;
        size = (omega arith, omega arith);
        signed = rw (lt-ltb 0 view.size some)
            (over.dig, over.short);
      };
    }

-- with an operation in whose way nothing stood, and a view of all leaves, a wall keeps what it is to keep
pub keeps-more : (D : Type 0) (d : Digest) (w : Wall) (opened : List Entry) (now : State)
    (history behind : List (Item D))
    (latest view : View) (op : Op) (list : List Entry) (epoch : ℕ) (signer : Signing)
    → KeepsWall {D = D} d w opened now history latest → IsFree d w.facts w.leaves op
    → IsNext {D = D} d w.facts w.leaves op list epoch behind → signer ≡ once_more w.signer
    → IsSignedOver d w.facts (with_leaf d w.facts w.leaves op) (public_of w.signer.private w.signer.id w.signer.pair)
    view
    → KeepsWall {D = D} d (record {
      facts = w.facts;
      leaves = map (λ (item : Item D). item.leaf) behind;
      signer =
          signer;
    })
    opened (record { entries = list; epoch = epoch }) behind view
keeps-more D d w opened now history behind latest view op list epoch signer keeps is_free next signer_is over =
    let leaf = leaf_of d (state_of w.facts.owner w.leaves) op in
    let all : List Leaf = w.leaves ++ leaf ∷ [] in
    let room = is_free.room in
    let used = keeps.used in
    let count : length all ≡ length w.leaves + 1 = length-append w.leaves (leaf ∷ []) in
    let keeps_all : KeepsWall {D = D} d (record { facts = w.facts; leaves = all; signer = once_more w.signer })
    opened (record { entries = list; epoch = epoch }) behind view = record {
      few = omega arith;
      opened_is = keeps.opened_is;
      now_is = (λ i. record { entries = next.list_is i; epoch = next.epoch_is i })
          ∙ sym (state_of-snoc w.facts.owner w.leaves leaf);
      items = next.items;
      viewed = viewed d w.facts w.leaves leaf _ view over keeps.key room;
      key = keeps.key;
      tall = keeps.tall;
      used = omega arith;
      spelled = each-append IsLeaf w.leaves (leaf ∷ []) keeps.spelled (next.spelled, tt);
    } in
    kept keeps_all (λ i. record {
      facts = w.facts;
      leaves = sym (history-leaves D w.facts.owner all behind next.items) i;
      signer = sym signer_is i;
    })

-- as contracts see it
abbrev as_wall : WallFacts → List Leaf → Signing → Wall
as_wall facts leaves signer = record { facts = facts; leaves = leaves; signer = signer }

pub placed-is : (D : Type 0) (d : Digest) (v w : Wall) (op : Op) (list : List Entry) (epoch : ℕ)
    (behind : List (Item D))
    (signer : Signing) → v ≡ w → IsNext {D = D} d w.facts w.leaves op list epoch behind → signer ≡ once_more v.signer
    → as_wall v.facts (map (λ (item : Item D). item.leaf) behind) signer
    ≡ as_wall w.facts (with_leaf d w.facts w.leaves op) (once_more w.signer)
placed-is D d v w op list epoch behind signer same next signer_is =
    let all = history-leaves D w.facts.owner (with_leaf d w.facts w.leaves op) behind next.items in
    let left : signer ≡ once_more w.signer = signer_is ∙ ap (λ (x : Wall). once_more x.signer) same in
    λ i. as_wall (same i).facts (all i) (left i)

-- a signer of height 10 that used as many leaves as a wall has, which isn't full, has leaves left
pub leaves-left : (used h count : ℕ) → used ≡ count → h ≡ 10 → count < VIEW_SIZE_MAX → used < 2 ^ h
leaves-left used h count used_is tall room =
    let all : 2 ^ h ≡ 1024 = ap (λ (n : ℕ). 2 ^ n) tall in
    omega arith
