-- What is heard of the bytes of an honest reply.
use Rattle.std.proofs.Common.{◌≡◌, ℕ, zero, suc, ◌<◌, ◌^◌, Bool, true, List, [], ◌∷◌, length, take, drop, map, Some, None, refl, ap, subst, ◌∙◌, arith}
use Rattle.std.specs.Prelude.{is_some, if◌then◌else◌}
use Rattle.std.specs.List.{AllByRecursion}
use Rattle.std.proofs.lemmas.Bool.{lt-ltb, le-ltb}
use Rattle.fr_bytes.specs.Bytes.{Text}
use Rattle.fr_bytes.specs.Reading.{◌>>=◌}
use Rattle.fr_bytes.proofs.Formats.{all_again}
use Rattle.fr_digest.specs.Digest.{Digest}
use Rattle.op_types.specs.declared.op.Leaf.{Leaf}
use Rattle.op_types.specs.declared.view.View.{View}
use Rattle.op_types.specs.Spelling.{IsLeaf, leaf_text}
use Rattle.op_types.proofs.Ops.{leaf_again}
use Rattle.tree_model.specs.History.{depth}
use Rattle.hist_proof.specs.Pruned.{Tree, hidden, leaf, node, single, Prunes, PrunesAt}
use Rattle.hist_proof.specs.Spelling.{pruned_at, pruned_format, tree_text}
use Rattle.hist_proof.specs.Spelling as trees
use Rattle.hist_proof.proofs.Spellings.{exact_pruned}
use Rattle.pruned_list.specs.PrunedList.{PrunedList}
use Rattle.dict_proof.specs.Spelling.{dict_at, dict_format, list_text}
use Rattle.dict_proof.specs.Spelling as dicts
use Rattle.dict_proof.proofs.Spellings.{exact_dict}
use Rattle.msg_form.specs.declared.message.Reply.TheVariants.{Show, Refused}
use Rattle.msg_form.specs.Messages.{SpellsReply}
use Rattle.msg_form.proofs.Spellings.{reply-read}
use Rattle.check_rules.specs.Heard.{bare, news, refused, heard_in, heard_of, holds_leaves, leaf_of, lists_of, tree_of}
use Rattle.honest_replies.specs.HonestNews.{texts_of}
use Rattle.honest_replies.specs.HonestReply.{SpellsBare, SpellsNews}
use Rattle.honest_replies.proofs.Shown.{and-true}

-- ---- leaves in the tree

abbrev AreLeaves : List Text → Type 0
AreLeaves M = AllByRecursion (λ (t : Text). is_some (leaf_of t) ≡ true) M

are-leaves : (L : List Leaf) → AllByRecursion IsLeaf L → AreLeaves (texts_of L)
are-leaves [] each = tt
are-leaves (l ∷ ls) each =
    (ap (λ o. is_some o) (leaf_again (leaf_text l) l (record { is_leaf = each.0; text = refl })), are-leaves ls each.1)

first-leaves : (n : ℕ) (M : List Text) → AreLeaves M → AreLeaves (take n M)
first-leaves zero M each = tt
first-leaves (suc n) [] each = tt
first-leaves (suc n) (t ∷ ts) each = (each.0, first-leaves n ts each.1)

other-leaves : (n : ℕ) (M : List Text) → AreLeaves M → AreLeaves (drop n M)
other-leaves zero M each = each
other-leaves (suc n) [] each = tt
other-leaves (suc n) (t ∷ ts) each = other-leaves n ts each.1

holds-at : (d : Digest) (j : ℕ) (p : Tree) (M : List Text) → PrunesAt d j p M → AreLeaves M → holds_leaves p ≡ true
unfolding PrunesAt holds_leaves
holds-at d zero (hidden x) M prunes each = refl
holds-at d zero (leaf t) M prunes each = (subst AreLeaves prunes each).0
holds-at d zero (node l r) M prunes each = absurd prunes
holds-at d zero (single l) M prunes each = absurd prunes
holds-at d (suc j) (hidden x) M prunes each = refl
holds-at d (suc j) (leaf t) M prunes each = absurd prunes
holds-at d (suc j) (node l r) M prunes each = and-true (holds_leaves l) (holds_leaves r)
    (holds-at d j l (take (2 ^ j) M) prunes.1 (first-leaves (2 ^ j) M each))
    (holds-at d j r (drop (2 ^ j) M) prunes.2 (other-leaves (2 ^ j) M each))
holds-at d (suc j) (single l) M prunes each = holds-at d j l M prunes.1 each

-- ---- trees and lists

pub tree-read : (d : Digest) (tree : Tree) (L : List Leaf) → trees.IsSpelled tree → Prunes d tree (texts_of L)
    → AllByRecursion IsLeaf L → tree_of (tree_text tree) ≡ Some tree
tree-read d tree L is prunes each =
    ap (λ o. o >>= (λ p. if holds_leaves p then Some p else None)) (all_again pruned_format exact_pruned tree is)
    ∙ ap (λ b. if b then Some tree else None)
    (holds-at d (depth (length (texts_of L))) tree (texts_of L) prunes.parts (are-leaves L each))

lists-read : (ps : List PrunedList) → AllByRecursion dicts.IsSpelled ps → lists_of (map list_text ps) ≡ Some ps
unfolding lists_of
lists-read [] each = refl
lists-read (p ∷ ps) each =
    ap (λ o. o >>= (λ list. lists_of (map list_text ps) >>= (λ ls. Some (list ∷ ls)))) (all_again dict_format exact_dict p each.0)
    ∙ ap (λ o. o >>= (λ ls. Some (p ∷ ls))) (lists-read ps each.1)

-- ---- replies

pub news-heard : (d : Digest) (L : List Leaf) (view : View) (from : ℕ) (tree : Tree) (ps : List PrunedList) (bytes : Text) (appends : Bool)
    → AllByRecursion IsLeaf L → Prunes d tree (texts_of L) → from < view.size → SpellsNews view from tree ps bytes
    → heard_of appends bytes ≡ Some (news view from tree ps)
unfolding heard_of
news-heard d L view from tree ps bytes appends each prunes some is =
    ap (λ o. o >>= heard_in appends) (reply-read (Show view from (tree_text tree) (map list_text ps)) bytes is.text)
    ∙ ap (λ b. if b
    then tree_of (tree_text tree) >>= (λ p. lists_of (map list_text ps) >>= (λ ls. Some (news view from p ls)))
    else Some (bare view)) (lt-ltb from view.size some)
    ∙ ap (λ o. o >>= (λ p. lists_of (map list_text ps) >>= (λ ls. Some (news view from p ls))))
    (tree-read d tree L is.tree_is prunes each)
    ∙ ap (λ o. o >>= (λ ls. Some (news view from tree ls))) (lists-read ps is.lists_are)

pub bare-heard : (view : View) (bytes : Text) (appends : Bool) → SpellsBare view bytes
    → heard_of appends bytes ≡ Some (bare view)
unfolding heard_of
bare-heard view bytes appends is =
    ap (λ o. o >>= heard_in appends) (reply-read (Show view view.size [] []) bytes is)
    ∙ ap (λ b. if b
    then tree_of [] >>= (λ p. lists_of [] >>= (λ ls. Some (news view view.size p ls)))
    else Some (bare view)) (le-ltb view.size view.size (omega arith))

pub refusal-heard : (wall cause number : ℕ) (bytes : Text) → SpellsReply (Refused wall cause number) bytes
    → heard_of true bytes ≡ Some (refused wall cause number)
unfolding heard_of
refusal-heard wall cause number bytes is =
    ap (λ o. o >>= heard_in true) (reply-read (Refused wall cause number) bytes is)
