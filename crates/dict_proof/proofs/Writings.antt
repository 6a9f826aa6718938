-- The spelling of a pruned list, piece by piece.
use Rattle.std.proofs.Common.{◌≡◌, [], ◌∷◌, ◌++◌, refl, append_assoc}
use Rattle.fr_bytes.specs.Bytes.{Text}
use Rattle.tree_model.specs.declared.entry.Entry.{Entry}
use Rattle.pruned_list.specs.PrunedList.{PrunedList, absent, hidden, node}
use Rattle.dict_proof.specs.declared.limits.TheConstants.{HIDDEN_TAG, ENTRY_TAG}
use Rattle.dict_proof.specs.Spelling.{entry_text, flags_of, head_text, list_text}
use Rattle.dict_proof.proofs.Views.{list_views}

pub list_text-absent : list_text absent ≡ []
unfolding list_text
list_text-absent = refl

pub list_text-hidden : (x : Text) → list_text (hidden x) ≡ HIDDEN_TAG ∷ x
unfolding list_text
list_text-hidden x = refl

pub list_text-node : (e : Entry) (l r : PrunedList)
    → list_text (node e l r) ≡ head_text e l r ++ (list_text l ++ list_text r)
unfolding list_text
list_text-node e l r = refl

pub put-node : (old : Text) (e : Entry) (l r : PrunedList)
    → ((old ++ head_text e l r) ++ list_text l) ++ list_text r ≡ old ++ list_text (node e l r)
unfolding list_text
put-node old e l r =
    rw (append_assoc (old ++ head_text e l r) (list_text l) (list_text r), append_assoc old (head_text e l r) (list_text l ++ list_text r)) refl

pub put-head : (old : Text) (e : Entry) (l r : PrunedList)
    → (old ++ (ENTRY_TAG ∷ entry_text e)) ++ (flags_of l r ∷ []) ≡ old ++ head_text e l r
put-head old e l r = append_assoc old (ENTRY_TAG ∷ entry_text e) (flags_of l r ∷ [])

pub ruleset writing_steps = (put-head)

pub ruleset list_texts = (list_views, list_text-absent, list_text-hidden, put-node)
