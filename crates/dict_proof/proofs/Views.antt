-- What each value of the program stands for, by its kind.
use Rattle.std.proofs.Common.{◌≡◌, ◌∙◌, None, Some, sym, rules}
use Rattle.dict_proof.specs.declared.pruned_dict.PrunedDict as dict
use Rattle.dict_proof.specs.declared.pruned_dict.PrunedDict.{PrunedDict, fold_out-PrunedDict}
use Rattle.dict_proof.specs.declared.pruned_dict.PrunedDict.TheOpen.{PrunedDict-F}
use Rattle.pruned_list.specs.PrunedList.{PrunedList, absent, hidden, node}
use Rattle.dict_proof.specs.View.{list_step, list_view, part_view}

pub list_view-hidden : (x : _) → list_view (dict.Hidden x) ≡ hidden x
list_view-hidden x = search (rules, dict.the_lemmas)

pub list_view-node : (e l r : _) → list_view (dict.Node e l r) ≡ node e (part_view l) (part_view r)
list_view-node e None None = search (rules, dict.the_lemmas)
list_view-node e None (Some r) = search (rules, dict.the_lemmas)
list_view-node e (Some l) None = search (rules, dict.the_lemmas)
list_view-node e (Some l) (Some r) = search (rules, dict.the_lemmas)

pub ruleset list_views = (list_view-hidden, list_view-node)

-- ---- a list has an entry

step_some : (q : PrunedDict-F PrunedList) → list_step q ≡ absent → ⊥
step_some (PrunedDict-F.Hidden x) same = cc
step_some (PrunedDict-F.Node e l r) same = cc

pub list_view-some : (p : PrunedDict) → list_view p ≡ absent → ⊥
list_view-some p same = step_some _ (sym (fold_out-PrunedDict PrunedList list_step p) ∙ same)
