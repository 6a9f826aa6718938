-- Pruned lists that prune a set.
use Rattle.std.proofs.Common.{◌≡◌, ◌≢◌, ◌∙◌, ℕ, List, None, Some, Result, Ok, Err, sym, ap, inl, inr, ◌⊎◌, refl}
use Rattle.std.specs.Prelude.{IfOk}
use Rattle.fr_digest.specs.Digest.{Digest}
use Rattle.tree_model.specs.declared.entry.Entry.{Entry}
use Rattle.tree_model.specs.AccessList.{FitsChange, IsListed, IsRising, ListChange, adds, changed_set, drops, entry_of, stays}
use Rattle.pruned_list.specs.PrunedList.{PrunedList, PrunesDict, Sought, changed, found, hid, seek}
use Rattle.pruned_list.proofs.Prunings.{seek-finds}
use Rattle.pruned_list.proofs.Changes.{changed-prunes}
use Rattle.dict_proof.specs.declared.change.DictEnd.{DictEnd}
use Rattle.dict_proof.specs.declared.pruned_dict.PrunedDict.{PrunedDict}
use Rattle.dict_proof.specs.Keeping.{KeepsAuthor}
use Rattle.dict_proof.specs.View.{list_view}

found_or_hid : (s : Sought) (E : List Entry) (u : ℕ) → ((o : _) → s ≡ found o → entry_of E u ≡ o)
    → (s ≡ hid) ⊎ (s ≡ found (entry_of E u))
found_or_hid hid E u finds = inl refl
found_or_hid (found o) E u finds = inr (ap (λ x. found x) (sym (finds o refl)))

-- a search finds what the set has, or meets a hidden part
pub finds : (d : Digest) (p : PrunedList) (E : List Entry) (u : ℕ) → IsRising E → PrunesDict d p E
    → (seek p u ≡ hid) ⊎ (seek p u ≡ found (entry_of E u))
finds d p E u rising prunes = found_or_hid (seek p u) E u (λ o is. seek-finds d p E u o rising prunes.parts is)

listed_met : (d : Digest) (p : PrunedList) (E : List Entry) (u : ℕ) → IsRising E → PrunesDict d p E → IsListed E u
    → seek p u ≢ found None
listed_met d p E u rising prunes listed none =
    let is = sym listed.1 ∙ seek-finds d p E u None rising prunes.parts none in cc

-- an operation that fits the set keeps its author
pub keeps : (d : Digest) (p : PrunedList) (E : List Entry) (author : ℕ) (change : ListChange) → IsRising E
    → PrunesDict d p E → FitsChange E author change → KeepsAuthor p author change
keeps d p E author stays rising prunes fits = tt
keeps d p E author (adds e) rising prunes fits = tt
keeps d p E author (drops user) rising prunes fits = (fits.2, listed_met d p E author rising prunes fits.0)

-- what is left of a pruning prunes the set that the operation leaves
pub left_prunes : (d : Digest) (p : PrunedList) (E : List Entry) (author next : ℕ) (change : ListChange)
    (result : Result PrunedDict DictEnd) → IfOk result (λ q. changed p author next change ≡ Some (list_view q))
    → IsRising E → FitsChange E author change → PrunesDict d p E
    → IfOk result (λ q. PrunesDict d (list_view q) (changed_set E author next change))
left_prunes d p E author next change (Ok q) value rising fits prunes =
    changed-prunes d p E author next change (list_view q) rising fits prunes value
left_prunes d p E author next change (Err e) value rising fits prunes = tt
