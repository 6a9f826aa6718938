-- What a change of a pruned list answers.
use Rattle.std.specs.Prelude.{◌≡◌, Option, None, Some, Result, Ok, Err}
use Rattle.pruned_list.specs.PrunedList.{PrunedList}
use Rattle.dict_proof.specs.declared.pruned_dict.PrunedDict.{PrunedDict}
use Rattle.dict_proof.specs.declared.change.DictEnd.{DictEnd}
use Rattle.dict_proof.specs.declared.change.DictEnd.TheVariants as ends
use Rattle.dict_proof.specs.View.{list_view}

-- It is what the change leaves, and Hid exactly where that would enter a hidden part. Want of memory is free.
abbrev pub Leaves : Result PrunedDict DictEnd → Option PrunedList → Type 0
Leaves (Ok q) left = left ≡ Some (list_view q)
Leaves (Err ends.Hid) left = left ≡ None
Leaves (Err ends.NoMemory) left = Unit {0}
