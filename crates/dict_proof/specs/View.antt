-- What the values of the program stand for.
use Rattle.std.specs.Prelude.{Box, None, Option, Some}
use Rattle.std.specs.Box.{box_value}
use Rattle.std.specs.declared.alloc.Global.{Global}
use Rattle.tree_model.specs.AccessList.{ListChange, stays, adds, drops}
use Rattle.pruned_list.specs.PrunedList.{PrunedList, absent, hidden, node, Sought, hid, found}
use Rattle.dict_proof.specs.declared.pruned_dict.PrunedDict.{PrunedDict, fold-PrunedDict}
use Rattle.dict_proof.specs.declared.pruned_dict.PrunedDict.TheOpen.{PrunedDict-F}
use Rattle.dict_proof.specs.declared.look_up.Found.{Found}
use Rattle.dict_proof.specs.declared.look_up.Found.TheVariants as founds
use Rattle.dict_proof.specs.declared.change.Change.{Change}
use Rattle.dict_proof.specs.declared.change.Change.TheVariants as changes

abbrev pub part_step : Option (Box PrunedList Global) → PrunedList
part_step None = absent
part_step (Some l) = box_value l

abbrev pub list_step : PrunedDict-F PrunedList → PrunedList
list_step (PrunedDict-F.Hidden x) = hidden x
list_step (PrunedDict-F.Node e l r) = node e (part_step l) (part_step r)

-- the pruned list
abbrev pub list_view : PrunedDict → PrunedList
list_view = fold-PrunedDict PrunedList list_step

-- the part below a node, or behind a change: it may have no entries
abbrev pub part_view : Option (Box PrunedDict Global) → PrunedList
part_view None = absent
part_view (Some l) = list_view (box_value l)

-- the parts of a split
abbrev pub parts_view : Option (Box PrunedDict Global) × Option (Box PrunedDict Global) → PrunedList × PrunedList
parts_view parts = (part_view parts.0, part_view parts.1)

-- what a look-up finds
abbrev pub sought_view : Found → Sought
sought_view (founds.Entry e) = found (Some e)
sought_view founds.Absent = found None
sought_view founds.Hid = hid

-- what an operation makes of the list
abbrev pub change_view : Change → ListChange
change_view changes.None = stays
change_view (changes.Insert e) = adds e
change_view (changes.Remove user) = drops user
