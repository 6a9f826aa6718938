-- Lists of entries that may be absent: None stands for the list without entries.
use Rattle.std.specs.Prelude.{List, [], ◌∷◌, Option, Some, None}
use Rattle.tree_model.specs.declared.entry.Entry.{Entry}

-- the list, where it has an entry
abbrev pub where_some : List Entry → Option (List Entry)
where_some [] = None
where_some (e ∷ es) = Some (e ∷ es)
