-- The elements of a list, read one after the other.
use Rattle.std.specs.Prelude.{List, [], ◌∷◌, ◌++◌, ⊤, Ok}
use Rattle.serde_json.specs.Data.{Data, Items, no_items, item}
use Rattle.script_read.specs.Refusal.{Checked, ◌>>=◌}

-- each element behind those that were read before
abbrev pub each : {A : Type 0} → (List A → Data → Checked A) → List A → Items → Checked (List A)
each one done no_items = Ok done
each one done (item d ds) = do
  x ← one done d
  each one (done ++ x ∷ []) ds

-- an element that is read alike whatever stands before it
abbrev pub alone : {A : Type 0} → (Data → Checked A) → List A → Data → Checked A
alone one before d = one d

-- a test of each element
abbrev pub every : {A : Type 0} → (A → Checked ⊤) → List A → Checked ⊤
every one [] = Ok tt
every one (x ∷ xs) = do
  passed ← one x
  every one xs
