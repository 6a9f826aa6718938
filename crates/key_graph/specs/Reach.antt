-- Key runs, and which keys a user reaches.
use Rattle.std.specs.Prelude.{◌≡◌, ℕ, ◌-◌, ◌/◌, ◌^◌, ◌<◌, ◌⊎◌, true, List, [], ◌∷◌, ◌++◌, length, drop, Option, Some, Ok, nat_lt, if◌then◌else◌, option_map}
use Rattle.op_types.specs.declared.kind.Wrap.{Wrap}
use Rattle.key_graph.specs.declared.change.Setting.{Setting}
use Rattle.key_graph.specs.declared.change.Member.{Member}
use Rattle.key_graph.specs.declared.change.Change.{Change}
use Rattle.key_graph.specs.KeyTree.{is_below, holder, is_held, Plan, after, wraps_of, Tree, planned}

-- x is an element of the list
abbrev pub Among : {X : Type 0} → X → List X → Type 0
Among x [] = ⊥
Among x (y ∷ ys) = (x ≡ y) ⊎ Among x ys

-- ---- who is a member

-- a slot of the tree that is the user's
pub record HasSlot (t : ℕ) (cs : List Change) (u s : ℕ) : Type 0 where
  pub within : s < 2 ^ t
  pub held : is_held (Some u) (holder cs s) ≡ true

abbrev pub IsMember : ℕ → List Change → ℕ → Type 0
IsMember t cs u = (s : ℕ) × HasSlot t cs u s

-- the user has a slot below the node
abbrev pub HasSlotBelow : ℕ → List Change → ℕ → ℕ → Type 0
HasSlotBelow t cs x u = (s : ℕ) × HasSlot t cs u s × (is_below t x s ≡ true)

-- ---- key runs

-- a plan that was made, or a change that was followed, with the change's generation and slot
pub data Event : Type 0 where
  plan : Change → Event
  follow : Change → Event

-- the changes that were followed, newest first
abbrev pub followed : List Event → List Change
followed [] = []
followed (plan c ∷ es) = followed es
followed (follow c ∷ es) = c ∷ followed es

-- the plans that were made, also those that were never followed
abbrev pub plans : List Event → List Plan
plans [] = []
plans (plan c ∷ es) = record { change = c; before = followed es } ∷ plans es
plans (follow c ∷ es) = plans es

-- the generations of the changes, the oldest first
abbrev pub generations : List Change → List ℕ
generations [] = []
generations (c ∷ cs) = generations cs ++ c.generation ∷ []

-- the tree after a key run
abbrev pub tree_of : Setting → List Event → Tree
tree_of setting es = record { setting = setting; followed = followed es; epochs = generations (followed es) }

-- the generation is positive, and greater than all that were planned before
abbrev pub Rises : ℕ → List Event → Type 0
Rises g [] = 0 < g
Rises g (plan c ∷ es) = (c.generation < g) × Rises g es
Rises g (follow c ∷ es) = Rises g es

-- the change was planned, and none was followed since
abbrev pub IsOpen : Change → List Event → Type 0
IsOpen c [] = ⊥
IsOpen c (plan d ∷ es) = (c ≡ d) ⊎ IsOpen c es
IsOpen c (follow d ∷ es) = ⊥

-- the change has the slot that the tree plans for it, after these events
abbrev pub IsPlanned : Setting → Change → List Event → Type 0
IsPlanned setting c es =
    planned (tree_of setting es) c.generation c.what ≡ Ok (c.slot, wraps_of setting (record { change = c; before = followed es }))

-- A key run of one tree, newest first: each plan is what the tree then answers, planned generations are positive and
-- rise, and a change is followed as it was planned, where none was followed since.
abbrev pub IsRun : Setting → List Event → Type 0
IsRun setting [] = Unit {0}
IsRun setting (plan c ∷ es) = IsPlanned setting c es × Rises c.generation es × IsRun setting es
IsRun setting (follow c ∷ es) = IsOpen c es × IsRun setting es

-- ---- which keys a user reaches

pub data KeyName : Type 0 where
  -- a user's leaf key
  leaf : ℕ → KeyName
  -- the key of an inner node in a generation
  inner : ℕ → ℕ → KeyName

-- the key that a wrap of a plan names as its child's: of a slot, the leaf key of who holds it after the plan
abbrev pub named : Setting → Plan → Wrap → Option KeyName
named setting p w =
    if nat_lt w.child (2 ^ setting.depth)
    then Some (inner w.child w.child_gen)
    else option_map (λ (member : Member). leaf member.user) (holder (after p) (w.child - 2 ^ setting.depth))

-- The keys that a user reaches by these plans: the least set that has the user's leaf key, and that has a parent's key
-- in the plan's generation whenever it has the key that a wrap of the plan names as its child's.
pub data Reach (setting : Setting) (ps : List Plan) (u : ℕ) : KeyName → Type 0 where
  own : Reach setting ps u (leaf u)
  opens : (p : Plan) (w : Wrap) (k : KeyName) → Among p ps → Among w (wraps_of setting p) → named setting p w ≡ Some k
      → Reach setting ps u k → Reach setting ps u (inner (w.child / 2) p.change.generation)

-- the changes up to an epoch: the oldest ones, as many as its number
abbrev pub changes_at : ℕ → List Change → List Change
changes_at e cs = drop (length cs - e) cs
