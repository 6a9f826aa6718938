-- Which streams of which keys the wraps of a plan use.
use Rattle.std.specs.Prelude.{◌≡◌, ℕ, ◌/◌, ◌^◌, ◌<◌, true, List, [], ◌∷◌, Some, slice_get}
use Rattle.op_types.specs.declared.kind.Wrap.{Wrap}
use Rattle.key_graph.specs.declared.change.Change.{Change}
use Rattle.key_graph.specs.declared.change.Setting.{Setting}
use Rattle.key_graph.specs.KeyTree.{Plan, after, fits, wrap_stream, wraps_of}
use Rattle.key_graph.specs.Reach.{KeyName, named}

-- a key, and the number of one of its streams
pub record Use : Type 0 where
  pub key : KeyName
  pub stream : ℕ

-- Each of these changes fitted when it was followed.
abbrev pub AreFit : ℕ → List Change → Type 0
AreFit t [] = Unit {0}
AreFit t (c ∷ cs) = (fits t cs c.slot c.what ≡ true) × AreFit t cs

-- A plan over changes that fitted, in this generation, with this slot and these wraps.
pub record IsPlan (setting : Setting) (g slot : ℕ) (wraps : List Wrap) (p : Plan) : Type 0 where
  pub fit : AreFit setting.depth (after p)
  pub within : p.change.slot < 2 ^ setting.depth
  pub generation : p.change.generation ≡ g
  pub slot_is : p.change.slot ≡ slot
  pub wraps_are : wraps_of setting p ≡ wraps

-- The i-th wrap of a plan uses the stream of its parent, in the plan's generation, of the key that it names.
pub record WrapUses (setting : Setting) (p : Plan) (i : ℕ) (u : Use) : Type 0 where
  pub wrap : Wrap
  pub there : slice_get (wraps_of setting p) i ≡ Some wrap
  pub key : named setting p wrap ≡ Some u.key
  pub stream : u.stream ≡ wrap_stream (wrap.child / 2) p.change.generation
