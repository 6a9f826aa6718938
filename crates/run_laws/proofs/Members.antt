-- Who has a slot of the key tree of a lawful wall.
use Rattle.std.proofs.Common.{◌≡◌, ℕ, ◌+◌, ◌^◌, List, length, Some, None, arith}
use Rattle.std.specs.Prelude.{◌↔◌}
use Rattle.std.specs.List.{AllByRecursion}
use Rattle.fr_bytes.specs.Bytes.{Text}
use Rattle.fr_digest.specs.Digest.{Digest}
use Rattle.op_types.specs.declared.op.Leaf.{Leaf}
use Rattle.op_types.specs.Spelling.{IsLeaf}
use Rattle.tree_model.specs.declared.entry.Entry.{Entry}
use Rattle.tree_model.specs.AccessList.{entry_of}
use Rattle.wall_law.specs.Lawful.{Lawful}
use Rattle.wall_law.specs.State.{state_of}
use Rattle.key_graph.specs.declared.change.Change.{Change}
use Rattle.key_graph.specs.declared.change.Setting.{Setting}
use Rattle.key_graph.specs.KeyTree.{free_slot, slot_of}
use Rattle.key_graph.specs.Reach.{IsMember, IsRun}
use Rattle.check_rules.specs.Shown.{changes_of}
use Rattle.run_laws.specs.Keyed.{AreKeyed, changes_by, events_by}
use Rattle.run_laws.proofs.Slots.{full-of, no-slot-of}
use Rattle.run_laws.proofs.KeyRuns.{runs, stands}
use Rattle.run_laws.proofs.Standings.{Standing}

-- A user whom the access list names.
pub record IsNamed (owner : ℕ) (L : List Leaf) (u : ℕ) : Type 0 where
  pub entry : Entry
  pub there : entry_of (state_of owner L).entries u ≡ Some entry

module _ (d : Digest) (owner wall : ℕ) (setting : Setting) (secrets : List (ℕ × Text)) (L : List Leaf)
    (lawful : Lawful d owner wall L) (keyed : AreKeyed setting secrets L) where
  abbrev made : List Change
  made = changes_by setting secrets (changes_of L)

  standing : Standing setting.depth owner (state_of owner L).entries made
  standing = stands setting secrets d owner wall L lawful keyed

  -- Nobody is admitted as a further owner where each leaf has a spelling.
  pub run : AllByRecursion IsLeaf L → IsRun setting (events_by setting secrets (changes_of L))
  run spelled = (runs setting secrets d owner wall L lawful keyed spelled).run

  -- each named user other than the owner has a slot, and no one else
  pub members : (u : ℕ) → IsMember setting.depth (changes_by setting secrets (changes_of L)) u
      ↔ ((u ≡ owner → ⊥) × IsNamed owner L u)
  members u = (
    λ member. (let is = (standing.named u).0 member in (is.0, record { entry = is.1.0; there = is.1.1 })),
    λ is. (standing.named u).1 (is.0, (is.1.entry, is.1.there)),
  )

  -- who has no slot is no member
  pub no-slot : (u : ℕ) → slot_of setting.depth (changes_by setting secrets (changes_of L)) u ≡ None
      ↔ (IsMember setting.depth (changes_by setting secrets (changes_of L)) u → ⊥)
  no-slot u = no-slot-of setting.depth made u

  -- no slot is free where all have members
  pub full : free_slot setting.depth (changes_by setting secrets (changes_of L)) ≡ None
      ↔ (length (state_of owner L).entries ≡ 2 ^ setting.depth + 1)
  full =
      let count = standing.count in
      let law = full-of setting.depth made in (
        λ none. (let all = law.0 none in omega arith),
        λ all. law.1 (omega arith),
      )
