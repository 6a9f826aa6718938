-- What a stretch of a run does to one user's seat at a wall, and to one wire. d is the digest of strings.
use Rattle.std.specs.Prelude.{◌≡◌, ℕ, ◌≤◌, Bool, true, List, [], ◌∷◌, ◌++◌, map, Some, None, fold}
use Rattle.std.specs.List.{AllByRecursion, AllZip}
use Rattle.fr_bytes.specs.History.{Begins}
use Rattle.fr_digest.specs.Digest.{Digest}
use Rattle.fr_edges.specs.Faults.{Rose}
use Rattle.fr_edges.specs.Sink.{with_more}
use Rattle.fr_edges.specs.Wire.{WireView}
use Rattle.op_types.specs.declared.op.Leaf.{Leaf}
use Rattle.hall_core.specs.declared.facts.WallFacts.{WallFacts}
use Rattle.hall_core.specs.Calls.{Turn, turns}
use Rattle.session_laws.specs.Doing.{Exchange}
use Rattle.hall_server.specs.HonestReplies.{Replies}
use Rattle.hall_server.specs.Sights.{Sight}

-- ---- seats

-- An exchange asks what a turn asked, and carries the reply to it.
pub record Serves (d : Digest) (facts : WallFacts) (x : Exchange) (t : Turn) : Type 0 where
  pub asks : t.call.ask ≡ x.ask
  pub replies : Replies d facts x.request t.left t.call.answer x.carried.reply

-- the leaves after the last of these turns
abbrev pub last_left : List Leaf → List Turn → List Leaf
last_left before ts = fold (λ (leaves : List Leaf) (t : Turn). t.left) before ts

-- The seat has seen more, its own new entries are the turns of these exchanges, and its snapshot is that of the last one.
pub record SeatHalf (d : Digest) (user : ℕ) (before now : Sight) (xs : List Exchange) : Type 0 where
  pub kept : now.facts ≡ before.facts
  pub begins : Begins before.front now.front
  pub news : List Turn
  pub turned : turns d before.facts user now.front ≡ turns d before.facts user before.front ++ news
  pub served : AllZip (Serves d before.facts) xs news
  pub shown : now.leaves ≡ last_left before.leaves news

-- ---- wires

-- A straight wire delivers the reply.
abbrev pub Delivery : Bool → Exchange → Type 0
Delivery straight x = straight ≡ true → x.carried.delivered ≡ Some x.carried.reply

-- The count of faults never fell, and rose in each exchange that delivered nothing.
abbrev pub Counts : ℕ → List Exchange → ℕ → Type 0
Counts before [] now = before ≤ now
Counts before (x ∷ xs) now = (before ≤ x.faults) × (x.carried.delivered ≡ None → Rose before x.faults)
    × Counts x.faults xs now

-- The wire carried these exchanges and nothing else.
pub record WireHalf (before now : WireView) (xs : List Exchange) : Type 0 where
  pub straight : now.straight ≡ before.straight
  pub carried : now.carried ≡ with_more before.carried (map (λ (x : Exchange). x.carried) xs)
  pub through : AllByRecursion (Delivery before.straight) xs
  pub counted : Counts before.faults xs now.faults
