-- A user's commands at an honest wall, over straight wires. d is the digest of strings.
use Rattle.std.specs.Prelude.{◌≡◌, ℕ, List, [], ◌∷◌, Some}
use Rattle.std.specs.List.{AllByRecursion, AllZip}
use Rattle.fr_digest.specs.Digest.{Digest}
use Rattle.op_types.specs.declared.op.Leaf.{Leaf}
use Rattle.op_types.specs.Spelling.{IsLeaf}
use Rattle.honest_replies.specs.HonestReply.{FewEntries}
use Rattle.hall_core.specs.declared.ask.Called.{Called}
use Rattle.hall_core.specs.declared.facts.WallFacts.{WallFacts}
use Rattle.hall_core.specs.Calls.{LegalFrom, play_from, turns_from}
use Rattle.hall_core.specs.Honest.{IsHonest}
use Rattle.session_laws.specs.Doing.{Exchange, Heard, PlainClient, after, dids, exchanges_of, last, on}
use Rattle.session_laws.specs.Halves.{Serves}
use Rattle.run_laws.specs.Following.{KeepsUp}
use Rattle.run_laws.specs.Telling.{TellsAll}

-- what was replied was delivered
abbrev pub IsStraight : Exchange → Type 0
IsStraight x = x.carried.delivered ≡ Some x.carried.reply

-- A client's exchanges with a wall, for these commands.
abbrev pub exchanges_on : Digest → ℕ → PlainClient → List Heard → List Exchange
exchanges_on d wall c heards = on wall (exchanges_of (dids d c heards))

-- The calls on the wall are legal from these leaves on, which are an honest wall's; no state of the wall has more entries
-- than there may be users; the client follows these leaves; its exchanges with the wall are its user's turns; and all
-- that was replied to it was delivered.
pub record IsUntampered (d : Digest) (facts : WallFacts) (user : ℕ) (leaves : List Leaf) (calls : List Called)
    (c : PlainClient) (heards : List Heard) : Type 0 where
  pub legal : LegalFrom d facts leaves calls
  pub honest : IsHonest d facts leaves
  pub spelled : AllByRecursion IsLeaf (play_from d facts leaves calls)
  pub few : FewEntries facts.owner (play_from d facts leaves calls)
  pub follows : KeepsUp d facts leaves c
  pub served : AllZip (Serves d facts) (exchanges_on d facts.wall c heards) (turns_from d facts user leaves calls)
  pub straight : AllByRecursion IsStraight (exchanges_on d facts.wall c heards)

-- A client that follows these leaves before each of its commands, and behind the last one.
abbrev pub KeepsAlong : Digest → WallFacts → List Leaf → PlainClient → List Heard → Type 0
KeepsAlong d facts L c [] = KeepsUp d facts L c
KeepsAlong d facts L c (h ∷ hs) = KeepsUp d facts L c × KeepsAlong d facts L (after d c h) hs

-- Each command ends by its turns, and the client follows the wall's last list.
pub record EndsWell (d : Digest) (facts : WallFacts) (user : ℕ) (leaves : List Leaf) (calls : List Called)
    (c : PlainClient) (heards : List Heard) : Type 0 where
  pub tells : TellsAll d facts c heards (turns_from d facts user leaves calls)
  pub follows : KeepsUp d facts (play_from d facts leaves calls) (last d c heards)
  pub along : KeepsAlong d facts (play_from d facts leaves calls) c heards
