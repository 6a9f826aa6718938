-- A run over straight wires, at one of the walls of an honest server. d is the digest of strings.
use Rattle.std.specs.Prelude.{ℕ, ◌≤◌, List, [], length}
use Rattle.std.specs.List.{AllByRecursion, AllZip}
use Rattle.fr_digest.specs.Digest.{Digest}
use Rattle.op_types.specs.Spelling.{IsLeaf}
use Rattle.hall_core.specs.declared.ask.Called.{Called}
use Rattle.hall_core.specs.declared.facts.WallFacts.{WallFacts}
use Rattle.hall_core.specs.Calls.{Legal, play, turns}
use Rattle.session_laws.specs.Doing.{Heard, PlainClient, all_dids, exchanges_of, stream}
use Rattle.session_laws.specs.Halves.{Serves}
use Rattle.session_laws.specs.Histories.{IsUser}
use Rattle.run_laws.specs.Following.{KeepsUp}
use Rattle.run_laws.specs.Listed.{AdmitsUsers}
use Rattle.run_laws.specs.Untampered.{IsStraight, exchanges_on}

-- The users are no more than there may be; the wall's owner is one, and they admit no others. The calls on the wall are
-- legal, each leaf that they leave has a spelling, and no one else called. Each user's client begins with nothing, its
-- exchanges with the wall are its turns, and all that was replied was delivered.
pub record IsHonestWall (d : Digest) (users : List ℕ) (start : ℕ → PlainClient) (heards : List Heard) (facts : WallFacts)
    (calls : List Called) : Type 0 where
  pub few : length users ≤ 32
  pub owner : IsUser users facts.owner
  pub admits : AllByRecursion (λ (h : Heard). AdmitsUsers users h.task.command) heards
  pub legal : Legal d facts calls
  pub spelled : AllByRecursion IsLeaf (play d facts calls)
  pub callers : AllByRecursion (λ (call : Called). IsUser users call.caller) calls
  pub starts : (user : ℕ) → IsUser users user → KeepsUp d facts [] (start user)
  pub served : (user : ℕ) → IsUser users user
      → AllZip (Serves d facts) (exchanges_on d facts.wall (start user) (stream user heards)) (turns d facts user calls)
  pub straight : AllByRecursion IsStraight (exchanges_of (all_dids d start heards))
