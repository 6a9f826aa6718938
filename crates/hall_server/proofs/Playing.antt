-- Calls that a hall has answered leave an honest wall.
use Rattle.std.proofs.Common.{List, refl, subst}
use Rattle.std.specs.List.{AllByRecursion}
use Rattle.fr_digest.specs.Digest.{Digest}
use Rattle.op_types.specs.declared.op.Leaf.{Leaf}
use Rattle.op_types.specs.Spelling.{IsLeaf}
use Rattle.hall_core.specs.declared.ask.Called.{Called}
use Rattle.hall_core.specs.declared.facts.WallFacts.{WallFacts}
use Rattle.hall_core.specs.Calls.{play}
use Rattle.hall_core.specs.Honest.{IsHonest}
use Rattle.hall_core.specs.Standing.{IsKept}
use Rattle.hall_core.proofs.Honesty.{honest-kept}
use Rattle.hall_server.specs.Seating.{IsPlayed}

pub is_played : (d : Digest) (facts : WallFacts) (leaves : List Leaf) (calls : List Called) → IsKept d facts leaves calls
    → IsPlayed d facts calls
is_played d facts leaves calls it = record {
  legal = it.legal;
  spelled = subst (AllByRecursion IsLeaf) it.played it.spelled;
}

pub played_honest : (d : Digest) (facts : WallFacts) (calls : List Called) → IsPlayed d facts calls
    → IsHonest d facts (play d facts calls)
played_honest d facts calls it =
    honest-kept d facts (play d facts calls) calls (record { legal = it.legal; played = refl; spelled = it.spelled })
