-- The whole script.
use Rattle.std.proofs.Common.{◌≡◌, ℕ, ltb, List, length, Ok}
use Rattle.std.specs.Prelude.{codes}
use Rattle.serde_json.specs.Data.{Data}
use Rattle.script_read.specs.declared.refusal.ScriptRefusal.TheVariants.{Limit}
use Rattle.script_read.specs.declared.script.Script.{Script}
use Rattle.script_read.specs.Refusal.{refused}
use Rattle.script_read.specs.Fields.{natural_within, an_object, key, word, no_further}
use Rattle.script_read.specs.Script.{digest_words, users_of, walls_of, phases_of, lines_of, walked}
use Rattle.script_read.specs.Known.{all_known}
use Rattle.script_read.specs.Writes.{signs_enough}
use Rattle.script_read.specs.Reading.{script_of, json_of, script_at}
use Rattle.script_read.specs.Limits.{AreUsers, AreWalls, ArePhases, AreLines, IsScript}
use Rattle.script_read.proofs.Holding.{Holds, gives, after, skip}
use Rattle.script_read.proofs.Tables.{users_hold, walls_hold}
use Rattle.script_read.proofs.PhaseRanges.{phases_hold}
use Rattle.script_read.proofs.LineRanges.{lines_hold}
use Rattle.script_read.proofs.ListedNumbers.{known_holds, signed_holds}

abbrev HasTables : Script → Type 0
HasTables s = AreUsers s.users × AreWalls s.walls × ArePhases s.phases × AreLines s.tamper

walked_holds : (d : Data) → Holds HasTables (walked d)
unfolding walked
walked_holds d =
    skip (an_object (codes "script") d) (λ o.
    skip (key (codes "format") (natural_within 1 1) o) (λ format.
    skip (word (codes "digest") digest_words o) (λ digest.
    after (users_of o) (users_hold o) (λ users are_users.
    after (walls_of o) (walls_hold o) (λ walls are_walls.
    after (phases_of o) (phases_hold o) (λ phases are_phases.
    after (lines_of o) (lines_hold o) (λ tamper are_lines.
    skip (no_further 6 o) (λ only.
    gives HasTables (record { digest = digest; users = users; walls = walls; phases = phases; tamper = tamper })
    (are_users, are_walls, are_phases, are_lines)))))))))

script_holds : (d : Data) → Holds IsScript (script_of d)
unfolding script_of
script_holds d =
    after (walked d) (walked_holds d) (λ s tables.
    after (all_known s) (known_holds s) (λ u known.
    after (signs_enough s) (signed_holds s) (λ v signed.
    gives IsScript s (record {
      users = tables.0;
      walls = tables.1;
      phases = tables.2;
      tamper = tables.3;
      owners = known.0;
      sessions = known.1;
      lines = known.2;
      signed = signed;
    }))))

bytes_hold : (bytes : List ℕ) → Holds IsScript (script_at bytes)
unfolding script_at
bytes_hold bytes =
    skip (refused (Limit (codes "script")) (ltb 4194304 (length bytes))) (λ u.
    skip (json_of bytes) (λ d. script_holds d))

-- a script that the bytes spell
pub limits : (bytes : List ℕ) (s : Script) → script_at bytes ≡ Ok s → IsScript s
limits bytes s e = (bytes_hold bytes).at s e
