-- A lane may go to another thread.
use denote.RattleType.{RattleType}
use denote.Param.Send.{IsSend, IsSync, recorded_send, recorded_sync, struct_send, struct_sync, sendable}
use denote.Struct.Declared.{shape}
use denote.Struct.Tuple.{TupleAt, field_at, type_at}
use mir.Syntax.{Sym}
use Rattle.std.proofs.Common.{List, [], ◌∷◌}
use Rattle.std.proofs.Crossing as std
use Rattle.fr_bytes.proofs.sequence.Sequence.TheSendSync as Sequence
use Rattle.fr_digest.specs.declared.digests.Digester as digester
use Rattle.client_core.proofs.Crossing.{Client-send}
use Rattle.hall_server.proofs.Crossing.{Seats-field}
use Rattle.session_run.specs.contracts.lane.Session as Session
use Rattle.session_run.specs.contracts.lane.Lane as Lane

module _ (D : RattleType) (g : digester.Ghosts D.Denot) where
  Session-field : IsSend (Session.the_field D g).row
  Session-field = struct_send (shape (Session.the_type D g)) (
    Client-send D g,
    (
      Seats-field D g,
      (search (Sequence.the_send, std.crosses, sendable) depth 60 fits 20000, (search (Sequence.the_send, std.crosses, sendable) depth 60 fits 20000, tt)),
    ),
  )

  pub Lane-send : (W : RattleType) → IsSend W → IsSend (Lane.the_row D W g)
  Lane-send W s = recorded_send (Lane.the_field D W g).row _ _ (Lane.the_type D W g).to_one (struct_send (shape (Lane.the_type D W g)) (Session-field, (s, (search sendable, tt))))

-- what a closure of four captures shares
pub captures-sync : (ν : Sym) (A B C E : RattleType) → IsSync A → IsSync B → IsSync C → IsSync E
    → IsSync (TupleAt ν (A ∷ B ∷ C ∷ E ∷ []))
captures-sync ν A B C E a b c e =
    let Ts : List RattleType = A ∷ B ∷ C ∷ E ∷ [] in
    recorded_sync (field_at ν Ts).row _ _ (type_at ν Ts).to_one (struct_sync (shape (type_at ν Ts)) (a, (b, (c, (e, tt)))))
