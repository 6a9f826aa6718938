-- Seats may go to another thread, and a server may be shared between threads.
use denote.RattleType.{RattleType}
use denote.Param.Send.{IsSend, IsSync, recorded_send, recorded_sync, struct_send, struct_sync, sendable}
use denote.Struct.Declared.{shape}
use Rattle.std.proofs.Crossing as std
use Rattle.fr_digest.specs.declared.digests.Digester as digester
use Rattle.gate_users.proofs.Seats.TheSendSync as places
use Rattle.hall_core.proofs.Crossing.{Hall-send, Snapshot-send}
use Rattle.hall_gate.proofs.gate.Gate.TheSendSync as gate
use Rattle.hall_server.specs.contracts.turned.TurnedHall as TurnedHall
use Rattle.hall_server.specs.contracts.seats.Seats as Seats
use Rattle.hall_server.specs.contracts.server.Server as Server

module _ (D : RattleType) (g : digester.Ghosts D.Denot) where
  Turned-send : IsSend (TurnedHall.the_row D g)
  Turned-send = recorded_send (TurnedHall.the_field D g).row _ _ (TurnedHall.the_type D g).to_one (struct_send (shape (TurnedHall.the_type D g)) (Hall-send D g, tt))

  pub Seats-field : IsSend (Seats.the_field D g).row
  Seats-field = struct_send (shape (Seats.the_type D g))
      (search sendable, (search (Turned-send, places.the_field_send, std.crosses, sendable) depth 20, (std.Vec-send _ (Snapshot-send D g), tt)))

  pub Seats-send : IsSend (Seats.the_row D g)
  Seats-send = recorded_send (Seats.the_field D g).row _ _ (Seats.the_type D g).to_one Seats-field

  pub Server-sync : IsSync (Server.the_row D g)
  Server-sync = recorded_sync (Server.the_field D g).row _ _ (Server.the_type D g).to_one (struct_sync (shape (Server.the_type D g))
      (std.Vec-sync _ (search (Turned-send, gate.the_sync) depth 20), (search (std.crosses, sendable) depth 20, tt)))
