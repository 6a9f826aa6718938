use denote.Param.{param}
use denote.Param.Send.{IsSync, param_sync, arg_sync, shr_sync, sendable}
use denote.Exit.{no}
use denote.Ref.{ShrRef}
use denote.Struct.Field.{u32-field}
use Rattle.std.proofs.Crossing as std
use Rattle.std.specs.contracts.alloc.Global as Global
use Rattle.hall_server.specs.contracts.server.Server as Server
use Rattle.hall_server.proofs.Crossing.{Server-sync}
use Rattle.session_run.proofs.Crossing.{Lane-send, captures-sync}
use Rattle.session_run.proofs.phase.run_phase.Goals as goal

pub for_each_mut-requires-send-T : goal.for_each_mut-requires-send-T
for_each_mut-requires-send-T g c κs within = search (Lane-send, std.crosses, sendable) depth 60 fits 20000

pub for_each_mut-requires-sync-F : goal.for_each_mut-requires-sync-F
for_each_mut-requires-sync-F g c κs within =
    let runtime : IsSync (param 2 g.row.R) = search (c.type_bounds.sync-R, sendable) depth 10 in
    let number : IsSync (u32-field).row = search sendable in
    param_sync 2 _ (arg_sync _ no _ (captures-sync _ (ShrRef _ _ (param 2 g.row.R)) (ShrRef _ _ Global.the_row)
    (ShrRef _ _ (Server.the_row (param 0 g.row.D) g.D.Digester)) (ShrRef _ _ (u32-field).row)
    (shr_sync _ _ _ runtime) (shr_sync _ _ _ std.sync) (shr_sync _ _ _ (Server-sync _ _))
    (shr_sync _ _ _ number)))
