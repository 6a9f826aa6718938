-- Lanes of the program, as what is told of them.
use Rattle.std.specs.Prelude.{List}
use Rattle.fr_edges.specs.Wire.{WireView}
use Rattle.script_form.specs.declared.outcome.Outcome.{Outcome}
use Rattle.client_core.specs.Clients.{Standing, client_view}
use Rattle.hall_server.specs.declared.seats.Seats.{Seats}
use Rattle.hall_server.specs.Sights.{sight_at}
use Rattle.session_laws.specs.Doing.{PlainClient, plain}
use Rattle.session_laws.specs.Lanes.{LaneView}
use Rattle.session_run.specs.declared.lane.Lane.{Lane}

-- a client of the program
abbrev pub client_of : Standing → PlainClient
client_of c = plain (client_view c)

-- a lane with this client, these seats, this wire and these outcomes
abbrev pub told : {D : Type 0} → Standing → Seats D → WireView → List Outcome → LaneView
told c seats wire outcomes = record { client = client_of c; outcomes = outcomes; seat = sight_at seats; wire = wire }

abbrev pub lane_view : {D W : Type 0} → (W → WireView) → Lane D W → LaneView
lane_view view lane = told lane.session.client lane.session.seats (view lane.wire) lane.session.outcomes
