-- The users of a run between its phases, with their clients and seats, and what is seen of a run then.
use Rattle.std.specs.Prelude.{ℕ, zero, suc, ◌+◌, false, List, [], ◌∷◌, map, nat_eq, cond, None, slice_index_or}
use Rattle.fr_edges.specs.Wire.{WireView}
use Rattle.lms_tree.specs.Valid.{key_by}
use Rattle.client_core.specs.Clients.{Standing}
use Rattle.hall_server.specs.declared.seats.Seats.{Seats}
use Rattle.hall_server.specs.Sights.{Sight, sight_at, unseen, user_of}
use Rattle.script_form.specs.declared.outcome.Outcome.{Outcome}
use Rattle.session_laws.specs.Doing.{PlainClient}
use Rattle.session_laws.specs.Runs.{RunView}
use Rattle.session_run.specs.Views.{client_of}

-- a user with its client, and what it knows of each wall
pub record Member : Type 0 where
  pub user : ℕ
  pub client : PlainClient
  pub seat : ℕ → Sight

-- ---- users

-- how often a user is among these
abbrev pub times : ℕ → List ℕ → ℕ
times user [] = 0
times user (u ∷ users) = cond (nat_eq u user) 1 0 + times user users

abbrev pub users_of : List Member → List ℕ
users_of members = map (λ (m : Member). m.user) members

-- ---- members

module _ {D : Type 0} where
  abbrev pub member_of : Standing → Seats D → Member
  member_of client seats = record { user = user_of seats; client = client_of client; seat = sight_at seats }

  -- the clients with the seats of the same places
  abbrev pub members : List Standing → List (Seats D) → List Member
  members (client ∷ clients) (seats ∷ rest) = member_of client seats ∷ members clients rest
  members _ _ = []

-- the client of nobody: it has no side and signs nothing
unfoldable pub nobody : PlainClient
nobody = record {
  user = 0;
  rogue = false;
  signer = record { private = []; id = []; pair = (key_by 0 0 0 0 0 0 [] []).pair; used = 0 };
  sides = [];
  took = [];
  signed = [];
}

-- the member of a user; who isn't among them is as nobody
abbrev pub member_at : ℕ → List Member → Member
member_at user [] = record { user = user; client = nobody; seat = λ (wall : ℕ). unseen }
member_at user (m ∷ rest) = cond (nat_eq m.user user) m (member_at user rest)

-- ---- wires

-- a wire that nobody uses
abbrev pub no_wire : WireView
no_wire = record { straight = false; carried = None; faults = zero }

-- the wire of a session; sessions count from 1
abbrev pub wire_at : ℕ → List WireView → WireView
wire_at zero wires = no_wire
wire_at (suc place) wires = slice_index_or wires place no_wire

-- ---- runs

-- what is seen of a run with these members, wires and outcomes
abbrev pub run_of : List Member → List WireView → List Outcome → RunView
run_of ms wires outcomes = record {
  client = λ (user : ℕ). (member_at user ms).client;
  seat = λ (user : ℕ). (member_at user ms).seat;
  wire = λ (session : ℕ). wire_at session wires;
  outcomes = outcomes;
}
