-- Clients that have done nothing yet, and lanes of them.
use Rattle.std.proofs.Common.{◌≡◌, ◌∙◌, ℕ, suc, Bool, true, false, List, [], ◌∷◌, Some, refl, ap, sym, subst, arith, eq-eqb}
use Rattle.std.specs.Prelude.{if◌then◌else◌, nat_eq, slice_get}
use Rattle.std.specs.List.{AllByRecursion, Contains}
use Rattle.fr_digest.specs.Digest.{Digest}
use Rattle.script_read.specs.declared.script.Command.{Command}
use Rattle.client_core.specs.declared.start.SideStart.{SideStart}
use Rattle.client_core.specs.Clients.{opening_side}
use Rattle.client_core.specs.Sides.{SideView, side_of}
use Rattle.hall_server.specs.declared.server.Server.{Server}
use Rattle.hall_server.specs.Seating.{IsSeatsOf, walls_of}
use Rattle.hall_server.specs.Sights.{user_of}
use Rattle.session_laws.specs.Doing.{PlainClient, wall_of}
use Rattle.session_laws.specs.Readiness.{CanDo, IsFound}
use Rattle.session_run.specs.declared.lane.Lane.{Lane}
use Rattle.session_run.specs.Phases.{IsAsked, IsReady}
use Rattle.session_run.specs.Views.{client_of}
use Rattle.session_run_tests.specs.Todo.{AreFew, IsFresh, IsOn}

-- the only side is that of its wall
alone : (s : SideView) → side_of s.known.wall (s ∷ []) ≡ Some s
alone s = rw (eq-eqb s.known.wall s.known.wall refl) refl

next-alone : (w : ℕ) (o s : SideView) → side_of w (o ∷ []) ≡ Some s → s.next ≡ o.next
next-alone w o s e = by (nat_eq o.known.wall w) e
  where
    by : (b : Bool) → slice_get (o ∷ []) (if b then 0 else suc 0) ≡ Some s → s.next ≡ o.next
    by true e' = let same : o ≡ s = cc in ap (λ (x : SideView). x.next) (sym same)
    by false e' = absurd cc

pub fresh : (user : ℕ) (start : SideStart) (c : PlainClient) → c.user ≡ user → c.signer.used ≡ 0
    → c.signer.pair.lms.h ≡ 5 → c.sides ≡ opening_side user start ∷ [] → IsFresh user start.known.wall c
fresh user start c own used tall sides = record {
  user_is = own;
  found = subst (IsFound start.known.wall) (sym sides) (opening_side user start, alone (opening_side user start));
  leaves = rw (used, tall) (omega arith);
  numbers = λ w s e. next-alone w (opening_side user start) s
      (subst (λ (l : List SideView). side_of w l ≡ Some s) sides e);
}

found-all : (wall : ℕ) (sides : List SideView) (todo : List Command) → IsFound wall sides
    → AllByRecursion (IsOn wall) todo → AllByRecursion (λ (command : Command). IsFound (wall_of command) sides) todo
found-all wall sides [] found on = tt
found-all wall sides (c ∷ todo) found on =
    (subst (λ (w : ℕ). IsFound w sides) (sym on.0.wall_is) found, found-all wall sides todo found on.1)

asked-all : (wall : ℕ) (walls : List ℕ) (todo : List Command) → Contains walls wall → AllByRecursion (IsOn wall) todo
    → AllByRecursion (IsAsked walls) todo
asked-all wall walls [] listed on = tt
asked-all wall walls (c ∷ todo) listed on = (
  record { askable = on.0.askable; listed = subst (Contains walls) (sym on.0.wall_is) listed },
  asked-all wall walls todo listed on.1,
)

-- A client that has done nothing yet can do few commands of its wall.
can-do : (user wall : ℕ) (c : PlainClient) (todo : List Command) → IsFresh user wall c → AreFew wall todo
    → CanDo c todo
can-do user wall c todo new few = record {
  walls = found-all wall c.sides todo new.found few.on;
  leaves = omega (new.leaves, few.posts, arith);
  numbers = λ w s e. let first : s.next ≡ 0 = new.numbers w s e in omega (first, few.posts, arith);
}

pub ready : {D W : Type 0} (d : Digest) (server : Server D) (lane : Lane D W) (user wall : ℕ)
    → IsSeatsOf d server lane.session.seats → user_of lane.session.seats ≡ user
    → IsFresh user wall (client_of lane.session.client) → AreFew wall lane.session.commands
    → Contains (walls_of server) wall → lane.session.outcomes ≡ [] → lane.short ≡ false → IsReady d server lane
ready d server lane user wall seats own new few listed none whole = record {
  seats = seats;
  user = new.user_is ∙ sym own;
  few = omega (few.few, arith);
  asked = asked-all wall (walls_of server) lane.session.commands listed few.on;
  can = can-do user wall (client_of lane.session.client) lane.session.commands new few;
  outcomes = none;
  whole = whole;
}
