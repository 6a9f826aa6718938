-- Users' clients and seats come out of a run, one after the other.
use Rattle.std.proofs.Common.{◌≡◌, ◌∙◌, ℕ, ◌+◌, ◌≤◌, List, [], ◌∷◌, ◌++◌, length, map, refl, sym, ap, subst, arith}
use Rattle.std.specs.List.{AllByRecursion}
use Rattle.std.proofs.lemmas.List.{map-append}
use Rattle.fr_bytes.proofs.Lists.{each-append}
use Rattle.fr_digest.specs.Digest.{Digest}
use Rattle.client_core.specs.Clients.{Standing}
use Rattle.hall_server.specs.declared.seats.Seats.{Seats}
use Rattle.hall_server.specs.declared.server.Server.{Server}
use Rattle.hall_server.specs.Seating.{IsSeatsOf}
use Rattle.hall_server.specs.Sights.{user_of}
use Rattle.session_run.specs.Views.{client_of}
use Rattle.run_phases.specs.declared.running.Running.{Running}
use Rattle.run_phases.specs.Members.{Member, member_of, members, times, users_of}
use Rattle.run_phases.specs.Phases.{AreMembers, Moved, TakesOut, members_of}
use Rattle.run_phases.proofs.Boarding.{are-left, even-of, members-append, members-cut, members-left, own-seats, own-user, users-members}
use Rattle.run_phases.proofs.Tallies.{moved-more, moved-nothing, tally-append}
use Rattle.run_script.specs.Order.{InOrder}

module _ {D W : Type 0} (d : Digest) (server : Server D) where
  pub in-order-nothing : (run : Running D W) → AreMembers d server run.clients.items run.seats.items
      → InOrder d server [] run run [] []
  in-order-nothing run are = record {
    moved = moved-nothing (members_of run);
    seated = refl;
    same = refl;
    seats_are = tt;
    left = are;
    wires = refl;
    outcomes = refl;
  }

  pub in-order-more : (users : List ℕ) (user : ℕ) (before now now' : Running D W) (cs : List Standing)
      (ss : List (Seats D)) (c : Standing) (s : Seats D) → ((u : ℕ) → times u (users_of (members_of before)) ≤ 1)
      → InOrder d server users before now cs ss
      → TakesOut user now.clients.items now'.clients.items now.seats.items now'.seats.items c s
      → now'.wires ≡ now.wires → now'.outcomes ≡ now.outcomes
      → InOrder d server (users ++ user ∷ []) before now' (cs ++ c ∷ []) (ss ++ s ∷ [])
  in-order-more users user before now now' cs ss c s once o k wires outcomes =
      let cs1 = now.clients.items in
      let cs2 = now'.clients.items in
      let ss1 = now.seats.items in
      let ss2 = now'.seats.items in
      let m = member_of c s in
      let front = members k.front k.before in
      let back = members k.back k.behind in
      let gone = members cs ss in
      let more : Moved (members_of before) (front ++ back) (gone ++ m ∷ []) =
      moved-more (members_of before) front back gone m once
      (subst (λ (l : List Member). Moved (members_of before) l gone)
      (members-cut d server user cs1 cs2 ss1 ss2 c s o.left k) o.moved) in
      record {
        moved =
            subst (λ (l : List Member). Moved (members_of before) (members_of now') l)
            (sym (members-append cs ss (c ∷ []) (s ∷ []) (even-of cs ss o.same)))
            (subst (λ (l : List Member). Moved (members_of before) l (gone ++ m ∷ []))
            (sym (members-left d server user cs1 cs2 ss1 ss2 c s o.left k)) more);
        seated = map-append user_of ss (s ∷ []) ∙ (λ i. o.seated i ++ k.user_is i ∷ []);
        same =
            map-append (λ (x : Standing). (client_of x).user) cs (c ∷ [])
            ∙ (λ i. o.same i ++ own-user d server user cs1 cs2 ss1 ss2 c s o.left k i ∷ [])
            ∙ sym (map-append user_of ss (s ∷ []));
        seats_are =
            each-append (IsSeatsOf d server) ss (s ∷ []) o.seats_are
            (own-seats d server user cs1 cs2 ss1 ss2 c s o.left k, tt);
        left = are-left d server user cs1 cs2 ss1 ss2 c s o.left k;
        wires = wires ∙ o.wires;
        outcomes = outcomes ∙ o.outcomes;
      }

  -- a user that is still to come is in the run
  pub still-there : (users more : List ℕ) (user : ℕ) (before now : Running D W) (cs : List Standing)
      (ss : List (Seats D)) → AreMembers d server before.clients.items before.seats.items
      → InOrder d server users before now cs ss
      → times user (users ++ more) ≡ times user (map user_of before.seats.items) → 1 ≤ times user more
      → times user (users ++ more) ≡ times user users + times user more
      → 1 ≤ times user (map user_of now.seats.items)
  still-there users more user before now cs ss are o counted some cut =
      let a : times user (users_of (members_of before)) ≡ times user (map user_of before.seats.items) =
      ap (times user) (users-members before.clients.items before.seats.items
      (even-of before.clients.items before.seats.items are.same)) in
      let b = o.moved.counted user in
      let e = tally-append user (members_of now) (members cs ss) in
      let f : times user (users_of (members cs ss)) ≡ times user users =
      ap (times user) (users-members cs ss (even-of cs ss o.same) ∙ o.seated) in
      let g : times user (users_of (members_of now)) ≡ times user (map user_of now.seats.items) =
      ap (times user) (users-members now.clients.items now.seats.items
      (even-of now.clients.items now.seats.items o.left.same)) in
      omega arith
