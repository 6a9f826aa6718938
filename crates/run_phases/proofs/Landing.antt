-- What the lanes of a phase leave of the run.
use Rattle.std.proofs.Common.{◌≡◌, ◌∙◌, ℕ, suc, ◌+◌, ◌≤◌, false, List, [], ◌∷◌, ◌++◌, length, length-append, map, refl, sym, ap, subst, append_assoc, arith}
use Rattle.std.specs.List.{AllByRecursion, AllZip}
use Rattle.std.proofs.lemmas.List.{map-append}
use Rattle.fr_bytes.proofs.Lists.{each-append}
use Rattle.fr_digest.specs.Digest.{Digest}
use Rattle.fr_edges.specs.Wire.{WireView}
use Rattle.client_core.specs.Clients.{Standing}
use Rattle.hall_server.specs.declared.seats.Seats.{Seats}
use Rattle.hall_server.specs.declared.server.Server.{Server}
use Rattle.hall_server.specs.Seating.{IsSeatsOf}
use Rattle.hall_server.specs.Sights.{user_of}
use Rattle.script_read.specs.declared.script.ScriptSession.{ScriptSession}
use Rattle.script_form.specs.declared.outcome.Outcome.{Outcome}
use Rattle.session_laws.specs.Doing.{PlainClient}
use Rattle.session_laws.specs.Runs.{PhaseRun, RunView}
use Rattle.session_run.specs.declared.lane.Lane.{Lane}
use Rattle.session_run.specs.Phases.{HasRun}
use Rattle.session_run.specs.Views.{client_of}
use Rattle.run_phases.specs.declared.running.Running.{Running}
use Rattle.run_phases.specs.Members.{Member, members, run_of, times, users_of, wire_at}
use Rattle.run_phases.specs.Phases.{AreMembers, Entered, HaveRun, IsLaneOf, KeepsUsers, Left, lane_member, members_of, outcomes_in, run_view}
use Rattle.run_phases.specs.Tasks.{tasks_in}
use Rattle.run_phases.proofs.Boarding.{even-of, members-append, users-members}
use Rattle.run_phases.proofs.LaneSteps.{lanes-run}
use Rattle.run_phases.proofs.Staying.{last-same}
use Rattle.run_phases.proofs.Tallies.{tally-append, times-append}

pub length-map : {A B : Type 0} (f : A → B) (xs : List A) → length (map f xs) ≡ length xs
length-map f [] = refl
length-map f (x ∷ xs) = ap suc (length-map f xs)

map-map : {A B C : Type 0} (f : A → B) (g : B → C) (xs : List A) → map g (map f xs) ≡ map (λ (x : A). g (f x)) xs
map-map f g [] = refl
map-map {C = C} f g (x ∷ xs) = ap (λ (l : List C). g (f x) ∷ l) (map-map f g xs)

module _ {D W : Type 0} (d : Digest) (view : W → WireView) (server : Server D) (phase : ℕ) where
  -- ---- lanes

  abbrev clients_in : List (Lane D W) → List Standing
  clients_in lanes = map (λ (l : Lane D W). l.session.client) lanes

  abbrev seats_in : List (Lane D W) → List (Seats D)
  seats_in lanes = map (λ (l : Lane D W). l.session.seats) lanes

  abbrev members_in : List (Lane D W) → List Member
  members_in lanes = map (λ (l : Lane D W). lane_member l) lanes

  zipped : (lanes : List (Lane D W)) → members (clients_in lanes) (seats_in lanes) ≡ members_in lanes
  zipped [] = refl
  zipped (l ∷ ls) = ap (λ (x : List Member). lane_member l ∷ x) (zipped ls)

  same-users : (number : ℕ) (befores nows : List (Lane D W)) → HaveRun d view server phase number befores nows
      → map user_of (seats_in nows) ≡ map user_of (seats_in befores)
  same-users number [] [] ran = refl
  same-users number [] (m ∷ ms) ran = absurd ran
  same-users number (l ∷ ls) [] ran = absurd ran
  same-users number (l ∷ ls) (m ∷ ms) ran = λ i. ran.0.user i ∷ same-users (number + 1) ls ms ran.1 i

  same-count : (number : ℕ) (befores nows : List (Lane D W)) → HaveRun d view server phase number befores nows
      → length nows ≡ length befores
  same-count number [] [] ran = refl
  same-count number [] (m ∷ ms) ran = absurd ran
  same-count number (l ∷ ls) [] ran = absurd ran
  same-count number (l ∷ ls) (m ∷ ms) ran = ap suc (same-count (number + 1) ls ms ran.1)

  all-seated : (number : ℕ) (befores nows : List (Lane D W)) → HaveRun d view server phase number befores nows
      → AllByRecursion (IsSeatsOf d server) (seats_in nows)
  all-seated number [] [] ran = tt
  all-seated number [] (m ∷ ms) ran = absurd ran
  all-seated number (l ∷ ls) [] ran = absurd ran
  all-seated number (l ∷ ls) (m ∷ ms) ran = (ran.0.seats, all-seated (number + 1) ls ms ran.1)

  own-clients : (number : ℕ) (sessions : List ScriptSession) (befores nows : List (Lane D W))
      → AllZip (IsLaneOf d server) sessions befores → HaveRun d view server phase number befores nows
      → AllByRecursion (λ (l : Lane D W). l.short ≡ false) nows
      → map (λ (c : Standing). (client_of c).user) (clients_in nows) ≡ map user_of (seats_in nows)
  own-clients number [] [] [] each ran whole = refl
  own-clients number [] [] (m ∷ ms) each ran whole = absurd ran
  own-clients number [] (l ∷ ls) nows each ran whole = absurd each
  own-clients number (s ∷ ss) [] nows each ran whole = absurd each
  own-clients number (s ∷ ss) (l ∷ ls) [] each ran whole = absurd ran
  own-clients number (s ∷ ss) (l ∷ ls) (m ∷ ms) each ran whole =
      let done = ran.0.done.all whole.0 in
      let first : (client_of m.session.client).user ≡ user_of m.session.seats =
      ap (λ (c : PlainClient). c.user) done.knows ∙ (last-same d (client_of l.session.client) done.heards).user
      ∙ each.0.user ∙ sym ran.0.user in
      λ i. first i ∷ own-clients (number + 1) ss ls ms each.1 ran.1 whole.1 i

  -- ---- the run

  module _ (sessions : List ScriptSession) (before mid now : Running D W) (befores nows : List (Lane D W))
      (e : Entered d server sessions before mid befores) (ran : HaveRun d view server phase 1 befores nows)
      (whole : AllByRecursion (λ (l : Lane D W). l.short ≡ false) nows) (left : Left mid now nows)
      (are : AreMembers d server before.clients.items before.seats.items) where
    even-mid : length mid.clients.items ≡ length mid.seats.items
    even-mid = even-of mid.clients.items mid.seats.items e.left.same

    even-before : length before.clients.items ≡ length before.seats.items
    even-before = even-of before.clients.items before.seats.items are.same

    members-now : members_of now ≡ members_of mid ++ members_in nows
    members-now =
        (λ i. members (left.clients i) (left.seats i))
        ∙ members-append mid.clients.items mid.seats.items (clients_in nows) (seats_in nows) even-mid
        ∙ ap (λ (l : List Member). members_of mid ++ l) (zipped nows)

    users-before : users_of (members_of before) ≡ map user_of before.seats.items
    users-before = users-members before.clients.items before.seats.items even-before

    pub once-moved : (u : ℕ) → times u (users_of (members_of mid ++ members_in befores)) ≤ 1
    once-moved u =
        subst (λ (n : ℕ). n ≤ 1) (ap (times u) (sym users-before) ∙ e.moved.counted u) (are.once u)

    views : (lanes : List (Lane D W)) (rest : List W)
        → map view (map (λ (l : Lane D W). l.wire) lanes ++ rest)
        ≡ map (λ (l : Lane D W). view l.wire) lanes ++ map view rest
    views lanes rest =
        map-append view (map (λ (l : Lane D W). l.wire) lanes) rest
        ∙ ap (λ (ws : List WireView). ws ++ map view rest) (map-map (λ (l : Lane D W). l.wire) view lanes)

    pub phase-ran : PhaseRun d (run_view view before) (run_view view now) (tasks_in phase 1 sessions)
    phase-ran =
        let us = map view mid.wires.items in
        let ran-all = lanes-run d view server phase 1 (members_of mid) [] us before.outcomes.items sessions befores nows
        e.each ran whole refl once-moved in
        let wires-before : map view before.wires.items ≡ map (λ (l : Lane D W). view l.wire) befores ++ us =
        ap (map view) e.wires ∙ views befores mid.wires.items in
        let wires-now : map view now.wires.items ≡ map (λ (l : Lane D W). view l.wire) nows ++ us =
        ap (map view) left.wires ∙ views nows mid.wires.items in
        let start : run_of (members_of mid ++ members_in befores) (map (λ (l : Lane D W). view l.wire) befores ++ us)
        before.outcomes.items ≡ run_view view before = λ i. record {
          client = λ u. (sym (e.moved.same u) i).client;
          seat = λ u. (sym (e.moved.same u) i).seat;
          wire = λ s. wire_at s (sym wires-before i);
          outcomes = before.outcomes.items;
        } in
        let told : now.outcomes.items ≡ before.outcomes.items ++ outcomes_in nows =
        left.outcomes ∙ (λ i. (e.outcomes i).items ++ outcomes_in nows) in
        let end : run_of (members_of mid ++ members_in nows) (map (λ (l : Lane D W). view l.wire) nows ++ us)
        (before.outcomes.items ++ outcomes_in nows) ≡ run_view view now =
        λ i. run_of (sym members-now i) (sym wires-now i) (sym told i) in
        let tasks = tasks_in phase 1 sessions in
        subst (λ (r : RunView). PhaseRun d r (run_view view now) tasks) start
        (subst (λ (r : RunView). PhaseRun d (run_of (members_of mid ++ members_in befores)
        (map (λ (l : Lane D W). view l.wire) befores ++ us) before.outcomes.items) r tasks) end ran-all)

    counted : (u : ℕ) → times u (map user_of now.seats.items) ≡ times u (map user_of before.seats.items)
    counted u =
        let a : times u (map user_of now.seats.items)
        ≡ times u (map user_of mid.seats.items) + times u (map user_of (seats_in nows)) =
        ap (λ (ss : List (Seats D)). times u (map user_of ss)) left.seats
        ∙ ap (times u) (map-append user_of mid.seats.items (seats_in nows))
        ∙ times-append u (map user_of mid.seats.items) (map user_of (seats_in nows)) in
        let b : times u (map user_of (seats_in nows)) ≡ times u (users_of (members_in befores)) =
        ap (times u) (same-users 1 befores nows ran ∙ map-map (λ (l : Lane D W). l.session.seats) user_of befores
        ∙ sym (map-map (λ (l : Lane D W). lane_member l) (λ (m : Member). m.user) befores)) in
        let f : times u (map user_of before.seats.items)
        ≡ times u (users_of (members_of mid)) + times u (users_of (members_in befores)) =
        ap (times u) (sym users-before) ∙ e.moved.counted u ∙ tally-append u (members_of mid) (members_in befores) in
        let k : times u (users_of (members_of mid)) ≡ times u (map user_of mid.seats.items) =
        ap (times u) (users-members mid.clients.items mid.seats.items even-mid) in
        omega arith

    length-members : (cs : List Standing) (ss : List (Seats D)) → length cs ≡ length ss
        → length (members cs ss) ≡ length ss
    length-members [] [] even = refl
    length-members [] (s ∷ ss) even = absurd (omega arith)
    length-members (c ∷ cs) [] even = absurd (omega arith)
    length-members (c ∷ cs) (s ∷ ss) even = ap suc (length-members cs ss (omega arith))

    pub keeps : KeepsUsers d server before now
    keeps = record {
      members = record {
        same =
            ap (map (λ (c : Standing). (client_of c).user)) left.clients
            ∙ map-append (λ (c : Standing). (client_of c).user) mid.clients.items (clients_in nows)
            ∙ (λ i. e.left.same i ++ own-clients 1 sessions befores nows e.each ran whole i)
            ∙ sym (map-append user_of mid.seats.items (seats_in nows)) ∙ ap (map user_of) (sym left.seats);
        once = λ u. subst (λ (n : ℕ). n ≤ 1) (sym (counted u)) (are.once u);
        seated =
            subst (AllByRecursion (IsSeatsOf d server)) (sym left.seats)
            (each-append (IsSeatsOf d server) mid.seats.items (seats_in nows) e.left.seated
            (all-seated 1 befores nows ran));
      };
      wires =
          let a = ap (λ (ws : List W). length ws) left.wires in
          let b = ap (λ (ws : List W). length ws) e.wires in
          let f = length-append (map (λ (l : Lane D W). l.wire) nows) mid.wires.items in
          let g = length-append (map (λ (l : Lane D W). l.wire) befores) mid.wires.items in
          let h = length-map (λ (l : Lane D W). l.wire) nows in
          let k = length-map (λ (l : Lane D W). l.wire) befores in
          let same = same-count 1 befores nows ran in
          omega arith;
      counted = counted;
      many =
          let a = ap (λ (ss : List (Seats D)). length ss) left.seats in
          let b = length-append mid.seats.items (seats_in nows) in
          let f = length-map (λ (l : Lane D W). l.session.seats) nows in
          let g = e.moved.many in
          let h = length-members before.clients.items before.seats.items even-before in
          let k = length-members mid.clients.items mid.seats.items even-mid in
          let n = length-map (λ (l : Lane D W). lane_member l) befores in
          let same = same-count 1 befores nows ran in
          omega arith;
    }
