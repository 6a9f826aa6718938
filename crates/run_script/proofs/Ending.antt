-- What a run leaves of its users.
use Rattle.std.proofs.Common.{◌≡◌, ◌∙◌, ℕ, ◌<◌, List, [], ◌∷◌, length, map, refl, sym, ap, subst, inl, inr, Result, Ok, Err, arith}
use Rattle.std.specs.Prelude.{IfOk}
use Rattle.std.specs.List.{All, AllByRecursion, AllZip}
use Rattle.std.proofs.lemmas.List.Elements.{recursion_from_All}
use Rattle.fr_digest.specs.Digest.{Digest}
use Rattle.fr_edges.specs.Wire.{WireView}
use Rattle.world_book.specs.declared.world.WallNote.{WallNote}
use Rattle.client_core.specs.Clients.{Standing, client_view}
use Rattle.hall_gate.specs.Seats.{callers_of}
use Rattle.hall_server.specs.declared.seats.Seats.{Seats}
use Rattle.hall_server.specs.declared.server.Server.{Server}
use Rattle.hall_server.specs.Seating.{AreAll, IsSeatsOf}
use Rattle.hall_server.specs.Sights.{HallGate, sights_of, user_of}
use Rattle.script_read.specs.declared.script.Script.{Script}
use Rattle.script_read.specs.Limits.{IsListedUser, IsScript}
use Rattle.script_read.specs.Users.{has_user}
use Rattle.script_read.specs.Walls.{has_wall}
use Rattle.session_laws.specs.Doing.{PlainClient, Task, plain, stream}
use Rattle.session_laws.specs.Histories.{IsUser}
use Rattle.session_laws.specs.Runs.{PhaseRun, RunView}
use Rattle.session_run.specs.Views.{client_of}
use Rattle.run_phases.specs.declared.running.Running.{Running}
use Rattle.run_phases.specs.Members.{Member, member_at, times}
use Rattle.run_phases.specs.Phases.{AreMembers, KeepsUsers, Played, members_of, run_view}
use Rattle.run_phases.specs.Tasks.{tasks_from}
use Rattle.run_phases.proofs.Landing.{length-map}
use Rattle.run_phases.proofs.Staying.{Same, last-same}
use Rattle.run_start.specs.declared.begun.Start.{Start}
use Rattle.run_start.specs.Begins.{Begins, opening_sights}
use Rattle.run_start.specs.Clients.{opening_client}
use Rattle.run_start.specs.Keys.{notes_in}
use Rattle.run_start.specs.Numbers.{Lists}
use Rattle.run_end.specs.Ends.{AreTogether}
use Rattle.run_script.specs.Order.{InOrder}
use Rattle.run_script.proofs.Numbers.{listed-once}
use Rattle.run_script.proofs.Opening.{at-opened, members-open, opened-as}
use Rattle.run_script.proofs.Together.{clients-at, some-users, together-of}

-- ---- outcomes of calls

pub if-so : {A E : Type 0} (P Q : A → Type 0) (r : Result A E) → IfOk r P → ((x : A) → P x → Q x) → IfOk r Q
if-so P Q (Ok x) p so = so x p
if-so P Q (Err e) p so = tt

-- ---- users

-- as many seats as others of the same users
pub all-seats : {D : Type 0} (server : Server D) (seats all : List (Seats D)) → map user_of seats ≡ map user_of all
    → AreAll server all → AreAll server seats
all-seats {D} server seats all same are =
    let long : length seats ≡ length all =
    (let a = length-map user_of seats in let b = length-map user_of all in
    let e : length (map user_of seats) ≡ length (map user_of all) = ap length same in omega (a, b, e, arith)) in
    subst (λ (n : ℕ). All (λ (gate : HallGate D). n ≡ length (callers_of gate)) server.gates.items) (sym long) are

pub user-so : (P : ℕ → Type 0) (ns : List ℕ) (user : ℕ) → AllByRecursion P ns → IsUser ns user → P user
user-so P [] user all none = absurd none
user-so P (n ∷ ns) user all (inl is) = subst P is all.0
user-so P (n ∷ ns) user all (inr more) = user-so P ns user all.1 more

-- what holds where there is a first one
pub with-first : (P : Type 0) (ns : List ℕ) → 0 < length ns → ((u : ℕ) (us : List ℕ) → ns ≡ u ∷ us → P) → P
with-first P [] some so = absurd (omega (some, arith))
with-first P (n ∷ ns) some so = so n ns refl

module _ (s : Script) (is : IsScript s) {D W : Type 0} (d : Digest) (view : W → WireView) (start : Start D)
    (b : Begins d s start) (run now : Running D W) (clients : run.clients ≡ start.clients)
    (seats : run.seats ≡ start.seats) (sixteen : length run.wires.items ≡ 16) where
  pub members-at : members_of run ≡ map (opened-as s is b.users b.walls b.all_users b.all_walls) b.users
  members-at =
      members-open s is b.users b.walls b.all_users b.all_walls d view start.server run
      (ap (λ (cs : _). map client_view cs.items) clients ∙ b.clients)
      (ap (λ (ss : _). map user_of ss.items) seats ∙ b.seated) (subst (λ (ss : List (Seats D)). All (λ (x : Seats D). sights_of x ≡ opening_sights s b.users b.walls) ss)
      (ap (λ (ss : _). ss.items) (sym seats)) b.sights)
      (subst (λ (ss : List (Seats D)). All (IsSeatsOf d start.server) ss) (ap (λ (ss : _). ss.items) (sym seats)) b.seats)
      b.walls_are sixteen

  pub listed : AllByRecursion (IsListedUser s) b.users
  listed = recursion_from_All (IsListedUser s) b.users b.all_users.each

  pub seated-once : (user : ℕ) → IsListedUser s user → times user (map user_of run.seats.items) ≡ 1
  seated-once user there =
      ap (times user) (ap (λ (ss : _). map user_of ss.items) seats ∙ b.seated)
      ∙ listed-once (has_user s.users) b.users b.all_users user there

  module _ (tasks : List Task) (ran : PhaseRun d (run_view view run) (run_view view now) tasks) where
    client-same : (n : ℕ) → IsListedUser s n
        → Same (plain (opening_client s b.users b.walls n)) (member_at n (members_of now)).client
    client-same n there =
        let first : (member_at n (members_of run)).client ≡ plain (opening_client s b.users b.walls n) =
        ap (λ (ms : List Member). (member_at n ms).client) members-at
        ∙ ap (λ (m : Member). m.client) (at-opened s is b.users b.walls b.all_users b.all_walls b.users n
        (listed-once (has_user s.users) b.users b.all_users n there)) in
        subst (λ (c : PlainClient). Same c (member_at n (members_of now)).client) first
        (subst (λ (c : PlainClient). Same (member_at n (members_of run)).client c) (sym (ran.clients n))
        (last-same d (member_at n (members_of run)).client (stream n ran.heards)))

    pub all-same : (ns : List ℕ) (cs : List Standing) → AllByRecursion (IsListedUser s) ns
        → AllZip (λ (n : ℕ) (c : Standing). client_of c ≡ (member_at n (members_of now)).client) ns cs
        → AllZip (λ (n : ℕ) (c : Standing). Same (plain (opening_client s b.users b.walls n)) (client_of c)) ns cs
    all-same [] [] all zip = tt
    all-same [] (c ∷ cs) all zip = absurd zip
    all-same (n ∷ ns) [] all zip = absurd zip
    all-same (n ∷ ns) (c ∷ cs) all zip = (
      subst (λ (x : PlainClient). Same (plain (opening_client s b.users b.walls n)) x) (sym zip.0)
          (client-same n all.0),
      all-same ns cs all.1 zip.1,
    )

    pub are-together : (users : List ℕ) (end : Running D W) (cs : List Standing) (ss : List (Seats D)) → users ≡ b.users
        → AreMembers d start.server now.clients.items now.seats.items
        → InOrder d start.server users now end cs ss → AreTogether start.notes cs
    are-together users end cs ss same are order =
        subst (λ (ns : List WallNote). AreTogether ns cs) (sym b.notes)
        (together-of s is b.users b.walls b.all_users b.all_walls cs
        (all-same b.users cs listed
        (subst (λ (ns : List ℕ). AllZip (λ (n : ℕ) (c : Standing). client_of c ≡ (member_at n (members_of now)).client)
        ns cs) same (clients-at d start.server users now end cs ss are order))))

  -- the first user, with the others
  pub ran-of : ((u : ℕ) (users : List ℕ)
      → ((user : ℕ) → IsUser (u ∷ users) user → times user (map user_of run.seats.items) ≡ 1)
      → Played d (u ∷ users) 1 s.phases (run_view view run) (run_view view now))
      → PhaseRun d (run_view view run) (run_view view now) (tasks_from 1 s.phases)
  ran-of played =
      with-first (PhaseRun d (run_view view run) (run_view view now) (tasks_from 1 s.phases)) b.users
      (some-users s is b.users b.walls b.all_users b.all_walls)
      (λ u us first. (played u us (λ user one. seated-once user (user-so (IsListedUser s) (u ∷ us) user
      (subst (AllByRecursion (IsListedUser s)) first listed) one))).run)
