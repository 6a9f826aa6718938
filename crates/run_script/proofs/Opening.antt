-- What a run begins with: its users have seen nothing, and each one's client can do the user's commands.
use Rattle.std.proofs.Common.{◌≡◌, ◌∙◌, ℕ, zero, suc, ◌+◌, ◌<◌, ◌≤◌, ◌^◌, Bool, true, false, cond, List, [], ◌∷◌, ◌++◌, length, length-append, get_or, map, Option, Some, None, refl, sym, ap, subst, inl, inr, eq-eqb, ne_eqb, lit≤, arith}
use Rattle.std.specs.Prelude.{nat_eq, filter, count_by, sum_by, slice_get, if◌then◌else◌}
use Rattle.std.specs.List.{All, AllByRecursion, Contains, flat_map}
use Rattle.std.proofs.lemmas.Bool.{cases_eq}
use Rattle.std.proofs.lemmas.List.Elements.{recursion_from_All}
use Rattle.std.proofs.lemmas.List.Sums.{length-filter, sum_by-cons}
use Rattle.fr_digest.specs.Digest.{Digest}
use Rattle.fr_edges.specs.Wire.{WireView}
use Rattle.op_types.specs.declared.limits.TheConstants.{SEQ_MAX}
use Rattle.client_core.specs.Clients.{ClientView, Standing, client_view, opening_side}
use Rattle.client_core.specs.Sides.{SideView, place_of, side_of}
use Rattle.client_core.proofs.Places.{each-found}
use Rattle.hall_core.specs.declared.ask.Called.{Called}
use Rattle.hall_core.specs.declared.facts.WallFacts.{WallFacts}
use Rattle.hall_server.specs.declared.seats.Seats.{Seats}
use Rattle.hall_server.specs.declared.server.Server.{Server}
use Rattle.hall_server.specs.Seating.{IsSeatsOf, walls_of}
use Rattle.hall_server.specs.Sights.{Sight, sight_in, sights_of, unseen, user_of}
use Rattle.script_read.specs.declared.script.Command.{Command}
use Rattle.script_read.specs.declared.script.Script.{Script}
use Rattle.script_read.specs.declared.script.ScriptSession.{ScriptSession}
use Rattle.script_read.specs.declared.script.ScriptUser.{ScriptUser}
use Rattle.script_read.specs.Limits.{IsListedUser, IsScript}
use Rattle.script_read.specs.Users.{has_user}
use Rattle.script_read.specs.Walls.{has_wall}
use Rattle.script_read.specs.Writes.{is_write, phase_writes, session_writes, signatures}
use Rattle.script_read.specs.Writes as script
use Rattle.session_laws.specs.Doing.{PlainClient, plain, wall_of}
use Rattle.session_laws.specs.Readiness.{CanDo, IsFound, write_of, writes}
use Rattle.session_run.specs.Phases.{IsAsked}
use Rattle.session_run.specs.Views.{client_of}
use Rattle.run_phases.specs.declared.running.Running.{Running}
use Rattle.run_phases.specs.Members.{Member, member_at, members, times, users_of}
use Rattle.run_phases.specs.Phases.{AreMembers, CanPlay, IsPhase, IsSession, members_of, run_view}
use Rattle.run_phases.specs.Tasks.{commands_in, commands_of}
use Rattle.run_phases.proofs.Repeating.{writes-append}
use Rattle.run_phases.proofs.Tallies.{times-here, times-more, times-other}
use Rattle.run_start.specs.declared.begun.Start.{Start}
use Rattle.run_start.specs.Begins.{Begins, opening_sights, sight_of}
use Rattle.run_start.specs.Clients.{opening_client, shared_in, start_on, starts_of}
use Rattle.run_start.specs.Keys.{facts_at, keys_in, note_at, notes_in}
use Rattle.run_start.specs.Numbers.{Lists, the_user}
use Rattle.run_start.proofs.Chosen.{IsKnownUser, known-user}
use Rattle.run_start.proofs.Rows.{as-many, few-signatures}
use Rattle.run_script.specs.Runs.{opening_members}
use Rattle.run_script.proofs.Numbers.{listed-once, once-listed, once-rising}
use Rattle.run_script.proofs.Scripts.{script-phases}

-- ---- writes

writes-are : (cs : List Command) → writes cs ≡ count_by is_write cs
writes-are [] = refl
writes-are (c ∷ cs) =
    let rest = writes-are cs in
    let sum = sum_by-cons (λ (x : Command). cond (is_write x) 1 0) c cs in
    let e : writes (c ∷ cs) ≡ write_of c + writes cs = refl in
    omega (rest, sum, e, arith)

session-are : (user : ℕ) (s : ScriptSession)
    → writes (cond (nat_eq s.user user) s.commands []) ≡ session_writes user s
session-are user s = elim (nat_eq s.user user) as (λ (b : Bool). writes (cond b s.commands [])
    ≡ cond b (count_by is_write s.commands) 0) [
      | true ↦ writes-are s.commands
      | false ↦ refl
    ]

phase-are : (user : ℕ) (ss : List ScriptSession) → writes (commands_in user ss) ≡ phase_writes user ss
phase-are user [] = refl
phase-are user (s ∷ ss) =
    let sum = sum_by-cons (session_writes user) s ss in
    let cut = writes-append (cond (nat_eq s.user user) s.commands []) (commands_in user ss) in
    let first = session-are user s in
    let rest = phase-are user ss in
    omega (sum, cut, first, rest, arith)

all-are : (user : ℕ) (phases : List (List ScriptSession))
    → writes (commands_of user phases) ≡ sum_by (phase_writes user) phases
all-are user [] = refl
all-are user (p ∷ phases) =
    let sum = sum_by-cons (phase_writes user) p phases in
    let cut = writes-append (commands_in user p) (commands_of user phases) in
    let first = phase-are user p in
    let rest = all-are user phases in
    omega (sum, cut, first, rest, arith)

-- ---- walls of commands

module _ (walls users : List ℕ) (user : ℕ) where
  AsksWall : Command → Type 0
  AsksWall c = Contains walls (wall_of c)

  both : (xs ys : List Command) → AllByRecursion AsksWall xs → AllByRecursion AsksWall ys
      → AllByRecursion AsksWall (xs ++ ys)
  both [] ys all more = more
  both (x ∷ xs) ys all more = (all.0, both xs ys all.1 more)

  walls-asked : (cs : List Command) → AllByRecursion (IsAsked walls) cs → AllByRecursion AsksWall cs
  unfolding AsksWall
  walls-asked [] all = tt
  walls-asked (c ∷ cs) all = (all.0.listed, walls-asked cs all.1)

  walls-in : (ss : List ScriptSession)
      → AllByRecursion (λ (s : ScriptSession). AllByRecursion (IsAsked walls) s.commands) ss
      → AllByRecursion AsksWall (commands_in user ss)
  walls-in [] all = tt
  walls-in (s ∷ ss) all =
      both (cond (nat_eq s.user user) s.commands []) (commands_in user ss)
      (elim (nat_eq s.user user) as (λ (b : Bool). AllByRecursion AsksWall (cond b s.commands [])) [
        | true ↦ walls-asked s.commands all.0
        | false ↦ tt
      ]) (walls-in ss all.1)

sessions-asked : (walls users : List ℕ) (ss : List ScriptSession) → AllByRecursion (IsSession walls users) ss
    → AllByRecursion (λ (x : ScriptSession). AllByRecursion (IsAsked walls) x.commands) ss
sessions-asked walls users [] each = tt
sessions-asked walls users (x ∷ ss) each = (each.0.asked, sessions-asked walls users ss each.1)

-- ---- sides

module _ (f : ℕ → SideView) (own : (w : ℕ) → (f w).known.wall ≡ w) where
  found-first : (w wall : ℕ) (walls : List ℕ) → w ≡ wall → IsFound wall (map f (w ∷ walls))
  found-first w wall walls is = (
    f w,
    ap (λ (b : Bool). slice_get (map f (w ∷ walls)) (if b then 0 else suc (place_of wall (map f walls))))
        (eq-eqb (f w).known.wall wall (own w ∙ is)),
  )

  found-at : (walls : List ℕ) (k wall d : ℕ) → k < length walls → get_or walls k d ≡ wall → IsFound wall (map f walls)
  found-at [] k wall d lt is = absurd (omega (lt, arith))
  found-at (w ∷ walls) zero wall d lt is = found-first w wall walls is
  found-at (w ∷ walls) (suc k) wall d lt is = elim (cases_eq w wall) [
    | inl here ↦ found-first w wall walls here
    | inr ne ↦
        let rest = found-at walls k wall d (omega (lt, arith)) is in (
          rest.0,
          ap (λ (b : Bool). slice_get (map f (w ∷ walls)) (if b then 0 else suc (place_of wall (map f walls))))
              (ne_eqb (f w).known.wall wall (λ same. ne (sym (own w) ∙ same))) ∙ rest.1,
        )
  ]

  none-next : ((w : ℕ) → (f w).next ≡ 0) → (walls : List ℕ)
      → AllByRecursion (λ (x : SideView). x.next ≡ 0) (map f walls)
  none-next zero' [] = tt
  none-next zero' (w ∷ walls) = (zero' w, none-next zero' walls)

pub map-map : {A B C : Type 0} (f : A → B) (g : B → C) (xs : List A) → map g (map f xs) ≡ map (λ (x : A). g (f x)) xs
map-map f g [] = refl
map-map {C = C} f g (x ∷ xs) = ap (λ (l : List C). g (f x) ∷ l) (map-map f g xs)

pub map-same : (ns : List ℕ) → map (λ (n : ℕ). n) ns ≡ ns
map-same [] = refl
map-same (n ∷ ns) = ap (λ (l : List ℕ). n ∷ l) (map-same ns)

module _ (s : Script) (is : IsScript s) (users walls : List ℕ) (all_users : Lists (has_user s.users) users)
    (all_walls : Lists (has_wall s.walls) walls) where
  -- ---- what a client can do

  abbrev side-on : ℕ → ℕ → SideView
  side-on n w = opening_side n (start_on s (shared_in s users walls) (the_user s n) (note_at s w))

  pub sides-are : (n : ℕ) → (opening_client s users walls n).sides ≡ map (side-on n) walls
  sides-are n =
      ap (map (opening_side n)) (map-map (note_at s) (start_on s (shared_in s users walls) (the_user s n)) walls)
      ∙ map-map (λ (w : ℕ). start_on s (shared_in s users walls) (the_user s n) (note_at s w)) (opening_side n) walls

  asked-phases : (n : ℕ) (phases : List (List ScriptSession)) → AllByRecursion (IsPhase walls users) phases
      → AllByRecursion (AsksWall walls users n) (commands_of n phases)
  asked-phases n [] all = tt
  asked-phases n (p ∷ phases) all =
      both walls users n (commands_in n p) (commands_of n phases) (walls-in walls users n p (sessions-asked walls users p all.0.each))
      (asked-phases n phases all.1)

  walls-found : (n : ℕ) (cs : List Command) → AllByRecursion (AsksWall walls users n) cs
      → AllByRecursion (λ (c : Command). IsFound (wall_of c) (opening_client s users walls n).sides) cs
  unfolding AsksWall
  walls-found n [] all = tt
  walls-found n (c ∷ cs) all = (
    subst (IsFound (wall_of c)) (sym (sides-are n))
        (found-at (side-on n) (λ w. refl) walls all.0.0 (wall_of c) (wall_of c) all.0.1 all.0.2),
    walls-found n cs all.1,
  )

  pub can-open : (n : ℕ) → IsListedUser s n → CanDo (plain (opening_client s users walls n)) (commands_of n s.phases)
  can-open n listed =
      let known = known-user s is n listed in
      let u = the_user s n in
      let most : script.writes s n ≤ signatures u.lms =
      subst (λ (m : ℕ). script.writes s m ≤ signatures u.lms) known.number known.signed in
      let same = all-are n s.phases in
      let leaves = as-many u.lms u.ots known.ranges.lms known.ranges.ots in
      let few = few-signatures u.lms known.ranges.lms in
      let large : 1024 ≤ SEQ_MAX + 1 = lit≤ tt in
      record {
        walls = walls-found n (commands_of n s.phases)
            (asked-phases n s.phases (script-phases s users walls all_users all_walls is));
        leaves = omega (most, same, leaves, arith);
        numbers = λ wall x found.
            let none = each-found (λ (y : SideView). y.next ≡ 0) wall (opening_client s users walls n).sides x
            (subst (AllByRecursion (λ (y : SideView). y.next ≡ 0)) (sym (sides-are n))
            (none-next (side-on n) (λ w. refl) (λ w. refl) walls)) found in
            omega (most, same, few, large, none, arith);
      }

  -- ---- the users

  abbrev pub opened-as : ℕ → Member
  opened-as u = record {
    user = u;
    client = plain (opening_client s users walls u);
    seat = λ (wall : ℕ). sight_in (opening_sights s users walls) wall;
  }

  pub at-opened : (ns : List ℕ) (user : ℕ) → times user ns ≡ 1 → member_at user (map opened-as ns) ≡ opened-as user
  at-opened [] user one = absurd (omega (one, arith))
  at-opened (n ∷ ns) user one = elim (cases_eq n user) [
    | inl here ↦
        ap (λ (b : Bool). cond b (opened-as n) (member_at user (map opened-as ns))) (eq-eqb n user here)
        ∙ ap opened-as here
    | inr ne ↦
        let more = times-more user n ns in
        let other = times-other user n ne in
        ap (λ (b : Bool). cond b (opened-as n) (member_at user (map opened-as ns))) (ne_eqb n user ne)
        ∙ at-opened ns user (omega (one, more, other, arith))
  ]

  none-seen : (ws : List ℕ) (wall : ℕ)
      → (sight_in (map (λ (n : ℕ). sight_of (facts_at s (keys_in s users) n)) ws) wall).front ≡ []
  none-seen [] wall = refl
  none-seen (w ∷ ws) wall =
      elim (nat_eq w wall) as (λ (b : Bool). (cond b (sight_of (facts_at s (keys_in s users) w))
      (sight_in (map (λ (n : ℕ). sight_of (facts_at s (keys_in s users) n)) ws) wall)).front ≡ []) [
        | true ↦ refl
        | false ↦ none-seen ws wall
      ]

  pub unseen-open : (ns : List ℕ) (user wall : ℕ) → ((member_at user (map opened-as ns)).seat wall).front ≡ []
  unseen-open [] user wall = refl
  unseen-open (n ∷ ns) user wall =
      elim (nat_eq n user) as (λ (b : Bool). ((cond b (opened-as n) (member_at user (map opened-as ns))).seat wall).front
      ≡ []) [
        | true ↦ none-seen walls wall
        | false ↦ unseen-open ns user wall
      ]

  module _ {D : Type 0} where
    opened : (cs : List Standing) (ss : List (Seats D)) (ns : List ℕ)
        → map client_view cs ≡ map (opening_client s users walls) ns → map user_of ss ≡ ns
        → AllByRecursion (λ (x : Seats D). sights_of x ≡ opening_sights s users walls) ss
        → members cs ss ≡ map opened-as ns
    opened [] [] [] clients seated sights = refl
    opened [] [] (n ∷ ns) clients seated sights = absurd cc
    opened [] (t ∷ ss) [] clients seated sights = absurd cc
    opened [] (t ∷ ss) (n ∷ ns) clients seated sights = absurd cc
    opened (c ∷ cs) [] [] clients seated sights = absurd cc
    opened (c ∷ cs) [] (n ∷ ns) clients seated sights = absurd cc
    opened (c ∷ cs) (t ∷ ss) [] clients seated sights = absurd cc
    opened (c ∷ cs) (t ∷ ss) (n ∷ ns) clients seated sights =
        let client : client_view c ≡ opening_client s users walls n = cc in
        let rest : map client_view cs ≡ map (opening_client s users walls) ns = cc in
        let user : user_of t ≡ n = cc in
        let users' : map user_of ss ≡ ns = cc in
        let more = opened cs ss ns rest users' sights.1 in
        λ i. record {
          user = user i;
          client = plain (client i);
          seat = λ (wall : ℕ). sight_in (sights.0 i) wall;
        } ∷ more i

    -- ---- the run

    module _ {W : Type 0} (d : Digest) (view : W → WireView) (server : Server D) (run : Running D W)
        (clients : map client_view run.clients.items ≡ map (opening_client s users walls) users)
        (seated : map user_of run.seats.items ≡ users)
        (sights : All (λ (x : Seats D). sights_of x ≡ opening_sights s users walls) run.seats.items)
        (seats : All (IsSeatsOf d server) run.seats.items) (walls_are : walls_of server ≡ walls)
        (sixteen : length run.wires.items ≡ 16) where
      pub members-open : members_of run ≡ map opened-as users
      members-open =
          opened run.clients.items run.seats.items users clients seated
          (recursion_from_All (λ (x : Seats D). sights_of x ≡ opening_sights s users walls) run.seats.items sights)

      pub unseen-of : (user wall : ℕ) → ((run_view view run).seat user wall).front ≡ []
      unseen-of user wall =
          ap (λ (ms : List Member). ((member_at user ms).seat wall).front) members-open ∙ unseen-open users user wall

      users-of : map (λ (c : Standing). (client_of c).user) run.clients.items ≡ users
      users-of =
          sym (map-map client_view (λ (c : ClientView). c.book.user) run.clients.items)
          ∙ ap (map (λ (c : ClientView). c.book.user)) clients
          ∙ map-map (opening_client s users walls) (λ (c : ClientView). c.book.user) users ∙ map-same users

      pub can-play : CanPlay d server run s.phases
      can-play = record {
        members = record {
          same = users-of ∙ sym seated;
          once = λ user. subst (λ (l : List ℕ). times user l ≤ 1) (sym seated) (once-rising user users all_users.rise);
          seated = recursion_from_All (IsSeatsOf d server) run.seats.items seats;
        };
        wires = sixteen;
        each = subst (λ (us : List ℕ). AllByRecursion (IsPhase (walls_of server) us) s.phases) (sym seated)
            (subst (λ (ws : List ℕ). AllByRecursion (IsPhase ws users) s.phases) (sym walls_are)
            (script-phases s users walls all_users all_walls is));
        can = λ user one.
            let there : times user users ≡ 1 = subst (λ (l : List ℕ). times user l ≡ 1) seated one in
            let listed : IsListedUser s user = once-listed (IsListedUser s) users
            (recursion_from_All (IsListedUser s) users all_users.each) user there in
            subst (λ (c : PlainClient). CanDo c (commands_of user s.phases))
            (sym (ap (λ (ms : List Member). (member_at user ms).client) members-open
            ∙ ap (λ (m : Member). m.client) (at-opened users user there)))
            (can-open user listed);
      }
