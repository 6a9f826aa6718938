-- Sessions get their lanes, one after the other.
use Rattle.std.proofs.Common.{◌≡◌, ◌∙◌, ℕ, zero, suc, ◌+◌, ◌≤◌, List, [], ◌∷◌, ◌++◌, length, map, refl, sym, ap, subst, append_assoc, arith}
use Rattle.std.specs.List.{AllByRecursion, AllZip}
use Rattle.std.proofs.lemmas.List.{map-append}
use Rattle.fr_bytes.proofs.Lists.{allzip-append, each-append}
use Rattle.fr_digest.specs.Digest.{Digest}
use Rattle.client_core.specs.Clients.{Standing}
use Rattle.hall_server.specs.declared.seats.Seats.{Seats}
use Rattle.hall_server.specs.declared.server.Server.{Server}
use Rattle.hall_server.specs.Seating.{IsSeatsOf}
use Rattle.hall_server.specs.Sights.{user_of}
use Rattle.script_read.specs.declared.script.ScriptSession.{ScriptSession}
use Rattle.script_form.specs.declared.outcome.Outcome.{Outcome}
use Rattle.session_run.specs.declared.lane.Lane.{Lane}
use Rattle.session_run.specs.Views.{client_of}
use Rattle.run_phases.specs.declared.running.Running.{Running}
use Rattle.run_phases.specs.Members.{Member, member_of, members, times, users_of}
use Rattle.run_phases.specs.Phases.{AreMembers, Entered, IsLaneOf, LaneTaken, Moved, TakesOut, lane_member, members_of}
use Rattle.run_phases.proofs.Tallies.{moved-more, moved-nothing}

-- ---- lists that are cut at the same place

pub cut-front : {A : Type 0} (xs ys zs ws : List A) (x z : A) → length xs ≡ length zs → xs ++ x ∷ ys ≡ zs ++ z ∷ ws → xs ≡ zs
cut-front [] ys [] ws x z long e = refl
cut-front [] ys (b ∷ zs) ws x z long e = absurd (omega arith)
cut-front (a ∷ xs) ys [] ws x z long e = absurd (omega arith)
cut-front {A} (a ∷ xs) ys (b ∷ zs) ws x z long e =
    let first : a ≡ b = cc in
    let rest : xs ++ x ∷ ys ≡ zs ++ z ∷ ws = cc in
    let more = cut-front xs ys zs ws x z (omega arith) rest in
    λ i. first i ∷ more i

pub cut-here : {A : Type 0} (xs ys zs ws : List A) (x z : A) → length xs ≡ length zs → xs ++ x ∷ ys ≡ zs ++ z ∷ ws → x ≡ z
cut-here [] ys [] ws x z long e = cc
cut-here [] ys (b ∷ zs) ws x z long e = absurd (omega arith)
cut-here (a ∷ xs) ys [] ws x z long e = absurd (omega arith)
cut-here (a ∷ xs) ys (b ∷ zs) ws x z long e =
    let rest : xs ++ x ∷ ys ≡ zs ++ z ∷ ws = cc in
    cut-here xs ys zs ws x z (omega arith) rest

pub cut-back : {A : Type 0} (xs ys zs ws : List A) (x z : A) → length xs ≡ length zs → xs ++ x ∷ ys ≡ zs ++ z ∷ ws → ys ≡ ws
cut-back [] ys [] ws x z long e = cc
cut-back [] ys (b ∷ zs) ws x z long e = absurd (omega arith)
cut-back (a ∷ xs) ys [] ws x z long e = absurd (omega arith)
cut-back (a ∷ xs) ys (b ∷ zs) ws x z long e =
    let rest : xs ++ x ∷ ys ≡ zs ++ z ∷ ws = cc in
    cut-back xs ys zs ws x z (omega arith) rest

pub each-front : {A : Type 0} (P : A → Type 0) (xs ys : List A) → AllByRecursion P (xs ++ ys) → AllByRecursion P xs
each-front P [] ys all = tt
each-front P (x ∷ xs) ys all = (all.0, each-front P xs ys all.1)

pub each-back : {A : Type 0} (P : A → Type 0) (xs ys : List A) → AllByRecursion P (xs ++ ys) → AllByRecursion P ys
each-back P [] ys all = all
each-back P (x ∷ xs) ys all = each-back P xs ys all.1

length-users : {A : Type 0} (f : A → ℕ) (xs : List A) → length (map f xs) ≡ length xs
length-users f [] = refl
length-users f (x ∷ xs) = ap suc (length-users f xs)

module _ {D : Type 0} where
  -- ---- clients with their seats

  pub members-append : (cs : List Standing) (ss : List (Seats D)) (cs' : List Standing) (ss' : List (Seats D))
      → length cs ≡ length ss → members (cs ++ cs') (ss ++ ss') ≡ members cs ss ++ members cs' ss'
  members-append [] [] cs' ss' even = refl
  members-append [] (s ∷ ss) cs' ss' even = absurd (omega arith)
  members-append (c ∷ cs) [] cs' ss' even = absurd (omega arith)
  members-append (c ∷ cs) (s ∷ ss) cs' ss' even =
      ap (λ (l : List Member). member_of c s ∷ l) (members-append cs ss cs' ss' (omega arith))

  pub users-members : (cs : List Standing) (ss : List (Seats D)) → length cs ≡ length ss
      → users_of (members cs ss) ≡ map user_of ss
  users-members [] [] even = refl
  users-members [] (s ∷ ss) even = absurd (omega arith)
  users-members (c ∷ cs) [] even = absurd (omega arith)
  users-members (c ∷ cs) (s ∷ ss) even = ap (λ (l : List ℕ). user_of s ∷ l) (users-members cs ss (omega arith))

  pub even-of : (cs : List Standing) (ss : List (Seats D))
      → map (λ (c : Standing). (client_of c).user) cs ≡ map user_of ss → length cs ≡ length ss
  even-of cs ss same =
      sym (length-users (λ (c : Standing). (client_of c).user) cs) ∙ ap (λ (l : List ℕ). length l) same
      ∙ length-users user_of ss

  -- ---- a user is taken out

  module _ (d : Digest) (server : Server D) (user : ℕ) (cs cs' : List Standing) (ss ss' : List (Seats D)) (c : Standing)
      (s : Seats D) (are : AreMembers d server cs ss) (t : TakesOut user cs cs' ss ss' c s) where
    users-cut : map (λ (x : Standing). (client_of x).user) t.front ++ (client_of c).user
        ∷ map (λ (x : Standing). (client_of x).user) t.back ≡ map user_of t.before ++ user_of s ∷ map user_of t.behind
    users-cut =
        sym (map-append (λ (x : Standing). (client_of x).user) t.front (c ∷ t.back))
        ∙ ap (map (λ (x : Standing). (client_of x).user)) (sym t.clients_are) ∙ are.same ∙ ap (map user_of) t.seats_are
        ∙ map-append user_of t.before (s ∷ t.behind)

    even-users : length (map (λ (x : Standing). (client_of x).user) t.front) ≡ length (map user_of t.before)
    even-users =
        length-users (λ (x : Standing). (client_of x).user) t.front ∙ t.even ∙ sym (length-users user_of t.before)

    pub own-user : (client_of c).user ≡ user_of s
    own-user = cut-here (map (λ (x : Standing). (client_of x).user) t.front)
        (map (λ (x : Standing). (client_of x).user) t.back) (map user_of t.before) (map user_of t.behind)
        (client_of c).user (user_of s) even-users users-cut

    pub own-seats : IsSeatsOf d server s
    own-seats = (each-back (IsSeatsOf d server) t.before (s ∷ t.behind)
        (subst (AllByRecursion (IsSeatsOf d server)) t.seats_are are.seated)).0

    pub members-cut : members cs ss ≡ members t.front t.before ++ member_of c s ∷ members t.back t.behind
    members-cut =
        (λ i. members (t.clients_are i) (t.seats_are i))
        ∙ members-append t.front t.before (c ∷ t.back) (s ∷ t.behind) t.even

    pub members-left : members cs' ss' ≡ members t.front t.before ++ members t.back t.behind
    members-left =
        (λ i. members (t.clients_left i) (t.seats_left i)) ∙ members-append t.front t.before t.back t.behind t.even

    fewer : (u : ℕ) → times u (map user_of (t.before ++ t.behind)) ≤ times u (map user_of (t.before ++ s ∷ t.behind))
    fewer u = fewer-in t.before
      where
        fewer-in : (xs : List (Seats D))
            → times u (map user_of (xs ++ t.behind)) ≤ times u (map user_of (xs ++ s ∷ t.behind))
        fewer-in [] = omega arith
        fewer-in (x ∷ xs) = let e = fewer-in xs in omega arith

    pub are-left : AreMembers d server cs' ss'
    are-left = record {
      same =
          ap (map (λ (x : Standing). (client_of x).user)) t.clients_left
          ∙ map-append (λ (x : Standing). (client_of x).user) t.front t.back
          ∙ (λ i. cut-front (map (λ (x : Standing). (client_of x).user) t.front)
          (map (λ (x : Standing). (client_of x).user) t.back) (map user_of t.before) (map user_of t.behind)
          (client_of c).user (user_of s) even-users users-cut i
          ++ cut-back (map (λ (x : Standing). (client_of x).user) t.front)
          (map (λ (x : Standing). (client_of x).user) t.back) (map user_of t.before) (map user_of t.behind)
          (client_of c).user (user_of s) even-users users-cut i)
          ∙ sym (map-append user_of t.before t.behind) ∙ ap (map user_of) (sym t.seats_left);
      once = λ u.
          let le = fewer u in
          let most : times u (map user_of (t.before ++ s ∷ t.behind)) ≤ 1 =
          subst (λ (l : List (Seats D)). times u (map user_of l) ≤ 1) t.seats_are (are.once u) in
          subst (λ (l : List (Seats D)). times u (map user_of l) ≤ 1) (sym t.seats_left)
          (let r : times u (map user_of (t.before ++ t.behind)) ≤ 1 = omega arith in r);
      seated =
          let whole = subst (AllByRecursion (IsSeatsOf d server)) t.seats_are are.seated in
          subst (AllByRecursion (IsSeatsOf d server)) (sym t.seats_left)
          (each-append (IsSeatsOf d server) t.before t.behind
          (each-front (IsSeatsOf d server) t.before (s ∷ t.behind) whole)
          (each-back (IsSeatsOf d server) t.before (s ∷ t.behind) whole).1);
    }

-- ---- one session more

module _ {D W : Type 0} (d : Digest) (server : Server D) where
  pub entered-nothing : (run : Running D W) → AreMembers d server run.clients.items run.seats.items
      → Entered d server [] run run []
  entered-nothing run are = record {
    moved = moved-nothing (members_of run);
    left = are;
    wires = refl;
    outcomes = refl;
    each = tt;
  }

  zip-push : (sessions : List ScriptSession) (lanes : List (Lane D W)) (s : ScriptSession) (lane : Lane D W)
      → AllZip (IsLaneOf d server) sessions lanes → IsLaneOf d server s lane
      → AllZip (IsLaneOf d server) (sessions ++ s ∷ []) (lanes ++ lane ∷ [])
  zip-push sessions lanes s lane all one =
      allzip-append (IsLaneOf d server) sessions lanes (s ∷ []) (lane ∷ []) all (one, tt)

  pub entered-more : (sessions : List ScriptSession) (before now now' : Running D W) (lanes : List (Lane D W))
      (s : ScriptSession) (lane : Lane D W) → ((u : ℕ) → times u (users_of (members_of before)) ≤ 1)
      → Entered d server sessions before now lanes → LaneTaken s now now' lane
      → Entered d server (sessions ++ s ∷ []) before now' (lanes ++ lane ∷ [])
  entered-more sessions before now now' lanes s lane once e t =
      let k = t.taken in
      let cs = now.clients.items in
      let cs' = now'.clients.items in
      let ss = now.seats.items in
      let ss' = now'.seats.items in
      let m = lane_member lane in
      let front = members k.front k.before in
      let back = members k.back k.behind in
      let gone = map (λ (l : Lane D W). lane_member l) lanes in
      let more : Moved (members_of before) (front ++ back) (gone ++ m ∷ []) =
      moved-more (members_of before) front back gone m once
      (subst (λ (l : List Member). Moved (members_of before) l gone)
      (members-cut d server s.user cs cs' ss ss' lane.session.client lane.session.seats e.left k) e.moved) in
      record {
        moved =
            subst (λ (l : List Member). Moved (members_of before) (members_of now') l)
            (sym (map-append (λ (l : Lane D W). lane_member l) lanes (lane ∷ [])))
            (subst (λ (l : List Member). Moved (members_of before) l (gone ++ m ∷ []))
            (sym (members-left d server s.user cs cs' ss ss' lane.session.client lane.session.seats e.left k)) more);
        left = are-left d server s.user cs cs' ss ss' lane.session.client lane.session.seats e.left k;
        wires =
            e.wires ∙ ap (λ (ws : List W). map (λ (l : Lane D W). l.wire) lanes ++ ws) t.wire
            ∙ sym (append_assoc (map (λ (l : Lane D W). l.wire) lanes) (lane.wire ∷ []) now'.wires.items)
            ∙ ap (λ (ws : List W). ws ++ now'.wires.items)
            (sym (map-append (λ (l : Lane D W). l.wire) lanes (lane ∷ [])));
        outcomes = t.outcomes_left ∙ e.outcomes;
        each = zip-push sessions lanes s lane e.each (record {
          seats = own-seats d server s.user cs cs' ss ss' lane.session.client lane.session.seats e.left k;
          user = own-user d server s.user cs cs' ss ss' lane.session.client lane.session.seats e.left k;
          user_is = k.user_is;
          commands = t.commands;
          outcomes = t.outcomes;
          whole = t.whole;
        });
      }
