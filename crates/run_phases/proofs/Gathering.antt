-- All users meet behind the lanes of a phase.
use Rattle.std.proofs.Common.{◌≡◌, ◌∙◌, ℕ, suc, ◌+◌, Bool, true, false, cond, List, [], ◌∷◌, ◌++◌, length, map, refl, sym, ap, subst, inl, inr, eq-eqb, ne_eqb, arith}
use Rattle.std.specs.Prelude.{nat_eq}
use Rattle.std.specs.List.{AllByRecursion, AllZip}
use Rattle.std.proofs.lemmas.Bool.{cases_eq}
use Rattle.std.proofs.lemmas.List.{append-nil, append_cancel_left, map-append}
use Rattle.fr_bytes.specs.History.{Begins, own}
use Rattle.fr_bytes.specs.History as histories
use Rattle.fr_bytes.proofs.HistoryLaws.{begins_itself, turns_stay}
use Rattle.fr_digest.specs.Digest.{Digest}
use Rattle.fr_edges.specs.Wire.{WireView}
use Rattle.hall_core.specs.declared.ask.Ask.{Ask}
use Rattle.hall_core.specs.declared.ask.Called.{Called}
use Rattle.hall_core.specs.declared.facts.WallFacts.{WallFacts}
use Rattle.hall_core.specs.Calls.{Turn, caller_of, left_by, turns}
use Rattle.op_types.specs.declared.op.Leaf.{Leaf}
use Rattle.client_core.specs.Clients.{Standing}
use Rattle.hall_server.specs.declared.seats.Seats.{Seats}
use Rattle.hall_server.specs.Meetings.{HasMet, KnowsOf, SawMore}
use Rattle.hall_server.specs.Sights.{Sight, sight_at, unseen, user_of}
use Rattle.session_laws.specs.Doing.{Exchange, Heard, Task, dids, exchanges_of, on, over, all_dids, stream}
use Rattle.session_laws.specs.Halves.{SeatHalf, Serves, WireHalf}
use Rattle.session_laws.specs.Histories.{IsUser, PhaseFronts, Together, asks_of}
use Rattle.session_laws.specs.Runs.{PhaseRun, RunView}
use Rattle.session_laws.proofs.Fronts.{one-stretch}
use Rattle.session_laws.proofs.Stretches.{seat-then}
use Rattle.run_phases.specs.Members.{Member, member_at, member_of, members, times, users_of}
use Rattle.run_phases.specs.Phases.{Grown, PlayedPhase, asks_on, fronts}
use Rattle.run_phases.proofs.Tallies.{times-more, times-other}

-- ---- members that met

saw-nothing : (user : ℕ) (s : Sight) → SawMore user s s
saw-nothing user s = record {
  same = refl;
  sees = record { begins = begins_itself s.front; mine = refl };
  shown = refl;
}

module _ {D : Type 0} where
  pub met-client : (cs : List Standing) (ss ss' : List (Seats D)) → AllZip HasMet ss ss' → (user : ℕ)
      → (member_at user (members cs ss')).client ≡ (member_at user (members cs ss)).client
  met-client [] ss ss' met user = refl
  met-client (c ∷ cs) [] [] met user = refl
  met-client (c ∷ cs) [] (t ∷ ss') met user = absurd met
  met-client (c ∷ cs) (s ∷ ss) [] met user = absurd met
  met-client (c ∷ cs) (s ∷ ss) (t ∷ ss') met user = elim (cases_eq (user_of s) user) [
    | inl is ↦
        ap (λ (b : Bool). (cond b (member_of c t) (member_at user (members cs ss'))).client)
        (eq-eqb (user_of t) user (met.0.user ∙ is))
        ∙ sym (ap (λ (b : Bool). (cond b (member_of c s) (member_at user (members cs ss))).client)
        (eq-eqb (user_of s) user is))
    | inr ne ↦
        ap (λ (b : Bool). (cond b (member_of c t) (member_at user (members cs ss'))).client)
        (ne_eqb (user_of t) user (λ is. ne (sym met.0.user ∙ is)))
        ∙ met-client cs ss ss' met.1 user
        ∙ sym (ap (λ (b : Bool). (cond b (member_of c s) (member_at user (members cs ss))).client)
        (ne_eqb (user_of s) user ne))
  ]

  pub met-seat : (cs : List Standing) (ss ss' : List (Seats D)) → AllZip HasMet ss ss' → (user wall : ℕ)
      → SawMore user ((member_at user (members cs ss)).seat wall) ((member_at user (members cs ss')).seat wall)
  met-seat [] ss ss' met user wall = saw-nothing user unseen
  met-seat (c ∷ cs) [] [] met user wall = saw-nothing user unseen
  met-seat (c ∷ cs) [] (t ∷ ss') met user wall = absurd met
  met-seat (c ∷ cs) (s ∷ ss) [] met user wall = absurd met
  met-seat (c ∷ cs) (s ∷ ss) (t ∷ ss') met user wall = elim (cases_eq (user_of s) user) [
    | inl is ↦
        let now : (cond (nat_eq (user_of t) user) (member_of c t) (member_at user (members cs ss'))).seat wall
        ≡ sight_at t wall =
        ap (λ (b : Bool). (cond b (member_of c t) (member_at user (members cs ss'))).seat wall)
        (eq-eqb (user_of t) user (met.0.user ∙ is)) in
        let before : (cond (nat_eq (user_of s) user) (member_of c s) (member_at user (members cs ss))).seat wall
        ≡ sight_at s wall =
        ap (λ (b : Bool). (cond b (member_of c s) (member_at user (members cs ss))).seat wall)
        (eq-eqb (user_of s) user is) in
        subst (λ (x : Sight). SawMore user x
        ((cond (nat_eq (user_of t) user) (member_of c t) (member_at user (members cs ss'))).seat wall)) (sym before)
        (subst (λ (x : Sight). SawMore user (sight_at s wall) x) (sym now)
        (subst (λ (u : ℕ). SawMore u (sight_at s wall) (sight_at t wall)) is (met.0.sights wall)))
    | inr ne ↦
        let now : (cond (nat_eq (user_of t) user) (member_of c t) (member_at user (members cs ss'))).seat wall
        ≡ (member_at user (members cs ss')).seat wall =
        ap (λ (b : Bool). (cond b (member_of c t) (member_at user (members cs ss'))).seat wall)
        (ne_eqb (user_of t) user (λ is. ne (sym met.0.user ∙ is))) in
        let before : (cond (nat_eq (user_of s) user) (member_of c s) (member_at user (members cs ss))).seat wall
        ≡ (member_at user (members cs ss)).seat wall =
        ap (λ (b : Bool). (cond b (member_of c s) (member_at user (members cs ss))).seat wall)
        (ne_eqb (user_of s) user ne) in
        subst (λ (x : Sight). SawMore user x
        ((cond (nat_eq (user_of t) user) (member_of c t) (member_at user (members cs ss'))).seat wall)) (sym before)
        (subst (λ (x : Sight). SawMore user ((member_at user (members cs ss)).seat wall) x) (sym now)
        (met-seat cs ss ss' met.1 user wall))
  ]

  pub met-users : (ss ss' : List (Seats D)) → AllZip HasMet ss ss' → map user_of ss' ≡ map user_of ss
  met-users [] [] met = refl
  met-users [] (t ∷ ss') met = absurd met
  met-users (s ∷ ss) [] met = absurd met
  met-users (s ∷ ss) (t ∷ ss') met = λ i. met.0.user i ∷ met-users ss ss' met.1 i

  -- what holds of each user's seats holds of what a user is seen to have
  pub at-found : (P : Seats D → Type 0) (cs : List Standing) (ss : List (Seats D)) → length cs ≡ length ss
      → AllByRecursion P ss → (user : ℕ) → times user (map user_of ss) ≡ 1
      → (s : Seats D) × P s × ((member_at user (members cs ss)).seat ≡ sight_at s)
  at-found P cs [] even all user one = absurd (omega (one, arith))
  at-found P [] (s ∷ ss) even all user one = absurd (omega arith)
  at-found P (c ∷ cs) (s ∷ ss) even all user one = elim (cases_eq (user_of s) user) [
    | inl is ↦ (
      s,
      all.0,
      ap (λ (b : Bool). (cond b (member_of c s) (member_at user (members cs ss))).seat) (eq-eqb (user_of s) user is),
    )
    | inr ne ↦
        let no = ne_eqb (user_of s) user ne in
        let other = times-other user (user_of s) ne in
        let sum = times-more user (user_of s) (map user_of ss) in
        let rest : times user (map user_of ss) ≡ 1 = omega (one, sum, other, arith) in
        let more = at-found P cs ss (omega arith) all.1 user rest in (
          more.0,
          more.1,
          ap (λ (b : Bool). (cond b (member_of c s) (member_at user (members cs ss))).seat) no ∙ more.2,
        )
  ]

-- ---- runs that met

-- A run in which all of these users met: only what they have seen has changed.
pub record MetRun (users : List ℕ) (mid now : RunView) : Type 0 where
  pub client : (user : ℕ) → now.client user ≡ mid.client user
  pub saw : (user wall : ℕ) → SawMore user (mid.seat user wall) (now.seat user wall)
  pub wire : (session : ℕ) → now.wire session ≡ mid.wire session
  pub outcomes : now.outcomes ≡ mid.outcomes
  pub told : (user other : ℕ) → IsUser users user → IsUser users other → (wall : ℕ)
      → Begins (mid.seat other wall).front (now.seat user wall).front

pub seat-met : (d : Digest) (user : ℕ) (mid now : Sight) → SawMore user mid now → SeatHalf d user mid now []
seat-met d user mid now m = record {
  kept = m.same;
  begins = m.sees.begins;
  news = [];
  turned =
      turns_stay caller_of (List Leaf) (left_by d mid.facts) [] user mid.front now.front m.sees.begins m.sees.mine
      ∙ sym (append-nil (turns d mid.facts user mid.front));
  served = tt;
  shown = m.shown;
}

-- the entries of a caller are those of its turns
pub own-calls : (d : Digest) (facts : WallFacts) (user : ℕ) (leaves : List Leaf) (calls : List Called)
    → map (λ (t : Turn). t.call) (histories.turns caller_of (left_by d facts) leaves user calls)
    ≡ own caller_of user calls
own-calls d facts user leaves [] = refl
own-calls d facts user leaves (c ∷ calls) =
    let next = left_by d facts leaves c in
    let rest = histories.turns caller_of (left_by d facts) next user calls in
    let first : Turn = record { call = c; left = next } in
    elim (cases_eq c.caller user) [
      | inl is ↦
          let yes = eq-eqb c.caller user is in
          ap (λ (b : Bool). map (λ (t : Turn). t.call) (cond b (first ∷ []) [] ++ rest)) yes
          ∙ ap (λ (l : List Called). c ∷ l) (own-calls d facts user next calls)
          ∙ sym (ap (λ (b : Bool). cond b (c ∷ own caller_of user calls) (own caller_of user calls)) yes)
      | inr ne ↦
          let no = ne_eqb c.caller user ne in
          ap (λ (b : Bool). map (λ (t : Turn). t.call) (cond b (first ∷ []) [] ++ rest)) no
          ∙ own-calls d facts user next calls
          ∙ sym (ap (λ (b : Bool). cond b (c ∷ own caller_of user calls) (own caller_of user calls)) no)
    ]

-- the turns that served exchanges asked what these ask
pub served-asks : (d : Digest) (facts : WallFacts) (xs : List Exchange) (ts : List Turn)
    → AllZip (Serves d facts) xs ts
    → asks_of (map (λ (t : Turn). t.call) ts) ≡ map (λ (x : Exchange). x.ask) xs
served-asks d facts [] [] all = refl
served-asks d facts [] (t ∷ ts) all = absurd all
served-asks d facts (x ∷ xs) [] all = absurd all
served-asks d facts (x ∷ xs) (t ∷ ts) all = λ i. all.0.asks i ∷ served-asks d facts xs ts all.1 i

module _ (d : Digest) (u : ℕ) (users : List ℕ) (before mid now : RunView) (tasks : List Task)
    (p : PhaseRun d before mid tasks) (m : MetRun (u ∷ users) mid now) where
  exchanges : ℕ → ℕ → List Exchange
  exchanges user wall = on wall (exchanges_of (dids d (before.client user) (stream user p.heards)))

  pub met-run : PhaseRun d before now tasks
  met-run = record {
    heards = p.heards;
    asked = p.asked;
    bytes = p.bytes;
    clients = λ user. m.client user ∙ p.clients user;
    seats = λ user wall.
        let xs = on wall (exchanges_of (dids d (before.client user) (stream user p.heards))) in
        subst (λ (l : List Exchange). SeatHalf d user (before.seat user wall) (now.seat user wall) l) (append-nil xs)
        (seat-then d user (before.seat user wall) (mid.seat user wall) (now.seat user wall) xs [] (p.seats user wall)
        (seat-met d user (mid.seat user wall) (now.seat user wall) (m.saw user wall)));
    wires = λ session.
        subst (λ (w : WireView). WireHalf (before.wire session) w
        (exchanges_of (over session (all_dids d before.client p.heards)))) (sym (m.wire session)) (p.wires session);
    told = m.outcomes ∙ p.told;
  }

  news : ℕ → ℕ → List Called
  news wall user = map (λ (t : Turn). t.call) (p.seats user wall).news

  own-more : (wall user : ℕ) → own caller_of user (fronts mid wall user)
      ≡ own caller_of user (fronts before wall user) ++ map (λ (t : Turn). t.call) (p.seats user wall).news
  own-more wall user =
      let half = p.seats user wall in
      let facts = (before.seat user wall).facts in
      sym (own-calls d facts user [] (fronts mid wall user)) ∙ ap (map (λ (t : Turn). t.call)) half.turned
      ∙ map-append (λ (t : Turn). t.call) (turns d facts user (fronts before wall user)) half.news
      ∙ ap (λ (l : List Called). l ++ map (λ (t : Turn). t.call) half.news)
      (own-calls d facts user [] (fronts before wall user))

  grown : (wall : ℕ) (history : List Called) → Together (u ∷ users) (fronts before wall) history
      → Grown d (u ∷ users) before now p.heards wall history
  grown wall history together =
      let news-of = λ (user : ℕ). let e : List Called = map (λ (t : Turn). t.call) (p.seats user wall).news in e in
      let steps : PhaseFronts (u ∷ users) (fronts before wall) (fronts mid wall) (fronts now wall) news-of = record {
        begins = λ user is. (p.seats user wall).begins;
        own_news = λ user is. own-more wall user;
        told = λ user other is that. m.told user other is that wall;
        mine = λ user is. (m.saw user wall).sees.mine;
      } in
      let one = one-stretch u users (fronts before wall) (fronts mid wall) (fronts now wall) news-of history together
      steps in
      record {
        stretch = one.stretch;
        together = one.together;
        asked = λ user is.
            ap asks_of (one.own_news user is)
            ∙ served-asks d (before.seat user wall).facts
            (on wall (exchanges_of (dids d (before.client user) (stream user p.heards)))) (p.seats user wall).news
            (p.seats user wall).served;
      }

  pub phase-played : PlayedPhase d (u ∷ users) before now tasks
  unfolding met-run
  phase-played = record { run = met-run; grown = λ wall history together. grown wall history together }
