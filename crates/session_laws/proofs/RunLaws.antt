-- Runs: no task, one stretch after another, and a lane.
use Rattle.std.proofs.Common.{◌≡◌, ◌∙◌, ℕ, Bool, true, false, cond, List, [], ◌∷◌, ◌++◌, map, refl, sym, ap, subst, append_assoc, inl, inr, eq-eqb, ne_eqb}
use Rattle.std.specs.Prelude.{nat_eq}
use Rattle.std.specs.List.{AllByRecursion}
use Rattle.std.proofs.lemmas.Bool.{cases_eq}
use Rattle.std.proofs.lemmas.List.{append-nil, map-append}
use Rattle.fr_bytes.proofs.Lists.{each-append}
use Rattle.fr_digest.specs.Digest.{Digest}
use Rattle.fr_edges.specs.Wire.{WireView}
use Rattle.script_form.specs.declared.outcome.Outcome.{Outcome}
use Rattle.session_laws.specs.Doing.{Did, Exchange, Heard, PlainClient, Task, all_dids, client_of, dids, exchanges_of, last, on, outcomes_of, over, stream}
use Rattle.hall_server.specs.Sights.{Sight}
use Rattle.session_laws.specs.Halves.{SeatHalf, WireHalf}
use Rattle.session_laws.specs.Lanes.{HeardBytes, LaneRun, LaneView}
use Rattle.session_laws.specs.Runs.{Enters, IsOf, PhaseRun, RunView, with_lane}
use Rattle.session_laws.proofs.Stretches.{seat-nothing, seat-then, wire-nothing, wire-then}
use Rattle.session_laws.proofs.Streams.{AreOf, all-append, all-own, client-append, dids-append, exchanges-append, on-append, outcomes-append, over-append, over-other, over-own, stream-append, stream-other, stream-own}

pub run-nothing : (d : Digest) (run : RunView) → PhaseRun d run run []
run-nothing d run = record {
  heards = [];
  asked = refl;
  bytes = tt;
  clients = λ user. refl;
  seats = λ user wall. seat-nothing d user (run.seat user wall);
  wires = λ session. wire-nothing (run.wire session);
  told = sym (append-nil run.outcomes);
}

pub run-then : (d : Digest) (a b c : RunView) (ps qs : List Task) → PhaseRun d a b ps → PhaseRun d b c qs
    → PhaseRun d a c (ps ++ qs)
run-then d a b c ps qs p q =
    let hs = p.heards in
    let ks = q.heards in
    let all : all_dids d a.client (hs ++ ks) ≡ all_dids d a.client hs ++ all_dids d b.client ks =
    all-append d a.client b.client hs ks p.clients in
    let mine = λ (u : ℕ).
    let e : dids d (a.client u) (stream u (hs ++ ks)) ≡ dids d (a.client u) (stream u hs) ++ dids d (b.client u) (stream u ks) =
    ap (dids d (a.client u)) (stream-append u hs ks)
    ∙ dids-append d (a.client u) (stream u hs) (stream u ks)
    ∙ ap (λ (k : PlainClient). dids d (a.client u) (stream u hs) ++ dids d k (stream u ks)) (sym (p.clients u)) in e in
    record {
      heards = hs ++ ks;
      asked = map-append (λ (h : Heard). h.task) hs ks ∙ (λ i. p.asked i ++ q.asked i);
      bytes = each-append HeardBytes hs ks p.bytes q.bytes;
      clients = λ u.
          q.clients u ∙ ap (λ (k : PlainClient). last d k (stream u ks)) (p.clients u)
          ∙ sym (client-append d a.client u hs ks);
      seats = λ u wall.
          let xs = exchanges_of (dids d (a.client u) (stream u hs)) in
          let ys = exchanges_of (dids d (b.client u) (stream u ks)) in
          subst (λ (zs : List Exchange). SeatHalf d u (a.seat u wall) (c.seat u wall) zs)
          (sym (ap (λ (ds : List Did). on wall (exchanges_of ds)) (mine u)
          ∙ ap (on wall) (exchanges-append (dids d (a.client u) (stream u hs)) (dids d (b.client u) (stream u ks)))
          ∙ on-append wall xs ys))
          (seat-then d u (a.seat u wall) (b.seat u wall) (c.seat u wall) (on wall xs) (on wall ys) (p.seats u wall)
          (q.seats u wall));
      wires = λ session.
          let xs = over session (all_dids d a.client hs) in
          let ys = over session (all_dids d b.client ks) in
          subst (λ (zs : List Exchange). WireHalf (a.wire session) (c.wire session) zs)
          (sym (ap (λ (ds : List Did). exchanges_of (over session ds)) all
          ∙ ap exchanges_of (over-append session (all_dids d a.client hs) (all_dids d b.client ks))
          ∙ exchanges-append xs ys))
          (wire-then (a.wire session) (b.wire session) (c.wire session) (exchanges_of xs) (exchanges_of ys)
          (p.wires session) (q.wires session));
      told =
          q.told ∙ ap (λ (os : List Outcome). os ++ outcomes_of (all_dids d b.client ks)) p.told
          ∙ append_assoc a.outcomes (outcomes_of (all_dids d a.client hs)) (outcomes_of (all_dids d b.client ks))
          ∙ ap (λ (os : List Outcome). a.outcomes ++ os)
          (sym (ap outcomes_of all ∙ outcomes-append (all_dids d a.client hs) (all_dids d b.client ks)));
    }

-- what was heard in both
pub then-heards : (d : Digest) (a b c : RunView) (ps qs : List Task) (p : PhaseRun d a b ps) (q : PhaseRun d b c qs)
    → (run-then d a b c ps qs p q).heards ≡ p.heards ++ q.heards
unfolding run-then
then-heards d a b c ps qs p q = refl

-- ---- a lane

abbrev if-own : Bool → (ℕ → Sight) → (ℕ → Sight) → ℕ → Sight
if-own true mine others = mine
if-own false mine others = others

of-tasks : (user session : ℕ) (hs : List Heard) (ts : List Task) → map (λ (h : Heard). h.task) hs ≡ ts
    → AllByRecursion (IsOf user session) ts → AllByRecursion (AreOf user session) hs
of-tasks user session [] ts e all = tt
of-tasks user session (h ∷ hs) [] e all = absurd cc
of-tasks user session (h ∷ hs) (t ∷ ts) e all =
    let first : h.task ≡ t = cc in
    let rest : map (λ (x : Heard). x.task) hs ≡ ts = cc in (
      record {
        user_is = ap (λ (x : Task). x.user) first ∙ all.0.user_is;
        session_is = ap (λ (x : Task). x.place.session) first ∙ all.0.session_is;
      },
      of-tasks user session hs ts rest all.1,
    )

pub run-lane : (d : Digest) (run : RunView) (user session : ℕ) (before now : LaneView) (tasks : List Task)
    → Enters run user session before → AllByRecursion (IsOf user session) tasks → LaneRun d user before now tasks
    → PhaseRun d run (with_lane run user session now) tasks
run-lane d run user session before now tasks enters theirs lane =
    let hs = lane.heards in
    let are : AllByRecursion (AreOf user session) hs = of-tasks user session hs tasks lane.asked theirs in
    let same : dids d before.client hs ≡ dids d (run.client user) hs =
    ap (λ (k : PlainClient). dids d k hs) enters.client in
    record {
      heards = hs;
      asked = lane.asked;
      bytes = lane.bytes;
      clients = λ v. elim (cases_eq user v) [
        | inl is ↦
            ap (λ (b : Bool). cond b now.client (run.client v)) (eq-eqb user v is)
            ∙ lane.knows ∙ ap (λ (k : PlainClient). last d k hs) enters.client
            ∙ ap (last d (run.client user)) (sym (stream-own user session hs are))
            ∙ ap (λ (w : ℕ). client_of d run.client w hs) is
        | inr ne ↦
            ap (λ (b : Bool). cond b now.client (run.client v)) (ne_eqb user v ne)
            ∙ sym (ap (last d (run.client v)) (stream-other user session v hs are ne))
      ];
      seats = λ v wall. elim (cases_eq user v) [
        | inl is ↦
            let at : (if-own (nat_eq user v) now.seat (run.seat v)) wall ≡ now.seat wall =
            ap (λ (b : Bool). (if-own b now.seat (run.seat v)) wall) (eq-eqb user v is) in
            subst (λ (s : Sight). SeatHalf d v (run.seat v wall) s
            (on wall (exchanges_of (dids d (run.client v) (stream v hs))))) (sym at)
            (subst (λ (w : ℕ). SeatHalf d w (run.seat w wall) (now.seat wall)
            (on wall (exchanges_of (dids d (run.client w) (stream w hs))))) is
            (subst (λ (s : Sight). SeatHalf d user s (now.seat wall)
            (on wall (exchanges_of (dids d (run.client user) (stream user hs))))) (enters.seats wall)
            (subst (λ (zs : List Heard). SeatHalf d user (before.seat wall) (now.seat wall)
            (on wall (exchanges_of (dids d (run.client user) zs)))) (sym (stream-own user session hs are))
            (subst (λ (ds : List Did). SeatHalf d user (before.seat wall) (now.seat wall)
            (on wall (exchanges_of ds))) same (lane.seats wall)))))
        | inr ne ↦
            let at : (if-own (nat_eq user v) now.seat (run.seat v)) wall ≡ run.seat v wall =
            ap (λ (b : Bool). (if-own b now.seat (run.seat v)) wall) (ne_eqb user v ne) in
            subst (λ (s : Sight). SeatHalf d v (run.seat v wall) s
            (on wall (exchanges_of (dids d (run.client v) (stream v hs))))) (sym at)
            (subst (λ (zs : List Heard). SeatHalf d v (run.seat v wall) (run.seat v wall)
            (on wall (exchanges_of (dids d (run.client v) zs)))) (sym (stream-other user session v hs are ne))
            (seat-nothing d v (run.seat v wall)))
      ];
      wires = λ i. elim (cases_eq session i) [
        | inl is ↦
            subst (λ (w : WireView). WireHalf (run.wire i) w (exchanges_of (over i (all_dids d run.client hs))))
            (sym (ap (λ (b : Bool). cond b now.wire (run.wire i)) (eq-eqb session i is)))
            (subst (λ (j : ℕ). WireHalf (run.wire j) now.wire (exchanges_of (over j (all_dids d run.client hs)))) is
            (subst (λ (ds : List Did). WireHalf (run.wire session) now.wire (exchanges_of ds))
            (same ∙ sym (over-own d run.client user session hs are))
            (subst (λ (w : WireView). WireHalf w now.wire (exchanges_of (dids d before.client hs))) enters.wire lane.wire)))
        | inr ne ↦
            subst (λ (w : WireView). WireHalf (run.wire i) w (exchanges_of (over i (all_dids d run.client hs))))
            (sym (ap (λ (b : Bool). cond b now.wire (run.wire i)) (ne_eqb session i ne)))
            (subst (λ (ds : List Did). WireHalf (run.wire i) (run.wire i) (exchanges_of ds))
            (sym (over-other d run.client user session i hs are ne)) (wire-nothing (run.wire i)))
      ];
      told =
          ap (λ (os : List Outcome). run.outcomes ++ os)
          (lane.told ∙ ap (λ (os : List Outcome). os ++ outcomes_of (dids d before.client hs)) enters.outcomes
          ∙ ap outcomes_of (same ∙ sym (all-own d run.client user session hs are)));
    }
