-- Lanes: no task, and one stretch after another.
use Rattle.std.proofs.Common.{◌≡◌, ◌∙◌, ℕ, List, [], ◌∷◌, ◌++◌, refl, sym, ap, subst, append_assoc}
use Rattle.std.proofs.lemmas.List.{append-nil, map-append}
use Rattle.fr_bytes.proofs.Lists.{each-append}
use Rattle.fr_digest.specs.Digest.{Digest}
use Rattle.script_form.specs.declared.outcome.Outcome.{Outcome}
use Rattle.session_laws.specs.Doing.{Exchange, Heard, PlainClient, Task, dids, done, exchanges_of, last, on, outcomes_of}
use Rattle.session_laws.specs.Halves.{SeatHalf, WireHalf}
use Rattle.session_laws.specs.Lanes.{HeardBytes, LaneRun, LaneView, TaskRun}
use Rattle.session_laws.proofs.Stretches.{seat-nothing, seat-then, wire-nothing, wire-then}
use Rattle.session_laws.proofs.Streams.{dids-append, exchanges-append, last-append, on-append, outcomes-append}

pub lane-nothing : (d : Digest) (user : ℕ) (v : LaneView) → LaneRun d user v v []
lane-nothing d user v = record {
  heards = [];
  asked = refl;
  bytes = tt;
  told = sym (append-nil v.outcomes);
  knows = refl;
  seats = λ wall. seat-nothing d user (v.seat wall);
  wire = wire-nothing v.wire;
}

pub lane-then : (d : Digest) (user : ℕ) (a b c : LaneView) (ps qs : List Task) → LaneRun d user a b ps
    → LaneRun d user b c qs → LaneRun d user a c (ps ++ qs)
lane-then d user a b c ps qs p q =
    let xs = dids d a.client p.heards in
    let ys = dids d b.client q.heards in
    let both : dids d a.client (p.heards ++ q.heards) ≡ xs ++ ys =
    dids-append d a.client p.heards q.heards
    ∙ ap (λ (k : PlainClient). xs ++ dids d k q.heards) (sym p.knows) in
    let exchanged : exchanges_of (dids d a.client (p.heards ++ q.heards)) ≡ exchanges_of xs ++ exchanges_of ys =
    ap exchanges_of both ∙ exchanges-append xs ys in
    record {
      heards = p.heards ++ q.heards;
      asked = map-append (λ (h : Heard). h.task) p.heards q.heards ∙ (λ i. p.asked i ++ q.asked i);
      bytes = each-append HeardBytes p.heards q.heards p.bytes q.bytes;
      told =
          q.told ∙ ap (λ (os : List Outcome). os ++ outcomes_of ys) p.told
          ∙ append_assoc a.outcomes (outcomes_of xs) (outcomes_of ys)
          ∙ ap (λ (os : List Outcome). a.outcomes ++ os) (sym (ap outcomes_of both ∙ outcomes-append xs ys));
      knows =
          q.knows ∙ ap (λ (k : PlainClient). last d k q.heards) p.knows
          ∙ sym (last-append d a.client p.heards q.heards);
      seats = λ wall.
          subst (λ (zs : List Exchange). SeatHalf d user (a.seat wall) (c.seat wall) zs)
          (sym (ap (on wall) exchanged ∙ on-append wall (exchanges_of xs) (exchanges_of ys)))
          (seat-then d user (a.seat wall) (b.seat wall) (c.seat wall) (on wall (exchanges_of xs))
          (on wall (exchanges_of ys)) (p.seats wall) (q.seats wall));
      wire =
          subst (λ (zs : List Exchange). WireHalf a.wire c.wire zs) (sym exchanged)
          (wire-then a.wire b.wire c.wire (exchanges_of xs) (exchanges_of ys) p.wire q.wire);
    }

pub lane-one : (d : Digest) (user : ℕ) (before now : LaneView) (task : Task) → TaskRun d user before now task
    → LaneRun d user before now (task ∷ [])
lane-one d user before now task t =
    let xs = (done d before.client t.heard).exchanges in
    let alone : xs ++ [] ≡ xs = append-nil xs in
    record {
      heards = t.heard ∷ [];
      asked = ap (λ (p : Task). p ∷ []) t.asked;
      bytes = (t.bytes, tt);
      told = t.told;
      knows = t.knows;
      seats = λ wall.
          subst (λ (zs : List Exchange). SeatHalf d user (before.seat wall) (now.seat wall) (on wall zs)) (sym alone)
          (t.seats wall);
      wire = subst (λ (zs : List Exchange). WireHalf before.wire now.wire zs) (sym alone) t.wire;
    }
