-- A lane and one command more.
use Rattle.std.proofs.Common.{◌≡◌, ◌∙◌, ℕ, zero, suc, ◌+◌, ◌<◌, ◌≤◌, List, [], ◌∷◌, ◌++◌, length, take, get_or, refl, ap, sym, subst, arith, add-one}
use Rattle.fr_bytes.specs.History.{Begins}
use Rattle.fr_bytes.proofs.HistoryLaws.{begins_itself}
use Rattle.fr_digest.specs.Digest.{Digest}
use Rattle.fr_edges.specs.declared.wire.Carried.{Carried}
use Rattle.fr_edges.specs.Sink.{with_more}
use Rattle.fr_edges.specs.Wire.{WireView}
use Rattle.hall_server.specs.Sights.{Sight}
use Rattle.session_run.proofs.Growing.{wire-grows-itself}
use Rattle.script_read.specs.declared.script.Command.{Command}
use Rattle.session_laws.specs.declared.place.Place.{Place}
use Rattle.session_laws.specs.Doing.{PlainClient, Task, done, tasks_from, tasks_of}
use Rattle.session_laws.specs.Lanes.{Halfway, LaneRun, LaneView, TaskRun}
use Rattle.session_laws.specs.Readiness.{CanDo}
use Rattle.session_laws.proofs.LaneLaws.{lane-one, lane-then}
use Rattle.session_laws.proofs.Ready.{ready-after}

-- ---- tasks

tasks-step : (phase session user n i : ℕ) (todo : List Command) (x : Command) → i < length todo → x ≡ get_or todo i x
    → take (suc i) (tasks_from phase session user n todo)
    ≡ take i (tasks_from phase session user n todo) ++ (record {
      place = record { phase = phase; session = session; command = n + i };
      user = user;
      command = x;
    }) ∷ []
tasks-step phase session user n i [] x lt is = absurd (omega arith)
tasks-step phase session user n zero (y ∷ todo) x lt is =
    let at : n ≡ n + 0 = omega arith in
    ap (λ (c : Command). (record {
      place = record { phase = phase; session = session; command = n };
      user = user;
      command = c;
    }) ∷ []) (sym is)
    ∙ ap (λ (k : ℕ). (record {
      place = record { phase = phase; session = session; command = k };
      user = user;
      command = x;
    }) ∷ []) at
tasks-step phase session user n (suc i) (y ∷ todo) x lt is =
    let at : n + 1 + i ≡ n + suc i = omega arith in
    ap (λ (ts : List Task). (record {
      place = record { phase = phase; session = session; command = n };
      user = user;
      command = y;
    }) ∷ ts)
    (tasks-step phase session user (n + 1) i todo x (omega arith) is
    ∙ ap (λ (k : ℕ). take i (tasks_from phase session user (n + 1) todo) ++ (record {
      place = record { phase = phase; session = session; command = k };
      user = user;
      command = x;
    }) ∷ []) at)

pub tasks-more : (phase session user i : ℕ) (todo : List Command) (x : Command) (place : Place) → i < length todo
    → x ≡ get_or todo i x → place ≡ record { phase = phase; session = session; command = i + 1 }
    → take (i + 1) (tasks_of phase session user todo)
    ≡ take i (tasks_of phase session user todo) ++ (record { place = place; user = user; command = x }) ∷ []
tasks-more phase session user i todo x place lt is at =
    let order : 1 + i ≡ i + 1 = omega arith in
    ap (λ (k : ℕ). take k (tasks_of phase session user todo)) (add-one i)
    ∙ tasks-step phase session user 1 i todo x lt is
    ∙ ap (λ (k : ℕ). take i (tasks_of phase session user todo) ++ (record {
      place = record { phase = phase; session = session; command = k };
      user = user;
      command = x;
    }) ∷ []) order
    ∙ ap (λ (p : Place). take i (tasks_of phase session user todo) ++ (record { place = p; user = user; command = x }) ∷ [])
    (sym at)

length-from : (phase session user n : ℕ) (todo : List Command)
    → length (tasks_from phase session user n todo) ≡ length todo
length-from phase session user n [] = refl
length-from phase session user n (x ∷ todo) = ap suc (length-from phase session user (n + 1) todo)

pub length-tasks : (phase session user : ℕ) (todo : List Command)
    → length (tasks_of phase session user todo) ≡ length todo
length-tasks phase session user todo = length-from phase session user 1 todo

take-all : {A : Type 0} (xs : List A) → take (length xs) xs ≡ xs
take-all [] = refl
take-all {A = A} (x ∷ xs) = ap (λ (l : List A). x ∷ l) (take-all xs)

pub tasks-all : (phase session user : ℕ) (todo : List Command)
    → take (length todo) (tasks_of phase session user todo) ≡ tasks_of phase session user todo
tasks-all phase session user todo =
    ap (λ (k : ℕ). take k (tasks_of phase session user todo)) (sym (length-tasks phase session user todo))
    ∙ take-all (tasks_of phase session user todo)

-- ---- what is left to do

pub can-one : (c : PlainClient) (x : Command) (todo : List Command) → CanDo c (x ∷ todo) → CanDo c (x ∷ [])
can-one c x todo can = record {
  walls = (can.walls.0, tt);
  leaves = let h = can.leaves in omega arith;
  numbers = λ wall s e. let h = can.numbers wall s e in omega arith;
}

pub can-after : (d : Digest) (user : ℕ) (before now : LaneView) (task : Task) (todo : List Command)
    → TaskRun d user before now task → CanDo before.client (task.command ∷ todo) → CanDo now.client todo
can-after d user before now task todo t can =
    subst (λ (k : PlainClient). CanDo k todo) (sym t.knows)
    (ready-after d before.client t.heard todo
    (subst (λ (x : Command). CanDo before.client (x ∷ todo)) (sym (ap (λ (q : Task). q.command) t.asked)) can))

-- ---- one command more

pub lane-more : (d : Digest) (user : ℕ) (a b c : LaneView) (done : List Task) (task : Task) (now : List Task)
    → LaneRun d user a b done → TaskRun d user b c task → now ≡ done ++ task ∷ [] → LaneRun d user a c now
lane-more d user a b c done task now ran one is =
    subst (LaneRun d user a c) (sym is) (lane-then d user a b c done (task ∷ []) ran (lane-one d user b c task one))

-- ---- want of memory

-- what a lane leaves that did nothing
pub left-there : (mid now : LaneView) → now.client ≡ mid.client → now.seat ≡ mid.seat → now.wire ≡ mid.wire
    → now.outcomes ≡ mid.outcomes → Halfway mid now
left-there mid now client seat wire outcomes =
    let grows = wire-grows-itself mid.wire in
    record {
      outcomes = outcomes;
      facts = λ wall. ap (λ (f : ℕ → Sight). (f wall).facts) seat;
      fronts = λ wall.
          subst (λ (f : ℕ → Sight). Begins (mid.seat wall).front (f wall).front) (sym seat)
          (begins_itself (mid.seat wall).front);
      carried = subst (λ (w : WireView). (more : List Carried) × (w.carried ≡ with_more mid.wire.carried more)) (sym wire)
          grows.carried;
      straight = ap (λ (w : WireView). w.straight) wire;
      faults = subst (λ (w : WireView). mid.wire.faults ≤ w.faults) (sym wire) grows.faults;
      took = subst (λ (k : PlainClient). Begins mid.client.took k.took) (sym client) (begins_itself mid.client.took);
      signed = subst (λ (k : PlainClient). Begins mid.client.signed k.signed) (sym client)
          (begins_itself mid.client.signed);
    }
