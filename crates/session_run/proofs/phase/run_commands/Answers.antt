use Rattle.std.proofs.Common.{◌≡◌, ◌∙◌, ◌+◌, ◌<◌, ◌∷◌, ◌++◌, [], ℕ, List, length, take, drop, get_or, refl, ap, sym, subst, arith}
use Rattle.std.proofs.lemmas.List.{drop_more}
use Rattle.hall_server.specs.Sights.{user_of}
use Rattle.script_read.specs.declared.script.Command.{Command}
use Rattle.script_form.specs.declared.outcome.Outcome.{Outcome}
use Rattle.session_laws.specs.declared.place.Place.{Place}
use Rattle.session_laws.specs.Doing.{Task, tasks_of}
use Rattle.session_laws.specs.Lanes.{Halfway, LaneRun, LaneView, ShortLane, TaskRun}
use Rattle.session_laws.specs.Readiness.{CanDo}
use Rattle.session_laws.proofs.LaneLaws.{lane-nothing}
use Rattle.session_run.specs.Views.{client_of, told}
use Rattle.session_run.proofs.Lists.{err-so}
use Rattle.session_run.proofs.Stepping.{can-after, can-one, lane-more, left-there, length-tasks, tasks-all, tasks-more}
use Rattle.session_run.proofs.phase.run_commands.Goals as goal

next : (todo : List Command) (i : ℕ) (x : Command) → i < length todo → x ≡ get_or todo i x
    → drop i todo ≡ x ∷ drop (i + 1) todo
next todo i x lt is = drop_more todo i x lt ∙ ap (λ (y : Command). y ∷ drop (i + 1) todo) (sym is)

below : (xs todo : List Command) (i : ℕ) → xs ≡ todo → i < length xs → i < length todo
below xs todo i same lt = subst (λ (l : List Command). i < length l) same lt

there : (xs todo : List Command) (i : ℕ) (x : Command) → xs ≡ todo → x ≡ get_or xs i x → x ≡ get_or todo i x
there xs todo i x same is = subst (λ (l : List Command). x ≡ get_or l i x) same is

pub loop-command-init : goal.loop-command-init
loop-command-init g c =
    let d = g.D.Digester.digest_of in
    let s = c.args.session.now in
    let w = g.W.Wire.view c.args.wire.now in
    let u = user_of s.seats in
    let start = told s.client s.seats w [] in (
      subst (λ (os : List Outcome). LaneRun d u start (told s.client s.seats w os) []) (sym c.requires.none)
          (lane-nothing d u start),
      c.requires.can,
      c.requires.seats,
      refl,
      refl,
    )

pub returns-in_err-try_reserve-clause-some : goal.returns-in_err-try_reserve-clause-some
returns-in_err-try_reserve-clause-some g c =
    let d = g.D.Digester.digest_of in
    let s = c.args.session.now in
    let u = user_of s.seats in
    let tasks = tasks_of c.args.phase c.args.number u s.commands in
    let start = told s.client s.seats (g.W.Wire.view c.args.wire.now) [] in
    let l = c.loop-command in
    let mid = told l.client l.seats (g.W.Wire.view l.wire) l.outcomes.items in
    let now = told l.client l.seats (g.W.Wire.view l.wire) c.try_reserve.new.self.items in
    err-so (ShortLane d u start now tasks) c.from_residual.result (record {
      count = l.command-index;
      some = subst (λ (n : ℕ). l.command-index < n) (sym (length-tasks c.args.phase c.args.number u s.commands))
          (below c.as_slice-command-items.result.now s.commands l.command-index c.as_slice-command-items.ensures
          c.loop-command-test.true);
      mid = mid;
      ran = l.invariant.0;
      left = left-there mid now refl refl refl c.try_reserve.ensures.items;
    })

pub run_command-requires-clause-can : goal.run_command-requires-clause-can
run_command-requires-clause-can g c =
    let l = c.loop-command in
    let todo = c.args.session.now.commands in
    let i = l.command-index in
    let x = c.command-item.result in
    let same = c.as_slice-command-items.ensures in
    let lt = below c.as_slice-command-items.result.now todo i same c.loop-command-test.true in
    let is = there c.as_slice-command-items.result.now todo i x same c.command-item.is in
    can-one (client_of l.client) x (drop (i + 1) todo) (subst (CanDo (client_of l.client)) (next todo i x lt is)
    l.invariant.1)

pub returns-in_err-outcome-clause-some : goal.returns-in_err-outcome-clause-some
returns-in_err-outcome-clause-some g c =
    let d = g.D.Digester.digest_of in
    let s = c.args.session.now in
    let u = user_of s.seats in
    let tasks = tasks_of c.args.phase c.args.number u s.commands in
    let start = told s.client s.seats (g.W.Wire.view c.args.wire.now) [] in
    let l = c.loop-command in
    let n = c.run_command.new in
    let mid = told l.client l.seats (g.W.Wire.view l.wire) l.outcomes.items in
    let now : List Outcome → LaneView = λ os. told n.client n.seats (g.W.Wire.view n.wire) os in
    err-so (ShortLane d u start (now c.try_reserve.new.self.items) tasks) c.from_residual-in_err-outcome.result (record {
      count = l.command-index;
      some = subst (λ (k : ℕ). l.command-index < k) (sym (length-tasks c.args.phase c.args.number u s.commands))
          (below c.as_slice-command-items.result.now s.commands l.command-index c.as_slice-command-items.ensures
          c.loop-command-test.true);
      mid = mid;
      ran = l.invariant.0;
      left = subst (λ (os : List Outcome). Halfway mid (now os)) (sym c.try_reserve.ensures.items)
          (c.in_err-outcome.ensures.halfway l.outcomes.items);
    })

pub loop-command-preserved : goal.loop-command-preserved
loop-command-preserved g c =
    let d = g.D.Digester.digest_of in
    let s = c.args.session.now in
    let u = user_of s.seats in
    let tasks = tasks_of c.args.phase c.args.number u s.commands in
    let start = told s.client s.seats (g.W.Wire.view c.args.wire.now) [] in
    let l = c.loop-command in
    let n = c.run_command.new in
    let i = l.command-index in
    let x = c.command-item.result in
    let o = c.in_ok-outcome.outcome in
    let mid = told l.client l.seats (g.W.Wire.view l.wire) l.outcomes.items in
    let now : List Outcome → LaneView = λ os. told n.client n.seats (g.W.Wire.view n.wire) os in
    let task : ℕ → Task = λ v. record { place = l.place; user = v; command = x } in
    let same = c.as_slice-command-items.ensures in
    let lt = below c.as_slice-command-items.result.now s.commands i same c.loop-command-test.true in
    let is = there c.as_slice-command-items.result.now s.commands i x same c.command-item.is in
    let one : TaskRun d u mid (now (l.outcomes.items ++ o ∷ [])) (task u) =
    subst (λ (v : ℕ). TaskRun d v mid (now (l.outcomes.items ++ o ∷ [])) (task v)) l.invariant.3
    (c.in_ok-outcome.ensures.ran l.outcomes.items) in
    let items = c.push_reserved.ensures.items ∙ ap (λ (os : List Outcome). os ++ o ∷ []) c.try_reserve.ensures.items in (
      subst (λ (os : List Outcome). LaneRun d u start (now os) (take (i + 1) tasks)) (sym items)
          (lane-more d u start mid (now (l.outcomes.items ++ o ∷ [])) (take i tasks) (task u) (take (i + 1) tasks)
          l.invariant.0 one
          (tasks-more c.args.phase c.args.number u i s.commands x l.place lt is l.invariant.4)),
      can-after d u mid (now (l.outcomes.items ++ o ∷ [])) (task u) (drop (i + 1) s.commands) one
          (subst (CanDo (client_of l.client)) (next s.commands i x lt is) l.invariant.1),
      c.run_command.ensures.seats,
      c.run_command.ensures.user ∙ l.invariant.3,
      ap (λ (p : Place). record p { command = p.command + 1 }) l.invariant.4,
    )

pub returns-clause-all : goal.returns-clause-all
returns-clause-all g c =
    let d = g.D.Digester.digest_of in
    let s = c.args.session.now in
    let u = user_of s.seats in
    let tasks = tasks_of c.args.phase c.args.number u s.commands in
    let start = told s.client s.seats (g.W.Wire.view c.args.wire.now) [] in
    let l = c.loop-command in
    let now = told l.client l.seats (g.W.Wire.view l.wire) l.outcomes.items in
    let far = c.loop-command-test.false in
    let within = c.loop-command.auto.command-index-end in
    let all : l.command-index ≡ length c.as_slice-command-items.result.now = omega (arith, far, within) in
    subst (LaneRun d u start now) (
    ap (λ (k : ℕ). take k tasks) all
    ∙ ap (λ (xs : List Command). take (length xs) tasks) c.as_slice-command-items.ensures
    ∙ tasks-all c.args.phase c.args.number u s.commands)
    l.invariant.0
