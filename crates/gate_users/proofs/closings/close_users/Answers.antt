use Rattle.std.proofs.Common.{◌≡◌, [], Some, ◌∙◌, rules}
use Rattle.std.proofs.lemmas.List.{nil_from_length}
use Rattle.std.proofs.lemmas.List.Elements.{All-nil, All-pop, All-weaker}
use Rattle.gate_users.specs.Users.{HasPlacesFor}
use Rattle.gate_users.proofs.Endings.{have_seats, left_seats, last_seats, have_ended_none, ended_none}
use Rattle.gate_users.proofs.Endings.{have_ended_more, ended_more, ended_all, valid_more}
use Rattle.gate_users.proofs.closings.close_users.Goals as goal

pub loop-gate-init : goal.loop-gate-init
loop-gate-init g c = let t = g.T.Turned in let empty = c.in_ok-values.ensures.items in record {
  room = search rules;
  seats = c.requires.seats;
  all = c.requires.all;
  valid = rw empty (All-nil t.valid);
  gates = rw empty (have_ended_none t.fixed t.entries t.caller c.args.gates.items);
  users = rw empty (ended_none t.fixed t.entries t.caller c.args.users.items);
}

pub last_seats-requires : goal.last_seats-requires
last_seats-requires g c = have_seats c.loop-gate.gates.items c.pop.new.self.items c.in-Some.gate c.loop-gate.users.items
    c.in-Some.ensures.items c.loop-gate.invariant.seats

pub close-requires-clause-seats : goal.close-requires-clause-seats
close-requires-clause-seats g c = let l = c.loop-gate in
    last_seats l.gates.items c.pop.new.self.items c.in-Some.gate l.users.items c.last_seats.new.users.items
    c.in_ok-seats.seats.items c.in-Some.ensures.items l.invariant.seats c.in_ok-seats.ensures

pub close-requires-clause-all : goal.close-requires-clause-all
close-requires-clause-all g c = let l = c.loop-gate in c.in_ok-seats.ensures.many
    ∙ (All-pop (HasPlacesFor l.users.items) _ _ (Some c.in-Some.gate) c.in-Some.ensures.items l.invariant.all).1

pub loop-gate-preserved : goal.loop-gate-preserved
loop-gate-preserved g c = let t = g.T.Turned in let l = c.loop-gate in let takes = c.in_ok-seats.ensures in
    let pushed = c.push_reserved.ensures.items in let popped = c.in-Some.ensures.items in
    let users = c.last_seats.new.users.items in record {
      room = search rules;
      seats = left_seats l.gates.items c.pop.new.self.items c.in-Some.gate l.users.items users
          c.in_ok-seats.seats.items popped l.invariant.seats takes;
      all = All-weaker (HasPlacesFor l.users.items) (HasPlacesFor users) (λ gate many. takes.users ∙ many)
          c.pop.new.self.items
          (All-pop (HasPlacesFor l.users.items) _ _ (Some c.in-Some.gate) popped l.invariant.all).0;
      valid = rw pushed (valid_more t.valid l.values.items c.close.result l.invariant.valid c.close.ensures.valid);
      gates = rw pushed (have_ended_more t.fixed t.entries t.caller l.values.items c.close.result
          c.args.gates.items l.gates.items c.pop.new.self.items c.in-Some.gate
          l.invariant.gates popped c.close.ensures.callers);
      users = rw pushed (ended_more t.fixed t.entries t.caller l.values.items c.close.result
          c.args.users.items l.users.items users c.in_ok-seats.seats.items l.invariant.users takes c.close.ensures.fixed
          c.close.ensures.fronts c.close.ensures.own);
    }

pub returns-clause-closed : goal.returns-clause-closed
returns-clause-closed g c = let t = g.T.Turned in let l = c.loop-gate in
    let none : l.gates.items ≡ [] = nil_from_length l.gates.items (search rules) in rw c.reverse.ensures.items
    (ended_all t.fixed t.entries t.caller l.values.items c.args.users.items l.users.items l.invariant.users
    (rw none at l.invariant.seats))
