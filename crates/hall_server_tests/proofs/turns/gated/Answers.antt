use Rattle.std.proofs.Common.{rules, ◌≡◌, ◌∙◌, [], ◌∷◌, Some}
use Rattle.std.proofs.lemmas.List.Elements.{All-pop}
use Rattle.hall_gate.specs.Seats.{caller_of, front_of, IsSeatOf}
use Rattle.hall_server_tests.proofs.Pairs.{numbers}
use Rattle.hall_server_tests.proofs.turns.gated.Goals as goal

pub returns-clause-first : goal.returns-clause-first
returns-clause-first g c =
    let all = c.in-Ok.seats.items in
    let mid = c.pop.new.self.items in
    let rest = c.pop-2.new.self.items in
    let second = c.in-Some.second in
    let first = c.in-Some-pop.first in
    let callers_are : c.as_slice.result.now ≡ 1 ∷ 2 ∷ [] = search rules in
    let seats = All-pop (IsSeatOf c.in-Ok.gate) all mid (Some second) c.in-Some.ensures.items c.in-Ok.ensures.seats in
    let fronts = All-pop (λ s. front_of s ≡ []) all mid (Some second) c.in-Some.ensures.items c.in-Ok.ensures.fronts in
    let seat = (All-pop (IsSeatOf c.in-Ok.gate) mid rest (Some first) c.in-Some-pop.ensures.items seats.0).1 in
    let front = (All-pop (λ s. front_of s ≡ []) mid rest (Some first) c.in-Some-pop.ensures.items fronts.0).1 in
    let told = numbers caller_of first second all mid rest c.in-Some.ensures.items c.in-Some-pop.ensures.items (c.in-Ok.ensures.callers.1 ∙ callers_are) in
    (seat, told.0, front)

pub returns-clause-second : goal.returns-clause-second
returns-clause-second g c =
    let all = c.in-Ok.seats.items in
    let mid = c.pop.new.self.items in
    let rest = c.pop-2.new.self.items in
    let second = c.in-Some.second in
    let first = c.in-Some-pop.first in
    let callers_are : c.as_slice.result.now ≡ 1 ∷ 2 ∷ [] = search rules in
    let seats = All-pop (IsSeatOf c.in-Ok.gate) all mid (Some second) c.in-Some.ensures.items c.in-Ok.ensures.seats in
    let fronts = All-pop (λ s. front_of s ≡ []) all mid (Some second) c.in-Some.ensures.items c.in-Ok.ensures.fronts in
    let told = numbers caller_of first second all mid rest c.in-Some.ensures.items c.in-Some-pop.ensures.items (c.in-Ok.ensures.callers.1 ∙ callers_are) in
    (seats.1, told.1, fronts.1)
