use Rattle.std.proofs.Common.{◌≡◌, [], Some, rules}
use Rattle.std.proofs.lemmas.List.{nil_from_length}
use Rattle.std.proofs.lemmas.List.Elements.{All-pop}
use Rattle.hall_core.specs.Standing as standing
use Rattle.hall_server.proofs.Dealing.{are_all, opened_all, opened_more, opened_none}
use Rattle.hall_server.proofs.server.Server.make.Goals as goal

pub loop-hall-init : goal.loop-hall-init
loop-hall-init g c =
    opened_none g.D.Digester.digest_of c.args.users.now c.args.halls.items c.reverse.new.self.items _ c.in_ok-all.all.items
    c.new.ensures.items c.new-2.ensures.items c.in_ok-all.ensures.users c.in_ok-all.ensures.none c.reverse.ensures.items
    c.requires.fresh

pub open-requires-clause-fresh : goal.open-requires-clause-fresh
open-requires-clause-fresh g c =
    (All-pop (λ (hall : standing.Hall). hall.entries ≡ []) _ _ (Some c.in-Some.hall) c.in-Some.ensures.items
    c.loop-hall.invariant.fresh).1

pub loop-hall-preserved : goal.loop-hall-preserved
loop-hall-preserved g c =
    opened_more g.D.Digester.digest_of c.args.users.now c.args.halls.items c.loop-hall.halls.items c.pop.new.self.items
    c.in-Some.hall c.loop-hall.server c.open.new.self c.loop-hall.all.items c.in_ok-all-2.all.items c.loop-hall.invariant
    c.in-Some.ensures.items c.in_ok-all-2.ensures
    (All-pop (λ (hall : standing.Hall). hall.entries ≡ []) _ _ (Some c.in-Some.hall) c.in-Some.ensures.items
    c.loop-hall.invariant.fresh).0

pub returns-clause-all : goal.returns-clause-all
returns-clause-all g c =
    let d = g.D.Digester.digest_of in
    let l = c.loop-hall in
    let none : l.halls.items ≡ [] = nil_from_length l.halls.items (search rules) in
    are_all d c.args.users.now c.args.halls.items l.server l.all.items
    (opened_all d c.args.users.now c.args.halls.items l.server l.all.items (rw none at l.invariant))
