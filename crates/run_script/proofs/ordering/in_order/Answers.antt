use Rattle.std.proofs.Common.{◌≡◌, ◌∙◌, ◌+◌, ◌<◌, ◌≤◌, ◌++◌, ◌∷◌, [], ℕ, zero, suc, List, ap, arith, drop, get_or, length, refl, subst, sym, take}
use Rattle.std.proofs.lemmas.List.{drop_more, take-append-drop}
use Rattle.client_core.specs.Clients.{Standing}
use Rattle.hall_server.specs.declared.seats.Seats.{Seats}
use Rattle.run_phases.specs.Members.{times}
use Rattle.run_phases.proofs.Embarking.{take-more}
use Rattle.run_phases.proofs.Launching.{once-before}
use Rattle.run_phases.proofs.Tallies.{times-append, times-here, times-more}
use Rattle.run_script.specs.Order.{InOrder}
use Rattle.run_script.proofs.Fetching.{in-order-more, in-order-nothing, still-there}
use Rattle.run_script.proofs.ordering.in_order.Goals as goal

-- at a place of a list it doesn't matter what stands for what isn't there
get-same : (xs : List ℕ) (i a b : ℕ) → i < length xs → get_or xs i a ≡ get_or xs i b
get-same [] i a b lt = absurd (omega (lt, arith))
get-same (x ∷ xs) zero a b lt = refl
get-same (x ∷ xs) (suc i) a b lt = get-same xs i a b (omega (lt, arith))

pub loop-user-init : goal.loop-user-init
loop-user-init g c =
    let d = g.D.Digester.digest_of in
    let run = c.args.run.now in
    subst (λ (cs : List Standing). InOrder d c.args.server.now [] run run cs c.new-seats.result.items)
    (sym c.new-clients.ensures.items)
    (subst (λ (ss : List (Seats g.row.D.Denot)). InOrder d c.args.server.now [] run run [] ss)
    (sym c.new-seats.ensures.items) (in-order-nothing d c.args.server.now run c.requires.members))

pub take_user-client-requires-clause-known : goal.take_user-client-requires-clause-known
take_user-client-requires-clause-known g c =
    let users = c.args.users.now in
    let i = c.loop-user.user-index in
    let user = get_or users i 0 in
    let done = take i users in
    let more = drop i users in
    let next : more ≡ user ∷ drop (i + 1) users = drop_more users i 0 c.loop-user-test.true in
    let some : 1 ≤ times user more =
    (let e : times user more ≡ times user (user ∷ drop (i + 1) users) = ap (times user) next in
    let sum = times-more user user (drop (i + 1) users) in
    let one = times-here user user refl in omega (e, sum, one, arith)) in
    still-there g.D.Digester.digest_of c.args.server.now done more user c.args.run.now c.loop-user.run
    c.loop-user.clients.items c.loop-user.seats.items c.requires.members c.loop-user.invariant
    (ap (times user) (take-append-drop i users) ∙ c.requires.counted user) some (times-append user done more)

pub loop-user-preserved : goal.loop-user-preserved
loop-user-preserved g c =
    let d = g.D.Digester.digest_of in
    let server = c.args.server.now in
    let users = c.args.users.now in
    let i = c.loop-user.user-index in
    let user = get_or users i 0 in
    let start = c.args.run.now in
    let now = c.take_user-client.new.self in
    let client = c.take_user-client.result.0 in
    let own = c.take_user-client.result.1 in
    let e = c.take_user-client.ensures in
    let more = in-order-more d server (take i users) user start c.loop-user.run now c.loop-user.clients.items
    c.loop-user.seats.items client own (once-before d server start c.requires.members) c.loop-user.invariant e.taken
    e.wires e.outcomes in
    subst (λ (us : List ℕ). InOrder d server us start now c.push.new.self.items c.push-in-loop-user.new.self.items)
    (sym (take-more users i user c.loop-user-test.true (get-same users i 0 user c.loop-user-test.true)))
    (subst (λ (cs : List Standing). InOrder d server (take i users ++ user ∷ []) start now cs
    c.push-in-loop-user.new.self.items) (sym c.in_ok-push.ensures.items)
    (subst (λ (ss : List (Seats g.row.D.Denot)). InOrder d server (take i users ++ user ∷ []) start now
    (c.loop-user.clients.items ++ client ∷ []) ss) (sym c.in_ok-push-2.ensures.items) more))
